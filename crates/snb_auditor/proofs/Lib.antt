pub mod Laws
pub mod Judged
pub mod Telling
pub mod Histories
pub mod Told
pub mod OneVerdict
pub mod SomeVerdict
