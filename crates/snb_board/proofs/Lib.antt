pub mod Events
pub mod Parts
pub mod Keeps
pub mod Turns
pub mod Joins
pub mod Calls
pub mod Closing
pub mod Laws
