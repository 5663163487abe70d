pub mod FileLaws
pub mod Laws
pub mod Make
pub mod Rows
