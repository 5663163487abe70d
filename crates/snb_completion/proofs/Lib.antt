pub mod Waits
pub mod Keeping
