pub mod Entries
pub mod Left
pub mod Parts
pub mod Twins
pub mod Words
