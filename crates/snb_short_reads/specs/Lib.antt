pub mod Found
pub mod Roots
