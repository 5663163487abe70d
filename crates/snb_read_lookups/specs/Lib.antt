pub mod Found
pub mod Lookups
