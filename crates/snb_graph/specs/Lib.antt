pub mod Additions
pub mod Walks
