pub mod Jobs
pub mod Namesakes
pub mod Scan
pub mod Stays
