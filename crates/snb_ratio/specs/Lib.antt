pub mod Chances
pub mod Ratios
