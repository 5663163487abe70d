pub mod Distances
pub mod Few
pub mod Levels
pub mod Sides
