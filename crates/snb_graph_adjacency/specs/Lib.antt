pub mod Concerns
pub mod Kept
pub mod Links
pub mod LinkDelta
pub mod Whole
