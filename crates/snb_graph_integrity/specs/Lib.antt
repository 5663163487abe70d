pub mod Chains
pub mod Counts
pub mod Edges
pub mod Laws
pub mod Marks
pub mod Outcomes
pub mod Rising
pub mod SoundLaws
