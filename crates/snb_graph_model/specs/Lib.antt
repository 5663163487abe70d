pub mod RowParts
pub mod Around
pub mod FinalText
pub mod Graphs
pub mod Laws
pub mod Messages
pub mod Soundness
pub mod Worked
