pub mod InputLemmas
pub mod Laws
pub mod Told
pub mod Writing
