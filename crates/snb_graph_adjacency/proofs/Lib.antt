pub mod Laws
pub mod LinkLemmas
pub mod LinkDeltaLemmas
mod TellLemmas
pub mod WholeLemmas
