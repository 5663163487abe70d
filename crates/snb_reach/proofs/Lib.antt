pub mod Laws
mod FewLemmas
mod LevelLemmas
mod LeveledLemmas
mod LookLemmas
mod SideLemmas
mod WalkLemmas
