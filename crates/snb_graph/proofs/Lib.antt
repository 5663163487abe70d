mod GraphLemmas
mod WalkLemmas
