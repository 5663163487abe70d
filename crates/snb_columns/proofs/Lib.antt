pub mod Laws
mod CutFacts
mod ListFacts
mod NumberFacts
mod PairFacts
mod SpellingFacts
mod LineFacts
