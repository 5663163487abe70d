mod Answering
mod CasesFacts
mod Inserting
mod LawFacts
pub mod Laws
mod Refusing
mod Telling
