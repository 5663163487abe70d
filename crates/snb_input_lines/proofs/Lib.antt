pub mod BarFacts
pub mod CaseFacts
pub mod CutFacts
pub mod FieldFacts
pub mod Laws
pub mod ListFacts
pub mod RunFacts
