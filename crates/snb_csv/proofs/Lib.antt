pub mod FileFacts
pub mod MadeFacts
pub mod OneFacts
pub mod RowFacts
mod RowsByValues
pub mod RowLineFacts
pub mod SomeFacts
