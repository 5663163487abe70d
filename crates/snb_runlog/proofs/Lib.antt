mod NumberFacts
mod LineFacts
mod EventFacts
mod HeaderFacts
mod OwnFacts
mod LogLemmas
mod BackFacts
mod WriteFacts
mod ReaderFacts
pub mod Laws
