pub mod DecidedFacts
pub mod JoinFacts
pub mod Laws
pub mod Queries
pub mod ReadingFacts
pub mod Readings
pub mod TypedRows
pub mod WideFacts
mod ReaderFacts
pub mod SeenFacts
