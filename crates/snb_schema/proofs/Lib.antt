pub mod Laws
pub mod FrequencyFacts
pub mod PlaceFacts
pub mod Walks
mod Appended
pub mod KindFacts
pub mod LayoutFacts
pub mod Apart
