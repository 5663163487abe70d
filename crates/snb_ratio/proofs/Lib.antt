pub mod ChanceFacts
pub mod RatioFacts
