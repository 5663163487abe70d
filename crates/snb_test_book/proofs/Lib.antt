pub mod EventFacts
