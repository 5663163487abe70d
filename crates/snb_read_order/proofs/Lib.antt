pub mod Laws
pub mod OneFacts
pub mod SomeFacts
pub mod TopKFacts
