mod ReplyFacts
mod TextFacts
mod WrittenFacts
pub mod Laws
