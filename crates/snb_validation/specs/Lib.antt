pub mod ReplyData
pub mod Laws
pub mod Written
