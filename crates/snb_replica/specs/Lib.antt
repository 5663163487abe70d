pub mod Counts
pub mod Replicas
pub mod ReplyTexts
pub mod Runs
