pub mod ReplyLemmas
pub mod RootLemmas
pub mod RowLemmas
