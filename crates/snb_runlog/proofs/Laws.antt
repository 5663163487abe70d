-- What other crates may cite of this one: numbers of a line, each within its column.
pub use Rattle.snb_runlog.proofs.LineFacts.{numbers_within}
