-- What other crates may cite of this one: that a case that is spelled has a line where it inserts.
pub use Rattle.snb_validation_check.proofs.Telling.{has_text}
