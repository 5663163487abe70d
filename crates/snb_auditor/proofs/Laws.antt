-- What other crates may cite of this one: facts about verdicts.
pub use Rattle.snb_auditor.proofs.OneVerdict.{accepted_exactly, verdict_is_one}
pub use Rattle.snb_auditor.proofs.SomeVerdict.{verdict_exists}
