-- What other crates may cite of this one: a fact on files of cases.
pub use Rattle.snb_tool_dataset.proofs.DatasetLemmas.{not_bad}
