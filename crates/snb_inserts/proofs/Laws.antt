-- What other crates may cite of this one: the first reference of an insert that is missing.
pub use Rattle.snb_inserts.proofs.MissingLemmas.{none_first, one_first}
