-- Laws of replies.
pub use Rattle.snb_answered.proofs.Gathered.{added_there, all_from, contained_any, of_all, still_there}
