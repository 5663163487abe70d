-- What other crates may cite of this one: walks.
pub use Rattle.snb_reach.proofs.WalkLemmas.{friend_turned, last_step, one_distance}
