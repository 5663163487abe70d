-- What other crates may cite of this one: facts on what is read of a folder, and on what a shelf tells.
pub use Rattle.snb_tool_outcome.proofs.InputLemmas.{AreOne, lane_tail, last_checks, nothing_used, param_tail, passed, planned_one, wrong_of}
pub use Rattle.snb_tool_outcome.proofs.Told.{any_told, beside_told, held_told}
