-- What other crates may cite of this one: facts about schedules, histories, completion times and plans.
pub use Rattle.snb_history.proofs.Stays.{hand_started}
pub use Rattle.snb_history.proofs.Times.{completion_decides, completion_rises, completion_waits, decides_where, le-least_of, least_of-le, least_of-reached, least_of-same, least_of-top, time_left-same}
pub use Rattle.snb_history.proofs.Deciding.{number-same, obeys, rule_of, rule_of-number}
pub use Rattle.snb_history.proofs.Planned.{planned_is_placed, planned_is_timely, t_rises, t_rises_along}
pub use Rattle.snb_history.proofs.Histories.{Fits-halt, Fits-last, IsLegal-front, IsLegal-nil, IsLegal-push}
pub use Rattle.snb_history.proofs.Pushes.{find-reverse_push}
pub use Rattle.snb_history.proofs.Held.{finished-push, hand-push, keeps_legal, started-push}
pub use Rattle.snb_history.proofs.Short.{halted-push, last-push, last_is_bounded, legal_is_short}
pub use Rattle.snb_history.proofs.Once.{hand_has_start}
pub use Rattle.snb_history.proofs.InTurn.{forum_goes_in_turn}
pub use Rattle.snb_history.proofs.Holding.{holder_holds}
pub use Rattle.snb_history.proofs.Unstuck.{never_stuck}
pub use Rattle.snb_history.proofs.Tied.{planned_tie}
