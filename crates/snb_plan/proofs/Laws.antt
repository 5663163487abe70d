-- What other crates may cite of this one: facts about closed updates and plans.
pub use Rattle.snb_plan.proofs.Timely.{closed_plan_is_timely, step_here}
pub use Rattle.snb_plan.proofs.OneRefusal.{closed_is_one}
