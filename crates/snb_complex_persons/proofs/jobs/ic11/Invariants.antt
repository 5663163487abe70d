use Rattle.std.proofs.Common.{ℕ, nat_eq, take}
use Rattle.std.specs.HashMap.{get}
use Rattle.std.specs.List.{flat_map}
use Rattle.snb_complex_persons.specs.Jobs.{AreJobs, AreSeen, jobs_by}
use Rattle.snb_complex_persons.proofs.jobs.ic11.Given as goal

abbrev pub invariant-loop-one : goal.invariant-loop-one
invariant-loop-one l = record {
  seen : AreSeen l.graph l.country (get nat_eq l.seen);
  are : AreJobs l.graph (flat_map (λ (p : ℕ × ℕ). jobs_by l.graph l.country l.year p.0) (take l.one-index l.one-items)) l.found.items;
}
