use Rattle.std.proofs.Common.{◌++◌, ℕ, List, nat_eq}
use Rattle.std.specs.HashMap.{get}
use Rattle.std.specs.List.{All}
use Rattle.snb_graph_links.specs.Pairs.{rest}
use Rattle.snb_complex_persons.proofs.JobLemmas.{IsAddingJobs}
use Rattle.snb_complex_persons.specs.Stays.{IsStayFound}
use Rattle.snb_complex_persons.specs.Jobs.{AreJobs, AreSeen, jobs_by}
use Rattle.snb_complex_persons.proofs.jobs.add_jobs.Given as goal

abbrev pub invariant-loop-organisation : goal.invariant-loop-organisation
invariant-loop-organisation l = record {
  left : All (IsStayFound l.graph) (rest l.organisation-iterator);
  seen : AreSeen l.graph l.country (get nat_eq l.seen);
  adding : (all : List (ℕ × ℕ × ℕ)) → AreJobs l.graph all l.fn.found.items → IsAddingJobs l.graph l.country l.year l.person (all ++ jobs_by l.graph l.country l.year l.person) (rest l.organisation-iterator) l.found.items;
}
