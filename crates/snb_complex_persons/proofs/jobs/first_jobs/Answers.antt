use Rattle.std.proofs.Common.{rules, refl}
use Rattle.std.proofs.lemmas.List.Sorted.{IsPermutation-refl}
use Rattle.std.proofs.lemmas.Result.{IfOk-weaker}
use Rattle.snb_read_order.proofs.Laws.{compares, walked}
use Rattle.snb_read_model.specs.Order.{FirstRows}
use Rattle.snb_complex_persons.proofs.JobLemmas.{job_answers, jobs_first, jobs_total}
use Rattle.snb_complex_persons.specs.Jobs.{IsJobFound, job_of}
use Rattle.snb_read_model.specs.ComplexReads.{IsJob}
use Rattle.snb_complex_persons.proofs.jobs.first_jobs.Goals as goal
use Rattle.snb_base.proofs.Laws.{each_at, each_made}

pub list_of-requires : goal.list_of-requires
list_of-requires c =
    let each = each_at (IsJobFound c.args.graph.now) _
    (walked (IsJobFound c.args.graph.now) jobs_first (FirstRows 10) _ _ _ _ _ c.requires (IsPermutation-refl _) refl
    (c.first_of-first.ensures jobs_first jobs_total (compares _ _ jobs_first (λ a r q k. search rules))) c.as_slice.ensures.value) in
    search (rules, each)

pub returns : goal.returns
returns c =
    IfOk-weaker c.list_of.result _ _ (λ a z. job_answers c.args.graph.now c.known.ensures c.sound_graphs.ensures.numbers _ _ a c.requires
    (c.first_of-first.ensures jobs_first jobs_total (compares _ _ jobs_first (λ a r q k. search rules))) (rw c.as_slice.ensures.value at z)) (each_made _ _ (λ job row. IsJob c.args.graph.now (job_of job) row) (λ p row k. search rules) c.list_of.result _ c.list_of.ensures)
