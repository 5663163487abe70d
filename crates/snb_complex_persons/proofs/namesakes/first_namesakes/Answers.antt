use Rattle.std.proofs.Common.{rules, refl}
use Rattle.std.proofs.lemmas.List.Sorted.{IsPermutation-refl}
use Rattle.std.proofs.lemmas.Result.{IfOk-weaker}
use Rattle.snb_read_order.proofs.Laws.{compares, walked}
use Rattle.snb_read_model.specs.Order.{FirstRows}
use Rattle.snb_complex_persons.proofs.NamesakeLemmas.{namesake_answers, namesakes_first, namesakes_total}
use Rattle.snb_complex_persons.specs.Namesakes.{IsNamesakeFound, namesake_of}
use Rattle.snb_read_model.specs.ComplexReads.{IsNamesake}
use Rattle.snb_complex_persons.proofs.namesakes.first_namesakes.Goals as goal
use Rattle.snb_base.proofs.Laws.{each_at, each_made}

pub list_of-requires : goal.list_of-requires
list_of-requires c =
    let each = each_at (IsNamesakeFound c.args.graph.now) _
    (walked (IsNamesakeFound c.args.graph.now) namesakes_first (FirstRows 20) _ _ _ _ _ c.requires.found (IsPermutation-refl _) refl
    (c.first_of-first.ensures namesakes_first namesakes_total (compares _ _ namesakes_first (λ a r q k. search rules))) c.as_slice.ensures.value) in
    search (rules, each)

pub returns : goal.returns
returns c =
    IfOk-weaker c.list_of.result _ _ (λ a z. namesake_answers c.args.graph.now c.known.ensures c.requires.sound c.sound_graphs.ensures.required c.first_is_some.ensures c.first_is_some-2.ensures _ _ a c.requires.found
    (c.first_of-first.ensures namesakes_first namesakes_total (compares _ _ namesakes_first (λ a r q k. search rules))) (rw c.as_slice.ensures.value at z)) (each_made _ _ (λ one row. IsNamesake c.args.graph.now (namesake_of one) row) (λ p row k. search rules) c.list_of.result _ c.list_of.ensures)
