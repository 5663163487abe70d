use Rattle.std.proofs.Common.{◌≡◌, List, ℕ, map, rules, subst, sym, tests}
use Rattle.std.proofs.lemmas.Iterator.Consumers.{map_from_collect}
use Rattle.std.proofs.lemmas.Iterator.Splits.{YieldsList-from_slice_split}
use Rattle.std.specs.Result.{IfOk}
use Rattle.snb_columns.proofs.Laws.{elements_some, tested_some}
use Rattle.snb_input_fields.proofs.lists.parts_of.Goals as goal

pub returns : goal.returns
returns c =
    let same = elements_some c.args.field.now (tested_some c.args.field.now c.is_empty.result c.is_empty.ensures c.if-is_empty.false) in
    subst (λ (xs : List (List ℕ)). IfOk c.collect.result (λ parts. map (λ x. x.now) parts.items ≡ xs)) (sym same)
    (map_from_collect _ c.collect.ensures.ran (YieldsList-from_slice_split _ _ c.args.field.now c.split.ensures.rest c.split.ensures.done c.split.ensures.closure (λ x r q k. search (rules, tests))))
