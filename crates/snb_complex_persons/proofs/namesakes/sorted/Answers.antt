use Rattle.std.proofs.Common.{◌≡◌, ◌++◌, rules, sym, ap, subst, ◌∙◌}
use Rattle.std.proofs.lemmas.List.{append-nil}
use Rattle.std.specs.Cmp.Lexicographic.{nat_list_cmp_total, slice_cmp}
use Rattle.std.specs.Ordering.{nat_cmp}
use Rattle.snb_read_order.proofs.Laws.{compares}
use Rattle.snb_read_model.specs.Order.{SortedAndCut, AllRows}
use Rattle.snb_complex_persons.proofs.namesakes.sorted.Goals as goal

pub returns : goal.returns
returns c =
    let all : c.loop-text.lent.items ≡ c.args.texts = sym (append-nil c.loop-text.lent.items) ∙ ap (λ l. c.loop-text.lent.items ++ l) (sym c.in-None.ensures.steps.0) ∙ c.loop-text.invariant in
    subst (SortedAndCut (slice_cmp nat_cmp) AllRows c.args.texts) (sym c.from_vec.ensures)
    (subst (λ l. SortedAndCut (slice_cmp nat_cmp) AllRows l c.in_order-ordered.result.items) all (c.in_order-ordered.ensures (slice_cmp nat_cmp) nat_list_cmp_total (compares _ _ (slice_cmp nat_cmp) (λ a r q k. search rules))))
