use Rattle.std.proofs.Common.{◌≡◌, ◌∙◌, ◌++◌, ◌∷◌, [], ◌⊎◌, List, Ok, length, Option, Some, inl, inr, subst, sym}
use Rattle.std.specs.Option.{MatchOption}
use Rattle.std.specs.Prelude.{Any}
use Rattle.std.proofs.lemmas.List.{map-append, flat_map_more}
use Rattle.std.proofs.lemmas.List.Elements.{Contains-append_left, Contains-append_right}
use Rattle.snb_workers.specs.declared.crew.Worker.{Worker}
use Rattle.snb_replica.specs.Replicas.{Taken}
use Rattle.snb_base.proofs.Laws.{contains_here}
use Rattle.snb_answered.proofs.Laws.{contained_any}
use Rattle.snb_workers.proofs.crew.parts_of.Goals as goal

-- the replica that was kept, or the new one, is that of one of those so far
one_replica : (so_far : List Worker) (w : Worker) (kept : Option Taken) (own result : Taken) → own ≡ w.replica → MatchOption kept (length so_far ≡ 0) (λ one. Any (λ (w : Worker). w.replica ≡ one) so_far) → (result ≡ own) ⊎ (kept ≡ Some result)
    → Any (λ (w : Worker). w.replica ≡ result) (so_far ++ w ∷ [])
one_replica so_far w kept own result is before further = elim further [
  | inl new ↦ contained_any (λ (w : Worker). w.replica ≡ result) (so_far ++ w ∷ []) w (Contains-append_right so_far (w ∷ []) w (contains_here w [])) (sym is ∙ sym new)
  | inr old ↦ (
      let any : Any (λ (w : Worker). w.replica ≡ result) so_far = subst (λ (o : Option Taken). MatchOption o (length so_far ≡ 0) (λ one. Any (λ (w : Worker). w.replica ≡ one) so_far)) old before in
      contained_any (λ (w : Worker). w.replica ≡ result) (so_far ++ w ∷ []) any.1 (Contains-append_left so_far (w ∷ []) any.1 (any.0, any.2, any.3)) any.4)
]

pub loop-worker-preserved : goal.loop-worker-preserved
loop-worker-preserved c =
    let (so_far, are, seats, replies, any) = c.loop-worker.invariant in
    let w : Worker = c.in_ok-worker.field-0 in
    let is = c.into_parts-seat.ensures in
    let own : c.into_items.result.items ≡ w.replies = c.into_items.ensures ∙ is.2 in (
      so_far ++ w ∷ [],
      (λ i. are i ++ c.in_ok-worker.was i ∷ []) ∙ sym (map-append (λ (w : Worker). Ok w) so_far (w ∷ [])),
      c.in_ok-push.ensures.items ∙ (λ i. seats i ++ is.0 i ∷ []) ∙ sym (map-append (λ (w : Worker). w.seat) so_far (w ∷ [])),
      c.in_ok-append.ensures.items ∙ (λ i. replies i ++ own i) ∙ flat_map_more (λ (w : Worker). w.replies) [] so_far w,
      one_replica so_far w c.loop-worker.furthest c.into_parts-seat.result.1 c.further.result is.1 any c.further.ensures,
    )
