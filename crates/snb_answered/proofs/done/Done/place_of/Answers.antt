-- The one before the place is of no greater operation, and those before it of smaller ones.
use Rattle.std.proofs.Common.{◌≡◌, ◌∙◌, ℕ, ◌-◌, ◌<◌, ◌≤◌, List, length, get_or, inl, inr, sym, ap, subst, arith}
use Rattle.std.specs.Prelude.{AllPairs}
use Rattle.std.proofs.lemmas.Bool.{cases_lt}
use Rattle.std.proofs.lemmas.List.{get_or_default}
use Rattle.snb_answered.specs.declared.done.Answered.{Answered}
use Rattle.snb_answered.proofs.done.Done.place_of.Goals as goal

-- by rising operation
record AreRising (xs : List Answered) : Type 0 where
  pairs : AllPairs (λ one other. one.op < other.op) xs

-- where the one before a place is of no greater operation, each before that place is
below_place : (xs : List Answered) (place op : ℕ) (x : Answered) → AreRising xs → 0 < place → place ≤ length xs → x ≡ get_or xs (place - 1) x → x.op ≤ op →
    (k : ℕ) (d : Answered) → k < place → (get_or xs k d).op ≤ op
below_place xs place op x rise some within is le k d lt =
    let lt_all : place - 1 < length xs = omega arith in
    let here : x.op ≡ (get_or xs (place - 1) d).op = ap (λ (a : Answered). a.op) (is ∙ get_or_default xs (place - 1) x d lt_all) in
    elim (cases_lt k (place - 1)) [
      | inl before ↦ (let r : (get_or xs k d).op < (get_or xs (place - 1) d).op = rise.pairs k (place - 1) d before lt_all in omega arith)
      | inr past ↦ (let e : k ≡ place - 1 = omega arith in subst (λ (i : ℕ). (get_or xs i d).op ≤ op) (sym e) (omega arith))
    ]

pub returns-else-index-op-clause-before : goal.returns-else-index-op-clause-before
returns-else-index-op-clause-before c =
    subst (λ (xs : List Answered). (k : ℕ) (d : Answered) → k < c.loop-place.place → (get_or xs k d).op ≤ c.args.op) c.self.view_is
    (below_place c.self.inside.items.items c.loop-place.place c.args.op c.index.result.now (record { pairs = c.self.invariant }) c.loop-place-test.true c.loop-place.invariant.0 c.index.ensures c.if-index-op.false)
