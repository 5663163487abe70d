-- There is one plan.
use Rattle.std.proofs.Common.{◌≡◌, ℕ, ◌-◌, ◌≤◌, List, [], ◌∷◌, length, ◌⊎◌, inl, inr, refl, sym, ap, ◌∙◌, subst, arith}
use Rattle.std.specs.List.{AllPairs, Contains}
use Rattle.std.proofs.lemmas.List.Elements.{All-contains}
use Rattle.snb_base.proofs.Laws.{at_contains, contains_cases, contains_here, none_in, pairs_head}
use Rattle.snb_history.specs.declared.step.Step.{Step}
use Rattle.snb_schema.specs.LineLanes.{LineLanes}
use Rattle.snb_schema.specs.QueryLists.{QueryLists}
use Rattle.snb_history.specs.Schedule.{ComesBefore}
use Rattle.snb_plan.specs.declared.instances.Instance.{Instance}
use Rattle.snb_plan.specs.PlanLaws.{PlanIsOne}
use Rattle.snb_plan.specs.Plans.{IsRead, IsUpdate, Operation, first_t, update_operation}
use Rattle.snb_plan.specs.Merging.{AreInOrder, AreUpdates, IsEarlier, IsInstance, IsLineHere, IsSooner, PlacedLine}
use Rattle.snb_plan.proofs.Ordered.{one_order}
use Rattle.snb_history.proofs.Laws.{t_rises}

earlier_strict : (x y : PlacedLine) → IsEarlier x y → IsEarlier y x → ⊥
earlier_strict x y (inl a) (inl b) = omega (arith, a, b)
earlier_strict x y (inl a) (inr (t, rest)) = omega (arith, a, t)
earlier_strict x y (inr (t, rest)) (inl b) = omega (arith, t, b)
earlier_strict x y (inr (t, inl a)) (inr (u, inl b)) = omega (arith, a, b)
earlier_strict x y (inr (t, inl a)) (inr (u, inr (lane, b))) = omega (arith, a, lane)
earlier_strict x y (inr (t, inr (lane, a))) (inr (u, inl b)) = omega (arith, lane, b)
earlier_strict x y (inr (t, inr (lane, a))) (inr (u, inr (same, b))) = omega (arith, a, b)

sooner_strict : (x y : Instance) → IsSooner x y → IsSooner y x → ⊥
sooner_strict x y (inl a) (inl b) = omega (arith, a, b)
sooner_strict x y (inl a) (inr (at, b)) = omega (arith, a, at)
sooner_strict x y (inr (at, a)) (inl b) = omega (arith, at, b)
sooner_strict x y (inr (at, a)) (inr (same, b)) = omega (arith, a, b)

step_strict : (x y : Step) → ComesBefore x y → ComesBefore y x → ⊥
step_strict x y (inl a) (inl b) = omega (arith, a, b)
step_strict x y (inl a) (inr (t, rest)) = omega (arith, a, t)
step_strict x y (inr (t, rest)) (inl b) = omega (arith, t, b)
step_strict x y (inr (t, inl a)) (inr (u, inl b)) = omega (arith, a, b)
step_strict x y (inr (t, inl a)) (inr (u, inr (lane, b))) = omega (arith, a, lane)
step_strict x y (inr (t, inr (lane, a))) (inr (u, inl b)) = omega (arith, lane, b)
step_strict x y (inr (t, inr (lane, a))) (inr (u, inr (same, b))) = omega (arith, a, b)

placed_t : (x y : PlacedLine) → IsEarlier x y → x.line.t ≤ y.line.t
placed_t x y (inl lt) = omega (arith, lt)
placed_t x y (inr (t, rest)) = omega (arith, t)

-- the first of all is at the t of the first update
update_t : List PlacedLine → ℕ
update_t [] = 0
update_t (p ∷ updates) = p.line.t

least_update : (p q : PlacedLine) (updates : List PlacedLine) → AllPairs IsEarlier (p ∷ updates) → Contains (p ∷ updates) q → p.line.t ≤ q.line.t
least_update p q updates ordered at = elim (contains_cases p updates q at) [
  | inl e ↦ let t = ap (λ (x : PlacedLine). x.line.t) e in omega (arith, t)
  | inr later ↦ placed_t p q (All-contains (IsEarlier p) updates q (pairs_head IsEarlier p updates ordered) later)
]

abbrev Is : LineLanes → QueryLists → ℕ → ℕ → List PlacedLine → List Instance → Operation → Type 0
Is lanes lists ratio t0 updates reads o = IsUpdate lanes ratio t0 updates o ⊎ IsRead lanes lists ratio t0 updates reads o

first_is : (lanes : LineLanes) (lists : QueryLists) (ratio t0 : ℕ) (updates : List PlacedLine) (reads : List Instance) (ops : List Operation) → AreUpdates lanes updates
    → AreInOrder (λ (one other : Operation). ComesBefore one.step other.step) (Is lanes lists ratio t0 updates reads) ops → first_t ops ≡ update_t updates
unfolding update_t
first_is lanes lists ratio t0 [] reads [] are all = refl
first_is lanes lists ratio t0 (p ∷ updates) reads [] are all =
    absurd (none_in (update_operation lanes ratio t0 p) ((all.those (update_operation lanes ratio t0 p)).1 (inl (p, contains_here p updates, refl))))
first_is lanes lists ratio t0 [] reads (o ∷ ops) are all = absurd (none ((all.those o).0 (contains_here o ops)))
  where
    none : Is lanes lists ratio t0 [] reads o → ⊥
    none (inl update) = none_in update.0 update.1
    none (inr read) = let e = read.goes_with in none_in read.with (at_contains [] (read.instance.at - 1) read.with e)
first_is lanes lists ratio t0 (p ∷ updates) reads (o ∷ ops) are all =
    let up = low in let down = high ((all.those o).0 (contains_here o ops)) in omega (arith, up, down)
  where
    first : Operation
    first = update_operation lanes ratio t0 p

    low : o.step.t ≤ p.line.t
    low = elim (contains_cases o ops (update_operation lanes ratio t0 p) ((all.those (update_operation lanes ratio t0 p)).1 (inl (p, contains_here p updates, refl)))) [
      | inl e ↦ let t = ap (λ (x : Operation). x.step.t) e in omega (arith, t)
      | inr later ↦ t_rises o.step (update_operation lanes ratio t0 p).step
          (All-contains (λ (x : Operation). ComesBefore o.step x.step) ops (update_operation lanes ratio t0 p)
          (pairs_head (λ (one other : Operation). ComesBefore one.step other.step) o ops all.ordered) later)
    ]

    high : Is lanes lists ratio t0 (p ∷ updates) reads o → p.line.t ≤ o.step.t
    high (inl (q, at, is)) = (let le = least_update p q updates are.ordered at in let t = ap (λ (x : Operation). x.step.t) is in omega (arith, le, t))
    high (inr read) = (
        let le = least_update p read.with updates are.ordered (at_contains (p ∷ updates) (read.instance.at - 1) read.with read.goes_with) in
        let t = ap (λ (x : Operation). x.step.t) read.is in
        omega (arith, le, t))

pub plan_is_one : PlanIsOne
plan_is_one lanes lists fr ratio p q a b = λ i. record { kinds = kinds i; operations = operations i }
  where
    updates : a.updates ≡ b.updates
    updates = one_order IsEarlier (IsLineHere lanes) earlier_strict a.updates b.updates a.are_updates b.are_updates

    reads : a.reads ≡ b.reads
    reads = one_order IsSooner (IsInstance fr (length b.updates)) sooner_strict a.reads b.reads
        (subst (λ (us : List PlacedLine). AreInOrder IsSooner (IsInstance fr (length us)) a.reads) updates a.are_reads) b.are_reads

    kinds : p.kinds ≡ q.kinds
    kinds = a.lane_kinds ∙ sym b.lane_kinds

    t0 : first_t p.operations ≡ first_t q.operations
    t0 = first_is lanes lists ratio (first_t p.operations) a.updates a.reads p.operations a.are_updates a.numbered ∙ ap update_t updates
        ∙ sym (first_is lanes lists ratio (first_t q.operations) b.updates b.reads q.operations b.are_updates b.numbered)

    operations : p.operations ≡ q.operations
    operations = one_order (λ (one other : Operation). ComesBefore one.step other.step) (Is lanes lists ratio (first_t q.operations) b.updates b.reads)
        (λ x y. step_strict x.step y.step) p.operations q.operations
        (subst (λ (t : ℕ). AreInOrder (λ (one other : Operation). ComesBefore one.step other.step) (Is lanes lists ratio t b.updates b.reads) p.operations) t0
        (subst (λ (us : List PlacedLine). AreInOrder (λ (one other : Operation). ComesBefore one.step other.step) (Is lanes lists ratio (first_t p.operations) us b.reads) p.operations) updates
        (subst (λ (rs : List Instance). AreInOrder (λ (one other : Operation). ComesBefore one.step other.step) (Is lanes lists ratio (first_t p.operations) a.updates rs) p.operations) reads a.numbered)))
        b.numbered
