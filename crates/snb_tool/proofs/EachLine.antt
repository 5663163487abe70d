-- Each line of the streams is one operation.
use Rattle.std.proofs.Common.{◌≡◌, ◌<◌, ◌⊎◌, ◌∙◌, ℕ, List, AllPairs, Contains, get_or, slice_get, Some, refl, inl, inr, sym, ap, subst, arith}
use Rattle.std.proofs.lemmas.Bool.{cases_lt}
use Rattle.std.proofs.lemmas.Option.{get_or_from_slice_get, slice_get_within}
use Rattle.snb_base.proofs.Laws.{at_contains, contains_at}
use Rattle.snb_history.specs.declared.step.Step.{Step}
use Rattle.snb_history.specs.Schedule.{ComesBefore}
use Rattle.snb_schema.specs.LineLanes.{LineLanes}
use Rattle.snb_plan.specs.Plans.{IsRead, IsUpdate, Operation, first_t, update_operation}
use Rattle.snb_plan.specs.Merging.{IsLineHere, PlacedLine, lane_of}
use Rattle.snb_tool.specs.LineLaws.{IsAskedRead, LinesAreOperations, StandsOnce}

-- no step comes before itself
not_before : (s : Step) → ComesBefore s s → ⊥
not_before s (inl less) = omega (arith, less)
not_before s (inr (e, inl less)) = omega (arith, less)
not_before s (inr (e, inr (f, less))) = omega (arith, less)

abbrev ByStep : Operation → Operation → Type 0
ByStep one other = ComesBefore one.step other.step

-- an element of a list in strict order stands at one place
once_there : (os : List Operation) (o : Operation) → AllPairs ByStep os → Contains os o → StandsOnce os o
once_there os o pairs there =
    let here = contains_at os o there in
    record {
      place = here.0;
      there = here.1;
      alone = λ other is. same other here.0 is here.1;
    }
  where
    got : (k : ℕ) → slice_get os k ≡ Some o → get_or os k o ≡ o
    got k e = get_or_from_slice_get os k o o e

    apart : (j k : ℕ) → j < k → slice_get os j ≡ Some o → slice_get os k ≡ Some o → ⊥
    apart j k less a b =
        let before : ByStep (get_or os j o) (get_or os k o) = pairs j k o less (slice_get_within os k o b) in
        not_before o.step (subst (λ (x : Operation). ByStep x o) (got j a) (subst (λ (x : Operation). ByStep (get_or os j o) x) (got k b) before))

    same : (j k : ℕ) → slice_get os j ≡ Some o → slice_get os k ≡ Some o → j ≡ k
    same j k a b =
        elim (cases_lt j k) [
          | inl less ↦ absurd (apart j k less a b)
          | inr ge ↦ elim (cases_lt k j) [
            | inl more ↦ absurd (apart k j more b a)
            | inr le ↦ omega (arith, ge, le)
          ]
        ]

module _ (lanes : LineLanes) (ratio t0 : ℕ) where
  -- lines of one lane and place are one
  line_apart : (p q : PlacedLine) → IsLineHere lanes p → IsLineHere lanes q → update_operation lanes ratio t0 p ≡ update_operation lanes ratio t0 q → p ≡ q
  line_apart p q a b same =
      let lane : p.lane ≡ q.lane = ap (λ (o : Operation). o.step.lane) same in
      let place : p.place ≡ q.place = ap (λ (o : Operation). o.step.place) same in
      let there : slice_get (lane_of lanes p.lane) p.place ≡ Some q.line =
      subst (λ (n : ℕ). slice_get (lane_of lanes p.lane) n ≡ Some q.line) (sym place) (subst (λ (n : ℕ). slice_get (lane_of lanes n) q.place ≡ Some q.line) (sym lane) b.here) in
      let line : p.line ≡ q.line = (let both : Some p.line ≡ Some q.line = sym a.here ∙ there in cc) in
      (λ i. record { lane = lane i; place = place i; line = line i })

pub lines_are_operations : LinesAreOperations
lines_are_operations held ratio table plan planned =
    let is = planned.is_plan in
    let t0 = first_t plan.operations in
    record {
      lanes = planned.lanes;
      lists = planned.lists;
      streams = planned.streams;
      params = planned.params;
      updates = is.updates;
      merged = is.are_updates;
      each_line = λ p line. once_there plan.operations (update_operation planned.lanes ratio t0 p) is.numbered.ordered
          ((is.numbered.those (update_operation planned.lanes ratio t0 p)).1 (inl (p, (is.are_updates.those p).1 line, refl)));
      apart = line_apart planned.lanes ratio t0;
      each_operation = λ o there. by o ((is.numbered.those o).0 there);
    }
  where
    by : (o : Operation) → IsUpdate planned.lanes ratio (first_t plan.operations) planned.is_plan.updates o ⊎ IsRead planned.lanes planned.lists ratio (first_t plan.operations) planned.is_plan.updates planned.is_plan.reads o
        → ((p : PlacedLine) × IsLineHere planned.lanes p × (o ≡ update_operation planned.lanes ratio (first_t plan.operations) p))
        ⊎ IsAskedRead planned.lanes planned.lists ratio (first_t plan.operations) table planned.is_plan.updates o
    by o (inl (p, there, e)) = inl (p, (planned.is_plan.are_updates.those p).0 there, e)
    by o (inr r) = inr (record {
      place = r.place;
      instance = r.instance;
      with = r.with;
      query = r.query;
      frequent = (planned.is_plan.are_reads.those r.instance).0 (at_contains planned.is_plan.reads r.place r.instance r.here);
      goes_with = r.goes_with;
      asked = r.asked;
      is = r.is;
    })
