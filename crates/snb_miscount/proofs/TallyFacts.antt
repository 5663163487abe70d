-- Facts on the counts of a log that have to be looked at.
use Rattle.std.proofs.Common.{◌≡◌, ◌∙◌, ℕ, ◌+◌, ◌<◌, ◌≤◌, ◌⊎◌, List, [], ◌∷◌, ◌++◌, length, take, drop, Some, inl, inr, sym, ap, subst, arith}
use Rattle.std.specs.Prelude.{All, Contains, slice_get}
use Rattle.std.specs.List.Sorted.{IsPermutation}
use Rattle.std.specs.Option.{option_map}
use Rattle.std.proofs.lemmas.Bool.{cases_lt}
use Rattle.std.proofs.lemmas.List.{length-map}
use Rattle.std.proofs.lemmas.List.Elements.{All-push, Contains-append_left, Contains-push}
use Rattle.std.proofs.lemmas.List.Sorted.{Contains-permutation}
use Rattle.std.proofs.lemmas.Option.{get_or_from_slice_get, same_Some, slice_get-map, slice_get_within}
use Rattle.snb_base.proofs.Laws.{split_here}
use Rattle.snb_history.specs.declared.event.Event.{Event}
use Rattle.snb_history.specs.declared.event.Event.TheVariants.{Start, Finish, Halt}
use Rattle.snb_history.specs.declared.logged.Logged.{Logged}
use Rattle.snb_history.specs.Rules.{IsLegal, V1}
use Rattle.snb_plan.specs.Plans.{Operation, Plan, schedule_of}
use Rattle.snb_miscount.specs.declared.tally.Tally.{Tally}
use Rattle.snb_audit_model.specs.Miscounts.{events_of}
use Rattle.snb_replica.specs.Replicas.{IfFinish}
use Rattle.snb_miscount.specs.Tallies.{HasTallies, HasTally, IsFine, IsTally, IsTallyOf}
use Rattle.snb_replica.proofs.Laws.{front_within}

-- an event that is logged stands in the history
pub logged_event : (logged : List Logged) (k : ℕ) (one : Logged) → slice_get logged k ≡ Some one → Contains (events_of logged) one.event
logged_event logged k one here =
    let at : slice_get (events_of logged) k ≡ Some one.event = slice_get-map (λ (l : Logged). l.event) logged k ∙ ap (option_map (λ (l : Logged). l.event)) here in
    (k, slice_get_within (events_of logged) k one.event at, get_or_from_slice_get (events_of logged) k one.event one.event at)

module _ (plan : Plan) (workers : ℕ) (h : List Event) (legal : IsLegal (schedule_of plan) workers h) where
  -- the operation of a Finish of a legal history is in the plan
  pub op_within : (op worker at front : ℕ) → Contains h (Finish op worker at front) → op < length plan.operations
  op_within op worker at front c =
      let e : Event = Finish op worker at front in
      let within = ((legal.fits (take c.0 h) e (drop (c.0 + 1) h) (split_here h c.0 e c.1 (sym c.2))).obeys V1).0 in
      omega (arith, within, length-map plan.operations (λ (o : Operation). o.step))

  finish_within : (e : Event) → Contains h e → IfFinish e (λ op. op < length plan.operations)
  finish_within (Start op worker at) c = tt
  finish_within (Finish op worker at front) c = op_within op worker at front c
  finish_within (Halt worker) c = tt

module _ (plan : Plan) (workers : ℕ) (logged : List Logged) (legal : IsLegal (schedule_of plan) workers (events_of logged)) where
  pub logged_within : (k : ℕ) (one : Logged) → slice_get logged k ≡ Some one → IfFinish one.event (λ op. op < length plan.operations)
  logged_within k one here = finish_within plan workers (events_of logged) legal one.event (logged_event logged k one here)

  tally_stands : (t : Tally) (is : IsTally logged t) → Contains (events_of logged) (Finish t.op is.of.worker is.of.moment t.front)
  tally_stands t is = subst (Contains (events_of logged)) is.of.finish (logged_event logged t.event is.one is.there)

  -- so is that of a tally
  pub tally_op : (t : Tally) → IsTally logged t → t.op < length plan.operations
  tally_op t is = op_within plan workers (events_of logged) legal t.op is.of.worker is.of.moment t.front (tally_stands t is)

  -- and its front is within the history
  pub tally_front : (t : Tally) → IsTally logged t → t.front ≤ length logged
  tally_front t is =
      let within = front_within (schedule_of plan) workers (events_of logged) legal t.op is.of.worker is.of.moment t.front (tally_stands t is) in
      omega (arith, within, length-map logged (λ (l : Logged). l.event))

-- ---- the events so far

-- each event below this number is fine or has a tally
abbrev pub HasTalliesBelow : Plan → List Logged → List Tally → ℕ → Type 0
HasTalliesBelow plan logged tallies i = (k : ℕ) (one : Logged) → k < i → slice_get logged k ≡ Some one → IsFine plan one ⊎ HasTally tallies k

pub tally_more : (tallies : List Tally) (t : Tally) (k : ℕ) → HasTally tallies k → HasTally (tallies ++ t ∷ []) k
tally_more tallies t k has = record { it = has.it; held = Contains-append_left tallies (t ∷ []) has.it has.held; event = has.event }

pub tally_last : (tallies : List Tally) (t : Tally) (k : ℕ) → t.event ≡ k → HasTally (tallies ++ t ∷ []) k
tally_last tallies t k same = record { it = t; held = Contains-push tallies t; event = same }

module _ (plan : Plan) (logged : List Logged) (tallies : List Tally) (i : ℕ) (one : Logged) (here : slice_get logged i ≡ Some one) where
  -- one event more that is fine
  pub fine_more : HasTalliesBelow plan logged tallies i → IsFine plan one → HasTalliesBelow plan logged tallies (i + 1)
  fine_more below fine k other lt there = elim (cases_lt k i) [
    | inl less ↦ below k other less there
    | inr same ↦ (
        let is : k ≡ i = omega (arith, lt, same) in
        inl (subst (IsFine plan) (same_Some one other (sym here ∙ (ap (slice_get logged) (sym is) ∙ there))) fine))
  ]

  -- one that has a tally
  pub all_more : (t : Tally) → HasTalliesBelow plan logged tallies i → t.event ≡ i → HasTalliesBelow plan logged (tallies ++ t ∷ []) (i + 1)
  all_more t below same k other lt there = elim (cases_lt k i) [
    | inl less ↦ elim (below k other less there) [
      | inl fine ↦ inl fine
      | inr has ↦ inr (tally_more tallies t k has)
    ]
    | inr not ↦ inr (tally_last tallies t k (omega (arith, same, lt, not)))
  ]

  pub each_more : (t : Tally) → All (IsTally logged) tallies → t.event ≡ i → IsTallyOf one t → All (IsTally logged) (tallies ++ t ∷ [])
  each_more t each same of = All-push (IsTally logged) tallies t each (record { one = one; there = ap (slice_get logged) same ∙ here; of = of })

-- below the length is all
pub all_below : (plan : Plan) (logged : List Logged) (tallies : List Tally) (i : ℕ) → length logged ≤ i → HasTalliesBelow plan logged tallies i → HasTallies plan logged tallies
all_below plan logged tallies i past below k one here = let lt = slice_get_within logged k one here in below k one (omega arith) here

-- in another order
pub tallies_moved : (plan : Plan) (logged : List Logged) (xs ys : List Tally) → IsPermutation xs ys → HasTallies plan logged xs → HasTallies plan logged ys
tallies_moved plan logged xs ys moved all k one here = elim (all k one here) [
  | inl fine ↦ inl fine
  | inr has ↦ inr (record { it = has.it; held = Contains-permutation xs ys has.it moved has.held; event = has.event })
]
