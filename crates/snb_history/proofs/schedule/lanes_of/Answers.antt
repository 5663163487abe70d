use Rattle.std.proofs.Common.{◌≡◌, ◌+◌, ◌<◌, ◌++◌, ◌∷◌, [], length, ℕ, inl, inr, subst, sym, ap, ◌∙◌, arith, Vec, List, length-append, get_or}
use Rattle.std.proofs.lemmas.Bool.{cases_lt}
use Rattle.std.proofs.lemmas.List.{get_or_append_left}
use Rattle.std.proofs.Math.Seq.{get_or-append_seam}
use Rattle.std.specs.declared.alloc.Global.{Global}
use Rattle.snb_history.specs.Schedule.{Schedule, IsLane}
use Rattle.snb_history.proofs.schedule.lanes_of.Goals as goal

-- one more list
each-push : (s : Schedule) (lanes : List (Vec ℕ Global)) (more : Vec ℕ Global) (n : ℕ) → length lanes ≡ n
    → ((k : ℕ) (d : Vec ℕ Global) → k < n → IsLane s k (get_or lanes k d).items) → IsLane s n more.items
    → (k : ℕ) (d : Vec ℕ Global) → k < n + 1 → IsLane s k (get_or (lanes ++ more ∷ []) k d).items
each-push s lanes more n counted each next k d lt =
    elim (cases_lt k n) [
      | inl below ↦ subst (λ (v : Vec ℕ Global). IsLane s k v.items) (sym (get_or_append_left lanes (more ∷ []) d k (omega arith))) (each k d below)
      | inr above ↦
          let e : k ≡ n = omega arith in
          let f : get_or (lanes ++ more ∷ []) k d ≡ more = ap (λ i. get_or (lanes ++ more ∷ []) i d) (e ∙ sym counted) ∙ get_or-append_seam lanes more [] d in
          subst (λ (v : Vec ℕ Global). IsLane s k v.items) (sym f) (subst (λ (i : ℕ). IsLane s i more.items) (sym e) next)
    ]

pub loop-lane-preserved : goal.loop-lane-preserved
loop-lane-preserved c =
    let s : Schedule = record { steps = c.args.steps.now; kinds = c.args.kinds.now } in
    rw c.in_ok-push.ensures.items
    (record {
      counted = (let a = length-append c.loop-lane.lanes.items (c.in_ok-numbers.numbers ∷ []) in let b = c.loop-lane.invariant.counted in omega arith);
      each = each-push s c.loop-lane.lanes.items c.in_ok-numbers.numbers c.loop-lane.lane c.loop-lane.invariant.counted c.loop-lane.invariant.each c.in_ok-numbers.ensures;
    })
