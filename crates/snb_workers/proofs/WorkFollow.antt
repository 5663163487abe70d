-- What a replica that takes what has happened since stands for.
use Rattle.std.proofs.Common.{◌≡◌, ◌∙◌, ℕ, ◌≤◌, List, ◌++◌, length, drop, Result, Ok, Err, inl, inr, sym, ap, subst, arith, append_assoc, length-append}
use Rattle.std.specs.Prelude.{OnOk, OnErr}
use Rattle.std.proofs.Math.Seq.{drop-append_seam}
use mathlib.Core.List.{IsPrefix}
use Rattle.snb_history.specs.declared.event.Event.{Event}
use Rattle.snb_schema.specs.declared.limits.TheConstants.{MAX_WORKERS}
use Rattle.snb_schema.specs.declared.row.Row.{Row}
use Rattle.snb_history.specs.Rules.{IsLegal}
use Rattle.snb_history.specs.Schedule.{Schedule}
use Rattle.snb_board.specs.Boards.{HasLooked, Sitting}
use Rattle.snb_plan.specs.Plans.{Plan, schedule_of}
use Rattle.snb_replica.specs.Replicas.{HasTaken, HasTakenSome, MayTake, StandsFor, Taken}
use Rattle.snb_workers.specs.Works.{IsFollowing}
use Rattle.snb_workers.specs.WorkTurns.{HasFollowed, IsAbreast}
use Rattle.snb_workers.proofs.WorkCalls.{following_later, later}
use Rattle.snb_workers.proofs.WorkEvents.{prefix-trans}
use Rattle.snb_base.proofs.Laws.{prefix-length, prefix-refl}

-- a beginning and what stands past it are the whole
rest_of : (taken h : List Event) (front : ℕ) → IsPrefix taken h → front ≡ length taken → taken ++ drop front h ≡ h
rest_of taken h front p is =
    ap (λ (n : ℕ). taken ++ drop n h) is
    ∙ (ap (λ (l : List Event). taken ++ drop (length taken) l) (sym p.1) ∙ (ap (λ (l : List Event). taken ++ l) (drop-append_seam taken p.0) ∙ p.1))

-- a seat that has only looked leaves its replica as it was
pub followed_by_none : (plan : Plan) (s t : Sitting) (r : Taken) → HasLooked s t → HasFollowed plan s t r r
followed_by_none plan s t r c = record {
  call = inr c;
  follows = λ base f. following_later base plan s.seen t.seen r (later s t c).seen f;
  rise = omega arith;
}

module _ (plan : Plan) (s t : Sitting) (r new : Taken) (c : HasLooked s t) (schedule : s.site.schedule ≡ schedule_of plan) (few : s.site.workers ≤ MAX_WORKERS) (events : List Event) (are : events ≡ drop r.front t.seen) where
  module _ (base : List Row) (f : IsFollowing base plan s.seen r) where
    all_taken : f.taken ++ events ≡ t.seen
    all_taken = ap (λ (l : List Event). f.taken ++ l) are ∙ rest_of f.taken t.seen r.front (prefix-trans f.taken s.seen t.seen f.begins (later s t c).seen) f.stands.front

    -- it may take the events that it hasn't taken
    pub may_take : MayTake plan events r base f.taken
    may_take = record {
      stands = f.stands;
      closed = f.closed;
      workers = s.site.workers;
      few = inl few;
      legal = subst (IsLegal (schedule_of plan) s.site.workers) (sym all_taken) (subst (λ (z : Schedule). IsLegal z s.site.workers t.seen) schedule c.legal);
    }

    -- and then stands for all that was seen
    all_stands : HasTaken plan events r new → StandsFor base plan t.seen new
    all_stands took = subst (λ (l : List Event). StandsFor base plan l new) all_taken (took base f.taken may_take)

    all_rise : HasTaken plan events r new → r.front ≤ new.front
    all_rise took =
        let holds = (all_stands took).front in
        let were = f.stands.front in
        let le = prefix-length f.taken t.seen (prefix-trans f.taken s.seen t.seen f.begins (later s t c).seen) in
        omega arith

    -- or for some of it
    some_follows : HasTakenSome plan events r new → IsFollowing base plan t.seen new
    some_follows took =
        let got = took base f.taken may_take in
        record {
          closed = f.closed;
          taken = f.taken ++ got.0;
          begins = (got.1, append_assoc f.taken got.0 got.1 ∙ (ap (λ (l : List Event). f.taken ++ l) got.2 ∙ all_taken));
          stands = got.3;
        }

    some_rise : HasTakenSome plan events r new → r.front ≤ new.front
    some_rise took =
        let got = took base f.taken may_take in
        let holds = got.3.front in
        let were = f.stands.front in
        let size = length-append f.taken got.0 in
        omega arith

  pub abreast : HasTaken plan events r new → IsAbreast plan s t r new
  abreast took base f = all_stands base f took

  pub followed : {T E : Type 0} (result : Result T E) → OnOk result (HasTaken plan events r new) → OnErr result (HasTakenSome plan events r new) → (base : List Row) × IsFollowing base plan s.seen r → HasFollowed plan s t r new
  followed (Ok a) took none some = record {
    call = inr c;
    follows = λ base f. record { closed = f.closed; taken = t.seen; begins = prefix-refl t.seen; stands = all_stands base f took };
    rise = all_rise some.0 some.1 took;
  }
  followed (Err e) none took some = record { call = inr c; follows = λ base f. some_follows base f took; rise = some_rise some.0 some.1 took }
