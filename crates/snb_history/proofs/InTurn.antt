-- In which order the operations of a lane start.
use Rattle.std.proofs.Common.{◌≡◌, ℕ, List, [], ◌∷◌, ◌++◌, true, inl, inr, subst, arith}
use Rattle.std.proofs.lemmas.Bool.{cases_Bool, eqb-true}
use Rattle.snb_history.specs.declared.event.Event.{Event}
use Rattle.snb_history.specs.declared.event.Event.TheVariants.{Start, Finish, Halt}
use Rattle.snb_history.specs.Schedule.{Schedule}
use Rattle.snb_history.specs.History.{starts, started, finished}
use Rattle.snb_history.specs.Rules.{Fits, IsLegal, LeadsLane, LaneIsFinished, V2, V3}
use Rattle.snb_history.specs.ScheduleLaws.{ForumGoesInTurn, LaneStartsInOrder}
use Rattle.snb_history.proofs.Histories.{IsLegal-front, Fits-last}
use Rattle.snb_history.proofs.Held.{started-push, finished-push}
use Rattle.snb_base.proofs.Laws.{by_push}

-- what is told of an operation where it starts
at_start : (s : Schedule) (workers : ℕ) (g : List Event) (e : Event) (k : ℕ) → Fits s workers g e → starts k e ≡ true → LeadsLane s g k × LaneIsFinished s g k
at_start s workers g (Start op worker at) k fits hit =
    subst (λ (i : ℕ). LeadsLane s g i × LaneIsFinished s g i) (eqb-true op k hit) (fits.obeys V2, fits.obeys V3)
at_start s workers g (Finish op worker at front) k fits hit = absurd cc
at_start s workers g (Halt worker) k fits hit = absurd cc

-- what is true of an operation's lane where it starts, and stays true, is true of each started one
stays : (s : Schedule) (workers k : ℕ) (P : List Event → Type 0)
    → ((g : List Event) (e : Event) → LeadsLane s g k → LaneIsFinished s g k → P g) → ((g : List Event) (e : Event) → P g → P (g ++ e ∷ []))
    → (h : List Event) → IsLegal s workers h → started h k ≡ true → P h
stays s workers k P first more h =
    by_push (λ g. IsLegal s workers g → started g k ≡ true → P g)
    (λ legal q. absurd cc)
    (λ g e ih legal q.
    more g e (elim (cases_Bool (starts k e)) [
      | inl hit ↦ (let a = at_start s workers g e k (Fits-last s workers g e legal) hit in first g e a.0 a.1)
      | inr miss ↦ ih (IsLegal-front s workers g (e ∷ []) legal) (let p = started-push g e k in grind arith)
    ]))
    h

-- in a forum lane all before a started operation is finished
pub forum_goes_in_turn : ForumGoesInTurn
forum_goes_in_turn s workers h legal j k forum before =
    stays s workers k (λ g. finished g j ≡ true)
    (λ g e head free. free forum j before)
    (λ g e done. let p = finished-push g e j in grind arith)
    h legal

pub lane_starts_in_order : LaneStartsInOrder
lane_starts_in_order s workers h legal j k before =
    stays s workers k (λ g. started g j ≡ true)
    (λ g e head free. head.led j before)
    (λ g e begun. let p = started-push g e j in grind arith)
    h legal
