-- What the operations of a plan are, and what is read of a history of it.
use Rattle.std.proofs.Common.{◌≡◌, ℕ, ◌+◌, ◌<◌, Option, List, [], ◌∷◌, ◌++◌, length, get_or, take, drop, sym, ap, ◌∙◌, subst}
use Rattle.std.specs.Prelude.{All, map}
use Rattle.std.proofs.lemmas.List.{get_or_default, map_more}
use Rattle.std.proofs.lemmas.Option.{get_or_from_slice_get}
use Rattle.snb_base.proofs.Laws.{split_here}
use Rattle.snb_history.specs.declared.event.Event.{Event}
use Rattle.snb_history.specs.declared.event.Event.TheVariants.{Start, Finish, Halt}
use Rattle.snb_history.specs.Rules.{V1, Fits, IsLegal}
use Rattle.snb_history.specs.Schedule.{Schedule}
use Rattle.snb_plan.specs.declared.plan.Task.{Task}
use Rattle.snb_plan.specs.Plans.{Plan, Operation, schedule_of}
use Rattle.snb_plan.specs.Tasks.{IsTask, work_of}
use Rattle.snb_summary.specs.declared.kind.OpKind.{OpKind}
use Rattle.snb_summary.specs.Hearing.{IsOf}
use Rattle.snb_summary.specs.Works.{work_kind}

-- the kind of an operation
abbrev pub kind_in : Operation → Option OpKind
kind_in o = work_kind o.work

-- one more operation
pub kinds_next : (plan : Plan) (op : ℕ) (task : Task) (kinds new : List (Option OpKind)) (kind : Option OpKind) → op < length plan.operations → IsTask plan op task → kind ≡ work_kind (work_of task)
    → kinds ≡ map kind_in (take op plan.operations) → new ≡ kinds ++ kind ∷ [] → new ≡ map kind_in (take (op + 1) plan.operations)
kinds_next plan op task kinds new kind lt (o, at, does) is so_far one =
    let here : get_or plan.operations op o ≡ o = get_or_from_slice_get plan.operations op o o at in
    let same : kind ≡ kind_in (get_or plan.operations op o) = is ∙ (sym (ap work_kind does) ∙ sym (ap kind_in here)) in
    one
    ∙ (ap (λ (k : Option OpKind). kinds ++ k ∷ []) same
    ∙ (ap (λ (ks : List (Option OpKind)). ks ++ kind_in (get_or plan.operations op o) ∷ []) so_far ∙ sym (map_more kind_in plan.operations op o lt)))

event_of : (s : Schedule) (workers : ℕ) (g : List Event) (e : Event) → Fits s workers g e → IsOf (length s.steps) e
event_of s workers g (Start op worker at) fits = (fits.obeys V1).0
event_of s workers g (Finish op worker at front) fits = (fits.obeys V1).0
event_of s workers g (Halt worker) fits = tt

-- the events of a legal history are those of operations
pub events_of : (s : Schedule) (workers : ℕ) (h : List Event) → IsLegal s workers h → All (IsOf (length s.steps)) h
events_of s workers h legal k d lt =
    event_of s workers (take k h) (get_or h k d)
    (legal.fits (take k h) (get_or h k d) (drop (k + 1) h) (split_here h k (get_or h k d) lt (get_or_default h k d (get_or h k d) lt)))

pub events_of_plan : (plan : Plan) (s : Schedule) (workers : ℕ) (h : List Event) → s ≡ schedule_of plan → IsLegal (schedule_of plan) workers h → All (IsOf (length s.steps)) h
events_of_plan plan s workers h planned legal =
    subst (λ (t : Schedule). All (IsOf (length t.steps)) h) (sym planned) (events_of (schedule_of plan) workers h legal)
