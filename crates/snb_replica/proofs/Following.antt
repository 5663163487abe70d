-- What a replica stands for when it takes the next event of a history.
use Rattle.std.proofs.Common.{◌≡◌, ◌∷◌, ◌++◌, ◌∙◌, ℕ, ◌+◌, ◌<◌, List, [], length, take, drop, get_or, Some, None, inl, inr, refl, sym, ap, subst, arith, append_assoc, length-append, length-take}
use Rattle.std.proofs.lemmas.List.{get_or_default, length-map, take-append-drop, take_more}
use Rattle.snb_history.specs.declared.event.Event.{Event}
use Rattle.snb_history.specs.declared.event.Event.TheVariants.{Start, Finish, Halt}
use Rattle.snb_schema.specs.declared.op.Line.{Line}
use Rattle.snb_schema.specs.declared.op.Op.{Op}
use Rattle.snb_schema.specs.declared.row.Row.{Row}
use Rattle.snb_schema.specs.Inserts.{rows_of}
use Rattle.snb_history.specs.ScheduleLaws.{PrefixIsLegal}
use Rattle.snb_history.specs.Rules.{IsLegal, V1}
use Rattle.snb_base.proofs.Laws.{split_here}
use Rattle.snb_graph_model.specs.Graphs.{HasGained}
use Rattle.snb_plan.specs.Plans.{InsertWork, IsOfStreams, Operation, Plan, Work, schedule_of}
use Rattle.snb_inserts.specs.Applying.{IsWelcome}
use Rattle.snb_workers_replay.specs.Laws.{WelcomeInTurn}
use Rattle.snb_workers_replay.specs.Replay.{finished_insert, insert_in}
use Rattle.snb_workers_replay.proofs.Laws.{after_none, after_some}
use Rattle.snb_replica.specs.Replicas.{HasTaken, HasTakenSome, IfFinish, MayTake, StandsFor, Taken}

-- ---- the line of an insert

-- an operation that inserts a line has its insert
line_inserts : (o : Operation) (line : Line) → o.work ≡ InsertWork line → insert_in (Some o) ≡ Some line.op
line_inserts o line is = ap (λ (w : Work). insert_in (Some (record { step = o.step; work = w; source = o.source }))) is

-- the operation of a Finish is in the plan
pub finish_within : (plan : Plan) (workers : ℕ) (g : List Event) (e : Event) → IsLegal (schedule_of plan) workers (g ++ e ∷ []) → IfFinish e (λ op. op < length plan.operations)
finish_within plan workers g (Start op worker at) legal = tt
finish_within plan workers g (Finish op worker at front) legal =
    let within = ((legal.fits g (Finish op worker at front) [] refl).obeys V1).0 in omega (arith, within, length-map plan.operations (λ (o : Operation). o.step))
finish_within plan workers g (Halt worker) legal = tt

-- ---- one event more

-- one event more makes a history longer by one
length_push : (g : List Event) (e : Event) → length (g ++ e ∷ []) ≡ length g + 1
length_push g e = length-append g (e ∷ [])

module _ {base : List Row} {plan : Plan} {g : List Event} (e : Event) {r : Taken} where
  -- an event that finishes no insert
  pub stands_on : StandsFor base plan g r → finished_insert plan e ≡ None → StandsFor base plan (g ++ e ∷ []) (record { graph = r.graph; front = r.front + 1 })
  stands_on stands none = record {
    after = after_none base plan g e r.graph stands.after none;
    front = ap (λ (n : ℕ). n + 1) stands.front ∙ sym (length_push g e);
  }

  -- one that finishes an insert, whose rows are added
  pub stands_with : (op : Op) (new : List Row) → StandsFor base plan g r → finished_insert plan e ≡ Some op → HasGained r.graph (rows_of op) new
      → StandsFor base plan (g ++ e ∷ []) (record { graph = new; front = r.front + 1 })
  stands_with op new stands some gained = record {
    after = after_some base plan g e op r.graph new stands.after some gained;
    front = ap (λ (n : ℕ). n + 1) stands.front ∙ sym (length_push g e);
  }

  -- that insert is welcome
  pub welcome_now : (op : Op) → WelcomeInTurn → IsOfStreams plan → MayTake plan (e ∷ []) r base g → finished_insert plan e ≡ Some op → IsWelcome r.graph op
  welcome_now op welcome of may some =
      welcome base plan may.workers g e op r.graph (record { of_streams = of; closed = may.closed }) may.legal some may.stands.after

-- ---- the events of a history

module _ {plan : Plan} {events : List Event} {old now : Taken} (i : ℕ) (d : Event) (taken : (base : List Row) (g : List Event) → MayTake plan events old base g → StandsFor base plan (g ++ take i events) now) where
  -- where the first events are taken, the next may be taken
  pub may_next : PrefixIsLegal → i < length events → (base : List Row) (g : List Event) → MayTake plan events old base g → MayTake plan (get_or events i d ∷ []) now base (g ++ take i events)
  may_next prefix lt base g may =
      let e : Event = get_or events i d in
      record {
        stands = taken base g may;
        closed = may.closed;
        workers = may.workers;
        few = elim may.few [
          | inl few ↦ inl few
          | inr short ↦ inr (
              let all = length-append g events in
              let here = length-append g (take i events) in
              let next = length-append (g ++ take i events) (e ∷ []) in
              let taken = length-take i events in
              omega (arith, short, lt, all, here, next, taken))
        ];
        legal =
            prefix (schedule_of plan) may.workers ((g ++ take i events) ++ e ∷ []) (drop (i + 1) events)
            (subst (IsLegal (schedule_of plan) may.workers)
            (ap (λ (l : List Event). g ++ l) (sym (split_here events i e lt (get_or_default events i d e lt)))
            ∙ (sym (append_assoc g (take i events) (e ∷ drop (i + 1) events)) ∙ sym (append_assoc (g ++ take i events) (e ∷ []) (drop (i + 1) events))))
            may.legal);
      }

  -- and then they are taken with the next
  pub taken_more : PrefixIsLegal → i < length events → (new : Taken) → HasTaken plan (get_or events i d ∷ []) now new
      → (base : List Row) (g : List Event) → MayTake plan events old base g → StandsFor base plan (g ++ take (i + 1) events) new
  taken_more prefix lt new more base g may =
      subst (λ (l : List Event). StandsFor base plan l new) (append_assoc g (take i events) (get_or events i d ∷ []) ∙ ap (λ (l : List Event). g ++ l) (sym (take_more events i d lt)))
      (more base (g ++ take i events) (may_next prefix lt base g may))

  -- some of the events are taken
  pub taken_some : HasTakenSome plan events old now
  taken_some = λ base g may. (take i events, drop i events, take-append-drop i events, taken base g may)
