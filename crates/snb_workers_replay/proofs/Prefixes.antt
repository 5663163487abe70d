-- After each prefix of a legal history of a closed plan there is a graph, and it is sound.
use Rattle.std.proofs.Common.{◌≡◌, ◌≢◌, ◌∷◌, ◌++◌, ◌∙◌, ℕ, ◌+◌, ◌<◌, List, [], get_or, length, take, drop, Option, Some, None, refl, sym, subst, arith, append-nil}
use Rattle.std.specs.List.{All, AllPairs}
use Rattle.std.specs.List.Sorted.{IsPermutation}
use Rattle.std.proofs.lemmas.List.{get_or-take, get_or_default, length-take}
use Rattle.std.proofs.lemmas.List.Sorted.{IsPermutation-refl}
use Rattle.std.proofs.lemmas.List.Elements.{Contains-append_left, Contains-append_right}
use Rattle.snb_base.proofs.Laws.{by_push, split_here}
use Rattle.snb_history.specs.declared.event.Event.{Event}
use Rattle.snb_history.specs.declared.event.Event.TheVariants.{Start, Finish, Halt}
use Rattle.snb_schema.specs.declared.op.Op.{Op}
use Rattle.snb_schema.specs.declared.row.Row.{Row}
use Rattle.snb_schema.specs.Inserts.{rows_of}
use Rattle.snb_history.specs.ScheduleLaws.{PrefixIsLegal}
use Rattle.snb_schema.specs.RowKeys.{slot_of}
use Rattle.snb_history.specs.Rules.{IsLegal}
use Rattle.snb_graph_model.specs.Graphs.{HasSlot, IsGraph}
use Rattle.snb_graph_model.specs.Laws.{NewRowsAreGained}
use Rattle.snb_graph_model.specs.Soundness.{Sound}
use Rattle.snb_graph.specs.Additions.{AreNew, HasClash}
use Rattle.snb_plan.specs.Plans.{IsOfStreams, Plan, schedule_of}
use Rattle.snb_inserts.specs.Applying.{HasLine}
use Rattle.snb_inserts.specs.Laws.{RowsAreNew, RowsFit, SoundIsKept}
use Rattle.snb_workers_replay.specs.Laws.{IsReplayed, PrefixesAreSound, WelcomeInTurn}
use Rattle.snb_workers_replay.specs.Replay.{IsAfter, finished_insert}
use Rattle.snb_workers_replay.proofs.Laws.{after_none, after_some, insert_has_line}

-- ---- rows that are new

-- a row whose slot is filled by a graph, or by a row before it, clashes
clash_at : (g more : List Row) (i : ℕ) (d : Row) → i < length more → HasSlot (g ++ take i more) (slot_of (get_or more i d)) → HasClash g more
clash_at g more i d lt filled = record {
  before = take i more;
  one = get_or more i d;
  after = drop (i + 1) more;
  splits = split_here more i (get_or more i d) lt (get_or_default more i d (get_or more i d) lt);
  filled = filled;
}

-- so rows that are new fill no slot of the graph
free_slots : (g more : List Row) → AreNew g more → All (λ r. ¬ HasSlot g (slot_of r)) more
free_slots g more new i d lt has = new (clash_at g more i d lt (record { it = has.it; held = Contains-append_left g (take i more) has.it has.held; fills = has.fills }))

-- and no two of them fill one
own_slots : (g more : List Row) → AreNew g more → AllPairs (λ r s. slot_of r ≢ slot_of s) more
own_slots g more new i j d below lt same =
    new (clash_at g more j d lt (record {
      it = get_or more i d;
      held = Contains-append_right g (take j more) (get_or more i d) (i, (let size = length-take j more in omega (arith, size, below, lt)), get_or-take j more i (get_or more i d) below ∙ get_or_default more i (get_or more i d) d (omega (arith, below, lt)));
      fills = same;
    }))

-- ---- the graph after a history

-- what an event inserts has a line
event_has_line : (plan : Plan) (e : Event) (op : Op) → IsOfStreams plan → finished_insert plan e ≡ Some op → HasLine op
event_has_line plan (Start k worker at) op of some = absurd cc
event_has_line plan (Finish k worker at front) op of some = insert_has_line plan k op of some
event_has_line plan (Halt worker) op of some = absurd cc

module _ (prefix : PrefixIsLegal) (gained : NewRowsAreGained) (fit : RowsFit) (new : RowsAreNew) (sound : SoundIsKept) (welcome : WelcomeInTurn) (base : List Row) (plan : Plan) (workers : ℕ) (r : IsReplayed base plan) where
  abbrev SoundAfter : List Event → Type 0
  SoundAfter g = (graph : List Row) × IsAfter base plan g graph × Sound graph

  -- one event more
  next : (g : List Event) (e : Event) → IsLegal (schedule_of plan) workers (g ++ e ∷ []) → SoundAfter g → SoundAfter (g ++ e ∷ [])
  next g e legal (graph, after, is) = by (finished_insert plan e) refl
    where
      by : (o : Option Op) → finished_insert plan e ≡ o → SoundAfter (g ++ e ∷ [])
      by None none = (graph, after_none base plan g e graph after none, is)
      by (Some op) some =
          let line = event_has_line plan e op r.of_streams some in
          let invited = welcome base plan workers g e op graph r legal some after in
          let fresh = new graph op after.graph is.held line invited in
          let more = gained graph (rows_of op) after.graph (fit op line) (free_slots graph (rows_of op) fresh) (own_slots graph (rows_of op) fresh) in
          (more.0, after_some base plan g e op graph more.0 after some more.1, sound graph more.0 op is invited more.1)

  sound_after : (g : List Event) → IsGraph base → Sound base → IsLegal (schedule_of plan) workers g → SoundAfter g
  sound_after g graph is =
      by_push (λ (h : List Event). IsLegal (schedule_of plan) workers h → SoundAfter h)
      (λ legal. (base, record { graph = graph; rows = subst (IsPermutation base) (sym (append-nil base)) (IsPermutation-refl base) }, is))
      (λ h e before legal. next h e legal (before (prefix (schedule_of plan) workers h (e ∷ []) legal))) g

pub prefixes_are_sound : PrefixIsLegal → NewRowsAreGained → RowsFit → RowsAreNew → SoundIsKept → WelcomeInTurn → PrefixesAreSound
prefixes_are_sound prefix gained fit new sound welcome base plan workers g rest h graph is r legal splits =
    sound_after prefix gained fit new sound welcome base plan workers r g graph is
    (prefix (schedule_of plan) workers g rest (subst (IsLegal (schedule_of plan) workers) (sym splits) legal))
