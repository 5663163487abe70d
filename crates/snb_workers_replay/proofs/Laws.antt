-- What other crates may cite of this one: an insert of a plan has a line, what an event more makes of the graph after a history, and what an
-- operation more makes of the graph before it.
use Rattle.std.proofs.Common.{◌≡◌, ◌∷◌, ◌++◌, ◌∙◌, ℕ, zero, suc, ◌+◌, ◌⊎◌, List, [], take, inl, inr, Option, Some, None, refl, sym, ap, subst, add-one, append_assoc, append-nil}
use Rattle.std.specs.Prelude.{slice_get}
use Rattle.std.specs.List.{All, cons_option, filter_map, flat_map}
use Rattle.std.specs.List.Sorted.{IsPermutation}
use Rattle.std.proofs.lemmas.List.Concat.{flat_map-append}
use Rattle.std.proofs.lemmas.List.Elements.{All-append, All-contains, filter_map-append}
use Rattle.std.proofs.lemmas.List.Sorted.{IsPermutation-append_left, IsPermutation-trans}
use Rattle.snb_history.specs.declared.event.Event.{Event}
use Rattle.snb_history.specs.declared.event.Event.TheVariants.{Finish}
use Rattle.snb_schema.specs.declared.op.Line.{Line}
use Rattle.snb_schema.specs.declared.op.Op.{Op}
use Rattle.snb_schema.specs.declared.query.Query.{Query}
use Rattle.snb_schema.specs.declared.row.Row.{Row}
use Rattle.snb_schema.specs.Inserts.{rows_of}
use Rattle.snb_schema.specs.StreamLines.{IsOfLine}
use Rattle.snb_graph_model.specs.Graphs.{HasGained}
use Rattle.snb_plan.specs.Plans.{AskWork, InsertWork, IsOfStreams, IsRead, IsUpdate, Operation, Plan, Work, first_t}
use Rattle.snb_plan.specs.Merging.{IsLineHere, PlacedLine, lane_of, numbered_lanes}
use Rattle.snb_inserts.specs.Applying.{HasLine}
use Rattle.snb_workers_replay.specs.Replay.{IsAfter, IsGraphBefore, finished_insert, insert_at, insert_in, inserts_before, inserts_in, rows_before, rows_in}
use Rattle.snb_workers_replay.proofs.Updates.{step_at, update_at}
pub use Rattle.snb_workers_replay.proofs.Agreement.{same_gain}
use Rattle.snb_base.proofs.Laws.{at_contains}

-- what an operation of a plan inserts has a line
pub insert_has_line : (plan : Plan) (k : ℕ) (op : Op) → IsOfStreams plan → insert_at plan k ≡ Some op → HasLine op
insert_has_line plan k op of inserts =
    let found = update_at of.is_plan k op inserts in
    let own = step_at of.is_plan k found.0 found.1 in
    let lines : All (λ (lines : List Line). All IsOfLine lines) (numbered_lanes of.lanes) =
    All-append (λ (lines : List Line). All IsOfLine lines) of.lanes.persons of.lanes.forums (λ i d lt. (of.streams.persons i d lt).of_lines) (λ i d lt. (of.streams.forums i d lt).of_lines) in
    let line : IsOfLine found.0.line = All-contains IsOfLine (lane_of of.lanes found.0.lane) found.0.line (lines found.0.lane [] own.in_lanes) (at_contains (lane_of of.lanes found.0.lane) own.place found.0.line own.line) in
    subst HasLine found.2 (line.0, found.0.line.t, found.0.line.t_d, line.1)

-- the line whose insert an operation of a plan does is some text's
pub work_is_of_line : (plan : Plan) (k : ℕ) (o : Operation) (line : Line) → IsOfStreams plan → slice_get plan.operations k ≡ Some o → o.work ≡ InsertWork line → IsOfLine line
work_is_of_line plan k o line of here does = by ((of.is_plan.numbered.those o).0 (at_contains plan.operations k o here))
  where
    at_place : (p : PlacedLine) → IsLineHere of.lanes p → IsOfLine p.line
    at_place p stands =
        let lines : All (λ (lines : List Line). All IsOfLine lines) (numbered_lanes of.lanes) =
        All-append (λ (lines : List Line). All IsOfLine lines) of.lanes.persons of.lanes.forums (λ i d lt. (of.streams.persons i d lt).of_lines) (λ i d lt. (of.streams.forums i d lt).of_lines) in
        All-contains IsOfLine (lane_of of.lanes p.lane) p.line (lines p.lane [] stands.in_lanes) (at_contains (lane_of of.lanes p.lane) p.place p.line stands.here)

    by : IsUpdate of.lanes of.ratio (first_t plan.operations) of.is_plan.updates o ⊎ IsRead of.lanes of.lists of.ratio (first_t plan.operations) of.is_plan.updates of.is_plan.reads o → IsOfLine line
    by (inl (p, c, same)) =
        let both : InsertWork p.line ≡ InsertWork line = sym (ap (λ (x : Operation). x.work) same) ∙ does in
        let line_same : p.line ≡ line = cc in
        subst IsOfLine line_same (at_place p ((of.is_plan.are_updates.those p).0 c))
    by (inr r) = absurd (let both = sym (ap (λ (x : Operation). x.work) r.is) ∙ does in cc)

-- ---- one event more

pub rows_push : (plan : Plan) (g : List Event) (e : Event) → rows_in plan (g ++ e ∷ []) ≡ rows_in plan g ++ flat_map rows_of (cons_option (finished_insert plan e) [])
rows_push plan g e =
    ap (flat_map rows_of) (filter_map-append (finished_insert plan) g (e ∷ [])) ∙ flat_map-append rows_of (inserts_in plan g) (cons_option (finished_insert plan e) [])

-- after an event that finishes no insert the graph is as it was
pub after_none : (base : List Row) (plan : Plan) (g : List Event) (e : Event) (graph : List Row) → IsAfter base plan g graph → finished_insert plan e ≡ None → IsAfter base plan (g ++ e ∷ []) graph
after_none base plan g e graph after none =
    subst (λ (rows : List Row). HasGained base rows graph)
    (sym (rows_push plan g e ∙ (ap (λ (o : Option Op). rows_in plan g ++ flat_map rows_of (cons_option o [])) none ∙ append-nil (rows_in plan g)))) after

-- after one that finishes an insert it has gained the insert's rows
pub after_some : (base : List Row) (plan : Plan) (g : List Event) (e : Event) (op : Op) (graph new : List Row) → IsAfter base plan g graph → finished_insert plan e ≡ Some op → HasGained graph (rows_of op) new
    → IsAfter base plan (g ++ e ∷ []) new
after_some base plan g e op graph new after some gained =
    subst (λ (rows : List Row). HasGained base rows new)
    (sym (rows_push plan g e ∙ (ap (λ (o : Option Op). rows_in plan g ++ flat_map rows_of (cons_option o [])) some ∙ ap (λ (l : List Row). rows_in plan g ++ l) (append-nil (rows_of op)))))
    (record {
      graph = gained.graph;
      rows =
          subst (IsPermutation new) (append_assoc base (rows_in plan g) (rows_of op))
          (IsPermutation-trans new (graph ++ rows_of op) ((base ++ rows_in plan g) ++ rows_of op) gained.rows (IsPermutation-append_left (rows_of op) graph (base ++ rows_in plan g) after.rows));
    })

-- ---- in the order of the numbers

-- the operations of smaller number finish in turn
abbrev pub in_turn : ℕ → List Event
in_turn zero = []
in_turn (suc k) = in_turn k ++ Finish k 0 0 0 ∷ []

-- what one operation more inserts
taken_more : (operations : List Operation) (k : ℕ) → filter_map (λ (o : Operation). insert_in (Some o)) (take (suc k) operations)
    ≡ filter_map (λ (o : Operation). insert_in (Some o)) (take k operations) ++ cons_option (insert_in (slice_get operations k)) []
taken_more [] zero = refl
taken_more [] (suc k) = refl
taken_more (o ∷ rest) zero = by (insert_in (Some o))
  where
    by : (i : Option Op) → cons_option i [] ≡ [] ++ cons_option i []
    by None = refl
    by (Some op) = refl
taken_more (o ∷ rest) (suc k) = by (insert_in (Some o)) (taken_more rest k)
  where
    by : (i : Option Op) → filter_map (λ (x : Operation). insert_in (Some x)) (take (suc k) rest)
        ≡ filter_map (λ (x : Operation). insert_in (Some x)) (take k rest) ++ cons_option (insert_in (slice_get rest k)) []
        → cons_option i (filter_map (λ (x : Operation). insert_in (Some x)) (take (suc k) rest))
        ≡ cons_option i (filter_map (λ (x : Operation). insert_in (Some x)) (take k rest)) ++ cons_option (insert_in (slice_get rest k)) []
    by None e = e
    by (Some op) e = ap (λ (l : List Op). op ∷ l) e

-- so the rows of the inserts of smaller number are those that this history has finished
pub rows_in_turn : (plan : Plan) (k : ℕ) → rows_in plan (in_turn k) ≡ rows_before plan k
rows_in_turn plan zero = refl
rows_in_turn plan (suc k) =
    rows_push plan (in_turn k) (Finish k 0 0 0)
    ∙ (ap (λ (l : List Row). l ++ flat_map rows_of (cons_option (insert_at plan k) [])) (rows_in_turn plan k)
    ∙ (sym (flat_map-append rows_of (inserts_before plan k) (cons_option (insert_at plan k) [])) ∙ ap (flat_map rows_of) (sym (taken_more plan.operations k))))

-- after an operation that inserts nothing the graph is as it was before it
pub before_none : (base : List Row) (plan : Plan) (k : ℕ) (graph : List Row) → IsGraphBefore base plan k graph → insert_at plan k ≡ None → IsGraphBefore base plan (k + 1) graph
before_none base plan k graph before none =
    let after : IsAfter base plan (in_turn k) graph = subst (λ (rows : List Row). HasGained base rows graph) (sym (rows_in_turn plan k)) before in
    rw add-one (subst (λ (rows : List Row). HasGained base rows graph) (rows_in_turn plan (suc k)) (after_none base plan (in_turn k) (Finish k 0 0 0) graph after none))

-- after one that inserts it has gained the insert's rows
pub before_some : (base : List Row) (plan : Plan) (k : ℕ) (op : Op) (graph new : List Row) → IsGraphBefore base plan k graph → insert_at plan k ≡ Some op → HasGained graph (rows_of op) new
    → IsGraphBefore base plan (k + 1) new
before_some base plan k op graph new before some gained =
    let after : IsAfter base plan (in_turn k) graph = subst (λ (rows : List Row). HasGained base rows graph) (sym (rows_in_turn plan k)) before in
    rw add-one (subst (λ (rows : List Row). HasGained base rows new) (rows_in_turn plan (suc k)) (after_some base plan (in_turn k) (Finish k 0 0 0) op graph new after some gained))

-- what an operation that does the insert of a line inserts
pub work_inserts : (plan : Plan) (k : ℕ) (o : Operation) (line : Line) → slice_get plan.operations k ≡ Some o → o.work ≡ InsertWork line → insert_at plan k ≡ Some line.op
work_inserts plan k o line here does = ap insert_in here ∙ ap (λ (w : Work). insert_in (Some (record { step = o.step; work = w; source = o.source }))) does

-- and a read inserts nothing
pub read_inserts : (plan : Plan) (k : ℕ) (o : Operation) (query : Query) → slice_get plan.operations k ≡ Some o → o.work ≡ AskWork query → insert_at plan k ≡ None
read_inserts plan k o query here does = ap insert_in here ∙ ap (λ (w : Work). insert_in (Some (record { step = o.step; work = w; source = o.source }))) does
