-- The plan that is made is the one that is wanted.
use Rattle.std.proofs.Common.{◌≡◌, ◌↔◌, ℕ, ◌-◌, ◌<◌, ◌%◌, true, false, List, [], ◌∷◌, length, map, get_or, ◌⊎◌, inl, inr, refl, sym, ap, ◌∙◌, subst, arith, mod-lt}
use Rattle.std.specs.Prelude.{option_map}
use Rattle.std.specs.List.{AllPairs, Contains}
use Rattle.std.proofs.lemmas.Bool.{false≢true}
use Rattle.std.proofs.lemmas.List.{get_or-map, length-map}
use Rattle.std.proofs.lemmas.List.Elements.{Contains-get_or}
use Rattle.std.proofs.lemmas.Option.{get_or_from_slice_get, slice_get-get_or, slice_get-map, slice_get_within}
use Rattle.snb_base.proofs.Laws.{contains_here, contains_map}
use Rattle.snb_ratio.specs.Ratios.{due_of}
use Rattle.snb_schema.specs.declared.op.Line.{Line}
use Rattle.snb_schema.specs.declared.query.Query.TheVariants.{Is1}
use Rattle.snb_schema.specs.Frequencies.{FrequencyTable}
use Rattle.snb_schema.specs.LineLanes.{LineLanes}
use Rattle.snb_schema.specs.QueryLists.{HaveParameters, QueryLists, list_of}
use Rattle.snb_history.specs.Schedule.{Schedule, ComesBefore, no_step}
use Rattle.snb_schema.specs.StreamLines.{AreOfStreams}
use Rattle.snb_plan.specs.declared.instances.Instance.{Instance}
use Rattle.snb_plan.specs.declared.positions.Position.{Position}
use Rattle.snb_plan.specs.Plans.{IsPlan, IsRead, IsUpdate, Operation, first_t, read_operation, update_operation}
use Rattle.snb_plan.specs.Merging.{AreInOrder, AreReads, AreUpdates, IsEarlier, IsInstance, IsLineHere, PlacedLine, lane_of, read_lane}
use Rattle.snb_plan.specs.Positions.{AreUpdatePositions, IsReadPosition, IsPositionBefore, IsUpdatePosition, instance_at, line_at, operation_of, query_at, read_step, position_step, position_t, update_step}
use Rattle.snb_plan.specs.Scheduled.{AreKept, IsKept, IsScheduled}
use Rattle.snb_plan.specs.Instances.{no_instance, no_line, no_position}
use Rattle.snb_plan.proofs.Assembly.{ArePositionsOf, reads_within}
use Rattle.snb_plan.proofs.Planned.{at_line, at_read, step_is, steps_before}
use Rattle.snb_schema.proofs.Laws.{frequent_complex}
use Rattle.snb_plan.proofs.Viewing.{shown}

-- ---- lists that are mapped

from_map : {X Y : Type 0} (f : X → Y) (xs : List X) (d : X) (y : Y) → Contains (map f xs) y → (x : X) × Contains xs x × (y ≡ f x)
from_map f xs d y at =
    let lt : at.0 < length xs = (let l = at.1 in omega (arith, l, length-map xs f)) in
    (get_or xs at.0 d, Contains-get_or xs at.0 d lt, sym at.2 ∙ get_or-map f xs at.0 d y lt)

-- ---- what is kept

kept_line : (lanes : LineLanes) (lists : QueryLists) (reads : List Instance) (ratio t0 : ℕ) (s : Position) → IsUpdatePosition lanes s → IsKept lanes lists reads (update_step ratio t0 s (line_at lanes s.lane s.place))
kept_line lanes lists reads ratio t0 s u = record {
  lane = λ q. u.in_lanes;
  place = λ q. u.within;
  line_t = λ q. refl;
  read = λ q. absurd (false≢true q);
  complex = λ q. absurd (false≢true q);
  turns = λ q. absurd (false≢true q);
  listed = λ q. absurd (false≢true q);
}

kept_read : (lanes : LineLanes) (lists : QueryLists) (fr : FrequencyTable) (c : ℕ) (updates : List Position) (reads : List Instance) (ratio t0 : ℕ) (s : Position) → AreReads fr c reads → HaveParameters lists fr
    → IsReadPosition lanes updates reads s → IsKept lanes lists reads (read_step ratio t0 s)
kept_read lanes lists fr c updates reads ratio t0 s are have r =
    let is : IsInstance fr c (instance_at reads s.place) = (are.those (instance_at reads s.place)).0 (Contains-get_or reads s.place no_instance r.within) in
    record {
      lane = λ q. absurd (false≢true (sym q));
      place = λ q. absurd (false≢true (sym q));
      line_t = λ q. absurd (false≢true (sym q));
      read = λ q. r.within;
      complex = λ q. frequent_complex fr (instance_at reads s.place).query is.frequent;
      turns = λ q. is.turns;
      listed = λ q. have (instance_at reads s.place).query is.frequent;
    }

-- the steps of the schedule are those of lines and reads that are kept
pub all_kept : (lanes : LineLanes) (lists : QueryLists) (fr : FrequencyTable) (ratio : ℕ) (reads : List Instance) (schedule : Schedule) → HaveParameters lists fr
    → IsScheduled lanes fr ratio reads schedule → AreKept lanes lists reads schedule.steps
all_kept lanes lists fr ratio reads schedule have is = subst (AreKept lanes lists reads) (sym is.steps) kept
  where
    by : (s : Position) → IsUpdatePosition lanes s ⊎ IsReadPosition lanes is.updates reads s → IsKept lanes lists reads (position_step lanes ratio (position_t is.positions) s)
    by s (inl u) = subst (IsKept lanes lists reads) (sym (at_line lanes ratio (position_t is.positions) s u)) (kept_line lanes lists reads ratio (position_t is.positions) s u)
    by s (inr r) =
        subst (IsKept lanes lists reads) (sym (at_read lanes ratio (position_t is.positions) s r.in_lane))
        (kept_read lanes lists fr (length is.updates) is.updates reads ratio (position_t is.positions) s is.are_reads have r)

    kept : AreKept lanes lists reads (map (position_step lanes ratio (position_t is.positions)) is.positions)
    kept k within =
        let lt : k < length is.positions = omega (arith, within, length-map is.positions (position_step lanes ratio (position_t is.positions))) in
        subst (IsKept lanes lists reads) (sym (get_or-map (position_step lanes ratio (position_t is.positions)) is.positions k no_position no_step lt))
        (by (get_or is.positions k no_position) ((is.are_all.those (get_or is.positions k no_position)).0 (Contains-get_or is.positions k no_position lt)))

-- ---- updates

-- the line at a position
abbrev pub placed_at : LineLanes → Position → PlacedLine
placed_at lanes s = record { lane = s.lane; place = s.place; line = line_at lanes s.lane s.place }

earlier : (lanes : LineLanes) (a b : Position) → IsUpdatePosition lanes a → IsUpdatePosition lanes b → IsPositionBefore a b → IsEarlier (placed_at lanes a) (placed_at lanes b)
earlier lanes a b p q (inl lt) = (let one = p.at_t in let other = q.at_t in inl (omega (arith, one, other, lt)))
earlier lanes a b p q (inr (t, rest)) = inr (sym p.at_t ∙ t ∙ q.at_t, rest)

-- the lines at the positions are the updates
placed_all : (lanes : LineLanes) (updates : List Position) → AreUpdatePositions lanes updates → AreUpdates lanes (map (placed_at lanes) updates)
placed_all lanes updates are = record { ordered = ordered; those = λ p. (to p, from p) }
  where
    ordered : AllPairs IsEarlier (map (placed_at lanes) updates)
    ordered i j d below lt =
        let within : j < length updates = omega (arith, lt, length-map updates (placed_at lanes)) in
        let before : i < length updates = omega (arith, below, within) in
        subst (λ (p : PlacedLine). IsEarlier p (get_or (map (placed_at lanes) updates) j d)) (sym (get_or-map (placed_at lanes) updates i no_position d before))
        (subst (IsEarlier (placed_at lanes (get_or updates i no_position))) (sym (get_or-map (placed_at lanes) updates j no_position d within))
        (earlier lanes (get_or updates i no_position) (get_or updates j no_position)
        ((are.those (get_or updates i no_position)).0 (Contains-get_or updates i no_position before)) ((are.those (get_or updates j no_position)).0 (Contains-get_or updates j no_position within))
        (are.ordered i j no_position below within)))

    to : (p : PlacedLine) → Contains (map (placed_at lanes) updates) p → IsLineHere lanes p
    to p at =
        let s = from_map (placed_at lanes) updates no_position p at in
        let u : IsUpdatePosition lanes s.0 = (are.those s.0).0 s.1 in
        subst (IsLineHere lanes) (sym s.2) (record { in_lanes = u.in_lanes; here = slice_get-get_or (lane_of lanes s.0.lane) s.0.place no_line u.within })

    from : (p : PlacedLine) → IsLineHere lanes p → Contains (map (placed_at lanes) updates) p
    from p l =
        let is : line_at lanes p.lane p.place ≡ p.line = get_or_from_slice_get (lane_of lanes p.lane) p.place p.line no_line l.here in
        let u : IsUpdatePosition lanes (record { t = p.line.t; lane = p.lane; place = p.place }) = record {
          in_lanes = l.in_lanes;
          within = slice_get_within (lane_of lanes p.lane) p.place p.line l.here;
          at_t = ap (λ (x : Line). x.t) (sym is);
        } in
        let same : placed_at lanes (record { t = p.line.t; lane = p.lane; place = p.place }) ≡ p = λ i. record { lane = p.lane; place = p.place; line = is i } in
        subst (Contains (map (placed_at lanes) updates)) same
        (contains_map (placed_at lanes) updates (record { t = p.line.t; lane = p.lane; place = p.place }) ((are.those (record { t = p.line.t; lane = p.lane; place = p.place })).1 u))

-- ---- operations

-- the operation at a position
abbrev pub operation_at : LineLanes → QueryLists → List Instance → ℕ → ℕ → Position → Operation
operation_at lanes lists reads ratio t0 s = operation_of lanes lists reads (position_step lanes ratio t0 s)

maps_twice : (lanes : LineLanes) (lists : QueryLists) (reads : List Instance) (ratio t0 : ℕ) (positions : List Position)
    → map (operation_of lanes lists reads) (map (position_step lanes ratio t0) positions) ≡ map (operation_at lanes lists reads ratio t0) positions
maps_twice lanes lists reads ratio t0 [] = refl
maps_twice lanes lists reads ratio t0 (s ∷ positions) = ap (λ (os : List Operation). operation_at lanes lists reads ratio t0 s ∷ os) (maps_twice lanes lists reads ratio t0 positions)

-- where a line stands the operation is the update
line_operation : (lanes : LineLanes) (lists : QueryLists) (reads : List Instance) (ratio t0 : ℕ) (s : Position) → IsUpdatePosition lanes s
    → operation_at lanes lists reads ratio t0 s ≡ update_operation lanes ratio t0 (placed_at lanes s)
line_operation lanes lists reads ratio t0 s u = ap (operation_of lanes lists reads) (at_line lanes ratio t0 s u)

-- where a read stands it is the read
read_at_position : (lanes : LineLanes) (lists : QueryLists) (updates : List Position) (reads : List Instance) (ratio t0 : ℕ) (s : Position) (t : ℕ) → IsReadPosition lanes updates reads s → s.t ≡ t
    → operation_at lanes lists reads ratio t0 s ≡ read_operation lanes ratio t0 s.place t (query_at lists (instance_at reads s.place))
read_at_position lanes lists updates reads ratio t0 s t r is =
    ap (operation_of lanes lists reads) (at_read lanes ratio t0 s r.in_lane)
    ∙ (let moved : operation_of lanes lists reads (read_step ratio t0 s) ≡ read_operation lanes ratio t0 s.place t (query_at lists (instance_at reads s.place)) =
    λ i. operation_of lanes lists reads (record {
      lane = r.in_lane i;
      place = s.place;
      t = is i;
      t_d = 0;
      due = due_of ratio t0 (is i);
      dependency = false;
      dependent = false;
      query = true;
    }) in moved)

-- the position that a read goes with
abbrev with_at : List Position → Instance → Position
with_at updates i = get_or updates (i.at - 1) no_position

-- the t of the update that a read goes with
with_line : (lanes : LineLanes) (fr : FrequencyTable) (updates : List Position) (reads : List Instance) (place : ℕ) → AreUpdatePositions lanes updates → AreReads fr (length updates) reads → place < length reads
    → ((get_or reads place no_instance).at - 1 < length updates) × IsUpdatePosition lanes (with_at updates (get_or reads place no_instance))
with_line lanes fr updates reads place are_updates are_reads lt =
    let w = reads_within fr (length updates) reads are_reads place no_instance lt in
    let low = w.0 in
    let high = w.1 in
    let within : (get_or reads place no_instance).at - 1 < length updates = omega (arith, low, high) in
    (within, (are_updates.those (with_at updates (get_or reads place no_instance))).0 (Contains-get_or updates ((get_or reads place no_instance).at - 1) no_position within))

-- the operations are the updates and the reads
operation_is : (lanes : LineLanes) (lists : QueryLists) (fr : FrequencyTable) (ratio t0 : ℕ) (updates : List Position) (reads : List Instance) (positions : List Position) → HaveParameters lists fr
    → ArePositionsOf lanes fr updates reads positions → (o : Operation)
    → Contains (map (operation_at lanes lists reads ratio t0) positions) o
    ↔ (IsUpdate lanes ratio t0 (map (placed_at lanes) updates) o ⊎ IsRead lanes lists ratio t0 (map (placed_at lanes) updates) reads o)
operation_is lanes lists fr ratio t0 updates reads positions have are o = (to, from)
  where
    of_line : (s : Position) → IsUpdatePosition lanes s → o ≡ operation_at lanes lists reads ratio t0 s → IsUpdate lanes ratio t0 (map (placed_at lanes) updates) o
    of_line s u is = (placed_at lanes s, contains_map (placed_at lanes) updates s ((are.are_updates.those s).1 u), is ∙ line_operation lanes lists reads ratio t0 s u)

    of_read : (s : Position) → IsReadPosition lanes updates reads s → o ≡ operation_at lanes lists reads ratio t0 s → IsRead lanes lists ratio t0 (map (placed_at lanes) updates) reads o
    of_read s r is =
        let w = with_line lanes fr updates reads s.place are.are_updates are.are_reads r.within in
        let i : IsInstance fr (length updates) (get_or reads s.place no_instance) =
        (are.are_reads.those (get_or reads s.place no_instance)).0 (Contains-get_or reads s.place no_instance r.within) in
        let some = have (get_or reads s.place no_instance).query i.frequent in
        record {
          place = s.place;
          instance = get_or reads s.place no_instance;
          with = placed_at lanes (with_at updates (get_or reads s.place no_instance));
          query = query_at lists (get_or reads s.place no_instance);
          here = slice_get-get_or reads s.place no_instance r.within;
          goes_with = slice_get-map (placed_at lanes) updates ((get_or reads s.place no_instance).at - 1)
              ∙ ap (option_map (placed_at lanes)) (slice_get-get_or updates ((get_or reads s.place no_instance).at - 1) no_position w.0);
          asked = slice_get-get_or (list_of lists (get_or reads s.place no_instance).query)
              (((get_or reads s.place no_instance).turn - 1) % length (list_of lists (get_or reads s.place no_instance).query)) (Is1 0)
              (mod-lt ((get_or reads s.place no_instance).turn - 1) some);
          is = is ∙ read_at_position lanes lists updates reads ratio t0 s (line_at lanes (with_at updates (get_or reads s.place no_instance)).lane (with_at updates (get_or reads s.place no_instance)).place).t
              r (r.at_t ∙ w.1.at_t);
        }

    to : Contains (map (operation_at lanes lists reads ratio t0) positions) o
        → IsUpdate lanes ratio t0 (map (placed_at lanes) updates) o ⊎ IsRead lanes lists ratio t0 (map (placed_at lanes) updates) reads o
    to at =
        let s = from_map (operation_at lanes lists reads ratio t0) positions no_position o at in
        elim ((are.are_all.those s.0).0 s.1) [ inl u ↦ inl (of_line s.0 u s.2) | inr r ↦ inr (of_read s.0 r s.2) ]

    from : IsUpdate lanes ratio t0 (map (placed_at lanes) updates) o ⊎ IsRead lanes lists ratio t0 (map (placed_at lanes) updates) reads o
        → Contains (map (operation_at lanes lists reads ratio t0) positions) o
    from (inl update) =
        let s = from_map (placed_at lanes) updates no_position update.0 update.1 in
        let u : IsUpdatePosition lanes s.0 = (are.are_updates.those s.0).0 s.1 in
        subst (Contains (map (operation_at lanes lists reads ratio t0) positions))
        (line_operation lanes lists reads ratio t0 s.0 u ∙ ap (update_operation lanes ratio t0) (sym s.2) ∙ sym update.2)
        (contains_map (operation_at lanes lists reads ratio t0) positions s.0 ((are.are_all.those s.0).1 (inl u)))
    from (inr read) =
        let within : read.place < length reads = slice_get_within reads read.place read.instance read.here in
        let one : get_or reads read.place no_instance ≡ read.instance = get_or_from_slice_get reads read.place read.instance no_instance read.here in
        let r : IsReadPosition lanes updates reads (record { t = (with_at updates (get_or reads read.place no_instance)).t; lane = read_lane lanes; place = read.place }) =
        record { in_lane = refl; within = within; at_t = refl } in
        let w = with_line lanes fr updates reads read.place are.are_updates are.are_reads within in
        let with : placed_at lanes (with_at updates (get_or reads read.place no_instance)) ≡ read.with =
        ap (λ (i : Instance). placed_at lanes (with_at updates i)) one
        ∙ sym (get_or-map (placed_at lanes) updates (read.instance.at - 1) no_position read.with (subst (λ (i : Instance). i.at - 1 < length updates) one w.0))
        ∙ get_or_from_slice_get (map (placed_at lanes) updates) (read.instance.at - 1) read.with read.with read.goes_with in
        let query : query_at lists (get_or reads read.place no_instance) ≡ read.query =
        ap (query_at lists) one
        ∙ get_or_from_slice_get (list_of lists read.instance.query) ((read.instance.turn - 1) % length (list_of lists read.instance.query)) read.query (Is1 0) read.asked in
        subst (Contains (map (operation_at lanes lists reads ratio t0) positions))
        (read_at_position lanes lists updates reads ratio t0 (record { t = (with_at updates (get_or reads read.place no_instance)).t; lane = read_lane lanes; place = read.place }) read.with.line.t r
        (w.1.at_t ∙ ap (λ (p : PlacedLine). p.line.t) with)
        ∙ ap (read_operation lanes ratio t0 read.place read.with.line.t) query ∙ sym read.is)
        (contains_map (operation_at lanes lists reads ratio t0) positions (record { t = (with_at updates (get_or reads read.place no_instance)).t; lane = read_lane lanes; place = read.place })
        ((are.are_all.those (record { t = (with_at updates (get_or reads read.place no_instance)).t; lane = read_lane lanes; place = read.place })).1 (inr r)))

-- the first operation is at the t of the first position
first_at : (lanes : LineLanes) (lists : QueryLists) (fr : FrequencyTable) (ratio t0 : ℕ) (updates : List Position) (reads : List Instance) (positions : List Position) → ArePositionsOf lanes fr updates reads positions
    → first_t (map (operation_at lanes lists reads ratio t0) positions) ≡ position_t positions
first_at lanes lists fr ratio t0 updates reads [] are = refl
first_at lanes lists fr ratio t0 updates reads (s ∷ positions) are = (step_is lanes fr updates reads (s ∷ positions) ratio t0 s are (contains_here s positions)).t

-- the operations are in order
in_order : (lanes : LineLanes) (lists : QueryLists) (fr : FrequencyTable) (ratio t0 : ℕ) (updates : List Position) (reads : List Instance) (positions : List Position) → ArePositionsOf lanes fr updates reads positions
    → AllPairs (λ (one other : Operation). ComesBefore one.step other.step) (map (operation_at lanes lists reads ratio t0) positions)
in_order lanes lists fr ratio t0 updates reads positions are i j d below lt =
    let within : j < length positions = omega (arith, lt, length-map positions (operation_at lanes lists reads ratio t0)) in
    let before : i < length positions = omega (arith, below, within) in
    subst (λ (o : Operation). ComesBefore o.step (get_or (map (operation_at lanes lists reads ratio t0) positions) j d).step) (sym (get_or-map (operation_at lanes lists reads ratio t0) positions i no_position d before))
    (subst (λ (o : Operation). ComesBefore (position_step lanes ratio t0 (get_or positions i no_position)) o.step) (sym (get_or-map (operation_at lanes lists reads ratio t0) positions j no_position d within))
    (steps_before lanes fr updates reads positions ratio t0 are i j below within))

-- what is scheduled shows the plan that is wanted
pub scheduled_plan : (lanes : LineLanes) (lists : QueryLists) (fr : FrequencyTable) (ratio : ℕ) (reads : List Instance) (schedule : Schedule) → AreOfStreams lanes → HaveParameters lists fr
    → IsScheduled lanes fr ratio reads schedule → IsPlan lanes lists fr ratio (shown lanes lists reads schedule)
scheduled_plan lanes lists fr ratio reads schedule of have is = record {
  updates = map (placed_at lanes) is.updates;
  reads = reads;
  are_updates = placed_all lanes is.updates is.are_updates;
  are_reads = subst (λ (n : ℕ). AreReads fr n reads) (sym (length-map is.updates (placed_at lanes))) is.are_reads;
  lane_kinds = is.kinds;
  numbered = subst (λ (os : List Operation). In (first_t os) os) (sym operations) (subst (λ (t : ℕ). In t (map (operation_at lanes lists reads ratio (position_t is.positions)) is.positions)) (sym first) there);
}
  where
    are : ArePositionsOf lanes fr is.updates reads is.positions
    are = record { of = of; are_updates = is.are_updates; are_reads = is.are_reads; are_all = is.are_all }

    In : ℕ → List Operation → Type 0
    In t os =
        AreInOrder (λ (one other : Operation). ComesBefore one.step other.step)
        (λ (o : Operation). IsUpdate lanes ratio t (map (placed_at lanes) is.updates) o ⊎ IsRead lanes lists ratio t (map (placed_at lanes) is.updates) reads o)
        os

    operations : map (operation_of lanes lists reads) schedule.steps ≡ map (operation_at lanes lists reads ratio (position_t is.positions)) is.positions
    operations = ap (map (operation_of lanes lists reads)) is.steps ∙ maps_twice lanes lists reads ratio (position_t is.positions) is.positions

    first : first_t (map (operation_at lanes lists reads ratio (position_t is.positions)) is.positions) ≡ position_t is.positions
    first = first_at lanes lists fr ratio (position_t is.positions) is.updates reads is.positions are

    there : In (position_t is.positions) (map (operation_at lanes lists reads ratio (position_t is.positions)) is.positions)
    there = record {
      ordered = in_order lanes lists fr ratio (position_t is.positions) is.updates reads is.positions are;
      those = operation_is lanes lists fr ratio (position_t is.positions) is.updates reads is.positions have are;
    }
