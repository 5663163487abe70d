-- The steps of a plan are those of a schedule.
use Rattle.std.proofs.Common.{◌≡◌, ◌↔◌, ℕ, suc, ◌+◌, ◌-◌, ◌<◌, ◌≤◌, Bool, true, false, cond, List, [], ◌∷◌, ◌++◌, length, map, take, get_or, Some, ◌⊎◌, inl, inr, refl, sym, ap, ◌∙◌, subst, arith, length-append}
use Rattle.std.specs.Prelude.{◌==◌, if◌then◌else◌, slice_get}
use Rattle.std.specs.List.{All, Contains, count_by, filter}
use Rattle.std.proofs.lemmas.Bool.{cases_Bool, cases_lt, eq-eqb, eqb-true, false≢true}
use Rattle.std.proofs.lemmas.List.{get_or-map, get_or_append_left, length-map, take-map}
use Rattle.std.proofs.lemmas.List.Elements.{All-append, All-map, Contains-get_or}
use Rattle.std.proofs.lemmas.List.Sums.{length-filter}
use Rattle.std.proofs.lemmas.Nat.{mul-le}
use Rattle.std.proofs.lemmas.Option.{get_or_from_slice_get, slice_get-get_or}
use Rattle.std.proofs.Math.Seq.{get_or-append_seam}
use Rattle.snb_ratio.specs.Ratios.{due_of}
use Rattle.snb_schema.specs.declared.limits.TheConstants.{MAX_AT, MAX_TIME}
use Rattle.snb_schema.specs.declared.op.Line.{Line}
use Rattle.snb_history.specs.declared.step.LaneKind.{LaneKind}
use Rattle.snb_history.specs.declared.step.LaneKind.TheVariants.{Forum, Person, Query}
use Rattle.snb_history.specs.declared.step.Step.{Step}
use Rattle.snb_schema.specs.Frequencies.{FrequencyTable}
use Rattle.snb_schema.specs.LineLanes.{LineLanes}
use Rattle.snb_history.specs.Schedule.{ComesBefore, IsPlanned, max_lanes, max_steps, no_step}
use Rattle.snb_schema.specs.StreamLines.{AreOfStreams}
use Rattle.snb_plan.specs.declared.instances.Instance.{Instance}
use Rattle.snb_plan.specs.declared.positions.Position.{Position}
use Rattle.snb_plan.specs.Merging.{AreReads, kinds_of, read_lane}
use Rattle.snb_plan.specs.Positions.{AreAllPositions, AreUpdatePositions, IsReadPosition, IsPositionBefore, IsUpdatePosition, line_at, read_step, position_step, position_t, update_step}
use Rattle.snb_plan.specs.Scheduled.{IsThere}
use Rattle.snb_plan.specs.Instances.{no_line, no_position}
use Rattle.snb_plan.proofs.Assembly.{ArePositionsOf, all_timed, lane_lines, place_counted, position_rises}
use Rattle.snb_plan.proofs.Streams.{line_times}

-- ---- the step at a position

-- the step where a line stands, and where a read does
pub at_line : (lanes : LineLanes) (ratio t0 : ℕ) (s : Position) → IsUpdatePosition lanes s → position_step lanes ratio t0 s ≡ update_step ratio t0 s (line_at lanes s.lane s.place)
at_line lanes ratio t0 s u = λ i. if other i then read_step ratio t0 s else update_step ratio t0 s (line_at lanes s.lane s.place)
  where
    other : (s.lane == read_lane lanes) ≡ false
    other = elim (cases_Bool (s.lane == read_lane lanes)) [
      | inl same ↦ absurd (let e = eqb-true s.lane (read_lane lanes) same in let lt = u.in_lanes in omega (arith, e, lt))
      | inr e ↦ e
    ]

pub at_read : (lanes : LineLanes) (ratio t0 : ℕ) (s : Position) → s.lane ≡ read_lane lanes → position_step lanes ratio t0 s ≡ read_step ratio t0 s
at_read lanes ratio t0 s here = λ i. if eq-eqb s.lane (read_lane lanes) here i then read_step ratio t0 s else update_step ratio t0 s (line_at lanes s.lane s.place)

-- what a step has of its position
pub record IsStepOf (lanes : LineLanes) (ratio t0 : ℕ) (s : Position) (step : Step) : Type 0 where
  pub lane : step.lane ≡ s.lane
  pub place : step.place ≡ s.place
  pub t : step.t ≡ s.t
  pub due : step.due ≡ due_of ratio t0 s.t
  pub t_d : step.t_d ≤ MAX_TIME
  pub within : s.lane ≤ read_lane lanes
  pub reads : (step.query ≡ true) ↔ (s.lane ≡ read_lane lanes)

pub step_is : (lanes : LineLanes) (fr : FrequencyTable) (updates : List Position) (reads : List Instance) (positions : List Position) (ratio t0 : ℕ) (s : Position) → ArePositionsOf lanes fr updates reads positions
    → Contains positions s → IsStepOf lanes ratio t0 s (position_step lanes ratio t0 s)
step_is lanes fr updates reads positions ratio t0 s are at = by ((are.are_all.those s).0 at)
  where
    of_line : IsUpdatePosition lanes s → IsStepOf lanes ratio t0 s (update_step ratio t0 s (line_at lanes s.lane s.place))
    of_line u = record {
      lane = refl;
      place = refl;
      t = sym u.at_t;
      due = ap (due_of ratio t0) (sym u.at_t);
      t_d = (line_times (line_at lanes s.lane s.place) ((lane_lines lanes s.lane are.of u.in_lanes).0 s.place no_line u.within)).1;
      within = (let lt = u.in_lanes in omega (arith, lt));
      reads = (λ q. absurd (false≢true q), λ e. absurd (let lt = u.in_lanes in omega (arith, lt, e)));
    }

    of_read : s.lane ≡ read_lane lanes → IsStepOf lanes ratio t0 s (read_step ratio t0 s)
    of_read here = record {
      lane = refl;
      place = refl;
      t = refl;
      due = refl;
      t_d = omega arith;
      within = omega (arith, here);
      reads = (λ q. here, λ e. refl);
    }

    by : IsUpdatePosition lanes s ⊎ IsReadPosition lanes updates reads s → IsStepOf lanes ratio t0 s (position_step lanes ratio t0 s)
    by (inl u) = subst (IsStepOf lanes ratio t0 s) (sym (at_line lanes ratio t0 s u)) (of_line u)
    by (inr r) = subst (IsStepOf lanes ratio t0 s) (sym (at_read lanes ratio t0 s r.in_lane)) (of_read r.in_lane)

-- something is at each position
pub all_there : (lanes : LineLanes) (fr : FrequencyTable) (updates : List Position) (reads : List Instance) (positions : List Position) → ArePositionsOf lanes fr updates reads positions → All (IsThere lanes) positions
all_there lanes fr updates reads positions are k d lt = by ((are.are_all.those (get_or positions k d)).0 (Contains-get_or positions k d lt))
  where
    by : IsUpdatePosition lanes (get_or positions k d) ⊎ IsReadPosition lanes updates reads (get_or positions k d) → IsThere lanes (get_or positions k d)
    by (inl u) = inl u
    by (inr r) = inr r.in_lane

-- ---- the kinds of lanes

front_plain : (persons forums : List (List Line)) → All (λ (kind : LaneKind). kind ≡ Query → ⊥) (map (λ _. Person) persons ++ map (λ _. Forum) forums)
front_plain persons forums =
    All-append (λ (kind : LaneKind). kind ≡ Query → ⊥) (map (λ _. Person) persons) (map (λ _. Forum) forums)
    (All-map (λ (kind : LaneKind). kind ≡ Query → ⊥) (λ _. Person) persons (λ k d lt e. cc))
    (All-map (λ (kind : LaneKind). kind ≡ Query → ⊥) (λ _. Forum) forums (λ k d lt e. cc))

front_length : (lanes : LineLanes) → length (map (λ _. Person) lanes.persons ++ map (λ _. Forum) lanes.forums) ≡ read_lane lanes
front_length lanes =
    let all = length-append (map (λ _. Person) lanes.persons) (map (λ _. Forum) lanes.forums) in
    let p = length-map lanes.persons (λ _. Person) in
    let f = length-map lanes.forums (λ _. Forum) in
    let both = length-append lanes.persons lanes.forums in
    omega (arith, all, p, f, both)

pub kinds_length : (lanes : LineLanes) → length (kinds_of lanes) ≡ read_lane lanes + 1
kinds_length lanes =
    let all = length-append (map (λ _. Person) lanes.persons ++ map (λ _. Forum) lanes.forums) (Query ∷ []) in
    let front = front_length lanes in
    omega (arith, all, front)

-- the reads stand in the last lane
read_kind : (lanes : LineLanes) (lane : ℕ) → lane ≤ read_lane lanes → (lane ≡ read_lane lanes) ↔ (slice_get (kinds_of lanes) lane ≡ Some Query)
read_kind lanes lane le = (to, from)
  where
    to : lane ≡ read_lane lanes → slice_get (kinds_of lanes) lane ≡ Some Query
    to here =
        let size = kinds_length lanes in
        slice_get-get_or (kinds_of lanes) lane Query (omega (arith, size, here))
        ∙ ap (λ (n : ℕ). Some (get_or (kinds_of lanes) n Query)) (here ∙ sym (front_length lanes))
        ∙ ap Some (get_or-append_seam (map (λ _. Person) lanes.persons ++ map (λ _. Forum) lanes.forums) Query [] Query)

    from : slice_get (kinds_of lanes) lane ≡ Some Query → lane ≡ read_lane lanes
    from e = by (cases_lt lane (read_lane lanes))
      where
        by : (lane < read_lane lanes) ⊎ (read_lane lanes ≤ lane) → lane ≡ read_lane lanes
        by (inl lt) = absurd (
            let size = front_length lanes in
            let within : lane < length (map (λ _. Person) lanes.persons ++ map (λ _. Forum) lanes.forums) = omega (arith, lt, size) in
            front_plain lanes.persons lanes.forums lane Query within
            (sym (get_or_append_left (map (λ _. Person) lanes.persons ++ map (λ _. Forum) lanes.forums) (Query ∷ []) Query lane within) ∙ get_or_from_slice_get (kinds_of lanes) lane Query Query e))
        by (inr ge) = omega (arith, le, ge)

-- ---- the schedule

-- what is planned for no earlier is due no earlier
pub due_rises : (num t0 t later : ℕ) → t ≤ later → due_of num t0 t ≤ due_of num t0 later
due_rises num t0 t later le = (let product = mul-le (t - t0) num (later - t0) num (omega (arith, le)) (omega arith) in omega (arith, product))

before_step : (lanes : LineLanes) (ratio t0 : ℕ) (a b : Position) (x y : Step) → IsStepOf lanes ratio t0 a x → IsStepOf lanes ratio t0 b y → IsPositionBefore a b → ComesBefore x y
before_step lanes ratio t0 a b x y p q (inl lt) = (let one = p.t in let other = q.t in inl (omega (arith, one, other, lt)))
before_step lanes ratio t0 a b x y p q (inr (t, inl lt)) = (let one = p.lane in let other = q.lane in inr (p.t ∙ t ∙ sym q.t, inl (omega (arith, one, other, lt))))
before_step lanes ratio t0 a b x y p q (inr (t, inr (lane, lt))) =
    (let one = p.place in let other = q.place in inr (p.t ∙ t ∙ sym q.t, inr (p.lane ∙ lane ∙ sym q.lane, omega (arith, one, other, lt))))

-- the steps keep the lanes of their positions
count_kept : {X Y : Type 0} (f : X → Y) (p : Y → Bool) (q : X → Bool) → ((x : X) → p (f x) ≡ q x) → (xs : List X) (k : ℕ) → count_by p (take k (map f xs)) ≡ count_by q (take k xs)
count_kept {X} {Y} f p q same xs k =
    sym (length-filter p (take k (map f xs))) ∙ ap (λ (ys : List Y). length (filter p ys)) (take-map f k xs) ∙ kept (take k xs) ∙ length-filter q (take k xs)
  where
    kept : (ys : List X) → length (filter p (map f ys)) ≡ length (filter q ys)
    kept [] = refl
    kept (y ∷ ys) = ap (λ (b : Bool). length (cond b (f y ∷ filter p (map f ys)) (filter p (map f ys)))) (same y) ∙ by (q y) (kept ys)
      where
        by : (b : Bool) → length (filter p (map f ys)) ≡ length (filter q ys)
            → length (cond b (f y ∷ filter p (map f ys)) (filter p (map f ys))) ≡ length (cond b (y ∷ filter q ys) (filter q ys))
        by true e = ap suc e
        by false e = e

lane_kept : (lanes : LineLanes) (ratio t0 : ℕ) (s : Position) → (position_step lanes ratio t0 s).lane ≡ s.lane
lane_kept lanes ratio t0 s = by (s.lane == read_lane lanes)
  where
    by : (b : Bool) → (if b then read_step ratio t0 s else update_step ratio t0 s (line_at lanes s.lane s.place)).lane ≡ s.lane
    by true = refl
    by false = refl

pub steps_before : (lanes : LineLanes) (fr : FrequencyTable) (updates : List Position) (reads : List Instance) (positions : List Position) (ratio t0 : ℕ) → ArePositionsOf lanes fr updates reads positions
    → (j k : ℕ) → j < k → k < length positions → ComesBefore (position_step lanes ratio t0 (get_or positions j no_position)) (position_step lanes ratio t0 (get_or positions k no_position))
steps_before lanes fr updates reads positions ratio t0 are j k below lt =
    before_step lanes ratio t0 (get_or positions j no_position) (get_or positions k no_position) _ _
    (step_is lanes fr updates reads positions ratio t0 (get_or positions j no_position) are (Contains-get_or positions j no_position (omega (arith, below, lt))))
    (step_is lanes fr updates reads positions ratio t0 (get_or positions k no_position) are (Contains-get_or positions k no_position lt))
    (are.are_all.ordered j k no_position below lt)

pub all_planned : (lanes : LineLanes) (fr : FrequencyTable) (updates : List Position) (reads : List Instance) (positions : List Position) (ratio t0 : ℕ) → ArePositionsOf lanes fr updates reads positions
    → read_lane lanes + 1 ≤ max_lanes → length positions ≤ max_steps → All (λ (step : Step). step.due ≤ MAX_AT) (map (position_step lanes ratio t0) positions)
    → IsPlanned (record { steps = map (position_step lanes ratio t0) positions; kinds = kinds_of lanes })
all_planned lanes fr updates reads positions ratio t0 are few_lanes few_steps due = record {
  few_lanes = (let n = kinds_length lanes in omega (arith, n, few_lanes));
  few_steps = omega (arith, size, few_steps);
  in_lanes = λ k within. (let h = has k (in_positions k within) in let lane = h.lane in let le = h.within in let n = kinds_length lanes in omega (arith, lane, le, n));
  ordered = λ j k below within.
      before_step lanes ratio t0 (get_or positions j no_position) (get_or positions k no_position) _ _ (has j (omega (arith, below, in_positions k within))) (has k (in_positions k within))
      (are.are_all.ordered j k no_position below (in_positions k within));
  placed = λ k within.
      let h = has k (in_positions k within) in
      h.place ∙ place_counted lanes fr updates reads positions k are (in_positions k within)
      ∙ ap (λ (l : ℕ). count_by (λ (s : Position). s.lane == l) (take k positions)) (sym h.lane)
      ∙ sym (count_kept (position_step lanes ratio t0) (λ (x : Step). x.lane == (get_or (map (position_step lanes ratio t0) positions) k no_step).lane)
      (λ (s : Position). s.lane == (get_or (map (position_step lanes ratio t0) positions) k no_step).lane)
      (λ s. ap (λ (l : ℕ). l == (get_or (map (position_step lanes ratio t0) positions) k no_step).lane) (lane_kept lanes ratio t0 s)) positions k);
  due_rises = λ j k below within.
      let one = (has j (omega (arith, below, in_positions k within))).due in
      let other = (has k (in_positions k within)).due in
      let le = due_rises ratio t0 (get_or positions j no_position).t (get_or positions k no_position).t (position_rises (get_or positions j no_position) (get_or positions k no_position) (are.are_all.ordered j k no_position below (in_positions k within))) in
      subst (λ (n : ℕ). n ≤ (get_or (map (position_step lanes ratio t0) positions) k no_step).due) (sym one) (subst (λ (n : ℕ). due_of ratio t0 (get_or positions j no_position).t ≤ n) (sym other) le);
  timed = λ k within.
      let t = (has k (in_positions k within)).t in
      let le = all_timed lanes fr updates reads positions are.of are.are_updates are.are_reads are.are_all k no_position (in_positions k within) in
      omega (arith, t, le);
  needs_timed = λ k within. (has k (in_positions k within)).t_d;
  due_timed = λ k within. due k no_step within;
  reads = λ k within.
      let h = has k (in_positions k within) in
      let kind = read_kind lanes (get_or positions k no_position).lane h.within in (
        λ q. subst (λ (l : ℕ). slice_get (kinds_of lanes) l ≡ Some Query) (sym h.lane) (kind.0 (h.reads.0 q)),
        λ q. h.reads.1 (kind.1 (subst (λ (l : ℕ). slice_get (kinds_of lanes) l ≡ Some Query) h.lane q)),
      );
}
  where
    size : length (map (position_step lanes ratio t0) positions) ≡ length positions
    size = length-map positions (position_step lanes ratio t0)

    in_positions : (k : ℕ) → k < length (map (position_step lanes ratio t0) positions) → k < length positions
    in_positions k within = omega (arith, within, size)

    has : (k : ℕ) → k < length positions → IsStepOf lanes ratio t0 (get_or positions k no_position) (get_or (map (position_step lanes ratio t0) positions) k no_step)
    has k lt =
        subst (IsStepOf lanes ratio t0 (get_or positions k no_position)) (sym (get_or-map (position_step lanes ratio t0) positions k no_position no_step lt))
        (step_is lanes fr updates reads positions ratio t0 (get_or positions k no_position) are (Contains-get_or positions k no_position lt))

-- the positions of a plan, as they are made
pub made_positions : (lanes : LineLanes) (fr : FrequencyTable) (count : ℕ) (updates us : List Position) (reads rs : List Instance) (positions : List Position) → AreOfStreams lanes → AreUpdatePositions lanes updates
    → count ≡ length updates → AreReads fr count reads → us ≡ updates → rs ≡ reads → AreAllPositions lanes us rs positions → ArePositionsOf lanes fr updates reads positions
made_positions lanes fr count updates us reads rs positions of are_updates counted are_reads same_updates same_reads are_all = record {
  of = of;
  are_updates = are_updates;
  are_reads = subst (λ (n : ℕ). AreReads fr n reads) counted are_reads;
  are_all = subst (λ (xs : List Instance). AreAllPositions lanes updates xs positions) same_reads (subst (λ (xs : List Position). AreAllPositions lanes xs rs positions) same_updates are_all);
}

-- the schedule of a plan, as it is made
pub made_planned : (lanes : LineLanes) (fr : FrequencyTable) (ratio : ℕ) (updates : List Position) (reads : List Instance) (positions ss : List Position) (steps : List Step) (kinds ks : List LaneKind)
    → ArePositionsOf lanes fr updates reads positions → ss ≡ positions → steps ≡ map (position_step lanes ratio (position_t ss)) ss → kinds ≡ kinds_of lanes → ks ≡ kinds → length kinds ≤ max_lanes
    → length positions ≤ max_steps → All (λ (step : Step). step.due ≤ MAX_AT) steps → IsPlanned (record { steps = steps; kinds = ks })
made_planned lanes fr ratio updates reads positions ss steps kinds ks are same_positions are_steps are_kinds same_kinds few_lanes few_steps due =
    let is : steps ≡ map (position_step lanes ratio (position_t positions)) positions = are_steps ∙ ap (λ (xs : List Position). map (position_step lanes ratio (position_t xs)) xs) same_positions in
    let size = ap (λ (xs : List LaneKind). length xs) are_kinds in
    let n = kinds_length lanes in
    subst (λ (xs : List LaneKind). IsPlanned (record { steps = steps; kinds = xs })) (sym (same_kinds ∙ are_kinds))
    (subst (λ (xs : List Step). IsPlanned (record { steps = xs; kinds = kinds_of lanes })) (sym is)
    (all_planned lanes fr updates reads positions ratio (position_t positions) are (omega (arith, size, n, few_lanes)) few_steps (subst (All (λ (step : Step). step.due ≤ MAX_AT)) is due)))
