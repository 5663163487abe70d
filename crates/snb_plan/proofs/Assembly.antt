-- The operations of a plan, put together.
use Rattle.std.proofs.Common.{◌≡◌, ◌↔◌, ℕ, zero, suc, ◌+◌, ◌-◌, ◌*◌, ◌<◌, ◌≤◌, Bool, true, cond, List, [], ◌∷◌, ◌++◌, length, take, drop, get_or, ◌⊎◌, inl, inr, refl, sym, ap, ◌∙◌, subst, arith, length-append}
use Rattle.std.specs.Prelude.{◌==◌}
use Rattle.std.specs.List.{All, AllPairs, Contains, count_by, filter}
use Rattle.std.proofs.lemmas.Bool.{cases_lt, eq-eqb, eqb-true}
use Rattle.std.proofs.lemmas.List.{get_or_default}
use Rattle.std.proofs.lemmas.List.Elements.{All-append, All-weaker, Contains-get_or, filter-append}
use Rattle.std.proofs.lemmas.List.Kept.{AllPairs-filter}
use Rattle.std.proofs.lemmas.List.Sums.{length-filter}
use Rattle.std.proofs.lemmas.Nat.{mul-le}
use Rattle.std.proofs.Math.Seq.{get_or-append_seam}
use Rattle.snb_base.proofs.Laws.{in_filter, split_here}
use Rattle.snb_schema.specs.declared.limits.TheConstants.{MAX_TIME}
use Rattle.snb_schema.specs.declared.op.Line.{Line}
use Rattle.snb_schema.specs.Frequencies.{FrequencyTable, frequency_at}
use Rattle.snb_schema.specs.LineLanes.{LineLanes}
use Rattle.snb_schema.specs.StreamLines.{AreOfStream, AreOfStreams, IsOfLine, NeverFalls}
use Rattle.snb_schema.specs.UpdateLines.{forum_inserts, person_inserts}
use Rattle.snb_plan.specs.declared.instances.Instance.{Instance}
use Rattle.snb_plan.specs.declared.positions.Position.{Position}
use Rattle.snb_plan.specs.Merging.{AreReads, IsInstance, IsSooner, lane_of, numbered_lanes, read_lane}
use Rattle.snb_plan.specs.Positions.{AreAllPositions, AreUpdatePositions, IsReadPosition, IsPositionBefore, IsUpdatePosition, line_at, position_t}
use Rattle.snb_plan.specs.Instances.{lane_positions, no_instance, no_line, no_position, read_positions}
use Rattle.snb_plan.proofs.Ordered.{same_list}
use Rattle.snb_plan.proofs.Positioning.{in_lane, lane_length, read_at, reads_length, reads_those, position, position_at}
use Rattle.snb_plan.proofs.Streams.{line_times}

-- each read goes with an update
pub reads_within : (fr : FrequencyTable) (c : ℕ) (reads : List Instance) → AreReads fr c reads → All (λ (i : Instance). (1 ≤ i.at) × (i.at ≤ c)) reads
reads_within fr c reads are k d lt =
    let is : IsInstance fr c (get_or reads k d) = (are.those (get_or reads k d)).0 (Contains-get_or reads k d lt) in
    let at = is.at in
    let within = is.within in
    let one : 1 * 1 ≤ (get_or reads k d).turn * frequency_at fr (get_or reads k d).query = mul-le 1 1 (get_or reads k d).turn (frequency_at fr (get_or reads k d).query) is.turns is.frequent in
    (omega (arith, at, one), within)

pub position_rises : (a b : Position) → IsPositionBefore a b → a.t ≤ b.t
position_rises a b (inl less) = omega (arith, less)
position_rises a b (inr (t, rest)) = omega (arith, t)

-- no position is before the first
pub first_least : (positions : List Position) → AllPairs IsPositionBefore positions → All (λ (s : Position). position_t positions ≤ s.t) positions
first_least [] ordered k d lt = absurd (omega (arith, lt))
first_least (s ∷ positions) ordered zero d lt = omega arith
first_least (s ∷ positions) ordered (suc k) d lt = position_rises s (get_or positions k d) (ordered 0 (suc k) d (omega arith) lt)

-- each lane is of a stream's lines
pub lane_lines : (lanes : LineLanes) (lane : ℕ) → AreOfStreams lanes → lane < length (numbered_lanes lanes) → All IsOfLine (lane_of lanes lane) × NeverFalls (lane_of lanes lane)
lane_lines lanes lane of lt =
    All-append (λ (lines : List Line). All IsOfLine lines × NeverFalls lines) lanes.persons lanes.forums
    (All-weaker (AreOfStream person_inserts) (λ (lines : List Line). All IsOfLine lines × NeverFalls lines) (λ lines a. (a.of_lines, a.rises)) lanes.persons of.persons)
    (All-weaker (AreOfStream forum_inserts) (λ (lines : List Line). All IsOfLine lines × NeverFalls lines) (λ lines a. (a.of_lines, a.rises)) lanes.forums of.forums)
    lane [] lt

update_timed : (lanes : LineLanes) (s : Position) → AreOfStreams lanes → IsUpdatePosition lanes s → s.t ≤ MAX_TIME
update_timed lanes s of u =
    let lines = (lane_lines lanes s.lane of u.in_lanes).0 in
    let le = (line_times (get_or (lane_of lanes s.lane) s.place no_line) (lines s.place no_line u.within)).0 in
    let t = u.at_t in
    omega (arith, le, t)

-- the update that a read goes with
with_update : (lanes : LineLanes) (fr : FrequencyTable) (updates : List Position) (reads : List Instance) (s : Position) → AreUpdatePositions lanes updates → AreReads fr (length updates) reads
    → IsReadPosition lanes updates reads s → (get_or reads s.place no_instance).at - 1 < length updates
with_update lanes fr updates reads s are_updates are_reads r =
    let w = reads_within fr (length updates) reads are_reads s.place no_instance r.within in
    let low = w.0 in let high = w.1 in omega (arith, low, high)

-- no t is too great
pub all_timed : (lanes : LineLanes) (fr : FrequencyTable) (updates : List Position) (reads : List Instance) (positions : List Position) → AreOfStreams lanes → AreUpdatePositions lanes updates
    → AreReads fr (length updates) reads → AreAllPositions lanes updates reads positions → All (λ (s : Position). s.t ≤ MAX_TIME) positions
all_timed lanes fr updates reads positions of are_updates are_reads are k d lt = by ((are.those (get_or positions k d)).0 (Contains-get_or positions k d lt))
  where
    by : IsUpdatePosition lanes (get_or positions k d) ⊎ IsReadPosition lanes updates reads (get_or positions k d) → (get_or positions k d).t ≤ MAX_TIME
    by (inl u) = update_timed lanes (get_or positions k d) of u
    by (inr r) =
        let n : ℕ = (get_or reads (get_or positions k d).place no_instance).at - 1 in
        let within = with_update lanes fr updates reads (get_or positions k d) are_updates are_reads r in
        let le = update_timed lanes (get_or updates ((get_or reads (get_or positions k d).place no_instance).at - 1) no_position) of
        ((are_updates.those (get_or updates ((get_or reads (get_or positions k d).place no_instance).at - 1) no_position)).0 (Contains-get_or updates ((get_or reads (get_or positions k d).place no_instance).at - 1) no_position within)) in
        let t = r.at_t in
        omega (arith, le, t)

-- ---- places

-- an element that passes stands in the filtered list at the number of those before it
filtered_at : {X : Type 0} (p : X → Bool) (xs : List X) (k : ℕ) (d : X) → k < length xs → p (get_or xs k d) ≡ true
    → (get_or (filter p xs) (count_by p (take k xs)) d ≡ get_or xs k d) × (count_by p (take k xs) < length (filter p xs))
filtered_at {X} p xs k d lt passes = (here, within)
  where
    is : filter p xs ≡ filter p (take k xs) ++ get_or xs k d ∷ filter p (drop (k + 1) xs)
    is = ap (filter p) (sym (split_here xs k (get_or xs k d) lt (get_or_default xs k d (get_or xs k d) lt)))
        ∙ filter-append p (take k xs) (get_or xs k d ∷ drop (k + 1) xs)
        ∙ ap (λ (b : Bool). filter p (take k xs) ++ cond b (get_or xs k d ∷ filter p (drop (k + 1) xs)) (filter p (drop (k + 1) xs))) passes

    here : get_or (filter p xs) (count_by p (take k xs)) d ≡ get_or xs k d
    here = ap (λ (ys : List X). get_or ys (count_by p (take k xs)) d) is
        ∙ ap (λ (n : ℕ). get_or (filter p (take k xs) ++ get_or xs k d ∷ filter p (drop (k + 1) xs)) n d) (sym (length-filter p (take k xs)))
        ∙ get_or-append_seam (filter p (take k xs)) (get_or xs k d) (filter p (drop (k + 1) xs)) d

    within : count_by p (take k xs) < length (filter p xs)
    within =
        let size = ap (λ (ys : List X). length ys) is in
        let more = length-append (filter p (take k xs)) (get_or xs k d ∷ filter p (drop (k + 1) xs)) in
        let front = length-filter p (take k xs) in
        omega (arith, size, more, front)

position_strict : (x y : Position) → IsPositionBefore x y → IsPositionBefore y x → ⊥
position_strict x y (inl a) (inl b) = omega (arith, a, b)
position_strict x y (inl a) (inr (t, rest)) = omega (arith, a, t)
position_strict x y (inr (t, rest)) (inl b) = omega (arith, t, b)
position_strict x y (inr (t, inl a)) (inr (u, inl b)) = omega (arith, a, b)
position_strict x y (inr (t, inl a)) (inr (u, inr (lane, b))) = omega (arith, a, lane)
position_strict x y (inr (t, inr (lane, a))) (inr (u, inl b)) = omega (arith, lane, b)
position_strict x y (inr (t, inr (lane, a))) (inr (u, inr (same, b))) = omega (arith, a, b)

before_later : (a b : Position) → a.t ≤ b.t → a.lane ≡ b.lane → a.place < b.place → IsPositionBefore a b
before_later a b t lane place = elim (cases_lt a.t b.t) [ inl lt ↦ inl lt | inr ge ↦ inr ((let e : a.t ≡ b.t = omega (arith, t, ge) in e), inr (lane, place)) ]

-- the positions of one lane, in order, and each at its place
record AreOfLane (positions : List Position) (lane : ℕ) (own : List Position) : Type 0 where
  pub ordered : AllPairs IsPositionBefore own
  pub those : (s : Position) → Contains own s ↔ (Contains positions s × (s.lane ≡ lane))
  pub placed : (k : ℕ) → k < length own → (get_or own k no_position).place ≡ k

-- the place of a position is the number of those before it in its lane
by_lane : (positions : List Position) (lane : ℕ) (own : List Position) → AllPairs IsPositionBefore positions → AreOfLane positions lane own → (k : ℕ) → k < length positions → (get_or positions k no_position).lane ≡ lane
    → (get_or positions k no_position).place ≡ count_by (λ (s : Position). s.lane == lane) (take k positions)
by_lane positions lane own ordered of k lt here =
    let at = filtered_at (λ (s : Position). s.lane == lane) positions k no_position lt (eq-eqb (get_or positions k no_position).lane lane here) in
    ap (λ (s : Position). s.place) (sym at.0 ∙ ap (λ (ss : List Position). get_or ss (count_by (λ (s : Position). s.lane == lane) (take k positions)) no_position) same)
    ∙ of.placed (count_by (λ (s : Position). s.lane == lane) (take k positions)) (subst (λ (ss : List Position). count_by (λ (s : Position). s.lane == lane) (take k positions) < length ss) same at.1)
  where
    same : filter (λ (s : Position). s.lane == lane) positions ≡ own
    same = same_list IsPositionBefore position_strict (filter (λ (s : Position). s.lane == lane) positions) own (AllPairs-filter IsPositionBefore (λ (s : Position). s.lane == lane) positions ordered) of.ordered
        (λ s. (
          λ at. let both = (in_filter (λ (x : Position). x.lane == lane) positions s).0 at in (of.those s).1 (both.0, eqb-true s.lane lane both.1),
          λ at. let both = (of.those s).0 at in (in_filter (λ (x : Position). x.lane == lane) positions s).1 (both.0, eq-eqb s.lane lane both.1),
        ))

-- what is known of the positions of a plan
pub record ArePositionsOf (lanes : LineLanes) (fr : FrequencyTable) (updates : List Position) (reads : List Instance) (positions : List Position) : Type 0 where
  pub of : AreOfStreams lanes
  pub are_updates : AreUpdatePositions lanes updates
  pub are_reads : AreReads fr (length updates) reads
  pub are_all : AreAllPositions lanes updates reads positions

-- the positions of a lane of lines
line_lane : (lanes : LineLanes) (fr : FrequencyTable) (updates : List Position) (reads : List Instance) (positions : List Position) (lane : ℕ) → ArePositionsOf lanes fr updates reads positions
    → lane < length (numbered_lanes lanes) → AreOfLane positions lane (lane_positions lane 0 (lane_of lanes lane))
line_lane lanes fr updates reads positions lane are in_lanes = record { ordered = ordered; those = λ s. (to s, from s); placed = placed }
  where
    size : length (lane_positions lane 0 (lane_of lanes lane)) ≡ length (lane_of lanes lane)
    size = lane_length lane 0 (lane_of lanes lane)

    rises : NeverFalls (lane_of lanes lane)
    rises = (lane_lines lanes lane are.of in_lanes).1

    ordered : AllPairs IsPositionBefore (lane_positions lane 0 (lane_of lanes lane))
    ordered i j d below lt =
        let a = position_at lane 0 (lane_of lanes lane) i d (omega (arith, below, lt, size)) in
        let b = position_at lane 0 (lane_of lanes lane) j d (omega (arith, lt, size)) in
        let le = rises i j no_line below (omega (arith, lt, size)) in
        let ta = ap (λ (s : Position). s.t) a in
        let tb = ap (λ (s : Position). s.t) b in
        let pa = ap (λ (s : Position). s.place) a in
        let pb = ap (λ (s : Position). s.place) b in
        before_later (get_or (lane_positions lane 0 (lane_of lanes lane)) i d) (get_or (lane_positions lane 0 (lane_of lanes lane)) j d)
        (omega (arith, le, ta, tb)) (ap (λ (s : Position). s.lane) a ∙ sym (ap (λ (s : Position). s.lane) b)) (omega (arith, pa, pb, below))

    placed : (k : ℕ) → k < length (lane_positions lane 0 (lane_of lanes lane)) → (get_or (lane_positions lane 0 (lane_of lanes lane)) k no_position).place ≡ k
    placed k lt =
        let e = ap (λ (s : Position). s.place) (position_at lane 0 (lane_of lanes lane) k no_position (omega (arith, lt, size))) in
        omega (arith, e)

    to : (s : Position) → Contains (lane_positions lane 0 (lane_of lanes lane)) s → Contains positions s × (s.lane ≡ lane)
    to s at =
        let k = in_lane lane 0 (lane_of lanes lane) s at in
        let within = k.1 in
        let here : s.lane ≡ lane = ap (λ (x : Position). x.lane) k.2 in
        let place : k.0 ≡ s.place = (let e = ap (λ (x : Position). x.place) k.2 in omega (arith, e)) in
        let is : IsUpdatePosition lanes s = record {
          in_lanes = subst (λ (l : ℕ). l < length (numbered_lanes lanes)) (sym here) in_lanes;
          within = subst (λ (l : ℕ). s.place < length (lane_of lanes l)) (sym here) (subst (λ (p : ℕ). p < length (lane_of lanes lane)) place within);
          at_t = ap (λ (x : Position). x.t) k.2 ∙ ap (λ (p : ℕ). (line_at lanes lane p).t) place ∙ ap (λ (l : ℕ). (line_at lanes l s.place).t) (sym here);
        } in
        ((are.are_all.those s).1 (inl is), here)

    from : (s : Position) → Contains positions s × (s.lane ≡ lane) → Contains (lane_positions lane 0 (lane_of lanes lane)) s
    from s both = elim ((are.are_all.those s).0 both.0) [
      | inl u ↦ (
          let here = both.1 in
          let within : s.place < length (lane_of lanes lane) = subst (λ (l : ℕ). s.place < length (lane_of lanes l)) here u.within in
          let t : s.t ≡ (line_at lanes lane s.place).t = u.at_t ∙ ap (λ (l : ℕ). (line_at lanes l s.place).t) here in
          let place : 0 + s.place ≡ s.place = omega arith in
          let is : position (line_at lanes lane s.place).t lane (0 + s.place) ≡ s = λ i. record { t = sym t i; lane = sym here i; place = place i } in
          (s.place, omega (arith, within, size), position_at lane 0 (lane_of lanes lane) s.place s within ∙ is))
      | inr r ↦ absurd (let here = both.1 in let other = r.in_lane in omega (arith, in_lanes, here, other))
    ]

-- the positions of the lane of reads
read_lane_positions : (lanes : LineLanes) (fr : FrequencyTable) (updates : List Position) (reads : List Instance) (positions : List Position) → ArePositionsOf lanes fr updates reads positions
    → AreOfLane positions (read_lane lanes) (read_positions updates (read_lane lanes) 0 reads)
read_lane_positions lanes fr updates reads positions are = record { ordered = ordered; those = λ s. (to s, from s); placed = placed }
  where
    size : length (read_positions updates (read_lane lanes) 0 reads) ≡ length reads
    size = reads_length updates (read_lane lanes) 0 reads

    at_rises : (i j : ℕ) → i < j → j < length reads → (get_or reads i no_instance).at ≤ (get_or reads j no_instance).at
    at_rises i j below lt = by (get_or reads i no_instance) (get_or reads j no_instance) (are.are_reads.ordered i j no_instance below lt)
      where
        by : (a b : Instance) → IsSooner a b → a.at ≤ b.at
        by a b (inl less) = omega (arith, less)
        by a b (inr (at, rest)) = omega (arith, at)

    with_rises : (m n : ℕ) → m ≤ n → n < length updates → (get_or updates m no_position).t ≤ (get_or updates n no_position).t
    with_rises m n le lt =
        elim (cases_lt m n) [
          | inl below ↦ position_rises (get_or updates m no_position) (get_or updates n no_position) (are.are_updates.ordered m n no_position below lt)
          | inr ge ↦ (let same : m ≡ n = omega (arith, le, ge) in subst (λ (k : ℕ). (get_or updates m no_position).t ≤ (get_or updates k no_position).t) same (omega arith))
        ]

    ordered : AllPairs IsPositionBefore (read_positions updates (read_lane lanes) 0 reads)
    ordered i j d below lt =
        let within : j < length reads = omega (arith, lt, size) in
        let a = read_at updates (read_lane lanes) 0 reads i d (omega (arith, below, within)) in
        let b = read_at updates (read_lane lanes) 0 reads j d within in
        let at = at_rises i j below within in
        let last = reads_within fr (length updates) reads are.are_reads j no_instance within in
        let low = last.0 in
        let high = last.1 in
        let le = with_rises ((get_or reads i no_instance).at - 1) ((get_or reads j no_instance).at - 1) (omega (arith, at)) (omega (arith, low, high)) in
        let ta = ap (λ (s : Position). s.t) a in
        let tb = ap (λ (s : Position). s.t) b in
        let pa = ap (λ (s : Position). s.place) a in
        let pb = ap (λ (s : Position). s.place) b in
        before_later (get_or (read_positions updates (read_lane lanes) 0 reads) i d) (get_or (read_positions updates (read_lane lanes) 0 reads) j d)
        (omega (arith, le, ta, tb)) (ap (λ (s : Position). s.lane) a ∙ sym (ap (λ (s : Position). s.lane) b)) (omega (arith, pa, pb, below))

    placed : (k : ℕ) → k < length (read_positions updates (read_lane lanes) 0 reads) → (get_or (read_positions updates (read_lane lanes) 0 reads) k no_position).place ≡ k
    placed k lt =
        let e = ap (λ (s : Position). s.place) (read_at updates (read_lane lanes) 0 reads k no_position (omega (arith, lt, size))) in
        omega (arith, e)

    to : (s : Position) → Contains (read_positions updates (read_lane lanes) 0 reads) s → Contains positions s × (s.lane ≡ read_lane lanes)
    to s at = let r = (reads_those lanes updates reads s).0 at in ((are.are_all.those s).1 (inr r), r.in_lane)

    from : (s : Position) → Contains positions s × (s.lane ≡ read_lane lanes) → Contains (read_positions updates (read_lane lanes) 0 reads) s
    from s both = elim ((are.are_all.those s).0 both.0) [
      | inl u ↦ absurd (let here = both.1 in let other = u.in_lanes in omega (arith, here, other))
      | inr r ↦ (reads_those lanes updates reads s).1 r
    ]

-- the place of each position is the number of those before it in its lane
pub place_counted : (lanes : LineLanes) (fr : FrequencyTable) (updates : List Position) (reads : List Instance) (positions : List Position) (k : ℕ) → ArePositionsOf lanes fr updates reads positions → k < length positions
    → (get_or positions k no_position).place ≡ count_by (λ (s : Position). s.lane == (get_or positions k no_position).lane) (take k positions)
place_counted lanes fr updates reads positions k are lt = by ((are.are_all.those (get_or positions k no_position)).0 (Contains-get_or positions k no_position lt))
  where
    by : IsUpdatePosition lanes (get_or positions k no_position) ⊎ IsReadPosition lanes updates reads (get_or positions k no_position)
        → (get_or positions k no_position).place ≡ count_by (λ (s : Position). s.lane == (get_or positions k no_position).lane) (take k positions)
    by (inl u) =
        by_lane positions (get_or positions k no_position).lane (lane_positions (get_or positions k no_position).lane 0 (lane_of lanes (get_or positions k no_position).lane)) are.are_all.ordered
        (line_lane lanes fr updates reads positions (get_or positions k no_position).lane are u.in_lanes) k lt refl
    by (inr r) =
        by_lane positions (read_lane lanes) (read_positions updates (read_lane lanes) 0 reads) are.are_all.ordered (read_lane_positions lanes fr updates reads positions are) k lt r.in_lane
        ∙ ap (λ (l : ℕ). count_by (λ (s : Position). s.lane == l) (take k positions)) (sym r.in_lane)
