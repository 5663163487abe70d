-- Where operations stand, lane by lane.
use Rattle.std.proofs.Common.{◌≡◌, ◌↔◌, ℕ, zero, suc, ◌+◌, ◌-◌, ◌<◌, ◌≤◌, List, [], ◌∷◌, ◌++◌, length, get_or, false, ◌⊎◌, inl, inr, refl, sym, ap, ◌∙◌, subst, arith, add-zero, append_assoc, length-append, length-take, take}
use Rattle.std.specs.List.{AllPairs, Contains, sum_by}
use Rattle.std.specs.List.Sorted.{IsPermutation, IsSorted}
use Rattle.std.specs.Ordering.{nat_cmp, ordering_then, is_lt}
use Rattle.std.proofs.lemmas.Bool.{cases_lt}
use Rattle.std.proofs.lemmas.List.{get_or_default, take_more}
use Rattle.std.proofs.lemmas.List.Elements.{Contains-append_cases, Contains-append_left, Contains-append_right}
use Rattle.std.proofs.lemmas.List.Sums.{sum_by-cons}
use Rattle.snb_plan.specs.contracts.positions.PositionOrd.TheImpl.Laws.{total-law}
use Rattle.snb_schema.specs.declared.op.Line.{Line}
use Rattle.snb_schema.specs.LineLanes.{LineLanes}
use Rattle.snb_plan.specs.declared.instances.Instance.{Instance}
use Rattle.snb_plan.specs.declared.positions.Position.{Position}
use Rattle.snb_plan.specs.Merging.{numbered_lanes, read_lane}
use Rattle.snb_plan.specs.Positions.{AreUpdatePositions, IsReadPosition, IsPositionBefore, IsUpdatePosition}
use Rattle.snb_plan.specs.Instances.{all_positions, lane_positions, no_instance, no_line, no_position, read_positions}
use Rattle.snb_plan.proofs.Ordered.{Distinct, by_three, distinct_from_pairs, distinct_permutation, pairs_from_sorted, same_elements}
use Rattle.snb_base.proofs.Laws.{none_in, pairs_append}

-- the position of a t, a lane and a place
abbrev pub position : ℕ → ℕ → ℕ → Position
position t lane place = record { t = t; lane = lane; place = place }

-- ---- order

-- by lane, then by place
abbrev pub IsFurther : Position → Position → Type 0
IsFurther a b = (a.lane < b.lane) ⊎ ((a.lane ≡ b.lane) × (a.place < b.place))

not_further : (s : Position) → IsFurther s s → ⊥
not_further s (inl lt) = omega (arith, lt)
not_further s (inr (same, lt)) = omega (arith, lt)

-- positions that the order of the code tells apart
position_apart : (a b : Position) → is_lt (ordering_then (nat_cmp b.t a.t) (ordering_then (nat_cmp b.lane a.lane) (nat_cmp b.place a.place))) ≡ false → (a ≡ b → ⊥) → IsPositionBefore a b
position_apart a b not_less differ = by (by_three a.t a.lane a.place b.t b.lane b.place not_less)
  where
    by : (a.t < b.t) ⊎ ((a.t ≡ b.t) × ((a.lane < b.lane) ⊎ ((a.lane ≡ b.lane) × (a.place ≤ b.place)))) → IsPositionBefore a b
    by (inl lt) = inl lt
    by (inr (t, inl lt)) = inr (t, inl lt)
    by (inr (t, inr (lane, le))) =
        elim (cases_lt a.place b.place) [
          | inl lt ↦ inr (t, inr (lane, lt))
          | inr ge ↦ absurd (let place : a.place ≡ b.place = omega (arith, le, ge) in differ (λ i. record { t = t i; lane = lane i; place = place i }))
        ]

-- positions that are sorted are in order
pub positions_sorted : (P : Position → Type 0) (xs ys : List Position) → Distinct xs → ((s : Position) → Contains xs s ↔ P s) → IsPermutation xs ys
    → IsSorted (λ a b. ordering_then (nat_cmp a.t b.t) (ordering_then (nat_cmp a.lane b.lane) (nat_cmp a.place b.place))) ys
    → AllPairs IsPositionBefore ys × ((s : Position) → Contains ys s ↔ P s)
positions_sorted P xs ys distinct those moved sorted = (
  pairs_from_sorted (λ a b. ordering_then (nat_cmp a.t b.t) (ordering_then (nat_cmp a.lane b.lane) (nat_cmp a.place b.place))) IsPositionBefore total-law position_apart ys sorted (distinct_permutation xs ys moved distinct),
  λ s. let same = same_elements xs ys moved s in (λ at. (those s).0 (same.0 at), λ p. same.1 ((those s).1 p)),
)

-- ---- lines

pub position_at : (lane place : ℕ) (lines : List Line) (k : ℕ) (d : Position) → k < length lines → get_or (lane_positions lane place lines) k d ≡ position (get_or lines k no_line).t lane (place + k)
position_at lane place [] k d lt = absurd (omega arith)
position_at lane place (x ∷ lines) zero d lt = ap (λ (p : ℕ). position x.t lane p) (sym (add-zero place))
position_at lane place (x ∷ lines) (suc k) d lt =
    let same : place + 1 + k ≡ place + suc k = omega arith in
    position_at lane (place + 1) lines k d (omega (arith, lt)) ∙ ap (λ (p : ℕ). position (get_or lines k no_line).t lane p) same

pub lane_length : (lane place : ℕ) (lines : List Line) → length (lane_positions lane place lines) ≡ length lines
lane_length lane place [] = refl
lane_length lane place (x ∷ lines) = ap suc (lane_length lane (place + 1) lines)

-- one line more
pub lane_more : (lane place : ℕ) (lines : List Line) (x : Line) → lane_positions lane place (lines ++ x ∷ []) ≡ lane_positions lane place lines ++ position x.t lane (place + length lines) ∷ []
lane_more lane place [] x = ap (λ (p : ℕ). position x.t lane p ∷ []) (sym (add-zero place))
lane_more lane place (y ∷ lines) x =
    let same : place + 1 + length lines ≡ place + suc (length lines) = omega arith in
    ap (λ (rest : List Position). position y.t lane place ∷ rest) (lane_more lane (place + 1) lines x ∙ ap (λ (p : ℕ). lane_positions lane (place + 1) lines ++ position x.t lane p ∷ []) same)

-- one lane more
pub lanes_more : (n : ℕ) (lanes : List (List Line)) (lines : List Line) → all_positions n (lanes ++ lines ∷ []) ≡ all_positions n lanes ++ lane_positions (n + length lanes) 0 lines
lanes_more n [] lines = append_nil (lane_positions n 0 lines) ∙ ap (λ (m : ℕ). lane_positions m 0 lines) (sym (add-zero n))
  where
    append_nil : (xs : List Position) → xs ++ [] ≡ xs
    append_nil [] = refl
    append_nil (x ∷ xs) = ap (λ (ys : List Position). x ∷ ys) (append_nil xs)
lanes_more n (own ∷ lanes) lines =
    let same : n + 1 + length lanes ≡ n + suc (length lanes) = omega arith in
    ap (λ (rest : List Position). lane_positions n 0 own ++ rest) (lanes_more (n + 1) lanes lines ∙ ap (λ (m : ℕ). all_positions (n + 1) lanes ++ lane_positions m 0 lines) same)
    ∙ sym (append_assoc (lane_positions n 0 own) (all_positions (n + 1) lanes) (lane_positions (n + suc (length lanes)) 0 lines))

-- what a lane's positions are
pub in_lane : (lane place : ℕ) (lines : List Line) (s : Position) → Contains (lane_positions lane place lines) s
    → (k : ℕ) × (k < length lines) × (s ≡ position (get_or lines k no_line).t lane (place + k))
in_lane lane place lines s at =
    let lt : at.0 < length lines = (let l = at.1 in omega (arith, l, lane_length lane place lines)) in
    (at.0, lt, sym at.2 ∙ position_at lane place lines at.0 s lt)

record IsAt (n : ℕ) (lanes : List (List Line)) (s : Position) : Type 0 where
  pub l : ℕ
  pub within : l < length lanes
  pub lane : s.lane ≡ n + l
  pub place : s.place < length (get_or lanes l [])
  pub t : s.t ≡ (get_or (get_or lanes l []) s.place no_line).t

in_all : (n : ℕ) (lanes : List (List Line)) (s : Position) → Contains (all_positions n lanes) s → IsAt n lanes s
in_all n [] s at = absurd (none_in s at)
in_all n (lines ∷ lanes) s at = elim (Contains-append_cases (lane_positions n 0 lines) (all_positions (n + 1) lanes) s at) [
  | inl here ↦ (
      let k = in_lane n 0 lines s here in
      let lt = k.1 in
      let place : k.0 ≡ s.place = (let e = ap (λ (x : Position). x.place) k.2 in omega (arith, e)) in
      let lane : s.lane ≡ n + 0 = (let e = ap (λ (x : Position). x.lane) k.2 in omega (arith, e)) in
      record {
        l = 0;
        within = omega arith;
        lane = lane;
        place = omega (arith, place, lt);
        t = ap (λ (x : Position). x.t) k.2 ∙ ap (λ (p : ℕ). (get_or lines p no_line).t) place;
      })
  | inr later ↦ (
      let r : IsAt (n + 1) lanes s = in_all (n + 1) lanes s later in
      let w = r.within in
      let e = r.lane in
      record { l = suc r.l; within = omega (arith, w); lane = omega (arith, e); place = r.place; t = r.t })
]

from_at : (n : ℕ) (lanes : List (List Line)) (l p : ℕ) → l < length lanes → p < length (get_or lanes l [])
    → Contains (all_positions n lanes) (position (get_or (get_or lanes l []) p no_line).t (n + l) p)
from_at n [] l p ll lp = absurd (omega (arith, ll))
from_at n (lines ∷ lanes) zero p ll lp =
    let here : Contains (lane_positions n 0 lines) (position (get_or lines p no_line).t n (0 + p)) = (
      p,
      omega (arith, lp, lane_length n 0 lines),
      position_at n 0 lines p (position (get_or lines p no_line).t n (0 + p)) lp,
    ) in
    let place : 0 + p ≡ p = omega arith in
    Contains-append_left (lane_positions n 0 lines) (all_positions (n + 1) lanes) (position (get_or lines p no_line).t (n + 0) p)
    (subst (λ (m : ℕ). Contains (lane_positions n 0 lines) (position (get_or lines p no_line).t m p)) (sym (add-zero n))
    (subst (λ (q : ℕ). Contains (lane_positions n 0 lines) (position (get_or lines p no_line).t n q)) place here))
from_at n (lines ∷ lanes) (suc l) p ll lp =
    let same : n + 1 + l ≡ n + suc l = omega arith in
    Contains-append_right (lane_positions n 0 lines) (all_positions (n + 1) lanes) (position (get_or (get_or lanes l []) p no_line).t (n + suc l) p)
    (subst (λ (m : ℕ). Contains (all_positions (n + 1) lanes) (position (get_or (get_or lanes l []) p no_line).t m p)) same (from_at (n + 1) lanes l p (omega (arith, ll)) lp))

-- a lane's positions are in the order of places, and those of all lanes in the order of lanes
lane_pairs : (lane place : ℕ) (lines : List Line) → AllPairs IsFurther (lane_positions lane place lines)
lane_pairs lane place lines i j d below lt =
    let size = lane_length lane place lines in
    let a = position_at lane place lines i d (omega (arith, below, lt, size)) in
    let b = position_at lane place lines j d (omega (arith, lt, size)) in
    let pa = ap (λ (s : Position). s.place) a in
    let pb = ap (λ (s : Position). s.place) b in
    inr (ap (λ (s : Position). s.lane) a ∙ sym (ap (λ (s : Position). s.lane) b), omega (arith, pa, pb, below))

all_pairs : (n : ℕ) (lanes : List (List Line)) → AllPairs IsFurther (all_positions n lanes)
all_pairs n [] = λ i j d below lt. absurd (omega (arith, lt))
all_pairs n (lines ∷ lanes) =
    pairs_append IsFurther (lane_positions n 0 lines) (all_positions (n + 1) lanes) (lane_pairs n 0 lines) (all_pairs (n + 1) lanes)
    (λ x y here later.
    let a = ap (λ (s : Position). s.lane) (in_lane n 0 lines x here).2 in
    let b : IsAt (n + 1) lanes y = in_all (n + 1) lanes y later in
    let e = b.lane in
    inl (omega (arith, a, e)))

-- the positions of all lines stand at no two places of the list
pub all_distinct : (lanes : LineLanes) → Distinct (all_positions 0 (numbered_lanes lanes))
all_distinct lanes = distinct_from_pairs IsFurther not_further (all_positions 0 (numbered_lanes lanes)) (all_pairs 0 (numbered_lanes lanes))

-- and they are those at which a line stands
pub all_those : (lanes : LineLanes) (s : Position) → Contains (all_positions 0 (numbered_lanes lanes)) s ↔ IsUpdatePosition lanes s
all_those lanes s = (to, from)
  where
    all : List (List Line)
    all = numbered_lanes lanes

    to : Contains (all_positions 0 (numbered_lanes lanes)) s → IsUpdatePosition lanes s
    to at =
        let r : IsAt 0 (numbered_lanes lanes) s = in_all 0 (numbered_lanes lanes) s at in
        let same : r.l ≡ s.lane = (let e = r.lane in omega (arith, e)) in
        record {
          in_lanes = subst (λ (l : ℕ). l < length (numbered_lanes lanes)) same r.within;
          within = subst (λ (l : ℕ). s.place < length (get_or (numbered_lanes lanes) l [])) same r.place;
          at_t = subst (λ (l : ℕ). s.t ≡ (get_or (get_or (numbered_lanes lanes) l []) s.place no_line).t) same r.t;
        }

    from : IsUpdatePosition lanes s → Contains (all_positions 0 (numbered_lanes lanes)) s
    from u =
        let lane : 0 + s.lane ≡ s.lane = omega arith in
        let line : Line = get_or (get_or (numbered_lanes lanes) s.lane []) s.place no_line in
        subst (λ (t : ℕ). Contains (all_positions 0 (numbered_lanes lanes)) (position t s.lane s.place)) (sym u.at_t)
        (subst (λ (l : ℕ). Contains (all_positions 0 (numbered_lanes lanes)) (position line.t l s.place)) lane (from_at 0 (numbered_lanes lanes) s.lane s.place u.in_lanes u.within))

-- there is a position for each line
pub all_length : (n : ℕ) (lanes : List (List Line)) → length (all_positions n lanes) ≡ sum_by (λ (lines : List Line). length lines) lanes
all_length n [] = refl
all_length n (lines ∷ lanes) =
    let more = all_length (n + 1) lanes in
    let size = length-append (lane_positions n 0 lines) (all_positions (n + 1) lanes) in
    let own = lane_length n 0 lines in
    let sum = sum_by-cons (λ (x : List Line). length x) lines lanes in
    omega (arith, more, size, own, sum)

-- ---- reads

pub read_at : (updates : List Position) (lane place : ℕ) (reads : List Instance) (k : ℕ) (d : Position) → k < length reads
    → get_or (read_positions updates lane place reads) k d ≡ position (get_or updates ((get_or reads k no_instance).at - 1) no_position).t lane (place + k)
read_at updates lane place [] k d lt = absurd (omega arith)
read_at updates lane place (x ∷ reads) zero d lt = ap (λ (p : ℕ). position (get_or updates (x.at - 1) no_position).t lane p) (sym (add-zero place))
read_at updates lane place (x ∷ reads) (suc k) d lt =
    let same : place + 1 + k ≡ place + suc k = omega arith in
    read_at updates lane (place + 1) reads k d (omega (arith, lt))
    ∙ ap (λ (p : ℕ). position (get_or updates ((get_or reads k no_instance).at - 1) no_position).t lane p) same

pub reads_length : (updates : List Position) (lane place : ℕ) (reads : List Instance) → length (read_positions updates lane place reads) ≡ length reads
reads_length updates lane place [] = refl
reads_length updates lane place (x ∷ reads) = ap suc (reads_length updates lane (place + 1) reads)

-- one read more
pub reads_more : (updates : List Position) (lane place : ℕ) (reads : List Instance) (x : Instance)
    → read_positions updates lane place (reads ++ x ∷ []) ≡ read_positions updates lane place reads ++ position (get_or updates (x.at - 1) no_position).t lane (place + length reads) ∷ []
reads_more updates lane place [] x = ap (λ (p : ℕ). position (get_or updates (x.at - 1) no_position).t lane p ∷ []) (sym (add-zero place))
reads_more updates lane place (y ∷ reads) x =
    let same : place + 1 + length reads ≡ place + suc (length reads) = omega arith in
    ap (λ (rest : List Position). position (get_or updates (y.at - 1) no_position).t lane place ∷ rest)
    (reads_more updates lane (place + 1) reads x ∙ ap (λ (p : ℕ). read_positions updates lane (place + 1) reads ++ position (get_or updates (x.at - 1) no_position).t lane p ∷ []) same)

-- the positions of reads are those at which a read stands
pub reads_those : (lanes : LineLanes) (updates : List Position) (reads : List Instance) (s : Position)
    → Contains (read_positions updates (read_lane lanes) 0 reads) s ↔ IsReadPosition lanes updates reads s
reads_those lanes updates reads s = (to, from)
  where
    to : Contains (read_positions updates (read_lane lanes) 0 reads) s → IsReadPosition lanes updates reads s
    to at =
        let lt : at.0 < length reads = (let l = at.1 in omega (arith, l, reads_length updates (read_lane lanes) 0 reads)) in
        let is : s ≡ position (get_or updates ((get_or reads at.0 no_instance).at - 1) no_position).t (read_lane lanes) (0 + at.0) = sym at.2 ∙ read_at updates (read_lane lanes) 0 reads at.0 s lt in
        let place : at.0 ≡ s.place = (let e = ap (λ (x : Position). x.place) is in omega (arith, e)) in
        record {
          in_lane = ap (λ (x : Position). x.lane) is;
          within = subst (λ (k : ℕ). k < length reads) place lt;
          at_t = ap (λ (x : Position). x.t) is ∙ ap (λ (k : ℕ). (get_or updates ((get_or reads k no_instance).at - 1) no_position).t) place;
        }

    from : IsReadPosition lanes updates reads s → Contains (read_positions updates (read_lane lanes) 0 reads) s
    from r =
        let place : 0 + s.place ≡ s.place = omega arith in
        let is : position (get_or updates ((get_or reads s.place no_instance).at - 1) no_position).t (read_lane lanes) (0 + s.place) ≡ s =
        λ i. record { t = sym r.at_t i; lane = sym r.in_lane i; place = place i } in
        (s.place, (let w = r.within in omega (arith, w, reads_length updates (read_lane lanes) 0 reads)), read_at updates (read_lane lanes) 0 reads s.place s r.within ∙ is)

before_itself : (s : Position) → IsPositionBefore s s → ⊥
before_itself s (inl lt) = omega (arith, lt)
before_itself s (inr (t, inl lt)) = omega (arith, lt)
before_itself s (inr (t, inr (lane, lt))) = omega (arith, lt)

-- the positions of updates and reads stand at no two places of the list
pub both_distinct : (lanes : LineLanes) (updates : List Position) (reads : List Instance) → AreUpdatePositions lanes updates
    → Distinct (updates ++ read_positions updates (read_lane lanes) 0 reads)
both_distinct lanes updates reads are =
    distinct_from_pairs (λ x y. x ≡ y → ⊥) (λ x differs. differs refl) (updates ++ read_positions updates (read_lane lanes) 0 reads)
    (pairs_append (λ x y. x ≡ y → ⊥) updates (read_positions updates (read_lane lanes) 0 reads)
    (λ i j d below lt same. before_itself (get_or updates j d) (subst (λ (s : Position). IsPositionBefore s (get_or updates j d)) same (are.ordered i j d below lt)))
    (λ i j d below lt same.
    let size = reads_length updates (read_lane lanes) 0 reads in
    let a = ap (λ (s : Position). s.place) (read_at updates (read_lane lanes) 0 reads i d (omega (arith, below, lt, size))) in
    let b = ap (λ (s : Position). s.place) (read_at updates (read_lane lanes) 0 reads j d (omega (arith, lt, size))) in
    let e = ap (λ (s : Position). s.place) same in
    omega (arith, a, b, e, below))
    (λ x y one other same.
    let u : IsUpdatePosition lanes x = (are.those x).0 one in
    let r : IsReadPosition lanes updates reads y = (reads_those lanes updates reads y).0 other in
    let w = u.in_lanes in
    let l = r.in_lane in
    let e = ap (λ (s : Position). s.lane) same in
    omega (arith, w, l, e)))

-- and they are those at which a line or a read stands
pub both_those : (lanes : LineLanes) (updates : List Position) (reads : List Instance) → AreUpdatePositions lanes updates → (s : Position)
    → Contains (updates ++ read_positions updates (read_lane lanes) 0 reads) s ↔ (IsUpdatePosition lanes s ⊎ IsReadPosition lanes updates reads s)
both_those lanes updates reads are s = (
  λ at. elim (Contains-append_cases updates (read_positions updates (read_lane lanes) 0 reads) s at) [
    | inl one ↦ inl ((are.those s).0 one)
    | inr other ↦ inr ((reads_those lanes updates reads s).0 other)
  ],
  λ is. elim is [
    | inl u ↦ Contains-append_left updates (read_positions updates (read_lane lanes) 0 reads) s ((are.those s).1 u)
    | inr r ↦ Contains-append_right updates (read_positions updates (read_lane lanes) 0 reads) s ((reads_those lanes updates reads s).1 r)
  ],
)

-- the positions of the first lines, and that of the next
pub lane_next : (lane : ℕ) (lines : List Line) (k : ℕ) (d : Line) → k < length lines
    → lane_positions lane 0 (take (k + 1) lines) ≡ lane_positions lane 0 (take k lines) ++ position (get_or lines k d).t lane k ∷ []
lane_next lane lines k d lt =
    let size : 0 + length (take k lines) ≡ k = omega (arith, length-take k lines, lt) in
    ap (lane_positions lane 0) (take_more lines k d lt) ∙ lane_more lane 0 (take k lines) (get_or lines k d)
    ∙ ap (λ (p : ℕ). lane_positions lane 0 (take k lines) ++ position (get_or lines k d).t lane p ∷ []) size

-- the positions of the first lanes, and those of the next
pub lanes_next : (lanes : List (List Line)) (k : ℕ) → k < length lanes → all_positions 0 (take (k + 1) lanes) ≡ all_positions 0 (take k lanes) ++ lane_positions k 0 (get_or lanes k [])
lanes_next lanes k lt =
    let size : 0 + length (take k lanes) ≡ k = omega (arith, length-take k lanes, lt) in
    ap (all_positions 0) (take_more lanes k [] lt) ∙ lanes_more 0 (take k lanes) (get_or lanes k [])
    ∙ ap (λ (n : ℕ). all_positions 0 (take k lanes) ++ lane_positions n 0 (get_or lanes k [])) size

-- the positions of the first reads, and that of the next
pub reads_next : (updates : List Position) (lane : ℕ) (reads : List Instance) (k : ℕ) (d : Instance) → k < length reads
    → read_positions updates lane 0 (take (k + 1) reads) ≡ read_positions updates lane 0 (take k reads) ++ position (get_or updates ((get_or reads k d).at - 1) no_position).t lane k ∷ []
reads_next updates lane reads k d lt =
    let size : 0 + length (take k reads) ≡ k = omega (arith, length-take k reads, lt) in
    ap (read_positions updates lane 0) (take_more reads k d lt) ∙ reads_more updates lane 0 (take k reads) (get_or reads k d)
    ∙ ap (λ (p : ℕ). read_positions updates lane 0 (take k reads) ++ position (get_or updates ((get_or reads k d).at - 1) no_position).t lane p ∷ []) size

-- no lane is longer than all together
pub lane_within : (lanes : List (List Line)) (l : ℕ) → l < length lanes → length (get_or lanes l []) ≤ sum_by (λ (lines : List Line). length lines) lanes
lane_within [] l lt = absurd (omega (arith, lt))
lane_within (lines ∷ lanes) zero lt = (let sum = sum_by-cons (λ (x : List Line). length x) lines lanes in omega (arith, sum))
lane_within (lines ∷ lanes) (suc l) lt =
    let rest = lane_within lanes l (omega (arith, lt)) in
    let sum = sum_by-cons (λ (x : List Line). length x) lines lanes in
    omega (arith, rest, sum)

get_left : (xs ys : List Position) (k : ℕ) (d : Position) → k < length xs → get_or (xs ++ ys) k d ≡ get_or xs k d
get_left [] ys k d lt = absurd (omega (arith, lt))
get_left (x ∷ xs) ys zero d lt = refl
get_left (x ∷ xs) ys (suc k) d lt = get_left xs ys k d (omega (arith, lt))

-- the t of the update that a read goes with
pub with_t : (old rest items : List Position) (k : ℕ) (w : Position) → items ≡ old ++ rest → k < length old → w ≡ get_or items k w → w.t ≡ (get_or old k no_position).t
with_t old rest items k w is lt read =
    ap (λ (s : Position). s.t) (read ∙ ap (λ (xs : List Position). get_or xs k w) is ∙ get_left old rest k w lt ∙ get_or_default old k w no_position lt)
