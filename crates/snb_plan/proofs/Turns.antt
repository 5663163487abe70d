-- The instances of the queries that go with so many updates.
use Rattle.std.proofs.Common.{◌≡◌, ℕ, zero, suc, ◌+◌, ◌-◌, ◌*◌, ◌/◌, ◌<◌, ◌≤◌, true, false, List, [], ◌∷◌, length, get_or, ◌⊎◌, inl, inr, refl, sym, ap, ◌∙◌, subst, arith}
use Rattle.std.specs.Prelude.{if◌then◌else◌, ◌==◌}
use Rattle.std.specs.List.{AllPairs, Contains, flat_map, sum_by}
use Rattle.std.specs.List.Sorted.{IsPermutation, IsSorted}
use Rattle.std.specs.Ordering.{nat_cmp, ordering_then, is_lt}
use Rattle.std.proofs.lemmas.Bool.{cases_Bool, cases_lt, eqb-false, eqb-true}
use Rattle.std.proofs.lemmas.List.Elements.{Contains-append_cases, Contains-append_left, Contains-append_right}
use Rattle.std.proofs.lemmas.List.Concat.{length-flat_map}
use Rattle.std.proofs.lemmas.List.FromFn.{get_or-map-range_with_len, length-map-range_with_len}
use Rattle.std.proofs.lemmas.Nat.{div-add-mod', div-mul-add, le-div, mul-le}
use Rattle.snb_plan.specs.contracts.instances.InstanceOrd.TheImpl.Laws.{total-law}
use Rattle.snb_schema.specs.Frequencies.{FrequencyTable, frequency_at}
use Rattle.snb_schema.specs.Queries.{IsOneOf, complex_queries}
use Rattle.snb_schema.proofs.Laws.{frequent_complex}
use Rattle.snb_plan.specs.declared.instances.Instance.{Instance}
use Rattle.snb_plan.specs.Merging.{AreReads, IsInstance, IsSooner, read_count, share}
use Rattle.snb_plan.specs.Instances.{all_instances, instance_of, instances_of}
use Rattle.snb_plan.proofs.Ordered.{Distinct, by_three, distinct_from_pairs, distinct_permutation, pairs_from_sorted, same_elements}
use Rattle.snb_base.proofs.Laws.{pairs_append}

-- ---- how many

positive : (f : ℕ) → (f == 0) ≡ false → 0 < f
positive f e = elim (cases_lt 0 f) [ inl lt ↦ lt | inr le ↦ absurd (eqb-false f 0 e (omega (arith, le))) ]

-- a turn within the share has an update
share_within : (c f k : ℕ) → k < share c f → (0 < f) × ((k + 1) * f ≤ c)
share_within c f k lt = by (cases_Bool (f == 0))
  where
    by : ((f == 0) ≡ true) ⊎ ((f == 0) ≡ false) → (0 < f) × ((k + 1) * f ≤ c)
    by (inl none) = absurd (let e : share c f ≡ 0 = (λ i. if none i then 0 else c / f) in omega (arith, e, lt))
    by (inr some) =
        let e : share c f ≡ c / f = (λ i. if some i then 0 else c / f) in
        let le : (k + 1) * f ≤ (c / f) * f = mul-le (k + 1) f (c / f) f (omega (arith, e, lt)) (omega arith) in
        (positive f some, omega (arith, le, div-add-mod' c f))

-- and a turn that has one is within the share
share_from : (c f t : ℕ) → 0 < f → t * f ≤ c → t ≤ share c f
share_from c f t pos le = by (cases_Bool (f == 0))
  where
    by : ((f == 0) ≡ true) ⊎ ((f == 0) ≡ false) → t ≤ share c f
    by (inl none) = absurd (let e = eqb-true f 0 none in omega (arith, e, pos))
    by (inr some) = (let e : share c f ≡ c / f = (λ i. if some i then 0 else c / f) in let q = le-div t c f pos le in omega (arith, e, q))

-- turns that go with one update are one
same_turn : (t u f : ℕ) → 0 < f → t * f ≡ u * f → t ≡ u
same_turn t u f pos e = sym (div-mul-add t f 0 pos) ∙ ap (λ (n : ℕ). (n + 0) / f) e ∙ div-mul-add u f 0 pos

-- ---- the instances of a query

in_part : (fr : FrequencyTable) (c q : ℕ) (i : Instance) → Contains (instances_of fr c q) i
    → (k : ℕ) × (k < share c (frequency_at fr q)) × (i ≡ instance_of (frequency_at fr q) q k)
in_part fr c q i at =
    let lt : at.0 < share c (frequency_at fr q) =
    (let l = at.1 in omega (arith, l, length-map-range_with_len (instance_of (frequency_at fr q) q) 0 (share c (frequency_at fr q)))) in
    (at.0, lt, sym at.2 ∙ get_or-map-range_with_len (instance_of (frequency_at fr q) q) 0 (share c (frequency_at fr q)) at.0 at.0 i lt (omega arith))

from_part : (fr : FrequencyTable) (c q k : ℕ) → k < share c (frequency_at fr q) → Contains (instances_of fr c q) (instance_of (frequency_at fr q) q k)
from_part fr c q k lt = (
  k,
  omega (arith, lt, length-map-range_with_len (instance_of (frequency_at fr q) q) 0 (share c (frequency_at fr q))),
  get_or-map-range_with_len (instance_of (frequency_at fr q) q) 0 (share c (frequency_at fr q)) k k (instance_of (frequency_at fr q) q k) lt (omega arith),
)

part_good : (fr : FrequencyTable) (c q : ℕ) (i : Instance) → Contains (instances_of fr c q) i → IsInstance fr c i
part_good fr c q i at =
    let k = in_part fr c q i at in
    let w = share_within c (frequency_at fr q) k.0 k.1 in
    subst (λ (x : Instance). IsInstance fr c x) (sym k.2) (record { frequent = w.0; turns = omega arith; at = refl; within = w.1 })

part_of : (fr : FrequencyTable) (c : ℕ) (i : Instance) → IsInstance fr c i → Contains (instances_of fr c i.query) i
part_of fr c i is =
    let f : ℕ = frequency_at fr i.query in
    let turns = is.turns in
    let k : (i.turn - 1) + 1 ≡ i.turn = omega (arith, turns) in
    let le : i.turn * frequency_at fr i.query ≤ c = subst (λ (n : ℕ). n ≤ c) is.at is.within in
    let many = share_from c (frequency_at fr i.query) i.turn is.frequent le in
    let same : instance_of (frequency_at fr i.query) i.query (i.turn - 1) ≡ i =
    λ j. record { at = (ap (λ (n : ℕ). n * frequency_at fr i.query) k ∙ sym is.at) j; query = i.query; turn = k j } in
    subst (Contains (instances_of fr c i.query)) same (from_part fr c i.query (i.turn - 1) (omega (arith, many, turns)))

-- ---- all queries

-- by query, then by turn
IsLater : Instance → Instance → Type 0
IsLater a b = (a.query < b.query) ⊎ ((a.query ≡ b.query) × (a.turn < b.turn))

not_later : (a : Instance) → IsLater a a → ⊥
unfolding IsLater
not_later a (inl lt) = omega (arith, lt)
not_later a (inr (same, lt)) = omega (arith, lt)

-- the instances of some queries, of which none is below this one
record Parts (fr : FrequencyTable) (c : ℕ) (xs : List Instance) (least : ℕ) : Type 0 where
  pub pairs : AllPairs IsLater xs
  pub above : (i : Instance) → Contains xs i → least ≤ i.query
  pub good : (i : Instance) → Contains xs i → IsInstance fr c i

part_query : (fr : FrequencyTable) (c q : ℕ) (i : Instance) → Contains (instances_of fr c q) i → i.query ≡ q
part_query fr c q i at = ap (λ (x : Instance). x.query) (in_part fr c q i at).2

part_pairs : (fr : FrequencyTable) (c q : ℕ) → AllPairs IsLater (instances_of fr c q)
unfolding IsLater
part_pairs fr c q i j d below lt =
    let size = length-map-range_with_len (instance_of (frequency_at fr q) q) 0 (share c (frequency_at fr q)) in
    let a = get_or-map-range_with_len (instance_of (frequency_at fr q) q) 0 (share c (frequency_at fr q)) i i d (omega (arith, size, below, lt)) (omega arith) in
    let b = get_or-map-range_with_len (instance_of (frequency_at fr q) q) 0 (share c (frequency_at fr q)) j j d (omega (arith, size, lt)) (omega arith) in
    let ta = ap (λ (x : Instance). x.turn) a in
    let tb = ap (λ (x : Instance). x.turn) b in
    inr (ap (λ (x : Instance). x.query) a ∙ sym (ap (λ (x : Instance). x.query) b), omega (arith, ta, tb, below))

-- queries rise from this number on
IsRising : ℕ → List ℕ → Type 0
IsRising least [] = Unit {0}
IsRising least (q ∷ qs) = (least ≤ q) × IsRising (q + 1) qs

parts_of : (fr : FrequencyTable) (c least : ℕ) (qs : List ℕ) → IsRising least qs → Parts fr c (flat_map (instances_of fr c) qs) least
unfolding IsLater IsRising
parts_of fr c least [] rising = record {
  pairs = λ i j d below lt. absurd (omega (arith, lt));
  above = λ i at. absurd (let lt = at.1 in omega (arith, lt));
  good = λ i at. absurd (let lt = at.1 in omega (arith, lt));
}
parts_of fr c least (q ∷ qs) (from, rising) =
    let rest = parts_of fr c (q + 1) qs rising in
    record {
      pairs = pairs_append IsLater (instances_of fr c q) (flat_map (instances_of fr c) qs) (part_pairs fr c q) rest.pairs
          (λ x y one other. let e = part_query fr c q x one in let high = rest.above y other in inl (omega (arith, e, high)));
      above = λ i at. elim (Contains-append_cases (instances_of fr c q) (flat_map (instances_of fr c) qs) i at) [
        | inl one ↦ let e = part_query fr c q i one in omega (arith, e, from)
        | inr other ↦ let high = rest.above i other in omega (arith, high, from)
      ];
      good = λ i at. elim (Contains-append_cases (instances_of fr c q) (flat_map (instances_of fr c) qs) i at) [ inl one ↦ part_good fr c q i one | inr other ↦ rest.good i other ];
    }

all_parts : (fr : FrequencyTable) (c : ℕ) → Parts fr c (all_instances fr c) 1
unfolding IsRising
all_parts fr c = parts_of fr c 1 complex_queries (omega arith, (omega arith, (omega arith, (omega arith, (omega arith, (omega arith, (omega arith, tt)))))))

-- an instance of one of the queries is among theirs
among : (fr : FrequencyTable) (c : ℕ) (qs : List ℕ) (q : ℕ) (i : Instance) → IsOneOf q qs → Contains (instances_of fr c q) i → Contains (flat_map (instances_of fr c) qs) i
among fr c [] q i none at = absurd none
among fr c (x ∷ qs) q i (inl here) at =
    Contains-append_left (instances_of fr c x) (flat_map (instances_of fr c) qs) i (subst (λ (n : ℕ). Contains (instances_of fr c n) i) here at)
among fr c (x ∷ qs) q i (inr later) at = Contains-append_right (instances_of fr c x) (flat_map (instances_of fr c) qs) i (among fr c qs q i later at)

all_of : (fr : FrequencyTable) (c : ℕ) (i : Instance) → IsInstance fr c i → Contains (all_instances fr c) i
all_of fr c i is = among fr c complex_queries i.query i (frequent_complex fr i.query is.frequent) (part_of fr c i is)

-- ---- in order

IsSoonerOf : FrequencyTable → ℕ → Instance → Instance → Type 0
IsSoonerOf fr c a b = IsInstance fr c a → IsInstance fr c b → IsSooner a b

apart : (fr : FrequencyTable) (c : ℕ) (a b : Instance) → is_lt (ordering_then (nat_cmp b.at a.at) (ordering_then (nat_cmp b.query a.query) (nat_cmp b.turn a.turn))) ≡ false
    → (a ≡ b → ⊥) → IsSoonerOf fr c a b
unfolding IsSoonerOf
apart fr c a b not_less differ one other = by (by_three a.at a.query a.turn b.at b.query b.turn not_less)
  where
    by : (a.at < b.at) ⊎ ((a.at ≡ b.at) × ((a.query < b.query) ⊎ ((a.query ≡ b.query) × (a.turn ≤ b.turn)))) → IsSooner a b
    by (inl lt) = inl lt
    by (inr (at, inl lt)) = inr (at, lt)
    by (inr (at, inr (query, le))) =
        let f : frequency_at fr a.query ≡ frequency_at fr b.query = ap (frequency_at fr) query in
        let product : a.turn * frequency_at fr a.query ≡ b.turn * frequency_at fr a.query = sym one.at ∙ at ∙ other.at ∙ ap (λ (n : ℕ). b.turn * n) (sym f) in
        let turn : a.turn ≡ b.turn = same_turn a.turn b.turn (frequency_at fr a.query) one.frequent product in
        absurd (differ (λ i. record { at = at i; query = query i; turn = turn i }))

-- the instances that are sorted are the reads
pub reads_sorted : (fr : FrequencyTable) (c : ℕ) (xs ys : List Instance) → xs ≡ all_instances fr c → IsPermutation xs ys
    → IsSorted (λ a b. ordering_then (nat_cmp a.at b.at) (ordering_then (nat_cmp a.query b.query) (nat_cmp a.turn b.turn))) ys → AreReads fr c ys
unfolding IsSoonerOf IsLater
reads_sorted fr c xs ys are moved sorted = record {
  ordered = λ i j d below lt. pairs i j d below lt (good i d (omega (arith, below, lt))) (good j d lt);
  those = λ i. let same = same_elements xs ys moved i in (
    λ at. (all_parts fr c).good i (subst (λ (zs : List Instance). Contains zs i) are (same.0 at)),
    λ is. same.1 (subst (λ (zs : List Instance). Contains zs i) (sym are) (all_of fr c i is)),
  );
}
  where
    distinct : Distinct xs
    distinct = subst Distinct (sym are) (distinct_from_pairs IsLater not_later (all_instances fr c) (all_parts fr c).pairs)

    pairs : AllPairs (IsSoonerOf fr c) ys
    pairs = pairs_from_sorted (λ a b. ordering_then (nat_cmp a.at b.at) (ordering_then (nat_cmp a.query b.query) (nat_cmp a.turn b.turn))) (IsSoonerOf fr c) total-law (apart fr c) ys sorted
        (distinct_permutation xs ys moved distinct)

    at_itself : {X : Type 0} (zs : List X) (k : ℕ) (d : X) → k < length zs → get_or zs k (get_or zs k d) ≡ get_or zs k d
    at_itself [] k d lt = absurd (omega (arith, lt))
    at_itself (z ∷ zs) zero d lt = refl
    at_itself (z ∷ zs) (suc k) d lt = at_itself zs k d (omega (arith, lt))

    good : (k : ℕ) (d : Instance) → k < length ys → IsInstance fr c (get_or ys k d)
    good k d lt = (all_parts fr c).good (get_or ys k d)
        (subst (λ (zs : List Instance). Contains zs (get_or ys k d)) are ((same_elements xs ys moved (get_or ys k d)).0 (k, lt, at_itself ys k d lt)))

-- there are as many as all shares together
pub instances_counted : (fr : FrequencyTable) (c : ℕ) → length (all_instances fr c) ≡ read_count fr c
instances_counted fr c =
    let each : (q : ℕ) → length (instances_of fr c q) ≡ share c (frequency_at fr q) = λ q. length-map-range_with_len (instance_of (frequency_at fr q) q) 0 (share c (frequency_at fr q)) in
    length-flat_map (instances_of fr c) complex_queries ∙ ap (λ (f : ℕ → ℕ). sum_by f complex_queries) (λ i q. each q i)
