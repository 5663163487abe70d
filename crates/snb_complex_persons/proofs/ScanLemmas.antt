-- Going over all persons for those of a first name near one.
use Rattle.std.proofs.Common.{◌≡◌, ◌↔◌, ℕ, suc, ◌<◌, ◌≤◌, Bool, true, false, cond, List, [], ◌∷◌, ◌++◌, map, filter, Option, Some, None, IsSome, refl, sym, ap, ◌∙◌, subst, inl, inr, arith, append-nil, append_assoc}
use Rattle.std.proofs.lemmas.Bool.{and_from, and_parts, cases_lt, eqb-true, lt-ltb, ltb-true}
use Rattle.std.proofs.lemmas.Bool.Decides.{nat_tests}
use Rattle.std.proofs.lemmas.List.{map_push}
use Rattle.std.proofs.lemmas.List.Elements.{All-contains, All-contains_itself, All-head, All-map, All-nil, All-push, All-tail, All-weaker}
use Rattle.std.proofs.lemmas.List.Kept.{AllPairs-cons, AllPairs-filter, IsStrictlySortedBy-filter}
use Rattle.std.specs.List.{All, Contains}
use Rattle.std.specs.List.Sorted.{IsStrictlySortedBy}
use Rattle.std.specs.Ordering.{nat_cmp, ordering_then}
use Rattle.std.specs.declared.cmp.Ordering.TheVariants.{Equal, Less}
use Rattle.snb_schema.specs.declared.person.Person.{Person}
use Rattle.snb_schema.specs.declared.row.Row.{Row}
use Rattle.snb_schema.specs.declared.row.Row.TheVariants as row
use Rattle.snb_schema.specs.declared.table.Table.TheVariants as table
use Rattle.snb_schema.specs.RowValues.{table_of}
use Rattle.snb_schema.specs.TableOrder.{same_table}
use Rattle.snb_graph_model.specs.Around.{friends, is_friend}
use Rattle.snb_graph_model.specs.Graphs.{IsGraph, row_order, rows}
use Rattle.snb_graph_model.proofs.Laws.{friend_here, friend_tells, friend_there, friend_told, in_rows, of_each}
use Rattle.snb_read_model.specs.ComplexReads.{is_named}
use Rattle.snb_read_model.specs.Distance.{IsDistance, IsPerson, IsWithin, FriendPath}
use Rattle.snb_read_laws.proofs.Laws.{Rises, same_rising, some_within}
use Rattle.snb_read_lookups.proofs.Laws.{person_at, walk_held}
use Rattle.snb_read_lookups.specs.Lookups.{IsOnlyPerson}
use Rattle.snb_reach.specs.Distances.{AreDistances}
use Rattle.snb_reach.proofs.Laws.{friend_turned, last_step, one_distance}
use Rattle.snb_complex_persons.proofs.NamesakeLemmas.{near_is}
use Rattle.snb_complex_persons.specs.Namesakes.{AreNamesakesWithin, IsNamesakeFound, IsNearFound, Namesake, namesake_of}
use Rattle.snb_complex_persons.specs.Scan.{IsScanned, distance_by, has_second, id_of, is_two, is_wanted, or_three, placed}
use Rattle.snb_base.proofs.Laws.{any_of, contains_map, from_any, in_filter, in_map}

none_some : (o : Option ℕ) → o ≡ None → IsSome o → ⊥
none_some None e h = cc
none_some (Some x) e h = cc

two_is : (o : Option ℕ) → is_two o ≡ true → o ≡ Some 2
two_is None e = absurd cc
two_is (Some n) e = ap Some (eqb-true n 2 e)

-- ---- distances by those met within two steps

module _ (g : List Row) (start : ℕ) (met : ℕ → Option ℕ) (are : AreDistances g start 2 met) (p : ℕ) where
  beyond : met p ≡ None → (m : ℕ) → FriendPath g start p m → 3 ≤ m
  beyond none m w = elim (cases_lt m 3) as (λ _. 3 ≤ m) [
    | inl less ↦ absurd (none_some (met p) none (are.near p m w (omega (arith, less))))
    | inr more ↦ more
  ]

  -- a friend at distance 2
  second_there : has_second g met p ≡ true → (q : ℕ) × (is_friend g q p ≡ true) × FriendPath g start q 2
  second_there e =
      let (f, c, two) = from_any (λ (f : ℕ × ℕ). is_two (met f.0)) (friends g p) e in
      (f.0, friend_turned g p f.0 (friend_tells g p f.0 f.1 (friend_there g p f.0 f.1 c)), (are.told f.0 2 (two_is (met f.0) two)).0.walk)

  second_here : (q : ℕ) → is_friend g q p ≡ true → met q ≡ Some 2 → has_second g met p ≡ true
  second_here q knows at =
      let (d, f) = friend_told g p q (friend_turned g q p knows) in
      any_of (λ (f : ℕ × ℕ). is_two (met f.0)) (friends g p) (q, d) (friend_here g p q d f) (ap is_two at)

  -- who comes before a person that isn't met is at distance 2
  before : met p ≡ None → (q : ℕ) → is_friend g q p ≡ true → FriendPath g start q 2 → IsPerson g p → (o : Option ℕ) → met q ≡ o → met q ≡ Some 2
  before none q knows w is None e = absurd (none_some (met q) e (are.near q 2 w (omega arith)))
  before none q knows w is (Some m) e =
      let at = (are.told q m e).0 in
      let low = at.least 2 w in
      let high = beyond none (suc m) (FriendPath.step start q p m at.walk knows is) in
      let same : m ≡ 2 = omega (arith, low, high) in
      e ∙ ap Some same

  by_told : IsPerson g p → (o : Option ℕ) → met p ≡ o → (b : Bool) → has_second g met p ≡ b → (n : ℕ) → 1 ≤ n → n ≤ 3 → IsDistance g start p n ↔ (or_three o b ≡ n)
  by_told is (Some m) e b h n low high = (
    λ at. one_distance g start p m n (are.told p m e).0 at,
    λ same. subst (IsDistance g start p) same (are.told p m e).0,
  )
  by_told is None e true h n low high =
      let (q, knows, w) = second_there h in
      let third : IsDistance g start p 3 = record { walk = FriendPath.step start q p 2 w knows is; least = beyond e } in
      (λ at. one_distance g start p 3 n third at, λ same. subst (IsDistance g start p) same third)
  by_told is None e false h n low high = (
    λ at. (let least = beyond e n at.walk in
        let three : n ≡ 3 = omega (arith, least, high) in
        let (q, w, knows) = last_step g start p n at.walk 2 three in
        let yes : has_second g met p ≡ true = second_here q knows (before e q knows w is (met q) refl) in
        absurd cc),
    λ same. absurd (omega (arith, same, low)),
  )

  -- a distance of 1 to 3 is the one that is told
  pub told_distance : IsPerson g p → (n : ℕ) → 1 ≤ n → n ≤ 3 → IsDistance g start p n ↔ (distance_by g met p ≡ n)
  told_distance is n low high = by_told is (met p) refl (has_second g met p) refl n low high

  by_most : (o : Option ℕ) → met p ≡ o → (b : Bool) → or_three o b ≤ 3
  by_most (Some m) e b = (let low = (are.told p m e).1 in omega (arith, low))
  by_most None e true = omega arith
  by_most None e false = omega arith

  -- none that is told is above 3
  pub told_most : distance_by g met p ≤ 3
  told_most = by_most (met p) refl (has_second g met p)

-- ---- the persons, as a walk gives them

abbrev pub Entry : Type 0
Entry = ℕ × Person

abbrev pub as_row : Entry → Row
as_row e = row.Person e.1

less_first : (m n : ℕ) → ordering_then (nat_cmp m n) Equal ≡ Less → m < n
less_first m n e = grind (arith, nat_tests, e)

module _ (met : ℕ → Option ℕ) (g : List Row) where
  abbrev place : Entry → ℕ × ℕ
  place e = placed g met e.1.id

  rising : (xs : List Entry) → IsStrictlySortedBy row_order (map as_row xs) → Rises (map place xs)
  unfolding IsStrictlySortedBy
  rising [] up = λ i j d low small. absurd (omega arith)
  rising (x ∷ xs) up =
      AllPairs-cons (λ (u : ℕ × ℕ) (v : ℕ × ℕ). u.0 < v.0) (place x) (map place xs)
      (All-map (λ (v : ℕ × ℕ). x.1.id < v.0) place xs (All-weaker (Contains xs) (λ e. x.1.id < e.1.id) (λ e c.
      less_first x.1.id e.1.id (of_each (λ y. row_order (as_row x) y ≡ Less) (map as_row xs) up.0 (as_row e) (contains_map as_row xs e c))) xs (All-contains_itself xs)))
      (rising xs up.1)

module _ (g : List Row) (people : List Entry) (are : map as_row people ≡ rows g table.Person) where
  entry_held : (e : Entry) → Contains people e → Contains g (as_row e)
  entry_held e c = ((in_rows g table.Person (as_row e)).0 (subst (λ l. Contains l (as_row e)) are (contains_map as_row people e c))).0

  entry_here : (p : Person) → Contains g (row.Person p) → (e : Entry) × Contains people e × (e.1.id ≡ p.id)
  entry_here p held =
      let (e, c, is) = in_map as_row people (row.Person p) (subst (λ l. Contains l (row.Person p)) (sym are) ((in_rows g table.Person (row.Person p)).1 (held, refl))) in
      (e, c, ap id_of is)

  people_rise : IsGraph g → (met : ℕ → Option ℕ) → Rises (map (place met g) people)
  people_rise graph met = rising met g people (subst (IsStrictlySortedBy row_order) (sym are) (IsStrictlySortedBy-filter row_order (λ r. same_table (table_of r) table.Person) g graph.rises))

-- ---- the loop over them

-- those found, and those who are wanted of the persons that are left, are those wanted of all
pub record IsScanning (g : List Row) (met : ℕ → Option ℕ) (name : List ℕ) (found : List Namesake) (left : List Entry) : Type 0 where
  pub people : List Entry
  pub are : map as_row people ≡ rows g table.Person
  pub same : map namesake_of found ++ filter (is_wanted g name) (map (place met g) left) ≡ filter (is_wanted g name) (map (place met g) people)
  pub each : All (λ k. IsOnlyPerson g k.0.now.id k.0.now) found
  pub among : All (Contains people) left

module _ (g : List Row) (met : ℕ → Option ℕ) (name : List ℕ) where
  abbrev wanted : List Entry → List (ℕ × ℕ)
  wanted left = filter (is_wanted g name) (map (place met g) left)

  pub scanning_begun : (found : List Namesake) (people left : List Entry) → found ≡ [] → left ≡ people → map as_row people ≡ rows g table.Person → IsScanning g met name found left
  scanning_begun found people left none all are = record {
    people = people;
    are = are;
    same = ap (λ l. map namesake_of l ++ wanted left) none ∙ ap wanted all;
    each = subst (All (λ k. IsOnlyPerson g k.0.now.id k.0.now)) (sym none) (All-nil (λ k. IsOnlyPerson g k.0.now.id k.0.now));
    among = subst (All (Contains people)) (sym all) (All-contains_itself people);
  }

  module _ (found : List Namesake) (left rest : List Entry) (e : Entry) (is : left ≡ e ∷ rest) (scanning : IsScanning g met name found left) where
    -- the next is a person of the graph
    pub scanning_head : Contains g (row.Person e.1)
    scanning_head = entry_held g scanning.people scanning.are e (All-head (Contains scanning.people) e rest (subst (All (Contains scanning.people)) is scanning.among))

    after : All (Contains scanning.people) rest
    after = All-tail (Contains scanning.people) e rest (subst (All (Contains scanning.people)) is scanning.among)

    parted : (b : Bool) → is_wanted g name (placed g met e.1.id) ≡ b → wanted left ≡ cond b (placed g met e.1.id ∷ wanted rest) (wanted rest)
    parted b z = ap wanted is ∙ ap (λ b. cond b (placed g met e.1.id ∷ wanted rest) (wanted rest)) z

    pub scanning_over : is_wanted g name (placed g met e.1.id) ≡ false → IsScanning g met name found rest
    scanning_over denied = record { people = scanning.people; are = scanning.are; same = ap (λ l. map namesake_of found ++ l) (sym (parted false denied)) ∙ scanning.same; each = scanning.each; among = after }

    pub scanning_next : (new : List Namesake) (k : Namesake) → new ≡ found ++ k ∷ [] → IsScanned g met name e.1.id k → IsScanning g met name new rest
    scanning_next new k push one = record {
      people = scanning.people;
      are = scanning.are;
      same = ap (λ l. map namesake_of l ++ wanted rest) push ∙ ap (λ l. l ++ wanted rest) (map_push namesake_of found k) ∙ append_assoc (map namesake_of found) (namesake_of k ∷ []) (wanted rest)
          ∙ ap (λ z. map namesake_of found ++ z ∷ wanted rest) one.named ∙ ap (λ l. map namesake_of found ++ l) (sym (parted true one.wanted)) ∙ scanning.same;
      each = subst (All (λ k. IsOnlyPerson g k.0.now.id k.0.now)) (sym push) (All-push (λ k. IsOnlyPerson g k.0.now.id k.0.now) found k scanning.each one.only);
      among = after;
    }

-- ---- all of them

module _ (g : List Row) (graph : IsGraph g) (met : ℕ → Option ℕ) (name : List ℕ) where
  -- those wanted are those of the first name at distance 1 to 3
  wanted_near : (people : List Entry) → map as_row people ≡ rows g table.Person → (start : ℕ) → AreDistances g start 2 met → (near : List (ℕ × ℕ)) → IsWithin g start 3 near
      → wanted g met name people ≡ filter (is_named g name) near
  wanted_near people persons start are near within =
      same_rising _ _ (AllPairs-filter (λ (x : ℕ × ℕ) (y : ℕ × ℕ). x.0 < y.0) (is_wanted g name) (map (place met g) people) (people_rise g people persons graph met))
      (AllPairs-filter (λ (x : ℕ × ℕ) (y : ℕ × ℕ). x.0 < y.0) (is_named g name) near within.rises) (λ z. (there z, back z))
    where
      there : (z : ℕ × ℕ) → Contains (wanted g met name people) z → Contains (filter (is_named g name) near) z
      there z c =
          let (held, passes) = (in_filter (is_wanted g name) (map (place met g) people) z).0 c in
          let (e, here, is) = in_map (place met g) people z held in
          let (named, above) = and_parts (is_named g name z) _ passes in
          let at : placed g met z.0 ≡ z = ap (placed g met) (sym (ap (λ (w : ℕ × ℕ). w.0) is)) ∙ is in
          let told : distance_by g met z.0 ≡ z.1 = ap (λ (w : ℕ × ℕ). w.1) at in
          let person : IsPerson g z.0 = subst (IsPerson g) (ap (λ (w : ℕ × ℕ). w.0) is) (record { it = as_row e; held = entry_held g people persons e here; keyed = refl }) in
          let low : 1 ≤ z.1 = omega (arith, ltb-true 0 z.1 above) in
          let high : z.1 ≤ 3 = subst (λ n. n ≤ 3) told (told_most g start met are z.0) in
          (in_filter (is_named g name) near z).1 ((within.exact z.0 z.1).1 ((told_distance g start met are z.0 person z.1 low high).1 told, low, high), named)

      back : (z : ℕ × ℕ) → Contains (filter (is_named g name) near) z → Contains (wanted g met name people) z
      back z c =
          let (held, named) = (in_filter (is_named g name) near z).0 c in
          let (at, low, high) = (within.exact z.0 z.1).0 held in
          let person = walk_held g start z.0 z.1 at.walk in
          let told : distance_by g met z.0 ≡ z.1 = (told_distance g start met are z.0 person z.1 low high).0 at in
          let (p, row, is) = person_at g graph z.0 person in
          let (e, here, same) = entry_here g people persons p row in
          let id : e.1.id ≡ z.0 = same ∙ is in
          let shown : place met g e ≡ z = ap (placed g met) id ∙ (λ i. (z.0, told i)) in
          (in_filter (is_wanted g name) (map (place met g) people) z).1 (
            subst (Contains (map (place met g) people)) shown (contains_map (place met g) people e here),
            and_from (is_named g name z) _ named (lt-ltb 0 z.1 (omega (arith, low))),
          )

  pub scanning_done : (found : List Namesake) (left : List Entry) → left ≡ [] → IsScanning g met name found left → (start : ℕ) → AreDistances g start 2 met → AreNamesakesWithin g start 3 name found
  scanning_done found left none scanning start are =
      let (near, within) = some_within g start 3 in
      let same : map namesake_of found ≡ filter (is_named g name) near =
      sym (append-nil (map namesake_of found)) ∙ ap (λ l. map namesake_of found ++ wanted g met name l) (sym none) ∙ scanning.same ∙ wanted_near scanning.people scanning.are start are near within in
      record {
        near = near;
        within = within;
        are = record {
          same = same;
          each = All-weaker (Contains found) (IsNamesakeFound g) (λ k c. (let held = ((in_filter (is_named g name) near (namesake_of k)).0 (subst (λ l. Contains l (namesake_of k)) same (contains_map namesake_of found k c))).0 in
              let is = All-contains (IsNearFound g) near (namesake_of k) (near_is g start 3 (omega arith) near within) held in
              record { held = is.held; person = All-contains (λ k. IsOnlyPerson g k.0.now.id k.0.now) found k scanning.each c; fits = is.fits })) found (All-contains_itself found);
        };
      }
