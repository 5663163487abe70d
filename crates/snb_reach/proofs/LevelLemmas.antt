-- A search by levels.
use Rattle.std.proofs.Common.{◌≡◌, ◌≢◌, ◌↔◌, ℕ, zero, suc, ◌<◌, ◌≤◌, ◌==◌, nat_eq, nat_lt, Bool, true, false, cond, List, [], ◌∷◌, ◌++◌, get_or, Option, Some, None, IsSome, refl, sym, ap, ◌∙◌, inl, inr, arith}
use Rattle.std.proofs.lemmas.Bool.{cases_lt, eqb-false, eqb-true, lt-ltb, ltb-true, ne_eqb}
use Rattle.std.proofs.lemmas.List.{get_or-map, length-map}
use Rattle.std.proofs.lemmas.List.Elements.{All-cons, All-contains, All-contains_itself, All-filter, All-nil, All-push, filter_passes, Contains-append_left, Contains-push}
use Rattle.std.proofs.lemmas.List.Kept.{AllPairs-filter}
use Rattle.std.proofs.lemmas.List.Sorted.{Contains-permutation, IsPermutation-map, IsPermutation-sym}
use Rattle.std.proofs.lemmas.Map.Keys.{IsDistinct-IsPermutation, IsDistinct-from_apart, apart_from_distinct}
use Rattle.std.proofs.lemmas.Map.Views.{exact_unsigned_eq, hash_map_get_iff}
use Rattle.std.specs.Cmp.{nat_eq_equiv}
use Rattle.std.specs.HashMap.{HashMap, IsUnique, get}
use Rattle.std.specs.List.{All, AllPairs, Contains, IsDistinct, filter}
use Rattle.std.specs.List.Sorted.{IsNonDecreasingBy, IsPermutation}
use Rattle.std.specs.Map.{keys_of, lookup}
use Rattle.snb_schema.specs.declared.row.Row.{Row}
use Rattle.snb_graph_model.specs.Around.{is_friend}
use Rattle.snb_read_model.specs.Distance.{IsDistance, IsPerson, IsWithin, FriendPath}
use Rattle.snb_reach.proofs.WalkLemmas.{last_step, no_step, one_distance, walk_end, walk_start}
use Rattle.snb_reach.specs.Distances.{AreDistances}
use Rattle.snb_reach.specs.Levels.{HasMet, IsGrowing, IsGrown, StaysMet}

none_some : {X : Type 0} (o : Option X) → o ≡ None → IsSome o → ⊥
none_some None e h = cc
none_some (Some x) e h = cc

module _ (g : List Row) (start : ℕ) where
  module _ (level : ℕ) (met : ℕ → Option ℕ) (next : List ℕ) (growing : IsGrowing g start level met next) where
    -- a friend of the level before that isn't met yet is at the level
    at_level : (p q m : ℕ) → level ≡ suc m → IsDistance g start p m → is_friend g p q ≡ true → IsPerson g q → met q ≡ None → IsDistance g start q level
    at_level p q m up near knows is none = record {
      walk = rw up (FriendPath.step start p q m near.walk knows is);
      least = λ n w. elim (cases_lt n level) as (λ _. level ≤ n) [ inl low ↦ absurd (none_some (met q) none (growing.nearer q n w low)) | inr high ↦ high ];
    }

    pub growing_met : (p q m : ℕ) (met' : ℕ → Option ℕ) (next' : List ℕ) → level ≡ suc m → IsDistance g start p m → is_friend g p q ≡ true → IsPerson g q
        → HasMet q level met next met' next' → IsGrowing g start level met' next'
    growing_met p q m met' next' up near knows is (inl (here, same, still)) = record {
      told = λ r n e. growing.told r n (sym (same r) ∙ e);
      nearer = λ r n w low. rw (same r) (growing.nearer r n w low);
      level_only = rw still growing.level_only;
      level_all = λ r e. rw still (growing.level_all r (sym (same r) ∙ e));
    }
    growing_met p q m met' next' up near knows is (inr (none, puts, more)) =
        let there = at_level p q m up near knows is none in
        record {
          told = λ r n e. told_by r n (q == r) refl (sym (puts r) ∙ e);
          nearer = λ r n w low. rw (puts r) (stays r (q == r) (growing.nearer r n w low));
          level_only = rw more (All-push (λ r. IsDistance g start r level) next q growing.level_only there);
          level_all = λ r e. rw more (all_by r (q == r) refl (sym (puts r) ∙ e));
        }
      where
        told_by : (r n : ℕ) (b : Bool) → (q == r) ≡ b → cond b (Some level) (met r) ≡ Some n → IsDistance g start r n × (n ≤ level)
        told_by r n true same e =
            let this : q ≡ r = eqb-true q r same in
            let at : level ≡ n = cc in
            (rw (← this, ← at) (at_level p q m up near knows is none), omega arith)
        told_by r n false same e = growing.told r n e

        stays : (r : ℕ) (b : Bool) → IsSome (met r) → IsSome (cond b (Some level) (met r))
        stays r true h = refl
        stays r false h = h

        all_by : (r : ℕ) (b : Bool) → (q == r) ≡ b → cond b (Some level) (met r) ≡ Some level → Contains (next ++ q ∷ []) r
        all_by r true same e = let this : q ≡ r = eqb-true q r same in rw (← this) (Contains-push next q)
        all_by r false same e = Contains-append_left next (q ∷ []) r (growing.level_all r e)

  -- whoever was met stays so, and the person is met
  pub met_stays : (q level : ℕ) (met met' : ℕ → Option ℕ) (next next' : List ℕ) → HasMet q level met next met' next' → StaysMet met met' × IsSome (met' q)
  met_stays q level met met' next next' (inl (here, same, still)) = (λ r h. rw (same r) h, rw (same q) here)
  met_stays q level met met' next next' (inr (none, puts, more)) = (λ r h. rw (puts r) (either r (q == r) h), rw (puts q) (own (q == q) refl))
    where
      either : (r : ℕ) (b : Bool) → IsSome (met r) → IsSome (cond b (Some level) (met r))
      either r true h = refl
      either r false h = h

      own : (b : Bool) → (q == q) ≡ b → IsSome (cond b (Some level) (met q))
      own true same = refl
      own false same = absurd (eqb-false q q same refl)

  -- a level begins
  pub begins : (level m : ℕ) (met : ℕ → Option ℕ) (last : List ℕ) → level ≡ suc m → IsGrown g start m met last → IsGrowing g start level met []
  begins level m met last up grown = record {
    told = λ q n e. ((grown.told q n e).0, omega (arith, (grown.told q n e).1));
    nearer = λ q n w low. grown.near q n w (omega arith);
    level_only = λ k d low. absurd (omega arith);
    level_all = λ q e. absurd (omega (arith, (grown.told q level e).1));
  }

  -- and ends, where all friends of the level before are met
  pub ends_level : (level m : ℕ) (met met' : ℕ → Option ℕ) (last next : List ℕ) → level ≡ suc m → IsGrown g start m met last → IsGrowing g start level met' next
      → All (λ p. (q : ℕ) → is_friend g p q ≡ true → IsSome (met' q)) last → IsGrown g start level met' next
  ends_level level m met met' last next up grown growing all = record {
    told = growing.told;
    near = near;
    level_only = growing.level_only;
    level_all = growing.level_all;
  }
    where
      by_last : (q b : ℕ) → FriendPath g start b m → is_friend g b q ≡ true → IsPerson g q → (o : Option ℕ) → met b ≡ o → IsSome o → IsSome (met' q)
      by_last q b w knows is None e h = cc
      by_last q b w knows is (Some n) e h =
          let (at, low) = grown.told b n e in
          elim (cases_lt n m) as (λ _. IsSome (met' q)) [
            | inl less ↦ growing.nearer q (suc n) (FriendPath.step start b q n at.walk knows is) (omega arith)
            | inr more ↦ (let same : n ≡ m = omega (arith, at.least m w) in
                let here : met b ≡ Some m = rw (← same) e in
                All-contains (λ p. (q : ℕ) → is_friend g p q ≡ true → IsSome (met' q)) last b all (grown.level_all b here) q knows)
          ]

      near : (q n : ℕ) → FriendPath g start q n → n ≤ level → IsSome (met' q)
      near q n w high = elim (cases_lt n level) as (λ _. IsSome (met' q)) [
        | inl less ↦ growing.nearer q n w less
        | inr more ↦ (let same : n ≡ suc m = omega arith in
            let (b, before, knows) = last_step g start q n w m same in
            by_last q b before knows (walk_end g start q n w) (met b) refl (grown.near b m before (omega arith)))
      ]

  pub no_walk : ¬ IsPerson g start → (q n : ℕ) → FriendPath g start q n → ⊥
  no_walk none q n w = none (walk_start g start q n w)

  -- at first the start alone is met
  pub first_grown : (met : ℕ → Option ℕ) (last : List ℕ) → IsPerson g start → ((q : ℕ) → met q ≡ cond (start == q) (Some 0) None) → last ≡ start ∷ []
      → IsGrown g start 0 met last
  first_grown met last is puts only = record {
    told = λ q n e. told_by q n (start == q) refl (sym (puts q) ∙ e);
    near = λ q n w low. (let here : n ≡ 0 = omega arith in let same = no_step g start q n w here in rw (puts q) (found q (start == q) refl same));
    level_only = rw only (All-cons (λ q. IsDistance g start q 0) start [] own (All-nil (λ q. IsDistance g start q 0)));
    level_all = λ q e. (let same = at_start q (start == q) refl (sym (puts q) ∙ e) in rw (only, same) (0, omega arith, refl));
  }
    where
      own : IsDistance g start start 0
      own = record { walk = FriendPath.stay start is; least = λ m w. omega arith }

      told_by : (q n : ℕ) (b : Bool) → (start == q) ≡ b → ◌≡◌ {A = Option ℕ} (cond b (Some 0) None) (Some n) → IsDistance g start q n × (n ≤ 0)
      told_by q n true same e =
          let this : start ≡ q = eqb-true start q same in
          let zero_is : n ≡ 0 = cc in
          (rw (← this, zero_is) own, omega arith)
      told_by q n false same e = cc

      at_start : (q : ℕ) (b : Bool) → (start == q) ≡ b → ◌≡◌ {A = Option ℕ} (cond b (Some 0) None) (Some 0) → q ≡ start
      at_start q true same e = sym (eqb-true start q same)
      at_start q false same e = cc

      found : (q : ℕ) (b : Bool) → (start == q) ≡ b → q ≡ start → IsSome {T = ℕ} (cond b (Some 0) None)
      found q true e same = refl
      found q false e same = absurd (eqb-false start q e (sym same))

-- a map with one key
pub one_key : {X S : Type 0} (m n : HashMap ℕ X S) (k : ℕ) (v : X) → m.entries ≡ [] → ((q : ℕ) → get nat_eq n q ≡ cond (nat_eq k q) (Some v) (get nat_eq m q))
    → (q : ℕ) → get nat_eq n q ≡ cond (k == q) (Some v) None
one_key {X} m n k v empty puts q = puts q ∙ ap (λ (es : List (ℕ × X)). cond (k == q) (Some v) (lookup (nat_eq q) es)) empty

-- ---- lists of persons with distances

-- keys that are told apart
entries_apart : (es : List (ℕ × ℕ)) → IsDistinct nat_eq (keys_of es) → AllPairs (λ x y. x.0 ≢ y.0) es
entries_apart es distinct i j d less small =
    let long = length-map es (λ (e : ℕ × ℕ). e.0) in
    let apart = apart_from_distinct nat_eq (keys_of es) i j 0 distinct less (omega arith) in
    eqb-false _ _ (rw (get_or-map (λ (e : ℕ × ℕ). e.0) es i d 0 (omega arith), get_or-map (λ (e : ℕ × ℕ). e.0) es j d 0 small) at apart)

keys_apart : (es : List (ℕ × ℕ)) → AllPairs (λ x y. x.0 ≢ y.0) es → IsDistinct nat_eq (keys_of es)
keys_apart es apart = IsDistinct-from_apart nat_eq (keys_of es) (λ i j d less small.
    let long = length-map es (λ (e : ℕ × ℕ). e.0) in
    rw (get_or-map (λ (e : ℕ × ℕ). e.0) es i (d, d) d (omega arith), get_or-map (λ (e : ℕ × ℕ). e.0) es j (d, d) d (omega arith)) (ne_eqb _ _ (apart i j (d, d) less (omega arith))))

eq_flips : (x y : ℕ) → nat_eq x y ≡ nat_eq y x
eq_flips x y = by (nat_eq y x) refl
  where
    by : (b : Bool) → nat_eq y x ≡ b → nat_eq x y ≡ b
    by true e = let same : y ≡ x = eqb-true y x e in rw (same) (rw same at e)
    by false e = ne_eqb x y (λ same. eqb-false y x e (sym same))

-- what a filter has
pub filter_contains : {X : Type 0} (p : X → Bool) (xs : List X) (x : X) → Contains (filter p xs) x → Contains xs x × (p x ≡ true)
filter_contains p xs x c = (
  All-contains (Contains xs) (filter p xs) x (All-filter p (Contains xs) xs (All-contains_itself xs)) c,
  All-contains (λ y. p y ≡ true) (filter p xs) x (filter_passes p xs) c,
)

pub contains_filter : {X : Type 0} (p : X → Bool) (xs : List X) (x : X) → Contains xs x → p x ≡ true → Contains (filter p xs) x
contains_filter p [] x (k, small, is) passes = absurd (omega arith)
contains_filter p (y ∷ ys) x (zero, small, is) passes = let same : y ≡ x = is in let k : p y ≡ true = rw same passes in rw k (0, omega arith, same)
contains_filter p (y ∷ ys) x (suc k, small, is) passes = more (p y) (contains_filter p ys x (k, omega arith, is) passes)
  where
    more : (b : Bool) → Contains (filter p ys) x → Contains (cond b (y ∷ filter p ys) (filter p ys)) x
    more true (i, low, at) = (suc i, omega arith, at)
    more false c = c

-- the persons at distance 1 to `steps`, each once, with their distances
record IsAround (g : List Row) (start steps : ℕ) (near : List (ℕ × ℕ)) : Type 0 where
  pub apart : AllPairs (λ x y. x.0 ≢ y.0) near
  pub exact : (p n : ℕ) → Contains near (p, n) ↔ (IsDistance g start p n × (1 ≤ n) × (n ≤ steps))

module _ {S : Type 0} (g : List Row) (start steps : ℕ) (met : HashMap ℕ ℕ S) (near : List (ℕ × ℕ)) where
  -- those met, without the start, are those near
  around_from : AreDistances g start steps (get nat_eq met) → IsUnique nat_eq met → near ≡ filter (λ e. nat_lt 0 e.1) met.entries → IsAround g start steps near
  around_from grown unique is = record {
    apart = rw is (AllPairs-filter (λ x y. x.0 ≢ y.0) (λ e. nat_lt 0 e.1) met.entries (entries_apart met.entries unique));
    exact = λ p n. (there p n, back p n);
  }
    where
      held : (p n : ℕ) → (get nat_eq met p ≡ Some n → Contains met.entries (p, n)) × (Contains met.entries (p, n) → get nat_eq met p ≡ Some n)
      held p n = let h = hash_map_get_iff nat_eq_equiv exact_unsigned_eq met unique p n in (h.0, h.1)

      there : (p n : ℕ) → Contains near (p, n) → IsDistance g start p n × (1 ≤ n) × (n ≤ steps)
      there p n c =
          let (here, passes) = filter_contains (λ e. nat_lt 0 e.1) met.entries (p, n) (rw is at c) in
          let (at, low) = grown.told p n ((held p n).1 here) in
          (at, omega (arith, ltb-true 0 n passes), low)

      by_met : (p n : ℕ) → IsDistance g start p n → 1 ≤ n → (o : Option ℕ) → get nat_eq met p ≡ o → IsSome o → Contains near (p, n)
      by_met p n at above None e h = cc
      by_met p n at above (Some m) e h =
          let same : m ≡ n = one_distance g start p m n (grown.told p m e).0 at in
          let here : get nat_eq met p ≡ Some n = rw (← same) e in
          rw is (contains_filter (λ e. nat_lt 0 e.1) met.entries (p, n) ((held p n).0 here) (lt-ltb 0 n (omega arith)))

      back : (p n : ℕ) → IsDistance g start p n × (1 ≤ n) × (n ≤ steps) → Contains near (p, n)
      back p n (at, above, low) = by_met p n at above (get nat_eq met p) refl (grown.near p n at.walk low)

-- nobody is met from a person that isn't held
pub none_met : {S : Type 0} (g : List Row) (start steps : ℕ) (met : HashMap ℕ ℕ S) → met.entries ≡ [] → ¬ IsPerson g start → AreDistances g start steps (get nat_eq met)
none_met g start steps met empty none = record {
  told = λ q n e. (let found : lookup (nat_eq q) [] ≡ Some n = sym (ap (λ (es : List (ℕ × ℕ)). lookup (nat_eq q) es) empty) ∙ e in cc);
  near = λ q n w low. absurd (no_walk g start none q n w);
}

-- those met up to the last level are those that can be reached
pub grown_distances : (g : List Row) (start steps : ℕ) (met : ℕ → Option ℕ) (last : List ℕ) → IsGrown g start steps met last → AreDistances g start steps met
grown_distances g start steps met last grown = record { told = grown.told; near = grown.near }

-- those around, in order, are those within
within_from : (g : List Row) (start steps : ℕ) (near sorted : List (ℕ × ℕ)) → IsAround g start steps near → IsPermutation near sorted → IsNonDecreasingBy (λ (x : ℕ × ℕ). x.0) sorted → IsWithin g start steps sorted
within_from g start steps near sorted around same up = record {
  rises = λ i j d less small.
      let low = up i j d (omega arith) small in
      let differ = entries_apart sorted (IsDistinct-IsPermutation nat_eq eq_flips (keys_of near) (keys_of sorted) (IsPermutation-map (λ (x : ℕ × ℕ). x.0) near sorted same) (keys_apart near around.apart)) i j d less small in
      elim (cases_lt (get_or sorted i d).0 (get_or sorted j d).0) as (λ _. (get_or sorted i d).0 < (get_or sorted j d).0) [
        | inl rises ↦ rises
        | inr falls ↦ (let tie : (get_or sorted i d).0 ≡ (get_or sorted j d).0 = omega (arith, low, falls) in absurd (differ tie))
      ];
  exact = λ p n. (
    λ c. (around.exact p n).0 (Contains-permutation sorted near (p, n) (IsPermutation-sym near sorted same) c),
    λ far. Contains-permutation near sorted (p, n) same ((around.exact p n).1 far),
  );
}

-- those met, without the start, in order, are those within
pub listed_from : {S : Type 0} (met : HashMap ℕ ℕ S) (near sorted : List (ℕ × ℕ)) → IsUnique nat_eq met → near ≡ filter (λ e. nat_lt 0 e.1) met.entries → IsPermutation near sorted
    → IsNonDecreasingBy (λ (x : ℕ × ℕ). x.0) sorted → (g : List Row) (start steps : ℕ) → AreDistances g start steps (get nat_eq met) → IsWithin g start steps sorted
listed_from met near sorted unique is same up g start steps are = within_from g start steps near sorted (around_from g start steps met near are unique is) same up
