-- A search of few steps.
use Rattle.std.proofs.Common.{◌≡◌, ◌⊎◌, ◌↔◌, ℕ, suc, ◌+◌, ◌-◌, ◌<◌, ◌≤◌, ◌==◌, nat_lt, Bool, true, false, cond, List, [], ◌∷◌, ◌++◌, length, get_or, replicate, Option, Some, None, IsSome, refl, sym, ap, ◌∙◌, inl, inr, arith}
use Rattle.std.proofs.lemmas.Bool.{cases_lt, eqb-false, eqb-true, lt-ltb, ltb-true}
use Rattle.std.proofs.lemmas.List.{get_or_default}
use Rattle.std.proofs.lemmas.List.Elements.{All-contains, All-cons, All-nil, All-push, All-replicate, Contains-append_left, Contains-push}
use Rattle.std.proofs.lemmas.List.Kept.{AllPairs-filter}
use Rattle.std.specs.List.{All, AllPairs, Contains, filter}
use Rattle.snb_schema.specs.declared.row.Row.{Row}
use Rattle.snb_graph_model.specs.Around.{is_friend}
use Rattle.snb_read_model.specs.Distance.{IsDistance, IsPerson, IsWithin, FriendPath}
use Rattle.snb_base.proofs.Laws.{in_one}
use Rattle.snb_reach.proofs.LevelLemmas.{contains_filter, filter_contains, no_walk}
use Rattle.snb_reach.proofs.WalkLemmas.{last_step, no_step, one_distance, walk_end}
use Rattle.snb_reach.specs.Distances.{AreDistances}
use Rattle.snb_reach.specs.Few.{AreMet, AreNext, AreReached, IsPlaced}

-- ---- a list to which a person is added, unless they stand there

module _ (ids ids' : List ℕ) (p : ℕ) where
  pub add_stays : ((ids' ≡ ids) × Contains ids p) ⊎ (ids' ≡ ids ++ p ∷ []) → ((q : ℕ) → Contains ids q → Contains ids' q) × Contains ids' p
  add_stays (inl (same, here)) = (λ q c. rw same c, rw same here)
  add_stays (inr more) = (λ q c. rw more (Contains-append_left ids (p ∷ []) q c), rw more (Contains-push ids p))

  pub add_all : (P : ℕ → Type 0) → ((ids' ≡ ids) × Contains ids p) ⊎ (ids' ≡ ids ++ p ∷ []) → All P ids → P p → All P ids'
  add_all P (inl (same, here)) all is = rw same all
  add_all P (inr more) all is = rw more (All-push P ids p all is)

-- ---- levels

module _ (g : List Row) (start : ℕ) where
  own_distance : IsPerson g start → IsDistance g start start 0
  own_distance is = record { walk = FriendPath.stay start is; least = λ m w. omega arith }

  -- at first the start alone is met
  pub first_met : (met : List (ℕ × ℕ)) → IsPerson g start → met ≡ (start, 0) ∷ [] → AreMet g start 0 met
  first_met met is only = rw only (record {
    rises = λ i j d less small. absurd (omega arith);
    told = λ q n c. (let same = in_one (start, 0) (q, n) c in
        let person : start ≡ q = ap (λ (x : ℕ × ℕ). x.0) same in
        let steps : 0 ≡ n = ap (λ (x : ℕ × ℕ). x.1) same in
        (rw (← person, ← steps) (own_distance is), omega arith));
    near = λ q n w low. (let none : n ≡ 0 = omega arith in let same = no_step g start q n w none in (0, rw same (0, omega arith, refl)));
  })

  first_reached : (level : ℕ) (ids : List ℕ) → IsPerson g start → ids ≡ start ∷ [] → AreReached g start level ids
  first_reached level ids is only = rw only (All-cons (λ q. (n : ℕ) × FriendPath g start q n × (n ≤ level)) start [] (0, FriendPath.stay start is, omega arith) (All-nil (λ q. (n : ℕ) × FriendPath g start q n × (n ≤ level))))

  -- so many of those met are visited
  pub record IsVisiting (level : ℕ) (met : List (ℕ × ℕ)) (i : ℕ) (noted ids : List ℕ) : Type 0 where
    pub stand : All (Contains ids) noted
    pub reached : AreReached g start level ids
    pub own : (k : ℕ) (d : ℕ × ℕ) → k < i → Contains ids (get_or met k d).0
    pub friends : (k : ℕ) (d : ℕ × ℕ) → k < i → (get_or met k d).1 ≡ level - 1 → (q : ℕ) → is_friend g (get_or met k d).0 q ≡ true → Contains ids q

  pub first_visiting : (level : ℕ) (met : List (ℕ × ℕ)) (places : ℕ) (noted ids : List ℕ) → IsPerson g start → ids ≡ start ∷ [] → noted ≡ replicate places start → IsVisiting level met 0 noted ids
  first_visiting level met places noted ids is only blank = record {
    stand = rw (blank, only) (All-replicate (Contains (start ∷ [])) places start (0, omega arith, refl));
    reached = first_reached level ids is only;
    own = λ k d low. absurd (omega arith);
    friends = λ k d low. absurd (omega arith);
  }

  module _ (level : ℕ) (met : List (ℕ × ℕ)) (i : ℕ) where
    pub visited : (noted ids noted' ids' : List ℕ) (e : ℕ × ℕ) → i < length met → IsVisiting level met i noted ids → All (Contains ids') noted' → AreReached g start level ids' → ((q : ℕ) → Contains ids q → Contains ids' q)
        → Contains ids' (get_or met i e).0 → ((get_or met i e).1 ≡ level - 1 → (q : ℕ) → is_friend g (get_or met i e).0 q ≡ true → Contains ids' q) → IsVisiting level met (i + 1) noted' ids'
    visited noted ids noted' ids' e small so_far noted_now reached_now stays own friends = record {
      stand = noted_now;
      reached = reached_now;
      own = λ k d low. elim (cases_lt k i) as (λ _. Contains ids' (get_or met k d).0) [
        | inl less ↦ stays (get_or met k d).0 (so_far.own k d less)
        | inr high ↦ (let this : k ≡ i = omega arith in rw (this, get_or_default met i d e small) own)
      ];
      friends = λ k d low last q knows. elim (cases_lt k i) as (λ _. Contains ids' q) [
        | inl less ↦ stays q (so_far.friends k d less last q knows)
        | inr high ↦ (let this : k ≡ i = omega arith in
            let same = get_or_default met i d e small in
            friends (rw (this, same) at last) q (rw (this, same) at knows))
      ];
    }

    pub all_visited : (noted ids : List ℕ) → length met ≤ i → IsVisiting level met i noted ids → AreNext g start level met ids
    all_visited noted ids full done = record {
      reached = done.reached;
      among = λ k d low. done.own k d (omega arith);
      friends = λ b q (k, low, is) knows. done.friends k (b, level - 1) (omega arith) (ap (λ (x : ℕ × ℕ). x.1) is) q (let same : (get_or met k (b, level - 1)).0 ≡ b = ap (λ (x : ℕ × ℕ). x.0) is in rw same knows);
    }

  module _ (level m : ℕ) (met : List (ℕ × ℕ)) (ids : List ℕ) (up : level ≡ suc m) (before : AreMet g start m met) (next : AreNext g start level met ids) where
    -- who isn't met and is one of the next is at the level
    at_level : (q : ℕ) → Contains ids q → ((n : ℕ) → ¬ Contains met (q, n)) → IsDistance g start q level
    at_level q c absent = by_walk (All-contains (λ q. (n : ℕ) × FriendPath g start q n × (n ≤ level)) ids q next.reached c)
      where
        far : (n : ℕ) → FriendPath g start q n → level ≤ n
        far n w = elim (cases_lt n level) as (λ _. level ≤ n) [
          | inl less ↦ (let (k, there) = before.near q n w (omega arith) in absurd (absent k there))
          | inr high ↦ high
        ]

        by_walk : (n : ℕ) × FriendPath g start q n × (n ≤ level) → IsDistance g start q level
        by_walk (n, w, low) = let high = far n w in let same : n ≡ level = omega arith in record { walk = rw (← same) w; least = far }

    -- who can be reached in so many steps is met or one of the next
    covered : (q n : ℕ) → FriendPath g start q n → n ≤ level → Contains ids q
    covered q n w low = elim (cases_lt n level) as (λ _. Contains ids q) [
      | inl less ↦ nearer q n w (omega arith)
      | inr high ↦ (let same : n ≡ suc m = omega arith in
          let (b, v, knows) = last_step g start q n w m same in
          let (k, there) = before.near b m v (omega arith) in
          let (at, low') = before.told b k there in
          elim (cases_lt k m) as (λ _. Contains ids q) [
            | inl less ↦ nearer q (suc k) (FriendPath.step start b q k at.walk knows (walk_end g start q n w)) (omega arith)
            | inr more ↦ (let last : k ≡ level - 1 = omega (arith, at.least m v, more) in next.friends b q (rw last at there) knows)
          ])
    ]
      where
        nearer : (q n : ℕ) → FriendPath g start q n → n ≤ m → Contains ids q
        nearer q n w low = let (k, there) = before.near q n w low in All-contains (λ e. Contains ids e.0) met (q, k) next.among there

    placed_distance : (ids' : List ℕ) → ((q : ℕ) → Contains ids' q → Contains ids q) → (q n : ℕ) → IsPlaced level met ids' q n → IsDistance g start q n × (n ≤ level)
    placed_distance ids' same q n (inl c) = let (at, low) = before.told q n c in (at, omega (arith, low))
    placed_distance ids' same q n (inr (c, is, absent)) = (rw is (at_level q (same q c) absent), omega (arith, is))

    pub grown_met : (ids' : List ℕ) (all : List (ℕ × ℕ)) → ((q : ℕ) → Contains ids' q ↔ Contains ids q) → AllPairs (λ x y. x.0 < y.0) all → All (λ e. IsPlaced level met ids' e.0 e.1) all
        → ((q : ℕ) → Contains ids' q → (n : ℕ) × Contains all (q, n)) → AreMet g start level all
    grown_met ids' all same rises placed found = record {
      rises = rises;
      told = λ q n c. placed_distance ids' (λ r. (same r).0) q n (All-contains (λ e. IsPlaced level met ids' e.0 e.1) all (q, n) placed c);
      near = λ q n w low. found q ((same q).1 (covered q n w low));
    }

    pub next_distances : (mp : ℕ → Option ℕ) → ((q n : ℕ) → mp q ≡ Some n → IsPlaced level met ids q n) → ((q : ℕ) → Contains ids q → IsSome (mp q)) → AreDistances g start level mp
    next_distances mp placed found = record {
      told = λ q n e. placed_distance ids (λ r c. c) q n (placed q n e);
      near = λ q n w low. found q (covered q n w low);
    }

  -- in no step the start alone is met
  pub start_distances : (mp : ℕ → Option ℕ) (steps : ℕ) → steps ≡ 0 → IsPerson g start → ((q : ℕ) → mp q ≡ cond (start == q) (Some 0) None) → AreDistances g start steps mp
  start_distances mp steps none is puts = record {
    told = λ q n e. told_by q n (start == q) refl (sym (puts q) ∙ e);
    near = λ q n w low. (let here : n ≡ 0 = omega arith in let same = no_step g start q n w here in rw (puts q) (found q (start == q) refl same));
  }
    where
      told_by : (q n : ℕ) (b : Bool) → (start == q) ≡ b → ◌≡◌ {A = Option ℕ} (cond b (Some 0) None) (Some n) → IsDistance g start q n × (n ≤ steps)
      told_by q n true same e =
          let this : start ≡ q = eqb-true start q same in
          let zero_is : n ≡ 0 = cc in
          (rw (← this, zero_is) (own_distance is), omega arith)
      told_by q n false same e = cc

      found : (q : ℕ) (b : Bool) → (start == q) ≡ b → q ≡ start → IsSome {T = ℕ} (cond b (Some 0) None)
      found q true e same = refl
      found q false e same = absurd (eqb-false start q e (sym same))

-- those met, without the start, are those within
pub met_within : (g : List Row) (start steps : ℕ) (met near : List (ℕ × ℕ)) → AreMet g start steps met → near ≡ filter (λ e. nat_lt 0 e.1) met → IsWithin g start steps near
met_within g start steps met near are is = rw is (record {
  rises = AllPairs-filter (λ x y. x.0 < y.0) (λ e. nat_lt 0 e.1) met are.rises;
  exact = λ p n. (there p n, back p n);
})
  where
    there : (p n : ℕ) → Contains (filter (λ e. nat_lt 0 e.1) met) (p, n) → IsDistance g start p n × (1 ≤ n) × (n ≤ steps)
    there p n c =
        let (here, passes) = filter_contains (λ e. nat_lt 0 e.1) met (p, n) c in
        let (at, low) = are.told p n here in
        (at, omega (arith, ltb-true 0 n passes), low)

    back : (p n : ℕ) → IsDistance g start p n × (1 ≤ n) × (n ≤ steps) → Contains (filter (λ e. nat_lt 0 e.1) met) (p, n)
    back p n (at, above, low) =
        let (m, c) = are.near p n at.walk low in
        let same : m ≡ n = one_distance g start p m n (are.told p m c).0 at in
        contains_filter (λ e. nat_lt 0 e.1) met (p, n) (rw same at c) (lt-ltb 0 n (omega arith))

-- and nobody is within any steps of a person who isn't held
pub none_within : (g : List Row) (start steps : ℕ) (near : List (ℕ × ℕ)) → near ≡ [] → ¬ IsPerson g start → IsWithin g start steps near
none_within g start steps near empty none = rw empty (record {
  rises = λ i j d less small. absurd (omega arith);
  exact = λ p n. (λ (k, small, is). absurd (omega (arith, small)), λ (at, above, low). absurd (no_walk g start none p n at.walk));
})
