-- Lists of persons, and of persons with their distances.
use Rattle.std.proofs.Common.{◌≡◌, ◌≢◌, ◌⊎◌, ℕ, ◌+◌, ◌<◌, ◌≤◌, nat_eq, Bool, true, false, cond, List, [], ◌∷◌, ◌++◌, length, get_or, set, Option, Some, None, IsSome, refl, sym, ap, ◌∙◌, inl, inr, arith}
use Rattle.std.proofs.lemmas.Bool.{cases_lt, eqb-false, eqb-true}
use Rattle.std.proofs.lemmas.List.{get_or_append_left, get_or_default, get_or_push, length_push}
use Rattle.std.proofs.lemmas.List.Elements.{All-push, All-set, All-weaker, Contains-append_left, Contains-get_or, Contains-push}
use Rattle.std.specs.List.{All, AllPairs, Contains}
use Rattle.snb_reach.specs.Few.{IsDistanceAt, IsPlaced}

-- a person more in the list, and at most that one noted besides
pub noted_more : (ids noted noted' : List ℕ) (p : ℕ) → All (Contains ids) noted → (noted' ≡ noted) ⊎ ((i : ℕ) × (noted' ≡ set noted i p)) → All (Contains (ids ++ p ∷ [])) noted'
noted_more ids noted noted' p all cases =
    let more = All-weaker (Contains ids) (Contains (ids ++ p ∷ [])) (λ q c. Contains-append_left ids (p ∷ []) q c) noted all in
    elim cases as (λ _. All (Contains (ids ++ p ∷ [])) noted') [
      | inl same ↦ rw same more
      | inr (i, is) ↦ rw is (All-set (Contains (ids ++ p ∷ [])) noted i p (Contains-push ids p) more)
    ]

module _ (level : ℕ) (met : List (ℕ × ℕ)) (ids : List ℕ) where
  -- so many of the persons have their distances; those met stand before the place where they are among
  -- these, and else from there on
  pub record IsLeveling (i at : ℕ) (all : List (ℕ × ℕ)) : Type 0 where
    pub passed : (k j e : ℕ) (d : ℕ × ℕ) → k < at → i ≤ j → j < length ids → (get_or met k d).0 < get_or ids j e
    pub left : (k : ℕ) (d : ℕ × ℕ) → at ≤ k → k < length met → (j : ℕ) × (i ≤ j) × (j < length ids) × (get_or ids j 0 ≡ (get_or met k d).0)
    pub len : length all ≡ i
    pub same : (k : ℕ) (d : ℕ × ℕ) → k < i → (get_or all k d).0 ≡ get_or ids k 0
    pub placed : All (λ e. IsPlaced level met ids e.0 e.1) all

  pub leveling_none : All (λ e. Contains ids e.0) met → (all : List (ℕ × ℕ)) → all ≡ [] → IsLeveling 0 0 all
  leveling_none among all none = record {
    passed = λ k j e d low. absurd (omega arith);
    left = λ k d low small. (let (j, in', is) = among k d small in (j, omega arith, in', get_or_default ids j 0 _ in' ∙ is));
    len = rw none refl;
    same = λ k d low. absurd (omega arith);
    placed = rw none (λ k d low. absurd (omega arith));
  }

  module _ (met_rises : AllPairs (λ x y. x.0 < y.0) met) (ids_rise : AllPairs (λ x y. x < y) ids) (i at q n next : ℕ) (all all' : List (ℕ × ℕ)) (small : i < length ids) (here : get_or ids i 0 ≡ q)
      (more : all' ≡ all ++ (q, n) ∷ []) (so_far : IsLeveling i at all) where
    kept : (k : ℕ) (d : ℕ × ℕ) → k < i + 1 → (get_or (all ++ (q, n) ∷ []) k d).0 ≡ get_or ids k 0
    kept k d low = elim (cases_lt k i) as (λ _. (get_or (all ++ (q, n) ∷ []) k d).0 ≡ get_or ids k 0) [
      | inl less ↦ (let e = get_or_append_left all ((q, n) ∷ []) d k (omega (arith, so_far.len)) in ap (λ (x : ℕ × ℕ). x.0) e ∙ so_far.same k d less)
      | inr high ↦ (let this : i ≡ k = omega arith in
          let last = get_or_push all (q, n) d k (omega (arith, so_far.len)) in
          ap (λ (x : ℕ × ℕ). x.0) last ∙ sym (rw this at here))
    ]

    pub leveling_more : IsDistanceAt met at q level n next → IsLeveling (i + 1) next all'
    leveling_more (inl (in', is, up)) = rw up (record {
      passed = λ k j e d low far end. elim (cases_lt k at) as (λ _. (get_or met k d).0 < get_or ids j e) [
        | inl less ↦ so_far.passed k j e d less (omega arith) end
        | inr high ↦ (let this : k ≡ at = omega arith in
            let rises : get_or ids i e < get_or ids j e = ids_rise i j e (omega arith) end in
            let own : (get_or met k d).0 ≡ q = rw this (ap (λ (x : ℕ × ℕ). x.0) (is d)) in
            let own' : get_or ids i e ≡ q = get_or_default ids i e 0 small ∙ here in
            omega (arith, rises, own, own'))
      ];
      left = λ k d low end. (let (j, far, end', e) = so_far.left k d (omega arith) end in
          let up' = met_rises at k d (omega arith) end in
          let own : (get_or met at d).0 ≡ q = ap (λ (x : ℕ × ℕ). x.0) (is d) in
          let other : j ≢ i = λ same. (let f : get_or ids j 0 ≡ q = rw same here in omega (arith, f, e, own, up')) in
          (j, omega (arith, far, other), end', e));
      len = rw more (let l = length_push all (q, n) in omega (arith, l, so_far.len));
      same = λ k d low. rw more (kept k d low);
      placed = rw more (All-push (λ e. IsPlaced level met ids e.0 e.1) all (q, n) so_far.placed (inl (at, in', is (q, n))));
    })
    leveling_more (inr (differs, is, stays)) = rw stays (record {
      passed = λ k j e d low far end. so_far.passed k j e d low (omega arith) end;
      left = λ k d low end. (let (j, far, end', e) = so_far.left k d low end in
          let other : j ≢ i = λ same. (let f : get_or ids j 0 ≡ q = rw same here in not_later k d low end (sym e ∙ f)) in
          (j, omega (arith, far, other), end', e));
      len = rw more (let l = length_push all (q, n) in omega (arith, l, so_far.len));
      same = λ k d low. rw more (kept k d low);
      placed = rw more (All-push (λ e. IsPlaced level met ids e.0 e.1) all (q, n) so_far.placed (inr ((i, small, get_or_default ids i q 0 small ∙ here), is, absent)));
    })
      where
        -- those met from the place on aren't the person: the first of them isn't, and all stand among those that are left
        not_later : (k : ℕ) (d : ℕ × ℕ) → at ≤ k → k < length met → (get_or met k d).0 ≢ q
        not_later k d low end same = elim (cases_lt at k) as (λ _. ⊥) [
          | inl less ↦ (let (j, far, end', e) = so_far.left at d (omega arith) (omega arith) in
              let up' = met_rises at k d less end in
              elim (cases_lt i j) as (λ _. ⊥) [
                | inl further ↦ (let rises = ids_rise i j 0 further end' in omega (arith, rises, here, e, up', same))
                | inr there ↦ (let this : j ≡ i = omega arith in
                    let f : get_or ids j 0 ≡ q = rw this here in differs d (omega arith) (sym e ∙ f))
              ])
          | inr this ↦ (let is' : k ≡ at = omega arith in differs d (omega arith) (rw is' at same))
        ]

        absent : (m : ℕ) → ¬ Contains met (q, m)
        absent m (k, end, e) =
            let own : (get_or met k (q, m)).0 ≡ q = ap (λ (x : ℕ × ℕ). x.0) e in
            elim (cases_lt k at) as (λ _. ⊥) [
              | inl less ↦ (let low = so_far.passed k i 0 (q, m) less (omega arith) small in omega (arith, low, own, here))
              | inr high ↦ not_later k (q, m) high end own
            ]

  module _ (all : List (ℕ × ℕ)) (i at : ℕ) (full : length ids ≤ i) (done : IsLeveling i at all) where
    pub leveled_rises : AllPairs (λ x y. x < y) ids → i ≤ length ids → AllPairs (λ x y. x.0 < y.0) all
    leveled_rises ids_rise end' j k d less end =
        let rises = ids_rise j k 0 less (omega (arith, end, done.len)) in
        let a = done.same j d (omega (arith, end, done.len)) in
        let b = done.same k d (omega (arith, end, done.len)) in
        omega (arith, rises, a, b)

    pub leveled_all : (q : ℕ) → Contains ids q → (n : ℕ) × Contains all (q, n)
    leveled_all q (k, end, e) =
        let is : (get_or all k (q, 0)).0 ≡ q = done.same k (q, 0) (omega arith) ∙ (get_or_default ids k 0 q end ∙ e) in
        let there : Contains all ((get_or all k (q, 0)).0, (get_or all k (q, 0)).1) = Contains-get_or all k (q, 0) (omega (arith, done.len)) in
        ((get_or all k (q, 0)).1, rw is at there)

-- ---- maps

module _ (mp mp' : ℕ → Option ℕ) (k v : ℕ) (puts : (q : ℕ) → mp' q ≡ cond (nat_eq k q) (Some v) (mp q)) where
  -- what a map has after an insertion is what was put, or it was there before
  put_told : (P : ℕ → ℕ → Type 0) → P k v → ((q n : ℕ) → mp q ≡ Some n → k ≢ q → P q n) → (q n : ℕ) → mp' q ≡ Some n → P q n
  put_told P here before q n e = by (nat_eq k q) refl (sym (puts q) ∙ e)
    where
      by : (b : Bool) → nat_eq k q ≡ b → cond b (Some v) (mp q) ≡ Some n → P q n
      by true same e = let this : k ≡ q = eqb-true k q same in let at : v ≡ n = cc in rw (← this, ← at) here
      by false other e = before q n e (eqb-false k q other)

  put_stays : (q : ℕ) → IsSome (mp q) → IsSome (mp' q)
  put_stays q h = rw (puts q) (by (nat_eq k q))
    where
      by : (b : Bool) → IsSome (cond b (Some v) (mp q))
      by true = refl
      by false = h

  put_has : IsSome (mp' k)
  put_has = rw (puts k) (by (nat_eq k k) refl)
    where
      by : (b : Bool) → nat_eq k k ≡ b → IsSome (cond b (Some v) (mp k))
      by true same = refl
      by false same = absurd (eqb-false k k same refl)

module _ (level : ℕ) (met : List (ℕ × ℕ)) (ids : List ℕ) where
  -- so many of the persons are in the map at the level
  pub record IsMapping (i : ℕ) (mp : ℕ → Option ℕ) : Type 0 where
    pub told : (q n : ℕ) → mp q ≡ Some n → Contains ids q × (n ≡ level)
    pub all : (k d : ℕ) → k < i → IsSome (mp (get_or ids k d))

  -- and so many of those met at their own
  pub record IsRemapping (i : ℕ) (mp : ℕ → Option ℕ) : Type 0 where
    pub told : (q n : ℕ) → mp q ≡ Some n → Contains met (q, n) ⊎ (Contains ids q × (n ≡ level) × ((k : ℕ) (d : ℕ × ℕ) → k < i → (get_or met k d).0 ≢ q))
    pub all : (q : ℕ) → Contains ids q → IsSome (mp q)

  pub mapping_none : (mp : ℕ → Option ℕ) → ((q : ℕ) → mp q ≡ None) → IsMapping 0 mp
  mapping_none mp none = record {
    told = λ q n e. (let never = sym (none q) ∙ e in cc);
    all = λ k d low. absurd (omega arith);
  }

  pub mapping_more : (i d : ℕ) (mp mp' : ℕ → Option ℕ) → i < length ids → ((q : ℕ) → mp' q ≡ cond (nat_eq (get_or ids i d) q) (Some level) (mp q)) → IsMapping i mp → IsMapping (i + 1) mp'
  mapping_more i d mp mp' small puts so_far = record {
    told = put_told mp mp' (get_or ids i d) level puts (λ q n. Contains ids q × (n ≡ level)) (Contains-get_or ids i d small, refl) (λ q n e other. so_far.told q n e);
    all = λ k d' low. elim (cases_lt k i) as (λ _. IsSome (mp' (get_or ids k d'))) [
      | inl less ↦ put_stays mp mp' (get_or ids i d) level puts (get_or ids k d') (so_far.all k d' less)
      | inr high ↦ (let this : k ≡ i = omega arith in rw (this, get_or_default ids i d' d small) (put_has mp mp' (get_or ids i d) level puts))
    ];
  }

  pub remapping_none : (i : ℕ) (mp : ℕ → Option ℕ) → length ids ≤ i → IsMapping i mp → IsRemapping 0 mp
  remapping_none i mp full so_far = record {
    told = λ q n e. (let (c, is) = so_far.told q n e in inr (c, is, λ k d low. absurd (omega arith)));
    all = λ q (k, end, is). rw is at (so_far.all k q (omega arith));
  }

  pub remapping_more : (i : ℕ) (d : ℕ × ℕ) (mp mp' : ℕ → Option ℕ) → i < length met → ((q : ℕ) → mp' q ≡ cond (nat_eq (get_or met i d).0 q) (Some (get_or met i d).1) (mp q)) → IsRemapping i mp → IsRemapping (i + 1) mp'
  remapping_more i d mp mp' small puts so_far = record {
    told = put_told mp mp' (get_or met i d).0 (get_or met i d).1 puts
        (λ q n. Contains met (q, n) ⊎ (Contains ids q × (n ≡ level) × ((k : ℕ) (d : ℕ × ℕ) → k < i + 1 → (get_or met k d).0 ≢ q)))
        (inl (Contains-get_or met i d small))
        (λ q n e other. elim (so_far.told q n e) [
          | inl c ↦ inl c
          | inr (c, is, none) ↦ inr (
            c,
            is,
            λ k d' low. elim (cases_lt k i) as (λ _. (get_or met k d').0 ≢ q) [
              | inl less ↦ none k d' less
              | inr high ↦ (let this : k ≡ i = omega arith in λ same. other (rw (this, get_or_default met i d' d small) at same))
            ],
          )
        ]);
    all = λ q c. put_stays mp mp' (get_or met i d).0 (get_or met i d).1 puts q (so_far.all q c);
  }

  pub remapped : (i : ℕ) (mp : ℕ → Option ℕ) → length met ≤ i → IsRemapping i mp → (q n : ℕ) → mp q ≡ Some n → IsPlaced level met ids q n
  remapped i mp full done q n e = elim (done.told q n e) [
    | inl c ↦ inl c
    | inr (c, is, none) ↦ inr (c, is, λ m (k, end, here). none k (q, m) (omega arith) (ap (λ (x : ℕ × ℕ). x.0) here))
  ]
