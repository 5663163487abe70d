-- Whether there is a walk, and the shortest one.
use Rattle.std.proofs.Common.{◌≡◌, ◌⊎◌, ℕ, zero, suc, ◌<◌, ◌≤◌, ◌==◌, Bool, true, false, Decides, List, [], ◌∷◌, length, map, refl, sym, ap, subst, inl, inr, arith}
use Rattle.std.proofs.lemmas.Bool.{cases_lt, eqb-false, eqb-true}
use Rattle.std.proofs.lemmas.List.Elements.{All-cons, All-contains, All-nil, All-weaker, recursion_from_All}
use Rattle.std.proofs.lemmas.List.Folds.{Any-from_list_any}
use Rattle.std.proofs.lemmas.Map.Keys.{IsDistinct-cons}
use Rattle.std.proofs.lemmas.Map.Made.{length-le_from_is_member}
use Rattle.std.proofs.lemmas.Map.Views.{list_any-from_Contains}
use Rattle.std.specs.Cmp.{nat_eq_equiv}
use Rattle.std.specs.List.{All, Contains, IsDistinct, list_any}
use Rattle.snb_schema.specs.declared.row.Row.{Row}
use Rattle.snb_schema.specs.declared.table.Kind.TheVariants as kinds
use Rattle.snb_schema.specs.declared.table.Table.{Table}
use Rattle.snb_schema.specs.declared.table.Table.TheVariants as table
use Rattle.snb_schema.specs.RowKeys.{RowKey, node_key, row_key, sharing, slot}
use Rattle.snb_graph_integrity.proofs.Laws.{fills_decides}
use Rattle.snb_graph_model.specs.Graphs.{HasSlot, fills}
use Rattle.snb_base.proofs.Laws.{both, contains_cases, contains_here, contains_there, Decided, is_true, none_in}
use Rattle.snb_graph_model.specs.Around.{is_friend}
use Rattle.snb_read_model.specs.Distance.{IsDistance, IsPerson, FriendPath}

-- ---- decisions

some_of : {X : Type 0} (P : X → Type 0) (xs : List X) → ((x : X) → Decided (P x)) → Decided ((x : X) × Contains xs x × P x)
some_of P [] each = inr (λ a. none_in a.0 a.1)
some_of {X} P (x ∷ xs) each = by (each x) (some_of P xs each)
  where
    by : Decided (P x) → Decided ((y : X) × Contains xs y × P y) → Decided ((y : X) × Contains (x ∷ xs) y × P y)
    by (inl p) rest = inl (x, contains_here x xs, p)
    by (inr never) (inl (y, c, p)) = inl (y, contains_there x xs y c, p)
    by (inr never) (inr none) = inr (λ a. elim (contains_cases x xs a.0 a.1) [ inl e ↦ never (subst P (sym e) a.2) | inr d ↦ none (a.0, d, a.2) ])

module _ (g : List Row) where
  -- ---- persons

  -- the ids of all rows; those of persons are among them
  abbrev pub ids : List ℕ
  ids = map (λ r. (row_key r).1) g

  mapped : (f : Row → ℕ) (xs : List Row) (r : Row) → Contains xs r → Contains (map f xs) (f r)
  mapped f [] r c = absurd (none_in r c)
  mapped f (x ∷ xs) r c = elim (contains_cases x xs r c) [
    | inl e ↦ subst (λ (z : Row). Contains (f x ∷ map f xs) (f z)) e (contains_here (f x) (map f xs))
    | inr d ↦ contains_there (f x) (map f xs) (f r) (mapped f xs r d)
  ]

  pub among_ids : (id : ℕ) → IsPerson g id → Contains ids id
  among_ids id h = subst (Contains ids) (ap (λ (k : RowKey). k.1) h.keyed) (mapped (λ r. (row_key r).1) g h.it h.held)

  person_decided : (id : ℕ) → Decided (IsPerson g id)
  person_decided id = by (fills g (slot (node_key kinds.Person id))) (fills_decides g (slot (node_key kinds.Person id)))
    where
      people : (u : Table) → sharing u ≡ table.Person → u ≡ table.Person
      people table.Person e = refl
      people u e = absurd cc

      by : (b : Bool) → Decides b (HasSlot g (slot (node_key kinds.Person id))) → Decided (IsPerson g id)
      by true d =
          let has = d.0 refl in
          let t = people (row_key has.it).0 (ap (λ (k : RowKey). k.0) has.fills) in
          inl (record { it = has.it; held = has.held; keyed = λ i. (t i, (has.fills i).1, (has.fills i).2, (has.fills i).3) })
      by false d = inr (λ h. (let e : false ≡ true = d.1 (record { it = h.it; held = h.held; fills = ap slot h.keyed }) in absurd cc))

  module _ (start : ℕ) where
    pub walk_end : (q n : ℕ) → FriendPath g start q n → IsPerson g q
    walk_end _ _ (FriendPath.stay _ is) = is
    walk_end _ _ (FriendPath.step _ b c n w f is) = is

    last_step : (q n m : ℕ) → FriendPath g start q n → n ≡ suc m → (b : ℕ) × FriendPath g start b m × (is_friend g b q ≡ true)
    last_step _ _ m (FriendPath.stay _ is) e = absurd (omega arith)
    last_step _ _ m (FriendPath.step _ b c n w f is) e = let same : n ≡ m = omega arith in (b, rw same at w, f)

    no_step : (q n : ℕ) → FriendPath g start q n → n ≡ 0 → start ≡ q
    no_step _ _ (FriendPath.stay _ is) e = refl
    no_step _ _ (FriendPath.step _ b c n w f is) e = absurd (omega arith)

    -- a walk of a length to a person who knows another
    abbrev Leads : ℕ → ℕ → ℕ → Type 0
    Leads n q b = FriendPath g start b n × (is_friend g b q ≡ true)

    -- whether there is a walk of a length
    walk_decided : (n q : ℕ) → Decided (FriendPath g start q n)
    walk_decided zero q = by (start == q) refl (person_decided start)
      where
        by : (b : Bool) → (start == q) ≡ b → Decided (IsPerson g start) → Decided (FriendPath g start q zero)
        by true e (inl is) = inl (subst (λ r. FriendPath g start r zero) (eqb-true start q e) (FriendPath.stay start is))
        by true e (inr none) = inr (λ w. none (subst (IsPerson g) (sym (eqb-true start q e)) (walk_end q zero w)))
        by false e is = inr (λ w. (let same = no_step q zero w refl in let other = eqb-false start q e in absurd (omega (arith, same, other))))
    walk_decided (suc n) q = by (both (some_of (Leads n q) ids (λ b. both (walk_decided n b) (is_true (is_friend g b q)))) (person_decided q))
      where
        by : Decided (((b : ℕ) × Contains ids b × Leads n q b) × IsPerson g q) → Decided (FriendPath g start q (suc n))
        by (inl ((b, c, (w, f)), is)) = inl (FriendPath.step start b q n w f is)
        by (inr none) = inr (λ w. (let (b, before, f) = last_step q (suc n) n w refl in none ((b, among_ids b (walk_end b n before), (before, f)), walk_end q (suc n) w)))

    -- the shortest walk below a length, or that there is none
    abbrev Below : ℕ → ℕ → Type 0
    Below q k = ((n : ℕ) × IsDistance g start q n × (n < k)) ⊎ ((n : ℕ) → n < k → ¬ FriendPath g start q n)

    shortest : (q k : ℕ) → Below q k
    shortest q zero = inr (λ n low w. omega (arith, low))
    shortest q (suc k) = by (shortest q k) (walk_decided k q)
      where
        by : Below q k → Decided (FriendPath g start q k) → Below q (suc k)
        by (inl (n, is, low)) d = inl (n, is, omega (arith, low))
        by (inr none) (inl w) = inl (k, record { walk = w; least = λ m v. elim (cases_lt m k) as (λ _. k ≤ m) [ inl less ↦ absurd (none m less v) | inr more ↦ more ] }, omega arith)
        by (inr none) (inr never) = inr (λ n low w. elim (cases_lt n k) [ inl less ↦ none n less w | inr more ↦ (let same : n ≡ k = omega (arith, low, more) in never (subst (λ m. FriendPath g start q m) same w)) ])

    -- ---- a shortest walk meets each person once

    -- the person stands so far away at most
    record IsNear (n : ℕ) (q : ℕ) : Type 0 where
      pub after : ℕ
      pub is : IsDistance g start q after
      pub low : after ≤ n

    record AreOnWay (n : ℕ) (met : List ℕ) : Type 0 where
      pub long : length met ≡ suc n
      pub near : All (IsNear n) met
      pub distinct : IsDistinct ◌==◌ met

    farther : (n q : ℕ) → IsNear n q → IsNear (suc n) q
    farther n q near = record { after = near.after; is = near.is; low = let low = near.low in omega (arith, low) }

    -- the person before the last is at the distance before
    before_last : (n q : ℕ) → IsDistance g start q (suc n) → (b : ℕ) × IsDistance g start b n
    before_last n q is =
        let (b, w, f) = last_step q (suc n) n is.walk refl in
        let end = walk_end q (suc n) is.walk in
        (b, record { walk = w; least = λ m v. (let more = is.least (suc m) (FriendPath.step start b q m v f end) in omega (arith, more)) })

    other : (n q r : ℕ) → IsDistance g start q (suc n) → IsNear n r → (q == r) ≡ false
    other n q r is near = by (q == r) refl
      where
        by : (b : Bool) → (q == r) ≡ b → b ≡ false
        by false e = refl
        by true e =
            let far = is.least near.after (subst (λ p. FriendPath g start p near.after) (sym (eqb-true q r e)) near.is.walk) in
            let low = near.low in
            absurd (omega (arith, far, low))

    on_way : (n q : ℕ) → IsDistance g start q n → (met : List ℕ) × AreOnWay n met
    unfolding IsDistinct
    on_way zero q is =
        let near : IsNear zero q = record { after = zero; is = is; low = omega arith } in
        (q ∷ [], record { long = omega arith; near = All-cons (IsNear zero) q [] near (All-nil (IsNear zero)); distinct = IsDistinct-cons ◌==◌ q [] tt tt })
    on_way (suc n) q is =
        let before = before_last n q is in
        let rest = on_way n before.0 before.1 in
        let near : IsNear (suc n) q = record { after = suc n; is = is; low = omega arith } in (
          q ∷ rest.0,
          record {
            long = let long = rest.1.long in omega (arith, long);
            near = All-cons (IsNear (suc n)) q rest.0 near (All-weaker (IsNear n) (IsNear (suc n)) (farther n) rest.0 rest.1.near);
            distinct =
                IsDistinct-cons ◌==◌ q rest.0
                (recursion_from_All (λ d. (q == d) ≡ false) rest.0 (All-weaker (IsNear n) (λ d. (q == d) ≡ false) (λ d near. other n q d is near) rest.0 rest.1.near)) rest.1.distinct;
          },
        )

    among : (n : ℕ) (met : List ℕ) → AreOnWay n met → (q : ℕ) → list_any (λ d. q == d) met ≡ true → list_any (λ d. q == d) ids ≡ true
    among n met are q is =
        let found = Any-from_list_any (λ d. q == d) met is in
        let near = All-contains (IsNear n) met found.1 are.near (found.0, found.2, found.3) in
        list_any-from_Contains nat_eq_equiv q ids (subst (Contains ids) (sym (eqb-true q found.1 found.4)) (among_ids found.1 (walk_end found.1 near.after near.is.walk)))

    -- so it is no longer than there are rows
    short : (n q : ℕ) → IsDistance g start q n → n < length ids
    short n q is =
        let (met, are) = on_way n q is in
        let long = are.long in
        let most = length-le_from_is_member nat_eq_equiv met ids are.distinct (among n met are) in
        omega (arith, long, most)

    -- the distance to a person, or that no walk leads there
    pub distance : (q : ℕ) → ((n : ℕ) × IsDistance g start q n) ⊎ ((n : ℕ) → ¬ FriendPath g start q n)
    distance q = by (shortest q (length ids))
      where
        none_at : ((n : ℕ) → n < length ids → ¬ FriendPath g start q n) → (n : ℕ) → Below q (suc n) → ¬ FriendPath g start q n
        none_at none n (inl (m, is, low)) w = none m (short m q is) is.walk
        none_at none n (inr never) w = never n (omega arith) w

        by : Below q (length ids) → ((n : ℕ) × IsDistance g start q n) ⊎ ((n : ℕ) → ¬ FriendPath g start q n)
        by (inl (n, is, low)) = inl (n, is)
        by (inr none) = inr (λ n. none_at none n (shortest q (suc n)))
