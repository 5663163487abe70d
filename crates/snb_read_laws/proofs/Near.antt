-- There is a list of the persons within a distance, and a length of a shortest walk.
use Rattle.std.proofs.Common.{◌≡◌, ◌⊎◌, ℕ, zero, suc, ◌<◌, ◌≤◌, ◌+◌, ℤ, List, [], ◌∷◌, get_or, max, refl, subst, inl, inr, arith}
use Rattle.std.proofs.lemmas.Bool.{cases_lt}
use Rattle.std.proofs.lemmas.List.Elements.{Contains-get_or}
use Rattle.std.proofs.lemmas.List.Kept.{AllPairs-cons}
use Rattle.std.specs.List.{AllPairs, Contains}
use Rattle.snb_schema.specs.declared.row.Row.{Row}
use Rattle.snb_base.proofs.Laws.{contains_cases, contains_here, contains_there, Decided, none_in}
use Rattle.snb_read_model.specs.Distance.{IsDistance, IsLength, IsPerson, IsWithin, FriendPath}
use Rattle.snb_read_laws.proofs.Walks.{among_ids, distance, ids, walk_end}

-- a number above all of a list
above : (xs : List ℕ) → (top : ℕ) × ((x : ℕ) → Contains xs x → x < top)
above [] = (0, λ x c. absurd (none_in x c))
above (y ∷ ys) =
    let (top, below) = above ys in (
      suc (max y top),
      λ x c. elim (contains_cases y ys x c) as (λ _. x < suc (max y top)) [
        | inl e ↦ omega (arith, e)
        | inr d ↦ (let low = below x d in omega (arith, low))
      ],
    )

module _ (g : List Row) (start steps : ℕ) where
  abbrev IsAway : ℕ → ℕ → Type 0
  IsAway p n = IsDistance g start p n × (1 ≤ n) × (n ≤ steps)

  -- a person's distance, where it is one of those
  away : (p : ℕ) → Decided ((n : ℕ) × IsAway p n)
  away p = by (distance g start p)
    where
      same : (n m : ℕ) → IsDistance g start p n → IsDistance g start p m → n ≡ m
      same n m d e = (let low = d.least m e.walk in let high = e.least n d.walk in omega (arith, low, high))

      by : ((n : ℕ) × IsDistance g start p n) ⊎ ((n : ℕ) → ¬ FriendPath g start p n) → Decided ((n : ℕ) × IsAway p n)
      by (inr none) = inr (λ a. none a.0 a.1.0.walk)
      by (inl (n, is)) = elim (cases_lt n 1) [
        | inl none ↦ inr (λ a. (let e = same n a.0 is a.1.0 in let one = a.1.1 in omega (arith, none, one, e)))
        | inr some ↦ elim (cases_lt steps n) [
          | inl far ↦ inr (λ a. (let e = same n a.0 is a.1.0 in let most = a.1.2 in omega (arith, far, most, e)))
          | inr most ↦ inl (n, (is, some, most))
        ]
      ]

  -- those of the next so many ids, by rising id
  record IsPartNear (from many : ℕ) (near : List (ℕ × ℕ)) : Type 0 where
    pub rises : AllPairs (λ (x : ℕ × ℕ) (y : ℕ × ℕ). x.0 < y.0) near
    pub found : (z : ℕ × ℕ) → Contains near z → IsAway z.0 z.1 × (from ≤ z.0)
    pub each : (p n : ℕ) → IsAway p n → from ≤ p → p < from + many → Contains near (p, n)

  part_near : (many from : ℕ) → (near : List (ℕ × ℕ)) × IsPartNear from many near
  part_near zero from = ([], record { rises = λ i j d low small. absurd (omega arith); found = λ z c. absurd (none_in z c); each = λ p n is low high. absurd (omega (arith, low, high)) })
  part_near (suc many) from = by (part_near many (suc from)) (away from)
    where
      by : (near : List (ℕ × ℕ)) × IsPartNear (suc from) many near → Decided ((n : ℕ) × IsAway from n) → (near : List (ℕ × ℕ)) × IsPartNear from (suc many) near
      by (near, is) (inr none) = (
        near,
        record {
          rises = is.rises;
          found = λ z c. (let (away, low) = is.found z c in (away, omega (arith, low)));
          each = λ p n far low high. elim (cases_lt from p) [
            | inl more ↦ is.each p n far more (omega (arith, high))
            | inr less ↦ (let same : p ≡ from = omega (arith, low, less) in absurd (none (n, subst (λ q. IsAway q n) same far)))
          ];
        },
      )
      by (near, is) (inl (m, here)) = (
        (from, m) ∷ near,
        record {
          rises = AllPairs-cons (λ (x : ℕ × ℕ) (y : ℕ × ℕ). x.0 < y.0) (from, m) near (λ i d low. (let up = (is.found (get_or near i d) (Contains-get_or near i d low)).1 in omega (arith, up))) is.rises;
          found = λ z c. elim (contains_cases (from, m) near z c) as (λ _. IsAway z.0 z.1 × (from ≤ z.0)) [
            | inl e ↦ subst (λ (w : ℕ × ℕ). IsAway w.0 w.1 × (from ≤ w.0)) e (here, omega arith)
            | inr d ↦ (let (away, low) = is.found z d in (away, omega (arith, low)))
          ];
          each = λ p n far low high. elim (cases_lt from p) [
            | inl more ↦ contains_there (from, m) near (p, n) (is.each p n far more (omega (arith, high)))
            | inr less ↦ (let same : from ≡ p = omega (arith, low, less) in
                let also = subst (λ q. IsAway q m) same here in
                let least = also.0.least n far.0.walk in
                let most = far.0.least m also.0.walk in
                let level : m ≡ n = omega (arith, least, most) in
                subst (λ (w : ℕ × ℕ). Contains ((from, m) ∷ near) w) (λ i. (same i, level i)) (contains_here (from, m) near))
          ];
        },
      )

  pub some_within : (near : List (ℕ × ℕ)) × IsWithin g start steps near
  some_within =
      let (top, below) = above (ids g) in
      let (near, is) = part_near top 0 in (
        near,
        record {
          rises = is.rises;
          exact = λ p n. (
            λ c. (is.found (p, n) c).0,
            λ far. is.each p n far (omega arith) (let low = below p (among_ids g p (walk_end g start p n far.0.walk)) in omega (arith, low)),
          );
        },
      )

  -- those near are held
  pub near_held : (near : List (ℕ × ℕ)) → IsWithin g start steps near → (p : ℕ × ℕ) → Contains near p → IsPerson g p.0
  near_held near is p c = walk_end g start p.0 p.1 ((is.exact p.0 p.1).0 c).0.walk

pub some_length : (g : List Row) (a b : ℕ) → (z : ℤ) × IsLength g a b z
some_length g a b = elim (distance g a b) [
  | inl (n, is) ↦ (_, inl (n, is, refl))
  | inr none ↦ (_, inr (none, refl))
]
