-- Walks: turned round, joined, and cut.
use Rattle.std.proofs.Common.{◌≡◌, ℕ, zero, suc, ◌+◌, ◌-◌, ◌≤◌, List, true, inl, inr, refl, arith}
use Rattle.std.proofs.lemmas.Bool.{cases_lt}
use Rattle.snb_schema.specs.declared.row.Row.{Row}
use Rattle.snb_graph_model.specs.Around.{is_friend}
use Rattle.snb_read_model.specs.Distance.{IsDistance, IsPerson, FriendPath}
use Rattle.snb_graph_model.proofs.Laws.{Friendship, friend_tells, friend_told}

module _ (g : List Row) where
  -- friends know each other
  pub friend_turned : (p q : ℕ) → is_friend g p q ≡ true → is_friend g q p ≡ true
  friend_turned p q f = let (d, k) = friend_told g p q f in friend_tells g q p d (turned d k)
    where
      turned : (d : ℕ) → Friendship g p q d → Friendship g q p d
      turned d (inl c) = inr c
      turned d (inr c) = inl c

  -- a walk begins and ends at persons of the graph
  pub walk_end : (a b n : ℕ) → FriendPath g a b n → IsPerson g b
  walk_end _ _ _ (FriendPath.stay _ is) = is
  walk_end _ _ _ (FriendPath.step _ b c n w f is) = is

  pub walk_start : (a b n : ℕ) → FriendPath g a b n → IsPerson g a
  walk_start _ _ _ (FriendPath.stay _ is) = is
  walk_start _ _ _ (FriendPath.step a b _ n w f is) = walk_start a b n w

  -- a walk with a step more is one that comes from a friend
  pub last_step : (a c n : ℕ) → FriendPath g a c n → (m : ℕ) → n ≡ suc m → (b : ℕ) × FriendPath g a b m × (is_friend g b c ≡ true)
  last_step _ _ _ (FriendPath.stay _ is) m e = absurd (omega arith)
  last_step _ _ _ (FriendPath.step a b c n w f is) m e = let same : n ≡ m = omega arith in (b, rw same at w, f)

  pub no_step : (a b n : ℕ) → FriendPath g a b n → n ≡ 0 → b ≡ a
  no_step _ _ _ (FriendPath.stay _ is) e = refl
  no_step _ _ _ (FriendPath.step _ b _ n w f is) e = absurd (omega arith)

  -- a step before a walk
  walk_before : (a b c n : ℕ) → IsPerson g a → is_friend g a b ≡ true → FriendPath g b c n → FriendPath g a c (suc n)
  walk_before a _ _ _ is f (FriendPath.stay b there) = FriendPath.step a a b zero (FriendPath.stay a is) f there
  walk_before a _ _ _ is f (FriendPath.step b c d n w k there) = FriendPath.step a c d (suc n) (walk_before a b c n is f w) k there

  pub walk_turned : (a b n : ℕ) → FriendPath g a b n → FriendPath g b a n
  walk_turned _ _ _ (FriendPath.stay a is) = FriendPath.stay a is
  walk_turned _ _ _ (FriendPath.step a b c n w f is) = walk_before c b a n is (friend_turned b c f) (walk_turned a b n w)

  pub walk_joined : (a b c m n : ℕ) → FriendPath g a b m → FriendPath g b c n → FriendPath g a c (m + n)
  walk_joined a _ _ m _ v (FriendPath.stay b is) = let same : m + 0 ≡ m = omega arith in rw same v
  walk_joined a _ _ m _ v (FriendPath.step b c d n w f is) =
      let same : m + suc n ≡ suc (m + n) = omega arith in
      rw same (FriendPath.step a c d (m + n) (walk_joined a b c m n v w) f is)

  -- a walk passes by somebody after each number of steps
  pub walk_cut : (a b n i : ℕ) → i ≤ n → FriendPath g a b n → (r : ℕ) × FriendPath g a r i × FriendPath g r b (n - i)
  walk_cut _ _ _ i low (FriendPath.stay a is) =
      let same : i ≡ 0 = omega arith in
      (a, rw same (FriendPath.stay a is), rw same (FriendPath.stay a is))
  walk_cut _ _ _ i low (FriendPath.step a b c n w f is) =
      elim (cases_lt n i) as (λ _. (r : ℕ) × FriendPath g a r i × FriendPath g r c (suc n - i)) [
        | inl more ↦ (let same : i ≡ suc n = omega arith in
            let none : suc n - i ≡ 0 = omega arith in
            (c, rw same (FriendPath.step a b c n w f is), rw none (FriendPath.stay c is)))
        | inr less ↦ (let (r, v, u) = walk_cut a b n i less w in
            let same : suc n - i ≡ suc (n - i) = omega arith in
            (r, v, rw same (FriendPath.step r b c (n - i) u f is)))
      ]

  -- two distances are one, and a distance is that of the way back
  pub one_distance : (a b m n : ℕ) → IsDistance g a b m → IsDistance g a b n → m ≡ n
  one_distance a b m n d e = omega (arith, d.least n e.walk, e.least m d.walk)

  pub distance_turned : (a b n : ℕ) → IsDistance g a b n → IsDistance g b a n
  distance_turned a b n d = record { walk = walk_turned a b n d.walk; least = λ m w. d.least m (walk_turned b a m w) }
