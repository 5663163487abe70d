-- Lists that a test parts in two.
use Rattle.std.specs.Prelude.{◌≡◌, ◌≤◌, ◌<◌, ◌-◌, ℕ, Bool, false, true, List, get_or, length}
use Rattle.std.specs.declared.cmp.Ordering.{Ordering}
use Rattle.std.specs.List.{AllWithin}
use Rattle.std.specs.Ordering.{is_le, is_lt}

-- a key is below another, by how it compares to it, or isn't above it
abbrev pub falls : Bool → Ordering → Bool
falls false r = is_lt r
falls true r = is_le r

-- the elements before a place pass a test, and the others don't
pub record PartsAt {K : Type 0} (test : K → Bool) (ks : List K) (at : ℕ) : Type 0 where
  pub bound : at ≤ length ks
  pub low : AllWithin (λ k. test k ≡ true) ks 0 at
  pub high : AllWithin (λ k. test k ≡ false) ks at (length ks)

-- an element doesn't pass a test, and the one before it does
pub record Begins {K : Type 0} (test : K → Bool) (ks : List K) (at : ℕ) : Type 0 where
  pub bound : at < length ks
  pub here : (d : K) → test (get_or ks at d) ≡ false
  pub before : (d : K) → 0 < at → test (get_or ks (at - 1) d) ≡ true
