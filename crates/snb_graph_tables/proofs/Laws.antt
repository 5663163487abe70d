-- Laws that proofs above cite.
use Rattle.std.proofs.Common.{◌≡◌, ◌⊎◌, ◌<◌, ℕ, zero, suc, length, get_or, List, [], ◌∷◌, ◌++◌, ap, inl, inr, arith}
use Rattle.std.specs.List.{Contains}
use Rattle.std.specs.List.Sorted.{IsPermutation}
use Rattle.std.proofs.lemmas.List.Elements.{Contains-append_cases}
use Rattle.std.proofs.lemmas.List.Sorted.{Contains-permutation}
use Rattle.snb_schema.specs.declared.row.Row.{Row}
use Rattle.snb_graph_rows.specs.Rows.{Stock}

pub contains_gained : (old new : List Row) (r x : Row) → IsPermutation new (old ++ r ∷ []) → Contains new x → Contains old x ⊎ (r ≡ x)
contains_gained old new r x p c =
    elim (Contains-append_cases old (r ∷ []) x (Contains-permutation new (old ++ r ∷ []) x p c)) [
      | inl h ↦ inl h
      | inr h ↦ inr (one h.0 h.1 h.2)
    ]
  where
    one : (k : ℕ) → k < length (r ∷ []) → get_or (r ∷ []) k x ≡ x → r ≡ x
    one zero l e = e
    one (suc k) l e = absurd (omega (arith, l))

-- equal stocks have equal rows
pub rows_is : {s t : Stock} → s ≡ t → s.rows ≡ t.rows
rows_is e = ap (λ (x : Stock). x.rows) e

pub frozen_is : {s t : Stock} → s ≡ t → s.frozen ≡ t.frozen
frozen_is e = ap (λ (x : Stock). x.frozen) e
