-- What standard error shows.
use Rattle.std.proofs.Common.{◌≡◌, ◌∙◌, ◌<◌, ◌++◌, ◌∷◌, ◌==◌, ◌⊎◌, ℕ, List, [], Option, None, Some, refl, ap, arith, inl, inr, sym, append-nil, option_map}
use Rattle.std.proofs.lemmas.Bool.{cases_Bool, eqb-true}
use Rattle.snb_ending.specs.declared.fault.Fault.{Fault}
use Rattle.snb_ending.specs.declared.fault.Fault.TheVariants.{Read, Write, Memory}
use Rattle.snb_ending.specs.Endings.{line_of, shown_for, status_of}

-- the line of a fault
pub line_shown : (fault : Fault) → shown_for (status_of fault) ≡ line_of fault ++ 10 ∷ []
line_shown Read = refl
line_shown Write = refl
line_shown Memory = refl

-- and else none
pub none_shown : (status : ℕ) → (status < 4) ⊎ (6 < status) → shown_for status ≡ []
none_shown status out =
    elim (cases_Bool (status == 4)) [
      | inl same ↦ absurd (not status 4 out (eqb-true status 4 same) (omega arith) (omega arith))
      | inr four ↦ rw four (elim (cases_Bool (status == 5)) [
        | inl same ↦ absurd (not status 5 out (eqb-true status 5 same) (omega arith) (omega arith))
        | inr five ↦ rw five (elim (cases_Bool (status == 6)) [
          | inl same ↦ absurd (not status 6 out (eqb-true status 6 same) (omega arith) (omega arith))
          | inr six ↦ rw six refl
        ])
      ])
    ]
  where
    not : (s n : ℕ) → (s < 4) ⊎ (6 < s) → s ≡ n → 3 < n → n < 7 → ⊥
    not s n (inl low) e a b = omega (arith, low, e, a, b)
    not s n (inr high) e a b = omega (arith, high, e, a, b)

pub nothing_shown : (given : Option (List ℕ)) (more : List ℕ) → more ≡ [] → given ≡ option_map (λ text. text ++ more) given
nothing_shown None more none = refl
nothing_shown (Some text) more none = ap Some (sym (ap (λ (m : List ℕ). text ++ m) none ∙ append-nil text))
