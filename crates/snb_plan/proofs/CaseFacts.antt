-- What is wrong with an update, by cases that exclude one another.
use Rattle.std.proofs.Common.{◌≡◌, ◌⊎◌, refl, inl, inr}
use Rattle.snb_schema.specs.declared.refusal.Missing.{Missing}
use Rattle.snb_schema.specs.declared.refusal.Refusal.{Refusal}
use Rattle.snb_schema.specs.declared.refusal.Refusal.TheVariants.{LateDependency, Duplicate, Unmet}
use Rattle.snb_schema.specs.References.{refs_of}
use Rattle.snb_plan.specs.Closed.{Update, IsFirstUnmet, DependsTooLate, IsWrongBy}

-- each case with what isn't so before it
abbrev pub IsWrongCase : (Update → Type 0) → (Update → Missing → Type 0) → Update → Refusal → Type 0
IsWrongCase taken met u r =
    (DependsTooLate u × (r ≡ LateDependency u.file u.line.number))
    ⊎ (¬ DependsTooLate u × taken u × (r ≡ Duplicate u.file u.line.number))
    ⊎ (¬ DependsTooLate u × ¬ taken u × ((node : Missing) × IsFirstUnmet (met u) (refs_of u.line.op) node × (r ≡ Unmet u.file u.line.number node)))

-- such a case is the first that is so
pub from_case : (taken : Update → Type 0) (met : Update → Missing → Type 0) (u : Update) (r : Refusal) → IsWrongCase taken met u r → IsWrongBy taken met u r
from_case taken met u r (inl p) = inl p
from_case taken met u r (inr (inl p)) = inr (λ q w. p.0 w.0, inl (p.1, p.2))
from_case taken met u r (inr (inr p)) = inr (λ q w. p.0 w.0, inr (λ q w. p.1 w.0, inl p.2))

-- and the first that is so is such a case
pub to_case : (taken : Update → Type 0) (met : Update → Missing → Type 0) (u : Update) (r : Refusal) → IsWrongBy taken met u r → IsWrongCase taken met u r
to_case taken met u r (inl p) = inl p
to_case taken met u r (inr (late, inl p)) = inr (inl (λ l. late (LateDependency u.file u.line.number) (l, refl), p.0, p.1))
to_case taken met u r (inr (late, inr (twice, inl p))) =
    inr (inr (λ l. late (LateDependency u.file u.line.number) (l, refl), λ t. twice (Duplicate u.file u.line.number) (t, refl), p))
to_case taken met u r (inr (late, inr (twice, inr p))) = absurd p.1
