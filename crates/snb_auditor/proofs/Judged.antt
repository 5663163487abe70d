-- What is known of an event once some rules were tried.
use Rattle.std.proofs.Common.{◌≡◌, ℕ, suc, ◌<◌, length, inl, inr, sym, subst, refl, arith, Option, Some}
use Rattle.std.proofs.lemmas.Bool.{cases_lt}
use Rattle.snb_history.specs.declared.event.Event.{Event}
use Rattle.snb_history.specs.Rules.{Rule, V1, V2, V3, V4, V5, V6, V7, V8, V9, rule_number, Obeys, Fits}
use Rattle.snb_history.specs.Violation.{told_at}
use Rattle.snb_book.specs.Kept.{Kept}
use Rattle.snb_auditor.specs.declared.verdict.Violation.{Violation}
use Rattle.snb_auditor.specs.declared.auditor.Values.{Values}
use Rattle.snb_auditor.specs.Judging.{Judges}
use Rattle.snb_history.proofs.Laws.{number-same}

-- the event obeys the rules whose numbers are below n
abbrev pub Passes : Kept → Event → ℕ → Type 0
Passes b e n = (q : Rule) → rule_number q < n → Obeys b.schedule b.workers b.history e q

pub passes_none : (b : Kept) (e : Event) → Passes b e 1
passes_none b e V1 lt = absurd (omega arith)
passes_none b e V2 lt = absurd (omega arith)
passes_none b e V3 lt = absurd (omega arith)
passes_none b e V4 lt = absurd (omega arith)
passes_none b e V5 lt = absurd (omega arith)
passes_none b e V6 lt = absurd (omega arith)
passes_none b e V7 lt = absurd (omega arith)
passes_none b e V8 lt = absurd (omega arith)
passes_none b e V9 lt = absurd (omega arith)

-- one rule more
pub passes_more : (b : Kept) (e : Event) (r : Rule) → Passes b e (rule_number r) → Obeys b.schedule b.workers b.history e r → Passes b e (suc (rule_number r))
passes_more b e r passes obeys q lt =
    elim (cases_lt (rule_number q) (rule_number r)) [
      | inl below ↦ passes q below
      | inr here ↦ subst (λ (x : Rule). Obeys b.schedule b.workers b.history e x) (number-same r q (omega arith)) obeys
    ]

number-bound : (r : Rule) → rule_number r < 10
number-bound V1 = omega arith
number-bound V2 = omega arith
number-bound V3 = omega arith
number-bound V4 = omega arith
number-bound V5 = omega arith
number-bound V6 = omega arith
number-bound V7 = omega arith
number-bound V8 = omega arith
number-bound V9 = omega arith

-- an event that obeys all fits
pub passes_all : (b : Kept) (e : Event) → Passes b e 10 → Fits b.schedule b.workers b.history e
passes_all b e passes = record { obeys = λ q. passes q (number-bound q) }

-- the violation of the first rule that doesn't hold
abbrev pub violation_of : Kept → Rule → Values → Violation
violation_of b r v = record { event = length b.history; rule = rule_number r; needs = v.needs; found = v.found }

pub breaks_at : (b : Kept) (e : Event) (r : Rule) (v : Values) (given : Option Violation) → given ≡ Some (violation_of b r v) → Passes b e (rule_number r)
    → (¬ Obeys b.schedule b.workers b.history e r) → record { needs = v.needs; found = v.found } ≡ told_at b.schedule b.workers b.history e r → Judges b e given
breaks_at b e r v given is passes broken values =
    subst (λ (o : Option Violation). Judges b e o) (sym is)
    (record { place = refl; first = r; numbered = refl; breaks = record { broken = broken; before = passes; values_are = values } })
