use Rattle.snb_history.specs.History.{started}
use Rattle.std.proofs.Common.{subst, ◌≡◌, ℕ, ◌<◌, true, refl, arith, [], ◌∷◌}
use Rattle.snb_history.specs.declared.event.Event.TheVariants.{Start}
use Rattle.snb_history.specs.Rules.{Rule, V1, V2, V3, V4, V5, V6, V7, V8, V9, rule_number, Obeys}
use Rattle.snb_history.specs.Worked.{tie}
use Rattle.snb_history.proofs.worked.first_rule_first.Goals as goal

before : (q : Rule) → rule_number q < 5 → Obeys tie 2 (Start 0 0 3000 ∷ []) (Start 1 1 2000) q
before V1 lt = (omega arith, record { known = omega arith; running = refl })
before V2 lt = record { fresh = refl; led = λ j b. let z : 0 ≡ j = (let l = b.0 in omega arith) in subst (λ (i : ℕ). started (Start 0 0 3000 ∷ []) i ≡ true) z refl }
before V3 lt = λ forum. absurd cc
before V4 lt = omega arith
before V5 lt = absurd (omega arith)
before V6 lt = absurd (omega arith)
before V7 lt = tt
before V8 lt = tt
before V9 lt = absurd (omega arith)

pub returns : goal.returns
returns c = record {
  broken = λ cleared. absurd (let f = cleared refl 0 refl (omega arith) in cc);
  before = before;
  values_are = refl;
}
