use Rattle.std.proofs.Common.{◌≡◌, ◌∙◌, ℕ, Some, refl, subst, sym, take_all, All}
use mathlib.Core.Bool.{false≢true}
use Rattle.std.proofs.lemmas.List.Elements.{All-contains, All-more, Contains-get_or}
use Rattle.std.specs.BTreeMap.{get}
use Rattle.std.specs.Ordering.{nat_cmp}
use Rattle.snb_input_fields.proofs.lists.agree.Goals as goal

pub returns-then-not-has_year : goal.returns-then-not-has_year
returns-then-not-has_year c = (
  λ t. absurd cc,
  λ all. absurd (false≢true (sym c.if-not-has_year.true ∙ c.has_year.ensures.1 (All-contains (λ (p : ℕ × ℕ). get nat_cmp c.args.years.now p.0 ≡ Some p.1) c.args.pairs.now _ all (Contains-get_or c.args.pairs.now c.loop-id.id-index _ c.loop-id-test.true)))),
)

pub loop-id-preserved : goal.loop-id-preserved
loop-id-preserved c = All-more (λ p. get nat_cmp c.args.years.now p.0 ≡ Some p.1) c.args.pairs.now c.loop-id.id-index _ c.loop-id-test.true c.loop-id.invariant (c.has_year.ensures.0 c.if-not-has_year.false)

pub returns : goal.returns
returns c = (λ t. subst (All (λ p. get nat_cmp c.args.years.now p.0 ≡ Some p.1)) (take_all c.loop-id.id-index c.args.pairs.now c.loop-id-test.false) c.loop-id.invariant, λ h. refl)
