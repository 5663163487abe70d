use Rattle.std.proofs.Common.{◌≡◌, ◌∙◌, ℕ, Some, ap, sym}
use Rattle.std.proofs.lemmas.List.Elements.{All-contains, Contains-get_or}
use Rattle.std.specs.BTreeMap.{get}
use Rattle.std.specs.Ordering.{nat_cmp}
use Rattle.snb_input_fields.proofs.SeenFacts.{years_agree}
use Rattle.snb_input_fields.proofs.lists.has_one_year.Goals as goal
use Rattle.std.proofs.lemmas.Option.{same_Some}

pub returns : goal.returns
returns c = (
  λ t p q here there same.
      let all = c.agree.ensures.0 t in
      let one = All-contains (λ (r : ℕ × ℕ). get nat_cmp c.in_ok-years.years r.0 ≡ Some r.1) c.args.pairs.now p all here in
      let two = All-contains (λ (r : ℕ × ℕ). get nat_cmp c.in_ok-years.years r.0 ≡ Some r.1) c.args.pairs.now q all there in
      same_Some p.1 q.1 (sym one ∙ ap (get nat_cmp c.in_ok-years.years) same ∙ two),
  λ years. c.agree.ensures.1 (λ k d l. years_agree c.args.pairs.now (get nat_cmp c.in_ok-years.years) c.in_ok-years.ensures.0 years _ (Contains-get_or c.args.pairs.now k d l)),
)
