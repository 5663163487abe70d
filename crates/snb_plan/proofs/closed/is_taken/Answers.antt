use Rattle.std.proofs.Common.{◌≡◌, ◌↔◌, Option, ◌∷◌, [], List, ap, sym, subst, ◌∙◌, Contains}
use Rattle.std.specs.Option.{option_to_list}
use Rattle.std.proofs.lemmas.Bool.{false≢true}
use Rattle.snb_schema.specs.declared.key.Key.{Key}
use Rattle.snb_schema.specs.Inserts.{keys_of}
use Rattle.snb_plan.specs.Added.{IsKeyTaken}
use Rattle.snb_plan.proofs.Slots.{of_two_keys}
use Rattle.snb_plan.proofs.closed.is_taken.Goals as goal

pub returns-in-Some : goal.returns-in-Some
returns-in-Some g c =
    let P : Key → Type 0 = IsKeyTaken (g.H.Held.holds c.args.held.now) c.args.added.now in
    let one = c.keys_of-keys.result.one in
    let keys : one ∷ c.in-Some.other ∷ [] ≡ keys_of c.args.line.now.op = ap (λ (o : Option Key). one ∷ option_to_list o) (sym c.in-Some.is) ∙ c.keys_of-keys.ensures in
    let two = of_two_keys P one c.in-Some.other (λ p. false≢true (sym c.if-is_key_taken.false ∙ c.is_key_taken.ensures.1 p)) in
    let both : P c.in-Some.other ↔ ((key : Key) × Contains (keys_of c.args.line.now.op) key × P key) =
    subst (λ (list : List Key). P c.in-Some.other ↔ ((key : Key) × Contains list key × P key)) keys two in
    (λ is. both.0 (c.is_key_taken-in-Some.ensures.0 is), λ some. c.is_key_taken-in-Some.ensures.1 (both.1 some))
