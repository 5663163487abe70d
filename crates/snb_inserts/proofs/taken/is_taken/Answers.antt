use Rattle.std.proofs.Common.{◌≡◌, ◌↔◌, List, [], ◌∷◌, Option, refl, sym, ap, subst, ◌∙◌}
use Rattle.std.specs.Option.{option_to_list}
use Rattle.snb_schema.specs.declared.key.Key.{Key}
use Rattle.snb_base.proofs.Laws.{contains_here, not_held}
use Rattle.snb_schema.specs.Inserts.{keys_of}
use Rattle.snb_graph_model.specs.Graphs.{HoldsKey}
use Rattle.snb_inserts.specs.Applying.{IsAnyHeld}
use Rattle.snb_inserts.proofs.TakenLemmas.{other_held}
use Rattle.snb_inserts.proofs.taken.is_taken.Goals as goal

pub returns-then-has : goal.returns-then-has
returns-then-has c =
    let one = c.keys_of-keys.result.one in (
      λ is. subst (IsAnyHeld c.args.graph.now) c.keys_of-keys.ensures (one, contains_here one (option_to_list c.keys_of-keys.result.other), c.if-has.ensures.0 refl),
      λ any. refl,
    )

pub returns-in-Some : goal.returns-in-Some
returns-in-Some c =
    let one = c.keys_of-keys.result.one in
    let keys : one ∷ c.in-Some.other ∷ [] ≡ keys_of c.args.op.now = ap (λ (o : Option Key). one ∷ option_to_list o) (sym c.in-Some.is) ∙ c.keys_of-keys.ensures in
    let lacks = not_held c.has.result c.has.ensures c.if-has.false in
    let both : HoldsKey c.args.graph.now c.in-Some.other ↔ IsAnyHeld c.args.graph.now (keys_of c.args.op.now) =
    subst (λ (list : List Key). HoldsKey c.args.graph.now c.in-Some.other ↔ IsAnyHeld c.args.graph.now list) keys (other_held c.args.graph.now one c.in-Some.other lacks) in
    (λ is. both.0 (c.has-in-Some.ensures.0 is), λ any. c.has-in-Some.ensures.1 (both.1 any))
