-- Walks that give the nodes of a list one by one.
use Rattle.std.proofs.Common.{◌≡◌, List, ◌∷◌, ◌++◌, Option, Some, None, map, ap, refl, sym, ◌∙◌}
use Rattle.std.specs.Iterator.{Yields}
use Rattle.std.specs.Map.Iter.{TakesFirst}
use Rattle.std.proofs.lemmas.List.{map-id}
use Rattle.std.proofs.lemmas.Map.Iter.{iter_end, rest_more, rest_so_far}
use Rattle.snb_schema.specs.declared.refusal.Missing.{Missing}

-- the node itself
abbrev same : Missing → Missing
same node = node

-- what a walk gave, the node that it gives next and what is left then are together all that it had to give
pub walked_to : (all so_far left after : List Missing) (given : Option Missing) (next : Missing) → Yields (TakesFirst (λ node. node)) all so_far left → given ≡ Some next
    → TakesFirst (λ node. node) left given after → so_far ++ next ∷ after ≡ all
walked_to all so_far left after given next gave is step =
    let front : all ≡ map same so_far ++ left = rest_so_far same so_far all left gave in
    let here : left ≡ next ∷ after = rest_more same left after given next is step in
    sym (front ∙ ap (λ (xs : List Missing). xs ++ left) (map-id so_far) ∙ ap (λ (xs : List Missing). so_far ++ xs) here)

-- a walk that gives no more has given all that it had to give
pub walked_all : (all so_far left after : List Missing) (given : Option Missing) → Yields (TakesFirst (λ node. node)) all so_far left → given ≡ None
    → TakesFirst (λ node. node) left given after → so_far ≡ all
walked_all all so_far left after given gave is step = sym (map-id so_far) ∙ (iter_end same all so_far all left after given refl gave is step).0
