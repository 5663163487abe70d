use Rattle.std.proofs.Common.{List, [], ◌∷◌, ◌++◌, ◌∙◌, ◌≡◌, Some, ap, arith, length, map, refl, subst, sym}
use Rattle.json.specs.Token.{Token}
use Rattle.serde_json.specs.Data.{Data}
use Rattle.serde_json.specs.View.{items_of, view}
use Rattle.serde_json.specs.declared.value.Value.{Value as Json}
use Rattle.std.proofs.lemmas.List.{map-append}
use Rattle.snb_validation_cases.specs.Takes.{TakesSome}
use Rattle.snb_validation_cases.proofs.TakeFacts.{closed, each_empty, found_is, some_push, takes_array, takes_weaker}
use Rattle.snb_validation_cases.proofs.taken.parameters_at.Goals as goal

-- the views of these values
abbrev Of : List Json → List Data → Type 0
Of values ds = ds ≡ map view values

pub items-init : goal.items-init
items-init c =
    (c.opens.new.reader, c.if-not-opens.ensures refl, each_empty 0 (Of c.new-values.result.items) c.opens.new.reader (ap (map view) (sym c.new-values.ensures.items)))

pub items-smaller : goal.items-smaller
items-smaller c = omega (arith, found_is _ _ _ c.in-Some.is c.in_ok-value.ensures.shorter, ap (λ (ts : List Token). length ts) c.items-test.ensures.1)

pub items-preserved : goal.items-preserved
items-preserved c =
    let before = subst (λ (mid : List Token). TakesSome 0 (Of c.items.values.items) c.args.reader.now mid) (sym c.items-test.ensures.1) c.items.invariant in
    some_push 0 (Of c.items.values.items) (λ d. d ≡ view c.in-Some.value) (Of c.push.new.self.items) c.args.reader.now c.take_end_array.new.self c.parameter_at.new.reader before (found_is _ _ _ c.in-Some.is c.in_ok-value.ensures.found)
    (λ ds d are is. (λ i. are i ++ is i ∷ []) ∙ sym (map-append view c.items.values.items (c.in-Some.value ∷ [])) ∙ ap (map view) (sym c.in_ok-push.ensures.items))

pub returns : goal.returns
returns c =
    takes_weaker 1 1 _ _ c.args.reader.now c.take_end_array.new.self (omega arith) (λ d is. is.1 ∙ ap (λ (ds : List Data). Some (items_of ds)) is.2)
    (takes_array 0 (Of c.items.values.items) c.args.reader.now c.items.reader c.take_end_array.new.self c.items.invariant (closed c.items.reader c.take_end_array.new.self c.items-test.ensures))
