use Rattle.std.proofs.Common.{List, ℕ, [], ◌∷◌, ◌++◌, ap, arith, length, refl, subst, sym}
use Rattle.std.specs.List.{AllZip}
use Rattle.json.specs.Token.{Token}
use Rattle.serde_json.specs.Data.{Data}
use Rattle.snb_validation_cases.specs.Takes.{Takes, TakesSome}
use Rattle.snb_validation_cases.specs.Values.{IsArray, IsString}
use Rattle.snb_validation_cases.proofs.TakeFacts.{closed, each_empty, found_is, some_push, takes_array, zip_push}
use Rattle.snb_validation_cases.proofs.taken.texts_at.Goals as goal

-- texts of these values
abbrev Of : List (List ℕ) → List Data → Type 0
Of texts ds = AllZip IsString ds texts

pub items-init : goal.items-init
items-init c =
    (c.opens.new.reader, c.if-not-opens.ensures refl, each_empty 0 (Of c.new-texts.result.items) c.opens.new.reader (subst (λ (texts : List (List ℕ)). Of texts []) (sym c.new-texts.ensures.items) tt))

pub items-smaller : goal.items-smaller
items-smaller c = omega (arith, found_is _ _ _ c.in-Some.is c.in_ok-text.ensures.shorter, ap (λ (ts : List Token). length ts) c.items-test.ensures.1)

pub items-preserved : goal.items-preserved
items-preserved c =
    let before = subst (λ (mid : List Token). TakesSome 0 (Of c.items.texts.items) c.args.reader.now mid) (sym c.items-test.ensures.1) c.items.invariant in
    some_push 0 (Of c.items.texts.items) (λ d. IsString d c.in-Some.text) (Of c.push.new.self.items) c.args.reader.now c.take_end_array.new.self c.text_at.new.reader before (found_is _ _ _ c.in-Some.is c.in_ok-text.ensures.found)
    (λ ds d are is. subst (λ (texts : List (List ℕ)). Of texts (ds ++ d ∷ [])) (sym c.in_ok-push.ensures.items) (zip_push IsString c.in-Some.text c.items.texts.items ds d are is))

pub returns : goal.returns
returns c =
    subst (λ (texts : List (List ℕ)). Takes 1 (λ d. IsArray (AllZip IsString) d texts) c.args.reader.now c.take_end_array.new.self) (sym c.from_vec.ensures)
    (takes_array 0 (Of c.items.texts.items) c.args.reader.now c.items.reader c.take_end_array.new.self c.items.invariant (closed c.items.reader c.take_end_array.new.self c.items-test.ensures))
