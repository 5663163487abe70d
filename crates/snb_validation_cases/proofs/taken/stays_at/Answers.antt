use Rattle.std.proofs.Common.{List, ℕ, [], ◌∷◌, ◌++◌, ap, arith, length, refl, subst, sym}
use Rattle.std.specs.List.{AllZip}
use Rattle.json.specs.Token.{Token}
use Rattle.serde_json.specs.Data.{Data}
use Rattle.snb_validation_cases.specs.Takes.{Takes, TakesSome}
use Rattle.snb_validation_cases.specs.Values.{IsArray}
use Rattle.snb_validation_cases.specs.Replies.{IsStayData}
use Rattle.snb_validation_cases.proofs.TakeFacts.{closed, each_empty, found_is, some_push, takes_array, zip_push}
use Rattle.snb_validation_cases.proofs.taken.stays_at.Goals as goal

-- stays of these values
abbrev Of : List (List ℕ × ℕ × List ℕ) → List Data → Type 0
Of stays ds = AllZip IsStayData ds stays

pub items-init : goal.items-init
items-init c =
    (c.opens.new.reader, c.if-not-opens.ensures refl, each_empty 1 (Of c.new-stays.result.items) c.opens.new.reader (subst (λ (stays : List (List ℕ × ℕ × List ℕ)). Of stays []) (sym c.new-stays.ensures.items) tt))

pub items-smaller : goal.items-smaller
items-smaller c = omega (arith, found_is _ _ _ c.in-Some.is c.in_ok-stay.ensures.shorter, ap (λ (ts : List Token). length ts) c.items-test.ensures.1)

pub items-preserved : goal.items-preserved
items-preserved c =
    let before = subst (λ (mid : List Token). TakesSome 1 (Of c.items.stays.items) c.args.reader.now mid) (sym c.items-test.ensures.1) c.items.invariant in
    some_push 1 (Of c.items.stays.items) (λ d. IsStayData d c.in-Some.stay) (Of c.push.new.self.items) c.args.reader.now c.take_end_array.new.self c.stay_at.new.reader before (found_is _ _ _ c.in-Some.is c.in_ok-stay.ensures.found)
    (λ ds d are is. subst (λ (stays : List (List ℕ × ℕ × List ℕ)). Of stays (ds ++ d ∷ [])) (sym c.in_ok-push.ensures.items) (zip_push IsStayData c.in-Some.stay c.items.stays.items ds d are is))

pub returns : goal.returns
returns c =
    subst (λ (stays : List (List ℕ × ℕ × List ℕ)). Takes 2 (λ d. IsArray (AllZip IsStayData) d stays) c.args.reader.now c.take_end_array.new.self) (sym c.from_vec.ensures)
    (takes_array 1 (Of c.items.stays.items) c.args.reader.now c.items.reader c.take_end_array.new.self c.items.invariant (closed c.items.reader c.take_end_array.new.self c.items-test.ensures))
