use Rattle.std.proofs.Common.{◌≡◌, ◌∷◌, Some, sym, arith, rules}
use Rattle.json.specs.Token.{Token}
use Rattle.serde_json.specs.Data.{number, string, unsigned}
use Rattle.serde_json.specs.Read.{number_of}
use Rattle.serde_json.specs.View.{view}
use Rattle.serde_json.specs.declared.value.Value.{the_lemmas}
use Rattle.serde_json.specs.declared.value.Value.{Number as of_number}
use Rattle.snb_validation_cases.proofs.TakeFacts.{take_number, take_string}
use Rattle.snb_validation_cases.proofs.taken.parameter_at.Goals as goal

pub returns-in_ok-try_from_str-in-Some-String-clause-found : goal.returns-in_ok-try_from_str-in-Some-String-clause-found
returns-in_ok-try_from_str-in-Some-String-clause-found c =
    let first : c.args.reader.now ≡ Token.string c.in-Some-String.text.now ∷ c.next.new.self = grind arith in
    let same : view c.in_ok-try_from_str-in-Some-String.field-0 ≡ string c.in-Some-String.text.now = grind arith in
    take_string c.in-Some-String.text.now _ _ _ first (sym same)

pub returns-in-Some-clause-found : goal.returns-in-Some-clause-found
returns-in-Some-clause-found c =
    let first : c.args.reader.now ≡ Token.number c.in-Some-Number.text.now ∷ c.next.new.self = grind arith in
    let made : number_of c.in-Some-Number.text.now ≡ Some (unsigned c.in-Some.n) = grind arith in
    let same : number (unsigned c.in-Some.n) ≡ view (of_number c.from.result) = search (rules, the_lemmas) in
    take_number c.in-Some-Number.text.now (unsigned c.in-Some.n) _ _ _ first made same
