use Rattle.std.proofs.Common.{ℕ, refl, subst}
use Rattle.snb_validation_cases.specs.Replies.{AreStay}
use Rattle.snb_validation_cases.specs.Takes.{Takes}
use Rattle.snb_validation_cases.specs.Values.{IsNumberTo}
use Rattle.snb_validation_cases.proofs.TakeFacts.{closed, found_is, stay_taken, takes_array, takes_shorter}
use Rattle.snb_validation_cases.proofs.taken.stay_at.Goals as goal

pub returns-clause-found : goal.returns-clause-found
returns-clause-found c =
    let year = subst (λ (most : ℕ). Takes 0 (λ d. IsNumberTo most d c.in-Some-natural_at.year) c.text_at.new.reader c.natural_at.new.reader) c.from.ensures c.in-Some-natural_at.ensures in
    let values = stay_taken c.in-Some.name c.in-Some-2.place c.in-Some-natural_at.year c.opens.new.reader c.text_at.new.reader c.natural_at.new.reader c.text_at-2.new.reader
    (found_is _ _ _ c.in-Some.is c.in_ok-name.ensures.found) year (found_is _ _ _ c.in-Some-2.is c.in_ok-place.ensures.found) in
    takes_array 0 (λ ds. AreStay ds (c.in-Some.name, c.in-Some-natural_at.year, c.in-Some-2.place)) c.args.reader.now c.text_at-2.new.reader c.take_end_array.new.self
    (c.opens.new.reader, c.if-not-opens.ensures refl, values) (closed c.text_at-2.new.reader c.take_end_array.new.self c.if-not-take_end_array.ensures)

pub returns-clause-shorter : goal.returns-clause-shorter
returns-clause-shorter c = takes_shorter 1 _ c.args.reader.now c.take_end_array.new.self (returns-clause-found c)
