use Rattle.std.proofs.Common.{List, [], ◌∷◌, ◌++◌, ◌+◌, ◌∙◌, ◌≡◌, ap, arith, get_or, subst, sym, take}
use Rattle.std.proofs.lemmas.List.{take_all}
use Rattle.serde_json.specs.Data.{Data}
use Rattle.snb_read_model.specs.Cells.{ByteCell}
use Rattle.snb_schema.specs.declared.query.Query.{Query}
use Rattle.snb_validation_cases.specs.Replies.{IsAnswerTo}
use Rattle.snb_validation_cases.specs.Takes.{TakesEach}
use Rattle.snb_validation_cases.specs.Values.{AreAlong}
use Rattle.snb_validation_cases.proofs.TakeFacts.{along_push, each_empty, each_push, found_is, one_more}
use Rattle.snb_validation_cases.proofs.taken.answers_at.Goals as goal

-- answers to these queries
abbrev Of : List Query → List (List (List ByteCell)) → List Data → Type 0
Of queries answers ds = AreAlong IsAnswerTo queries ds answers

pub loop-i-init : goal.loop-i-init
loop-i-init c =
    each_empty 4 (Of [] c.new-answers.result.items) c.args.reader.now (subst (λ (answers : List (List (List ByteCell))). Of [] answers []) (sym c.new-answers.ensures.items) tt)

pub loop-i-preserved : goal.loop-i-preserved
loop-i-preserved c =
    let i = c.loop-i.i in
    let queries : List Query = c.args.queries.now in
    let query : Query = c.index-queries-i.result in
    let here : get_or queries i query ≡ query = sym c.index-queries-i.is in
    each_push 4 (Of (take i queries) c.loop-i.answers.items) _ (Of (take (i + 1) queries) c.push.new.self.items) c.args.reader.now c.loop-i.reader c.answer_at.new.reader c.loop-i.invariant
    (found_is _ _ _ c.in-Some.is c.in_ok-answer.ensures.found)
    (λ ds d are is. subst (λ (answers : List (List (List ByteCell))). Of (take (i + 1) queries) answers (ds ++ d ∷ [])) (sym c.in_ok-push.ensures.items)
    (subst (λ (qs : List Query). Of qs (c.loop-i.answers.items ++ c.in-Some.answer ∷ []) (ds ++ d ∷ [])) (sym (one_more queries i query c.loop-i-test.true ∙ ap (λ (q : Query). take i queries ++ q ∷ []) here))
    (along_push IsAnswerTo query c.in-Some.answer (take i queries) c.loop-i.answers.items ds d are is)))

pub returns : goal.returns
returns c =
    subst (λ (qs : List Query). TakesEach 4 (Of qs c.loop-i.answers.items) c.args.reader.now c.loop-i.reader) (take_all c.loop-i.i c.args.queries.now (omega (arith, c.loop-i-test.false))) c.loop-i.invariant
