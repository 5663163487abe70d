use Rattle.std.proofs.Common.{◌≢◌, ◌++◌, ◌∷◌, ◌∙◌, [], is_some, sym}
use Rattle.std.proofs.lemmas.Result.{on_err_weaker, on_ok_weaker}
use Rattle.snb_schema.specs.Lines.{fields}
use Rattle.snb_input_lines.proofs.BarFacts.{is-empty, line-then, not-empty, stands-past}
use Rattle.snb_input_lines.proofs.RunFacts.{fields_as}
use Rattle.snb_input_lines.proofs.ended.take_any_fields.Goals as goal

pub returns-then-is_empty-clause-ok : goal.returns-then-is_empty-clause-ok
returns-then-is_empty-clause-ok c rest stands =
    let line = c.args.line.now in
    stands-past c.in-Some.reader line rest (is-empty line (sym c.is_empty.ensures ∙ c.if-is_empty.true)) (rw c.in-Some.is at stands)

pub returns-clause-ok : goal.returns-clause-ok
returns-clause-ok c =
    let line = c.args.line.now in
    let filled : line ≢ [] = not-empty line (sym c.is_empty.ensures ∙ c.if-is_empty.false) in
    on_ok_weaker c.take_fields.result (λ read rest stands _.
    (read (line ++ 10 ∷ rest) rest (fields line) (rw c.in-Some.is at stands) (line-then line rest filled c.requires.one_line)).1) c.take_fields.ensures.ok

pub returns-clause-fields : goal.returns-clause-fields
returns-clause-fields c =
    let line = c.args.line.now in
    let rest = c.requires.stands.0 in
    on_ok_weaker c.take_fields.result (λ read filled.
    fields_as (is_some c.args.reader.now) line _ (read (line ++ 10 ∷ rest) rest (fields line) (rw c.in-Some.is at c.requires.stands.1) (line-then line rest filled c.requires.one_line)).0) c.take_fields.ensures.ok

pub returns-clause-err : goal.returns-clause-err
returns-clause-err c =
    let line = c.args.line.now in
    let rest = c.requires.stands.0 in
    let filled : line ≢ [] = not-empty line (sym c.is_empty.ensures ∙ c.if-is_empty.false) in
    on_err_weaker c.take_fields.result (λ read text fresh.
    let failed = read (line ++ 10 ∷ rest) rest (fields line) (rw c.in-Some.is at c.requires.stands.1) (line-then line rest filled c.requires.one_line) in
    cc (failed, fresh)) c.take_fields.ensures.err
