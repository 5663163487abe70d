use Rattle.std.proofs.Common.{[], ◌∷◌}
use Rattle.snb_schema.proofs.FrequencyFacts.{last_none, last_some, first_none, rest_none, more_some, with_more}
use Rattle.snb_schema.proofs.frequencies.+read_after.Goals as goal

pub returns-in_err-query-in-None : goal.returns-in_err-query-in-None
returns-in_err-query-in-None t c = rw c.from_residual.ensures (last_none c.args.text.now c.args.last c.in-None.ensures c.in_err-query-in-None.ensures)

pub returns-in_err-query-in-Some : goal.returns-in_err-query-in-Some
returns-in_err-query-in-Some t c =
    rw c.from_residual-in_err-query-in-Some.ensures (first_none c.args.text.now c.in-Some.piece.now c.in-Some.rest.now c.args.last c.in-Some.ensures c.in_err-query-in-Some.ensures)

pub returns-in_err-more-in-Some : goal.returns-in_err-more-in-Some
returns-in_err-more-in-Some t c =
    rw c.from_residual-in_err-more-in-Some.ensures (rest_none c.args.text.now c.in-Some.piece.now c.in-Some.rest.now c.args.last (c.in_ok-query-in-Some.query, c.in_ok-query-in-Some.frequency) c.in-Some.ensures c.in_ok-query-in-Some.ensures.0 c.in_err-more-in-Some.ensures)

pub returns-in_ok-query-in-None : goal.returns-in_ok-query-in-None
returns-in_ok-query-in-None t c =
    let found = c.in_ok-query-in-None.ensures in (
      (c.in_ok-query-in-None.query, c.in_ok-query-in-None.frequency) ∷ [],
      last_some c.args.text.now c.args.last (c.in_ok-query-in-None.query, c.in_ok-query-in-None.frequency) c.in-None.ensures found.0 found.1,
      with_more c.none.result c.with.result (c.in_ok-query-in-None.query, c.in_ok-query-in-None.frequency) [] c.none.ensures c.with.ensures,
    )

pub returns-in_ok-more-in-Some : goal.returns-in_ok-more-in-Some
returns-in_ok-more-in-Some t c =
    let found = c.in_ok-query-in-Some.ensures in
    let later = c.in_ok-more-in-Some.ensures in (
      (c.in_ok-query-in-Some.query, c.in_ok-query-in-Some.frequency) ∷ later.0,
      more_some c.args.text.now c.in-Some.piece.now c.in-Some.rest.now c.args.last (c.in_ok-query-in-Some.query, c.in_ok-query-in-Some.frequency) later.0 c.in-Some.ensures found.0 found.1 later.1,
      with_more c.in_ok-more-in-Some.more c.with-in-Some.result (c.in_ok-query-in-Some.query, c.in_ok-query-in-Some.frequency) later.0 later.2 c.with-in-Some.ensures,
    )
