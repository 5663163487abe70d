use Rattle.snb_streams.proofs.ParameterFacts.{no_bad_query, one_bad_query, one_params}
use Rattle.snb_streams.proofs.SomeFacts.{query_or_column}
use Rattle.snb_streams.proofs.law.one_query.Goals as goal

pub returns-clause-some : goal.returns-clause-some
returns-clause-some c = query_or_column c.spelled_or_not.ensures.line

pub returns-clause-one : goal.returns-clause-one
returns-clause-one c = one_params c.one_value.ensures.list

pub returns-clause-none : goal.returns-clause-none
returns-clause-none c = no_bad_query

pub returns-clause-bad : goal.returns-clause-bad
returns-clause-bad c = one_bad_query
