use Rattle.snb_schema.specs.ReadKinds.{parameter_columns, parameter_values, read_kind_of}
use Rattle.snb_tool_words.proofs.ReadLemmas.{may_read, never_stops, same_read}
use Rattle.snb_tool_words.proofs.taken.query_in.Goals as goal

pub read_query-requires : goal.read_query-requires
read_query-requires c =
    let (query, found) = c.requires in
    may_read (parameter_columns c.kind_in.result) _ (parameter_values query) (rw (c.kind_in.ensures (read_kind_of query) found.kind) found.parameters)

pub unreachable-requires : goal.unreachable-requires
unreachable-requires c = never_stops (parameter_columns c.kind_in.result) _ _ (rw c.in-Err-Bad.field-0-is at c.in-Err-Bad.ensures).bad

pub returns-in-Ok : goal.returns-in-Ok
returns-in-Ok c = λ query found. same_read c.one_value.ensures.value _ _ c.in-Ok.query query c.kind_in.result c.in-Ok.ensures.kind (c.kind_in.ensures (read_kind_of query) found.kind) c.in-Ok.ensures.ok found.parameters
