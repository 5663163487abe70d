use Rattle.snb_runlog.specs.Columns.{event_columns}
use Rattle.snb_runlog.proofs.EventFacts.{read_within}
use Rattle.snb_runlog.proofs.grammar.event_in.Goals as goal

pub logged_of-requires : goal.logged_of-requires
logged_of-requires c = read_within (event_columns c.args.version c.in-Some.kind) c.columns_of-columns.result.now _ c.in-Ok.numbers c.columns_of-columns.ensures c.in-Ok.ensures.ok
