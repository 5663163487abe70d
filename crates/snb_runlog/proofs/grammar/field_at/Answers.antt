use Rattle.std.proofs.Common.{sym}
use Rattle.snb_runlog.proofs.LineFacts.{is_at, is_none_at}
use Rattle.snb_runlog.proofs.grammar.field_at.Goals as goal

pub returns-in-Some : goal.returns-in-Some
returns-in-Some c = is_at c.args.fields.now c.args.place c.in-Some.found.now (sym c.in-Some.ensures.value)

pub returns-in-None : goal.returns-in-None
returns-in-None c = is_none_at c.args.fields.now c.args.place (sym c.in-None.ensures.value)
