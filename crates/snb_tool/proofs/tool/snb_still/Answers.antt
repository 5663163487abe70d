use Rattle.snb_handlers.specs.Table.{kinds}
use Rattle.snb_tool_outcome.specs.Outcome.{with}
use Rattle.snb_tool.proofs.Served.{served}
use Rattle.snb_tool.proofs.tool.snb_still.Goals as goal

pub returns : goal.returns
returns g c = λ moments.
    served g.S.Shelf g.O.Outbox moments (with c.args.words.now (kinds c.args.handlers.now) c.args.policy.now.pick) c.args.shelf.now c.answer.new.shelf c.args.out.now c.answer.new.out c.answer.result
    c.answers_have_status.ensures c.one_command.ensures c.refusal_is_one.ensures.one c.refusal_is_one.ensures.or_not
    (c.answer.ensures.ends moments) c.answer.ensures.other_line c.answer.ensures.unread
    c.answer.ensures.read_only c.answer.ensures.reads_calm c.answer.ensures.writes_later c.answer.ensures.writes_calm
