use Rattle.snb_schema.specs.UpdateLines.{IsBadInsert, IsBadLine, all_inserts}
use Rattle.snb_streams.proofs.LineFacts.{split_bad}
use Rattle.snb_streams.proofs.MakeFacts.{on_bad}
use Rattle.snb_streams.proofs.line.read_line.Goals as goal

pub returns-clause-bad : goal.returns-clause-bad
returns-clause-bad c =
    on_bad c.read_insert.result (IsBadInsert all_inserts c.in_ok-fields.fields) (IsBadLine c.args.text.now) (λ column bad. split_bad c.args.text.now c.in_ok-fields.fields column c.in_ok-fields.ensures.ok bad) c.read_insert.ensures.bad
