use Rattle.snb_schema.specs.Nodes.{addition}
use Rattle.snb_inserts.proofs.ListRows.{put_all}
use Rattle.snb_inserts.proofs.rows.put_rows.Goals as goal
use Rattle.std.proofs.lemmas.Result.{on_ok_weaker}

pub returns : goal.returns
returns c =
    on_ok_weaker c.put_rest.result (λ more. put_all c.args.rows.now.items c.put.new.rows.items c.put_rest.new.rows.items c.in_ok-added_row.field-0 (addition c.args.op.now) c.in_ok-added_row.ensures c.in_ok-put.ensures more)
    c.put_rest.ensures
