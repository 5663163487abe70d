use Rattle.std.proofs.Common.{◌≡◌, ◌++◌, OnOk, subst, sym}
use Rattle.snb_schema.specs.declared.op.Op.{Op}
use Rattle.snb_schema.specs.UpdateLines.{canonical_line}
use Rattle.snb_streams.proofs.insert_lines.put_forum.Goals as goal

pub returns-clause-ok : goal.returns-clause-ok
returns-clause-ok c =
    subst (λ (op : Op). OnOk c.put_fields.result (c.put_fields.new.to.items ≡ c.args.to.now.items ++ canonical_line c.args.t c.args.t_d op)) (sym c.in-AddForum.is)
    (rw (← c.as_str.ensures, ← c.as_slice.ensures) c.put_fields.ensures.ok)
