use Rattle.std.proofs.Common.{◌≡◌, ◌++◌, List, OnErr, OnOk, subst, ℕ}
use Rattle.snb_runlog.specs.Writing.{AppendsSome}
use Rattle.snb_runlog.proofs.WriteFacts.{header_text}
use Rattle.snb_runlog.proofs.write.write_header.Goals as goal

pub returns-clause-ok : goal.returns-clause-ok
returns-clause-ok c =
    let text = header_text c.args.header.now c.as_bytes.result.now c.from.result c.from-2.result c.as_bytes.ensures.value c.from.ensures c.from-2.ensures in
    subst (λ (t : List ℕ). OnOk c.put_line.result (c.put_line.new.to.items ≡ c.args.to.now.items ++ t)) text c.put_line.ensures.ok

pub returns-clause-err : goal.returns-clause-err
returns-clause-err c =
    let text = header_text c.args.header.now c.as_bytes.result.now c.from.result c.from-2.result c.as_bytes.ensures.value c.from.ensures c.from-2.ensures in
    subst (λ (t : List ℕ). OnErr c.put_line.result (AppendsSome c.args.to.now.items c.put_line.new.to.items t)) text c.put_line.ensures.err
