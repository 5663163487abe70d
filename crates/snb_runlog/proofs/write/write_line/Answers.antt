use Rattle.std.proofs.Common.{◌≡◌, ◌++◌, List, OnErr, OnOk, subst, ℕ}
use Rattle.snb_runlog.specs.Writing.{AppendsSome}
use Rattle.snb_runlog.proofs.WriteFacts.{logged_text}
use Rattle.snb_runlog.proofs.write.write_line.Goals as goal

pub returns-clause-ok : goal.returns-clause-ok
returns-clause-ok c =
    let text = logged_text c.args.logged.now c.kind_in-kind.result c.letter.result.now c.columns_of-columns.result.now c.numbers_in-numbers.result c.kind_in-kind.ensures c.letter.ensures c.columns_of-columns.ensures c.numbers_in-numbers.ensures in
    subst (λ (t : List ℕ). OnOk c.put_line.result (c.put_line.new.to.items ≡ c.args.to.now.items ++ t)) text c.put_line.ensures.ok

pub returns-clause-err : goal.returns-clause-err
returns-clause-err c =
    let text = logged_text c.args.logged.now c.kind_in-kind.result c.letter.result.now c.columns_of-columns.result.now c.numbers_in-numbers.result c.kind_in-kind.ensures c.letter.ensures c.columns_of-columns.ensures c.numbers_in-numbers.ensures in
    subst (λ (t : List ℕ). OnErr c.put_line.result (AppendsSome c.args.to.now.items c.put_line.new.to.items t)) text c.put_line.ensures.err
