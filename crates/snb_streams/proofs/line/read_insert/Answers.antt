use Rattle.std.proofs.Common.{◌≡◌, ◌∙◌, List, ap, length, subst, sym}
use Rattle.std.specs.Prelude.{IfOk}
use Rattle.snb_schema.specs.declared.column.Column.{Column}
use Rattle.snb_schema.specs.Faults.{OnBadColumn}
use Rattle.snb_schema.specs.UpdateLines.{IsBadInsert, IsFirstBad}
use Rattle.snb_input_fields.specs.Reading.{Reading}
use Rattle.snb_streams.specs.Make.{IsMadeLine}
use Rattle.snb_streams.proofs.FaultFacts.{first_bad}
use Rattle.snb_streams.proofs.MakeFacts.{on_bad, told_line}
use Rattle.snb_streams.proofs.line.read_insert.Goals as goal

pub returns-clause-ok : goal.returns-clause-ok
returns-clause-ok c =
    told_line c.make_line.result c.args.kinds.now c.in_ok-kind.kind c.args.fields.now c.args.number c.in_ok-kind.ensures.ok
    (subst (λ (r : Reading). IfOk c.make_line.result (λ line. IsMadeLine c.in_ok-kind.kind r.fields line × (line.number ≡ c.args.number))) c.new.ensures c.make_line.ensures.ok)

pub returns-clause-bad : goal.returns-clause-bad
returns-clause-bad c =
    let kind = c.in_ok-kind.kind in
    let fs = c.args.fields.now in
    let long = sym c.len.ensures ∙ c.if-len-columns.false ∙ ap (λ (cs : List Column). length cs) c.columns_of-columns.ensures in
    on_bad c.make_line.result (IsFirstBad kind fs) (IsBadInsert c.args.kinds.now fs) (λ column first. first_bad c.args.kinds.now kind fs column c.in_ok-kind.ensures.ok long first)
    (subst (λ (r : Reading). OnBadColumn c.make_line.result (IsFirstBad kind r.fields)) c.new.ensures c.make_line.ensures.bad)
