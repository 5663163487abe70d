use Rattle.std.proofs.Common.{◌++◌, ◌∷◌, ◌∙◌, [], add-one, ap, map, suc, take}
use Rattle.std.specs.List.{join_with_byte}
use Rattle.snb_schema.specs.Columns.{canonical_field}
use Rattle.snb_input_fields.specs.Cells.{value_of}
use Rattle.snb_input_fields.proofs.JoinFacts.{front_of, front_within, later_all, later_more}
use Rattle.snb_input_fields.proofs.write.put_cells.Goals as goal

pub loop-cell-init : goal.loop-cell-init
loop-cell-init c = rw c.in-Some.ensures.cases.0 c.in_ok-put_cell.ensures.ok

pub returns-in_err-push-clause-err : goal.returns-in_err-push-clause-err
returns-in_err-push-clause-err c =
    front_of c.from_residual-in_err-push.result c.args.to.now.items (join_with_byte 124 (map canonical_field (map value_of (take (suc c.loop-cell.cell-index) c.args.cells.now)))) c.push.new.self.items (c.in_err-push.ensures.items ∙ c.loop-cell.invariant)

pub returns-in_err-put_cell-2-clause-err : goal.returns-in_err-put_cell-2-clause-err
returns-in_err-put_cell-2-clause-err c =
    front_within c.from_residual-in_err-put_cell-2.result c.args.to.now.items (join_with_byte 124 (map canonical_field (map value_of (take (suc c.loop-cell.cell-index) c.args.cells.now)))) (124 ∷ []) c.loop-cell.to.items c.push.new.self.items c.put_cell-in-loop-cell.new.line.items
    c.loop-cell.invariant c.in_ok-push.ensures.items c.in_err-put_cell-2.ensures.err

pub loop-cell-preserved : goal.loop-cell-preserved
loop-cell-preserved c =
    rw add-one (later_more c.args.to.now.items c.in-Some.first.now c.cell-item.result c.in-Some.later.now c.args.cells.now c.loop-cell.cell-index c.loop-cell.to.items c.push.new.self.items c.put_cell-in-loop-cell.new.line.items
    c.in-Some.ensures.cases.0 c.loop-cell-test.true c.loop-cell.invariant c.in_ok-push.ensures.items (c.in_ok-put_cell-2.ensures.ok ∙ ap (λ d. c.push.new.self.items ++ canonical_field (value_of d)) c.cell-item.is))

pub returns-clause-ok : goal.returns-clause-ok
returns-clause-ok c = later_all c.args.to.now.items c.in-Some.first.now c.in-Some.later.now c.args.cells.now c.loop-cell.cell-index c.loop-cell.to.items c.in-Some.ensures.cases.0 c.loop-cell-test.false c.loop-cell.invariant
