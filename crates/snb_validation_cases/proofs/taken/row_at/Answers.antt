use Rattle.std.proofs.Common.{List, [], ◌∷◌, ◌++◌, ◌+◌, arith, refl, subst, sym, take}
use Rattle.std.proofs.lemmas.List.{take_all}
use Rattle.serde_json.specs.Data.{Data}
use Rattle.snb_read_model.specs.Cells.{ByteCell}
use Rattle.snb_schema.specs.declared.query.CellKind.{CellKind}
use Rattle.snb_validation_cases.specs.Replies.{IsCellIn}
use Rattle.snb_validation_cases.specs.Takes.{Takes}
use Rattle.snb_validation_cases.specs.Values.{AreAlong, IsArray}
use Rattle.snb_validation_cases.proofs.TakeFacts.{along_push, closed, each_empty, found_is, one_more, some_push, takes_array, takes_shorter}
use Rattle.snb_validation_cases.proofs.taken.row_at.Goals as goal

-- cells of these columns
abbrev Of : List CellKind → List ByteCell → List Data → Type 0
Of columns cells ds = AreAlong IsCellIn columns ds cells

pub loop-i-init : goal.loop-i-init
loop-i-init c =
    (c.opens.new.reader, c.if-not-opens.ensures refl, each_empty 2 (Of [] c.new-cells.result.items) c.opens.new.reader (subst (λ (cells : List ByteCell). Of [] cells []) (sym c.new-cells.ensures.items) tt))

pub loop-i-preserved : goal.loop-i-preserved
loop-i-preserved c =
    let i = c.loop-i.i in
    let columns : List CellKind = c.args.columns.now in
    some_push 2 (Of (take i columns) c.loop-i.cells.items) _ (Of (take (i + 1) columns) c.push.new.self.items) c.args.reader.now c.loop-i.reader c.cell_at.new.reader c.loop-i.invariant
    (found_is _ _ _ c.in-Some.is c.in_ok-cell.ensures)
    (λ ds d are is. subst (λ (cells : List ByteCell). Of (take (i + 1) columns) cells (ds ++ d ∷ [])) (sym c.in_ok-push.ensures.items)
    (subst (λ (cs : List CellKind). Of cs (c.loop-i.cells.items ++ c.in-Some.cell ∷ []) (ds ++ d ∷ [])) (sym (one_more columns i _ c.loop-i-test.true))
    (along_push IsCellIn _ c.in-Some.cell (take i columns) c.loop-i.cells.items ds d are is)))

pub returns-clause-found : goal.returns-clause-found
returns-clause-found c =
    let columns : List CellKind = c.args.columns.now in
    subst (λ (cells : List ByteCell). Takes 3 (λ d. IsArray (AreAlong IsCellIn columns) d cells) c.args.reader.now c.take_end_array.new.self) (sym c.from_vec.ensures)
    (subst (λ (cs : List CellKind). Takes 3 (λ d. IsArray (AreAlong IsCellIn cs) d c.loop-i.cells.items) c.args.reader.now c.take_end_array.new.self) (take_all c.loop-i.i columns (omega (arith, c.loop-i-test.false)))
    (takes_array 2 (Of (take c.loop-i.i columns) c.loop-i.cells.items) c.args.reader.now c.loop-i.reader c.take_end_array.new.self c.loop-i.invariant
    (closed c.loop-i.reader c.take_end_array.new.self c.if-not-take_end_array.ensures)))

pub returns-clause-shorter : goal.returns-clause-shorter
returns-clause-shorter c = takes_shorter 3 _ c.args.reader.now c.take_end_array.new.self (returns-clause-found c)
