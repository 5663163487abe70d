use Rattle.std.proofs.Common.{List, [], ◌∷◌, ◌++◌, ap, arith, length, refl, subst, sym}
use Rattle.std.specs.List.{AllZip}
use Rattle.json.specs.Token.{Token}
use Rattle.serde_json.specs.Data.{Data}
use Rattle.snb_read_model.specs.Cells.{ByteCell}
use Rattle.snb_read_model.specs.Columns.{HaveColumns}
use Rattle.snb_schema.specs.declared.query.Query.{Query}
use Rattle.snb_schema.specs.declared.query.CellKind.{CellKind}
use Rattle.snb_validation_cases.specs.Replies.{IsAnswerTo, IsCellIn, IsRow}
use Rattle.snb_validation_cases.specs.Takes.{Takes, TakesSome}
use Rattle.snb_validation_cases.specs.Values.{AreAlong, IsArray}
use Rattle.snb_validation_cases.proofs.ReplyFacts.{have_columns}
use Rattle.snb_validation_cases.proofs.TakeFacts.{closed, each_empty, found_is, some_push, takes_array, zip_push}
use Rattle.snb_validation_cases.proofs.taken.answer_at.Goals as goal

-- rows of a read
abbrev Of : Query → List (List ByteCell) → List Data → Type 0
Of query rows ds = AllZip (IsRow query) ds rows

pub items-init : goal.items-init
items-init c =
    (c.opens.new.reader, c.if-not-opens.ensures refl, each_empty 3 (Of c.args.query.now c.new-rows.result.items) c.opens.new.reader (subst (λ (rows : List (List ByteCell)). Of c.args.query.now rows []) (sym c.new-rows.ensures.items) tt))

pub items-smaller : goal.items-smaller
items-smaller c = omega (arith, found_is _ _ _ c.in-Some.is c.in_ok-row.ensures.shorter, ap (λ (ts : List Token). length ts) c.items-test.ensures.1)

pub items-preserved : goal.items-preserved
items-preserved c =
    let query = c.args.query.now in
    let before = subst (λ (mid : List Token). TakesSome 3 (Of query c.items.rows.items) c.args.reader.now mid) (sym c.items-test.ensures.1) c.items.invariant in
    let one : Takes 3 (λ d. IsRow query d c.in-Some.row) c.take_end_array.new.self c.row_at.new.reader =
    subst (λ (cs : List CellKind). Takes 3 (λ d. IsArray (AreAlong IsCellIn cs) d c.in-Some.row) c.take_end_array.new.self c.row_at.new.reader) c.layout_of_query.ensures.cells (found_is _ _ _ c.in-Some.is c.in_ok-row.ensures.found) in
    some_push 3 (Of query c.items.rows.items) (λ d. IsRow query d c.in-Some.row) (Of query c.push.new.self.items) c.args.reader.now c.take_end_array.new.self c.row_at.new.reader before one
    (λ ds d are is. subst (λ (rows : List (List ByteCell)). Of query rows (ds ++ d ∷ [])) (sym c.in_ok-push.ensures.items) (zip_push (IsRow query) c.in-Some.row c.items.rows.items ds d are is))

pub returns-clause-columns : goal.returns-clause-columns
returns-clause-columns c =
    let (inside, opens, t) = c.items.invariant in
    subst (HaveColumns c.args.query.now) (sym c.from_vec.ensures) (have_columns c.args.query.now t.values c.items.rows.items t.are)

pub returns-clause-found : goal.returns-clause-found
returns-clause-found c =
    subst (λ (rows : List (List ByteCell)). Takes 4 (λ d. IsAnswerTo c.args.query.now d rows) c.args.reader.now c.take_end_array.new.self) (sym c.from_vec.ensures)
    (takes_array 3 (Of c.args.query.now c.items.rows.items) c.args.reader.now c.items.reader c.take_end_array.new.self c.items.invariant (closed c.items.reader c.take_end_array.new.self c.items-test.ensures))
