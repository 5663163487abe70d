-- The years that answers show are years that a table can have.
use Rattle.std.proofs.Common.{◌≡◌, ◌≤◌, get_or, ℕ, Bool, true, false, ◌&&◌, cond, List, [], ◌∷◌, Some, None, refl, sym, subst, arith}
use Rattle.std.specs.Prelude.{◌==◌}
use Rattle.std.specs.List.{All, AllByRecursion, AllZip, filter_map}
use Rattle.std.proofs.lemmas.List.Elements.{All-contains, All-contains_itself, All-from_recursion, recursion_from_All}
use Rattle.snb_schema.specs.declared.limits.TheConstants.{MAX_YEAR}
use Rattle.snb_schema.specs.declared.query.Query.{Query}
use Rattle.snb_schema.specs.declared.query.Query.TheVariants as queries
use Rattle.snb_schema.specs.declared.row.Row.{Row}
use Rattle.snb_schema.specs.declared.row.Row.TheVariants as row
use Rattle.snb_schema.specs.declared.table.Table.{Table}
use Rattle.snb_schema.specs.declared.table.Table.TheVariants as table
use Rattle.snb_schema.specs.TableColumns.{shape_columns}
use Rattle.snb_schema.specs.RowValues.{values}
use Rattle.snb_schema.specs.TableRows.{AreWithin, IsTableRow}
use Rattle.snb_graph_model.specs.Graphs.{IsGraph, rows}
use Rattle.snb_read_model.specs.Cells.{ByteCell}
use Rattle.snb_read_model.specs.declared.cell.Cell.TheVariants as cell
use Rattle.snb_graph_model.specs.RowParts.{stay_in}
use Rattle.snb_read_model.specs.ComplexReads.{AreStays, IsAnswer, IsNamesake, IsStay, Stay, stay_cmp}
use Rattle.snb_read_model.specs.Order.{AllRows}
use Rattle.snb_graph_model.proofs.Laws.{in_rows}
use Rattle.snb_read_order.proofs.Laws.{chosen}
use Rattle.snb_schema.specs.declared.query.CellKind.{CellKind}
use Rattle.snb_schema.specs.declared.query.CellKind.TheVariants.{Stays}
use Rattle.snb_read_model.specs.Columns.{IsOfColumn, columns_of}
use Rattle.snb_read_laws.specs.Laws.{AnswersHaveYears, HasYears}
use Rattle.snb_read_laws.proofs.ColumnFacts.{rows_have}
use Rattle.snb_read_laws.proofs.EachRead.{columns_of_answer}
use Rattle.snb_base.proofs.Laws.{given_by}

-- ---- rows without stays

abbrev is_plain : CellKind → Bool
is_plain Stays = false
is_plain other = true

abbrev are_plain : List CellKind → Bool
are_plain [] = true
are_plain (c ∷ cs) = is_plain c && are_plain cs

plain_cell : (c : CellKind) (x : ByteCell) → is_plain c ≡ true → IsOfColumn c x → HasYears x
plain_cell Stays (cell.Stays stays) plain of = absurd cc
plain_cell c (cell.Stays stays) plain of = absurd of
plain_cell c x plain of = tt

plain_row : (cs : List CellKind) (xs : List ByteCell) → are_plain cs ≡ true → AllZip IsOfColumn cs xs → AllByRecursion HasYears xs
plain_row [] [] plain of = tt
plain_row [] (x ∷ xs) plain of = absurd of
plain_row (c ∷ cs) [] plain of = absurd of
plain_row (c ∷ cs) (x ∷ xs) plain of = (plain_cell c x (grind arith) of.0, plain_row cs xs (grind arith) of.1)

-- ---- stays

-- a row that its table can have has such a year
year_bounded : (t : Table) (from to year : ℕ) → IsTableRow (row.Yeared t from to year) → year ≤ MAX_YEAR
year_bounded t from to year r = (subst (λ s. AreWithin (shape_columns s) (values (row.Yeared t from to year))) (sym r.shaped) r.within).1.1.0

of_row : (p : ℕ) (r : Row) (stay : ℕ × ℕ) → IsTableRow r → stay_in p r ≡ Some stay → stay.1 ≤ MAX_YEAR
of_row p (row.Yeared t from to year) stay fits is = by (from == p) is
  where
    by : (b : Bool) → cond b (Some (to, year)) None ≡ Some stay → stay.1 ≤ MAX_YEAR
    by true e = (let same : (to, year) ≡ stay = cc in subst (λ (s : ℕ × ℕ). s.1 ≤ MAX_YEAR) same (year_bounded t from to year fits))
    by false e = absurd cc
of_row p r stay fits is = absurd cc

abbrev IsBounded : ℕ × ℕ → Type 0
IsBounded stay = stay.1 ≤ MAX_YEAR

abbrev IsYear : Stay → Type 0
IsYear stay = stay.1 ≤ MAX_YEAR

of_rows : (g : List Row) (p : ℕ) (t : Table) → IsGraph g → All IsBounded (filter_map (stay_in p) (rows g t))
of_rows g p t graph k d lt =
    let w = given_by (stay_in p) (rows g t) _ (All-contains_itself (filter_map (stay_in p) (rows g t)) k d lt) in
    of_row p w.0 _ (All-contains IsTableRow g w.0 graph.of_tables ((in_rows g t w.0).0 w.1).0) w.2

named : (g : List Row) (stays : List (ℕ × ℕ)) (shown : List Stay) → AllZip (IsStay g) stays shown → AllByRecursion IsBounded stays → AllByRecursion IsYear shown
named g [] [] z all = tt
named g [] (n ∷ ns) z all = absurd z
named g (s ∷ ss) [] z all = absurd z
named g (s ∷ ss) (n ∷ ns) z all = (subst IsYear (sym z.0.is) all.0, named g ss ns z.1 all.1)

stays_have : (g : List Row) (p : ℕ) (t : Table) (shown : List Stay) → IsGraph g → AreStays g (filter_map (stay_in p) (rows g t)) shown → HasYears (cell.Stays shown)
stays_have g p t shown graph are =
    recursion_from_All IsYear shown
    (chosen IsYear stay_cmp AllRows are.named shown
    (All-from_recursion IsYear are.named (named g _ are.named are.each (recursion_from_All IsBounded (filter_map (stay_in p) (rows g t)) (of_rows g p t graph)))) are.first)

namesake : (g : List Row) (n : ℕ × ℕ) (cells : List ByteCell) → IsGraph g → IsNamesake g n cells → AllByRecursion HasYears cells
namesake g n cells graph s =
    subst (AllByRecursion HasYears) (sym s.is)
    (tt, (tt, (tt, (tt, (tt, (tt, (tt, (tt, (tt, (tt, (tt, (stays_have g n.0 table.PersonStudyAtOrganisation s.universities graph s.studied, (stays_have g n.0 table.PersonWorkAtOrganisation s.companies graph s.worked, tt)))))))))))))

-- ---- answers

rows_years : (g : List Row) (query : Query) (answer : List (List ByteCell)) → IsGraph g → IsAnswer g query answer → All (AllByRecursion HasYears) answer
rows_years g (queries.Ic1 person first_name) answer graph a =
    rows_have _ _ _ _ answer (AllByRecursion HasYears) (λ n cells s. namesake g n cells graph s) a.answers
rows_years g query answer graph a = λ k d lt. plain_row (columns_of query) (get_or answer k d) refl (columns_of_answer g query answer a k d lt)

pub answers_have_years : AnswersHaveYears
answers_have_years g query answer graph a = recursion_from_All (AllByRecursion HasYears) answer (rows_years g query answer graph a)
