-- The numbers of a row fit a signed cell of 64 bits, since the bound of each column does.
use Rattle.std.proofs.Common.{◌<◌, ◌^◌, List, [], ◌∷◌, arith}
use Rattle.std.proofs.lemmas.List.Elements.{All-contains, All-from_recursion}
use Rattle.std.specs.List.{AllByRecursion}
use Rattle.snb_schema.specs.declared.column.Column.{Column}
use Rattle.snb_schema.specs.declared.column.Column.TheVariants.{Number, Small, Date, Day, Words, Word}
use Rattle.snb_schema.specs.declared.column.Value.{Value}
use Rattle.snb_schema.specs.declared.column.Value.TheVariants.{Digits, SmallDigits, Letters}
use Rattle.snb_schema.specs.declared.layout.Shape.{Shape}
use Rattle.snb_schema.specs.declared.layout.Shape.TheVariants as shapes
use Rattle.snb_schema.specs.Layouts.{shape}
use Rattle.snb_schema.specs.TableColumns.{columns, shape_columns}
use Rattle.snb_schema.specs.RowValues.{table_of, values}
use Rattle.snb_schema.specs.TableRows.{AreWithin, IsTableRow, IsInBounds}
use Rattle.snb_graph_integrity.specs.SoundLaws.{FitsCell, NumbersFit}

-- the column's bound fits a cell; dates and days have one bound, and texts have none
abbrev IsLow : Column → Type 0
IsLow (Number most) = most < 2 ^ 63
IsLow (Small most) = most < 2 ^ 63
IsLow c = Unit {0}

low : (s : Shape) → AllByRecursion IsLow (shape_columns s)
low shapes.Place = (omega arith, (tt, (tt, (tt, tt))))
low shapes.TagClass = (omega arith, (tt, (tt, tt)))
low shapes.Tag = (omega arith, (tt, (tt, tt)))
low shapes.Organisation = (omega arith, (tt, (tt, (tt, tt))))
low shapes.Person = (omega arith, (tt, (tt, (tt, (tt, (tt, (tt, (tt, tt))))))))
low shapes.Forum = (omega arith, (tt, (tt, tt)))
low shapes.Post = (omega arith, (tt, (tt, (tt, (tt, (tt, (tt, (omega arith, tt))))))))
low shapes.Comment = (omega arith, (tt, (tt, (tt, (tt, (omega arith, tt))))))
low shapes.Link = (omega arith, (omega arith, tt))
low shapes.Dated = (omega arith, (omega arith, (tt, tt)))
low shapes.Yeared = (omega arith, (omega arith, (omega arith, tt)))
low shapes.Word = (omega arith, (tt, tt))

-- a value within the bounds of such a column fits
fits : (c : Column) (v : Value) → IsLow c → IsInBounds c v → FitsCell v
fits (Number most) (Digits n) is within = omega (arith, is, within)
fits (Small most) (SmallDigits n) is within = omega (arith, is, within)
fits Date (Digits n) is within = omega (arith, within)
fits Day (Digits n) is within = omega (arith, within)
fits Words (Letters text) is within = tt
fits Word (Letters text) is within = tt
fits c v is within = absurd within

all_fit : (cs : List Column) (vs : List Value) → AllByRecursion IsLow cs → AreWithin cs vs → AllByRecursion FitsCell vs
all_fit [] [] are within = tt
all_fit (c ∷ cs) (v ∷ vs) are within = (fits c v are.0 within.0, all_fit cs vs are.1 within.1)
all_fit [] (v ∷ vs) are within = absurd within
all_fit (c ∷ cs) [] are within = absurd within

-- each number of a row is below 2^63
pub numbers_fit : NumbersFit
numbers_fit g graph r held =
    let fit = All-contains IsTableRow g r graph.of_tables held in
    All-from_recursion FitsCell (values r) (all_fit (columns (table_of r)) (values r) (low (shape (table_of r))) fit.within)
