-- What a table's file says.
use Rattle.std.proofs.Common.{◌≡◌, ◌∙◌, ℕ, List, Result, Ok, Err, refl, subst, sym}
use Rattle.snb_schema.specs.Faults.{OnBadColumn}
use Rattle.snb_schema.specs.declared.fault.LineFault.{LineFault}
use Rattle.snb_schema.specs.declared.fault.LineFault.TheVariants.{Bad, Memory}
use Rattle.snb_schema.specs.declared.file.FileKind.{FileKind}
use Rattle.snb_schema.specs.declared.file.FileKind.TheVariants as files
use Rattle.snb_schema.specs.declared.row.Placed.{Placed}
use Rattle.snb_schema.specs.declared.table.Table.{Table}
use Rattle.snb_schema.specs.Lines.{HasNoEnd, fields, lines}
use Rattle.snb_schema.specs.RowLines.{IsBadColumn, IsHeader}
use Rattle.snb_input_lines.specs.Language.{IsSplit, IsText, SplitAs}
use Rattle.snb_input_lines.specs.Laws.{IsExact}
use Rattle.snb_input_lines.proofs.Laws.{are_under, lines_no_end, one_reading, under}
use Rattle.snb_csv.specs.FileLaws.{IsPlacedRow, OneTableReading, TableFiles}
use Rattle.snb_csv.specs.Laws.{OneRow, RowsAreRight}
use Rattle.snb_csv.specs.Rows.{row_language, table_language}

-- a bad column of a row is that of its line
pub bad_row : {A : Type 0} (result : Result A LineFault) (kind : FileKind) (t : Table) (known : Unit {0}) (line : List ℕ) (fs : List (List ℕ)) → kind ≡ files.Table t → SplitAs (table_language kind).splits line fs
    → OnBadColumn result (IsBadColumn t fs) → OnBadColumn result ((table_language kind).bad_line known line)
bad_row (Ok a) kind t known line fs is split bad = tt
bad_row (Err Memory) kind t known line fs is split bad = tt
bad_row (Err (Bad column)) kind t known line fs is split bad =
    subst (λ (k : FileKind). SplitAs (table_language k).splits line fs → (table_language k).bad_line known line column) (sym is) (λ (s : IsSplit line fs). subst (λ (xs : List (List ℕ)). IsBadColumn t xs column) s.same bad) split

-- each data line is that of its row
one_each : (t : Table) (k : Unit {0}) (number : ℕ) (line : List ℕ) (x : Placed) → HasNoEnd line → IsText line → (row_language t).spells k number line x → IsPlacedRow t number line x
one_each t k number line x ends text s = record {
  numbered = s.1;
  is_row = record { text = text.1; unmarked = text.0; one_line = ends; turned = x.turned; spelled = s.0 };
  turned = refl;
}

-- and the header is the table's
own_header : (t : Table) (line : List ℕ) (k : Unit {0}) → HasNoEnd line → IsText line → (row_language t).heads line k → IsHeader t line
own_header t line k ends text h = record { text = text.1; unmarked = text.0; one_line = ends; wide = h }

pub table_files : TableFiles
table_files t bytes rows h =
    under (IsHeader t) (IsPlacedRow t) (lines bytes) rows
    (are_under (row_language t) (λ k line. IsHeader t line) (λ k. IsPlacedRow t) (own_header t) (one_each t) (lines bytes) 0 rows tt (lines_no_end bytes) h)

-- a line is one row, or has a bad column
pub exact : OneRow → RowsAreRight → (t : Table) → IsExact (row_language t)
exact one right t = record {
  one_header = λ line k j h g. refl;
  good_header = λ line k column h b. b.0 h;
  one_item = λ k number line x y g h.
      let same = one t (fields line) x.row y.row x.turned y.turned g.0 h.0 in
      let numbered : x.line ≡ y.line = g.1 ∙ sym h.1 in
      λ i. record { line = numbered i; row = same.0 i; turned = same.1 i };
  good_item = λ k number line x column g b. right t (fields line) x.row x.turned column g.0 b;
}

pub one_table_reading : OneRow → RowsAreRight → OneTableReading
one_table_reading one right t = one_reading (row_language t) (exact one right t)
