-- What the lines of a table's file say.
use Rattle.std.specs.Prelude.{◌≡◌, true, None, length}
use Rattle.snb_schema.specs.declared.file.FileId.{FileId}
use Rattle.snb_schema.specs.declared.file.FileKind.{FileKind}
use Rattle.snb_schema.specs.declared.file.FileKind.TheVariants as files
use Rattle.snb_schema.specs.declared.row.Placed.{Placed}
use Rattle.snb_schema.specs.declared.table.Table.{Table}
use Rattle.snb_schema.specs.TableColumns.{columns}
use Rattle.snb_schema.specs.Lines.{fields}
use Rattle.snb_schema.specs.RowLines.{IsBadColumn, SpellsRow}
use Rattle.snb_schema.specs.RowValues.{IsWide}
use Rattle.snb_input_lines.specs.Language.{Language}

-- the file is a table's
abbrev pub IsTableFile : FileId → Type 0
IsTableFile file = (t : Table) × (file.kind ≡ files.Table t)

-- of the header only the number of fields counts, and the fields of each later line spell a row
abbrev pub row_language : Table → Language (Unit {0}) Placed
row_language t = record {
  begins = None;
  splits = true;
  heads = λ line known. IsWide (length (columns t)) (fields line);
  bad_header = λ line column. ¬ IsWide (length (columns t)) (fields line) × (column ≡ 0);
  spells = λ known number line p. SpellsRow t (fields line) p.row p.turned × (p.line ≡ number);
  bad_line = λ known line column. IsBadColumn t (fields line) column;
}

-- a file that is no table's has neither a header nor a row
abbrev pub no_rows : Language (Unit {0}) Placed
no_rows = record {
  begins = None;
  splits = true;
  heads = λ line known. ⊥;
  bad_header = λ line column. column ≡ 0;
  spells = λ known number line p. ⊥;
  bad_line = λ known line column. column ≡ 0;
}

-- what the lines of a file of this kind say: those of a table's file, and none of any other
abbrev pub table_language : FileKind → Language (Unit {0}) Placed
table_language (files.Table t) = row_language t
table_language files.PersonStream = no_rows
table_language files.ForumStream = no_rows
table_language (files.Params q) = no_rows
table_language files.Log = no_rows
table_language files.Cases = no_rows
