-- What the lines of an update stream say.
use Rattle.std.specs.Prelude.{◌≡◌, ℕ, true, Some, List}
use Rattle.snb_schema.specs.declared.file.FileKind.{FileKind}
use Rattle.snb_schema.specs.declared.op.Line.{Line}
use Rattle.snb_schema.specs.Lines.{fields}
use Rattle.snb_schema.specs.UpdateLines.{IsBadInsert}
use Rattle.snb_input_lines.specs.Language.{Language}
use Rattle.snb_streams.specs.Spelled.{SpellsInsert}
use Rattle.snb_streams.specs.Updates.{allowed_in}

-- the fields of a line of this number spell an insert that streams of this kind have
pub record SpellsLine (kind : FileKind) (n : ℕ) (fs : List (List ℕ)) (x : Line) : Type 0 where
  pub spells : SpellsInsert (allowed_in kind) fs x.t x.t_d x.op
  pub number_is : x.number ≡ n

-- the fields of each line spell an insert that streams of this kind have; there is no header
abbrev pub stream_language : FileKind → Language (Unit {0}) Line
stream_language kind = record {
  begins = Some tt;
  splits = true;
  heads = λ line known. ⊥;
  bad_header = λ line column. column ≡ 0;
  spells = λ known number line x. SpellsLine kind number (fields line) x;
  bad_line = λ known line column. IsBadInsert (allowed_in kind) (fields line) column;
}
