-- The format of the streams is lawful, and an insert that texts of fields spell is that of some line.
use Rattle.std.proofs.Common.{◌≡◌, ◌∙◌, ℕ, List, drop, refl, sym, subst}
use Rattle.std.specs.Prelude.{IsUtf8}
use Rattle.std.proofs.lemmas.List.Elements.{All-weaker}
use Rattle.snb_schema.specs.declared.file.FileId.{FileId}
use Rattle.snb_schema.specs.declared.file.FileKind.{FileKind}
use Rattle.snb_schema.specs.declared.op.Line.{Line}
use Rattle.snb_schema.specs.Columns.{SpellsAll}
use Rattle.snb_schema.specs.Lines.{HasNoBar, HasNoEnd, fields}
use Rattle.snb_schema.specs.StreamLines.{IsOfLine}
use Rattle.snb_schema.specs.TableRows.{IsFieldText}
use Rattle.snb_schema.specs.UpdateLines.{canonical_line}
use Rattle.snb_schema.specs.InsertLines.{kind_of, line_columns, line_values}
use Rattle.snb_columns.specs.Laws.{OwnLineOfValues}
use Rattle.snb_streams.specs.Laws.{InsertsAreRight, OneFault, OneInsertOfFields}
use Rattle.snb_input_lines.proofs.Laws.{fields_plain}
use Rattle.snb_input_lines.specs.Language.{Fits}
use Rattle.snb_streams.specs.Lines.{SpellsLine, stream_language}
use Rattle.snb_streams.specs.Updates.{allowed_in}
use Rattle.snb_input_files.specs.Format.{Lawful}
use Rattle.snb_loader.specs.Lanes.{InsertsOfFieldsFit, stream_format}

one_line : OneInsertOfFields → (k : FileKind) (n : ℕ) (fs : List (List ℕ)) (x y : Line) → SpellsLine k n fs x → SpellsLine k n fs y → x ≡ y
one_line one k n fs x y p q =
    let same = one (allowed_in k) fs x.t x.t_d x.op y.t y.t_d y.op p.spells q.spells in
    let number : x.number ≡ y.number = p.number_is ∙ sym q.number_is in
    λ i. record { t = same.0 i; t_d = same.1 i; op = same.2 i; number = number i }

-- lines say one insert at most, and are refused in one way at most
pub stream_lawful : OneInsertOfFields → InsertsAreRight → OneFault → Lawful stream_format
stream_lawful one right fault = record {
  exact = λ file. record {
    one_header = λ line k j p q. absurd p;
    good_header = λ line k column p q. p;
    one_item = λ k number line x y p q. one_line one file.kind number (fields line) x y p q;
    good_item = λ k number line x c p q. right (allowed_in file.kind) (fields line) x.t x.t_d x.op c p.spells q;
  };
  one_header_column = λ file line a b p q. p ∙ sym q;
  one_column = λ file k line a b p q. fault (allowed_in file.kind) (fields line) a b p q;
  one_own = λ file done mine x r q a b. a.2 ∙ sym b.2;
}

-- an insert that texts of fields spell is that of its canonical line
pub fields_fit : OwnLineOfValues → InsertsOfFieldsFit
fields_fit own allowed fs x texts s =
    let is = own (line_columns (kind_of x.op)) fs (line_values x.t x.t_d x.op) (λ e. cc) s.1 (All-weaker IsFieldText HasNoBar (λ z h. h.no_bar) fs texts) in (
      canonical_line x.t x.t_d x.op,
      record {
        text = is.text (All-weaker IsFieldText IsUtf8 (λ z h. h.utf8) fs texts);
        unmarked = is.unmarked x.t (drop 1 (line_values x.t x.t_d x.op)) refl;
        one_line = is.one_line (All-weaker IsFieldText HasNoEnd (λ z h. h.one_line) fs texts);
        spelled = subst (λ (xs : List (List ℕ)). SpellsAll (line_columns (kind_of x.op)) xs (line_values x.t x.t_d x.op)) (sym is.split) is.spelled;
        of_two = s.2;
      },
    )

-- so is one that a line of a stream spells
pub streams_fit : InsertsOfFieldsFit → (file : FileId) → Fits (stream_language file.kind) IsOfLine
streams_fit fit file known number line x text ends s = fit (allowed_in file.kind) (fields line) x (fields_plain line text.1 ends) s.spells
