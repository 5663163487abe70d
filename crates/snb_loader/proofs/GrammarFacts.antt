-- The format of the tables is lawful, and what its lines spell are rows of tables.
use Rattle.std.proofs.Common.{◌≡◌, ◌∙◌, ℕ, List, refl, sym, ap, inl, inr}
use Rattle.snb_schema.specs.declared.file.FileId.{FileId}
use Rattle.snb_schema.specs.declared.file.FileKind.{FileKind}
use Rattle.snb_schema.specs.declared.file.FileKind.TheVariants.{Table, PersonStream, ForumStream, Params, Log, Cases}
use Rattle.snb_schema.specs.declared.refusal.Refusal.{Refusal}
use Rattle.snb_schema.specs.declared.refusal.Refusal.TheVariants.{Dangling}
use Rattle.snb_schema.specs.declared.row.Placed.{Placed}
use Rattle.snb_schema.specs.declared.row.Row.{Row}
use Rattle.snb_schema.specs.References.{refs_of_row}
use Rattle.snb_schema.specs.Lines.{fields}
use Rattle.snb_schema.specs.TableRows.{IsTableRow}
use Rattle.snb_input_lines.specs.Language.{Fits}
use Rattle.snb_input_lines.specs.Laws.{IsExact}
use Rattle.snb_input_lines.proofs.Laws.{fields_plain}
use Rattle.snb_csv.specs.Laws.{OneColumn, OneRow, RowsAreRight, RowsOfFieldsFit}
use Rattle.snb_csv.specs.Rows.{no_rows, table_language}
use Rattle.snb_input_files.specs.Format.{Lawful}
use Rattle.snb_loader.specs.Tables.{IsAmissBeside, said_rows, table_format}
use Rattle.snb_loader.proofs.CaseFacts.{IsAmissCase, to_case}
use Rattle.snb_loader.proofs.LackingFacts.{none_first, one_first}

-- lines of no table say nothing
no_exact : IsExact no_rows
no_exact = record {
  one_header = λ line a b p q. absurd p;
  good_header = λ line a c p q. p;
  one_item = λ a number line x y p q. absurd p;
  good_item = λ a number line x c p q. p;
}

-- a line is refused in one way beside the rows before it
one_case : (rows : List Row) (file : FileId) (p : Placed) (r q : Refusal) → IsAmissCase rows file p r → IsAmissCase rows file p q → r ≡ q
one_case rows file p r q (inl a) (inl b) = a.2 ∙ ap (Dangling file p.line) (one_first rows (refs_of_row p.row p.turned) a.0 b.0 a.1 b.1) ∙ sym b.2
one_case rows file p r q (inl a) (inr b) = absurd (none_first rows (refs_of_row p.row p.turned) a.0 b.0 a.1)
one_case rows file p r q (inr a) (inl b) = absurd (none_first rows (refs_of_row p.row p.turned) b.0 a.0 b.1)
one_case rows file p r q (inr a) (inr b) = a.2 ∙ sym b.2

one_amiss : (rows : List Row) (file : FileId) (p : Placed) (r q : Refusal) → IsAmissBeside rows file p r → IsAmissBeside rows file p q → r ≡ q
one_amiss rows file p r q a b = one_case rows file p r q (to_case rows file p r a) (to_case rows file p q b)

module _ (one : OneRow) (right : RowsAreRight) (column : OneColumn) where
  -- a line of a table says one row at most, and one of no table says none
  exact : (k : FileKind) → IsExact (table_language k)
  exact (Table t) = record {
    one_header = λ line a b p q. refl;
    good_header = λ line a c p q. q.0 p;
    one_item = λ a number line x y p q.
        let same = one t (fields line) x.row y.row x.turned y.turned p.0 q.0 in
        let line : x.line ≡ y.line = p.1 ∙ sym q.1 in
        λ i. record { line = line i; row = same.0 i; turned = same.1 i };
    good_item = λ a number line x c p q. right t (fields line) x.row x.turned c p.0 q;
  }
  exact PersonStream = no_exact
  exact ForumStream = no_exact
  exact (Params q) = no_exact
  exact Log = no_exact
  exact Cases = no_exact

  header_column : (k : FileKind) (line : List ℕ) (a b : ℕ) → (table_language k).bad_header line a → (table_language k).bad_header line b → a ≡ b
  header_column (Table t) line a b p q = p.1 ∙ sym q.1
  header_column PersonStream line a b p q = p ∙ sym q
  header_column ForumStream line a b p q = p ∙ sym q
  header_column (Params k) line a b p q = p ∙ sym q
  header_column Log line a b p q = p ∙ sym q
  header_column Cases line a b p q = p ∙ sym q

  column_in : (k : FileKind) (u : Unit {0}) (line : List ℕ) (a b : ℕ) → (table_language k).bad_line u line a → (table_language k).bad_line u line b → a ≡ b
  column_in (Table t) u line a b p q = column t (fields line) a b p q
  column_in PersonStream u line a b p q = p ∙ sym q
  column_in ForumStream u line a b p q = p ∙ sym q
  column_in (Params k) u line a b p q = p ∙ sym q
  column_in Log u line a b p q = p ∙ sym q
  column_in Cases u line a b p q = p ∙ sym q

  -- lines of tables say one thing at most, and are refused in one way at most
  pub table_lawful : Lawful table_format
  table_lawful = record {
    exact = λ file. exact file.kind;
    one_header_column = λ file line a b p q. header_column file.kind line a b p q;
    one_column = λ file u line a b p q. column_in file.kind u line a b p q;
    one_own = λ file done mine x r q a b. one_amiss (said_rows done mine) file x r q a b;
  }

-- what lines of tables spell are rows that tables can have
pub tables_fit : RowsOfFieldsFit → (file : FileId) → Fits (table_language file.kind) (λ p. IsTableRow p.row)
tables_fit fit file = by_kind file.kind
  where
    by_kind : (k : FileKind) → Fits (table_language k) (λ p. IsTableRow p.row)
    by_kind (Table t) known number line p text ends s = (fit t (fields line) p.row p.turned (fields_plain line text.1 ends) s.0).1
    by_kind PersonStream known number line p text ends s = absurd s
    by_kind ForumStream known number line p text ends s = absurd s
    by_kind (Params q) known number line p text ends s = absurd s
    by_kind Log known number line p text ends s = absurd s
    by_kind Cases known number line p text ends s = absurd s
