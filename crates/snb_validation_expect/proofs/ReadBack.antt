-- A case is read from its text.
use Rattle.std.proofs.Common.{◌≡◌, ℕ, pos, negsuc, Bool, true, false, ◌&&◌, ◌++◌, List, [], ◌∷◌, map, refl, rules, subst, sym, arith, Result, Ok, Err}
use Rattle.std.specs.Prelude.{OnOk}
use Rattle.std.specs.declared.alloc.AllocError.{AllocError}
use Rattle.std.specs.List.{AllByRecursion, AllZip}
use Rattle.std.proofs.lemmas.List.Elements.{All-head, All-tail}
use Rattle.std.proofs.lemmas.Bool.Decides.{nat_tests}
use Rattle.serde_json.specs.Data.{number, string}
use Rattle.serde_json.specs.Find.{of_integer}
use Rattle.snb_schema.specs.declared.column.Column.{Column}
use Rattle.snb_schema.specs.declared.column.Column.TheVariants as column
use Rattle.snb_schema.specs.declared.column.Value.{Value}
use Rattle.snb_schema.specs.declared.column.Value.TheVariants as value
use Rattle.snb_schema.specs.declared.op.Line.{Line}
use Rattle.snb_schema.specs.declared.query.Query.{Query}
use Rattle.snb_schema.specs.declared.query.ReadKind.{ReadKind}
use Rattle.snb_schema.specs.declared.row.Row.{Row}
use Rattle.snb_schema.specs.Columns.{Spells, SpellsAll}
use Rattle.snb_schema.specs.ReadKinds.{read_kind_of, parameter_columns, parameter_values}
use Rattle.snb_schema.specs.UpdateLines.{IsLine, canonical_line}
use Rattle.snb_graph_model.specs.Graphs.{IsGraph}
use Rattle.snb_read_model.specs.Cells.{ByteCell}
use Rattle.snb_read_model.specs.declared.cell.Cell.TheVariants as cell
use Rattle.snb_read_model.specs.ComplexReads.{IsAnswer}
use Rattle.snb_read_model.specs.Replies.{IsReply, tail_reads}
use Rattle.snb_schema.specs.declared.query.CellKind.{CellKind}
use Rattle.snb_read_model.specs.Columns.{HasColumns, HaveColumns, IsOfColumn, columns_of}
use Rattle.snb_read_laws.specs.Laws.{AnswersHaveColumns, AnswersHaveYears, HasYears}
use Rattle.snb_validation.specs.Laws.{AreOfTypes, IsOfType}
use Rattle.snb_validation.specs.ReplyData.{array_of, cell_data, reply_data, stay_data}
use Rattle.snb_validation_cases.specs.Cases.{SpellsCase}
use Rattle.snb_validation_cases.specs.declared.case.Case.TheVariants.{Ask}
use Rattle.snb_validation_cases.specs.Parameters.{IsParameter}
use Rattle.snb_validation_cases.specs.Replies.{IsAnswerTo, IsCellIn, IsCellValue, IsReplyData, IsRow, IsStayData}
use Rattle.snb_validation_cases.specs.Values.{AreAlong, IsString}
use Rattle.snb_validation_model.specs.CaseTexts.{case_data, case_line, case_text, parameter_data}
use Rattle.snb_validation_model.specs.Expected.{HasWords, insert_case}
use Rattle.snb_validation_expect.specs.Writing.{HasPutAsk, IsJsonText}

-- ---- parameters

-- the columns of parameters
abbrev is_parameter : Column → Bool
is_parameter (column.Number most) = true
is_parameter (column.Small most) = true
is_parameter column.Date = true
is_parameter column.Words = true
is_parameter other = false

abbrev are_parameters : List Column → Bool
are_parameters [] = true
are_parameters (c ∷ cs) = is_parameter c && are_parameters cs

one_back : (c : Column) (x : List ℕ) (v : Value) → is_parameter c ≡ true → Spells c x v → IsParameter c (parameter_data v) v
one_back (column.Number most) x (value.Digits n) plain s = (refl, s.small)
one_back (column.Number most) x v plain s = absurd s
one_back (column.Small most) x (value.SmallDigits n) plain s = (refl, s.small)
one_back (column.Small most) x v plain s = absurd s
one_back column.Date x (value.Digits n) plain s = (refl, s.0)
one_back column.Date x v plain s = absurd s
one_back column.Words x (value.Letters text) plain s = refl
one_back column.Words x v plain s = absurd s
one_back c x v plain s = absurd cc

all_back : (cs : List Column) (xs : List (List ℕ)) (vs : List Value) → are_parameters cs ≡ true → SpellsAll cs xs vs → AreAlong IsParameter cs (map parameter_data vs) vs
all_back [] [] [] plain s = tt
all_back (c ∷ cs) (x ∷ xs) (v ∷ vs) plain s = (one_back c x v (grind arith) s.0, all_back cs xs vs (grind arith) s.1)
all_back cs xs vs plain s = absurd s

every_kind : (kind : ReadKind) → are_parameters (parameter_columns kind) ≡ true
every_kind kind = search rules

-- ---- replies

texts_back : (texts : List (List ℕ)) → AllZip IsString (map string texts) texts
texts_back [] = tt
texts_back (t ∷ ts) = (refl, texts_back ts)

stays_back : (stays : List (List ℕ × ℕ × List ℕ)) → HasYears (cell.Stays stays) → AllZip IsStayData (map stay_data stays) stays
stays_back [] years = tt
stays_back (s ∷ ss) years =
    ((string s.0 ∷ number (of_integer (pos s.1)) ∷ string s.2 ∷ [], refl, (refl, (refl, years.0), refl)), stays_back ss years.1)

value_back : (c : ByteCell) → IsOfType c → HasYears c → IsCellValue (cell_data c) c
value_back (cell.Number (pos n)) type years = grind (arith, nat_tests)
value_back (cell.Number (negsuc n)) type years = refl
value_back (cell.Flag b) type years = refl
value_back (cell.Words text) type years = refl
value_back (cell.List texts) type years = (map string texts, refl, texts_back texts)
value_back (cell.Stays stays) type years = (map stay_data stays, refl, stays_back stays years)

row_back : (cs : List CellKind) (row : List ByteCell) → AllZip IsOfColumn cs row → AllByRecursion IsOfType row → AllByRecursion HasYears row → AreAlong IsCellIn cs (map cell_data row) row
row_back [] [] of types years = tt
row_back [] (x ∷ xs) of types years = absurd of
row_back (c ∷ cs) [] of types years = absurd of
row_back (c ∷ cs) (x ∷ xs) of types years = ((of.0, value_back x types.0 years.0), row_back cs xs of.1 types.1 years.1)

rows_back : (q : Query) (rows : List (List ByteCell)) → HaveColumns q rows → AllByRecursion (AllByRecursion IsOfType) rows → AllByRecursion (AllByRecursion HasYears) rows
    → AllZip (IsRow q) (map (array_of cell_data) rows) rows
rows_back q [] of types years = tt
rows_back q (row ∷ rows) of types years =
    ((map cell_data row, refl, row_back (columns_of q) row (All-head (HasColumns q) row rows of) types.0 years.0), rows_back q rows (All-tail (HasColumns q) row rows of) types.1 years.1)

module _ (columns : AnswersHaveColumns) (bounded : AnswersHaveYears) (g : List Row) (graph : IsGraph g) where
  answers_back : (qs : List Query) (answers : List (List (List ByteCell))) → AllZip (IsAnswer g) qs answers → AreOfTypes answers
      → AreAlong IsAnswerTo qs (map (array_of (array_of cell_data)) answers) answers
  answers_back [] [] of types = tt
  answers_back [] (a ∷ as_) of types = absurd of
  answers_back (q ∷ qs) [] of types = absurd of
  answers_back (q ∷ qs) (a ∷ more) of types =
      ((map (array_of cell_data) a, refl, rows_back q a (columns g q a of.0) types.0 (bounded g q a graph of.0)), answers_back qs more of.1 types.1)

  reply_back : (q : Query) (reply : List (List (List ByteCell))) → IsReply g q reply → AreOfTypes reply → IsReplyData q (reply_data reply) reply
  reply_back q reply r types = (
    map (array_of (array_of cell_data)) reply,
    refl,
    record {
      own = r.own;
      tail = r.tail;
      is = r.is;
      answers = subst (λ (all : List (List (List ByteCell))). AreAlong IsAnswerTo (q ∷ tail_reads q r.own) (map (array_of (array_of cell_data)) all) (r.own ∷ r.tail)) (sym r.is)
          (answers_back (q ∷ tail_reads q r.own) (r.own ∷ r.tail) (r.answer, r.follow) (subst AreOfTypes r.is types));
    },
  )

  pub ask_back : (q : Query) (reply : List (List (List ByteCell))) → IsReply g q reply → AreOfTypes reply → IsJsonText (case_text (Ask q reply)) (case_data (Ask q reply)) → HasWords q
      → SpellsCase (case_text (Ask q reply)) (Ask q reply)
  ask_back q reply r types text words = (
    text.utf8,
    case_data (Ask q reply),
    text.reads,
    record {
      params = array_of parameter_data (parameter_values q);
      word = _;
      held = reply_data reply;
      keys = refl;
      asks = (refl, (map parameter_data (parameter_values q), refl, all_back (parameter_columns (read_kind_of q)) words.0 (parameter_values q) (every_kind (read_kind_of q)) words.1), reply_back q reply r types);
    },
  )

  -- and so where that is what the writing of a case gives
  pub asked_back : (q : Query) (reply : List (List (List ByteCell))) (old new : List ℕ) (r : Result (Unit {0}) AllocError) → IsReply g q reply
      → OnOk r (new ≡ old ++ case_line (Ask q reply)) → OnOk r (IsJsonText (case_text (Ask q reply)) (case_data (Ask q reply))) → OnOk r (AreOfTypes reply)
      → OnOk r (HasPutAsk g q old new)
  asked_back q reply old new (Ok x) replies added text types = record { reply = reply; replies = replies; added = added; read_back = ask_back q reply replies types text }
  asked_back q reply old new (Err e) replies added text types = tt

-- ---- inserts

pub insert_back : (line : Line) → IsLine (canonical_line line.t line.t_d line.op) line.t line.t_d line.op → IsJsonText (case_text (insert_case line)) (case_data (insert_case line))
    → SpellsCase (case_text (insert_case line)) (insert_case line)
insert_back line is text = (
  text.utf8,
  case_data (insert_case line),
  text.reads,
  record { held = string (canonical_line line.t line.t_d line.op); keys = refl; is_line = (canonical_line line.t line.t_d line.op, refl, is, refl) },
)
