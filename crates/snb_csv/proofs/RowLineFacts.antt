-- A row that a table can have has a line, and the row of a line is one that its table can have.
use Rattle.std.proofs.Common.{◌≡◌, ◌≢◌, ◌<◌, ◌≤◌, ◌^◌, ◌∙◌, ◌∷◌, ◌++◌, [], ℕ, min, max, Bool, true, false, List, length, map, refl, sym, ap, subst, inr, arith, append-nil, All, rules}
use Rattle.std.proofs.Math.Seq.{take-append_seam}
use Rattle.std.proofs.lemmas.Bool.{le-ltb}
use Rattle.std.proofs.lemmas.List.Elements.{All-cons, All-head, All-nil, All-tail, All-take}
use Rattle.std.proofs.lemmas.Str.{IsUtf8-from_ascii}
use Rattle.std.proofs.lemmas.Str.Ascii.{IsAscii-from_all}
use Rattle.std.specs.Fmt.{decimal}
use Rattle.std.specs.List.{AllByRecursion}
use Rattle.std.specs.Str.{IsUtf8}
use Rattle.snb_base.specs.Spellings.{Num, last_time}
use Rattle.snb_base.proofs.Laws.{number_spelled}
use Rattle.snb_schema.specs.declared.column.Column.{Column}
use Rattle.snb_schema.specs.declared.column.Column.TheVariants.{Number, Small, OptionalId, Date, Day, Words, Word, TextList, IdList, PairList}
use Rattle.snb_schema.specs.declared.column.Value.{Value}
use Rattle.snb_schema.specs.declared.column.Value.TheVariants.{Digits, SmallDigits, Letters}
use Rattle.snb_schema.specs.declared.layout.Shape.{Shape}
use Rattle.snb_schema.specs.declared.layout.Shape.TheVariants as shapes
use Rattle.snb_schema.specs.declared.row.Row.{Row}
use Rattle.snb_schema.specs.declared.row.Row.TheVariants as row
use Rattle.snb_schema.specs.declared.table.Table.{Table}
use Rattle.snb_schema.specs.declared.table.Table.TheVariants as table
use Rattle.snb_schema.specs.Columns.{Spells, SpellsAll, canonical_field}
use Rattle.snb_schema.specs.Layouts.{has_no_direction, shape}
use Rattle.snb_schema.specs.TableColumns.{columns, shape_columns}
use Rattle.snb_schema.specs.Lines.{HasNoEnd, fields}
use Rattle.snb_schema.specs.RowLines.{IsRow, canonical}
use Rattle.snb_schema.specs.RowValues.{Differ, in_order, is_turned, table_of, values}
use Rattle.snb_csv.specs.Laws.{OwnRowLine, RowsOfFieldsFit}
use Rattle.snb_schema.specs.TableRows.{AreWithin, HasLowerFirst, IsFieldText, IsTableRow, IsInBounds, TableRowsAreOfLines}
use Rattle.snb_columns.specs.Laws.{HasPlainFields, OneList, OwnLineOfValues}
use Rattle.snb_columns.proofs.Laws.{all_digits}
use Rattle.snb_csv.proofs.OneFacts.{one_row}

-- a column of a table, whose numbers have 19 digits at most
abbrev pub IsOfTables : Column → Type 0
IsOfTables (Number most) = most < 10 ^ 19
IsOfTables (Small most) = most < 10 ^ 19
IsOfTables OptionalId = ⊥
IsOfTables TextList = ⊥
IsOfTables IdList = ⊥
IsOfTables PairList = ⊥
IsOfTables column = Unit {0}

-- the columns of each shape are such columns
of_tables : (s : Shape) → AllByRecursion IsOfTables (shape_columns s)
of_tables shapes.Place = search arith
of_tables s = search arith

-- digits spell their number, and are a text that a field can hold
number_plain : (n most : ℕ) → n ≤ most → most < 10 ^ 19 → Num (decimal n) n most × IsFieldText (decimal n)
number_plain n most small few =
    let num = number_spelled n most small (omega (arith, small, few)) in (
      num,
      record {
        utf8 = IsUtf8-from_ascii (decimal n) (IsAscii-from_all (decimal n) (all_digits (λ b. b < 128) (λ b d. omega arith) (decimal n) num.digits));
        no_bar = all_digits (λ b. b ≢ 124) (λ b d. omega arith) (decimal n) num.digits;
        one_line = all_digits (λ b. b ≢ 10) (λ b d. omega arith) (decimal n) num.digits;
      },
    )

-- so does the canonical spelling of a value within its column's bounds, and is such a text
own_field : (c : Column) (v : Value) → IsOfTables c → IsInBounds c v → Spells c (canonical_field v) v × IsFieldText (canonical_field v)
own_field (Number most) (Digits n) o w = number_plain n most w o
own_field (Small most) (SmallDigits n) o w = number_plain n most w o
own_field Date (Digits n) o w = let own = number_plain n last_time w (omega arith) in ((w, inr own.0), own.1)
own_field Day (Digits n) o w = let own = number_plain n last_time w (omega arith) in ((w, inr own.0), own.1)
own_field Words (Letters text) o w = (refl, w)
own_field Word (Letters text) o w = ((w.0, refl), w.1)
own_field c v o w = absurd w

-- and those of all
own_fields : (cs : List Column) (vs : List Value) → AllByRecursion IsOfTables cs → AreWithin cs vs → SpellsAll cs (map canonical_field vs) vs × All IsFieldText (map canonical_field vs)
own_fields [] [] o w = (tt, All-nil IsFieldText)
own_fields (c ∷ cs) (v ∷ vs) o w =
    let one = own_field c v o.0 w.0 in
    let more = own_fields cs vs o.1 w.1 in
    ((one.0, more.0), All-cons IsFieldText (canonical_field v) (map canonical_field vs) one.1 more.1)
own_fields cs vs o w = absurd w

-- columns that have such values are some
some_columns : (cs : List Column) (n : ℕ) (vs rest : List Value) → vs ≡ Digits n ∷ rest → AreWithin cs vs → cs ≢ []
some_columns (c ∷ cs) n vs rest e w = λ f. cc
some_columns [] n vs rest e w = absurd (subst (AreWithin []) e w)

-- each row begins with a number
number_first : (r : Row) → (n : ℕ) × (rest : List Value) × (values r ≡ Digits n ∷ rest)
number_first (row.Place p) = (_, _, refl)
number_first r = (_, _, refl)

-- ends of which the first is lower differ, are in order, and aren't turned
lower : (undirected : Bool) (vs : List Value) → HasLowerFirst undirected vs → Differ undirected vs × (vs ≡ in_order undirected vs) × (false ≡ is_turned undirected vs)
lower true (Digits one ∷ Digits other ∷ rest) low =
    let first : min one other ≡ one = omega arith in
    let second : max one other ≡ other = omega arith in
    (λ e. omega arith, rw (first, second) refl, sym (le-ltb other one (omega arith)))
lower undirected vs low = (low, refl, refl)

-- the row's own line
own_row : OwnLineOfValues → (r : Row) → IsTableRow r → IsRow (table_of r) (canonical r) r
own_row law r h =
    let cs = columns (table_of r) in
    let vs = values r in
    let first = number_first r in
    let (spelled, all) = own_fields cs vs (of_tables (shape (table_of r))) h.within in
    let low = lower (has_no_direction (table_of r)) vs h.in_order in
    let line = law cs (map canonical_field vs) vs (some_columns cs first.0 vs first.1 first.2 h.within) spelled (λ k d lt. (all k d lt).no_bar) in
    record {
      text = line.text (λ k d lt. (all k d lt).utf8);
      unmarked = line.unmarked first.0 first.1 first.2;
      one_line = line.one_line (λ k d lt. (all k d lt).one_line);
      turned = false;
      spelled = record {
        table = refl;
        shaped = h.shaped;
        own = map canonical_field vs;
        extra = [];
        split = line.split ∙ sym (append-nil (map canonical_field vs));
        no_more = tt;
        said = vs;
        spelled = line.spelled;
        differ = low.0;
        kept = low.1;
        turns = low.2;
      };
    }

-- a value that a field's text spells is within its column's bounds
within : (c : Column) (x : List ℕ) (v : Value) → IsOfTables c → IsFieldText x → Spells c x v → IsInBounds c v
within (Number most) x (Digits n) o f s = s.small
within (Small most) x (SmallDigits n) o f s = s.small
within Date x (Digits n) o f s = s.0
within Day x (Digits n) o f s = s.0
within Words x (Letters text) o f s = subst IsFieldText s f
within Word x (Letters text) o f s = (λ e. s.0 (s.1 ∙ e), subst IsFieldText s.1 f)
within c x v o f s = search rules

-- and so are all
within_all : (cs : List Column) (xs : List (List ℕ)) (vs : List Value) → AllByRecursion IsOfTables cs → All IsFieldText xs → SpellsAll cs xs vs → AreWithin cs vs
within_all [] [] [] o f s = tt
within_all (c ∷ cs) (x ∷ xs) (v ∷ vs) o f s = (within c x v o.0 (All-head IsFieldText x xs f) s.0, within_all cs xs vs o.1 (All-tail IsFieldText x xs f) s.1)
within_all cs xs vs o f s = absurd s

-- also with the lower id first
within_order : (t : Table) (vs : List Value) → AreWithin (columns t) vs → AreWithin (columns t) (in_order (has_no_direction t) vs)
within_order table.PersonKnowsPerson (Digits one ∷ Digits other ∷ rest) w = (omega arith, (omega arith, w.1.1))
within_order t vs w = w

-- ends that differ are in order with the lower first
lower_first : (undirected : Bool) (vs : List Value) → Differ undirected vs → HasLowerFirst undirected (in_order undirected vs)
lower_first true (Digits one ∷ Digits other ∷ rest) d = omega (arith, d)
lower_first undirected vs d = d

-- the fields of a line are texts of fields
field_texts : (line : List ℕ) → HasPlainFields line → IsUtf8 line → HasNoEnd line → All IsFieldText (fields line)
field_texts line plain text ends = λ k d lt. record { utf8 = plain.texts text k d lt; no_bar = plain.no_bars k d lt; one_line = plain.no_ends ends k d lt }

-- the row that fields of a line spell
pub of_fields : RowsOfFieldsFit
of_fields t fs r turned texts_are s =
    let u = has_no_direction t in
    let texts = subst (All IsFieldText) s.split texts_are in
    let own = subst (All IsFieldText) (take-append_seam s.own s.extra) (All-take IsFieldText (length s.own) (s.own ++ s.extra) texts) in
    let said = within_order t s.said (within_all (columns t) s.own s.said (of_tables (shape t)) own s.spelled) in (
      s.table,
      record {
        shaped = s.shaped ∙ ap shape (sym s.table);
        in_order = subst (λ (a : Table). HasLowerFirst (has_no_direction a) (values r)) (sym s.table) (subst (HasLowerFirst u) (sym s.kept) (lower_first u s.said s.differ));
        within = subst (λ (a : Table). AreWithin (columns a) (values r)) (sym s.table) (subst (AreWithin (columns t)) (sym s.kept) said);
      },
    )

-- the row of a line
of_line : ((line : List ℕ) → HasPlainFields line) → (t : Table) (line : List ℕ) (r : Row) → IsRow t line r → (table_of r ≡ t) × IsTableRow r
of_line plain t line r h = of_fields t (fields line) r h.turned (field_texts line (plain line) h.text h.one_line) h.spelled

-- the rows that a table can have are those of its lines
pub of_lines : OwnLineOfValues → ((line : List ℕ) → HasPlainFields line) → TableRowsAreOfLines
of_lines law plain t r = (
  λ h. (canonical r, subst (λ (a : Table). IsRow a (canonical r) r) h.0 (own_row law r h.1)),
  λ h. of_line plain t h.0 r h.1,
)

-- so the line that is written for the row of a line spells it, and no other
pub own_line : OneList → OwnLineOfValues → ((line : List ℕ) → HasPlainFields line) → OwnRowLine
own_line list law plain t line r h =
    let fits = of_line plain t line r h in
    let again = subst (λ (a : Table). IsRow a (canonical r) r) fits.0 (own_row law r fits.1) in
    let other = λ (q : Row) (g : IsRow t (canonical r) q). (one_row list t (fields (canonical r)) q r g.turned again.turned g.spelled again.spelled).0 in
    record { again = again; no_other = other; same = λ q g. ap canonical (other q g) }
