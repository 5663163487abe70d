-- One line and its insert.
use Rattle.std.proofs.Common.{◌≡◌, ◌≢◌, ◌==◌, ◌∙◌, ℕ, Bool, true, false, List, [], ◌∷◌, ◌++◌, length, drop, get_or, refl, sym, ap, subst, inl, inr, arith}
use Rattle.std.specs.Prelude.{IsUtf8}
use Rattle.std.proofs.lemmas.Bool.{eqb-true}
use Rattle.std.proofs.lemmas.List.Elements.{All-head, All-nil, All-tail}
use Rattle.std.proofs.lemmas.Str.{IsUtf8-nil}
use Rattle.snb_schema.specs.declared.column.Value.{Value}
use Rattle.snb_schema.specs.declared.op.Op.{Op}
use Rattle.snb_schema.specs.declared.op.InsertKind.{InsertKind}
use Rattle.snb_schema.specs.Columns.{SpellsAll}
use Rattle.snb_schema.specs.Lines.{HasNoEnd, begins_with_mark, fields}
use Rattle.snb_schema.specs.UpdateLines.{IsBadInsert, IsBadLine, IsLine, all_inserts}
use Rattle.snb_schema.specs.InsertLines.{kind_of, line_columns, line_values, op_values}
use Rattle.snb_input_lines.specs.Cut.{IsCutAtEnd}
use Rattle.snb_columns.specs.Laws.{HasPlainFields, OneList, OwnLineOfValues}
use Rattle.snb_streams.specs.Laws.{OneInsert}
use Rattle.snb_streams.specs.Laws as laws
use Rattle.snb_streams.specs.Spelled.{SpellsInsert}
use Rattle.snb_streams.specs.Split.{IsSplit}
use Rattle.snb_streams.proofs.CaseFacts.{text_from_case}
use Rattle.snb_streams.proofs.InsertFacts.{one_op}
use Rattle.snb_streams.proofs.KindFacts.{one_name, third_field}

-- a line with fields that spell an insert
pub is_line : (line : List ℕ) (fs : List (List ℕ)) (t t_d : ℕ) (op : Op) (allowed : List InsertKind) → IsSplit line fs → SpellsInsert allowed fs t t_d op → IsLine line t t_d op
is_line line fs t t_d op allowed is s =
    record { text = is.utf8; unmarked = is.unmarked; one_line = is.one_line; spelled = subst (λ (xs : List (List ℕ)). SpellsAll (line_columns (kind_of op)) xs (line_values t t_d op)) is.split s.1; of_two = s.2 }

-- the times of two inserts of equal values
same_time : (t t_d : ℕ) (op : Op) (u u_d : ℕ) (oq : Op) → line_values t t_d op ≡ line_values u u_d oq → (t ≡ u) × (t_d ≡ u_d)
same_time t t_d op u u_d oq e = (cc, cc)

-- fields spell one insert, at one pair of times
pub one_spelled : OneList → (fs : List (List ℕ)) (t t_d : ℕ) (op : Op) (u u_d : ℕ) (oq : Op) → SpellsAll (line_columns (kind_of op)) fs (line_values t t_d op) → SpellsAll (line_columns (kind_of oq)) fs (line_values u u_d oq)
    → (t ≡ u) × (t_d ≡ u_d) × (op ≡ oq)
one_spelled one fs t t_d op u u_d oq p q =
    let kind : kind_of op ≡ kind_of oq = one_name (get_or fs 2 []) (kind_of op) (kind_of oq) (third_field fs t t_d op p) (third_field fs u u_d oq q) in
    let other : SpellsAll (line_columns (kind_of op)) fs (line_values u u_d oq) = subst (λ (k : InsertKind). SpellsAll (line_columns k) fs (line_values u u_d oq)) (sym kind) q in
    let same = one (line_columns (kind_of op)) fs (line_values t t_d op) (line_values u u_d oq) p other in
    let values : op_values op ≡ op_values oq = ap (λ (vs : List Value). drop 3 vs) same in
    let times = same_time t t_d op u u_d oq same in
    (times.0, times.1, one_op op oq kind values)

-- a text is the line of one insert
pub one_insert : OneList → OneInsert
one_insert one line t t_d op u u_d oq p q = one_spelled one (fields line) t t_d op u u_d oq p.spelled q.spelled

-- fields spell one insert of some kinds
pub one_insert_of_fields : OneList → laws.OneInsertOfFields
one_insert_of_fields one allowed fs t t_d op u u_d oq p q = one_spelled one fs t t_d op u u_d oq p.1 q.1

-- the canonical line of an insert is one of its lines
pub own_line : ((line : List ℕ) → HasPlainFields line) → OwnLineOfValues → laws.OwnInsertLine
own_line plain own line t t_d op p =
    let is = own (line_columns (kind_of op)) (fields line) (line_values t t_d op) (λ e. cc) p.spelled (plain line).no_bars in
    record {
      text = is.text ((plain line).texts p.text);
      unmarked = is.unmarked t (drop 1 (line_values t t_d op)) refl;
      one_line = is.one_line ((plain line).no_ends p.one_line);
      spelled = subst (λ (xs : List (List ℕ)). SpellsAll (line_columns (kind_of op)) xs (line_values t t_d op)) (sym is.split) is.spelled;
      of_two = p.of_two;
    }

-- a text that isn't one line of UTF-8
pub broken_bad : (line : List ℕ) → begins_with_mark line ≡ false → (IsUtf8 line → ¬ HasNoEnd line) → IsBadLine line 0
broken_bad line e none = text_from_case line 0 (inr (inl (e, none, refl)))

-- the empty text has one field
pub empty_bad : (line : List ℕ) → line ≡ [] → IsBadLine line 0
empty_bad line e = subst (λ (t : List ℕ). IsBadLine t 0) (sym e) (text_from_case [] 0 (inr (inr (refl, IsUtf8-nil, All-nil _, inl (omega arith, refl)))))

-- a line with fields that spell no insert
pub split_bad : (line : List ℕ) (fs : List (List ℕ)) (column : ℕ) → IsSplit line fs → IsBadInsert all_inserts fs column → IsBadLine line column
split_bad line fs column is bad =
    text_from_case line column (inr (inr (is.unmarked, is.utf8, is.one_line, subst (λ (xs : List (List ℕ)). IsBadInsert all_inserts xs column) is.split bad)))

-- a text whose length is nothing
pub tested_empty : (line : List ℕ) (empty : Bool) → empty ≡ length line == 0 → empty ≡ true → line ≡ []
tested_empty [] empty is e = refl
tested_empty (b ∷ bs) empty is e = (let none = eqb-true (length (b ∷ bs)) 0 (sym is ∙ e) in absurd (omega arith))

-- a text with a line end has one
ends_in : (front rest : List ℕ) → ¬ HasNoEnd (front ++ 10 ∷ rest)
ends_in [] rest h = All-head (λ b. b ≢ 10) 10 rest h refl
ends_in (b ∷ front) rest h = ends_in front rest (All-tail (λ b. b ≢ 10) b (front ++ 10 ∷ rest) h)

-- a text that is cut at a line end isn't one line
pub cut_ends : {text front back : List ℕ} → IsCutAtEnd text front back → ¬ HasNoEnd text
cut_ends {text} {front} {back} cut one = ends_in front cut.rest (subst HasNoEnd cut.joined one)
