-- Values that are spelled have a line of their own.
use Rattle.std.proofs.Common.{◌≡◌, ◌≢◌, ◌==◌, ◌&&◌, ◌++◌, ◌∷◌, ◌<◌, [], ℕ, List, refl, sym, ap, subst, false, map, length, arith, All}
use Rattle.std.proofs.lemmas.Bool.{ne_eqb}
use Rattle.std.proofs.lemmas.List.Elements.{All-append, All-cons}
use Rattle.std.proofs.lemmas.Str.{IsUtf8-append, IsUtf8-from_ascii}
use Rattle.std.proofs.lemmas.Str.Ascii.{IsAscii-cons, IsAscii-from_all, IsAscii-nil}
use Rattle.std.specs.Fmt.{decimal}
use Rattle.std.specs.List.{AllByRecursion, join_with_byte}
use Rattle.std.specs.Str.{IsUtf8}
use Rattle.snb_base.specs.Calendar.{IsDigit}
use Rattle.snb_schema.specs.declared.column.Column.{Column}
use Rattle.snb_schema.specs.declared.column.Value.{Value}
use Rattle.snb_schema.specs.declared.column.Value.TheVariants.{Digits}
use Rattle.snb_schema.specs.Columns.{Spells, canonical_field}
use Rattle.snb_schema.specs.Lines.{HasNoBar, HasNoEnd, begins_with_mark}
use Rattle.snb_columns.specs.Laws.{OwnLineOfValues}
use Rattle.snb_columns.proofs.CutFacts.{all_digits, around_all, around_ascii, joined_all, joined_parts}
use Rattle.snb_columns.proofs.SpellingFacts.{IsKept, OwnDigits, digits_number, kept_fields, own_fields}

-- what holds of digits, commas and semicolons is kept in each byte
kept_bytes : (P : ℕ → Type 0) → ((b : ℕ) → IsDigit b → P b) → P 44 → P 59 → IsKept (All P)
kept_bytes P of comma semicolon = record {
  digits = all_digits P of;
  around = around_all P 59;
  listed = λ a b p q. All-append P a (59 ∷ b) p (All-cons P 59 b semicolon q);
  paired = λ a b p q. All-append P a (44 ∷ b) p (All-cons P 44 b comma q);
}

-- a spelling has no bar where its field has none
no_bar : IsKept HasNoBar
no_bar = kept_bytes (λ b. b ≢ 124) (λ b d. omega arith) (omega arith) (omega arith)

-- and no line end
no_end : IsKept HasNoEnd
no_end = kept_bytes (λ b. b ≢ 10) (λ b d. omega arith) (omega arith) (omega arith)

-- digits are text
digits_text : (t : List ℕ) → AllByRecursion IsDigit t → IsUtf8 t
digits_text t h = IsUtf8-from_ascii t (IsAscii-from_all t (all_digits (λ b. b < 128) (λ b d. omega arith) t h))

-- two texts with an ASCII byte between them are text
texts_join : (c : ℕ) → c < 128 → (a b : List ℕ) → IsUtf8 a → IsUtf8 b → IsUtf8 (a ++ c ∷ b)
texts_join c ascii a b u v = IsUtf8-append a (c ∷ b) u (IsUtf8-append (c ∷ []) b (IsUtf8-from_ascii (c ∷ []) (IsAscii-cons c [] ascii IsAscii-nil)) v)

-- and it is text where its field is
is_text : IsKept IsUtf8
is_text = record {
  digits = digits_text;
  around = around_ascii 59 (omega arith);
  listed = texts_join 59 (omega arith);
  paired = texts_join 44 (omega arith);
}

-- texts without line ends have none with a bar between them
ends_join : (a b : List ℕ) → HasNoEnd a → HasNoEnd b → HasNoEnd (a ++ 124 ∷ b)
ends_join a b u v = All-append (λ c. c ≢ 10) a (124 ∷ b) u (All-cons (λ c. c ≢ 10) 124 b (omega arith) v)

-- a text that begins with a digit begins with no mark
no_mark : (b : ℕ) (bs : List ℕ) → IsDigit b → begins_with_mark (b ∷ bs) ≡ false
no_mark b [] d = refl
no_mark b (c ∷ []) d = refl
no_mark b (c ∷ e ∷ bs) d = ap (λ t. t && (c == 187) && (e == 191)) (ne_eqb b 239 (omega arith))

-- nor does a line whose first field is digits
unmarked_line : (x : List ℕ) (xs : List (List ℕ)) → 0 < length x → AllByRecursion IsDigit x → begins_with_mark (join_with_byte 124 (x ∷ xs)) ≡ false
unmarked_line [] xs some h = absurd (omega arith)
unmarked_line (b ∷ bs) [] some h = no_mark b bs h.0
unmarked_line (b ∷ bs) (y ∷ ys) some h = no_mark b (bs ++ 124 ∷ join_with_byte 124 (y ∷ ys)) h.0

-- so the line of a value of 64 bits and others begins with no mark
unmarked_values : OwnDigits → (c : Column) (x : List ℕ) (v : Value) (vs : List Value) → Spells c x v → (n : ℕ) (rest : List Value) → v ∷ vs ≡ Digits n ∷ rest →
    begins_with_mark (join_with_byte 124 (map canonical_field (v ∷ vs))) ≡ false
unmarked_values own c x v vs s n rest e =
    let same : v ≡ Digits n = cc in
    let num = (digits_number own c x n (subst (Spells c x) same s)).1 in
    let line : begins_with_mark (join_with_byte 124 (decimal n ∷ map canonical_field vs)) ≡ false = unmarked_line (decimal n) (map canonical_field vs) num.some num.digits in
    subst (λ (w : Value). begins_with_mark (join_with_byte 124 (canonical_field w ∷ map canonical_field vs)) ≡ false) (sym same) line

-- values that are spelled have a line of their own
pub own_line : OwnDigits → OwnLineOfValues
own_line own [] xs vs some s h = absurd (some refl)
own_line own (c ∷ cs) (x ∷ xs) (v ∷ vs) some s h =
    let each = λ (P : List ℕ → Type 0) (k : IsKept P). kept_fields own P k (c ∷ cs) (x ∷ xs) (v ∷ vs) s in
    record {
      split = joined_parts 124 (canonical_field v) (map canonical_field vs) (each HasNoBar no_bar h);
      spelled = own_fields own (c ∷ cs) (x ∷ xs) (v ∷ vs) s;
      text = λ u. joined_all 124 IsUtf8 (texts_join 124 (omega arith)) (canonical_field v) (map canonical_field vs) (each IsUtf8 is_text u);
      one_line = λ e. joined_all 124 HasNoEnd ends_join (canonical_field v) (map canonical_field vs) (each HasNoEnd no_end e);
      unmarked = unmarked_values own c x v vs s.0;
    }
own_line own columns xs vs some s h = absurd s
