-- A text spells one value of a column at most, and the canonical spelling of a value spells it.
use Rattle.std.proofs.Common.{◌≡◌, ◌≢◌, ◌++◌, ◌∙◌, ◌∷◌, ◌<◌, ◌≤◌, ◌^◌, [], ℕ, List, refl, sym, ap, subst, map, length, arith, length-append, nat_eq, All}
use Rattle.std.proofs.lemmas.List.Elements.{All-nil, All-append, All-cons, All-head, All-tail}
use Rattle.std.specs.Fmt.{decimal}
use Rattle.std.specs.List.{AllByRecursion, join_with_byte}
use Rattle.std.specs.Str.{bytes_eq}
use Rattle.snb_base.specs.Calendar.{IsDigit}
use Rattle.snb_base.specs.Spellings.{Num, SpellsId, SpellsPair, SpellsWord, last_id, last_time, pair_eq}
use Rattle.snb_base.specs.Spellings as spellings
use Rattle.snb_schema.specs.declared.column.Column.{Column}
use Rattle.snb_schema.specs.declared.column.Column.TheVariants.{Number, Small, OptionalId, Date, Day, Words, Word, TextList, IdList, PairList}
use Rattle.snb_schema.specs.declared.column.Value.{Value}
use Rattle.snb_schema.specs.declared.column.Value.TheVariants.{Digits, SmallDigits, NoId, Letters, Texts, Ids, Pairs}
use Rattle.snb_schema.specs.Columns.{Spells, SpellsAll, canonical_field, pair_text}
use Rattle.snb_columns.specs.Laws.{OneList, OneValue}
use Rattle.snb_schema.specs.Lines.{HasNo}
use Rattle.snb_columns.proofs.CutFacts.{all_digits}
use Rattle.snb_columns.proofs.NumberFacts.{number_some}
use Rattle.snb_columns.proofs.ListFacts.{IsElement, kept_listed, one_listed, own_listed}
use Rattle.snb_columns.proofs.PairFacts.{OneNumber, one_pair}

-- a text spells one number, one date and one day at most
pub record OneEach : Type 0 where
  pub number : OneNumber
  pub date : (x : List ℕ) (m n : ℕ) → spellings.Date x m → spellings.Date x n → m ≡ n
  pub day : (x : List ℕ) (m n : ℕ) → spellings.Day x m → spellings.Day x n → m ≡ n

-- digits spell their number, and no other text does; and they spell a date and a day
pub record OwnDigits : Type 0 where
  pub read : (n most : ℕ) → n ≤ most → n < 10 ^ 19 → Num (decimal n) n most
  pub only : (x : List ℕ) (n most : ℕ) → Num x n most → x ≡ decimal n
  pub date : (n : ℕ) → n ≤ last_time → spellings.Date (decimal n) n
  pub day : (n : ℕ) → n ≤ last_time → spellings.Day (decimal n) n

-- a text spells itself alone
one_word : (x a b : List ℕ) → SpellsWord x a → SpellsWord x b → a ≡ b
one_word x a b s t = sym s.1 ∙ t.1

-- a text spells one value of a column
pub one_value : OneEach → OneValue
one_value one (Number most) x (Digits m) (Digits n) s t = ap Digits (one.number x m n most most s t)
one_value one (Small most) x (SmallDigits m) (SmallDigits n) s t = ap SmallDigits (one.number x m n most most s t)
one_value one OptionalId x (Digits m) (Digits n) s t = ap Digits (one.number x m n last_id last_id s t)
one_value one OptionalId x (Digits n) NoId s t = absurd (number_some x n last_id s t)
one_value one OptionalId x NoId (Digits n) s t = absurd (number_some x n last_id t s)
one_value one OptionalId x NoId NoId s t = refl
one_value one Date x (Digits m) (Digits n) s t = ap Digits (one.date x m n s t)
one_value one Day x (Digits m) (Digits n) s t = ap Digits (one.day x m n s t)
one_value one Words x (Letters a) (Letters b) s t = ap Letters (sym s ∙ t)
one_value one Word x (Letters a) (Letters b) s t = ap Letters (one_word x a b s t)
one_value one TextList x (Texts a) (Texts b) s t = ap Texts (one_listed SpellsWord bytes_eq one_word x a b s t)
one_value one IdList x (Ids a) (Ids b) s t = ap Ids (one_listed SpellsId nat_eq (λ y m n. one.number y m n last_id last_id) x a b s t)
one_value one PairList x (Pairs a) (Pairs b) s t = ap Pairs (one_listed SpellsPair pair_eq (one_pair one.number) x a b s.0 t.0)
one_value one column x v w s t = absurd assumption

-- fields spell one list of values
pub one_list : OneEach → OneList
one_list one [] [] [] [] s t = refl
one_list one (c ∷ cs) (x ∷ xs) (v ∷ vs) (w ∷ ws) s t = λ i. one_value one c x v w s.0 t.0 i ∷ one_list one cs xs vs ws s.1 t.1 i
one_list one columns xs vs ws s t = absurd assumption

-- the digits of a moment are a number
moment_number : OwnDigits → (n : ℕ) → n ≤ last_time → Num (decimal n) n last_time
moment_number own n small = own.read n last_time small (omega arith)

-- the digits of a number are its spelling
own_number : OwnDigits → (x : List ℕ) (n most : ℕ) → Num x n most → Num (decimal n) n most
own_number own x n most s = subst (λ (y : List ℕ). Num y n most) (own.only x n most s) s

-- digits have no semicolon
digits_uncut : (t : List ℕ) → AllByRecursion IsDigit t → HasNo 59 t
digits_uncut = all_digits (λ b. b ≢ 59) (λ b d. omega arith)

-- a text with a byte isn't empty
not_empty : (t : List ℕ) → 0 < length t → t ≢ []
not_empty [] some e = absurd (omega (arith, some))
not_empty (b ∷ bs) some e = cc

-- a text of a list is its own spelling
own_word : (x word : List ℕ) → HasNo 59 x → SpellsWord x word → IsElement SpellsWord (λ t. t) word
own_word x word h s = record { own = (λ e. s.0 (s.1 ∙ e), refl); some = λ e. s.0 (s.1 ∙ e); uncut = subst (HasNo 59) s.1 h }

-- the digits of an id of a list are its spelling
own_id : OwnDigits → (x : List ℕ) (id : ℕ) → HasNo 59 x → SpellsId x id → IsElement SpellsId decimal id
own_id own x id h s =
    let num = own_number own x id last_id s in record { own = num; some = not_empty (decimal id) num.some; uncut = digits_uncut (decimal id) num.digits }

-- the digits of an id and a year of a list are their spelling
own_pair : OwnDigits → (x : List ℕ) (pair : ℕ × ℕ) → HasNo 59 x → SpellsPair x pair → IsElement SpellsPair pair_text pair
own_pair own x pair h (id, year, e, a, b) =
    let one = own_number own id pair.0 last_id a in
    let other = own_number own year pair.1 9999 b in
    record {
      own = (decimal pair.0, decimal pair.1, refl, one, other);
      some = not_empty (pair_text pair) (omega (arith, length-append (decimal pair.0) (44 ∷ decimal pair.1)));
      uncut = All-append (λ c. c ≢ 59) (decimal pair.0) (44 ∷ decimal pair.1) (digits_uncut (decimal pair.0) one.digits) (All-cons (λ c. c ≢ 59) 44 (decimal pair.1) (omega arith) (digits_uncut (decimal pair.1) other.digits));
    }

-- texts are their own spellings
pub each_itself : (texts : List (List ℕ)) → map (λ t. t) texts ≡ texts
each_itself [] = refl
each_itself (t ∷ texts) = ap (λ (ts : List (List ℕ)). t ∷ ts) (each_itself texts)

-- the canonical spelling of a value that x spells spells it
own_field : OwnDigits → (column : Column) (x : List ℕ) (v : Value) → Spells column x v → Spells column (canonical_field v) v
own_field own (Number most) x (Digits n) s = own_number own x n most s
own_field own (Small most) x (SmallDigits n) s = own_number own x n most s
own_field own OptionalId x (Digits n) s = own_number own x n last_id s
own_field own OptionalId x NoId s = refl
own_field own Date x (Digits n) s = own.date n s.0
own_field own Day x (Digits n) s = own.day n s.0
own_field own Words x (Letters text) s = refl
own_field own Word x (Letters text) s = (λ e. s.0 (s.1 ∙ e), refl)
own_field own TextList x (Texts texts) s = subst (λ (ts : List (List ℕ)). spellings.WordList (join_with_byte 59 ts) texts) (each_itself texts) (own_listed SpellsWord bytes_eq (λ t. t) own_word x texts s)
own_field own IdList x (Ids ids) s = own_listed SpellsId nat_eq decimal (own_id own) x ids s
own_field own PairList x (Pairs pairs) s = (own_listed SpellsPair pair_eq pair_text (own_pair own) x pairs s.0, s.1)
own_field own column x v s = absurd s

-- the digits of a value of 64 bits are a number
pub digits_number : OwnDigits → (column : Column) (x : List ℕ) (n : ℕ) → Spells column x (Digits n) → (most : ℕ) × Num (decimal n) n most
digits_number own (Number most) x n s = (most, own_number own x n most s)
digits_number own OptionalId x n s = (last_id, own_number own x n last_id s)
digits_number own Date x n s = (last_time, moment_number own n s.0)
digits_number own Day x n s = (last_time, moment_number own n s.0)
digits_number own column x n s = absurd s

-- the canonical spellings of values spell them
pub own_fields : OwnDigits → (columns : List Column) (xs : List (List ℕ)) (vs : List Value) → SpellsAll columns xs vs → SpellsAll columns (map canonical_field vs) vs
own_fields own [] [] [] s = tt
own_fields own (c ∷ cs) (x ∷ xs) (v ∷ vs) s = (own_field own c x v s.0, own_fields own cs xs vs s.1)
own_fields own columns xs vs s = absurd s

-- P holds of digits, of what stands before and behind a semicolon where it holds of the whole, and of texts that it holds of, joined
pub record IsKept (P : List ℕ → Type 0) : Type 0 where
  pub digits : (t : List ℕ) → AllByRecursion IsDigit t → P t
  pub around : (a b : List ℕ) → P (a ++ 59 ∷ b) → P a × P b
  pub listed : (a b : List ℕ) → P a → P b → P (a ++ 59 ∷ b)
  pub paired : (a b : List ℕ) → P a → P b → P (a ++ 44 ∷ b)

-- so it holds of the canonical spelling of a value that x spells where it holds of x
kept_field : OwnDigits → (P : List ℕ → Type 0) → IsKept P → (column : Column) (x : List ℕ) (v : Value) → Spells column x v → P x → P (canonical_field v)
kept_field own P k (Number most) x (Digits n) s h = subst P (own.only x n most s) h
kept_field own P k (Small most) x (SmallDigits n) s h = subst P (own.only x n most s) h
kept_field own P k OptionalId x (Digits n) s h = subst P (own.only x n last_id s) h
kept_field own P k OptionalId x NoId s h = subst P s h
kept_field own P k Date x (Digits n) s h = k.digits (decimal n) (moment_number own n s.0).digits
kept_field own P k Day x (Digits n) s h = k.digits (decimal n) (moment_number own n s.0).digits
kept_field own P k Words x (Letters text) s h = subst P s h
kept_field own P k Word x (Letters text) s h = subst P s.1 h
kept_field own P k TextList x (Texts texts) s h =
    subst (λ (ts : List (List ℕ)). P (join_with_byte 59 ts)) (each_itself texts) (kept_listed SpellsWord bytes_eq (λ t. t) P (k.digits [] tt) k.around k.listed (λ y word p t. subst P t.1 p) x texts s h)
kept_field own P k IdList x (Ids ids) s h =
    kept_listed SpellsId nat_eq decimal P (k.digits [] tt) k.around k.listed (λ y id p t. k.digits (decimal id) (own_number own y id last_id t).digits) x ids s h
kept_field own P k PairList x (Pairs pairs) s h =
    kept_listed SpellsPair pair_eq pair_text P (k.digits [] tt) k.around k.listed
    (λ y pair p (id, year, e, a, b). k.paired (decimal pair.0) (decimal pair.1) (k.digits (decimal pair.0) (own_number own id pair.0 last_id a).digits) (k.digits (decimal pair.1) (own_number own year pair.1 9999 b).digits))
    x pairs s.0 h
kept_field own P k column x v s h = absurd s

-- and of each canonical spelling where it holds of each field
pub kept_fields : OwnDigits → (P : List ℕ → Type 0) → IsKept P → (columns : List Column) (xs : List (List ℕ)) (vs : List Value) → SpellsAll columns xs vs → All P xs → All P (map canonical_field vs)
kept_fields own P k [] [] [] s h = All-nil P
kept_fields own P k (c ∷ cs) (x ∷ xs) (v ∷ vs) s h =
    All-cons P (canonical_field v) (map canonical_field vs) (kept_field own P k c x v s.0 (All-head P x xs h)) (kept_fields own P k cs xs vs s.1 (All-tail P x xs h))
kept_fields own P k columns xs vs s h = absurd s
