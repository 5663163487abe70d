-- Values are one thing at most, and so is a case.
use Rattle.std.proofs.Common.{◌≡◌, ◌∙◌, ap, ap₂, sym, subst, refl, arith, map, length, take, take_all, drop, get_or, ◌≤◌, ◌-◌, ℕ, List, [], ◌∷◌, Some}
use Rattle.std.specs.List.{AllZip}
use Rattle.serde_json.specs.Data.{Data}
use Rattle.serde_json.specs.View.{view}
use Rattle.serde_json.specs.declared.value.Value.{Value as Json}
use Rattle.snb_schema.specs.declared.column.Column.{Column as Parameter}
use Rattle.snb_schema.specs.declared.column.Column.TheVariants as column
use Rattle.snb_schema.specs.declared.column.Value.{Value}
use Rattle.snb_schema.specs.declared.column.Value.TheVariants.{Digits, SmallDigits, Letters}
use Rattle.snb_schema.specs.declared.limits.TheConstants.{MAX_TIME, MAX_YEAR}
use Rattle.snb_schema.specs.declared.query.Query.{Query}
use Rattle.snb_read_model.specs.Cells.{ByteCell}
use Rattle.snb_read_model.specs.declared.cell.Cell.TheVariants as cell
use Rattle.snb_read_model.specs.Replies.{tail_reads}
use Rattle.snb_schema.specs.declared.query.CellKind.{CellKind}
use Rattle.snb_schema.specs.declared.query.CellKind.TheVariants.{Number, Flag, Words, Texts, Stays}
use Rattle.snb_read_model.specs.Columns.{IsOfColumn, columns_of}
use Rattle.snb_validation_cases.specs.Parameters.{IsParameter}
use Rattle.snb_validation_cases.specs.Replies.{AreReply, AreStay, IsAnswerTo, IsCellIn, IsCellValue, IsReplyData, IsRow, IsStayData, IsStayOf}
use Rattle.snb_validation_cases.specs.Values.{AreAlong, IsArray, IsNumberTo, IsString}
use Rattle.snb_validation_cases.proofs.ValueFacts.{array_all}

pub text_one : (d : Data) (a b : List ℕ) → IsString d a → IsString d b → a ≡ b
text_one d a b x y = let same : Some a ≡ Some b = sym x ∙ y in cc

pub number_one : (most : ℕ) (d : Data) (a b : ℕ) → IsNumberTo most d a → IsNumberTo most d b → a ≡ b
number_one most d a b x y = let same : Some a ≡ Some b = sym x.0 ∙ y.0 in cc

-- ---- lists and arrays

zip_one : {X : Type 0} (R : Data → X → Type 0) → ((d : Data) (a b : X) → R d a → R d b → a ≡ b) → (ds : List Data) (xs ys : List X) → AllZip R ds xs → AllZip R ds ys → xs ≡ ys
zip_one R one [] [] [] h k = refl
zip_one R one [] [] (y ∷ ys) h k = absurd k
zip_one R one [] (x ∷ xs) ys h k = absurd h
zip_one R one (d ∷ ds) [] ys h k = absurd h
zip_one R one (d ∷ ds) (x ∷ xs) [] h k = absurd k
zip_one R one (d ∷ ds) (x ∷ xs) (y ∷ ys) h k = ap₂ (λ z zs. z ∷ zs) (one d x y h.0 k.0) (zip_one R one ds xs ys h.1 k.1)

pub array_one : {X : Type 0} (R : List Data → X → Type 0) → ((ds : List Data) (a b : X) → R ds a → R ds b → a ≡ b) → (d : Data) (x y : X) → IsArray R d x → IsArray R d y → x ≡ y
array_one R one d x y h (ds, is, all) = one ds x y (array_all R d ds x is h) all

pub along_one : {C X : Type 0} (R : C → Data → X → Type 0) → ((c : C) (d : Data) (a b : X) → R c d a → R c d b → a ≡ b) → (cs : List C) (ds : List Data) (xs ys : List X) → AreAlong R cs ds xs → AreAlong R cs ds ys → xs ≡ ys
along_one R one [] [] [] [] h k = refl
along_one R one [] [] [] (y ∷ ys) h k = absurd k
along_one R one [] [] (x ∷ xs) ys h k = absurd h
along_one R one [] (d ∷ ds) [] ys h k = absurd h
along_one R one [] (d ∷ ds) (x ∷ xs) ys h k = absurd h
along_one R one (c ∷ cs) [] [] ys h k = absurd h
along_one R one (c ∷ cs) [] (x ∷ xs) ys h k = absurd h
along_one R one (c ∷ cs) (d ∷ ds) [] ys h k = absurd h
along_one R one (c ∷ cs) (d ∷ ds) (x ∷ xs) [] h k = absurd k
along_one R one (c ∷ cs) (d ∷ ds) (x ∷ xs) (y ∷ ys) h k = ap₂ (λ z zs. z ∷ zs) (one c d x y h.0 k.0) (along_one R one cs ds xs ys h.1 k.1)

-- ---- parameters

is_digits : (most : ℕ) (d : Data) (v : Value) → IsParameter (column.Number most) d v → (n : ℕ) × (v ≡ Digits n) × IsNumberTo most d n
is_digits most d (Digits n) h = (n, refl, h)
is_digits most d v h = absurd h

is_small : (most : ℕ) (d : Data) (v : Value) → IsParameter (column.Small most) d v → (n : ℕ) × (v ≡ SmallDigits n) × IsNumberTo most d n
is_small most d (SmallDigits n) h = (n, refl, h)
is_small most d v h = absurd h

is_date : (d : Data) (v : Value) → IsParameter column.Date d v → (n : ℕ) × (v ≡ Digits n) × IsNumberTo MAX_TIME d n
is_date d (Digits n) h = (n, refl, h)
is_date d v h = absurd h

is_letters : (d : Data) (v : Value) → IsParameter column.Words d v → (text : List ℕ) × (v ≡ Letters text) × IsString d text
is_letters d (Letters text) h = (text, refl, h)
is_letters d v h = absurd h

pub parameter_one : (c : Parameter) (d : Data) (v w : Value) → IsParameter c d v → IsParameter c d w → v ≡ w
parameter_one (column.Number most) d v w h k = let (n, e, a) = is_digits most d v h in let (m, f, b) = is_digits most d w k in e ∙ ap Digits (number_one most d n m a b) ∙ sym f
parameter_one (column.Small most) d v w h k = let (n, e, a) = is_small most d v h in let (m, f, b) = is_small most d w k in e ∙ ap SmallDigits (number_one most d n m a b) ∙ sym f
parameter_one column.Date d v w h k = let (n, e, a) = is_date d v h in let (m, f, b) = is_date d w k in e ∙ ap Digits (number_one MAX_TIME d n m a b) ∙ sym f
parameter_one column.Words d v w h k = let (x, e, a) = is_letters d v h in let (y, f, b) = is_letters d w k in e ∙ ap Letters (text_one d x y a b) ∙ sym f
parameter_one c d v w h k = absurd h

-- ---- replies

stay_of_one : (n y p : Data) (s t : List ℕ × ℕ × List ℕ) → IsStayOf n y p s → IsStayOf n y p t → s ≡ t
stay_of_one n y p (a, b, c) (e, f, g) h k =
    let name = text_one n a e h.0 k.0 in
    let year = number_one MAX_YEAR y b f h.1 k.1 in
    let place = text_one p c g h.2 k.2 in
    cc

three_one : (ds : List Data) (s t : List ℕ × ℕ × List ℕ) → AreStay ds s → AreStay ds t → s ≡ t
three_one [] s t h k = absurd h
three_one (n ∷ []) s t h k = absurd h
three_one (n ∷ y ∷ []) s t h k = absurd h
three_one (n ∷ y ∷ p ∷ []) s t h k = stay_of_one n y p s t h k
three_one (n ∷ y ∷ p ∷ d ∷ ds) s t h k = absurd h

stay_one : (d : Data) (s t : List ℕ × ℕ × List ℕ) → IsStayData d s → IsStayData d t → s ≡ t
stay_one = array_one AreStay three_one

-- which of the five a cell is
abbrev tag : ByteCell → ℕ
tag (cell.Number z) = 0
tag (cell.Flag b) = 1
tag (cell.Words t) = 2
tag (cell.List ts) = 3
tag (cell.Stays ss) = 4

-- and which a column has
abbrev column_tag : CellKind → ℕ
column_tag Number = 0
column_tag Flag = 1
column_tag Words = 2
column_tag Texts = 3
column_tag Stays = 4

tag_is : (c : CellKind) (x : ByteCell) → IsOfColumn c x → tag x ≡ column_tag c
tag_is Number (cell.Number z) h = refl
tag_is Number (cell.Flag b) h = absurd h
tag_is Number (cell.Words t) h = absurd h
tag_is Number (cell.List ts) h = absurd h
tag_is Number (cell.Stays ss) h = absurd h
tag_is Flag (cell.Number z) h = absurd h
tag_is Flag (cell.Flag b) h = refl
tag_is Flag (cell.Words t) h = absurd h
tag_is Flag (cell.List ts) h = absurd h
tag_is Flag (cell.Stays ss) h = absurd h
tag_is Words (cell.Number z) h = absurd h
tag_is Words (cell.Flag b) h = absurd h
tag_is Words (cell.Words t) h = refl
tag_is Words (cell.List ts) h = absurd h
tag_is Words (cell.Stays ss) h = absurd h
tag_is Texts (cell.Number z) h = absurd h
tag_is Texts (cell.Flag b) h = absurd h
tag_is Texts (cell.Words t) h = absurd h
tag_is Texts (cell.List ts) h = refl
tag_is Texts (cell.Stays ss) h = absurd h
tag_is Stays (cell.Number z) h = absurd h
tag_is Stays (cell.Flag b) h = absurd h
tag_is Stays (cell.Words t) h = absurd h
tag_is Stays (cell.List ts) h = absurd h
tag_is Stays (cell.Stays ss) h = refl

value_one : (d : Data) (x y : ByteCell) → tag x ≡ tag y → IsCellValue d x → IsCellValue d y → x ≡ y
value_one d (cell.Number a) (cell.Number b) e h k = let same : Some a ≡ Some b = sym h ∙ k in cc
value_one d (cell.Flag a) (cell.Flag b) e h k = let same : Some a ≡ Some b = sym h ∙ k in cc
value_one d (cell.Words a) (cell.Words b) e h k = ap cell.Words (text_one d a b h k)
value_one d (cell.List a) (cell.List b) e h k = ap cell.List (array_one (AllZip IsString) (zip_one IsString text_one) d a b h k)
value_one d (cell.Stays a) (cell.Stays b) e h k = ap cell.Stays (array_one (AllZip IsStayData) (zip_one IsStayData stay_one) d a b h k)
value_one d x y e h k = absurd (omega (arith, e))

cell_one : (c : CellKind) (d : Data) (x y : ByteCell) → IsCellIn c d x → IsCellIn c d y → x ≡ y
cell_one c d x y h k = value_one d x y (tag_is c x h.0 ∙ sym (tag_is c y k.0)) h.1 k.1

row_one : (query : Query) (d : Data) (x y : List ByteCell) → IsRow query d x → IsRow query d y → x ≡ y
row_one query = array_one (AreAlong IsCellIn (columns_of query)) (along_one IsCellIn cell_one (columns_of query))

answer_one : (query : Query) (d : Data) (x y : List (List ByteCell)) → IsAnswerTo query d x → IsAnswerTo query d y → x ≡ y
answer_one query = array_one (AllZip (IsRow query)) (zip_one (IsRow query) (row_one query))

joined_one : (query : Query) (ds : List Data) (o p : List (List ByteCell)) (t u : List (List (List ByteCell))) → AreAlong IsAnswerTo (query ∷ tail_reads query o) ds (o ∷ t) → AreAlong IsAnswerTo (query ∷ tail_reads query p) ds (p ∷ u) → o ∷ t ≡ p ∷ u
joined_one query [] o p t u h k = absurd h
joined_one query (d ∷ ds) o p t u h k =
    let same = answer_one query d o p h.0 k.0 in
    ap₂ (λ z zs. z ∷ zs) same
    (along_one IsAnswerTo answer_one (tail_reads query o) ds t u h.1 (subst (λ (a : List (List ByteCell)). AreAlong IsAnswerTo (tail_reads query a) ds u) (sym same) k.1))

are_one : (query : Query) (ds : List Data) (x y : List (List (List ByteCell))) → AreReply query ds x → AreReply query ds y → x ≡ y
are_one query ds x y a b = a.is ∙ joined_one query ds a.own b.own a.tail b.tail a.answers b.answers ∙ sym b.is

pub reply_one : (query : Query) (d : Data) (x y : List (List (List ByteCell))) → IsReplyData query d x → IsReplyData query d y → x ≡ y
reply_one query = array_one (AreReply query) (are_one query)

-- values of which the first is no answer are no reply
pub no_own : (query : Query) (vs : List Json) (v : Json) → v ≡ get_or vs 0 v → 1 ≤ length vs → ((own : List (List ByteCell)) → ¬ IsAnswerTo query (view v) own) → (reply : List (List (List ByteCell))) → ¬ AreReply query (map view vs) reply
no_own query [] v e l none reply r = absurd (omega (arith, l))
no_own query (w ∷ vs) v e l none reply r = none r.own (subst (λ (x : Json). IsAnswerTo query (view x) r.own) (sym e) r.answers.0)

-- nor those of which the others are no tail
pub no_tail : (query : Query) (vs : List Json) (v : Json) (own : List (List ByteCell)) → v ≡ get_or vs 0 v → 1 ≤ length vs → IsAnswerTo query (view v) own
    → ((tail : List (List (List ByteCell))) → ¬ AreAlong IsAnswerTo (tail_reads query own) (map view (take (length vs - 1) (drop 1 vs))) tail) → (reply : List (List (List ByteCell))) → ¬ AreReply query (map view vs) reply
no_tail query [] v own e l is none reply r = absurd (omega (arith, l))
no_tail query (w ∷ vs) v own e l is none reply r =
    let same = answer_one query (view w) r.own own r.answers.0 (subst (λ (x : Json). IsAnswerTo query (view x) own) e is) in
    let all = take_all (length (w ∷ vs) - 1) vs (omega arith) in
    none r.tail (subst (λ (xs : List Json). AreAlong IsAnswerTo (tail_reads query own) (map view xs) r.tail) (sym all)
    (subst (λ (a : List (List ByteCell)). AreAlong IsAnswerTo (tail_reads query a) (map view vs) r.tail) same r.answers.1))
