-- A reply is read back from its text, and its array and its text tell it.
use Rattle.std.proofs.Common.{◌≡◌, ◌≤◌, ◌<◌, ◌+◌, ◌^◌, ◌∙◌, ap, ap₂, sym, ℕ, ℤ, pos, negsuc, List, [], ◌∷◌, map, Option, Some, option_map, option_and_then, refl, arith, append-nil}
use Rattle.std.proofs.lemmas.List.{map-id}
use Rattle.std.specs.List.{AllByRecursion}
use Rattle.std.specs.Prelude.{⊤}
use Rattle.json.specs.Json as json
use Rattle.json.specs.Lex.{tokens}
use Rattle.json.specs.Token.{Token}
use Rattle.json.specs.Tree as tree
use Rattle.json.proofs.Printed.Decimals.{IsNumber-decimal, IsNumber-signed_decimal}
use Rattle.json.proofs.Printed.Tokens.{tokens-print}
use Rattle.json.proofs.Printed.Trees.{ArePrintable-json_tokens, value-json_tokens}
use Rattle.serde_json.specs.Data.{Data, array, number, string}
use Rattle.serde_json.specs.Find.{of_integer}
use Rattle.serde_json.specs.Read.{max_depth, of_items, of_json, read}
use Rattle.serde_json.specs.View.{items_of}
use Rattle.serde_json.specs.Written.{compact_text, items_outline, outline}
use Rattle.serde_json.proofs.Numbers.{number_of-decimal, number_of-negative}
use Rattle.serde_json.proofs.Texts.{print-outline}
use Rattle.snb_read_model.specs.Cells.{ByteCell}
use Rattle.snb_read_model.specs.declared.cell.Cell.TheVariants as cell
use Rattle.snb_validation.specs.Laws.{AreOfTypes, IsOfType, IsSigned64, as_written, reply_as_written}
use Rattle.snb_validation.specs.ReplyData.{array_of, cell_data, reply_data, stay_data}

-- ---- reading back

-- the value is read from its tokens, its numbers are spelled as numbers, and it nests at most so deep
abbrev IsRead : Data → ℕ → Type 0
IsRead d n = (of_json (outline d) ≡ Some d) × tree.HasNumbers (outline d) × (tree.depth (outline d) ≤ n)

items_read : {X : Type 0} (f : X → Data) (P : X → Type 0) (n : ℕ) → ((x : X) → P x → IsRead (f x) n) → (xs : List X) → AllByRecursion P xs
    → (of_items (items_outline (items_of (map f xs))) ≡ Some (items_of (map f xs))) × tree.ItemsHaveNumbers (items_outline (items_of (map f xs))) × (tree.items_depth (items_outline (items_of (map f xs))) ≤ n)
items_read f P n h [] all = (refl, tt, omega arith)
items_read f P n h (x ∷ xs) all =
    let one = h x all.0 in
    let more = items_read f P n h xs all.1 in
    (rw (one.0, more.0) refl, (one.1, more.1), omega (arith, one.2, more.2))

array_read : {X : Type 0} (f : X → Data) (P : X → Type 0) (n : ℕ) → ((x : X) → P x → IsRead (f x) n) → (xs : List X) → AllByRecursion P xs → IsRead (array_of f xs) (n + 1)
array_read f P n h xs all = let r = items_read f P n h xs all in (ap (option_map array) r.0, r.1, omega (arith, r.2))

integer_read : (z : ℤ) → IsSigned64 z → IsRead (number (of_integer z)) 0
integer_read (pos n) h = let wide : n < 2 ^ 64 = omega arith in (ap (option_map number) (number_of-decimal n wide), IsNumber-decimal n wide, omega arith)
integer_read (negsuc n) h = (ap (option_map number) (number_of-negative n h), IsNumber-signed_decimal (negsuc n) (omega arith), omega arith)

stay_read : (s : List ℕ × ℕ × List ℕ) → s.1 < 2 ^ 32 → IsRead (stay_data s) 1
stay_read s h = let year = integer_read (pos s.1) (omega arith) in (rw year.0 refl, (tt, (year.1, (tt, tt))), omega arith)

any : {X : Type 0} (xs : List X) → AllByRecursion (λ x. ⊤) xs
any [] = tt
any (x ∷ xs) = (tt, any xs)

cell_read : (c : ByteCell) → IsOfType c → IsRead (cell_data c) 2
cell_read (cell.Number z) h = let r = integer_read z h in (r.0, r.1, omega (arith, r.2))
cell_read (cell.Flag b) h = (refl, tt, omega arith)
cell_read (cell.Words t) h = (refl, tt, omega arith)
cell_read (cell.List ts) h = let r = array_read string (λ t. ⊤) 0 (λ t h. (refl, tt, omega arith)) ts (any ts) in (r.0, r.1, omega (arith, r.2))
cell_read (cell.Stays ss) h = array_read stay_data (λ s. s.1 < 2 ^ 32) 1 stay_read ss h

reply_read : (r : List (List (List ByteCell))) → AreOfTypes r → IsRead (reply_data r) 5
reply_read = array_read (array_of (array_of cell_data)) _ 4 (array_read (array_of cell_data) _ 3 (array_read cell_data IsOfType 2 cell_read))

abbrev last : Option (json.Json × List Token) → Option Data
last o = option_and_then of_json (option_and_then (λ p. json.if_last p.0 p.1) o)

pub text_read : (r : List (List (List ByteCell))) → AreOfTypes r → read (compact_text (reply_data r)) ≡ Some (reply_data r)
text_read r h =
    let k = reply_read r h in
    let j = outline (reply_data r) in
    let same = ap tokens (sym (print-outline (reply_data r))) ∙ tokens-print _ (ArePrintable-json_tokens j k.1) ∙ sym (append-nil (tree.json_tokens j)) in
    ap (λ ts. last (json.value max_depth ts)) same ∙ ap last (value-json_tokens j max_depth [] (omega (arith, k.2))) ∙ k.0

-- ---- telling apart

array_as : {X Y : Type 0} (f : X → Data) (k : X → Y) → ((x y : X) → f x ≡ f y → k x ≡ k y) → (xs ys : List X) → array_of f xs ≡ array_of f ys → map k xs ≡ map k ys
array_as f k h [] [] e = refl
array_as f k h [] (y ∷ ys) e = absurd cc
array_as f k h (x ∷ xs) [] e = absurd cc
array_as f k h (x ∷ xs) (y ∷ ys) e =
    let one : f x ≡ f y = cc in
    let more : array_of f xs ≡ array_of f ys = cc in
    ap₂ (λ z zs. z ∷ zs) (h x y one) (array_as f k h xs ys more)

-- where the values of no two are equal
array_one : {X : Type 0} (f : X → Data) → ((x y : X) → f x ≡ f y → x ≡ y) → (xs ys : List X) → array_of f xs ≡ array_of f ys → xs ≡ ys
array_one f h xs ys e = sym (map-id xs) ∙ array_as f (λ x. x) h xs ys e ∙ map-id ys

integer_one : (y z : ℤ) → of_integer y ≡ of_integer z → y ≡ z
integer_one (pos m) (pos n) e = cc
integer_one (pos m) (negsuc n) e = absurd cc
integer_one (negsuc m) (pos n) e = absurd cc
integer_one (negsuc m) (negsuc n) e = cc

stay_one : (s t : List ℕ × ℕ × List ℕ) → stay_data s ≡ stay_data t → s ≡ t
stay_one (a, m, b) (c, n, d) e = cc

cell_one : (a b : ByteCell) → cell_data a ≡ cell_data b → as_written a ≡ as_written b
cell_one (cell.Number y) (cell.Number z) e = let same : of_integer y ≡ of_integer z = cc in ap cell.Number (integer_one y z same)
cell_one (cell.Flag a) (cell.Flag b) e = cc
cell_one (cell.Words a) (cell.Words b) e = cc
cell_one (cell.List a) (cell.List b) e = ap cell.List (array_one string (λ x y same. cc) a b e)
cell_one (cell.Stays a) (cell.Stays b) e = ap (λ c. as_written (cell.Stays c)) (array_one stay_data stay_one a b e)
cell_one (cell.List []) (cell.Stays []) e = refl
cell_one (cell.Stays []) (cell.List []) e = refl
cell_one (cell.List []) (cell.Stays (s ∷ ss)) e = absurd cc
cell_one (cell.List (t ∷ ts)) (cell.Stays []) e = absurd cc
cell_one (cell.List (t ∷ ts)) (cell.Stays (s ∷ ss)) e = absurd cc
cell_one (cell.Stays []) (cell.List (t ∷ ts)) e = absurd cc
cell_one (cell.Stays (s ∷ ss)) (cell.List []) e = absurd cc
cell_one (cell.Stays (s ∷ ss)) (cell.List (t ∷ ts)) e = absurd cc
cell_one a b e = absurd cc

pub data_one : (a b : List (List (List ByteCell))) → reply_data a ≡ reply_data b → reply_as_written a ≡ reply_as_written b
data_one = array_as (array_of (array_of cell_data)) _ (array_as (array_of cell_data) _ (array_as cell_data as_written cell_one))

pub text_one : (a b : List (List (List ByteCell))) → AreOfTypes a → AreOfTypes b → compact_text (reply_data a) ≡ compact_text (reply_data b) → reply_as_written a ≡ reply_as_written b
text_one a b h k e =
    let same : Some (reply_data a) ≡ Some (reply_data b) = sym (text_read a h) ∙ ap read e ∙ text_read b k in
    let data_same : reply_data a ≡ reply_data b = cc in
    data_one a b data_same
