-- No byte of the text of a value ends a line.
use Rattle.std.proofs.Common.{◌≡◌, ◌≢◌, ◌/◌, ◌%◌, ℕ, zero, suc, pos, negsuc, List, [], ◌∷◌, ◌++◌, Bool, true, false, cond, refl, arith}
use Rattle.std.specs.Prelude.{◌==◌, nat_lt}
use Rattle.std.proofs.lemmas.Bool.Decides.{nat_tests}
use Rattle.std.proofs.lemmas.List.Elements.{All-from_recursion, All-append, All-cons, All-nil}
use Rattle.std.specs.Char.{digit_char}
use Rattle.std.specs.Fmt.{decimal, digit_glyph, digits, digits_onto}
use Rattle.json.specs.Print.{escape, escape_byte, escape_letter, quoted}
use Rattle.snb_schema.specs.Lines.{HasNoEnd}
use Rattle.serde_json.specs.Data.{Data, Items, Members, Num, array, boolean, float, item, member, negative, no_items, no_members, null, number, object, string, unsigned}
use Rattle.serde_json.specs.Written.{comma_if, compact_text, items_text, members_text, number_text}

-- a text with one byte more, none, and two texts
more : (b : ℕ) (text : List ℕ) → b ≢ 10 → HasNoEnd text → HasNoEnd (b ∷ text)
more = All-cons (λ b. b ≢ 10)

none : HasNoEnd []
none = All-nil (λ b. b ≢ 10)

joined : (a b : List ℕ) → HasNoEnd a → HasNoEnd b → HasNoEnd (a ++ b)
joined = All-append (λ b. b ≢ 10)

-- one of two texts
chosen : (t : Bool) (a b : List ℕ) → HasNoEnd a → HasNoEnd b → HasNoEnd (cond t a b)
chosen true a b p q = p
chosen false a b p q = q

-- and where the test is false the second is known to be chosen
chosen_from : (t : Bool) (a b : List ℕ) → HasNoEnd a → (t ≡ false → HasNoEnd b) → HasNoEnd (cond t a b)
chosen_from true a b p q = p
chosen_from false a b p q = q refl

-- no letter of an escape is a line end
letter : (x : ℕ) → escape_letter x ≢ 10
letter x = grind (arith, nat_tests)

-- nor is a digit, of an escape or of a number
digit : (d : ℕ) → digit_char d ≢ 10
digit d = grind (arith, nat_tests)

glyph : (d : ℕ) → digit_glyph false d ≢ 10
glyph d = grind (arith, nat_tests)

-- what stands in a string for a byte
escaped_byte : (x : ℕ) → HasNoEnd (escape_byte x)
unfolding escape_byte
escaped_byte x =
    chosen (nat_lt 0 (escape_letter x)) (92 ∷ escape_letter x ∷ []) (cond (nat_lt x 32) (92 ∷ 117 ∷ 48 ∷ 48 ∷ digit_char (x / 16) ∷ digit_char (x % 16) ∷ []) (x ∷ []))
    (more 92 (escape_letter x ∷ []) (omega arith) (more (escape_letter x) [] (letter x) none))
    (chosen_from (nat_lt x 32) (92 ∷ 117 ∷ 48 ∷ 48 ∷ digit_char (x / 16) ∷ digit_char (x % 16) ∷ []) (x ∷ [])
    (All-from_recursion (λ b. b ≢ 10) (92 ∷ 117 ∷ 48 ∷ 48 ∷ digit_char (x / 16) ∷ digit_char (x % 16) ∷ [])
    (omega arith, (omega arith, (omega arith, (omega arith, (digit (x / 16), (digit (x % 16), tt)))))))
    (λ e. let large : x ≢ 10 = grind (arith, nat_tests) in more x [] large none))

-- for the bytes of a string
escaped : (s : List ℕ) → HasNoEnd (escape s)
escaped [] = none
escaped (x ∷ s) = joined (escape_byte x) (escape s) (escaped_byte x) (escaped s)

-- and with its quotes
quoted_one_line : (s : List ℕ) → HasNoEnd (quoted s)
quoted_one_line s = more 34 (escape s ++ 34 ∷ []) (omega arith) (joined (escape s) (34 ∷ []) (escaped s) (more 34 [] (omega arith) none))

-- the digits of a number before others
digits_more : (k n : ℕ) (rest : List ℕ) → HasNoEnd rest → HasNoEnd (digits_onto k 10 false n rest)
digits_more zero n rest h = h
digits_more (suc k) n rest h =
    let next = more (digit_glyph false (n % 10)) rest (glyph (n % 10)) h in
    chosen (n / 10 == 0) (digit_glyph false (n % 10) ∷ rest) (digits_onto k 10 false (n / 10) (digit_glyph false (n % 10) ∷ rest)) next (digits_more k (n / 10) (digit_glyph false (n % 10) ∷ rest) next)

-- the text of a number
decimal_one_line : (n : ℕ) → HasNoEnd (decimal n)
unfolding digits
decimal_one_line n = digits_more 64 n [] none

number_one_line : (n : Num) → HasNoEnd (number_text n)
number_one_line (unsigned n) = decimal_one_line n
number_one_line (negative (pos n)) = decimal_one_line n
number_one_line (negative (negsuc n)) = more 45 (decimal (suc n)) (omega arith) (decimal_one_line (suc n))
number_one_line (float x) = none

-- the comma
comma : (later : Bool) → HasNoEnd (comma_if later)
comma later = chosen later (44 ∷ []) [] (more 44 [] (omega arith) none) none

mutual
  -- the text of a value is one line
  pub text_one_line : (d : Data) → HasNoEnd (compact_text d)
  text_one_line null = All-from_recursion (λ b. b ≢ 10) (compact_text null) (omega arith, (omega arith, (omega arith, (omega arith, tt))))
  text_one_line (boolean true) = All-from_recursion (λ b. b ≢ 10) (compact_text (boolean true)) (omega arith, (omega arith, (omega arith, (omega arith, tt))))
  text_one_line (boolean false) = All-from_recursion (λ b. b ≢ 10) (compact_text (boolean false)) (omega arith, (omega arith, (omega arith, (omega arith, (omega arith, tt)))))
  text_one_line (number n) = number_one_line n
  text_one_line (string s) = quoted_one_line s
  text_one_line (array ds) = more 91 (items_text false ds) (omega arith) (items_one_line false ds)
  text_one_line (object ms) = more 123 (members_text false ms) (omega arith) (members_one_line false ms)

  items_one_line : (later : Bool) (ds : Items) → HasNoEnd (items_text later ds)
  items_one_line later no_items = more 93 [] (omega arith) none
  items_one_line later (item d ds) =
      joined (comma_if later) (compact_text d ++ items_text true ds) (comma later) (joined (compact_text d) (items_text true ds) (text_one_line d) (items_one_line true ds))

  members_one_line : (later : Bool) (ms : Members) → HasNoEnd (members_text later ms)
  members_one_line later no_members = more 125 [] (omega arith) none
  members_one_line later (member k d ms) =
      joined (comma_if later) (quoted k ++ 58 ∷ (compact_text d ++ members_text true ms)) (comma later)
      (joined (quoted k) (58 ∷ (compact_text d ++ members_text true ms)) (quoted_one_line k)
      (more 58 (compact_text d ++ members_text true ms) (omega arith) (joined (compact_text d) (members_text true ms) (text_one_line d) (members_one_line true ms))))
