-- Logs that are the same text are the same.
use Rattle.std.proofs.Common.{◌≡◌, ◌∙◌, ℕ, ◌<◌, ◌^◌, List, [], ◌∷◌, ◌++◌, Some, codes, refl, sym, ap, subst, arith, append_assoc}
use Rattle.std.specs.Fmt.{decimal}
use Rattle.std.specs.Int.{IsInRange}
use Rattle.std.specs.List.{flat_map, All}
use Rattle.std.specs.Str.Parse.{AllDigits}
use Rattle.std.proofs.lemmas.Fmt.{decimal_is_IsNumeral, decimal_injective}
use Rattle.std.proofs.lemmas.List.{append_cancel_left}
use Rattle.std.proofs.lemmas.List.Elements.{All-from_recursion, All-head, All-tail}
use Rattle.std.proofs.lemmas.Str.Parse.{tells_digits}
use Rattle.snb_history.specs.declared.logged.Header.{Header}
use Rattle.snb_history.specs.declared.logged.Logged.{Logged}
use Rattle.snb_history.specs.RunTexts.{header_of, logged_line, text_of_log}
use Rattle.snb_runlog.specs.declared.columns.EventKind.{EventKind}
use Rattle.snb_runlog.specs.Columns.{header_numbers, event_kind_of, letter_of, log_name, numbers_of}
use Rattle.snb_runlog.specs.Laws.{AreWritten, IsWritten, LogIsOfOneHistory, TextIsOfOneLog, line_of}
use Rattle.snb_runlog.specs.Writing.{cells_text}
use Rattle.snb_runlog.proofs.EventFacts.{letter_some, one_kind, same_logged}
use Rattle.snb_runlog.proofs.HeaderFacts.{same_header}
use Rattle.snb_runlog.proofs.OwnFacts.{header_written, line_written}

-- digits end before the first byte that is no digit
digits_end : (ds es : List ℕ) (x y : ℕ) (xs ys : List ℕ) → AllDigits 10 ds → AllDigits 10 es → ¬ IsInRange 48 57 x → ¬ IsInRange 48 57 y → ds ++ x ∷ xs ≡ es ++ y ∷ ys →
    (ds ≡ es) × (x ∷ xs ≡ y ∷ ys)
digits_end [] [] x y xs ys a b p q e = (refl, e)
digits_end [] (k ∷ es) x y xs ys a b p q e = absurd (let same : k ≡ x = cc in p (subst (IsInRange 48 57) same (tells_digits.parts k es b).0))
digits_end (c ∷ ds) [] x y xs ys a b p q e = absurd (let same : c ≡ y = cc in q (subst (IsInRange 48 57) same (tells_digits.parts c ds a).0))
digits_end (c ∷ ds) (k ∷ es) x y xs ys a b p q e =
    let same : c ≡ k = cc in
    let rest = digits_end ds es x y xs ys (tells_digits.parts c ds a).1 (tells_digits.parts k es b).1 p q cc in
    ((λ i. same i ∷ rest.0 i), rest.1)

-- numbers with bars before them, and then a line end and what follows it
abbrev onto : List ℕ → List ℕ → List ℕ
onto [] rest = 10 ∷ rest
onto (n ∷ ns) rest = 124 ∷ (decimal n ++ onto ns rest)

cells_onto : (ns rest : List ℕ) → cells_text ns ++ 10 ∷ rest ≡ onto ns rest
cells_onto [] rest = refl
cells_onto (n ∷ ns) rest = ap (λ (t : List ℕ). 124 ∷ t) (append_assoc (decimal n) (cells_text ns) (10 ∷ rest) ∙ ap (λ (t : List ℕ). decimal n ++ t) (cells_onto ns rest))

-- these begin with a byte that is no digit
record Begins (text : List ℕ) : Type 0 where
  first : ℕ
  more : List ℕ
  is : text ≡ first ∷ more
  no_digit : ¬ IsInRange 48 57 first

onto_begins : (ns rest : List ℕ) → Begins (onto ns rest)
onto_begins [] rest = record { first = 10; more = rest; is = refl; no_digit = λ r. omega (arith, r.0) }
onto_begins (n ∷ ns) rest = record { first = 124; more = decimal n ++ onto ns rest; is = refl; no_digit = λ r. omega (arith, r.1) }

-- numbers before such texts are the same where both together are
number_end : (m n : ℕ) (xs ys : List ℕ) → Begins xs → Begins ys → m < 2 ^ 64 → n < 2 ^ 64 → decimal m ++ xs ≡ decimal n ++ ys → (m ≡ n) × (xs ≡ ys)
number_end m n xs ys p q a b e =
    let both : decimal m ++ p.first ∷ p.more ≡ decimal n ++ q.first ∷ q.more = sym (ap (λ (t : List ℕ). decimal m ++ t) p.is) ∙ (e ∙ ap (λ (t : List ℕ). decimal n ++ t) q.is) in
    let parts = digits_end (decimal m) (decimal n) p.first q.first p.more q.more (decimal_is_IsNumeral m a).0.1 (decimal_is_IsNumeral n b).0.1 p.no_digit q.no_digit both in
    (decimal_injective m n a b parts.0, p.is ∙ parts.1 ∙ sym q.is)

-- texts that begin with different bytes aren't the same
differ : {A : Type 0} (x y : ℕ) (xs ys : List ℕ) → (x ≡ y → ⊥) → x ∷ xs ≡ y ∷ ys → A
differ x y xs ys other e = absurd (let same : x ≡ y = cc in other same)

-- lists of numbers before a line end are the same where the texts are, and then the texts go on alike
numbers_end : (ms ns xs ys : List ℕ) → All (λ n. n < 2 ^ 64) ms → All (λ n. n < 2 ^ 64) ns → onto ms xs ≡ onto ns ys → (ms ≡ ns) × (xs ≡ ys)
numbers_end [] [] xs ys u v e = (refl, cc)
numbers_end [] (n ∷ ns) xs ys u v e = differ 10 124 _ _ (λ z. omega arith) e
numbers_end (m ∷ ms) [] xs ys u v e = differ 124 10 _ _ (λ z. omega arith) e
numbers_end (m ∷ ms) (n ∷ ns) xs ys u v e =
    let after : decimal m ++ onto ms xs ≡ decimal n ++ onto ns ys = cc in
    let first = number_end m n (onto ms xs) (onto ns ys) (onto_begins ms xs) (onto_begins ns ys) (All-head (λ n. n < 2 ^ 64) m ms u) (All-head (λ n. n < 2 ^ 64) n ns v) after in
    let rest = numbers_end ms ns xs ys (All-tail (λ n. n < 2 ^ 64) m ms u) (All-tail (λ n. n < 2 ^ 64) n ns v) first.1 in
    (λ i. first.0 i ∷ rest.0 i, rest.1)

-- letters before texts are the same where both together are
letter_end : (k j : EventKind) (xs ys : List ℕ) → letter_of k ++ xs ≡ letter_of j ++ ys → (k ≡ j) × (xs ≡ ys)
letter_end k j xs ys e =
    let a = letter_some k in
    let b = letter_some j in
    let both : a.0 ∷ xs ≡ b.0 ∷ ys = sym (ap (λ (t : List ℕ). t ++ xs) a.1) ∙ (e ∙ ap (λ (t : List ℕ). t ++ ys) b.1) in
    let byte : a.0 ≡ b.0 = cc in
    let letters : letter_of k ≡ letter_of j = a.1 ∙ ap (λ (c : ℕ). c ∷ []) byte ∙ sym b.1 in
    (one_kind k j letters, cc)

-- a line and what follows it
line_onto : (l : Logged) (rest : List ℕ) → logged_line l ++ rest ≡ letter_of (event_kind_of l.event) ++ onto (numbers_of l) rest
line_onto l rest =
    ap (λ (t : List ℕ). t ++ rest) (line_written l)
    ∙ append_assoc (line_of l) (codes "\n") rest
    ∙ append_assoc (letter_of (event_kind_of l.event)) (cells_text (numbers_of l)) (10 ∷ rest)
    ∙ ap (λ (t : List ℕ). letter_of (event_kind_of l.event) ++ t) (cells_onto (numbers_of l) rest)

-- texts that begin with lines tell the same first where they are the same, and then go on alike
same_line : (d e : Logged) (xs ys : List ℕ) → IsWritten d → IsWritten e → logged_line d ++ xs ≡ logged_line e ++ ys → (d ≡ e) × (xs ≡ ys)
same_line d e xs ys u v q =
    let letter = letter_end (event_kind_of d.event) (event_kind_of e.event) (onto (numbers_of d) xs) (onto (numbers_of e) ys) (sym (line_onto d xs) ∙ (q ∙ line_onto e ys)) in
    let numbers = numbers_end (numbers_of d) (numbers_of e) xs ys u v letter.1 in
    (same_logged d e letter.0 numbers.0, numbers.1)

-- a text that begins with a line isn't empty
no_line : (l : Logged) (rest : List ℕ) → logged_line l ++ rest ≡ [] → ⊥
no_line l rest q =
    let letter = letter_some (event_kind_of l.event) in
    let none : letter.0 ∷ onto (numbers_of l) rest ≡ [] = sym (ap (λ (t : List ℕ). t ++ onto (numbers_of l) rest) letter.1) ∙ (sym (line_onto l rest) ∙ q) in
    cc

-- lines that are the same text tell the same
same_lines : (g h : List Logged) → All IsWritten g → All IsWritten h → flat_map logged_line g ≡ flat_map logged_line h → g ≡ h
same_lines [] [] a b q = refl
same_lines [] (e ∷ h) a b q = absurd (no_line e (flat_map logged_line h) (sym q))
same_lines (d ∷ g) [] a b q = absurd (no_line d (flat_map logged_line g) q)
same_lines (d ∷ g) (e ∷ h) a b q =
    let line = same_line d e (flat_map logged_line g) (flat_map logged_line h) (All-head IsWritten d g a) (All-head IsWritten e h b) q in
    let rest = same_lines g h (All-tail IsWritten d g a) (All-tail IsWritten e h b) line.1 in
    λ i. line.0 i ∷ rest i

-- a log begins with its name and the numbers of its header
log_opens : (head : Header) (h : List Logged) → text_of_log head h ≡ log_name ++ onto (header_numbers head) (flat_map logged_line h)
log_opens head h =
    let rest = flat_map logged_line h in
    ap (λ (t : List ℕ). t ++ rest) (header_written head)
    ∙ append_assoc (log_name ++ cells_text (header_numbers head)) (codes "\n") rest
    ∙ append_assoc log_name (cells_text (header_numbers head)) (10 ∷ rest)
    ∙ ap (λ (t : List ℕ). log_name ++ t) (cells_onto (header_numbers head) rest)

-- a text is one log's alone
pub text_of_one : TextIsOfOneLog
text_of_one a b g h u v m n q =
    let whole = append_cancel_left log_name _ _ (sym (log_opens a g) ∙ (q ∙ log_opens b h)) in
    let head = numbers_end (header_numbers a) (header_numbers b) (flat_map logged_line g) (flat_map logged_line h) u v whole in
    (same_header a b head.0, same_lines g h m n head.1)

-- a log is the text of one history alone
pub log_of_one : LogIsOfOneHistory
log_of_one w v m n g h a b small few short less q =
    let one = text_of_one (header_of w m) (header_of v n) g h (written w m small short) (written v n few less) a b q in
    (ap (λ (x : Header). x.workers) one.0, some_one m n (ap (λ (x : Header). x.operations) one.0), one.1)
  where
    written : (k o : ℕ) → k < 2 ^ 32 → o < 2 ^ 32 → AreWritten (header_numbers (header_of k o))
    written k o p r = All-from_recursion (λ n. n < 2 ^ 64) (header_numbers (header_of k o)) (omega arith, (omega arith, (omega arith, tt)))

    some_one : (k o : ℕ) → Some k ≡ Some o → k ≡ o
    some_one k o e = cc
