-- The line that is written of what a log tells, or of a header, says that.
use Rattle.std.proofs.Common.{◌≡◌, ◌≢◌, ◌==◌, ◌&&◌, ◌∙◌, ◌<◌, ◌≤◌, ◌^◌, ℕ, List, [], ◌∷◌, ◌++◌, All, Option, None, Some, false, map, codes, refl, sym, ap, subst, arith, append_assoc, append-nil, drop}
use Rattle.std.proofs.lemmas.Bool.{ne_eqb, eq-eqb}
use Rattle.std.proofs.lemmas.List.Elements.{All-append, All-cons, All-from_recursion, All-nil, All-weaker}
use Rattle.std.proofs.lemmas.List.Splits.{slice_split_at, slice_split_none}
use Rattle.std.proofs.lemmas.Str.{IsUtf8-from_ascii}
use Rattle.std.proofs.lemmas.Str.Ascii.{IsAscii-from_all}
use Rattle.std.specs.Fmt.{decimal}
use Rattle.std.specs.List.{AllByRecursion}
use Rattle.snb_base.specs.Calendar.{IsDigit}
use Rattle.snb_base.specs.Spellings.{Num}
use Rattle.snb_history.specs.declared.event.Event.{Event}
use Rattle.snb_history.specs.declared.event.Event.TheVariants.{Start, Finish, Halt}
use Rattle.snb_history.specs.declared.logged.Header.{Header}
use Rattle.snb_history.specs.declared.logged.Logged.{Logged}
use Rattle.snb_schema.specs.Lines.{HasNoBar, HasNoEnd, begins_with_mark, fields}
use Rattle.snb_history.specs.RunTexts.{count_text, event_text, header_line, logged_line}
use Rattle.snb_schema.specs.UpdateLines.{field}
use Rattle.snb_input_lines.specs.Language.{IsText}
use Rattle.snb_runlog.specs.declared.columns.EventKind.{EventKind}
use Rattle.snb_runlog.specs.declared.columns.EventKind.TheVariants as kinds
use Rattle.snb_runlog.specs.Columns.{AreWithin, event_columns, count_columns, count_numbers, event_numbers, header_columns, header_numbers, event_kind_of, letter_of, log_name, numbers_of, version_column}
use Rattle.snb_runlog.specs.Laws.{OwnHeader, OwnLine, header_text, line_of}
use Rattle.snb_runlog.specs.Lines.{AreNumbers, IsHeader, IsLogged}
use Rattle.snb_runlog.specs.Writing.{cells_text, line_with}
use Rattle.snb_runlog.proofs.EventFacts.{by_counts, one_event}
use Rattle.snb_runlog.proofs.HeaderFacts.{one_header}

-- digits spell their number, where 19 suffice
abbrev pub OwnNumbers : Type 0
OwnNumbers = (n most : ℕ) → n ≤ most → n < 10 ^ 19 → Num (decimal n) n most

-- a number has 19 digits at most
abbrev IsShort : ℕ → Type 0
IsShort n = n < 10 ^ 19

-- the greatest of a column is one
abbrev HasShort : ℕ × ℕ → Type 0
HasShort c = IsShort c.1

-- columns of counts have short numbers
short_counts : (version : ℕ) → AllByRecursion HasShort (count_columns version)
short_counts version = by_counts (AllByRecursion HasShort) (omega arith, tt) tt version

-- and so have all columns
short_columns : (version : ℕ) (kind : EventKind) → AllByRecursion HasShort (event_columns version kind)
short_columns version kinds.Start = (omega arith, (omega arith, (omega arith, tt)))
short_columns version kinds.Finish = (omega arith, (omega arith, (omega arith, (omega arith, short_counts version))))
short_columns version kinds.Halt = (omega arith, tt)

-- so numbers that are within them are short
short_numbers : (cs : List (ℕ × ℕ)) (ns : List ℕ) → AllByRecursion HasShort cs → AreWithin cs ns → AllByRecursion IsShort ns
short_numbers [] [] o w = tt
short_numbers (c ∷ cs) (n ∷ ns) o w = (let high = w.1 in let short = o.0 in omega arith, short_numbers cs ns o.1 w.2)
short_numbers cs ns o w = absurd w

-- what holds of each digit holds of each byte of digits
each_digit : OwnNumbers → (P : ℕ → Type 0) → ((b : ℕ) → IsDigit b → P b) → (n : ℕ) → IsShort n → All P (decimal n)
each_digit own P of n short = All-weaker IsDigit P of (decimal n) (All-from_recursion IsDigit (decimal n) (own n n (omega arith) short).digits)

-- digits have no bar
no_bar : OwnNumbers → (n : ℕ) → IsShort n → HasNoBar (decimal n)
no_bar own n short = each_digit own (λ b. b ≢ 124) (λ b d. omega arith) n short

-- no byte is a bar
uncut : (part : List ℕ) → HasNoBar part → All (λ b. (b == 124) ≡ false) part
uncut part h k d lt = ne_eqb _ 124 (h k d lt)

-- a text and numbers with bars before them are cut into these
cells_split : OwnNumbers → (x : List ℕ) (ns : List ℕ) → HasNoBar x → AllByRecursion IsShort ns → fields (x ++ cells_text ns) ≡ x ∷ map decimal ns
cells_split own x [] h s = ap fields (append-nil x) ∙ slice_split_none (λ b. b == 124) x (uncut x h)
cells_split own x (n ∷ ns) h s =
    slice_split_at (λ b. b == 124) x 124 (decimal n ++ cells_text ns) (uncut x h) (eq-eqb 124 124 refl)
    ∙ ap (λ (ts : List (List ℕ)). x ∷ ts) (cells_split own (decimal n) ns (no_bar own n s.0) s.1)

-- the digits of numbers that are within columns spell them
own_numbers : OwnNumbers → (cs : List (ℕ × ℕ)) (ns : List ℕ) → AllByRecursion HasShort cs → AreWithin cs ns → AreNumbers cs (map decimal ns) ns
own_numbers own [] [] o w = tt
own_numbers own (c ∷ cs) (n ∷ ns) o w = ((own n c.1 w.1 (let high = w.1 in let short = o.0 in omega arith), w.0), own_numbers own cs ns o.1 w.2)
own_numbers own cs ns o w = absurd w

-- a byte of ASCII that ends no line
abbrev IsPlain : ℕ → Type 0
IsPlain b = (b < 128) × (b ≢ 10)

-- numbers with bars before them are of such bytes
plain_cells : OwnNumbers → (ns : List ℕ) → AllByRecursion IsShort ns → All IsPlain (cells_text ns)
plain_cells own [] s = All-nil IsPlain
plain_cells own (n ∷ ns) s =
    All-cons IsPlain 124 (decimal n ++ cells_text ns) (omega arith, omega arith)
    (All-append IsPlain (decimal n) (cells_text ns) (each_digit own IsPlain (λ b d. (omega arith, omega arith)) n s.0) (plain_cells own ns s.1))

-- a text that begins with a byte of ASCII begins with no mark
no_mark : (b : ℕ) (bs : List ℕ) → b < 128 → begins_with_mark (b ∷ bs) ≡ false
no_mark b [] l = refl
no_mark b (c ∷ []) l = refl
no_mark b (c ∷ e ∷ bs) l = ap (λ t. t && (c == 187) && (e == 191)) (ne_eqb b 239 (omega arith))

-- such bytes are a text of one line
plain_text : (b : ℕ) (bs : List ℕ) → b < 128 → All IsPlain (b ∷ bs) → IsText (b ∷ bs) × HasNoEnd (b ∷ bs)
plain_text b bs low h = (
  (no_mark b bs low, IsUtf8-from_ascii (b ∷ bs) (IsAscii-from_all (b ∷ bs) (All-weaker IsPlain (λ c. c < 128) (λ c p. p.0) (b ∷ bs) h))),
  All-weaker IsPlain (λ c. c ≢ 10) (λ c p. p.1) (b ∷ bs) h,
)

-- a letter has no bar
letter_no_bar : (kind : EventKind) → HasNoBar (letter_of kind)
letter_no_bar kinds.Start = All-cons (λ b. b ≢ 124) 83 [] (omega arith) (All-nil (λ b. b ≢ 124))
letter_no_bar kinds.Finish = All-cons (λ b. b ≢ 124) 70 [] (omega arith) (All-nil (λ b. b ≢ 124))
letter_no_bar kinds.Halt = All-cons (λ b. b ≢ 124) 72 [] (omega arith) (All-nil (λ b. b ≢ 124))

-- a letter and what follows it
letter_text : (kind : EventKind) (rest : List ℕ) → All IsPlain rest → IsText (letter_of kind ++ rest) × HasNoEnd (letter_of kind ++ rest)
letter_text kinds.Start rest h = plain_text 83 rest (omega arith) (All-cons IsPlain 83 rest (omega arith, omega arith) h)
letter_text kinds.Finish rest h = plain_text 70 rest (omega arith) (All-cons IsPlain 70 rest (omega arith, omega arith) h)
letter_text kinds.Halt rest h = plain_text 72 rest (omega arith) (All-cons IsPlain 72 rest (omega arith, omega arith) h)

-- numbers and then more numbers, with bars before them
cells_append : (ms ns : List ℕ) → cells_text (ms ++ ns) ≡ cells_text ms ++ cells_text ns
cells_append [] ns = refl
cells_append (m ∷ ms) ns = ap (λ (t : List ℕ). (124 ∷ decimal m) ++ t) (cells_append ms ns) ∙ sym (append_assoc (124 ∷ decimal m) (cells_text ms) (cells_text ns))

-- a count is the text of its number
count_cells : (o : Option ℕ) → count_text o ≡ cells_text (count_numbers o)
count_cells None = refl
count_cells (Some n) = sym (append-nil (124 ∷ decimal n))

-- a line is what it begins with, its numbers and its count's, and a line end
pub line_is : (first ns : List ℕ) (o : Option ℕ) → line_with first ns o ≡ (first ++ cells_text (ns ++ count_numbers o)) ++ codes "\n"
line_is first ns o =
    ap (λ (t : List ℕ). first ++ cells_text ns ++ t ++ codes "\n") (count_cells o)
    ∙ ap (λ (t : List ℕ). t ++ codes "\n") (append_assoc first (cells_text ns) (cells_text (count_numbers o)) ∙ ap (λ (t : List ℕ). first ++ t) (sym (cells_append ns (count_numbers o))))

-- what the line of an event begins with is its letter and its numbers
event_cells : (e : Event) → event_text e ≡ letter_of (event_kind_of e) ++ cells_text (event_numbers e)
event_cells (Start op worker at) = simp (append_assoc, append-nil)
event_cells (Finish op worker at front) = simp (append_assoc, append-nil)
event_cells (Halt worker) = simp append-nil

-- the line of what a log tells, as it is written
pub logged_with : (l : Logged) → logged_line l ≡ line_with (letter_of (event_kind_of l.event)) (event_numbers l.event) l.rows
logged_with l = ap (λ (t : List ℕ). t ++ count_text l.rows ++ codes "\n") (event_cells l.event)

pub line_written : (l : Logged) → logged_line l ≡ line_of l ++ codes "\n"
line_written l = logged_with l ∙ line_is (letter_of (event_kind_of l.event)) (event_numbers l.event) l.rows

-- and the line of a header
pub header_with : (head : Header) → header_line head ≡ line_with log_name (head.version ∷ head.workers ∷ []) head.operations
header_with head = ap (λ (t : List ℕ). t ++ count_text head.operations ++ codes "\n") (cells head.version head.workers)
  where
    cells : (v w : ℕ) → codes "snblog|" ++ decimal v ++ codes "|" ++ decimal w ≡ log_name ++ cells_text (v ∷ w ∷ [])
    cells v w = simp (append_assoc, append-nil)

pub header_written : (head : Header) → header_line head ≡ header_text head ++ codes "\n"
header_written head = header_with head ∙ line_is log_name (head.version ∷ head.workers ∷ []) head.operations

-- fields that are a letter and numbers spell an event
spelled : (version : ℕ) (line : List ℕ) (l : Logged) → fields line ≡ letter_of (event_kind_of l.event) ∷ map decimal (numbers_of l) → AreNumbers (event_columns version (event_kind_of l.event)) (map decimal (numbers_of l)) (numbers_of l) → IsLogged version line l
spelled version line l is s = record {
  letter = ap (field 0) is;
  numbers = subst (λ (xs : List (List ℕ)). AreNumbers (event_columns version (event_kind_of l.event)) (drop 1 xs) (numbers_of l)) (sym is) s;
}

pub own_line : OwnNumbers → OwnLine
own_line own version l w =
    let columned = short_columns version (event_kind_of l.event) in
    let short = short_numbers (event_columns version (event_kind_of l.event)) (numbers_of l) columned w in
    let text = letter_text (event_kind_of l.event) (cells_text (numbers_of l)) (plain_cells own (numbers_of l) short) in
    let split = cells_split own (letter_of (event_kind_of l.event)) (numbers_of l) (letter_no_bar (event_kind_of l.event)) short in
    let again = spelled version (line_of l) l split (own_numbers own (event_columns version (event_kind_of l.event)) (numbers_of l) columned w) in
    record {
      written = line_written l;
      text = text.0;
      one_line = text.1;
      again = again;
      no_other = λ d s. one_event version (fields (line_of l)) d l s again;
    }

-- the name has no bar
name_no_bar : HasNoBar log_name
name_no_bar = All-from_recursion (λ b. b ≢ 124) log_name (omega arith, (omega arith, (omega arith, (omega arith, (omega arith, (omega arith, tt))))))

-- the name and what follows it
name_text : (rest : List ℕ) → All IsPlain rest → IsText (log_name ++ rest) × HasNoEnd (log_name ++ rest)
name_text rest h = plain_text 115 (codes "nblog" ++ rest) (omega arith) (All-append IsPlain log_name rest name h)
  where
    name : All IsPlain log_name
    name = All-from_recursion IsPlain log_name ((omega arith, omega arith), ((omega arith, omega arith), ((omega arith, omega arith), ((omega arith, omega arith), ((omega arith, omega arith), ((omega arith, omega arith), tt))))))

pub own_header : OwnNumbers → OwnHeader
own_header own head w =
    let cs = version_column ∷ header_columns head.version in
    let columned : AllByRecursion HasShort (version_column ∷ header_columns head.version) = (omega arith, (omega arith, short_counts head.version)) in
    let short = short_numbers cs (header_numbers head) columned w in
    let text = name_text (cells_text (header_numbers head)) (plain_cells own (header_numbers head) short) in
    let split = cells_split own log_name (header_numbers head) name_no_bar short in
    let again = spelled_header (header_text head) split (own_numbers own cs (header_numbers head) columned w) in
    record {
      written = header_written head;
      text = text.0;
      one_line = text.1;
      again = again;
      no_other = λ other s. one_header (fields (header_text head)) other head s again;
    }
  where
    spelled_header : (line : List ℕ) → fields line ≡ log_name ∷ map decimal (header_numbers head) → AreNumbers (version_column ∷ header_columns head.version) (map decimal (header_numbers head)) (header_numbers head) → IsHeader (fields line) head
    spelled_header line is s = record {
      name = ap (field 0) is;
      numbers = subst (λ (xs : List (List ℕ)). AreNumbers (version_column ∷ header_columns head.version) (drop 1 xs) (header_numbers head)) (sym is) s;
    }
