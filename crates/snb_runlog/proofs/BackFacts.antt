-- The log that is written is read as it was.
use Rattle.std.proofs.Common.{◌≡◌, ◌≢◌, ◌∙◌, ◌+◌, ◌≤◌, ◌↔◌, ℕ, Bool, List, [], ◌∷◌, ◌++◌, All, Option, None, Some, IfSome, IsSome, if◌then◌else◌, map, codes, refl, sym, ap, subst, inl, inr, arith, append_assoc}
use Rattle.std.proofs.lemmas.Bool.{cases_eq, ne_eqb}
use Rattle.std.proofs.lemmas.List.Elements.{All-cons, All-head, All-nil, All-tail, All-weaker}
use Rattle.std.specs.List.{flat_map}
use Rattle.snb_history.specs.declared.event.Event.{Event}
use Rattle.snb_history.specs.declared.event.Event.TheVariants.{Start, Finish, Halt}
use Rattle.snb_history.specs.declared.logged.Header.{Header}
use Rattle.snb_history.specs.declared.logged.Logged.{Logged}
use Rattle.snb_history.specs.RunTexts.{first_header, first_log_text, header_of, logged_line, text_of_log, without_count}
use Rattle.snb_schema.specs.Lines.{lines}
use Rattle.snb_input_lines.specs.Language.{IsText}
use Rattle.snb_input_lines.specs.Reading.{LineSays, ReadsLine, Says}
use Rattle.snb_input_lines.proofs.Laws.{ended, one_reading}
use Rattle.snb_runlog.specs.declared.columns.EventKind.TheVariants as kinds
use Rattle.snb_runlog.specs.declared.columns.TheConstants.{LAST_VERSION, MAX_NUMBER}
use Rattle.snb_runlog.specs.Columns.{AreWithin, CanBeHeader, CanBeLogged, HasCount, event_columns, count_columns, count_numbers, event_numbers, header_columns, header_numbers, event_kind_of, numbers_of, version_column}
use Rattle.snb_runlog.specs.Laws.{IsLog, LogReadsBack, header_text, line_of}
use Rattle.snb_runlog.specs.WriteLaws.{FirstIsWrittenAgain, FirstLacksCounts, LastIsWrittenAgain, LogIsWrittenAgain, RunReadsBack, WhereCountsAre}
use Rattle.snb_runlog.specs.Lines.{log_language}
use Rattle.snb_runlog.proofs.EventFacts.{letter_some}
use Rattle.snb_runlog.proofs.HeaderFacts.{exact}
use Rattle.snb_runlog.proofs.LineFacts.{numbers_within}
use Rattle.snb_runlog.proofs.OwnFacts.{OwnNumbers, own_header, own_line}

-- ---- what is written is read

-- a line with a byte is read as what it says
reads_line : (known : Option Header) (number : ℕ) (line : List ℕ) (items : List Logged) (new : Option Header) → line ≢ [] → IsText line → LineSays log_language known number line items new → ReadsLine log_language known number line items new
reads_line known number [] items new some text s = absurd (some refl)
reads_line known number (b ∷ bs) items new some text s = (text, s)

-- a line has a byte
line_some : (l : Logged) → line_of l ≢ []
line_some l q = (let letter = letter_some (event_kind_of l.event) in cc)

-- the lines of what a log tells say that
events_say : OwnNumbers → (head : Header) (n : ℕ) (h : List Logged) → All (CanBeLogged head.version) h → Says log_language (Some head) n (lines (flat_map logged_line h)) h (Some head)
events_say own head n [] w = (refl, refl)
events_say own head n (e ∷ h) w =
    let known = Some head in
    let line = own_line own head.version e (All-head (CanBeLogged head.version) e h w) in
    let rest = flat_map logged_line h in
    let split : lines (logged_line e ++ rest) ≡ line_of e ∷ lines rest =
    ap (λ (t : List ℕ). lines (t ++ rest)) line.written ∙ ap lines (append_assoc (line_of e) (codes "\n") rest) ∙ ended (line_of e) rest line.one_line in
    let first = reads_line known (n + 1) (line_of e) (e ∷ []) known (line_some e) line.text (e, line.again, refl, refl) in
    let later = events_say own head (n + 1) h (All-tail (CanBeLogged head.version) e h w) in
    subst (λ (ls : List (List ℕ)). Says log_language known n ls (e ∷ h) known) (sym split) (e ∷ [], h, known, first, later, refl)

-- the lines of a log say its header and what it tells
log_says : OwnNumbers → (head : Header) (h : List Logged) → CanBeHeader head → All (CanBeLogged head.version) h → IsLog (text_of_log head h) head h
log_says own head h can w =
    let line = own_header own head can in
    let rest = flat_map logged_line h in
    let cut : text_of_log head h ≡ header_text head ++ 10 ∷ rest = ap (λ (t : List ℕ). t ++ rest) line.written ∙ append_assoc (header_text head) (codes "\n") rest in
    let split : lines (text_of_log head h) ≡ header_text head ∷ lines rest = ap lines cut ∙ ended (header_text head) rest line.one_line in
    let first = reads_line None 1 (header_text head) [] (Some head) (λ q. cc) line.text (head, line.again, refl, refl) in
    subst (λ (ls : List (List ℕ)). Says log_language None 0 ls h (Some head)) (sym split) ([], h, Some head, first, events_say own head 1 h w, refl)

pub log_reads_back : OwnNumbers → LogReadsBack
log_reads_back own head h can w =
    let says = log_says own head h can w in
    record {
      says = says;
      no_other = λ items new s. (one_reading log_language exact).one None new (Some head) 0 (lines (text_of_log head h)) items h s says;
    }

-- a header of the last version is one that a log can have
last_can : (workers operations : ℕ) → 1 ≤ workers → workers ≤ 8 → operations ≤ MAX_NUMBER → CanBeHeader (header_of workers operations)
last_can workers operations some few small = (omega arith, omega arith, (some, few, (omega arith, small, tt)))

pub run_reads_back : OwnNumbers → RunReadsBack
run_reads_back own workers operations h some few small w = log_reads_back own (header_of workers operations) h (last_can workers operations some few small) w

-- ---- what is read is written again

-- what a log says, it can have
record Can (head : Header) (h : List Logged) : Type 0 where
  header : CanBeHeader head
  lines : All (CanBeLogged head.version) h

-- the header is the same for each line after it, so that what they tell fits its version
later_can : (ls : List (List ℕ)) (k : Header) (new : Option Header) (n : ℕ) (h : List Logged) → Says log_language (Some k) n ls h new → (new ≡ Some k) × All (CanBeLogged k.version) h
later_can [] k new n h s = (s.1, subst (λ (xs : List Logged). All (CanBeLogged k.version) xs) (sym s.0) (All-nil (CanBeLogged k.version)))
later_can ([] ∷ ls) k new n h s =
    let rest = later_can ls k new (n + 1) s.1 (subst (λ (o : Option Header). Says log_language o (n + 1) ls s.1 new) s.3.1 s.4) in
    (rest.0, subst (λ (xs : List Logged). All (CanBeLogged k.version) xs) (sym (s.5 ∙ ap (λ (xs : List Logged). xs ++ s.1) s.3.0)) rest.1)
later_can ((b ∷ bs) ∷ ls) k new n h s =
    let rest = later_can ls k new (n + 1) s.1 (subst (λ (o : Option Header). Says log_language o (n + 1) ls s.1 new) s.3.1.3 s.4) in
    let one = s.3.1.0 in
    let can : CanBeLogged k.version one = numbers_within (event_columns k.version (event_kind_of one.event)) _ (numbers_of one) s.3.1.1.numbers in
    (rest.0, subst (λ (xs : List Logged). All (CanBeLogged k.version) xs) (sym (s.5 ∙ ap (λ (xs : List Logged). xs ++ s.1) s.3.1.2)) (All-cons (CanBeLogged k.version) one s.1 can rest.1))

can_be : (ls : List (List ℕ)) (head : Header) (n : ℕ) (h : List Logged) → Says log_language None n ls h (Some head) → Can head h
can_be [] head n h s = absurd (let e = s.1 in cc)
can_be ([] ∷ ls) head n h s =
    let rest = can_be ls head (n + 1) s.1 (subst (λ (o : Option Header). Says log_language o (n + 1) ls s.1 (Some head)) s.3.1 s.4) in
    record { header = rest.header; lines = subst (λ (xs : List Logged). All (CanBeLogged head.version) xs) (sym (s.5 ∙ ap (λ (xs : List Logged). xs ++ s.1) s.3.0)) rest.lines }
can_be ((b ∷ bs) ∷ ls) head n h s =
    let k = s.3.1.0 in
    let rest = later_can ls k (Some head) (n + 1) s.1 (subst (λ (o : Option Header). Says log_language o (n + 1) ls s.1 (Some head)) s.3.1.3 s.4) in
    let same : k ≡ head = (let e = rest.0 in cc) in
    let header : CanBeHeader k = numbers_within (version_column ∷ header_columns k.version) _ (header_numbers k) s.3.1.1.numbers in
    record {
      header = subst CanBeHeader same header;
      lines = subst (λ (x : Header). All (CanBeLogged x.version) h) same (subst (λ (xs : List Logged). All (CanBeLogged k.version) xs) (sym (s.5 ∙ ap (λ (xs : List Logged). xs ++ s.1) s.3.1.2)) rest.1);
    }

-- what a reader knows after lines is a header that a log can have, where that was so before
pub knows_header : (ls : List (List ℕ)) (known new : Option Header) (n : ℕ) (h : List Logged) → IfSome known CanBeHeader → Says log_language known n ls h new → IfSome new CanBeHeader
knows_header [] known new n h k s = subst (λ (o : Option Header). IfSome o CanBeHeader) (sym s.1) k
knows_header ([] ∷ ls) known new n h k s = knows_header ls s.2 new (n + 1) s.1 (subst (λ (o : Option Header). IfSome o CanBeHeader) (sym s.3.1) k) s.4
knows_header ((b ∷ bs) ∷ ls) None new n h k s =
    let head = s.3.1.0 in
    let can : CanBeHeader head = numbers_within (version_column ∷ header_columns head.version) _ (header_numbers head) s.3.1.1.numbers in
    knows_header ls s.2 new (n + 1) s.1 (subst (λ (o : Option Header). IfSome o CanBeHeader) (sym s.3.1.3) can) s.4
knows_header ((b ∷ bs) ∷ ls) (Some head) new n h k s = knows_header ls s.2 new (n + 1) s.1 (subst (λ (o : Option Header). IfSome o CanBeHeader) (sym s.3.1.3) k) s.4

pub log_again : OwnNumbers → LogIsWrittenAgain
log_again own text h head s = (let can = can_be (lines text) head 0 h s in log_reads_back own head h can.header can.lines)

-- ---- where counts are

-- a count is there where it has a column, and isn't where it has none
some_count : (o : Option ℕ) → AreWithin ((0, MAX_NUMBER) ∷ []) (count_numbers o) → IsSome o
some_count None w = absurd w
some_count (Some n) w = refl

no_count : (o : Option ℕ) → AreWithin [] (count_numbers o) → o ≡ None
no_count None w = refl
no_count (Some n) w = absurd w

none_some : (o : Option ℕ) → o ≡ None → ¬ IsSome o
none_some None e h = cc
none_some (Some n) e h = cc

-- what is there is a number
number_of : (o : Option ℕ) → IsSome o → (n : ℕ) × (o ≡ Some n)
number_of None h = absurd cc
number_of (Some n) h = (n, refl)

-- so a count that has a column in a version is there exactly in the last
counted_at : (o : Option ℕ) (version : ℕ) → AreWithin (count_columns version) (count_numbers o) → IsSome o ↔ (version ≡ LAST_VERSION)
counted_at o version w = elim (cases_eq version LAST_VERSION) [
  | inl is ↦ (λ h. is, λ e. some_count o (subst (λ (v : ℕ). AreWithin (count_columns v) (count_numbers o)) is w))
  | inr other ↦
      let without : count_columns version ≡ [] = ap (λ (b : Bool). if b then (0, MAX_NUMBER) ∷ [] else []) (ne_eqb version LAST_VERSION other) in
      let none = no_count o (subst (λ (cs : List (ℕ × ℕ)). AreWithin cs (count_numbers o)) without w) in
      (λ h. absurd (none_some o none h), λ e. absurd (other e))
]

-- and a count of rows exactly at a Finish of it
has_count : (version : ℕ) (e : Event) (o : Option ℕ) → AreWithin (event_columns version (event_kind_of e)) (event_numbers e ++ count_numbers o) → IsSome o ↔ ((version ≡ LAST_VERSION) × (event_kind_of e ≡ kinds.Finish))
has_count version (Start a b c) o w = (λ h. absurd (none_some o (no_count o w.2.2.2) h), λ p. absurd (let e = p.1 in cc))
has_count version (Finish a b c d) o w = (let both = counted_at o version w.2.2.2.2 in (λ h. (both.0 h, refl), λ p. both.1 p.0))
has_count version (Halt a) o w = (λ h. absurd (none_some o (no_count o w.2) h), λ p. absurd (let e = p.1 in cc))

each_count : (version : ℕ) (h : List Logged) → All (CanBeLogged version) h → All (HasCount version) h
each_count version h w = All-weaker (CanBeLogged version) (HasCount version) (λ l can. has_count version l.event l.rows can) h w

pub counts_are : WhereCountsAre
counts_are text h head s =
    let can = can_be (lines text) head 0 h s in
    (counted_at head.operations head.version can.header.2.2, each_count head.version h can.lines)

-- ---- the versions

-- a header of the last version has a count
last_header : (head : Header) → CanBeHeader head → head.version ≡ LAST_VERSION → (n : ℕ) × (head ≡ header_of head.workers n)
last_header head can is =
    let count = number_of head.operations ((counted_at head.operations head.version can.2.2).1 is) in
    let operations = count.1 in
    (count.0, λ i. record { version = is i; workers = head.workers; operations = operations i })

pub last_again : OwnNumbers → LastIsWrittenAgain
last_again own text h head s is =
    let header = last_header head (can_be (lines text) head 0 h s).header is in
    (header.0, header.1, subst (λ (x : Header). IsLog (text_of_log x h) head h) header.1 (log_again own text h head s).says)

-- one of version 1 has none
header_of_first : (head : Header) → CanBeHeader head → head.version ≡ 1 → head ≡ first_header head.workers
header_of_first head can is =
    let operations = no_count head.operations (subst (λ (v : ℕ). AreWithin (count_columns v) (count_numbers head.operations)) is can.2.2) in
    λ i. record { version = is i; workers = head.workers; operations = operations i }

-- nor have its lines
lines_of_first : (h : List Logged) → All (HasCount 1) h → h ≡ map without_count (map (λ (l : Logged). l.event) h)
lines_of_first [] w = refl
lines_of_first (l ∷ h) w =
    let rest = lines_of_first h (All-tail (HasCount 1) l h w) in
    let rows = no_rows l.rows (λ some. let e = ((All-head (HasCount 1) l h w).0 some).0 in omega arith) in
    λ i. record { event = l.event; rows = rows i } ∷ rest i
  where
    no_rows : (o : Option ℕ) → (IsSome o → ⊥) → o ≡ None
    no_rows None never = refl
    no_rows (Some n) never = absurd (never refl)

pub first_again : OwnNumbers → FirstIsWrittenAgain
first_again own text h head s is =
    let can = can_be (lines text) head 0 h s in
    let header = header_of_first head can.header is in
    let told = lines_of_first h (each_count 1 h (subst (λ (v : ℕ). All (CanBeLogged v) h) is can.lines)) in
    let whole : text_of_log head h ≡ first_log_text head.workers (map (λ (l : Logged). l.event) h) = (λ i. text_of_log (header i) (told i)) in
    (header, subst (λ (t : List ℕ). IsLog t head h) whole (log_again own text h head s).says)

-- an event of version 1 with a count where one is due is one of the last version
with_count : (e : Event) (o p : Option ℕ) → AreWithin (event_columns 1 (event_kind_of e)) (event_numbers e ++ count_numbers o) → IsSome p ↔ ((LAST_VERSION ≡ LAST_VERSION) × (event_kind_of e ≡ kinds.Finish)) → IfSome p (λ n. n ≤ MAX_NUMBER)
    → AreWithin (event_columns LAST_VERSION (event_kind_of e)) (event_numbers e ++ count_numbers p)
with_count (Start a b c) o None w due small = (w.0, w.1, (w.2.0, w.2.1, (w.2.2.0, w.2.2.1, tt)))
with_count (Start a b c) o (Some n) w due small = absurd (let e = (due.0 refl).1 in cc)
with_count (Finish a b c d) o None w due small = absurd (none_some None refl (due.1 (refl, refl)))
with_count (Finish a b c d) o (Some n) w due small = (w.0, w.1, (w.2.0, w.2.1, (w.2.2.0, w.2.2.1, (w.2.2.2.0, w.2.2.2.1, (omega arith, small, tt)))))
with_count (Halt a) o None w due small = (w.0, w.1, tt)
with_count (Halt a) o (Some n) w due small = absurd (let e = (due.0 refl).1 in cc)

counts_can : (h more : List Logged) → All (CanBeLogged 1) h → map (λ (l : Logged). l.event) more ≡ map (λ (l : Logged). l.event) h → All (HasCount LAST_VERSION) more → All (λ l. IfSome l.rows (λ n. n ≤ MAX_NUMBER)) more → All (CanBeLogged LAST_VERSION) more
counts_can [] [] w e due small = All-nil (CanBeLogged LAST_VERSION)
counts_can [] (m ∷ more) w e due small = absurd cc
counts_can (l ∷ h) [] w e due small = absurd cc
counts_can (l ∷ h) (m ∷ more) w e due small =
    let same : l.event ≡ m.event = cc in
    let rest : map (λ (x : Logged). x.event) more ≡ map (λ (x : Logged). x.event) h = cc in
    let can : AreWithin (event_columns 1 (event_kind_of m.event)) (event_numbers m.event ++ count_numbers l.rows) = subst (λ (x : Event). AreWithin (event_columns 1 (event_kind_of x)) (event_numbers x ++ count_numbers l.rows)) same (All-head (CanBeLogged 1) l h w) in
    All-cons (CanBeLogged LAST_VERSION) m more (with_count m.event l.rows m.rows can (All-head (HasCount LAST_VERSION) m more due) (All-head (λ x. IfSome x.rows (λ n. n ≤ MAX_NUMBER)) m more small))
    (counts_can h more (All-tail (CanBeLogged 1) l h w) rest (All-tail (HasCount LAST_VERSION) m more due) (All-tail (λ x. IfSome x.rows (λ n. n ≤ MAX_NUMBER)) m more small))

pub first_lacks : OwnNumbers → FirstLacksCounts
first_lacks own text h head s is operations more small adds =
    let can = can_be (lines text) head 0 h s in
    let workers = can.header.2 in
    let lines = counts_can h more (subst (λ (v : ℕ). All (CanBeLogged v) h) is can.lines) adds.events adds.counted adds.small in
    log_reads_back own (header_of head.workers operations) more (last_can head.workers operations workers.0 workers.1 small) lines
