-- Fields that spell an event, and others.
use Rattle.std.proofs.Common.{◌≡◌, ◌≢◌, ◌==◌, ◌∙◌, ◌+◌, ◌≤◌, ◌⊎◌, ℕ, Bool, true, false, List, [], ◌∷◌, ◌++◌, Option, Some, None, length, take, drop, codes, refl, sym, ap, subst, inl, inr, arith, if◌then◌else◌}
use Rattle.std.proofs.lemmas.Bool.{cases_eq}
use Rattle.snb_base.specs.FirstOf.{FirstOf, NoneOf}
use Rattle.snb_history.specs.declared.event.Event.{Event}
use Rattle.snb_history.specs.declared.event.Event.TheVariants.{Start, Finish, Halt}
use Rattle.snb_history.specs.declared.logged.Logged.{Logged}
use Rattle.snb_schema.specs.UpdateLines.{field}
use Rattle.snb_runlog.specs.declared.columns.EventKind.{EventKind}
use Rattle.snb_runlog.specs.declared.columns.EventKind.TheVariants as kinds
use Rattle.snb_runlog.specs.declared.columns.TheConstants.{LAST_VERSION, MAX_NUMBER}
use Rattle.snb_runlog.specs.Columns.{AreWithin, event_columns, count_columns, count_numbers, event_numbers, event_kind_of, letter_of, numbers_of}
use Rattle.snb_runlog.specs.Laws.{EventOrColumn, OneEvent}
use Rattle.snb_runlog.specs.Lines.{AreNumbers, HasLetter, IsEvent, IsNoEvent, HasAllColumns, NumbersStopAfter, event_checks}
use Rattle.snb_runlog.proofs.LineFacts.{all_long, no_stop, numbers_long, numbers_or_stop, numbers_within, one_list, one_stop, others_long}
use Rattle.snb_base.proofs.Laws.{Found, is_text}

-- ---- the first of some checks

-- each of the checks gives one column at most
abbrev pub Ones : List {1} (ℕ → Type 0) → Type 0
Ones [] = Unit {0}
Ones (W ∷ Ws) = ((a b : ℕ) → W a → W b → a ≡ b) × Ones Ws

-- so the first of them does
pub first_one : (Ws : List {1} (ℕ → Type 0)) → Ones Ws → (a b : ℕ) → FirstOf Ws a → FirstOf Ws b → a ≡ b
first_one [] ones a b p q = absurd p
first_one (W ∷ Ws) ones a b (inl p) (inl q) = ones.0 a b p q
first_one (W ∷ Ws) ones a b (inl p) (inr q) = absurd (q.0 a p)
first_one (W ∷ Ws) ones a b (inr p) (inl q) = absurd (p.0 b q)
first_one (W ∷ Ws) ones a b (inr p) (inr q) = first_one Ws ones.1 a b p.1 q.1

-- and where none gives a column there is no first
pub first_none : (Ws : List {1} (ℕ → Type 0)) → NoneOf Ws → (a : ℕ) → ¬ FirstOf Ws a
first_none [] none a p = p
first_none (W ∷ Ws) none a (inl p) = none.0 a p
first_none (W ∷ Ws) none a (inr p) = first_none Ws none.1 a p.1

-- ---- counts

-- what holds with a column of counts and without one holds of each version
pub by_counts : (P : List (ℕ × ℕ) → Type 0) → P ((0, MAX_NUMBER) ∷ []) → P [] → (version : ℕ) → P (count_columns version)
by_counts P some none version = go (version == LAST_VERSION)
  where
    go : (b : Bool) → P (if b then (0, MAX_NUMBER) ∷ [] else [])
    go true = some
    go false = none

-- there is one column of counts at most
pub few_counts : (version : ℕ) → length (count_columns version) ≤ 1
few_counts version = by_counts (λ cs. length cs ≤ 1) (omega arith) (omega arith) version

-- numbers of these columns are those of a count
pub count_made : (version : ℕ) (ns : List ℕ) → AreWithin (count_columns version) ns → (o : Option ℕ) × (count_numbers o ≡ ns)
count_made version = by_counts (λ cs. (ns : List ℕ) → AreWithin cs ns → (o : Option ℕ) × (count_numbers o ≡ ns)) some none version
  where
    some : (ns : List ℕ) → AreWithin ((0, MAX_NUMBER) ∷ []) ns → (o : Option ℕ) × (count_numbers o ≡ ns)
    some [] w = absurd w
    some (n ∷ []) w = (Some n, refl)
    some (n ∷ m ∷ ns) w = absurd w.2

    none : (ns : List ℕ) → AreWithin [] ns → (o : Option ℕ) × (count_numbers o ≡ ns)
    none [] w = (None, refl)
    none (n ∷ ns) w = absurd w

-- a count is told by its numbers
pub one_count : (o p : Option ℕ) → count_numbers o ≡ count_numbers p → o ≡ p
one_count None None e = refl
one_count None (Some n) e = absurd cc
one_count (Some m) None e = absurd cc
one_count (Some m) (Some n) e = (let same : m ≡ n = cc in λ i. Some (same i))

-- ---- letters

-- letters that begin with different bytes differ
other_letter : {A : Type 0} (x y : ℕ) → (x ≡ y → ⊥) → x ∷ [] ≡ y ∷ [] → A
other_letter x y other e = absurd (let same : x ≡ y = cc in other same)

-- no kind but its own has a letter
pub one_kind : (k j : EventKind) → letter_of k ≡ letter_of j → k ≡ j
one_kind kinds.Start kinds.Start e = refl
one_kind kinds.Finish kinds.Finish e = refl
one_kind kinds.Halt kinds.Halt e = refl
one_kind kinds.Start kinds.Finish e = other_letter 83 70 (λ z. omega arith) e
one_kind kinds.Start kinds.Halt e = other_letter 83 72 (λ z. omega arith) e
one_kind kinds.Finish kinds.Start e = other_letter 70 83 (λ z. omega arith) e
one_kind kinds.Finish kinds.Halt e = other_letter 70 72 (λ z. omega arith) e
one_kind kinds.Halt kinds.Start e = other_letter 72 83 (λ z. omega arith) e
one_kind kinds.Halt kinds.Finish e = other_letter 72 70 (λ z. omega arith) e

-- a text that is none of the three letters is that of no kind
pub no_kind : (x : List ℕ) → x ≢ codes "S" → x ≢ codes "F" → x ≢ codes "H" → (kind : EventKind) → ¬ (x ≡ letter_of kind)
no_kind x s f h kinds.Start = s
no_kind x s f h kinds.Finish = f
no_kind x s f h kinds.Halt = h

-- a field is the letter of a kind, or of none
letter_found : (fs : List (List ℕ)) → Found (HasLetter fs)
letter_found fs = elim (is_text (field 0 fs) (codes "S")) [
  | inl s ↦ inl (kinds.Start, s)
  | inr s ↦ elim (is_text (field 0 fs) (codes "F")) [
    | inl f ↦ inl (kinds.Finish, f)
    | inr f ↦ elim (is_text (field 0 fs) (codes "H")) [ inl h ↦ inl (kinds.Halt, h) | inr h ↦ inr (no_kind (field 0 fs) s f h) ]
  ]
]

-- a letter is a byte
pub letter_some : (kind : EventKind) → (b : ℕ) × (letter_of kind ≡ b ∷ [])
letter_some kinds.Start = (83, refl)
letter_some kinds.Finish = (70, refl)
letter_some kinds.Halt = (72, refl)

-- ---- events

-- there are five columns at most
pub few_columns : (version : ℕ) (kind : EventKind) → length (event_columns version kind) ≤ 5
few_columns version kinds.Start = omega arith
few_columns version kinds.Finish = (let few = few_counts version in omega arith)
few_columns version kinds.Halt = omega arith

-- fields that spell an event are as many as its letter has
event_wide : (version : ℕ) (fs : List (List ℕ)) (e : Logged) → IsEvent version fs e → HasAllColumns (event_columns version (event_kind_of e.event)) fs
event_wide version fs e s =
    let letter = letter_some (event_kind_of e.event) in
    all_long fs (length (event_columns version (event_kind_of e.event))) letter.0 [] (s.letter ∙ letter.1) (numbers_long (event_columns version (event_kind_of e.event)) (drop 1 fs) (numbers_of e) s.numbers)

-- events of one kind and counts with the same numbers are one
same_told : (d e : Event) (o p : Option ℕ) → event_kind_of d ≡ event_kind_of e → event_numbers d ++ count_numbers o ≡ event_numbers e ++ count_numbers p → (d ≡ e) × (o ≡ p)
same_told (Start a b c) (Start k l m) o p same e =
    let op : a ≡ k = cc in
    let worker : b ≡ l = cc in
    let at : c ≡ m = cc in
    (λ i. Start (op i) (worker i) (at i), one_count o p cc)
same_told (Finish a b c d) (Finish k l m n) o p same e =
    let op : a ≡ k = cc in
    let worker : b ≡ l = cc in
    let at : c ≡ m = cc in
    let front : d ≡ n = cc in
    (λ i. Finish (op i) (worker i) (at i) (front i), one_count o p cc)
same_told (Halt a) (Halt k) o p same e = (let worker : a ≡ k = cc in (λ i. Halt (worker i), one_count o p cc))
same_told d e o p same ns = absurd cc

pub same_logged : (d e : Logged) → event_kind_of d.event ≡ event_kind_of e.event → numbers_of d ≡ numbers_of e → d ≡ e
same_logged d e same ns =
    let parts = same_told d.event e.event d.rows e.rows same ns in
    λ i. record { event = parts.0 i; rows = parts.1 i }

-- the fields of a line spell one event at most
pub one_event : OneEvent
one_event version fs d e s t =
    let kind = one_kind (event_kind_of d.event) (event_kind_of e.event) (sym s.letter ∙ t.letter) in
    let own = subst (λ (k : EventKind). AreNumbers (event_columns version k) (drop 1 fs) (numbers_of d)) kind s.numbers in
    same_logged d e kind (one_list (event_columns version (event_kind_of e.event)) (drop 1 fs) (numbers_of d) (numbers_of e) own t.numbers)

-- numbers of a kind make an event
made : (version : ℕ) (kind : EventKind) (ns : List ℕ) → AreWithin (event_columns version kind) ns → (e : Logged) × (event_kind_of e.event ≡ kind) × (numbers_of e ≡ ns)
made version kinds.Start (a ∷ b ∷ c ∷ []) w = (record { event = Start a b c; rows = None }, refl, refl)
made version kinds.Finish (a ∷ b ∷ c ∷ d ∷ ns) w =
    let count = count_made version ns w.2.2.2.2 in
    (record { event = Finish a b c d; rows = count.0 }, refl, ap (λ (ms : List ℕ). a ∷ b ∷ c ∷ d ∷ ms) count.1)
made version kinds.Halt (a ∷ []) w = (record { event = Halt a; rows = None }, refl, refl)
made version kinds.Start [] w = absurd w
made version kinds.Start (a ∷ []) w = absurd w.2
made version kinds.Start (a ∷ b ∷ []) w = absurd w.2.2
made version kinds.Start (a ∷ b ∷ c ∷ d ∷ ns) w = absurd w.2.2.2
made version kinds.Finish [] w = absurd w
made version kinds.Finish (a ∷ []) w = absurd w.2
made version kinds.Finish (a ∷ b ∷ []) w = absurd w.2.2
made version kinds.Finish (a ∷ b ∷ c ∷ []) w = absurd w.2.2.2
made version kinds.Halt [] w = absurd w
made version kinds.Halt (a ∷ b ∷ ns) w = absurd w.2

-- an event of this kind with these numbers is that of the fields
pub is_event : (version : ℕ) (fs : List (List ℕ)) (kind : EventKind) (ns : List ℕ) (e : Logged) → HasLetter fs kind → AreNumbers (event_columns version kind) (drop 1 fs) ns → event_kind_of e.event ≡ kind → numbers_of e ≡ ns → IsEvent version fs e
is_event version fs kind ns e letter s is same = record {
  letter = letter ∙ ap letter_of (sym is);
  numbers = subst (λ (k : EventKind). AreNumbers (event_columns version k) (drop 1 fs) (numbers_of e)) (sym is) (subst (AreNumbers (event_columns version kind) (drop 1 fs)) (sym same) s);
}

-- what is read by columns is within them
pub read_within : (all cs : List (ℕ × ℕ)) (xs : List (List ℕ)) (numbers : List ℕ) → cs ≡ all → AreNumbers cs xs (take (length cs) numbers) → AreWithin all (take (length all) numbers)
read_within all cs xs numbers e s = subst (λ (ds : List (ℕ × ℕ)). AreWithin ds (take (length ds) numbers)) e (numbers_within cs xs (take (length cs) numbers) s)

-- and the event that has these numbers is that of the fields
pub read_event : (version : ℕ) (fs : List (List ℕ)) (kind : EventKind) (cs : List (ℕ × ℕ)) (numbers : List ℕ) (e : Logged) → HasLetter fs kind → cs ≡ event_columns version kind → AreNumbers cs (drop 1 fs) (take (length cs) numbers)
    → event_kind_of e.event ≡ kind → numbers_of e ≡ take (length (event_columns version kind)) numbers → IsEvent version fs e
read_event version fs kind cs numbers e letter is s same ns =
    is_event version fs kind (take (length (event_columns version kind)) numbers) e letter (subst (λ (ds : List (ℕ × ℕ)). AreNumbers ds (drop 1 fs) (take (length ds) numbers)) is s) same ns

-- as many fields as one kind with the letter has are as many as each has
kind_wide : (version : ℕ) (fs : List (List ℕ)) (k j : EventKind) → HasLetter fs k → HasLetter fs j → HasAllColumns (event_columns version k) fs → HasAllColumns (event_columns version j) fs
kind_wide version fs k j p q wide = subst (λ (l : EventKind). HasAllColumns (event_columns version l) fs) (one_kind k j (sym p ∙ q)) wide

event_found : (version : ℕ) (fs : List (List ℕ)) → ((e : Logged) × IsEvent version fs e) ⊎ ((column : ℕ) × IsNoEvent version fs column)
event_found version fs = elim (letter_found fs) [
  | inr never ↦ inr (1, inl (never, refl))
  | inl k ↦ elim (cases_eq (length fs) (length (event_columns version k.0) + 1)) [
    | inr other ↦ inr (0, inr (λ c q. q.0 k.0 k.1, inl (k.0, k.1, other, refl)))
    | inl wide ↦ elim (numbers_or_stop (event_columns version k.0) (drop 1 fs) (others_long fs (length (event_columns version k.0)) wide)) [
      | inl n ↦
          let e = made version k.0 n.0 (numbers_within (event_columns version k.0) (drop 1 fs) n.0 n.1) in
          inl (e.0, is_event version fs k.0 n.0 e.0 k.1 n.1 e.1 e.2)
      | inr stop ↦ inr (stop.0 + 2, inr (λ c q. q.0 k.0 k.1, inr (λ c q. q.2 (kind_wide version fs k.0 q.0 k.1 q.1 wide), inl (k.0, k.1, stop.0, stop.1, refl))))
    ]
  ]
]

-- fields that spell an event pass each check
pub event_passes : (version : ℕ) (fs : List (List ℕ)) (e : Logged) → IsEvent version fs e → NoneOf (event_checks version fs)
event_passes version fs e s = (
  λ c q. q.0 (event_kind_of e.event) s.letter,
  (
    λ c q. q.2 (kind_wide version fs (event_kind_of e.event) q.0 s.letter q.1 (event_wide version fs e s)),
    (
      λ c q.
          let kind = one_kind (event_kind_of e.event) q.0 (sym s.letter ∙ q.1) in
          no_stop (event_columns version q.0) (drop 1 fs) (numbers_of e) (subst (λ (k : EventKind). AreNumbers (event_columns version k) (drop 1 fs) (numbers_of e)) kind s.numbers) q.2 q.3,
      tt,
    ),
  ),
)

pub event_right : (version : ℕ) (fs : List (List ℕ)) (e : Logged) (column : ℕ) → IsEvent version fs e → ¬ IsNoEvent version fs column
event_right version fs e column s bad = first_none (event_checks version fs) (event_passes version fs e s) column bad

one_bad : (version : ℕ) (fs : List (List ℕ)) (a b : ℕ) → IsNoEvent version fs a → IsNoEvent version fs b → a ≡ b
one_bad version fs =
    first_one (event_checks version fs) (
      λ a b p q. p.1 ∙ sym q.1,
      (
        λ a b p q. p.3 ∙ sym q.3,
        (
          λ a b p q.
              let kind = one_kind q.0 p.0 (sym q.1 ∙ p.1) in
              let stop = subst (λ (k : EventKind). NumbersStopAfter (event_columns version k) (drop 1 fs) q.2) kind q.3 in
              p.4 ∙ ap (λ n. n + 2) (one_stop (event_columns version p.0) (drop 1 fs) p.2 q.2 p.3 stop) ∙ sym q.4,
          tt,
        ),
      ),
    )

pub event_or_column : (version : ℕ) (fs : List (List ℕ)) → EventOrColumn version fs
event_or_column version fs = record { some = event_found version fs; right = event_right version fs; one = one_bad version fs }
