-- Texts that are appended, whole or in part.
use Rattle.std.proofs.Common.{◌≡◌, ◌∙◌, ◌<◌, ℕ, zero, suc, OnErr, OnOk, Result, Ok, Err, List, [], ◌∷◌, ◌++◌, length, take, drop, get_or, refl, sym, ap, subst, arith, append_assoc, append-nil}
use Rattle.std.specs.List.{flat_map}
use Rattle.std.specs.Fmt.{decimal}
use Rattle.snb_history.specs.declared.logged.Header.{Header}
use Rattle.snb_history.specs.declared.logged.Logged.{Logged}
use Rattle.snb_history.specs.RunTexts.{header_line, logged_line}
use Rattle.snb_runlog.specs.declared.columns.EventKind.{EventKind}
use Rattle.snb_runlog.specs.Columns.{event_columns, event_numbers, event_kind_of, letter_of, log_name}
use Rattle.snb_runlog.specs.Writing.{AppendsSome, line_with}
use Rattle.snb_runlog.proofs.OwnFacts.{header_with, logged_with}

-- nothing is appended
pub appends_none : (old new text : List ℕ) → new ≡ old → AppendsSome old new text
appends_none old new text e = record { written = []; left = text; part = refl; appended = e ∙ sym (append-nil old) }

-- a first part of what follows what is appended already
pub appends_after : (old mid new before text : List ℕ) → mid ≡ old ++ before → AppendsSome mid new text → AppendsSome old new (before ++ text)
appends_after old mid new before text e h = record {
  written = before ++ h.written;
  left = h.left;
  part = ap (λ (t : List ℕ). before ++ t) h.part ∙ sym (append_assoc before h.written h.left);
  appended = h.appended ∙ ap (λ (t : List ℕ). t ++ h.written) e ∙ append_assoc old before h.written;
}

-- a first part of a text is one of a longer text
pub appends_more : (old new text more : List ℕ) → AppendsSome old new text → AppendsSome old new (text ++ more)
appends_more old new text more h = record {
  written = h.written;
  left = h.left ++ more;
  part = ap (λ (t : List ℕ). t ++ more) h.part ∙ append_assoc h.written h.left more;
  appended = h.appended;
}

-- what is appended after what was
pub appended_both : (old mid new one other : List ℕ) → mid ≡ old ++ one → new ≡ mid ++ other → new ≡ old ++ (one ++ other)
appended_both old mid new one other e f = f ∙ ap (λ (t : List ℕ). t ++ other) e ∙ append_assoc old one other

-- a fact is one of an error too
pub on_err : {A E : Type 0} (r : Result A E) (P : Type 0) → P → OnErr r P
on_err (Ok a) P p = tt
on_err (Err e) P p = p

-- and so is what follows of one
pub on_err_weaker : {A E : Type 0} (r : Result A E) (P Q : Type 0) → (P → Q) → OnErr r P → OnErr r Q
on_err_weaker (Ok a) P Q then p = tt
on_err_weaker (Err e) P Q then p = then p

-- and what follows where all went well
pub on_ok_weaker : {A E : Type 0} (r : Result A E) (P Q : Type 0) → (P → Q) → OnOk r P → OnOk r Q
on_ok_weaker (Ok a) P Q then p = then p
on_ok_weaker (Err e) P Q then p = tt

module _ {A : Type 0} (f : A → List ℕ) where
  -- texts of the first so many items, and of the others
  flat_cut : (xs : List A) (i : ℕ) → flat_map f xs ≡ flat_map f (take i xs) ++ flat_map f (drop i xs)
  flat_cut [] zero = refl
  flat_cut [] (suc i) = refl
  flat_cut (x ∷ xs) zero = refl
  flat_cut (x ∷ xs) (suc i) = ap (λ (t : List ℕ). f x ++ t) (flat_cut xs i) ∙ sym (append_assoc (f x) (flat_map f (take i xs)) (flat_map f (drop i xs)))

  -- and of the next one
  flat_at : (xs : List A) (i : ℕ) (d : A) → i < length xs → flat_map f xs ≡ flat_map f (take i xs) ++ (f (get_or xs i d) ++ flat_map f (drop (suc i) xs))
  flat_at [] i d l = absurd (omega (arith, l))
  flat_at (x ∷ xs) zero d l = refl
  flat_at (x ∷ xs) (suc i) d l =
      let rest = f (get_or xs i d) ++ flat_map f (drop (suc i) xs) in
      ap (λ (t : List ℕ). f x ++ t) (flat_at xs i d (omega (arith, l))) ∙ sym (append_assoc (f x) (flat_map f (take i xs)) rest)

  -- those of the first so many items are a first part
  pub some_before : (xs : List A) (i : ℕ) (old new : List ℕ) → new ≡ old ++ flat_map f (take i xs) → AppendsSome old new (flat_map f xs)
  some_before xs i old new e = record { written = flat_map f (take i xs); left = flat_map f (drop i xs); part = flat_cut xs i; appended = e }

  -- and so is a first part of the next after them
  pub some_within : (xs : List A) (i : ℕ) (d : A) (old mid new : List ℕ) → i < length xs → mid ≡ old ++ flat_map f (take i xs) → AppendsSome mid new (f (get_or xs i d)) → AppendsSome old new (flat_map f xs)
  some_within xs i d old mid new l e h =
      subst (AppendsSome old new) (sym (flat_at xs i d l))
      (appends_after old mid new (flat_map f (take i xs)) (f (get_or xs i d) ++ flat_map f (drop (suc i) xs)) e (appends_more mid new (f (get_or xs i d)) (flat_map f (drop (suc i) xs)) h))

-- a bar without its number
pub bar_alone : (mid barred new : List ℕ) (n : ℕ) → barred ≡ mid ++ 124 ∷ [] → new ≡ barred → AppendsSome mid new (124 ∷ decimal n)
bar_alone mid barred new n e f = record { written = 124 ∷ []; left = decimal n; part = refl; appended = f ∙ e }

-- the line of what a log tells, by the columns of its kind
pub logged_text : (l : Logged) (kind : EventKind) (first : List ℕ) (cs : List (ℕ × ℕ)) (ns : List ℕ) → kind ≡ event_kind_of l.event → first ≡ letter_of kind → cs ≡ event_columns 1 kind → take (length (event_columns 1 (event_kind_of l.event))) ns ≡ event_numbers l.event
    → line_with first (take (length cs) ns) l.rows ≡ logged_line l
logged_text l kind first cs ns is letter columned numbers =
    let long : take (length cs) ns ≡ event_numbers l.event = ap (λ (ds : List (ℕ × ℕ)). take (length ds) ns) (columned ∙ ap (event_columns 1) is) ∙ numbers in
    let begins : first ≡ letter_of (event_kind_of l.event) = letter ∙ ap letter_of is in
    (λ i. line_with (begins i) (long i) l.rows) ∙ sym (logged_with l)

-- the line of a header, by what it begins with and its numbers
pub header_text : (head : Header) (first : List ℕ) (version workers : ℕ) → first ≡ log_name → version ≡ head.version → workers ≡ head.workers → line_with first (version ∷ workers ∷ []) head.operations ≡ header_line head
header_text head first version workers begins v w = (λ i. line_with (begins i) (v i ∷ w i ∷ []) head.operations) ∙ sym (header_with head)
