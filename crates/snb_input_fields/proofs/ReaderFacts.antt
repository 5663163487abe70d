-- Fields read one after another.
use Rattle.std.proofs.Common.{◌≡◌, ◌<◌, ◌≤◌, ℕ, zero, suc, List, [], ◌∷◌, ◌++◌, Option, Some, None, length, take, subst, sym, arith, add-one}
use Rattle.std.specs.Option.{MatchOption}
use Rattle.snb_input_lines.specs.Records.{field_at}
use Rattle.snb_schema.specs.declared.column.Column.{Column}
use Rattle.snb_schema.specs.declared.column.Value.{Value}
use Rattle.snb_schema.specs.Columns.{Spells, SpellsAll, StopsAfter}
use Rattle.snb_input_fields.specs.Reading.{IsNext, IsSound, Reading, SpellsNext, column_at, past, text_at}

-- a column's place is below their count
pub below : (cs : List Column) (i : ℕ) (c : Column) → column_at cs i ≡ Some c → i < length cs
below [] i c e = absurd cc
below (d ∷ cs) zero c e = omega arith
below (d ∷ cs) (suc i) c e = (let l = below cs i c e in omega (arith, l))

-- the field that is found at a place
pub found_text : (fs : List (List ℕ)) (i : ℕ) (x : List ℕ) → field_at fs i ≡ Some x → x ≡ text_at fs i
unfolding field_at
found_text [] i x e = absurd cc
found_text (f ∷ fs) zero x e = cc
found_text (f ∷ fs) (suc i) x e = found_text fs i x e

-- one field more spells a value
spells_more : (cs : List Column) (fs : List (List ℕ)) (i : ℕ) (c : Column) (v : Value) (vs : List Value) → column_at cs i ≡ Some c → length cs ≤ length fs → Spells c (text_at fs i) v → SpellsAll (take i cs) (take i fs) vs
    → SpellsAll (take (suc i) cs) (take (suc i) fs) (vs ++ v ∷ [])
spells_more [] fs i c v vs e l s d = absurd cc
spells_more (b ∷ cs) [] i c v vs e l s d = absurd (omega (arith, l))
spells_more (b ∷ cs) (x ∷ fs) zero c v [] e l s d = (let same : b ≡ c = cc in (subst (λ (k : Column). Spells k x v) (sym same) s, tt))
spells_more (b ∷ cs) (x ∷ fs) zero c v (w ∷ vs) e l s d = absurd d
spells_more (b ∷ cs) (x ∷ fs) (suc i) c v [] e l s d = absurd d
spells_more (b ∷ cs) (x ∷ fs) (suc i) c v (w ∷ vs) e l s d = (d.0, spells_more cs fs i c v vs e (omega (arith, l)) s d.1)

-- the next field spells none
stops_next : (cs : List Column) (fs : List (List ℕ)) (i : ℕ) (c : Column) (vs : List Value) → column_at cs i ≡ Some c → length cs ≤ length fs → ((v : Value) → ¬ Spells c (text_at fs i) v) → SpellsAll (take i cs) (take i fs) vs → StopsAfter cs fs i
stops_next [] fs i c vs e l s d = absurd cc
stops_next (b ∷ cs) [] i c vs e l s d = absurd (omega (arith, l))
stops_next (b ∷ cs) (x ∷ fs) zero c vs e l s d = λ v k. (let same : b ≡ c = cc in s v (subst (λ (k : Column). Spells k x v) same k))
stops_next (b ∷ cs) (x ∷ fs) (suc i) c [] e l s d = absurd d
stops_next (b ∷ cs) (x ∷ fs) (suc i) c (w ∷ vs) e l s d = ((w, d.0), stops_next cs fs i c vs e (omega (arith, l)) s d.1)

-- a sound reader whose next field spells a value is sound past it
pub sound_past : (r : Reading) → IsSound r → ((c : Column) × IsNext r c × (v : Value) × SpellsNext r c v) → IsSound (past r)
sound_past r is next = record {
  texts = is.texts;
  enough = is.enough;
  few = is.few;
  within = (let l = below r.columns r.read next.0 next.1 in omega (arith, l));
  done = (is.done.0 ++ next.2 ∷ [], rw add-one (spells_more r.columns r.fields r.read next.0 next.2 is.done.0 next.1 is.enough next.3 is.done.1));
}

-- a reader's next field is below the count of its columns
pub next_below : (r : Reading) → ((c : Column) × IsNext r c) → r.read < length r.columns
next_below r next = below r.columns r.read next.0 next.1

-- a sound reader whose next field spells no value stops there
pub sound_stop : (r : Reading) → IsSound r → ((c : Column) × IsNext r c × ((v : Value) → ¬ SpellsNext r c v)) → StopsAfter r.columns r.fields r.read
sound_stop r is next = stops_next r.columns r.fields r.read next.0 is.done.0 next.1 is.enough next.2 is.done.1

-- fields that spell values stop nowhere among these
none_before : (cs : List Column) (fs : List (List ℕ)) (vs : List Value) (k n : ℕ) → k ≤ length cs → SpellsAll (take k cs) (take k fs) vs → StopsAfter cs fs n → k ≤ n
none_before cs fs vs zero n l s stop = omega arith
none_before [] fs vs (suc k) n l s stop = absurd stop
none_before (c ∷ cs) [] vs (suc k) n l s stop = absurd stop
none_before (c ∷ cs) (x ∷ fs) [] (suc k) n l s stop = absurd s
none_before (c ∷ cs) (x ∷ fs) (v ∷ vs) (suc k) zero l s stop = absurd (stop v s.0)
none_before (c ∷ cs) (x ∷ fs) (v ∷ vs) (suc k) (suc n) l s stop = (let more = none_before cs fs vs k n (omega (arith, l)) s.1 stop.1 in omega (arith, more))

-- a sound reader's fields stop nowhere among those that are read
pub sound_first : (r : Reading) → IsSound r → (n : ℕ) → StopsAfter r.columns r.fields n → r.read ≤ n
sound_first r is n stop = none_before r.columns r.fields is.done.0 r.read n is.within is.done.1 stop

-- what was found, and that nothing was
pub found_one : {A : Type 0} (N : Type 0) (S : A → Type 0) (o : Option A) (x : A) → MatchOption o N S → o ≡ Some x → S x
found_one N S (Some y) x m is = (let same : y ≡ x = cc in subst S same m)
found_one N S None x m is = absurd cc

pub found_none : {A : Type 0} (N : Type 0) (S : A → Type 0) (o : Option A) → MatchOption o N S → o ≡ None → N
found_none N S (Some y) m is = absurd cc
found_none N S None m is = m
