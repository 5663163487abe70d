-- Fields that are read one after another are those of a line.
use Rattle.std.proofs.Common.{◌≡◌, ◌∙◌, ◌+◌, ◌≤◌, ◌<◌, ℕ, zero, suc, List, [], ◌∷◌, ◌++◌, Some, length, take, drop, refl, sym, ap, subst, inl, inr, arith, add-one}
use Rattle.snb_schema.specs.declared.column.Column.{Column}
use Rattle.snb_schema.specs.declared.column.Value.{Value}
use Rattle.snb_schema.specs.declared.fault.LineFault.{LineFault}
use Rattle.snb_schema.specs.declared.fault.LineFault.TheVariants as line_fault
use Rattle.snb_schema.specs.Columns.{Spells, SpellsAll}
use Rattle.snb_schema.specs.Faults.{OnBadColumn}
use Rattle.std.specs.Prelude.{Err, Ok, Result}
use Rattle.snb_input_fields.specs.Fields.{Expects, FieldsMeaning, ReadsAll, StopsIn}
use Rattle.snb_input_fields.specs.Reading.{IsBadIn, IsNext, Reading, SpellsFrom, SpellsNext, at_first, column_at, line_meaning, past, text_at}

-- so many fields of these are read
abbrev pub at : List Column → List (List ℕ) → ℕ → Reading
at cs fs n = record { columns = cs; fields = fs; read = n }

-- and one more
pub moved : {r s : Reading} {cs : List Column} {fs : List (List ℕ)} {n : ℕ} → s ≡ past r → r ≡ at cs fs n → s ≡ at cs fs (n + 1)
moved e is = e ∙ ap past is

-- what the next field spells, the field at that place does
pub spelled : {r : Reading} {cs : List Column} {fs : List (List ℕ)} (n : ℕ) (column : Column) (v : Value) → r ≡ at cs fs n → SpellsNext r column v → Spells column (text_at fs n) v
spelled n column v is s = subst (λ (r : Reading). SpellsNext r column v) is s

-- the column after some is the one that comes next
column_after : (before : List Column) (c : Column) (cs : List Column) → column_at (before ++ c ∷ cs) (length before) ≡ Some c
column_after [] c cs = refl
column_after (b ∷ before) c cs = column_after before c cs

-- one column more stands before
one_more : (before : List Column) (c : Column) (cs : List Column) → before ++ c ∷ cs ≡ (before ++ c ∷ []) ++ cs
one_more [] c cs = refl
one_more (b ∷ before) c cs = ap (λ (ds : List Column). b ∷ ds) (one_more before c cs)

one_longer : (before : List Column) (c : Column) → length (before ++ c ∷ []) ≡ length before + 1
one_longer [] c = refl
one_longer (b ∷ before) c = rw add-one (ap suc (one_longer before c ∙ add-one (length before)))

-- the columns after those that were read are expected
pub expects_after : (before cs : List Column) (fs : List (List ℕ)) (r : Reading) → r ≡ at (before ++ cs) fs (length before) → Expects line_meaning r cs
expects_after before [] fs r is = tt
expects_after before (c ∷ cs) fs r is = (
  subst (λ (s : Reading). IsNext s c) (sym is) (column_after before c cs),
  λ v t reads. expects_after (before ++ c ∷ []) cs fs t (reads.1 ∙ ap past is ∙ (λ i. at (one_more before c cs i) fs (sym (one_longer before c) i))),
)

-- before the first field all columns are expected
pub expects_all : (cs : List Column) (fs : List (List ℕ)) (r : Reading) → r ≡ at_first cs fs → Expects line_meaning r cs
expects_all cs fs r is = expects_after [] cs fs r is

-- fields that are read spell what was read
pub reads_spell : (cs : List Column) (vs : List Value) (r s : Reading) → ReadsAll line_meaning r cs vs s → SpellsFrom r.read cs r.fields vs
reads_spell [] [] r s reads = tt
reads_spell (c ∷ cs) (v ∷ vs) r s reads =
    (reads.1.0, rw (← add-one) (subst (λ (t : Reading). SpellsFrom t.read cs t.fields vs) reads.1.1 (reads_spell cs vs reads.0 s reads.2)))
reads_spell cs vs r s reads = absurd reads

-- where reading stops is a bad column of the line
pub stops_bad : (cs : List Column) (r : Reading) (column : ℕ) → StopsIn line_meaning r cs column → IsBadIn r.columns r.fields column
stops_bad [] r column stops = absurd stops
stops_bad (c ∷ cs) r column (inl here) = (r.read, here.stops, here.at)
stops_bad (c ∷ cs) r column (inr later) = subst (λ (t : Reading). IsBadIn t.columns t.fields column) later.2.1 (stops_bad cs later.1 column later.3)

-- the field at a place comes before the others
drop_one : (fs : List (List ℕ)) (k : ℕ) → k < length fs → drop k fs ≡ text_at fs k ∷ drop (suc k) fs
drop_one [] k l = absurd (omega (arith, l))
drop_one (x ∷ fs) zero l = refl
drop_one (x ∷ fs) (suc k) l = drop_one fs k (omega (arith, l))

-- the first fields from a place on spell what each spells there
pub spells_from : (k : ℕ) (cs : List Column) (fs : List (List ℕ)) (vs : List Value) → k + length cs ≤ length fs → SpellsFrom k cs fs vs → SpellsAll cs (take (length cs) (drop k fs)) vs
spells_from k [] fs [] l s = tt
spells_from k (c ∷ cs) fs (v ∷ vs) l s =
    subst (λ (xs : List (List ℕ)). SpellsAll (c ∷ cs) (take (suc (length cs)) xs) (v ∷ vs)) (sym (drop_one fs k (omega (arith, l))))
    (s.0, spells_from (suc k) cs fs vs (omega (arith, l)) s.1)
spells_from k cs fs vs l s = absurd s

-- ---- columns in two parts

module _ {S : Type 0} (m : FieldsMeaning S) where
  -- those of the first part are expected
  pub expects_first : (cs ds : List Column) (r : S) → Expects m r (cs ++ ds) → Expects m r cs
  expects_first [] ds r e = tt
  expects_first (c ∷ cs) ds r e = (e.0, λ v t reads. expects_first cs ds t (e.1 v t reads))

  -- and once these are read those of the second
  pub expects_second : (cs ds : List Column) (vs : List Value) (r s : S) → Expects m r (cs ++ ds) → ReadsAll m r cs vs s → Expects m s ds
  expects_second [] ds [] r s e reads = subst (λ (t : S). Expects m t ds) (sym reads) e
  expects_second (c ∷ cs) ds (v ∷ vs) r s e reads = expects_second cs ds vs reads.0 s (e.1 v reads.0 reads.1) reads.2
  expects_second cs ds vs r s e reads = absurd reads

  -- both are read
  pub reads_both : (cs ds : List Column) (vs ws : List Value) (r s t : S) → ReadsAll m r cs vs s → ReadsAll m s ds ws t → ReadsAll m r (cs ++ ds) (vs ++ ws) t
  reads_both [] ds [] ws r s t one more = subst (λ (q : S). ReadsAll m q ds ws t) one more
  reads_both (c ∷ cs) ds (v ∷ vs) ws r s t one more = (one.0, one.1, reads_both cs ds vs ws one.0 s t one.2 more)
  reads_both cs ds vs ws r s t one more = absurd one

  -- reading stops in the first part, or in the second
  pub stops_first : (cs ds : List Column) (r : S) (column : ℕ) → StopsIn m r cs column → StopsIn m r (cs ++ ds) column
  stops_first [] ds r column stops = absurd stops
  stops_first (c ∷ cs) ds r column (inl here) = inl here
  stops_first (c ∷ cs) ds r column (inr later) = inr (later.0, later.1, later.2, stops_first cs ds later.1 column later.3)

  pub stops_second : (cs ds : List Column) (vs : List Value) (r s : S) (column : ℕ) → ReadsAll m r cs vs s → StopsIn m s ds column → StopsIn m r (cs ++ ds) column
  stops_second [] ds [] r s column reads stops = subst (λ (q : S). StopsIn m q ds column) reads stops
  stops_second (c ∷ cs) ds (v ∷ vs) r s column reads stops = inr (v, reads.0, reads.1, stops_second cs ds vs reads.0 s column reads.2 stops)
  stops_second cs ds vs r s column reads stops = absurd reads

-- what reading leads to
pub reads_to : (cs : List Column) (vs : List Value) (r s : Reading) → ReadsAll line_meaning r cs vs s → s ≡ at r.columns r.fields (r.read + length cs)
reads_to [] [] r s reads = (let none : r.read ≡ r.read + 0 = omega arith in reads ∙ ap (λ n. at r.columns r.fields n) none)
reads_to (c ∷ cs) (v ∷ vs) r s reads =
    let more = reads_to cs vs reads.0 s reads.2 in
    let count : r.read + 1 + length cs ≡ r.read + suc (length cs) = omega arith in
    more ∙ ap (λ (t : Reading). at t.columns t.fields (t.read + length cs)) reads.1.1 ∙ ap (λ n. at r.columns r.fields n) count
reads_to cs vs r s reads = absurd reads

-- where reading stops is a column of these
pub stops_within : (cs : List Column) (r : Reading) (column : ℕ) → StopsIn line_meaning r cs column → column ≤ r.read + length cs
stops_within [] r column stops = absurd stops
stops_within (c ∷ cs) r column (inl here) = (let at = here.at in omega (arith, at))
stops_within (c ∷ cs) r column (inr later) = (let more = stops_within cs later.1 column later.3 in let next = ap (λ (t : Reading). t.read) later.2.1 in omega (arith, more, next))

-- ---- what is refused

-- what is known of a bad column
pub on_bad : {A : Type 0} (r : Result A LineFault) (P Q : ℕ → Type 0) → ((column : ℕ) → P column → Q column) → OnBadColumn r P → OnBadColumn r Q
on_bad (Ok a) P Q f p = tt
on_bad (Err (line_fault.Bad column)) P Q f p = f column p
on_bad (Err line_fault.Memory) P Q f p = tt
