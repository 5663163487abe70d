-- Whether a text spells a value of a column is decided.
use Rattle.std.proofs.Common.{◌≡◌, ◌≢◌, ◌++◌, ◌∷◌, ◌∙◌, ◌+◌, ◌*◌, ◌<◌, ◌≤◌, ◌⊎◌, [], ℕ, zero, suc, List, Bool, true, false, refl, sym, ap, subst, inl, inr, arith, nat_eq, All}
use Rattle.std.proofs.lemmas.Bool.{cases_Bool, cases_eq}
use Rattle.std.proofs.lemmas.List.Elements.{All-nil, All-cons}
use Rattle.std.specs.List.{Contains, list_any}
use Rattle.std.specs.Str.{bytes_eq}
use Rattle.snb_base.specs.Calendar.{IsRealDay, IsRealTime, day_number, day_text, month_length, time_number, time_text}
use Rattle.snb_base.specs.Spellings.{EachSpells, HasOneYear, IdList, Listed, Num, PairList, SpellsId, SpellsPair, SpellsWord, WordList, elements, last_id, last_time, once_after, pair_eq}
use Rattle.snb_base.specs.Spellings as spellings
use Rattle.snb_schema.specs.declared.column.Column.{Column}
use Rattle.snb_schema.specs.declared.column.Column.TheVariants.{Number, Small, OptionalId, Date, Day, Words, Word, TextList, IdList as Ids_, PairList as Pairs_}
use Rattle.snb_schema.specs.declared.column.Value.{Value}
use Rattle.snb_schema.specs.declared.column.Value.TheVariants.{Digits, SmallDigits, NoId, Letters, Texts, Ids, Pairs}
use Rattle.snb_schema.specs.Columns.{Spells, no_id}
use Rattle.snb_schema.specs.Lines.{HasNo}
use Rattle.snb_input_fields.specs.Laws.{EachIsSpelled, EachLineIsRead}
use Rattle.snb_columns.proofs.Laws.{differs, no_comma, not_listed, one_year, pair_parts, two_years}
use Rattle.snb_input_fields.proofs.ReadingFacts.{date_of, day_of, ids_of, pairs_of, texts_of}
use Rattle.snb_base.proofs.Laws.{both, Decided, Found, is_at_most, is_text, number_found}

like : {P Q : Type 0} → (P → Q) → (Q → P) → Decided P → Decided Q
like there back (inl p) = inl (there p)
like there back (inr never) = inr (λ q. never (back q))

-- a number below n has it, or none does
below : (P : ℕ → Type 0) → ((k : ℕ) → Decided (P k)) → (n : ℕ) → Decided ((k : ℕ) × (k < n) × P k)
below P each zero = inr (λ found. (let low = found.1 in omega arith))
below P each (suc n) = elim (each n) [
  | inl here ↦ inl (n, omega arith, here)
  | inr never ↦ elim (below P each n) [
    | inl lower ↦ inl (lower.0, (let l = lower.1 in omega arith), lower.2)
    | inr none ↦ inr (λ found. elim (cases_eq found.0 n) [
      | inl same ↦ never (subst P same found.2)
      | inr other ↦ none (found.0, (let l = found.1 in omega arith), found.2)
    ])
  ]
]

-- where each that has it is below a bound, one has it or none does
within : (P : ℕ → Type 0) (bound : ℕ) → ((k : ℕ) → P k → k < bound) → ((k : ℕ) → Decided (P k)) → Decided ((k : ℕ) × P k)
within P bound low each = like (λ found. (found.0, found.2)) (λ found. (found.0, low found.0 found.1, found.1)) (below P each bound)

-- a real day has it, or none does
some_day : (P : ℕ → ℕ → ℕ → Type 0) → ((y m d : ℕ) → P y m d → IsRealDay y m d) → ((y m d : ℕ) → Decided (P y m d)) → Decided ((y : ℕ) × ((m : ℕ) × ((d : ℕ) × P y m d)))
some_day P real each =
    within (λ y. (m : ℕ) × ((d : ℕ) × P y m d)) 10000 (λ y h. (let l = (real y h.0 h.1.0 h.1.1).last_year in omega arith)) (λ y.
    within (λ m. (d : ℕ) × P y m d) 13 (λ m h. (let l = (real y m h.0 h.1).last_month in omega arith)) (λ m.
    within (λ d. P y m d) (suc (month_length y m)) (λ d h. (let l = (real y m d h).last_day in omega arith)) (each y m)))

-- a real time of day has it, or none does
some_time : (P : ℕ → ℕ → ℕ → ℕ → Type 0) → ((h i s k : ℕ) → P h i s k → IsRealTime h i s k) → ((h i s k : ℕ) → Decided (P h i s k)) → Decided ((h : ℕ) × ((i : ℕ) × ((s : ℕ) × ((k : ℕ) × P h i s k))))
some_time P real each =
    within (λ h. (i : ℕ) × ((s : ℕ) × ((k : ℕ) × P h i s k))) 24 (λ h f. (let l = (real h f.0 f.1.0 f.1.1.0 f.1.1.1).last_hour in omega arith)) (λ h.
    within (λ i. (s : ℕ) × ((k : ℕ) × P h i s k)) 60 (λ i f. (let l = (real h i f.0 f.1.0 f.1.1).last_minute in omega arith)) (λ i.
    within (λ s. (k : ℕ) × P h i s k) 60 (λ s f. (let l = (real h i s f.0 f.1).last_second in omega arith)) (λ s.
    within (λ k. P h i s k) 1000 (λ k f. (let l = (real h i s k f).last_milli in omega arith)) (each h i s))))

real_day : (y m d : ℕ) → Decided (IsRealDay y m d)
real_day y m d = like
    (λ h. record { first_year = h.0; last_year = h.1.0; first_month = h.1.1.0; last_month = h.1.1.1.0; first_day = h.1.1.1.1.0; last_day = h.1.1.1.1.1 })
    (λ r. (r.first_year, (r.last_year, (r.first_month, (r.last_month, (r.first_day, r.last_day))))))
    (both (is_at_most 1970 y) (both (is_at_most y 9999) (both (is_at_most 1 m) (both (is_at_most m 12) (both (is_at_most 1 d) (is_at_most d (month_length y m)))))))

real_time : (h i s k : ℕ) → Decided (IsRealTime h i s k)
real_time h i s k = like
    (λ f. record { last_hour = f.0; last_minute = f.1.0; last_second = f.1.1.0; last_milli = f.1.1.1 })
    (λ r. (r.last_hour, (r.last_minute, (r.last_second, r.last_milli))))
    (both (is_at_most h 23) (both (is_at_most i 59) (both (is_at_most s 59) (is_at_most k 999))))

-- x is this day in words
abbrev SaysDay : List ℕ → ℕ → ℕ → ℕ → Type 0
SaysDay x y m d = IsRealDay y m d × ((x ≡ day_text y m d) × (86400000 * day_number y m d ≤ last_time))

-- x is this day and time in words
abbrev SaysMoment : List ℕ → ℕ → ℕ → ℕ → ℕ → ℕ → ℕ → ℕ → Type 0
SaysMoment x y m d h i s k =
    IsRealDay y m d × (IsRealTime h i s k × ((x ≡ day_text y m d ++ time_text h i s k) × (86400000 * day_number y m d + time_number h i s k ≤ last_time)))

-- a text spells a day, or it doesn't
day_found : (x : List ℕ) → Found (spellings.Day x)
day_found x = elim (some_day (SaysDay x) (λ y m d h. h.0) (λ y m d. both (real_day y m d) (both (is_text x (day_text y m d)) (is_at_most (86400000 * day_number y m d) last_time)))) [
  | inl f ↦ inl (86400000 * day_number f.0 f.1.0 f.1.1.0, (f.1.1.1.1.1, inl (f.0, f.1.0, f.1.1.0, f.1.1.1.0, f.1.1.1.1.0, refl)))
  | inr none ↦ elim (number_found x last_time) [
    | inl n ↦ inl (n.0, (n.1.small, inr n.1))
    | inr never ↦ inr (λ n s. elim s.1 [
      | inl w ↦ none (w.0, (w.1, (w.2, (w.3, (w.4, subst (λ k. k ≤ last_time) w.5 s.0)))))
      | inr num ↦ never n num
    ])
  ]
]

-- a text spells a date, or it doesn't
date_found : (x : List ℕ) → Found (spellings.Date x)
date_found x = elim moment [
  | inl f ↦
      let day = f.1.1.1 in
      let said = day.1.1.1.1 in
      inl (
        86400000 * day_number f.0 f.1.0 f.1.1.0 + time_number day.0 day.1.0 day.1.1.0 day.1.1.1.0,
        (
          said.1.1.1,
          inl (
            day_text f.0 f.1.0 f.1.1.0,
            time_text day.0 day.1.0 day.1.1.0 day.1.1.1.0,
            86400000 * day_number f.0 f.1.0 f.1.1.0,
            time_number day.0 day.1.0 day.1.1.0 day.1.1.1.0,
            said.1.1.0,
            (f.0, f.1.0, f.1.1.0, said.0, refl, refl),
            (day.0, day.1.0, day.1.1.0, day.1.1.1.0, said.1.0, refl, refl),
            refl,
          ),
        ),
      )
  | inr none ↦ elim (number_found x last_time) [
    | inl n ↦ inl (n.0, (n.1.small, inr n.1))
    | inr never ↦ inr (λ n s. elim s.1 [
      | inl w ↦
          let a = w.5 in
          let b = w.6 in
          none (a.0, (a.1, (a.2, (b.0, (b.1, (b.2, (b.3, (a.3, (b.4, (w.4 ∙ (λ i. a.4 i ++ b.5 i), subst (λ k. k ≤ last_time) (w.7 ∙ (λ i. a.5 i + b.6 i)) s.0))))))))))
      | inr num ↦ never n num
    ])
  ]
]
  where
    moment : Decided ((y : ℕ) × ((m : ℕ) × ((d : ℕ) × ((h : ℕ) × ((i : ℕ) × ((s : ℕ) × ((k : ℕ) × SaysMoment x y m d h i s k)))))))
    moment = some_day (λ y m d. (h : ℕ) × ((i : ℕ) × ((s : ℕ) × ((k : ℕ) × SaysMoment x y m d h i s k)))) (λ y m d f. f.1.1.1.1.0) (λ y m d.
        some_time (SaysMoment x y m d) (λ h i s k f. f.1.0) (λ h i s k.
        both (real_day y m d) (both (real_time h i s k) (both (is_text x (day_text y m d ++ time_text h i s k)) (is_at_most (86400000 * day_number y m d + time_number h i s k) last_time)))))

-- the first of items, and the others
first_item : {A : Type 0} (S : List ℕ → A → Type 0) (x : List ℕ) (xs : List (List ℕ)) (all : List A) → EachSpells S (x ∷ xs) all → ((a : A) × S x a) × ((more : List A) × EachSpells S xs more)
first_item S x xs [] s = absurd s
first_item S x xs (a ∷ all) s = ((a, s.0), (all, s.1))

-- elements spell items, if of each it is decided
each_found : {A : Type 0} (S : List ℕ → A → Type 0) → ((x : List ℕ) → Found (S x)) → (xs : List (List ℕ)) → Found (EachSpells S xs)
each_found S one [] = inl ([], tt)
each_found S one (x ∷ xs) = elim (one x) [
  | inr never ↦ inr (λ all s. (let first = (first_item S x xs all s).0 in never first.0 first.1))
  | inl a ↦ elim (each_found S one xs) [
    | inr none ↦ inr (λ all s. (let others = (first_item S x xs all s).1 in none others.0 others.1))
    | inl all ↦ inl (a.0 ∷ all.0, (a.1, all.1))
  ]
]

-- a text spells a list, or it doesn't
listed_found : {A : Type 0} (S : List ℕ → A → Type 0) (eq : A → A → Bool) → ((x : List ℕ) → Found (S x)) → (x : List ℕ) → Found (Listed S eq x)
listed_found S eq one x = elim (each_found S one (elements x)) [
  | inl all ↦ inl (once_after eq [] all.0, (all.0, all.1, refl))
  | inr none ↦ inr (λ items l. none l.0 l.1)
]

-- a text isn't empty, or it spells no word
word_found : (x : List ℕ) → Found (SpellsWord x)
word_found [] = inr (λ word s. s.0 refl)
word_found (b ∷ bs) = inl (b ∷ bs, (λ e. cc, refl))

-- a text has a comma, or it has none
cut : (x : List ℕ) → ((a : List ℕ) × (b : List ℕ) × HasNo 44 a × (x ≡ a ++ 44 ∷ b)) ⊎ HasNo 44 x
cut [] = inr (All-nil (λ b. b ≢ 44))
cut (c ∷ x) = elim (cases_eq c 44) [
  | inl same ↦ inl ([], x, All-nil (λ b. b ≢ 44), ap (λ d. d ∷ x) same)
  | inr other ↦ elim (cut x) [
    | inl f ↦ inl (c ∷ f.0, f.1, All-cons (λ b. b ≢ 44) c f.0 other f.2, ap (λ (t : List ℕ). c ∷ t) f.3)
    | inr never ↦ inr (All-cons (λ b. b ≢ 44) c x other never)
  ]
]

-- a text spells a pair, or it doesn't
pair_found : (x : List ℕ) → Found (SpellsPair x)
pair_found x = elim (cut x) [
  | inr never ↦ inr (λ p. no_comma x p never)
  | inl f ↦ elim (number_found f.0 last_id) [
    | inr never ↦ inr (λ p s. never p.0 (pair_parts x f.0 f.1 p (f.2, f.3) s).0)
    | inl id ↦ elim (number_found f.1 9999) [
      | inr never ↦ inr (λ p s. never p.1 (pair_parts x f.0 f.1 p (f.2, f.3) s).1)
      | inl year ↦ inl ((id.0, year.0), (f.0, f.1, f.3, id.1, year.1))
    ]
  ]
]

-- each of some pairs is there with no other year, or one is
other_years : (all pairs : List (ℕ × ℕ)) → All (λ p. list_any (differs p) all ≡ false) pairs ⊎ ((p : ℕ × ℕ) × Contains pairs p × (list_any (differs p) all ≡ true))
other_years all [] = inl (All-nil (λ p. list_any (differs p) all ≡ false))
other_years all (p ∷ pairs) = elim (cases_Bool (list_any (differs p) all)) [
  | inl e ↦ inr (p, (zero, omega arith, refl), e)
  | inr e ↦ elim (other_years all pairs) [
    | inl none ↦ inl (All-cons (λ q. list_any (differs q) all ≡ false) p pairs e none)
    | inr f ↦ inr (f.0, (let l = f.1.1 in (suc f.1.0, omega arith, f.1.2)), f.2)
  ]
]

-- no id has two years, or one has
years_decided : (pairs : List (ℕ × ℕ)) → Decided (HasOneYear pairs)
years_decided pairs = elim (other_years pairs pairs) [
  | inl none ↦ inl (one_year pairs none)
  | inr f ↦ inr (two_years pairs f.0 f.1 f.2)
]

-- a text spells a list of pairs, or it doesn't
pairs_found : (x : List ℕ) → Found (PairList x)
pairs_found x = elim (listed_found SpellsPair pair_eq pair_found x) [
  | inr none ↦ inr (λ pairs s. none pairs s.0)
  | inl l ↦ elim (years_decided l.0) [
    | inl years ↦ inl (l.0, (l.1, years))
    | inr two ↦ inr (λ pairs. not_listed (λ y m n most others s t. s.value ∙ sym t.value) x l.0 pairs l.1 two)
  ]
]

-- a column whose values are made of what is found
carried : {A : Type 0} (make : A → Value) (column : Column) (x : List ℕ) (S : A → Type 0) → ((a : A) → S a → Spells column x (make a)) → ((v : Value) → Spells column x v → (a : A) × S a) → Found S → Found (Spells column x)
carried make column x S there back (inl f) = inl (make f.0, there f.0 f.1)
carried make column x S there back (inr none) = inr (λ v s. (let f = back v s in none f.0 f.1))

-- what a number spells
number_of : (x : List ℕ) (most : ℕ) (v : Value) → Spells (Number most) x v → (n : ℕ) × Num x n most
number_of x most (Digits n) s = (n, s)
number_of x most v s = absurd s

small_of : (x : List ℕ) (most : ℕ) (v : Value) → Spells (Small most) x v → (n : ℕ) × Num x n most
small_of x most (SmallDigits n) s = (n, s)
small_of x most v s = absurd s

word_of : (x : List ℕ) (v : Value) → Spells Word x v → (text : List ℕ) × SpellsWord x text
word_of x (Letters text) s = (text, s)
word_of x v s = absurd s

-- what an optional id spells is `-1` or an id
optional_of : (x : List ℕ) (v : Value) → Spells OptionalId x v → (x ≡ no_id) ⊎ ((n : ℕ) × SpellsId x n)
optional_of x NoId s = inl s
optional_of x (Digits n) s = inr (n, s)
optional_of x v s = absurd s

optional_found : (x : List ℕ) → Found (Spells OptionalId x)
optional_found x = elim (is_text x no_id) [
  | inl e ↦ inl (NoId, e)
  | inr other ↦ elim (number_found x last_id) [
    | inl n ↦ inl (Digits n.0, n.1)
    | inr never ↦ inr (λ v s. elim (optional_of x v s) [ inl e ↦ other e | inr n ↦ never n.0 n.1 ])
  ]
]

-- a text spells a value of a column, or it spells none
pub each_is_spelled : EachIsSpelled
each_is_spelled (Number most) x = carried Digits (Number most) x (λ n. Num x n most) (λ n s. s) (number_of x most) (number_found x most)
each_is_spelled (Small most) x = carried SmallDigits (Small most) x (λ n. Num x n most) (λ n s. s) (small_of x most) (number_found x most)
each_is_spelled OptionalId x = optional_found x
each_is_spelled Date x = carried Digits Date x (spellings.Date x) (λ n s. s) (date_of x) (date_found x)
each_is_spelled Day x = carried Digits Day x (spellings.Day x) (λ n s. s) (day_of x) (day_found x)
each_is_spelled Words x = inl (Letters x, refl)
each_is_spelled Word x = carried Letters Word x (SpellsWord x) (λ text s. s) (word_of x) (word_found x)
each_is_spelled TextList x = carried Texts TextList x (WordList x) (λ texts s. s) (texts_of x) (listed_found SpellsWord bytes_eq word_found x)
each_is_spelled Ids_ x = carried Ids Ids_ x (IdList x) (λ ids s. s) (ids_of x) (listed_found SpellsId nat_eq (λ y. number_found y last_id) x)
each_is_spelled Pairs_ x = carried Pairs Pairs_ x (PairList x) (λ pairs s. s) (pairs_of x) (pairs_found x)

-- so the first fields spell values of all columns, or one is the first that spells none
pub each_line_is_read : EachLineIsRead
each_line_is_read [] fs l = inl ([], tt)
each_line_is_read (c ∷ cs) [] l = absurd (omega (arith, l))
each_line_is_read (c ∷ cs) (x ∷ fs) l = elim (each_is_spelled c x) [
  | inr none ↦ inr (zero, [], none, tt)
  | inl v ↦ elim (each_line_is_read cs fs (omega (arith, l))) [
    | inl s ↦ inl (v.0 ∷ s.0, (v.1, s.1))
    | inr s ↦ inr (suc s.0, v.0 ∷ s.1, (v, s.2), (v.1, s.3))
  ]
]
