-- Facts on lists of numbers as the word of an option has them.
use Rattle.std.proofs.Common.{◌≡◌, ◌≢◌, ◌↔◌, ◌==◌, ◌+◌, ◌<◌, ◌≤◌, ◌++◌, ℕ, suc, Bool, false, List, [], ◌∷◌, length, All, IsTrue, get_or, refl, sym, subst, ap, ◌∙◌, inl, inr, arith}
use Rattle.std.proofs.lemmas.Bool.{cases_Bool, eqb-true}
use Rattle.std.proofs.lemmas.List.{append_assoc}
use Rattle.std.proofs.lemmas.List.Splits.{length-slice_split, slice_split_at, slice_split_none}
use Rattle.std.specs.List.{slice_split}
use Rattle.snb_base.specs.Spellings.{EachSpells, SpellsId}
use Rattle.snb_schema.specs.declared.limits.TheConstants.{MAX_WORDS}
use Rattle.snb_tool_words.specs.Options.{SpellsWords}

-- x is these numbers, separated by commas
abbrev pub SpellsIds : List ℕ → List ℕ → Type 0
SpellsIds x ids = EachSpells SpellsId (slice_split (λ b. b == 44) x) ids

-- x is numbers, with which and so many before there are no more than the most
abbrev pub AreAfter : ℕ → List ℕ → Type 0
AreAfter i x = (ids : List ℕ) × SpellsIds x ids × (length ids + i ≤ MAX_WORDS)

no_comma : (x : List ℕ) → All (λ b. b ≢ 44) x → All (λ b. (b == 44) ≡ false) x
no_comma x bare = λ k d l. elim (cases_Bool (get_or x k d == 44)) [ inl comma ↦ absurd (bare k d l (eqb-true (get_or x k d) 44 comma)) | inr other ↦ other ]

one_part : (x : List ℕ) → All (λ b. b ≢ 44) x → slice_split (λ b. b == 44) x ≡ x ∷ []
one_part x bare = slice_split_none (λ b. b == 44) x (no_comma x bare)

two_parts : (x w m : List ℕ) → All (λ b. b ≢ 44) w → x ≡ w ++ 44 ∷ m → slice_split (λ b. b == 44) x ≡ w ∷ slice_split (λ b. b == 44) m
two_parts x w m bare e = ap (slice_split (λ b. b == 44)) e ∙ slice_split_at (λ b. b == 44) w 44 m (no_comma w bare) refl

-- a first part spells a first number, and the others the others
record FirstOf (x : List ℕ) (xs : List (List ℕ)) (ids : List ℕ) : Type 0 where
  id : ℕ
  more : List ℕ
  are : ids ≡ id ∷ more
  spelled : SpellsId x id
  others : EachSpells SpellsId xs more

first_id : (x : List ℕ) (xs : List (List ℕ)) (ids : List ℕ) → EachSpells SpellsId (x ∷ xs) ids → FirstOf x xs ids
first_id x xs [] s = absurd s
first_id x xs (id ∷ more) s = record { id = id; more = more; are = refl; spelled = s.0; others = s.1 }

each_long : (parts : List (List ℕ)) (ids : List ℕ) → EachSpells SpellsId parts ids → length ids ≡ length parts
each_long [] [] s = refl
each_long [] (id ∷ ids) s = absurd s
each_long (x ∷ parts) [] s = absurd s
each_long (x ∷ parts) (id ∷ ids) s = ap suc (each_long parts ids s.1)

-- after the most numbers there is none
pub none_after : (i : ℕ) (x : List ℕ) → MAX_WORDS ≤ i → ¬ AreAfter i x
none_after i x most s =
    let long = each_long (slice_split (λ b. b == 44) x) s.0 s.1 in
    let some = length-slice_split (λ b. b == 44) x in
    omega (arith, long, some, s.2)

module _ (i : ℕ) (x : List ℕ) (below : i < MAX_WORDS) (bare : All (λ b. b ≢ 44) x) where
  -- a text without a comma is numbers where it spells one
  pub last_after : (r : Bool) → (IsTrue r ↔ ((id : ℕ) × SpellsId x id)) → IsTrue r ↔ AreAfter i x
  last_after r iff = (
    λ t. let s = iff.0 t in (s.0 ∷ [], subst (λ (parts : List (List ℕ)). EachSpells SpellsId parts (s.0 ∷ [])) (sym (one_part x bare)) (s.1, tt), omega arith),
    λ s. let first = first_id x [] s.0 (subst (λ (parts : List (List ℕ)). EachSpells SpellsId parts s.0) (one_part x bare) s.1) in iff.1 (first.id, first.spelled),
  )

  -- and then it spells the last of the numbers
  pub last_is : AreAfter i x → (id : ℕ) × SpellsId x id
  last_is s = let first = first_id x [] s.0 (subst (λ (parts : List (List ℕ)). EachSpells SpellsId parts s.0) (one_part x bare) s.1) in (first.id, first.spelled)

  pub last_made : (text words : List ℕ) (s : AreAfter i x) (n : ℕ) → SpellsWords text (words ++ s.0) → SpellsId x n → SpellsWords text (words ++ n ∷ [])
  last_made text words s n all is =
      let first = first_id x [] s.0 (subst (λ (parts : List (List ℕ)). EachSpells SpellsId parts s.0) (one_part x bare) s.1) in
      let same : first.id ≡ n = first.spelled.value ∙ sym is.value in
      let none = no_more first.more first.others in
      subst (λ (ids : List ℕ). SpellsWords text (words ++ ids)) (first.are ∙ (λ k. same k ∷ none k)) all
    where
      no_more : (ids : List ℕ) → EachSpells SpellsId [] ids → ids ≡ []
      no_more [] s = refl
      no_more (id ∷ ids) s = absurd s

module _ (i : ℕ) (x w m : List ℕ) (bare : All (λ b. b ≢ 44) w) (cut : x ≡ w ++ 44 ∷ m) where
  parted : (s : AreAfter i x) → FirstOf w (slice_split (λ b. b == 44) m) s.0
  parted s = first_id w (slice_split (λ b. b == 44) m) s.0 (subst (λ (parts : List (List ℕ)). EachSpells SpellsId parts s.0) (two_parts x w m bare cut) s.1)

  -- what stands before the first comma spells the first of the numbers
  pub next_is : AreAfter i x → (id : ℕ) × SpellsId w id
  next_is s = let first = parted s in (first.id, first.spelled)

  -- and what stands after it spells the others
  pub next_after : ((id : ℕ) × SpellsId w id) → AreAfter i x ↔ AreAfter (i + 1) m
  next_after id = (
    λ s. let first = parted s in let few = s.2 in let long = ap length first.are in (first.more, first.others, omega arith),
    λ s.
        let few = s.2 in
        (id.0 ∷ s.0, subst (λ (parts : List (List ℕ)). EachSpells SpellsId parts (id.0 ∷ s.0)) (sym (two_parts x w m bare cut)) (id.1, s.1), omega arith),
  )

  pub next_made : (text words : List ℕ) (s : AreAfter i x) (n : ℕ) → SpellsWords text (words ++ s.0) → SpellsId w n → (t : AreAfter (i + 1) m) × SpellsWords text ((words ++ n ∷ []) ++ t.0)
  next_made text words s n all is =
      let first = parted s in
      let few = s.2 in
      let long = ap length first.are in
      let same : first.id ≡ n = first.spelled.value ∙ sym is.value in
      let joined = ap (λ (ids : List ℕ). words ++ ids) (first.are ∙ (λ k. same k ∷ first.more)) ∙ sym (append_assoc words (n ∷ []) first.more) in
      ((first.more, first.others, omega arith), subst (SpellsWords text) joined all)
