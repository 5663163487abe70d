-- There is one answer, where each thing shows one row and only equal rows compare equal.
use Rattle.std.proofs.Common.{◌≡◌, ℕ, List, [], ◌∷◌, refl, subst, inl, inr}
use Rattle.std.proofs.lemmas.Cmp.{nat_list_cmp_total}
use Rattle.std.specs.Cmp.Lexicographic.{slice_cmp}
use Rattle.std.specs.List.{AllZip, Contains}
use Rattle.std.specs.Ordering.{nat_cmp}
use Rattle.std.specs.declared.cmp.Ordering.TheVariants.{Equal}
use Rattle.snb_read_model.specs.Cells.{ByteCell}
use Rattle.snb_read_model.specs.ComplexReads.{Stay, stay_cmp}
use Rattle.snb_read_model.specs.Order.{ReadAnswers, Cut, SortedAndCut, Way, by}
use Rattle.snb_base.proofs.Laws.{contains_cases, contains_here, contains_there, none_in}
use Rattle.snb_read_order.specs.Laws.{OneFirst}
use Rattle.snb_read_laws.proofs.Ties.{by_total, equal_stays, equal_texts, stay_total}

module _ {X Y : Type 0} (R : X → Y → Type 0) where
  pub same_zip : ((x : X) (a b : Y) → R x a → R x b → a ≡ b) → (xs : List X) (us vs : List Y) → AllZip R xs us → AllZip R xs vs → us ≡ vs
  same_zip one [] [] [] z w = refl
  same_zip one [] [] (v ∷ vs) z w = absurd w
  same_zip one [] (u ∷ us) vs z w = absurd z
  same_zip one (x ∷ xs) [] vs z w = absurd z
  same_zip one (x ∷ xs) (u ∷ us) [] z w = absurd w
  same_zip one (x ∷ xs) (u ∷ us) (v ∷ vs) z w =
      let here = one x u v z.0 w.0 in
      let there = same_zip one xs us vs z.1 w.1 in
      λ i. here i ∷ there i

  shown_by : (xs : List X) (us : List Y) (a : Y) → AllZip R xs us → Contains us a → (x : X) × Contains xs x × R x a
  shown_by [] [] a z c = absurd (none_in a c)
  shown_by [] (u ∷ us) a z c = absurd z
  shown_by (x ∷ xs) [] a z c = absurd z
  shown_by (x ∷ xs) (u ∷ us) a z c = elim (contains_cases u us a c) [
    | inl e ↦ (x, contains_here x xs, subst (R x) e z.0)
    | inr d ↦ (let (y, there, r) = shown_by xs us a z.1 d in (y, contains_there x xs y there, r))
  ]

module _ {X : Type 0} (first : OneFirst (List ByteCell)) (counted : List X) (Shows : X → List ByteCell → Type 0) (order : List Way) (cut : Cut)
    (one : (x : X) (a b : List ByteCell) → Shows x a → Shows x b → a ≡ b)
    (tied : (x y : X) (a b : List ByteCell) → Contains counted x → Contains counted y → Shows x a → Shows y b → by order a b ≡ Equal → a ≡ b) where
  pub one_answers : (a b : List (List ByteCell)) → ReadAnswers counted Shows order cut a → ReadAnswers counted Shows order cut b → a ≡ b
  one_answers a b f h =
      let same : h.rows ≡ f.rows = same_zip Shows one counted h.rows f.rows h.shown f.shown in
      first (by order) cut f.rows a b (by_total order) (λ r s c d e.
      (let (x, counts, shows) = shown_by Shows counted f.rows r f.shown c in
      let (y, counts', shows') = shown_by Shows counted f.rows s f.shown d in
      tied x y r s counts counts' shows shows' e)) f.first (subst (λ rows. SortedAndCut (by order) cut rows b) same h.first)

-- texts and stays have one list in order
pub one_texts : OneFirst (List ℕ) → (cut : Cut) (texts a b : List (List ℕ)) → SortedAndCut (slice_cmp nat_cmp) cut texts a → SortedAndCut (slice_cmp nat_cmp) cut texts b → a ≡ b
one_texts first cut texts a b f h = first (slice_cmp nat_cmp) cut texts a b nat_list_cmp_total (λ s t c d e. equal_texts s t e) f h

pub one_stays : OneFirst Stay → (cut : Cut) (stays a b : List Stay) → SortedAndCut stay_cmp cut stays a → SortedAndCut stay_cmp cut stays b → a ≡ b
one_stays first cut stays a b f h = first stay_cmp cut stays a b stay_total (λ s t c d e. equal_stays s t e) f h
