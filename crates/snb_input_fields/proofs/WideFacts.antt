-- How many fields a line has.
use Rattle.std.proofs.Common.{◌≡◌, ◌∙◌, ◌+◌, ℕ, zero, suc, List, [], ◌∷◌, ◌++◌, Bool, Some, None, IsTrue, eqb, length, take, length-append, refl, sym, ap, subst, arith}
use Rattle.std.proofs.lemmas.List.{append-nil, nil_from_length}
use Rattle.std.proofs.lemmas.Bool.Decides.{Decides-eqb}
use Rattle.snb_input_lines.specs.Records.{field_at}
use Rattle.snb_schema.specs.RowValues.{IsWide, NoneOrEmpty}

-- the last field, and those before it
last_split : (fs : List (List ℕ)) (count : ℕ) (x : List ℕ) → field_at fs count ≡ Some x → length fs ≡ count + 1 → (length (take count fs) ≡ count) × (fs ≡ take count fs ++ x ∷ [])
unfolding field_at
last_split [] count x f e = absurd (omega (arith, e))
last_split (y ∷ fs) zero x f e = (let none : fs ≡ [] = nil_from_length fs (omega (arith, e)) in let same : y ≡ x = cc in (refl, rw (none, same) refl))
last_split (y ∷ fs) (suc n) x f e = (let (size, split) = last_split fs n x f (omega (arith, e)) in (ap suc size, ap (λ (ys : List (List ℕ)). y ∷ ys) split))

-- the field behind these
next_field : (own : List (List ℕ)) (x : List ℕ) (rest : List (List ℕ)) → field_at (own ++ x ∷ rest) (length own) ≡ Some x
unfolding field_at
next_field [] x rest = refl
next_field (y ∷ own) x rest = next_field own x rest

-- there is none
pub no_next_field : (own : List (List ℕ)) → field_at own (length own) ≡ None
unfolding field_at
no_next_field [] = refl
no_next_field (y ∷ own) = no_next_field own

-- a line without a field behind its columns is wide where it has one for each
pub wide_none : (count : ℕ) (fs : List (List ℕ)) → field_at fs count ≡ None → (length fs ≡ count → IsWide count fs) × (IsWide count fs → length fs ≡ count)
wide_none count fs f = (λ e. record { own = fs; extra = []; split = sym (append-nil fs); size = e; no_more = tt }, λ w. exactly w.own w.extra w.split w.size w.no_more)
  where
    exactly : (own extra : List (List ℕ)) → fs ≡ own ++ extra → length own ≡ count → NoneOrEmpty extra → length fs ≡ count
    exactly own [] split size n = omega (arith, ap length split, length-append own [], size)
    exactly own ([] ∷ []) split size n = (
        let found : field_at fs count ≡ Some [] = subst (λ k. field_at fs k ≡ Some []) size (subst (λ (xs : List (List ℕ)). field_at xs (length own) ≡ Some []) (sym split) (next_field own [] [])) in
        absurd (let e : None ≡ Some [] = sym f ∙ found in cc))
    exactly own ([] ∷ y ∷ rest) split size n = absurd n
    exactly own ((b ∷ bs) ∷ rest) split size n = absurd n

-- with one it is wide where that is the last and is empty
pub wide_some : (count : ℕ) (fs : List (List ℕ)) (x : List ℕ) → field_at fs count ≡ Some x → (length fs ≡ count + 1 → x ≡ [] → IsWide count fs) × (IsWide count fs → (length fs ≡ count + 1) × (x ≡ []))
wide_some count fs x f = (
  λ e empty. let (size, split) = last_split fs count x f e in record { own = take count fs; extra = [] ∷ []; split = subst (λ (y : List ℕ). fs ≡ take count fs ++ y ∷ []) empty split; size = size; no_more = tt },
  λ w. exactly w.own w.extra w.split w.size w.no_more,
)
  where
    exactly : (own extra : List (List ℕ)) → fs ≡ own ++ extra → length own ≡ count → NoneOrEmpty extra → (length fs ≡ count + 1) × (x ≡ [])
    exactly own [] split size n =
        let whole : fs ≡ own = split ∙ append-nil own in
        let none : field_at fs count ≡ None = subst (λ k. field_at fs k ≡ None) size (subst (λ (xs : List (List ℕ)). field_at xs (length own) ≡ None) (sym whole) (no_next_field own)) in
        absurd (let e : Some x ≡ None = sym f ∙ none in cc)
    exactly own ([] ∷ []) split size n =
        let found : field_at fs count ≡ Some [] = subst (λ k. field_at fs k ≡ Some []) size (subst (λ (xs : List (List ℕ)). field_at xs (length own) ≡ Some []) (sym split) (next_field own [] [])) in
        (omega (arith, ap length split, length-append own ([] ∷ []), size), (let e : Some x ≡ Some [] = sym f ∙ found in cc))
    exactly own ([] ∷ y ∷ rest) split size n = absurd n
    exactly own ((b ∷ bs) ∷ rest) split size n = absurd n

-- the tests of how many fields there are
pub tests_none : (count found : ℕ) (fs : List (List ℕ)) → found ≡ length fs → field_at fs count ≡ None → (IsTrue (eqb found count) → IsWide count fs) × (IsWide count fs → IsTrue (eqb found count))
tests_none count found fs e f =
    let (there, back) = wide_none count fs f in
    (λ t. there (sym e ∙ (Decides-eqb found count).0 t), λ w. (Decides-eqb found count).1 (e ∙ back w))

-- of one that is there, and whether it is empty
pub tests_empty : (count found : ℕ) (fs : List (List ℕ)) (x : List ℕ) (b : Bool) → found ≡ length fs → field_at fs count ≡ Some x → found ≡ count + 1 → b ≡ eqb (length x) 0 → (IsTrue b → IsWide count fs) × (IsWide count fs → IsTrue b)
tests_empty count found fs x b e f more same =
    let (there, back) = wide_some count fs x f in
    let decides = Decides-eqb (length x) 0 in
    (λ t. there (sym e ∙ more) (nil_from_length x (decides.0 (sym same ∙ t))), λ w. same ∙ decides.1 (ap length (back w).1))

-- of more than one
pub tests_longer : (count found : ℕ) (fs : List (List ℕ)) (x : List ℕ) → found ≡ length fs → field_at fs count ≡ Some x → (found ≡ count + 1 → ⊥) → ¬ IsWide count fs
tests_longer count found fs x e f other w = other (e ∙ ((wide_some count fs x f).1 w).0)
