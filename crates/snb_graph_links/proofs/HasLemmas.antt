-- Which pairs an index has after a change.
use Rattle.std.proofs.Common.{◌≡◌, ◌≢◌, ◌↔◌, ℕ, ◌⊎◌, inl, inr, List, Bool, true, false, cond, None, not, refl, sym, ap, ◌∙◌, subst, arith, nat_eq}
use Rattle.std.specs.Ordering.{nat_cmp}
use Rattle.std.specs.Cmp.{nat_cmp_total, nat_eq_equiv}
use Rattle.std.specs.BTreeMap.{insert_entry}
use Rattle.std.specs.List.{Contains}
use Rattle.std.proofs.lemmas.Map.Lookups.{exact_unsigned}
use Rattle.std.proofs.lemmas.Bool.Decides.{nat_tests}
use mathlib.Core.Bool.{false≢true}
use Rattle.snb_graph_maps.specs.Merged.{value_at, merged, Rises}
use Rattle.snb_graph_links.specs.Pairs.{Lists, pairs_at, pairs_of, AddsPair, TakesPair, ArePairParts, ArePairsOf, HasPair, HasFrozenPair, HasAdded, HasDropped, without}
use Rattle.snb_graph_links.proofs.PairLemmas.{filter_none, not_same}
use Rattle.snb_graph_maps.proofs.Laws.{contains-insert, filter-merged, frozen_within, rises-merged, value_none}
use Rattle.snb_base.proofs.Laws.{in_filter, same_number}

other_number : (a b : ℕ) → nat_eq a b ≡ false → a ≢ b
other_number a b e = grind (arith, nat_tests)

-- the pairs of a number rise
pub pairs_rise : (s : Lists × Lists) → ArePairParts s.0 s.1 → (q : ℕ) → Rises nat_cmp (pairs_of s q)
pairs_rise s parts q = rises-merged nat_cmp nat_cmp_total (pairs_at s.0 q) (pairs_at s.1 q) (parts q).frozen_rises

-- an id without a pair has no date
pub no_pair : (s : Lists × Lists) (of id : ℕ) → ((d : ℕ) → ¬ HasPair s of id d) → value_at nat_cmp (pairs_of s of) id ≡ None
no_pair s of id none = value_none nat_cmp nat_cmp_total exact_unsigned (pairs_of s of) id none

pub no_frozen_pair : (s : Lists × Lists) (of id : ℕ) → ((d : ℕ) → ¬ HasFrozenPair s of id d) → value_at nat_cmp (pairs_at s.0 of) id ≡ None
no_frozen_pair s of id none = value_none nat_cmp nat_cmp_total exact_unsigned (pairs_at s.0 of) id none

pub has_added : (old new : Lists × Lists) (of id date : ℕ) → value_at nat_cmp (pairs_of old of) id ≡ None → AddsPair old new of id date → HasAdded old of id date new
has_added old new of id date none adds n i d = by (nat_eq n of) refl
  where
    by : (b : Bool) → nat_eq n of ≡ b → HasPair new n i d ↔ (HasPair old n i d ⊎ ((of ≡ n) × (id ≡ i) × (date ≡ d)))
    by true e =
        let same : n ≡ of = same_number n of e in
        let now : pairs_of new n ≡ insert_entry nat_cmp (pairs_of old of) id date = adds n ∙ ap (λ b. cond b (insert_entry nat_cmp (pairs_of old of) id date) (pairs_of old n)) e in
        let iff = contains-insert nat_cmp nat_cmp_total exact_unsigned (pairs_of old of) id date none (i, d) in (
          λ c. elim (iff.0 (subst (λ ps. Contains ps (i, d)) now c)) [
            | inl had ↦ inl (subst (λ m. HasPair old m i d) (sym same) had)
            | inr is ↦ inr (sym same, ap (λ x. x.0) is, ap (λ x. x.1) is)
          ],
          λ or. subst (λ ps. Contains ps (i, d)) (sym now) (iff.1 (elim or [
            | inl had ↦ inl (subst (λ m. HasPair old m i d) same had)
            | inr is ↦ inr (λ j. (is.1 j, is.2 j))
          ])),
        )
    by false e =
        let now : pairs_of new n ≡ pairs_of old n = adds n ∙ ap (λ b. cond b (insert_entry nat_cmp (pairs_of old of) id date) (pairs_of old n)) e in (
          λ c. inl (subst (λ ps. Contains ps (i, d)) now c),
          λ or. elim or [
            | inl had ↦ subst (λ ps. Contains ps (i, d)) (sym now) had
            | inr is ↦ absurd (other_number n of e (sym is.0))
          ],
        )

-- the pairs of a number without an id that isn't frozen
without_merged : (es fs : List (ℕ × ℕ)) (id : ℕ) → Rises nat_cmp es → value_at nat_cmp es id ≡ None → merged nat_cmp es (without id fs) ≡ without id (merged nat_cmp es fs)
without_merged es fs id h none =
    sym (filter-merged nat_cmp nat_cmp_total exact_unsigned (λ k. not (nat_eq k id)) es fs h
    ∙ ap (λ xs. merged nat_cmp xs (without id fs)) (filter_none es id none))

pub has_dropped : (old new : Lists × Lists) (of id : ℕ) → ArePairParts old.0 old.1 → value_at nat_cmp (pairs_at old.0 of) id ≡ None → new.0 ≡ old.0 → TakesPair old.1 new.1 of id → HasDropped old of id new
has_dropped old new of id parts none frozen takes n i d = by (nat_eq n of) refl
  where
    passes : (i : ℕ) → not (nat_eq i id) ≡ true → id ≡ i → ⊥
    passes i t is = false≢true (sym (ap not (ap (λ m. nat_eq m id) (sym is) ∙ nat_eq_equiv.refl id)) ∙ t)

    whole : pairs_of new n ≡ merged nat_cmp (pairs_at old.0 n) (cond (nat_eq n of) (without id (pairs_at old.1 of)) (pairs_at old.1 n))
    whole = ap (λ ls. merged nat_cmp (pairs_at ls n) (pairs_at new.1 n)) frozen ∙ ap (merged nat_cmp (pairs_at old.0 n)) (takes n)

    by : (b : Bool) → nat_eq n of ≡ b → HasPair new n i d ↔ (HasPair old n i d × ¬ ((of ≡ n) × (id ≡ i)))
    by true e =
        let same : n ≡ of = same_number n of e in
        let now : pairs_of new n ≡ without id (pairs_of old of) =
        whole ∙ ap (λ b. merged nat_cmp (pairs_at old.0 n) (cond b (without id (pairs_at old.1 of)) (pairs_at old.1 n))) e
        ∙ ap (λ m. merged nat_cmp (pairs_at old.0 m) (without id (pairs_at old.1 of))) same
        ∙ without_merged (pairs_at old.0 of) (pairs_at old.1 of) id (parts of).frozen_rises none in
        let iff = in_filter (λ (p : ℕ × ℕ). not (nat_eq p.0 id)) (pairs_of old of) (i, d) in (
          λ c. let r = iff.0 (subst (λ ps. Contains ps (i, d)) now c) in (subst (λ m. HasPair old m i d) (sym same) r.0, λ is. passes i r.1 is.1),
          λ both. subst (λ ps. Contains ps (i, d)) (sym now) (iff.1 (subst (λ m. HasPair old m i d) same both.0, ap not (not_same i id (λ is. both.1 (sym same, sym is))))),
        )
    by false e =
        let now : pairs_of new n ≡ pairs_of old n = whole ∙ ap (λ b. merged nat_cmp (pairs_at old.0 n) (cond b (without id (pairs_at old.1 of)) (pairs_at old.1 n))) e in (
          λ c. (subst (λ ps. Contains ps (i, d)) now c, λ is. other_number n of e (sym is.0)),
          λ both. subst (λ ps. Contains ps (i, d)) (sym now) both.0,
        )

pub are_pairs_of : (s : Lists × Lists) (of : ℕ) (ps : List (ℕ × ℕ)) → ArePairParts s.0 s.1 → ps ≡ pairs_of s of → ArePairsOf s of ps
are_pairs_of s of ps parts is = record {
  rises = subst (Rises nat_cmp) (sym is) (pairs_rise s parts of);
  same = λ id date. (λ c. subst (λ xs. Contains xs (id, date)) is c, λ c. subst (λ xs. Contains xs (id, date)) (sym is) c);
}

-- what is frozen is there
pub frozen_pair : (s : Lists × Lists) → ArePairParts s.0 s.1 → (of id date : ℕ) → HasFrozenPair s of id date → HasPair s of id date
frozen_pair s parts of id date c = frozen_within nat_cmp nat_cmp_total exact_unsigned (pairs_at s.0 of) (pairs_at s.1 of) (parts of) (id, date) c
