-- Items that were seen, beside the list of those that differ.
use Rattle.std.proofs.Common.{All, eq-eqb, Option, Some, None, IfSome, Contains, subst, is_some, ◌≡◌, ◌||◌, ◌&&◌, ℕ, List, [], ◌∷◌, ◌++◌, Bool, true, false, not, nat_eq, map, refl, sym, ◌∙◌, ap, eqb-true}
use mathlib.Core.Bool.{false≢true}
use Rattle.std.specs.declared.cmp.Ordering.{Ordering}
use Rattle.std.specs.declared.cmp.Ordering.TheVariants.{Less, Equal, Greater}
use Rattle.std.specs.Cmp.{unsigned_tied}
use Rattle.std.specs.Cmp.Lexicographic.{slice_cmp}
use Rattle.std.specs.Bool.{Decides}
use Rattle.std.specs.Cmp.{IsEquivalence, eq_by_cmp_equiv, nat_cmp_total}
use Rattle.std.specs.List.{list_any}
use Rattle.std.specs.Map.{keys_of, update_all}
use Rattle.std.specs.Set.{is_member}
use Rattle.std.proofs.lemmas.Map.Made.{All-is_member, IfSome-update_all_from_list, is_some-update_all}
use Rattle.std.specs.BTreeSet.{insert_key}
use Rattle.std.specs.Ordering.{eq_by_cmp, is_eq, match_ordering, nat_cmp, ordering_then}
use Rattle.std.specs.Str.{bytes_eq}
use Rattle.std.proofs.Math.ListN.{get_or-map}
use Rattle.std.proofs.lemmas.List.{length-map}
use Rattle.std.proofs.lemmas.Map.Lookups.{exact_bytes}
use Rattle.std.proofs.lemmas.Map.Text.{is_eq-slice_cmp}
use Rattle.snb_base.specs.Spellings.{HasOneYear, pair_eq}
use Rattle.std.proofs.lemmas.List.Folds.{list_any-append}

pub not_true : (b : Bool) → true ≡ not b → b ≡ false
not_true true e = absurd (false≢true (sym e))
not_true false e = refl

pub not_false : (b : Bool) → false ≡ not b → b ≡ true
not_false true e = refl
not_false false e = absurd (false≢true e)

module _ {A : Type 0} (eq : A → A → Bool) (same : (a b : A) → eq a b ≡ true → a ≡ b) where
  -- an item more
  pub one_more : (items : List A) (a q : A) → list_any (eq q) (items ++ a ∷ []) ≡ (eq q a || list_any (eq q) items)
  one_more items a q = list_any-append (eq q) items (a ∷ []) ∙ by (list_any (eq q) items) (eq q a)
    where
      by : (b c : Bool) → (b || (c || false)) ≡ (c || b)
      by true true = refl
      by true false = refl
      by false true = refl
      by false false = refl

  -- an item that is there already
  pub still : (items : List A) (a q : A) → list_any (eq a) items ≡ true → (eq q a || list_any (eq q) items) ≡ list_any (eq q) items
  still items a q there = by (eq q a) refl
    where
      by : (b : Bool) → eq q a ≡ b → (eq q a || list_any (eq q) items) ≡ list_any (eq q) items
      by true e = ap (λ b. b || list_any (eq q) items) e ∙ sym (ap (λ x. list_any (eq x) items) (same q a e) ∙ there)
      by false e = ap (λ b. b || list_any (eq q) items) e

  -- after an item that is new, or not, what was seen is what the list has
  pub seen_new : (items seen later more : List A) (a : A) → ((q : A) → list_any (eq q) seen ≡ list_any (eq q) items) → ((q : A) → list_any (eq q) later ≡ (eq q a || list_any (eq q) seen)) → more ≡ items ++ a ∷ []
      → (q : A) → list_any (eq q) later ≡ list_any (eq q) more
  seen_new items seen later more a before notes is q = notes q ∙ ap (λ b. eq q a || b) (before q) ∙ sym (one_more items a q) ∙ ap (list_any (eq q)) (sym is)

  pub seen_again : (items seen later more : List A) (a : A) → ((q : A) → list_any (eq q) seen ≡ list_any (eq q) items) → ((q : A) → list_any (eq q) later ≡ (eq q a || list_any (eq q) seen)) → list_any (eq a) items ≡ true → more ≡ items
      → (q : A) → list_any (eq q) later ≡ list_any (eq q) more
  seen_again items seen later more a before notes there is q = notes q ∙ ap (λ b. eq q a || b) (before q) ∙ still items a q there ∙ ap (list_any (eq q)) (sym is)

-- pairs and texts that a test tells are one are one
pub one_pair : (p q : ℕ × ℕ) → pair_eq p q ≡ true → p ≡ q
one_pair p q e =
    let parts = and_parts (nat_eq p.0 q.0) (nat_eq p.1 q.1) e in
    let a = eqb-true p.0 q.0 parts.0 in
    let b = eqb-true p.1 q.1 parts.1 in
    λ i. (a i, b i)
  where
    and_parts : (b c : Bool) → (b && c) ≡ true → (b ≡ true) × (c ≡ true)
    and_parts true c e = (refl, e)
    and_parts false c e = absurd (false≢true e)

pub one_text : (a b : List ℕ) → bytes_eq a b ≡ true → a ≡ b
one_text a b e = exact_bytes a b (equal (slice_cmp nat_cmp a b) (is_eq-slice_cmp a b ∙ e))
  where
    equal : (r : Ordering) → is_eq r ≡ true → r ≡ Equal
    equal Less e = absurd (false≢true e)
    equal Equal e = refl
    equal Greater e = absurd (false≢true e)

-- the tests of the sets' orders are these
pub pair_tied : (a b c d : ℕ) → is_eq (ordering_then (nat_cmp a b) (nat_cmp c d)) ≡ (nat_eq a b && nat_eq c d)
pair_tied a b c d = by (nat_cmp a b) ∙ ap (λ x. x && is_eq (nat_cmp c d)) (unsigned_tied a b) ∙ ap (λ x. nat_eq a b && x) (unsigned_tied c d)
  where
    by : (r : Ordering) → is_eq (ordering_then r (nat_cmp c d)) ≡ (is_eq r && is_eq (nat_cmp c d))
    by Less = refl
    by Equal = refl
    by Greater = refl

pub pair_exact : (p q : ℕ × ℕ) → ordering_then (nat_cmp p.0 q.0) (nat_cmp p.1 q.1) ≡ Equal → p ≡ q
pair_exact p q e = one_pair p q (sym (pair_tied p.0 q.0 p.1 q.1) ∙ ap is_eq e)

-- ---- a set with a key more

map_same : {A : Type 0} (xs : List A) → map (λ x. x) xs ≡ xs
map_same [] = refl
map_same (x ∷ xs) = ap (λ ys. x ∷ ys) (map_same xs)

pub any_map : {K A : Type 0} (p : A → Bool) (f : K → A) (ks : List K) → list_any p (map f ks) ≡ list_any (λ k. p (f k)) ks
any_map p f [] = refl
any_map p f (k ∷ ks) = ap (λ b. p (f k) || b) (any_map p f ks)

or_twice : (b c : Bool) → (b || (b || c)) ≡ (b || c)
or_twice true c = refl
or_twice false c = refl

or_swap : (a b c : Bool) → (a || (b || c)) ≡ (b || (a || c))
or_swap true true c = refl
or_swap true false c = refl
or_swap false b c = refl

pub noted : {K A : Type 0} (cmp : K → K → Ordering) (f : K → A) → ((k x : K) → cmp k x ≡ Equal → f k ≡ f x) → (p : A → Bool) (ks : List K) (k : K) → list_any p (map f (insert_key cmp ks k)) ≡ (p (f k) || list_any p (map f ks))
noted cmp f exact p [] k = refl
noted {K} cmp f exact p (x ∷ xs) k = by (noted cmp f exact p xs k) (cmp k x) refl
  where
    by : list_any p (map f (insert_key cmp xs k)) ≡ (p (f k) || list_any p (map f xs)) → (r : Ordering) → cmp k x ≡ r
        → list_any p (map f (match_ordering (cmp k x) (k ∷ x ∷ xs) (x ∷ xs) (x ∷ insert_key cmp xs k))) ≡ (p (f k) || (p (f x) || list_any p (map f xs)))
    by rest Less t = ap (λ r. list_any p (map f (match_ordering r (k ∷ x ∷ xs) (x ∷ xs) (x ∷ insert_key cmp xs k)))) t
    by rest Equal t = ap (λ r. list_any p (map f (match_ordering r (k ∷ x ∷ xs) (x ∷ xs) (x ∷ insert_key cmp xs k)))) t ∙ sym (ap (λ a. p a || (p (f x) || list_any p (map f xs))) (exact k x t) ∙ or_twice (p (f x)) (list_any p (map f xs)))
    by rest Greater t = ap (λ r. list_any p (map f (match_ordering r (k ∷ x ∷ xs) (x ∷ xs) (x ∷ insert_key cmp xs k)))) t ∙ ap (λ b. p (f x) || b) rest ∙ or_swap (p (f x)) (p (f k)) (list_any p (map f xs))

pub noted_key : {K : Type 0} (cmp : K → K → Ordering) → ((k x : K) → cmp k x ≡ Equal → k ≡ x) → (p : K → Bool) (ks later : List K) (k : K) → later ≡ insert_key cmp ks k → list_any p later ≡ (p k || list_any p ks)
noted_key cmp exact p ks later k is = ap (list_any p) (is ∙ sym (map_same (insert_key cmp ks k))) ∙ noted cmp (λ x. x) exact p ks k ∙ ap (λ xs. p k || list_any p xs) (map_same ks)

-- ---- the years of a list

-- what all keys have the key of each entry has
all_keys : (P : ℕ → Type 0) (es : List (ℕ × ℕ)) → All P (keys_of es) → (e : ℕ × ℕ) → Contains es e → P e.0
all_keys P es all e (k, l, at) = subst P (get_or-map (λ (x : ℕ × ℕ). x.0) es k e ∙ ap (λ (x : ℕ × ℕ). x.0) at) (all k e.0 (simp length-map l))

-- where no id has two years, a map made of the pairs has each pair's
pub years_agree : (pairs : List (ℕ × ℕ)) (years : ℕ → Option ℕ) → ((q : ℕ) → years q ≡ update_all (eq_by_cmp nat_cmp) (λ x. None) pairs q) → HasOneYear pairs → (p : ℕ × ℕ) → Contains pairs p → years p.0 ≡ Some p.1
years_agree pairs years is one p here = by (update_all (eq_by_cmp nat_cmp) (λ x. None) pairs p.0) refl
  where
    laws : IsEquivalence (eq_by_cmp nat_cmp)
    laws = eq_by_cmp_equiv nat_cmp_total

    same : (a b : ℕ) → Decides (eq_by_cmp nat_cmp a b) (a ≡ b)
    same a b = (λ e. eqb-true a b (sym (unsigned_tied a b) ∙ e), λ e. unsigned_tied a b ∙ eq-eqb a b e)

    by : (o : Option ℕ) → update_all (eq_by_cmp nat_cmp) (λ x. None) pairs p.0 ≡ o → years p.0 ≡ Some p.1
    by None e = absurd (false≢true (ap is_some (sym e) ∙ is_some-update_all laws p.0 (λ x. None) pairs ∙ all_keys (λ k. is_member (eq_by_cmp nat_cmp) (keys_of pairs) k ≡ true) pairs (All-is_member laws (keys_of pairs)) p here))
    by (Some y) e = is p.0 ∙ e ∙ ap Some (sym (one p (p.0, y) here (subst (λ o. IfSome o (λ v. Contains pairs (p.0, v))) e (IfSome-update_all_from_list same pairs p.0)) refl))
