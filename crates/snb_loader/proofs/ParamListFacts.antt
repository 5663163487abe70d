-- Lists of parameters that are filled one after the other.
use Rattle.std.proofs.Common.{◌≡◌, ◌≢◌, ◌∙◌, ◌<◌, Global, Vec, ◌+◌, ◌==◌, ltb, ℕ, suc, Bool, true, false, cond, List, [], ◌∷◌, ◌++◌, drop, filter, map, if◌then◌else◌, slice_index_or, refl, sym, ap, subst, rules, arith, inl, inr}
use Rattle.std.specs.List.{AllByRecursion}
use Rattle.std.proofs.lemmas.Bool.{cases_eq, lt-ltb}
use Rattle.std.proofs.Math.Seq.{drop-cons}
use Rattle.snb_schema.proofs.Laws.{AreApart, complex_apart}
use Rattle.snb_schema.specs.declared.query.Query.{Query}
use Rattle.snb_schema.specs.declared.query.TheConstants.{COMPLEX_COUNT}
use Rattle.snb_schema.specs.Frequencies.{FrequencyTable, frequency_at}
use Rattle.snb_schema.specs.QueryLists.{AreOf, QueryLists, list_of}
use Rattle.snb_schema.specs.Queries.{complex_queries}
use Rattle.snb_loader.specs.Params.{AreOfEach, asked}

-- the lists with these appended to that of this query
abbrev pub with_list : (ℕ → List Query) → ℕ → List Query → (ℕ → List Query)
with_list f q xs p = if p == q then f p ++ xs else f p

-- the lists with each of these appended to that of its query
abbrev pub gain : (ℕ → List Query) → List ℕ → List (List Query) → (ℕ → List Query)
gain f [] xss = f
gain f (q ∷ qs) [] = f
gain f (q ∷ qs) (xs ∷ xss) = gain (with_list f q xs) qs xss

-- the queries with a frequency that are left after so many of all
unfoldable pub left_of : FrequencyTable → ℕ → List ℕ
left_of table i = filter (λ q. ltb 0 (frequency_at table q)) (drop i complex_queries)

-- it holds of each
abbrev pub Each : (ℕ → Type 0) → List ℕ → Type 0
Each P qs = AllByRecursion P qs

each_one : (P : ℕ → Type 0) (b : Bool) (q : ℕ) (qs : List ℕ) → Each P (cond b (q ∷ qs) qs) → (b ≡ true → P q) × Each P qs
each_one P true q qs h = ((λ _. h.0), h.1)
each_one P false q qs h = ((λ t. absurd (search rules)), h)

-- what holds of each that passes holds of each, where it passes
pub each_passing : (P : ℕ → Type 0) (p : ℕ → Bool) (qs : List ℕ) → Each P (filter p qs) → Each (λ q. p q ≡ true → P q) qs
each_passing P p [] h = tt
each_passing P p (q ∷ qs) h = let k = each_one P (p q) q (filter p qs) h in (k.0, each_passing P p qs k.1)

kept_one : (P : ℕ → Type 0) (b : Bool) (q : ℕ) (qs : List ℕ) → (b ≡ true → P q) → Each P qs → Each P (cond b (q ∷ qs) qs)
kept_one P true q qs one h = (one refl, h)
kept_one P false q qs one h = h

-- what holds of each, where it passes, holds of each that passes
pub each_kept : (P : ℕ → Type 0) (p : ℕ → Bool) (qs : List ℕ) → Each (λ q. p q ≡ true → P q) qs → Each P (filter p qs)
each_kept P p [] h = tt
each_kept P p (q ∷ qs) h = kept_one P (p q) q (filter p qs) h.0 (each_kept P p qs h.1)

each_from : (P Q : ℕ → Type 0) (qs : List ℕ) → ((q : ℕ) → P q → Q q) → Each P qs → Each Q qs
each_from P Q [] f h = tt
each_from P Q (q ∷ qs) f h = (f q h.0, each_from P Q qs f h.1)

each_both : (P Q R : ℕ → Type 0) (qs : List ℕ) → ((q : ℕ) → P q → Q q → R q) → Each P qs → Each Q qs → Each R qs
each_both P Q R [] f h k = tt
each_both P Q R (q ∷ qs) f h k = (f q h.0 k.0, each_both P Q R qs f h.1 k.1)

each_any : (P : ℕ → Type 0) (qs : List ℕ) → ((q : ℕ) → P q) → Each P qs
each_any P [] f = tt
each_any P (q ∷ qs) f = (f q, each_any P qs f)

apart_one : (b : Bool) (q : ℕ) (qs : List ℕ) → Each (λ p. p ≢ q) qs → AreApart qs → AreApart (cond b (q ∷ qs) qs)
apart_one true q qs h k = (h, k)
apart_one false q qs h k = k

apart_kept : (p : ℕ → Bool) (qs : List ℕ) → AreApart qs → AreApart (filter p qs)
apart_kept p [] h = tt
apart_kept p (q ∷ qs) h = apart_one (p q) q (filter p qs) (each_kept (λ x. x ≢ q) p qs (each_from (λ x. x ≢ q) (λ x. p x ≡ true → x ≢ q) qs (λ x n _. n) h.0)) (apart_kept p qs h.1)

asked_apart : (table : FrequencyTable) → AreApart (asked table)
asked_apart table = apart_kept (λ q. ltb 0 (frequency_at table q)) complex_queries complex_apart

here : (f : ℕ → List Query) (q : ℕ) (xs : List Query) → with_list f q xs q ≡ f q ++ xs
here f q xs = search rules

elsewhere : (f : ℕ → List Query) (q p : ℕ) (xs : List Query) → p ≢ q → with_list f q xs p ≡ f p
elsewhere f q p xs n = search rules

-- a list of none of these queries stays
outside : (f : ℕ → List Query) (qs : List ℕ) (xss : List (List Query)) (q : ℕ) → Each (λ p. p ≢ q) qs → gain f qs xss q ≡ f q
outside f [] xss q h = refl
outside f (p ∷ qs) [] q h = refl
outside f (p ∷ qs) (xs ∷ xss) q h = outside (with_list f p xs) qs xss q h.1 ∙ elsewhere f p q xs (λ e. h.0 (sym e))

-- the lists of these queries are those that were appended, where they were empty
filled : (f : ℕ → List Query) (qs : List ℕ) (xss : List (List Query)) → AreOfEach qs xss → AreApart qs → Each (λ q. f q ≡ []) qs → map (gain f qs xss) qs ≡ xss
filled f [] [] k a h = refl
filled f [] (xs ∷ xss) k a h = absurd k
filled f (q ∷ qs) [] k a h = absurd k
filled f (q ∷ qs) (xs ∷ xss) k a h =
    let first : gain (with_list f q xs) qs xss q ≡ xs = outside (with_list f q xs) qs xss q a.0 ∙ here f q xs ∙ ap (λ (ys : List Query). ys ++ xs) h.0 in
    let rest : map (gain (with_list f q xs) qs xss) qs ≡ xss = filled (with_list f q xs) qs xss k.1 a.1 (each_both (λ p. p ≢ q) (λ p. f p ≡ []) (λ p. with_list f q xs p ≡ []) qs (λ p n e. elsewhere f q p xs n ∙ e) a.0 h.1) in
    λ i. first i ∷ rest i

-- the lists of the queries with a frequency are those that were appended
pub asked_filled : (table : FrequencyTable) (xss : List (List Query)) → AreOfEach (asked table) xss → map (gain (λ q. []) (asked table) xss) (asked table) ≡ xss
asked_filled table xss k = filled (λ q. []) (asked table) xss k (asked_apart table) (each_any (λ q. ◌≡◌ {A = List Query} [] []) (asked table) (λ q. refl))

above : (n : ℕ) → ltb 0 n ≡ true → 0 < n
above n e = search rules

-- the list of a query without a frequency is empty
pub others_empty : (table : FrequencyTable) (xss : List (List Query)) (q : ℕ) → frequency_at table q ≡ 0 → gain (λ q. []) (asked table) xss q ≡ []
others_empty table xss q e =
    outside (λ q. []) (asked table) xss q
    (each_kept (λ p. p ≢ q) (λ p. ltb 0 (frequency_at table p)) complex_queries
    (each_any (λ p. ltb 0 (frequency_at table p) ≡ true → p ≢ q) complex_queries
    (λ p t same. let l = above (frequency_at table p) t in let z = ap (λ (x : ℕ). frequency_at table x) same in omega (arith, l, z, e))))

-- none is passed by at first, and none is left after all
pub left_first : (table : FrequencyTable) → left_of table 0 ≡ asked table
unfolding left_of
left_first table = refl

pub left_last : (table : FrequencyTable) → left_of table COMPLEX_COUNT ≡ []
unfolding left_of
left_last table = refl

after : (i : ℕ) → suc i ≡ i + 1
after i = omega arith

passes : (p : ℕ → Bool) (q : ℕ) (qs : List ℕ) → p q ≡ true → filter p (q ∷ qs) ≡ q ∷ filter p qs
passes p q qs e = ap (λ (b : Bool). cond b (q ∷ filter p qs) (filter p qs)) e

falls : (p : ℕ → Bool) (q : ℕ) (qs : List ℕ) → p q ≡ false → filter p (q ∷ qs) ≡ filter p qs
falls p q qs e = ap (λ (b : Bool). cond b (q ∷ filter p qs) (filter p qs)) e

-- a query with a frequency is the next that is left
pub left_in : (table : FrequencyTable) (i : ℕ) → i < COMPLEX_COUNT → 0 < frequency_at table (slice_index_or complex_queries i 0) → left_of table i ≡ slice_index_or complex_queries i 0 ∷ left_of table (i + 1)
unfolding left_of
left_in table i l h = ap (λ (qs : List ℕ). filter (λ q. ltb 0 (frequency_at table q)) qs) (drop-cons complex_queries i 0 l ∙ ap (λ (n : ℕ). slice_index_or complex_queries i 0 ∷ drop n complex_queries) (after i)) ∙ passes (λ q. ltb 0 (frequency_at table q)) (slice_index_or complex_queries i 0) (drop (i + 1) complex_queries) (lt-ltb 0 _ h)

-- one without is passed by
pub left_out : (table : FrequencyTable) (i : ℕ) → i < COMPLEX_COUNT → frequency_at table (slice_index_or complex_queries i 0) ≡ 0 → left_of table i ≡ left_of table (i + 1)
unfolding left_of
left_out table i l h = ap (λ (qs : List ℕ). filter (λ q. ltb 0 (frequency_at table q)) qs) (drop-cons complex_queries i 0 l ∙ ap (λ (n : ℕ). slice_index_or complex_queries i 0 ∷ drop n complex_queries) (after i)) ∙ falls (λ q. ltb 0 (frequency_at table q)) (slice_index_or complex_queries i 0) (drop (i + 1) complex_queries) (ap (λ (n : ℕ). ltb 0 n) h)

-- so many of all are passed by, and with the lists that are left these lists are complete
abbrev pub AreSoFar : FrequencyTable → List (List Query) → ℕ → (ℕ → List Query) → List (List Query) → Type 0
AreSoFar table done i f xss = AreOfEach (left_of table i) xss × (gain f (left_of table i) xss ≡ gain (λ q. []) (asked table) done)

module _ (table : FrequencyTable) (done : List (List Query)) where
  -- at first, over lists that are empty
  pub so_far_first : (f : ℕ → List Query) → ((q : ℕ) → f q ≡ []) → AreOfEach (asked table) done → AreSoFar table done 0 f done
  so_far_first f none h =
      let same : f ≡ (λ q. []) = (λ i q. none q i) in
      subst (λ (z : (ℕ → List Query) × List ℕ). AreOfEach z.1 done × (gain z.0 z.1 done ≡ gain (λ q. []) (asked table) done)) (λ i. (sym same i, sym (left_first table) i)) (h, refl)

  -- a query without a frequency is passed by
  pub so_far_out : (i : ℕ) (f : ℕ → List Query) (xss : List (List Query)) → i < COMPLEX_COUNT → frequency_at table (slice_index_or complex_queries i 0) ≡ 0 → AreSoFar table done i f xss → AreSoFar table done (i + 1) f xss
  so_far_out i f xss l e h = subst (λ (qs : List ℕ). AreOfEach qs xss × (gain f qs xss ≡ gain (λ q. []) (asked table) done)) (left_out table i l e) h

  module _ (i : ℕ) (l : i < COMPLEX_COUNT) (some : 0 < frequency_at table (slice_index_or complex_queries i 0)) (f : ℕ → List Query) (xss : List (List Query)) (h : AreSoFar table done i f xss) where
    begun : AreOfEach (slice_index_or complex_queries i 0 ∷ left_of table (i + 1)) xss × (gain f (slice_index_or complex_queries i 0 ∷ left_of table (i + 1)) xss ≡ gain (λ q. []) (asked table) done)
    begun = subst (λ (qs : List ℕ). AreOfEach qs xss × (gain f qs xss ≡ gain (λ q. []) (asked table) done)) (left_in table i l some) h

    -- there is a list for it
    pub list_left : xss ≢ []
    list_left e = subst (λ (yss : List (List Query)). AreOfEach (slice_index_or complex_queries i 0 ∷ left_of table (i + 1)) yss) e begun.0

    module _ (xs : List Query) (yss : List (List Query)) (e : xss ≡ xs ∷ yss) where
      next : AreOfEach (slice_index_or complex_queries i 0 ∷ left_of table (i + 1)) (xs ∷ yss) × (gain f (slice_index_or complex_queries i 0 ∷ left_of table (i + 1)) (xs ∷ yss) ≡ gain (λ q. []) (asked table) done)
      next = subst (λ (zss : List (List Query)). AreOfEach (slice_index_or complex_queries i 0 ∷ left_of table (i + 1)) zss × (gain f (slice_index_or complex_queries i 0 ∷ left_of table (i + 1)) zss ≡ gain (λ q. []) (asked table) done)) e begun

      -- the list is of its kind
      pub next_kind : AreOf (slice_index_or complex_queries i 0) xs
      next_kind = next.0.0

      -- the list is appended
      pub so_far_in : (g : ℕ → List Query) → g (slice_index_or complex_queries i 0) ≡ f (slice_index_or complex_queries i 0) ++ xs → ((p : ℕ) → p ≢ slice_index_or complex_queries i 0 → g p ≡ f p) → AreSoFar table done (i + 1) g yss
      so_far_in g at others =
          let q = slice_index_or complex_queries i 0 in
          let each : (p : ℕ) → with_list f q xs p ≡ g p = (λ p. elim (cases_eq p q) [ inl same ↦ subst (λ (z : ℕ). with_list f q xs z ≡ g z) (sym same) (here f q xs ∙ sym at) | inr not ↦ elsewhere f q p xs not ∙ sym (others p not) ]) in
          (next.0.1, subst (λ (k : ℕ → List Query). gain k (left_of table (i + 1)) yss ≡ gain (λ q. []) (asked table) done) (λ j p. each p j) next.1)

  -- then the lists are those that were appended
  pub so_far_last : (f : ℕ → List Query) (xss : List (List Query)) → AreSoFar table done COMPLEX_COUNT f xss → f ≡ gain (λ q. []) (asked table) done
  so_far_last f xss h = subst (λ (qs : List ℕ). gain f qs xss ≡ gain (λ q. []) (asked table) done) (left_last table) h.1

  -- over the lists as they are held, where the next query has a frequency, and where it has none
  pub held_in : (i : ℕ) → i < COMPLEX_COUNT → 0 < frequency_at table (slice_index_or complex_queries i 0) → (old new : QueryLists) (left rest : List (Vec Query Global)) (one : Vec Query Global) → AreSoFar table done i (λ q. list_of old q) (map (λ v. v.items) left) → left ≡ one ∷ rest → list_of new (slice_index_or complex_queries i 0) ≡ list_of old (slice_index_or complex_queries i 0) ++ one.items → ((p : ℕ) → p ≢ slice_index_or complex_queries i 0 → list_of new p ≡ list_of old p) → AreSoFar table done (i + 1) (λ q. list_of new q) (map (λ v. v.items) rest)
  held_in i l some old new left rest one h e at others = so_far_in i l some (λ q. list_of old q) (map (λ v. v.items) left) h one.items (map (λ v. v.items) rest) (ap (λ (vs : List (Vec Query Global)). map (λ v. v.items) vs) e) (λ q. list_of new q) at others

  pub held_out : (i : ℕ) → i < COMPLEX_COUNT → frequency_at table (slice_index_or complex_queries i 0) ≡ 0 → (old new : QueryLists) (left rest : List (Vec Query Global)) → AreSoFar table done i (λ q. list_of old q) (map (λ v. v.items) left) → new ≡ old → rest ≡ left → AreSoFar table done (i + 1) (λ q. list_of new q) (map (λ v. v.items) rest)
  held_out i l none old new left rest h e f = subst (λ (z : QueryLists × List (Vec Query Global)). AreSoFar table done (i + 1) (λ q. list_of z.0 q) (map (λ v. v.items) z.1)) (λ j. (sym e j, sym f j)) (so_far_out i (λ q. list_of old q) (map (λ v. v.items) left) l none h)
