-- Links in order, as runs of pairs.
use Rattle.std.proofs.Common.{◌≡◌, ◌≢◌, ◌↔◌, ◌⊎◌, inl, inr, ℕ, suc, ◌+◌, ◌-◌, ◌<◌, ◌≤◌, List, [], ◌∷◌, ◌++◌, Bool, true, false, cond, ◌&&◌, Option, Some, length, get_or, take, drop, map, filter, refl, sym, ap, ◌∙◌, subst, arith, nat_eq}
use Rattle.std.specs.Prelude.{unwrap_or}
use Rattle.std.specs.declared.cmp.Ordering.{Ordering}
use Rattle.std.specs.declared.cmp.Ordering.TheVariants.{Less, Equal, Greater}
use Rattle.std.specs.Ordering.{eq_by_cmp, is_eq, nat_cmp, ordering_then}
use Rattle.std.specs.Cmp.{IsEquivalence, IsTotalOrder, and_equiv, both_tied, first_so, nat_cmp_total, nat_eq_equiv, on_equiv, on_total, second_so, then_total, unsigned_ties}
use Rattle.std.specs.List.{AllByRecursion, Contains, dedup}
use Rattle.std.specs.List.Sorted.{IsPermutation, IsSorted, IsStrictlySortedBy}
use Rattle.std.specs.Map.{keys_of}
use Rattle.std.proofs.lemmas.Bool.Decides.{nat_tests}
use Rattle.std.proofs.lemmas.List.{append-nil, append_assoc, drop-append-le, length-append, length-drop, take_all}
use Rattle.std.proofs.lemmas.List.Kept.{Contains-dedup, Contains-from_dedup, IsStrictlySortedBy-dedup}
use Rattle.std.proofs.lemmas.List.Sorted.{Contains-permutation, IsPermutation-sym}
use Rattle.std.proofs.Math.Seq.{drop-cons}
use Rattle.std.proofs.Math.ListN.{drop_of_length-le}
use Rattle.snb_graph_maps.specs.Merged.{Rises}
use Rattle.snb_graph_links.specs.Pairs.{AreInOrder, AreRuns, AreSingle, IsSpan, by_ends, grown, of_number, pairs_at, part, runs_of}
use Rattle.std.proofs.lemmas.Cmp.{ranked}
use Rattle.snb_graph_links.proofs.PairLemmas.{same_test}
use Rattle.snb_graph_links.proofs.RunLemmas.{part_last, part_more}
use Rattle.snb_base.proofs.Laws.{all_of, all_recursive, compares_less, contains_cases, contains_here, contains_there}

abbrev pub Head : Type 0
Head = ℕ × (ℕ × ℕ)

test_below : (a b : ℕ) → nat_cmp a b ≡ Less → a < b
test_below a b e = ranked a b Less (sym e)

-- ---- what is so of each element

-- the first is below those after it, and those are in order
sorted_tail : {X : Type 0} (c : X → X → Ordering) (x : X) (xs : List X) → IsStrictlySortedBy c (x ∷ xs) → IsStrictlySortedBy c xs
unfolding IsStrictlySortedBy
sorted_tail c x xs s = s.1

recursive : {X : Type 0} (P : X → Type 0) (xs : List X) (y : X) → AllByRecursion P xs → Contains xs y → P y
recursive P [] y all c = absurd (omega (arith, c.1))
recursive P (x ∷ xs) y all c = elim (contains_cases x xs y c) [ inl e ↦ subst P e all.0 | inr d ↦ recursive P xs y all.1 d ]

sorted_below : {X : Type 0} (c : X → X → Ordering) (x : X) (xs : List X) (y : X) → IsStrictlySortedBy c (x ∷ xs) → Contains xs y → c x y ≡ Less
unfolding IsStrictlySortedBy
sorted_below c x xs y s has = recursive (λ y. c x y ≡ Less) xs y s.0 has

sorted_cons : {X : Type 0} (c : X → X → Ordering) (x : X) (xs : List X) → ((y : X) → Contains xs y → c x y ≡ Less) → IsStrictlySortedBy c xs → IsStrictlySortedBy c (x ∷ xs)
unfolding IsStrictlySortedBy
sorted_cons c x xs f s = (all_recursive (λ y. c x y ≡ Less) xs f, s)

sorted_none : {X : Type 0} (c : X → X → Ordering) → IsStrictlySortedBy c []
unfolding IsStrictlySortedBy
sorted_none c = tt

key_there : {X : Type 0} (es : List (ℕ × X)) (k : ℕ) → Contains (keys_of es) k → (e : ℕ × X) × Contains es e × (e.0 ≡ k)
key_there [] k c = absurd (omega (arith, c.1))
key_there (e ∷ es) k c = elim (contains_cases e.0 (keys_of es) k c) [
  | inl is ↦ (e, contains_here e es, is)
  | inr d ↦ let r = key_there es k d in (r.0, contains_there e es r.0 r.1, r.2)
]

key_here : {X : Type 0} (es : List (ℕ × X)) (e : ℕ × X) → Contains es e → Contains (keys_of es) e.0
key_here [] e c = absurd (omega (arith, c.1))
key_here {X = X} (f ∷ es) e c = elim (contains_cases f es e c) [
  | inl is ↦ subst (λ (g : ℕ × X). Contains (keys_of (f ∷ es)) g.0) is (contains_here f.0 (keys_of es))
  | inr d ↦ contains_there f.0 (keys_of es) e.0 (key_here es e d)
]

rises_cons : {X : Type 0} (h : ℕ × X) (hs : List (ℕ × X)) → ((g : ℕ × X) → Contains hs g → h.0 < g.0) → Rises nat_cmp hs → Rises nat_cmp (h ∷ hs)
rises_cons h hs f r = sorted_cons nat_cmp h.0 (keys_of hs) (λ k c. let g = key_there hs k c in compares_less h.0 k (subst (λ n. h.0 < n) g.2 (f g.0 g.1))) r

rises_below : {X : Type 0} (h : ℕ × X) (hs : List (ℕ × X)) (g : ℕ × X) → Rises nat_cmp (h ∷ hs) → Contains hs g → h.0 < g.0
rises_below h hs g r c = test_below h.0 g.0 (sorted_below nat_cmp h.0 (keys_of hs) g.0 r (key_here hs g c))

-- ---- the pairs of a number, in runs

at_cons : (h : Head) (hs : List Head) (ps : List (ℕ × ℕ)) (q : ℕ) → pairs_at (runs_of (h ∷ hs) ps) q ≡ cond (nat_eq h.0 q) (part ps h.1) (pairs_at (runs_of hs ps) q)
at_cons h hs ps q = by (is_eq (nat_cmp q h.0)) _ ∙ ap (λ b. cond b (part ps h.1) (pairs_at (runs_of hs ps) q)) (same_test q h.0)
  where
    by : (b : Bool) (o : Option (List (ℕ × ℕ))) → unwrap_or (cond b (Some (part ps h.1)) o) [] ≡ cond b (part ps h.1) (unwrap_or o [])
    by true o = refl
    by false o = refl

-- the last head's pairs are the last ones
abbrev pub IsOpen : List Head → ℕ → Type 0
IsOpen [] n = Unit {0}
IsOpen (h ∷ []) n = h.1.1 ≡ n
IsOpen (h ∷ g ∷ hs) n = IsOpen (g ∷ hs) n

part_grown : (ps : List (ℕ × ℕ)) (x : ℕ × ℕ) (begin end : ℕ) → begin ≤ length ps → end ≡ length (ps ++ x ∷ []) → part (ps ++ x ∷ []) (begin, end) ≡ part ps (begin, length ps) ++ x ∷ []
part_grown ps x begin end low is =
    let long : length (ps ++ x ∷ []) ≡ length ps + 1 = length-append ps (x ∷ []) in
    let left : length (drop begin ps) ≡ length ps - begin = length-drop begin ps in
    let both : length (drop begin ps ++ x ∷ []) ≡ length (drop begin ps) + 1 = length-append (drop begin ps) (x ∷ []) in
    ap (take (end - begin)) (drop-append-le begin ps (x ∷ []) low)
    ∙ take_all (end - begin) (drop begin ps ++ x ∷ []) (omega (arith, is, long, left, both))
    ∙ ap (λ ys. ys ++ x ∷ []) (sym (take_all (length ps - begin) (drop begin ps) (omega (arith, left))))

module _ (ps : List (ℕ × ℕ)) (x : ℕ × ℕ) (of end : ℕ) (is : end ≡ length (ps ++ x ∷ [])) where
  abbrev pub now : List (ℕ × ℕ)
  now = ps ++ x ∷ []

  -- one pair more at its number, and no other number's pairs change
  grown_at : (heads : List Head) (q : ℕ) → Rises nat_cmp heads → ((h : Head) → Contains heads h → IsSpan (length ps) h) → IsOpen heads (length ps) → ((h : Head) → Contains heads h → h.0 ≤ of) → pairs_at (runs_of (grown heads of (length ps, end)) now) q ≡ pairs_at (runs_of heads ps) q ++ cond (nat_eq of q) (x ∷ []) []
  grown_at [] q rises spans ends below = at_cons (of, (length ps, end)) [] now q ∙ ap (λ p. cond (nat_eq of q) p []) (part_last ps (x ∷ []) end is)
  grown_at (h ∷ []) q rises spans ends below = by (nat_eq h.0 of) refl
    where
      span : IsSpan (length ps) h
      span = spans h (contains_here h [])

      low : h.1.0 ≤ length ps
      low = let r = span.rises in let w = span.within in omega arith

      grows : part now (h.1.0, end) ≡ part ps h.1 ++ x ∷ []
      grows = part_grown ps x h.1.0 end low is ∙ ap (λ n. part ps (h.1.0, n) ++ x ∷ []) (sym ends)

      same : (b : Bool) → cond b (part now (h.1.0, end)) [] ≡ cond b (part ps h.1) [] ++ cond b (x ∷ []) []
      same true = grows
      same false = refl

      other : (b d : Bool) → (b ≡ true → d ≡ false) → cond b (part now h.1) (cond d (part now (length ps, end)) []) ≡ cond b (part ps h.1) [] ++ cond d (x ∷ []) []
      other true d apart = part_more ps (x ∷ []) h.1 span.rises span.within ∙ sym (ap (λ b. part ps h.1 ++ cond b (x ∷ []) []) (apart refl) ∙ append-nil (part ps h.1))
      other false true apart = part_last ps (x ∷ []) end is
      other false false apart = refl

      by : (b : Bool) → nat_eq h.0 of ≡ b → pairs_at (runs_of (cond b ((h.0, (h.1.0, end)) ∷ []) (h ∷ (of, (length ps, end)) ∷ [])) now) q ≡ pairs_at (runs_of (h ∷ []) ps) q ++ cond (nat_eq of q) (x ∷ []) []
      by true e =
          at_cons (h.0, (h.1.0, end)) [] now q
          ∙ same (nat_eq h.0 q)
          ∙ (λ i. sym (at_cons h [] ps q) i ++ cond (ap (λ n. nat_eq n q) (number h.0 of e) i) (x ∷ []) [])
        where
          number : (a b : ℕ) → nat_eq a b ≡ true → a ≡ b
          number a b e = grind (arith, nat_tests)
      by false e =
          at_cons h ((of, (length ps, end)) ∷ []) now q
          ∙ ap (λ p. cond (nat_eq h.0 q) (part now h.1) p) (at_cons (of, (length ps, end)) [] now q)
          ∙ other (nat_eq h.0 q) (nat_eq of q) (apart h.0 of q e)
          ∙ ap (λ p. p ++ cond (nat_eq of q) (x ∷ []) []) (sym (at_cons h [] ps q))
        where
          apart : (a b q : ℕ) → nat_eq a b ≡ false → nat_eq a q ≡ true → nat_eq b q ≡ false
          apart a b q e f = grind (arith, nat_tests)
  grown_at (h ∷ g ∷ hs) q rises spans ends below =
      at_cons h (grown (g ∷ hs) of (length ps, end)) now q
      ∙ by (nat_eq h.0 q) refl (grown_at (g ∷ hs) q (sorted_tail nat_cmp h.0 (keys_of (g ∷ hs)) rises) (λ k c. spans k (contains_there h (g ∷ hs) k c)) ends (λ k c. below k (contains_there h (g ∷ hs) k c)))
      ∙ ap (λ p. p ++ cond (nat_eq of q) (x ∷ []) []) (sym (at_cons h (g ∷ hs) ps q))
    where
      span : IsSpan (length ps) h
      span = spans h (contains_here h (g ∷ hs))

      before : h.0 < of
      before =
          let lt = rises_below h (g ∷ hs) g rises (contains_here g hs) in
          let le = below g (contains_there h (g ∷ hs) g (contains_here g hs)) in
          omega arith

      apart : (a b q : ℕ) → a < b → nat_eq a q ≡ true → nat_eq b q ≡ false
      apart a b q lt f = grind (arith, nat_tests)

      by : (b : Bool) → nat_eq h.0 q ≡ b → pairs_at (runs_of (grown (g ∷ hs) of (length ps, end)) now) q ≡ pairs_at (runs_of (g ∷ hs) ps) q ++ cond (nat_eq of q) (x ∷ []) [] → cond b (part now h.1) (pairs_at (runs_of (grown (g ∷ hs) of (length ps, end)) now) q) ≡ cond b (part ps h.1) (pairs_at (runs_of (g ∷ hs) ps) q) ++ cond (nat_eq of q) (x ∷ []) []
      by true e rest = part_more ps (x ∷ []) h.1 span.rises span.within ∙ sym (ap (λ b. part ps h.1 ++ cond b (x ∷ []) []) (apart h.0 of q before e) ∙ append-nil (part ps h.1))
      by false e rest = rest

-- ---- heads that grow

-- whether the last head is the number's
grown_last : (front : List Head) (h : Head) (of : ℕ) (span : ℕ × ℕ) → grown (front ++ h ∷ []) of span ≡ cond (nat_eq h.0 of) (front ++ (h.0, (h.1.0, span.1)) ∷ []) (front ++ h ∷ (of, span) ∷ [])
grown_last [] h of span = refl
grown_last (f ∷ []) h of span = by (nat_eq h.0 of)
  where
    by : (b : Bool) → f ∷ cond b ((h.0, (h.1.0, span.1)) ∷ []) (h ∷ (of, span) ∷ []) ≡ cond b (f ∷ (h.0, (h.1.0, span.1)) ∷ []) (f ∷ h ∷ (of, span) ∷ [])
    by true = refl
    by false = refl
grown_last (f ∷ g ∷ hs) h of span = ap (λ ks. f ∷ ks) (grown_last (g ∷ hs) h of span) ∙ by (nat_eq h.0 of)
  where
    by : (b : Bool) → f ∷ cond b (g ∷ hs ++ (h.0, (h.1.0, span.1)) ∷ []) (g ∷ hs ++ h ∷ (of, span) ∷ []) ≡ cond b (f ∷ g ∷ hs ++ (h.0, (h.1.0, span.1)) ∷ []) (f ∷ g ∷ hs ++ h ∷ (of, span) ∷ [])
    by true = refl
    by false = refl

pub grown_none : (heads front : List Head) (of : ℕ) (span : ℕ × ℕ) → heads ≡ front ++ [] → heads ≡ [] → front ++ (of, span) ∷ [] ≡ grown heads of span
grown_none heads front of span is none = ap (λ hs. hs ++ (of, span) ∷ []) (sym (append-nil front) ∙ sym is ∙ none) ∙ sym (ap (λ hs. grown hs of span) none)

pub grown_same : (heads front : List Head) (h : Head) (of end : ℕ) (span : ℕ × ℕ) → heads ≡ front ++ h ∷ [] → nat_eq h.0 of ≡ true → span.1 ≡ end → front ++ (h.0, (h.1.0, end)) ∷ [] ≡ grown heads of span
grown_same heads front h of end span is e last =
    ap (λ n. front ++ (h.0, (h.1.0, n)) ∷ []) (sym last)
    ∙ sym (ap (λ hs. grown hs of span) is ∙ grown_last front h of span ∙ ap (λ b. cond b (front ++ (h.0, (h.1.0, span.1)) ∷ []) (front ++ h ∷ (of, span) ∷ [])) e)

pub grown_other : (heads front : List Head) (h : Head) (of : ℕ) (span : ℕ × ℕ) → heads ≡ front ++ h ∷ [] → nat_eq h.0 of ≡ false → (front ++ h ∷ []) ++ (of, span) ∷ [] ≡ grown heads of span
grown_other heads front h of span is e =
    append_assoc front (h ∷ []) ((of, span) ∷ [])
    ∙ sym (ap (λ hs. grown hs of span) is ∙ grown_last front h of span ∙ ap (λ b. cond b (front ++ (h.0, (h.1.0, span.1)) ∷ []) (front ++ h ∷ (of, span) ∷ [])) e)

module _ (of : ℕ) (span : ℕ × ℕ) where
  -- a head is one of those before, perhaps with a later end, or the new one
  grown_has : (heads : List Head) (h : Head) → Contains (grown heads of span) h → ((g : Head) × Contains heads g × (g.0 ≡ h.0) × (g.1.0 ≡ h.1.0) × ((g.1.1 ≡ h.1.1) ⊎ (span.1 ≡ h.1.1))) ⊎ ((of, span) ≡ h)
  grown_has [] h c = elim (contains_cases (of, span) [] h c) [ inl e ↦ inr e | inr d ↦ absurd (omega (arith, d.1)) ]
  grown_has (g ∷ []) h c = by (nat_eq g.0 of) c
    where
      by : (b : Bool) → Contains (cond b ((g.0, (g.1.0, span.1)) ∷ []) (g ∷ (of, span) ∷ [])) h → ((k : Head) × Contains (g ∷ []) k × (k.0 ≡ h.0) × (k.1.0 ≡ h.1.0) × ((k.1.1 ≡ h.1.1) ⊎ (span.1 ≡ h.1.1))) ⊎ ((of, span) ≡ h)
      by true c = elim (contains_cases (g.0, (g.1.0, span.1)) [] h c) [
        | inl e ↦ inl (g, contains_here g [], ap (λ (k : Head). k.0) e, ap (λ (k : Head). k.1.0) e, inr (ap (λ (k : Head). k.1.1) e))
        | inr d ↦ absurd (omega (arith, d.1))
      ]
      by false c = elim (contains_cases g ((of, span) ∷ []) h c) [
        | inl e ↦ inl (g, contains_here g [], ap (λ (k : Head). k.0) e, ap (λ (k : Head). k.1.0) e, inl (ap (λ (k : Head). k.1.1) e))
        | inr d ↦ elim (contains_cases (of, span) [] h d) [ inl e ↦ inr e | inr n ↦ absurd (omega (arith, n.1)) ]
      ]
  grown_has (g ∷ f ∷ hs) h c = elim (contains_cases g (grown (f ∷ hs) of span) h c) [
    | inl e ↦ inl (g, contains_here g (f ∷ hs), ap (λ (k : Head). k.0) e, ap (λ (k : Head). k.1.0) e, inl (ap (λ (k : Head). k.1.1) e))
    | inr d ↦ elim (grown_has (f ∷ hs) h d) [
      | inl r ↦ inl (r.0, contains_there g (f ∷ hs) r.0 r.1, r.2, r.3, r.4)
      | inr e ↦ inr e
    ]
  ]

  one_rises : Rises nat_cmp ((of, span) ∷ [])
  one_rises = rises_cons {X = ℕ × ℕ} (of, span) [] (λ g c. absurd (omega (arith, c.1))) (sorted_none nat_cmp)

  grown_rises : (heads : List Head) → Rises nat_cmp heads → ((h : Head) → Contains heads h → h.0 ≤ of) → Rises nat_cmp (grown heads of span)
  grown_rises [] rises below = one_rises
  grown_rises (h ∷ []) rises below = by (nat_eq h.0 of) refl
    where
      less : (a b : ℕ) → a ≤ b → nat_eq a b ≡ false → a < b
      less a b le e = grind (arith, nat_tests)

      by : (b : Bool) → nat_eq h.0 of ≡ b → Rises nat_cmp (cond b ((h.0, (h.1.0, span.1)) ∷ []) (h ∷ (of, span) ∷ []))
      by true e = rises_cons {X = ℕ × ℕ} (h.0, (h.1.0, span.1)) [] (λ g c. absurd (omega (arith, c.1))) (sorted_none nat_cmp)
      by false e = rises_cons h ((of, span) ∷ []) (λ g c. elim (contains_cases (of, span) [] g c) [
        | inl is ↦ subst (λ (k : Head). h.0 < k.0) is (less h.0 of (below h (contains_here h [])) e)
        | inr d ↦ absurd (omega (arith, d.1))
      ]) one_rises
  grown_rises (h ∷ g ∷ hs) rises below =
      rises_cons h (grown (g ∷ hs) of span) (λ k c. elim (grown_has (g ∷ hs) k c) [
        | inl r ↦ subst (λ n. h.0 < n) r.2 (rises_below h (g ∷ hs) r.0 rises r.1)
        | inr e ↦
            let lt = rises_below h (g ∷ hs) g rises (contains_here g hs) in
            let le = below g (contains_there h (g ∷ hs) g (contains_here g hs)) in
            subst (λ (k : Head). h.0 < k.0) e (omega arith)
      ]) (grown_rises (g ∷ hs) (sorted_tail nat_cmp h.0 (keys_of (g ∷ hs)) rises) (λ k c. below k (contains_there h (g ∷ hs) k c)))

  grown_some : (g : Head) (hs : List Head) → [] ≢ grown (g ∷ hs) of span
  grown_some g [] e = by (nat_eq g.0 of) e
    where
      by : (b : Bool) → [] ≢ cond b ((g.0, (g.1.0, span.1)) ∷ []) (g ∷ (of, span) ∷ [])
      by true e = absurd cc
      by false e = absurd cc
  grown_some g (f ∷ hs) e = absurd cc

  grown_open : (heads : List Head) → IsOpen (grown heads of span) span.1
  grown_open [] = refl
  grown_open (h ∷ []) = by (nat_eq h.0 of)
    where
      by : (b : Bool) → IsOpen (cond b ((h.0, (h.1.0, span.1)) ∷ []) (h ∷ (of, span) ∷ [])) span.1
      by true = refl
      by false = refl
  grown_open (h ∷ g ∷ hs) = next (grown (g ∷ hs) of span) refl (grown_open (g ∷ hs))
    where
      next : (ks : List Head) → ks ≡ grown (g ∷ hs) of span → IsOpen ks span.1 → IsOpen (h ∷ ks) span.1
      next [] e ends = absurd (grown_some g hs e)
      next (k ∷ ks) e ends = ends

-- heads and pairs of links, as far as some
pub record AreFilled (links : List (ℕ × (ℕ × ℕ))) (heads : List (ℕ × (ℕ × ℕ))) (ps : List (ℕ × ℕ)) (n : ℕ) : Type 0 where
  pub rises : Rises nat_cmp heads
  pub spans : (h : ℕ × (ℕ × ℕ)) → Contains heads h → IsSpan (length ps) h
  pub ends : IsOpen heads (length ps)
  pub below : (h l : ℕ × (ℕ × ℕ)) → Contains heads h → Contains (drop n links) l → h.0 ≤ l.0
  pub sorted : AreInOrder (drop n links)
  pub same : (q : ℕ) → pairs_at (runs_of heads ps) q ++ of_number q (drop n links) ≡ of_number q links

pub filled_none : (links : List (ℕ × (ℕ × ℕ))) → AreInOrder links → AreFilled links [] [] 0
filled_none links sorted = record {
  rises = sorted_none nat_cmp;
  spans = λ h c. absurd (omega (arith, c.1));
  ends = tt;
  below = λ h l c d. absurd (omega (arith, c.1));
  sorted = sorted;
  same = λ q. refl;
}

pub filled_runs : (links : List (ℕ × (ℕ × ℕ))) (heads : List (ℕ × (ℕ × ℕ))) (ps : List (ℕ × ℕ)) (n : ℕ) → AreFilled links heads ps n → AreRuns heads ps
filled_runs links heads ps n f = record { rises = f.rises; spans = all_of (IsSpan (length ps)) heads f.spans }

pub filled_whole : (links : List (ℕ × (ℕ × ℕ))) (heads : List (ℕ × (ℕ × ℕ))) (ps : List (ℕ × ℕ)) (n : ℕ) → drop n links ≡ [] → AreFilled links heads ps n → (q : ℕ) → pairs_at (runs_of heads ps) q ≡ of_number q links
filled_whole links heads ps n none f q = sym (append-nil (pairs_at (runs_of heads ps) q)) ∙ ap (λ ls. pairs_at (runs_of heads ps) q ++ of_number q ls) (sym none) ∙ f.same q

-- links in order rise by number
number_below : (l k : ℕ × (ℕ × ℕ)) → by_ends l k ≡ Less → l.0 ≤ k.0
number_below l k e = by (nat_cmp l.0 k.0) refl e
  where
    by : (o : Ordering) → nat_cmp l.0 k.0 ≡ o → ordering_then o (nat_cmp l.1.0 k.1.0) ≡ Less → l.0 ≤ k.0
    by Less is e = let lt = test_below l.0 k.0 is in omega arith
    by Equal is e = let same = ranked l.0 k.0 Equal (sym is) in omega arith
    by Greater is e = absurd cc

pub filled_more : (links : List (ℕ × (ℕ × ℕ))) (heads : List (ℕ × (ℕ × ℕ))) (ps : List (ℕ × ℕ)) (n : ℕ) (l : ℕ × (ℕ × ℕ)) (end m : ℕ) → drop n links ≡ l ∷ drop m links → end ≡ length (ps ++ l.1 ∷ []) → AreFilled links heads ps n → AreFilled links (grown heads l.0 (length ps, end)) (ps ++ l.1 ∷ []) m
filled_more links heads ps n l end m next is f = record {
  rises = grown_rises l.0 (length ps, end) heads f.rises under;
  spans = λ h c. elim (grown_has l.0 (length ps, end) heads h c) [
    | inl r ↦
        let span = f.spans r.0 r.1 in
        let low = span.rises in
        let high = span.within in
        let begin = r.3 in
        elim r.4 [
          | inl e ↦ record { rises = omega (arith, low, begin, e); within = omega (arith, high, e, is, long) }
          | inr e ↦ record { rises = omega (arith, low, high, begin, e, is, long); within = omega (arith, e, is) }
        ]
    | inr e ↦ subst (IsSpan (length (ps ++ l.1 ∷ []))) e (record { rises = omega (arith, is, long); within = omega (arith, is) })
  ];
  ends = subst (IsOpen (grown heads l.0 (length ps, end))) is (grown_open l.0 (length ps, end) heads);
  below = λ h k c d. elim (grown_has l.0 (length ps, end) heads h c) [
    | inl r ↦ subst (λ m. m ≤ k.0) r.2 (f.below r.0 k r.1 (there k d))
    | inr e ↦ subst (λ (g : Head). g.0 ≤ k.0) e (number_below l k (sorted_below by_ends l (drop m links) k sorted d))
  ];
  sorted = sorted_tail by_ends l (drop m links) sorted;
  same = λ q.
      ap (λ ps. ps ++ of_number q (drop m links)) (grown_at ps l.1 l.0 end is heads q f.rises f.spans f.ends under)
      ∙ append_assoc (pairs_at (runs_of heads ps) q) (cond (nat_eq l.0 q) (l.1 ∷ []) []) (of_number q (drop m links))
      ∙ ap (λ xs. pairs_at (runs_of heads ps) q ++ xs) (picks q (nat_eq l.0 q) ∙ ap (of_number q) (sym next))
      ∙ f.same q;
}
  where
    sorted : AreInOrder (l ∷ drop m links)
    sorted = subst AreInOrder next f.sorted

    there : (k : ℕ × (ℕ × ℕ)) → Contains (drop m links) k → Contains (drop n links) k
    there k d = subst (λ ls. Contains ls k) (sym next) (contains_there l (drop m links) k d)

    under : (h : Head) → Contains heads h → h.0 ≤ l.0
    under h c = f.below h l c (subst (λ ls. Contains ls l) (sym next) (contains_here l (drop m links)))

    long : length (ps ++ l.1 ∷ []) ≡ length ps + 1
    long = length-append ps (l.1 ∷ [])

    picks : (q : ℕ) (b : Bool) → cond b (l.1 ∷ []) [] ++ of_number q (drop m links) ≡ map (λ k. k.1) (cond b (l ∷ filter (λ k. nat_eq k.0 q) (drop m links)) (filter (λ k. nat_eq k.0 q) (drop m links)))
    picks q true = refl
    picks q false = refl

-- what is left from one place on begins with what stands there
pub next_link : (links : List (ℕ × (ℕ × ℕ))) (n m : ℕ) (d : ℕ × (ℕ × ℕ)) → n < length links → m ≡ n + 1 → drop n links ≡ get_or links n d ∷ drop m links
next_link links n m d lt is = drop-cons links n d lt ∙ ap (λ k. get_or links n d ∷ drop k links) (suc_is n m is)
  where
    suc_is : (n m : ℕ) → m ≡ n + 1 → suc n ≡ m
    suc_is n m is = omega arith

pub no_link_left : (links : List (ℕ × (ℕ × ℕ))) (n : ℕ) → length links ≤ n → drop n links ≡ []
no_link_left links n le = drop_of_length-le links le

-- ---- links that were sorted, without repeats

abbrev pub by_all : ℕ × (ℕ × ℕ) → ℕ × (ℕ × ℕ) → Ordering
by_all x y = ordering_then (nat_cmp x.0 y.0) (ordering_then (nat_cmp x.1.0 y.1.0) (nat_cmp x.1.1 y.1.1))

abbrev pub same_link : ℕ × (ℕ × ℕ) → ℕ × (ℕ × ℕ) → Bool
same_link x y = nat_eq x.0 y.0 && (nat_eq x.1.0 y.1.0 && nat_eq x.1.1 y.1.1)

all_total : IsTotalOrder by_all
all_total = then_total (on_total (λ (x : ℕ × (ℕ × ℕ)). x.0) nat_cmp_total) (on_total (λ (x : ℕ × (ℕ × ℕ)). x.1) (then_total (on_total (λ (x : ℕ × ℕ). x.0) nat_cmp_total) (on_total (λ (x : ℕ × ℕ). x.1) nat_cmp_total)))

same_tied : (x y : ℕ × (ℕ × ℕ)) → same_link x y ≡ eq_by_cmp by_all x y
same_tied x y = both_tied _ _ (nat_cmp x.0 y.0) _ (unsigned_ties x.0 y.0) (both_tied _ _ (nat_cmp x.1.0 y.1.0) (nat_cmp x.1.1 y.1.1) (unsigned_ties x.1.0 y.1.0) (unsigned_ties x.1.1 y.1.1))

same_equiv : IsEquivalence same_link
same_equiv = and_equiv (on_equiv (λ (x : ℕ × (ℕ × ℕ)). x.0) nat_eq_equiv) (on_equiv (λ (x : ℕ × (ℕ × ℕ)). x.1) (and_equiv (on_equiv (λ (x : ℕ × ℕ). x.0) nat_eq_equiv) (on_equiv (λ (x : ℕ × ℕ). x.1) nat_eq_equiv)))

same_exact : (x y : ℕ × (ℕ × ℕ)) → same_link x y ≡ true → x ≡ y
same_exact x y e =
    let one = first_so (nat_eq x.0 y.0) (nat_eq x.1.0 y.1.0 && nat_eq x.1.1 y.1.1) e in
    let rest = second_so (nat_eq x.0 y.0) (nat_eq x.1.0 y.1.0 && nat_eq x.1.1 y.1.1) e in
    let two = first_so (nat_eq x.1.0 y.1.0) (nat_eq x.1.1 y.1.1) rest in
    let three = second_so (nat_eq x.1.0 y.1.0) (nat_eq x.1.1 y.1.1) rest in
    let a = number x.0 y.0 one in
    let b = number x.1.0 y.1.0 two in
    let d = number x.1.1 y.1.1 three in
    λ i. (a i, (b i, d i))
  where
    number : (a b : ℕ) → nat_eq a b ≡ true → a ≡ b
    number a b e = grind (arith, nat_tests)

-- the links that are left are those that there were
pub kept_links : (links mid left : List (ℕ × (ℕ × ℕ))) → IsPermutation links mid → left ≡ dedup same_link mid → (l : ℕ × (ℕ × ℕ)) → Contains left l ↔ Contains links l
kept_links links mid left perm is l = (
  λ c. Contains-permutation mid links l (IsPermutation-sym links mid perm) (Contains-from_dedup same_link mid l (subst (λ ls. Contains ls l) is c)),
  λ c. subst (λ ls. Contains ls l) (sym is) (Contains-dedup same_equiv same_exact mid l (Contains-permutation links mid l perm c)),
)

ends_below : (l k : ℕ × (ℕ × ℕ)) → (l.0 ≡ k.0 → l.1.0 ≡ k.1.0 → l.1.1 ≡ k.1.1) → by_all l k ≡ Less → by_ends l k ≡ Less
ends_below l k single e = by (nat_cmp l.0 k.0) refl e
  where
    later : (o : Ordering) → l.0 ≡ k.0 → nat_cmp l.1.0 k.1.0 ≡ o → ordering_then o (nat_cmp l.1.1 k.1.1) ≡ Less → o ≡ Less
    later Less same is e = refl
    later Equal same is e =
        let date = single same (ranked l.1.0 k.1.0 Equal (sym is)) in
        let less = test_below l.1.1 k.1.1 e in
        absurd (omega arith)
    later Greater same is e = absurd cc

    by : (o : Ordering) → nat_cmp l.0 k.0 ≡ o → ordering_then o (ordering_then (nat_cmp l.1.0 k.1.0) (nat_cmp l.1.1 k.1.1)) ≡ Less → ordering_then (nat_cmp l.0 k.0) (nat_cmp l.1.0 k.1.0) ≡ Less
    by Less is e = ap (λ o. ordering_then o (nat_cmp l.1.0 k.1.0)) is
    by Equal is e = ap (λ o. ordering_then o (nat_cmp l.1.0 k.1.0)) is ∙ later (nat_cmp l.1.0 k.1.0) (ranked l.0 k.0 Equal (sym is)) refl e
    by Greater is e = absurd cc

ends_sorted : (ls : List (ℕ × (ℕ × ℕ))) → AreSingle ls → IsStrictlySortedBy by_all ls → IsStrictlySortedBy by_ends ls
ends_sorted [] single s = sorted_none by_ends
ends_sorted (l ∷ ls) single s =
    sorted_cons by_ends l ls
    (λ k c. ends_below l k (λ of id. single k.0 k.1.0 l.1.1 k.1.1 (subst (λ (x : ℕ × (ℕ × ℕ)). Contains (l ∷ ls) x) (λ i. (of i, (id i, l.1.1))) (contains_here l ls)) (contains_there l ls k c)) (sorted_below by_all l ls k s c))
    (ends_sorted ls (λ of id d e c g. single of id d e (contains_there l ls (of, (id, d)) c) (contains_there l ls (of, (id, e)) g)) (sorted_tail by_all l ls s))

pub in_order : (links mid left : List (ℕ × (ℕ × ℕ))) → AreSingle links → IsPermutation links mid → IsSorted by_all mid → left ≡ dedup same_link mid → AreInOrder left
in_order links mid left single perm sorted is =
    ends_sorted left
    (λ of id d e c g. single of id d e ((kept_links links mid left perm is (of, (id, d))).0 c) ((kept_links links mid left perm is (of, (id, e))).0 g))
    (subst (IsStrictlySortedBy by_all) (sym is) (IsStrictlySortedBy-dedup all_total same_tied mid sorted))

-- ---- the pairs of a number

pub of_number_has : (q : ℕ) (ls : List (ℕ × (ℕ × ℕ))) (x : ℕ × ℕ) → Contains (of_number q ls) x ↔ Contains ls (q, x)
of_number_has q [] x = (λ c. absurd (omega (arith, c.1)), λ c. absurd (omega (arith, c.1)))
of_number_has q (l ∷ ls) x = by (nat_eq l.0 q) refl (of_number_has q ls x)
  where
    number : (a b : ℕ) → nat_eq a b ≡ true → a ≡ b
    number a b e = grind (arith, nat_tests)

    other : (a b : ℕ) → nat_eq a b ≡ false → a ≢ b
    other a b e = grind (arith, nat_tests)

    by : (b : Bool) → nat_eq l.0 q ≡ b → (Contains (of_number q ls) x ↔ Contains ls (q, x)) → (Contains (map (λ k. k.1) (cond b (l ∷ filter (λ k. nat_eq k.0 q) ls) (filter (λ k. nat_eq k.0 q) ls))) x ↔ Contains (l ∷ ls) (q, x))
    by true e rest = (
      λ c. elim (contains_cases l.1 (of_number q ls) x c) [
        | inl is ↦ (let same = number l.0 q e in subst (λ (k : ℕ × (ℕ × ℕ)). Contains (l ∷ ls) k) (λ i. (same i, is i)) (contains_here l ls))
        | inr d ↦ contains_there l ls (q, x) (rest.0 d)
      ],
      λ c. elim (contains_cases l ls (q, x) c) [
        | inl is ↦ subst (λ y. Contains (l.1 ∷ of_number q ls) y) (ap (λ (k : ℕ × (ℕ × ℕ)). k.1) is) (contains_here l.1 (of_number q ls))
        | inr d ↦ contains_there l.1 (of_number q ls) x (rest.1 d)
      ],
    )
    by false e rest = (
      λ c. contains_there l ls (q, x) (rest.0 c),
      λ c. elim (contains_cases l ls (q, x) c) [
        | inl is ↦ absurd (other l.0 q e (ap (λ (k : ℕ × (ℕ × ℕ)). k.0) is))
        | inr d ↦ rest.1 d
      ],
    )

pub of_number_rises : (q : ℕ) (ls : List (ℕ × (ℕ × ℕ))) → AreInOrder ls → Rises nat_cmp (of_number q ls)
of_number_rises q [] sorted = sorted_none nat_cmp
of_number_rises q (l ∷ ls) sorted = by (nat_eq l.0 q) refl (of_number_rises q ls (sorted_tail by_ends l ls sorted))
  where
    number : (a b : ℕ) → nat_eq a b ≡ true → a ≡ b
    number a b e = grind (arith, nat_tests)

    later : (k : ℕ × (ℕ × ℕ)) → l.0 ≡ k.0 → by_ends l k ≡ Less → l.1.0 < k.1.0
    later k same e = go (nat_cmp l.0 k.0) refl e
      where
        go : (o : Ordering) → nat_cmp l.0 k.0 ≡ o → ordering_then o (nat_cmp l.1.0 k.1.0) ≡ Less → l.1.0 < k.1.0
        go Less is e = let lt = test_below l.0 k.0 is in absurd (omega arith)
        go Equal is e = test_below l.1.0 k.1.0 e
        go Greater is e = absurd cc

    by : (b : Bool) → nat_eq l.0 q ≡ b → Rises nat_cmp (of_number q ls) → Rises nat_cmp (map (λ k. k.1) (cond b (l ∷ filter (λ k. nat_eq k.0 q) ls) (filter (λ k. nat_eq k.0 q) ls)))
    by true e rest = rises_cons l.1 (of_number q ls) (λ x c. later (q, x) (number l.0 q e) (sorted_below by_ends l ls (q, x) sorted ((of_number_has q ls x).0 c))) rest
    by false e rest = rest
