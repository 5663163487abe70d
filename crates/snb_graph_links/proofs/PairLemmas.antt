-- What an edit of one list of pairs does to the pairs of each number.
use Rattle.std.proofs.Common.{◌≡◌, ◌≢◌, ℕ, zero, suc, ◌+◌, ◌<◌, ◌≤◌, List, [], ◌∷◌, Option, Some, None, Bool, true, false, cond, length, get_or, drop, refl, sym, ◌∙◌, ap, subst, arith, is_some, nat_eq, ltb, not, Vec, Result, Ok, Err, OnOk, OnErr}
use Rattle.std.specs.Prelude.{unwrap_or}
use mathlib.Core.Bool.{false≢true}
use Rattle.std.specs.Ordering.{nat_cmp, is_eq, match_ordering}
use Rattle.std.specs.declared.cmp.Ordering.{Ordering}
use Rattle.std.specs.declared.cmp.Ordering.TheVariants.{Less, Equal, Greater}
use Rattle.std.specs.Cmp.{nat_cmp_total, nat_cmp_is, unsigned_tied, nat_eq_equiv}
use Rattle.std.proofs.lemmas.Cmp.{ranked}
use Rattle.std.specs.BTreeMap.{insert_entry, is_at}
use Rattle.std.specs.List.{insert, AllWithin}
use Rattle.std.specs.List.Sorted.{IsStrictlySortedBy, IsNonDecreasingBy, IsPartitionedBy}
use Rattle.std.specs.Map.{keys_of}
use Rattle.std.proofs.lemmas.List.{drop_more}
use Rattle.std.proofs.lemmas.List.Sorted.{IsPartitionedBy-ltb, IsNonDecreasingBy-from_default}
use Rattle.std.proofs.lemmas.Map.Keys.{below_from_sorted}
use Rattle.std.proofs.lemmas.Map.Entries.{length-keys_of}
use Rattle.std.proofs.Math.ListN.{get_or-map}
use Rattle.std.specs.Option.{option_map, option_or}
use Rattle.std.specs.List.{AllZip, AllByRecursion}
use Rattle.std.specs.Cmp.{eq_by_cmp_equiv}
use Rattle.std.proofs.lemmas.Map.Lookups.{exact_unsigned}
use Rattle.std.proofs.lemmas.Map.Made.{lookup-map_values}
use Rattle.std.proofs.lemmas.Bool.Decides.{nat_tests}
use Rattle.snb_graph_maps.specs.Merged.{value_at, merged, Rises, AreParts}
use Rattle.snb_graph_links.specs.Pairs.{Lists, lists_of, pairs_at, pairs_of, PutsPair, TakesPair, AddsPair, ArePairParts, without, runs_of, part}
use Rattle.snb_base.proofs.Laws.{compares_greater}
use Rattle.std.proofs.lemmas.Bool.{lt-ltb}
use Rattle.snb_graph_maps.proofs.Laws.{merged-insert, merged-nil, parts-insert, rises-insert, value_at-insert, value_at-merged, value_below}

test_less : (a b : ℕ) → ltb a b ≡ true → a < b
test_less a b h = grind (arith, nat_tests)

is_equal : (a : ℕ) → nat_cmp a a ≡ Equal
is_equal a = sym (nat_cmp_is a a Equal refl)

pub same_test : (of q : ℕ) → is_eq (nat_cmp of q) ≡ nat_eq q of
same_test of q = unsigned_tied of q ∙ nat_eq_equiv.symm of q

-- the keys of a list in order rise by places
nondecreasing : (xs : List (ℕ × ℕ)) → Rises nat_cmp xs → IsNonDecreasingBy (λ p. p.0) xs
nondecreasing xs h = IsNonDecreasingBy-from_default (λ p. p.0) xs (0, 0) (λ i j le lt.
    let same : (n : ℕ) → get_or (keys_of xs) n 0 ≡ (get_or xs n (0, 0)).0 = λ n. get_or-map (λ (p : ℕ × ℕ). p.0) xs n (0, 0) in
    let long : length (keys_of xs) ≡ length xs = length-keys_of xs in
    let rise : i < j → get_or (keys_of xs) i 0 < get_or (keys_of xs) j 0 = λ less. below_from_sorted (keys_of xs) i j 0 h less (omega arith) in
    grind (arith, same i, same j, rise, λ (e : i ≡ j). ap (λ n. (get_or xs n (0, 0)).0) e))

pub partitioned : (xs : List (ℕ × ℕ)) (k : ℕ) → Rises nat_cmp xs → IsPartitionedBy (λ p. ltb p.0 k) xs
partitioned xs k h = IsPartitionedBy-ltb (λ (p : ℕ × ℕ). p.0) xs k (nondecreasing xs h)

-- a pair put between the smaller and the greater ids goes to its place
pub insert_at : (xs : List (ℕ × ℕ)) (i k v : ℕ) → AllWithin (λ p. ltb p.0 k ≡ true) xs 0 i → AllWithin (λ p. ltb p.0 k ≡ false) xs i (length xs) → value_at nat_cmp xs k ≡ None → i ≤ length xs → insert xs i (k, v) ≡ insert_entry nat_cmp xs k v
insert_at [] zero k v lo hi none le = refl
insert_at [] (suc i) k v lo hi none le = absurd (omega arith)
insert_at (x ∷ xs) zero k v lo hi none le = go (nat_cmp k x.0) refl
  where
    not_less : ltb x.0 k ≡ false
    not_less = hi 0 (0, 0) (omega arith) (omega arith)

    go : (r : Ordering) → nat_cmp k x.0 ≡ r → (k, v) ∷ x ∷ xs ≡ match_ordering (nat_cmp k x.0) ((k, v) ∷ x ∷ xs) ((x.0, v) ∷ xs) (x ∷ insert_entry nat_cmp xs k v)
    go Less e = rw e refl
    go Equal e = absurd (false≢true (sym (ap is_some (sym (ap (λ r. cond (is_eq r) (Some x.1) (value_at nat_cmp xs k)) e) ∙ none))))
    go Greater e = absurd (false≢true (sym not_less ∙ lt-ltb x.0 k (ranked k x.0 Greater (sym e))))
insert_at (x ∷ xs) (suc i) k v lo hi none le =
    let above : nat_cmp k x.0 ≡ Greater = compares_greater k x.0 (test_less x.0 k (lo 0 (0, 0) (omega arith) (omega arith))) in
    let rest = insert_at xs i k v (λ j d l h. lo (suc j) d (omega arith) (omega arith)) (λ j d l h. hi (suc j) d (omega arith) (omega arith)) (ap (λ r. cond (is_eq r) (Some x.1) (value_at nat_cmp xs k)) (sym above) ∙ none) (omega arith) in
    rw above (ap (λ ys. x ∷ ys) rest)

-- the pairs of a number after a vector is written at one
pub puts_from : {Z : Type 0} (es gs : List (ℕ × Vec (ℕ × ℕ) Z)) (of : ℕ) (w : Vec (ℕ × ℕ) Z) (items : List (ℕ × ℕ)) → w.items ≡ items → ((q : ℕ) → value_at nat_cmp gs q ≡ cond (is_at (nat_cmp of) q) (Some w) (value_at nat_cmp es q)) → (q : ℕ) → pairs_at (lists_of gs) q ≡ cond (nat_eq q of) items (pairs_at (lists_of es) q)
puts_from {Z = Z} es gs of w items is h q =
    ap (λ p. unwrap_or p []) (in_lists gs q ∙ ap (option_map (λ v. v.items)) (h q))
    ∙ by (is_eq (nat_cmp of q)) (value_at nat_cmp es q)
    ∙ ap (λ b. cond b items (unwrap_or (option_map (λ v. v.items) (value_at nat_cmp es q)) [])) (same_test of q)
    ∙ ap (λ p. cond (nat_eq q of) items (unwrap_or p [])) (sym (in_lists es q))
  where
    in_lists : (fs : List (ℕ × Vec (ℕ × ℕ) Z)) (q : ℕ) → value_at nat_cmp (lists_of fs) q ≡ option_map (λ v. v.items) (value_at nat_cmp fs q)
    in_lists fs q = lookup-map_values (λ v. v.items) (is_at (nat_cmp q)) fs

    by : (b : Bool) (p : Option (Vec (ℕ × ℕ) Z)) → unwrap_or (option_map (λ v. v.items) (cond b (Some w) p)) [] ≡ cond b items (unwrap_or (option_map (λ v. v.items) p) [])
    by true p = is
    by false p = refl

-- the pairs of a number that has a vector
pub pairs_at_some : {Z : Type 0} (es : List (ℕ × Vec (ℕ × ℕ) Z)) (q : ℕ) (w : Vec (ℕ × ℕ) Z) → Some w ≡ value_at nat_cmp es q → pairs_at (lists_of es) q ≡ w.items
pairs_at_some es q w e = ap (λ p. unwrap_or p []) (lookup-map_values (λ v. v.items) (is_at (nat_cmp q)) es ∙ ap (option_map (λ v. v.items)) (sym e))

pub pairs_at_none : {Z : Type 0} (es : List (ℕ × Vec (ℕ × ℕ) Z)) (q : ℕ) → None ≡ value_at nat_cmp es q → pairs_at (lists_of es) q ≡ []
pairs_at_none es q e = ap (λ p. unwrap_or p []) (lookup-map_values (λ v. v.items) (is_at (nat_cmp q)) es ∙ ap (option_map (λ v. v.items)) (sym e))

-- where the vector that is written has the items that were there, nothing changes
pub puts_same : {Z : Type 0} (es gs : List (ℕ × Vec (ℕ × ℕ) Z)) (of : ℕ) (w : Vec (ℕ × ℕ) Z) → w.items ≡ pairs_at (lists_of es) of → ((q : ℕ) → value_at nat_cmp gs q ≡ cond (is_at (nat_cmp of) q) (Some w) (value_at nat_cmp es q)) → (q : ℕ) → pairs_at (lists_of gs) q ≡ pairs_at (lists_of es) q
puts_same es gs of w is h q = puts_from es gs of w (pairs_at (lists_of es) of) is h q ∙ by (nat_eq q of) refl
  where
    by : (b : Bool) → nat_eq q of ≡ b → cond b (pairs_at (lists_of es) of) (pairs_at (lists_of es) q) ≡ pairs_at (lists_of es) q
    by true e = let same : of ≡ q = grind (arith, nat_tests) in ap (pairs_at (lists_of es)) same
    by false e = refl

-- ---- the two parts of an index

none_of : {X : Type 0} (p r : Option X) → option_or p r ≡ None → (p ≡ None) × (r ≡ None)
none_of None r e = (refl, e)
none_of (Some x) r e = absurd (false≢true (sym (ap is_some e)))

-- an id that the pairs of a number lack is in neither part
pub none_parts : (es fs : List (ℕ × ℕ)) (k : ℕ) → value_at nat_cmp (merged nat_cmp es fs) k ≡ None → (value_at nat_cmp fs k ≡ None) × (value_at nat_cmp es k ≡ None)
none_parts es fs k e = none_of _ _ (sym (value_at-merged nat_cmp nat_cmp_total es fs k) ∙ e)

-- the parts after a call that may put a pair
pub parts_after : {T E : Type 0} (r : Result T E) (es fs gs : Lists) (of id date : ℕ) → ArePairParts es fs → value_at nat_cmp (pairs_of (es, fs) of) id ≡ None → OnOk r (PutsPair fs gs of id date) → OnErr r ((q : ℕ) → pairs_at gs q ≡ pairs_at fs q) → ArePairParts es gs
parts_after (Ok x) es fs gs of id date parts none puts kept q = by (nat_eq q of) refl
  where
    by : (b : Bool) → nat_eq q of ≡ b → AreParts nat_cmp (pairs_at es q) (pairs_at gs q)
    by true e =
        let same : q ≡ of = grind (arith, nat_tests) in
        let new : pairs_at gs of ≡ insert_entry nat_cmp (pairs_at fs of) id date = puts of ∙ ap (λ b. cond b (insert_entry nat_cmp (pairs_at fs of) id date) (pairs_at fs of)) (nat_eq_equiv.refl of) in
        rw (same, new) (parts-insert nat_cmp nat_cmp_total (pairs_at es of) (pairs_at fs of) (insert_entry nat_cmp (pairs_at fs of) id date) id date (parts of) (none_parts (pairs_at es of) (pairs_at fs of) id none).1 (λ k. value_at-insert nat_cmp nat_cmp_total (pairs_at fs of) id date k ∙ ap (λ b. cond b (Some date) (value_at nat_cmp (pairs_at fs of) k)) ((eq_by_cmp_equiv nat_cmp_total).symm k id)) (rises-insert nat_cmp nat_cmp_total (pairs_at fs of) id date (parts of).added_rises))
    by false e = rw (puts q, e) (parts q)
parts_after (Err x) es fs gs of id date parts none puts kept q = rw (kept q) (parts q)

-- a pair put into the added part is added
pub adds_pair : (es fs gs : Lists) (of id date : ℕ) → ArePairParts es fs → PutsPair fs gs of id date → AddsPair (es, fs) (es, gs) of id date
adds_pair es fs gs of id date parts puts q = by (nat_eq q of) refl
  where
    by : (b : Bool) → nat_eq q of ≡ b → merged nat_cmp (pairs_at es q) (pairs_at gs q) ≡ cond b (insert_entry nat_cmp (pairs_of (es, fs) of) id date) (pairs_of (es, fs) q)
    by true e =
        let same : q ≡ of = grind (arith, nat_tests) in
        ap (merged nat_cmp (pairs_at es q)) (puts q ∙ ap (λ b. cond b (insert_entry nat_cmp (pairs_at fs of) id date) (pairs_at fs q)) e)
        ∙ ap (λ n. merged nat_cmp (pairs_at es n) (insert_entry nat_cmp (pairs_at fs of) id date)) same
        ∙ merged-insert nat_cmp nat_cmp_total exact_unsigned (pairs_at es of) (pairs_at fs of) id date (parts of).frozen_rises
    by false e = ap (merged nat_cmp (pairs_at es q)) (puts q ∙ ap (λ b. cond b (insert_entry nat_cmp (pairs_at fs of) id date) (pairs_at fs q)) e)

-- a clone of a map of vectors has the same lists
pub lists_from_clone : {Z : Type 0} (C : ℕ → ℕ → Type 0) (D : Vec (ℕ × ℕ) Z → Vec (ℕ × ℕ) Z → Type 0) → ((x y : ℕ) → C x y → y ≡ x) → ((v w : Vec (ℕ × ℕ) Z) → D v w → w.items ≡ v.items) → (es fs : List (ℕ × Vec (ℕ × ℕ) Z)) → AllZip (λ p q. C p.0 q.0 × D p.1 q.1) es fs → lists_of fs ≡ lists_of es
lists_from_clone C D g h [] [] a = refl
lists_from_clone C D g h [] (y ∷ ys) a = absurd a
lists_from_clone C D g h (x ∷ xs) [] a = absurd a
lists_from_clone C D g h (x ∷ xs) (y ∷ ys) a = λ i. (g x.0 y.0 a.0.0 i, h x.1 y.1 a.0.1 i) ∷ lists_from_clone C D g h xs ys a.1 i

-- ---- the parts joined, number by number

pub not_same : (a b : ℕ) → a ≢ b → nat_eq a b ≡ false
not_same a b h = grind (arith, nat_tests)

-- of the numbers with frozen pairs, some last ones are left
pub record IsJoinedSoFar {Z S : Type 0} (frozen : Lists) (added whole : List (ℕ × Vec (ℕ × ℕ) Z)) (rest : List (ℕ × S)) : Type 0 where
  pub rises : Rises nat_cmp rest
  pub pairs : (q : ℕ) → pairs_at (lists_of whole) q ≡ cond (is_some (value_at nat_cmp rest q)) (pairs_at (lists_of added) q) (pairs_of (frozen, lists_of added) q)

module _ {Z S : Type 0} (frozen : Lists) (added : List (ℕ × Vec (ℕ × ℕ) Z)) where
  pub joined_start : (whole : List (ℕ × Vec (ℕ × ℕ) Z)) (rest : List (ℕ × S)) → lists_of whole ≡ lists_of added → Rises nat_cmp rest → ((q : ℕ) → is_some (value_at nat_cmp rest q) ≡ is_some (value_at nat_cmp frozen q)) → ArePairParts frozen (lists_of added) → IsJoinedSoFar frozen added whole rest
  joined_start whole rest same rises keys parts = record {
    rises = rises;
    pairs = λ q. ap (λ ls. pairs_at ls q) same ∙ by q (value_at nat_cmp rest q) (value_at nat_cmp frozen q) refl refl (keys q);
  }
    where
      by : (q : ℕ) (p : Option S) (f : Option (List (ℕ × ℕ))) → value_at nat_cmp rest q ≡ p → value_at nat_cmp frozen q ≡ f → is_some (value_at nat_cmp rest q) ≡ is_some (value_at nat_cmp frozen q) → pairs_at (lists_of added) q ≡ cond (is_some (value_at nat_cmp rest q)) (pairs_at (lists_of added) q) (pairs_of (frozen, lists_of added) q)
      by q (Some s) f e g k = rw e refl
      by q None None e g k =
          rw e (sym (ap (λ o. merged nat_cmp (unwrap_or o []) (pairs_at (lists_of added) q)) g ∙ merged-nil nat_cmp nat_cmp_total exact_unsigned (pairs_at (lists_of added) q) (parts q).added_rises))
      by q None (Some v) e g k = absurd (false≢true (sym (ap is_some e) ∙ k ∙ ap is_some g))

  pub joined_step : (whole n : List (ℕ × Vec (ℕ × ℕ) Z)) (rest : List (ℕ × S)) (k : ℕ) (s : S) (w : Vec (ℕ × ℕ) Z) → IsJoinedSoFar frozen added whole ((k, s) ∷ rest) → w.items ≡ pairs_of (frozen, lists_of added) k → ((q : ℕ) → value_at nat_cmp n q ≡ cond (is_at (nat_cmp k) q) (Some w) (value_at nat_cmp whole q)) → IsJoinedSoFar frozen added n rest
  unfolding IsStrictlySortedBy
  joined_step whole n rest k s w h items puts = record { rises = h.rises.1; pairs = λ q. puts_from whole n k w _ items puts q ∙ step q (nat_eq q k) refl }
    where
      none : value_at nat_cmp rest k ≡ None
      none = value_below nat_cmp nat_cmp_total k rest h.rises.0

      past : (q : ℕ) → nat_eq q k ≡ false → value_at nat_cmp ((k, s) ∷ rest) q ≡ value_at nat_cmp rest q
      past q e = ap (λ b. cond b (Some s) (value_at nat_cmp rest q)) (unsigned_tied q k ∙ e)

      step : (q : ℕ) (b : Bool) → nat_eq q k ≡ b → cond (nat_eq q k) (pairs_of (frozen, lists_of added) k) (pairs_at (lists_of whole) q) ≡ cond (is_some (value_at nat_cmp rest q)) (pairs_at (lists_of added) q) (pairs_of (frozen, lists_of added) q)
      step q true t =
          let same : q ≡ k = grind (arith, nat_tests) in
          rw (t, same, none) refl
      step q false t = rw t (h.pairs q ∙ ap (λ p. cond (is_some p) (pairs_at (lists_of added) q) (pairs_of (frozen, lists_of added) q)) (past q t))

  -- the same, by places
  pub joined_turn : (whole n : List (ℕ × Vec (ℕ × ℕ) Z)) (heads : List (ℕ × S)) (i : ℕ) (d : ℕ × S) (w : Vec (ℕ × ℕ) Z) → i < length heads → IsJoinedSoFar frozen added whole (drop i heads) → w.items ≡ pairs_of (frozen, lists_of added) (get_or heads i d).0 → ((q : ℕ) → value_at nat_cmp n q ≡ cond (is_at (nat_cmp (get_or heads i d).0) q) (Some w) (value_at nat_cmp whole q)) → IsJoinedSoFar frozen added n (drop (i + 1) heads)
  joined_turn whole n heads i d w l h items puts = joined_step whole n (drop (i + 1) heads) (get_or heads i d).0 (get_or heads i d).1 w (subst (IsJoinedSoFar frozen added whole) (drop_more heads i d l) h) items puts

  pub joined_end : (whole : List (ℕ × Vec (ℕ × ℕ) Z)) → IsJoinedSoFar {S = S} frozen added whole [] → (q : ℕ) → pairs_at (lists_of whole) q ≡ pairs_of (frozen, lists_of added) q
  joined_end whole h q = h.pairs q

-- ---- runs in one list

-- the pairs of a number in runs
pub runs_at_some : (heads : List (ℕ × (ℕ × ℕ))) (ps : List (ℕ × ℕ)) (q : ℕ) (span : ℕ × ℕ) → Some span ≡ value_at nat_cmp heads q → pairs_at (runs_of heads ps) q ≡ part ps span
runs_at_some heads ps q span e = ap (λ p. unwrap_or p []) (lookup-map_values (part ps) (is_at (nat_cmp q)) heads ∙ ap (option_map (part ps)) (sym e))

pub runs_at_none : (heads : List (ℕ × (ℕ × ℕ))) (ps : List (ℕ × ℕ)) (q : ℕ) → None ≡ value_at nat_cmp heads q → pairs_at (runs_of heads ps) q ≡ []
runs_at_none heads ps q e = ap (λ p. unwrap_or p []) (lookup-map_values (part ps) (is_at (nat_cmp q)) heads ∙ ap (option_map (part ps)) (sym e))

-- ---- a pair taken out

-- nothing is taken where the id isn't there
pub filter_none : (ps : List (ℕ × ℕ)) (id : ℕ) → value_at nat_cmp ps id ≡ None → without id ps ≡ ps
filter_none [] id none = refl
filter_none (p ∷ ps) id none = by (filter_none ps id) (nat_eq id p.0) refl (ap (λ b. cond b (Some p.1) (value_at nat_cmp ps id)) (sym (unsigned_tied id p.0)) ∙ none)
  where
    by : (value_at nat_cmp ps id ≡ None → without id ps ≡ ps) → (b : Bool) → nat_eq id p.0 ≡ b → cond (nat_eq id p.0) (Some p.1) (value_at nat_cmp ps id) ≡ None → without id (p ∷ ps) ≡ p ∷ ps
    by rest true e n = absurd (false≢true (sym (ap is_some (ap (λ b. cond b (Some p.1) (value_at nat_cmp ps id)) (sym e) ∙ n))))
    by rest false e n = rw (nat_eq_equiv.symm p.0 id, e) (ap (λ qs. p ∷ qs) (rest (ap (λ b. cond b (Some p.1) (value_at nat_cmp ps id)) (sym e) ∙ n)))

-- ---- a pair taken out keeps the order

all-without : (P : ℕ → Type 0) (id : ℕ) (ps : List (ℕ × ℕ)) → AllByRecursion P (keys_of ps) → AllByRecursion P (keys_of (without id ps))
all-without P id [] h = tt
all-without P id (p ∷ ps) h = elim (not (nat_eq p.0 id)) as (λ b. AllByRecursion P (keys_of (cond b (p ∷ without id ps) (without id ps)))) [ true ↦ (h.0, all-without P id ps h.1) | false ↦ all-without P id ps h.1 ]

rises-without : (id : ℕ) (ps : List (ℕ × ℕ)) → Rises nat_cmp ps → Rises nat_cmp (without id ps)
unfolding IsStrictlySortedBy
rises-without id [] h = tt
rises-without id (p ∷ ps) h = elim (not (nat_eq p.0 id)) as (λ b. Rises nat_cmp (cond b (p ∷ without id ps) (without id ps))) [ true ↦ (all-without (λ y. nat_cmp p.0 y ≡ Less) id ps h.0, rises-without id ps h.1) | false ↦ rises-without id ps h.1 ]

none-without : (id k : ℕ) (ps : List (ℕ × ℕ)) → value_at nat_cmp ps k ≡ None → value_at nat_cmp (without id ps) k ≡ None
none-without id k [] h = refl
none-without id k (p ∷ ps) h = elim (not (nat_eq p.0 id)) as (λ b. value_at nat_cmp (cond b (p ∷ without id ps) (without id ps)) k ≡ None) [ true ↦ kept (none-without id k ps) (is_eq (nat_cmp k p.0)) h | false ↦ gone (none-without id k ps) (is_eq (nat_cmp k p.0)) h ]
  where
    kept : (value_at nat_cmp ps k ≡ None → value_at nat_cmp (without id ps) k ≡ None) → (b : Bool) → cond b (Some p.1) (value_at nat_cmp ps k) ≡ None → cond b (Some p.1) (value_at nat_cmp (without id ps) k) ≡ None
    kept rest true e = absurd (false≢true (sym (ap is_some e)))
    kept rest false e = rest e

    gone : (value_at nat_cmp ps k ≡ None → value_at nat_cmp (without id ps) k ≡ None) → (b : Bool) → cond b (Some p.1) (value_at nat_cmp ps k) ≡ None → value_at nat_cmp (without id ps) k ≡ None
    gone rest true e = absurd (false≢true (sym (ap is_some e)))
    gone rest false e = rest e

pub parts_taken : (es fs gs : Lists) (of id : ℕ) → ArePairParts es fs → TakesPair fs gs of id → ArePairParts es gs
parts_taken es fs gs of id parts takes q = by (nat_eq q of) refl
  where
    by : (b : Bool) → nat_eq q of ≡ b → AreParts nat_cmp (pairs_at es q) (pairs_at gs q)
    by true e =
        let same : q ≡ of = grind (arith, nat_tests) in
        rw (takes q, e, same) (record { frozen_rises = (parts of).frozen_rises; added_rises = rises-without id (pairs_at fs of) (parts of).added_rises; apart = λ k some. none-without id k (pairs_at fs of) ((parts of).apart k some) })
    by false e = rw (takes q, e) (parts q)

-- nothing is taken of a number that has no pairs
pub takes_nothing : (ls : Lists) (of id : ℕ) → pairs_at ls of ≡ [] → TakesPair ls ls of id
takes_nothing ls of id none q = by (nat_eq q of) refl
  where
    by : (b : Bool) → nat_eq q of ≡ b → pairs_at ls q ≡ cond (nat_eq q of) (without id (pairs_at ls of)) (pairs_at ls q)
    by true e = let same : q ≡ of = grind (arith, nat_tests) in rw (e, none) (ap (pairs_at ls) same ∙ none)
    by false e = rw e refl
