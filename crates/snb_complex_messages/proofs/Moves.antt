-- Lists in another order, under filters and joins, and loops that append to a list.
use Rattle.std.proofs.Common.{◌≡◌, ℕ, zero, suc, ◌+◌, ◌<◌, ◌≤◌, Bool, true, false, cond, List, [], ◌∷◌, ◌++◌, length, get_or, set, take, map, refl, sym, ap, ◌∙◌, subst, arith, append_assoc}
use Rattle.std.proofs.lemmas.List.{append-nil, take_all, take_more}
use Rattle.std.proofs.lemmas.List.Edits.{swap_is}
use Rattle.std.proofs.lemmas.List.Elements.{All-append, All-head, All-nil, All-tail}
use Rattle.std.proofs.lemmas.List.Sorted.{IsPermutation-append, IsPermutation-append_left, IsPermutation-append_right, IsPermutation-keeps, IsPermutation-map, IsPermutation-refl, IsPermutation-trans}
use Rattle.std.specs.List.{All, filter, flat_map, swap}
use Rattle.std.specs.List.Sorted.{IsPermutation, IsSorted}
use Rattle.std.specs.declared.cmp.Ordering.{Ordering}
use Rattle.snb_read_lookups.proofs.Laws.{joined_push}
use Rattle.snb_read_model.specs.Order.{SortedAndCut, AllRows}
use Rattle.snb_complex_messages.specs.Found.{HasAppended}
use Rattle.snb_base.proofs.Laws.{shuffled}

module _ {X Y : Type 0} (f : X → List Y) where
  -- one goes in where another comes out
  exchanged : (xs : List X) (k : ℕ) (x d : X) → k < length xs → IsPermutation (f x ++ flat_map f xs) (f (get_or xs k d) ++ flat_map f (set xs k x))
  exchanged [] k x d small = absurd (omega arith)
  exchanged (y ∷ ys) zero x d small = shuffled (f x) (f y) (flat_map f ys)
  exchanged (y ∷ ys) (suc k) x d small =
      IsPermutation-trans _ _ _ (shuffled (f x) (f y) (flat_map f ys))
      (IsPermutation-trans _ _ _ (IsPermutation-append_right (f y) _ _ (exchanged ys k x d (omega arith))) (shuffled (f y) (f (get_or ys k d)) (flat_map f (set ys k x))))

  swapped : (xs : List X) (i j : ℕ) → i < length xs → j < length xs → IsPermutation (flat_map f xs) (flat_map f (swap xs i j))
  swapped [] i j p q = absurd (omega arith)
  swapped (x ∷ xs) zero zero p q = IsPermutation-refl _
  swapped (x ∷ xs) zero (suc j) p q = exchanged xs j x x (omega arith)
  swapped (x ∷ xs) (suc i) zero p q = exchanged xs i x x (omega arith)
  swapped (x ∷ xs) (suc i) (suc j) p q =
      let small : i < length xs = omega arith in
      let low : j < length xs = omega arith in
      IsPermutation-append_right (f x) _ _ (rw (swap_is xs i j x small low) (swapped xs i j small low))

  -- a join of a list in another order
  pub joined_moved : (xs ys : List X) → IsPermutation xs ys → IsPermutation (flat_map f xs) (flat_map f ys)
  joined_moved xs ys moves =
      IsPermutation-keeps xs (λ l. IsPermutation (flat_map f xs) (flat_map f l)) (IsPermutation-refl _) (λ l i j p q h. IsPermutation-trans _ _ _ h (swapped l i j p q)) ys moves

  -- what holds of all that is joined
  pub All-flat_map : (P : Y → Type 0) (xs : List X) → All (λ x. All P (f x)) xs → All P (flat_map f xs)
  All-flat_map P [] all = All-nil P
  All-flat_map P (x ∷ xs) all = All-append P (f x) (flat_map f xs) (All-head (λ x. All P (f x)) x xs all) (All-flat_map P xs (All-tail (λ x. All P (f x)) x xs all))

  -- a loop over a slice that appends a part for each item
  pub joined_more : (items : List X) (i : ℕ) (d : X) (found new : List Y) → i < length items → IsPermutation (flat_map f (take i items)) found → HasAppended (f (get_or items i d)) found new
      → IsPermutation (flat_map f (take (i + 1) items)) new
  joined_more items i d found new small before more =
      rw (take_more items i d small, joined_push f (take i items) (get_or items i d), more.is) (IsPermutation-append _ _ _ _ before more.same)

  pub joined_all : (all items : List X) (i : ℕ) (found : List Y) → items ≡ all → length items ≤ i → IsPermutation (flat_map f (take i items)) found → IsPermutation (flat_map f all) found
  joined_all all items i found is high h = subst (λ l. IsPermutation (flat_map f l) found) (take_all i items high ∙ is) h

  -- a loop over a walk that does
  pub joined_next : (all : List Y) (found new : List Y) (left rest : List X) (x : X) → left ≡ x ∷ rest → HasAppended (f x) found new → IsPermutation all (found ++ flat_map f left)
      → IsPermutation all (new ++ flat_map f rest)
  joined_next all found new left rest x is more before =
      let now = subst (λ l. IsPermutation all (found ++ flat_map f l)) is before in
      let moves = IsPermutation-append_right found _ _ (IsPermutation-append_left (flat_map f rest) (f x) more.part more.same) in
      subst (IsPermutation all) (sym (append_assoc found more.part (flat_map f rest)) ∙ ap (λ l. l ++ flat_map f rest) (sym more.is)) (IsPermutation-trans _ _ _ now moves)

  pub joined_done : (all walk left : List X) (found : List Y) → left ≡ [] → IsPermutation all walk → IsPermutation (flat_map f walk) (found ++ flat_map f left) → IsPermutation (flat_map f all) found
  joined_done all walk left found none moves h =
      IsPermutation-trans _ _ _ (joined_moved all walk moves) (subst (IsPermutation (flat_map f walk)) (ap (λ l. found ++ flat_map f l) none ∙ append-nil found) h)

filter_joins : {X : Type 0} (p : X → Bool) (xs : List X) → filter p xs ≡ flat_map (λ x. cond (p x) (x ∷ []) []) xs
filter_joins p [] = refl
filter_joins p (x ∷ xs) = step (p x) ∙ ap (λ l. cond (p x) (x ∷ []) [] ++ l) (filter_joins p xs)
  where
    step : (b : Bool) → cond b (x ∷ filter p xs) (filter p xs) ≡ cond b (x ∷ []) [] ++ filter p xs
    step true = refl
    step false = refl

-- a filter of a list in another order
pub filter_moved : {X : Type 0} (p : X → Bool) (xs ys : List X) → IsPermutation xs ys → IsPermutation (filter p xs) (filter p ys)
filter_moved p xs ys moves = rw (filter_joins p xs, filter_joins p ys) (joined_moved (λ x. cond (p x) (x ∷ []) []) xs ys moves)

-- ---- a loop over a walk that appends what it makes of the items

-- what was found, and what is still to come, are all
pub appended_next : {Y : Type 0} (found new one now next all : List Y) → now ≡ one ++ next → new ≡ found ++ one → found ++ now ≡ all → new ++ next ≡ all
appended_next found new one now next all split push before =
    ap (λ l. l ++ next) push ∙ append_assoc found one next ∙ ap (λ l. found ++ l) (sym split) ∙ before

pub appended_done : {Y : Type 0} (counted all found old now : List Y) → IsPermutation counted all → now ≡ [] → found ++ now ≡ old ++ all → HasAppended counted old found
appended_done counted all found old now moves none same = record {
  part = all;
  same = moves;
  is = sym (append-nil found) ∙ ap (λ l. found ++ l) (sym none) ∙ same;
}

module _ {X Y : Type 0} (f : X → Y) (p : X → Bool) where
  -- of what passes
  pub passed_next : (found new : List Y) (left rest : List X) (x : X) (all : List Y) → left ≡ x ∷ rest → p x ≡ true → new ≡ found ++ f x ∷ []
      → found ++ map f (filter p left) ≡ all → new ++ map f (filter p rest) ≡ all
  passed_next found new left rest x all is test push before =
      appended_next found new (f x ∷ []) (map f (filter p left)) (map f (filter p rest)) all
      (ap (λ l. map f (filter p l)) is ∙ ap (λ b. map f (cond b (x ∷ filter p rest) (filter p rest))) test) push before

  pub passed_over : (found : List Y) (left rest : List X) (x : X) (all : List Y) → left ≡ x ∷ rest → p x ≡ false
      → found ++ map f (filter p left) ≡ all → found ++ map f (filter p rest) ≡ all
  passed_over found left rest x all is test before =
      ap (λ l. found ++ l) (sym (ap (λ l. map f (filter p l)) is ∙ ap (λ b. map f (cond b (x ∷ filter p rest) (filter p rest))) test)) ∙ before

  pub passed_done : (counted walk left : List X) (found old : List Y) → IsPermutation counted walk → left ≡ [] → found ++ map f (filter p left) ≡ old ++ map f (filter p walk)
      → HasAppended (map f (filter p counted)) old found
  passed_done counted walk left found old moves none same =
      appended_done (map f (filter p counted)) (map f (filter p walk)) found old (map f (filter p left)) (IsPermutation-map f _ _ (filter_moved p counted walk moves)) (ap (λ l. map f (filter p l)) none) same

-- ---- rows in order

-- all rows in order are the rows in another order, and sorted
pub ordered_moved : {X : Type 0} (order : X → X → Ordering) (rows answer : List X) → SortedAndCut order AllRows rows answer → IsPermutation rows answer
ordered_moved order rows answer first = subst (IsPermutation rows) (sym first.kept) first.same

pub ordered_sorted : {X : Type 0} (order : X → X → Ordering) (rows answer : List X) → SortedAndCut order AllRows rows answer → IsSorted order answer
ordered_sorted order rows answer first = subst (IsSorted order) (sym first.kept) first.ordered
