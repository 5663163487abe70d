-- What other crates may cite of this one: how keys and the cells that show them compare, lists side by side, an answer made from the
-- things that were chosen, and what is kept of rows that come one after another.
use Rattle.std.proofs.Common.{◌≡◌, ℕ, zero, suc, ◌+◌, ◌<◌, ◌≤◌, pos, false, List, [], ◌∷◌, ◌++◌, length, get_or, set, take, map, refl, ap, ◌∙◌, subst, arith}
use Rattle.std.proofs.lemmas.Bool.Decides.{nat_tests}
use Rattle.std.proofs.lemmas.Fn.{always_returns_same}
use Rattle.std.proofs.lemmas.List.{get_or_append_left, length-append, map_push, take_all, take_more}
use Rattle.std.proofs.lemmas.List.Elements.{All-head, All-nil, All-same, All-tail, All-take}
use Rattle.std.proofs.lemmas.List.Sorted.{All-permutation, IsPermutation-keeps, IsPermutation-refl, IsPermutation-swap, IsPermutation-sym, IsPermutation-trans}
use Rattle.std.specs.Fn.{Called, ComparesAs, Mut}
use Rattle.std.specs.List.{All, AllZip, swap}
use Rattle.std.specs.List.Sorted.{IsPermutation, IsSorted}
use Rattle.std.specs.Ordering.{int_cmp, is_lt, nat_cmp, ordering_then}
use Rattle.std.specs.declared.cmp.Ordering.{Ordering}
use Rattle.std.specs.declared.cmp.Ordering.TheVariants.{Less, Equal, Greater}
use denote.Ref.{Bor}
use Rattle.snb_read_model.specs.Cells.{ByteCell, cell_cmp, number_cell}
use Rattle.snb_read_order.specs.TopK.{IsTopK, Kept, not_after}
use Rattle.snb_read_model.specs.Order.{ReadAnswers, Cut, AllRows, FirstRows, SortedAndCut, Way, by, cut_at}
use Rattle.snb_base.proofs.Laws.{then_last}

-- ---- keys and cells

-- a closure that answers by the order compares as it does
pub compares : {F X : Type 0} (g : Mut F (Bor X × (Bor X × Unit {0})) Ordering) (f : F) (by : X → X → Ordering)
    → ((a : Bor X × (Bor X × Unit {0})) (r : Ordering) (f' : F) → Called g f a r f' → (r ≡ by a.0.now a.1.0.now) × (f' ≡ f)) → ComparesAs g (λ x y. is_lt (by x y)) f
compares g f by h = always_returns_same g (λ a r. is_lt r ≡ is_lt (by a.0.now a.1.0.now)) f (λ a r f' k. (ap is_lt (h a r f' k).0, (h a r f' k).1))

pub int_nat : (a b : ℕ) → int_cmp (pos a) (pos b) ≡ nat_cmp a b
int_nat a b = grind (arith, nat_tests)

pub number_cmp : (a b : ℕ) → cell_cmp (number_cell a) (number_cell b) ≡ nat_cmp a b
number_cmp a b = then_last (int_cmp (pos a) (pos b)) ∙ int_nat a b

-- by two columns of numbers
pub two_columns : (x x' y y' : ℕ) → ordering_then (cell_cmp (number_cell x) (number_cell x')) (ordering_then (cell_cmp (number_cell y) (number_cell y')) Equal) ≡ ordering_then (nat_cmp x x') (nat_cmp y y')
two_columns x x' y y' =
    ap (λ o. ordering_then o (ordering_then (cell_cmp (number_cell y) (number_cell y')) Equal)) (number_cmp x x')
    ∙ ap (λ o. ordering_then (nat_cmp x x') o) (then_last (cell_cmp (number_cell y) (number_cell y')) ∙ number_cmp y y')

-- by three
pub three_columns : (x x' y y' z z' : ℕ) → ordering_then (cell_cmp (number_cell x) (number_cell x')) (ordering_then (cell_cmp (number_cell y) (number_cell y')) (ordering_then (cell_cmp (number_cell z) (number_cell z')) Equal))
    ≡ ordering_then (nat_cmp x x') (ordering_then (nat_cmp y y') (nat_cmp z z'))
three_columns x x' y y' z z' =
    ap (λ o. ordering_then o (ordering_then (cell_cmp (number_cell y) (number_cell y')) (ordering_then (cell_cmp (number_cell z) (number_cell z')) Equal))) (number_cmp x x')
    ∙ ap (λ o. ordering_then (nat_cmp x x') o) (two_columns y y' z z')

pub then_assoc : (o p q : Ordering) → ordering_then o (ordering_then p q) ≡ ordering_then (ordering_then o p) q
then_assoc Less p q = refl
then_assoc Equal p q = refl
then_assoc Greater p q = refl

-- ---- lists side by side

module _ {X Y : Type 0} (R : X → Y → Type 0) where
  pub zip_length : (xs : List X) (ys : List Y) → AllZip R xs ys → length xs ≡ length ys
  zip_length [] [] z = refl
  zip_length [] (y ∷ ys) z = absurd z
  zip_length (x ∷ xs) [] z = absurd z
  zip_length (x ∷ xs) (y ∷ ys) z = ap suc (zip_length xs ys z.1)

  pub zip_get : (xs : List X) (ys : List Y) (k : ℕ) (d : X) (e : Y) → k < length xs → AllZip R xs ys → R (get_or xs k d) (get_or ys k e)
  zip_get [] ys k d e h z = absurd (omega arith)
  zip_get (x ∷ xs) [] k d e h z = absurd z
  zip_get (x ∷ xs) (y ∷ ys) zero d e h z = z.0
  zip_get (x ∷ xs) (y ∷ ys) (suc k) d e h z = zip_get xs ys k d e (omega arith) z.1

  pub zip_set : (xs : List X) (ys : List Y) (k : ℕ) (x : X) (y : Y) → R x y → AllZip R xs ys → AllZip R (set xs k x) (set ys k y)
  zip_set [] [] k x y r z = z
  zip_set [] (b ∷ ys) k x y r z = absurd z
  zip_set (a ∷ xs) [] k x y r z = absurd z
  zip_set (a ∷ xs) (b ∷ ys) zero x y r z = (r, z.1)
  zip_set (a ∷ xs) (b ∷ ys) (suc k) x y r z = (z.0, zip_set xs ys k x y r z.1)

  pub zip_swap : (xs : List X) (ys : List Y) (i j : ℕ) → i < length xs → j < length xs → AllZip R xs ys → AllZip R (swap xs i j) (swap ys i j)
  zip_swap [] ys i j p q z = absurd (omega arith)
  zip_swap (x ∷ xs) [] i j p q z = absurd z
  zip_swap (x ∷ xs) (y ∷ ys) i j p q z =
      let there = zip_get (x ∷ xs) (y ∷ ys) j x y q z in
      let here = zip_get (x ∷ xs) (y ∷ ys) i x y p z in
      zip_set (set (x ∷ xs) i (get_or (x ∷ xs) j x)) (set (y ∷ ys) i (get_or (y ∷ ys) j y)) j _ _ here (zip_set (x ∷ xs) (y ∷ ys) i _ _ there z)

  -- what stands beside a list can be moved along with it
  pub zip_moved : (xs xs' : List X) (ys : List Y) → IsPermutation xs xs' → AllZip R xs ys → (ys' : List Y) × IsPermutation ys ys' × AllZip R xs' ys'
  zip_moved xs xs' ys moves z =
      IsPermutation-keeps xs (λ l. (ys' : List Y) × IsPermutation ys ys' × AllZip R l ys') (ys, IsPermutation-refl ys, z)
      (λ l i j p q (ms, same, zip).
      let long = zip_length l ms zip in
      (swap ms i j, IsPermutation-trans ys ms (swap ms i j) same (IsPermutation-swap ms (swap ms i j) i j (omega arith) (omega arith) refl), zip_swap l ms i j p q zip)) xs' moves

  -- the first have something beside them, and so can all have
  pub extended : (n : ℕ) (xs : List X) (ys : List Y) → AllZip R (take n xs) ys → All (λ x. (y : Y) × R x y) xs
      → (all : List Y) × AllZip R xs all × (ys ≡ take n all)
  extended zero [] [] z have = ([], tt, refl)
  extended zero (x ∷ xs) [] z have =
      let (all, zip, is) = extended zero xs [] tt (All-tail (λ x. (y : Y) × R x y) x xs have) in
      let (y, r) = All-head (λ x. (y : Y) × R x y) x xs have in
      (y ∷ all, (r, zip), refl)
  extended zero xs (y ∷ ys) z have = absurd z
  extended (suc n) [] [] z have = ([], tt, refl)
  extended (suc n) [] (y ∷ ys) z have = absurd z
  extended (suc n) (x ∷ xs) [] z have = absurd z
  extended (suc n) (x ∷ xs) (y ∷ ys) z have =
      let (all, zip, is) = extended n xs ys z.1 (All-tail (λ x. (y : Y) × R x y) x xs have) in
      (y ∷ all, (z.0, zip), ap (λ l. y ∷ l) is)

  -- one more beside one more
  pub zip_push : (xs : List X) (ys : List Y) (x : X) (y : Y) → AllZip R xs ys → R x y → AllZip R (xs ++ x ∷ []) (ys ++ y ∷ [])
  zip_push [] [] x y z r = (r, tt)
  zip_push [] (b ∷ ys) x y z r = absurd z
  zip_push (a ∷ xs) [] x y z r = absurd z
  zip_push (a ∷ xs) (b ∷ ys) x y z r = (z.0, zip_push xs ys x y z.1 r)

-- a loop's step, and its end
pub zip_more : {X Y : Type 0} (R : X → Y → Type 0) (xs : List X) (i : ℕ) (d : X) (ys ys' : List Y) (y : Y) → i < length xs → ys' ≡ ys ++ y ∷ []
    → AllZip R (take i xs) ys → R (get_or xs i d) y → AllZip R (take (i + 1) xs) ys'
zip_more R xs i d ys ys' y small push z r = rw (take_more xs i d small, push) (zip_push R (take i xs) ys (get_or xs i d) y z r)

pub zip_all : {X Y : Type 0} (R : X → Y → Type 0) (xs items : List X) (i : ℕ) (ys : List Y) → items ≡ xs → length items ≤ i → AllZip R (take i items) ys → AllZip R xs ys
zip_all R xs items i ys is high z = rw (← is) (rw (take_all i items high) at z)

zip_map : {X Z Y : Type 0} (f : Z → X) (S : Z → Y → Type 0) (R : X → Y → Type 0) → ((z : Z) (y : Y) → S z y → R (f z) y) → (zs : List Z) (ys : List Y) → AllZip S zs ys → AllZip R (map f zs) ys
zip_map f S R each [] [] z = tt
zip_map f S R each [] (y ∷ ys) z = absurd z
zip_map f S R each (x ∷ xs) [] z = absurd z
zip_map f S R each (x ∷ xs) (y ∷ ys) z = (each x y z.0, zip_map f S R each xs ys z.1)

-- and what holds of each
pub zip_with : {X Y : Type 0} (R : X → Y → Type 0) (P : X → Type 0) (xs : List X) (ys : List Y) → All P xs → AllZip R xs ys → AllZip (λ x y. R x y × P x) xs ys
zip_with R P [] [] all z = tt
zip_with R P [] (y ∷ ys) all z = absurd z
zip_with R P (x ∷ xs) [] all z = absurd z
zip_with R P (x ∷ xs) (y ∷ ys) all z = ((z.0, All-head P x xs all), zip_with R P xs ys (All-tail P x xs all) z.1)

-- a loop that makes one thing of each item
pub made_more : {X Z : Type 0} (f : Z → X) (found new : List Z) (z : Z) (walk : List X) (i : ℕ) (d : X) → i < length walk → new ≡ found ++ z ∷ [] → map f found ≡ take i walk
    → f z ≡ get_or walk i d → map f new ≡ take (i + 1) walk
made_more f found new z walk i d small push same is = rw (push, take_more walk i d small, map_push f found z, same, is) refl

pick : {X : Type 0} (xs : List X) → 0 < length xs → X
pick [] h = absurd (omega arith)
pick (x ∷ xs) h = x

module _ {X : Type 0} (Shows : X → List ByteCell → Type 0) (keys : X → X → Ordering) (order : List Way)
    (agree : (x y : X) (a b : List ByteCell) → Shows x a → Shows y b → is_lt (by order a b) ≡ is_lt (keys x y)) where
  -- rows stand in the order of what they show
  in_turn : (xs : List X) (rows : List (List ByteCell)) → AllZip Shows xs rows → IsSorted keys xs → IsSorted (by order) rows
  in_turn xs rows z up k d low high =
      let long = zip_length Shows xs rows z in
      let x : X = pick xs (omega arith) in
      agree _ _ _ _ (zip_get Shows xs rows (k + 1) x d (omega arith) z) (zip_get Shows xs rows k x d (omega arith) z) ∙ up k x low (omega arith)

  all_of : (cut : Cut) (sorted : List X) (answer : List (List ByteCell)) → All (λ x. (a : List ByteCell) × Shows x a) sorted → AllZip Shows (cut_at cut sorted) answer
      → (all : List (List ByteCell)) × AllZip Shows sorted all × (answer ≡ cut_at cut all)
  all_of AllRows sorted answer have z = (answer, z, refl)
  all_of (FirstRows n) sorted answer have z = extended Shows n sorted answer z have

  -- the first things, and what each shows, are the answer
  pub answers_from : (cut : Cut) (counted found chosen : List X) (answer : List (List ByteCell)) → IsPermutation counted found → SortedAndCut keys cut found chosen
      → All (λ x. (a : List ByteCell) × Shows x a) counted → AllZip Shows chosen answer → ReadAnswers counted Shows order cut answer
  answers_from cut counted found chosen answer walk first have z =
      let moves = IsPermutation-trans counted found first.sorted walk first.same in
      let (all, zip, is) = all_of cut first.sorted answer (All-permutation (λ x. (a : List ByteCell) × Shows x a) counted first.sorted moves have) (rw first.kept at z) in
      let (rows, same, shown) = zip_moved Shows first.sorted counted all (IsPermutation-sym counted first.sorted moves) zip in
      record {
        rows = rows;
        shown = shown;
        first = record { sorted = all; same = IsPermutation-sym all rows same; ordered = in_turn first.sorted all zip first.ordered; kept = is };
      }

  -- where the answer is of all things, each of them shows something
  pub answers_whole : (counted found chosen : List X) (answer : List (List ByteCell)) → IsPermutation counted found → SortedAndCut keys AllRows found chosen → AllZip Shows chosen answer
      → ReadAnswers counted Shows order AllRows answer
  answers_whole counted found chosen answer walk first z =
      let moves = IsPermutation-trans counted found first.sorted walk first.same in
      let zip : AllZip Shows first.sorted answer = rw first.kept at z in
      let (rows, same, shown) = zip_moved Shows first.sorted counted answer (IsPermutation-sym counted first.sorted moves) zip in
      record {
        rows = rows;
        shown = shown;
        first = record { sorted = answer; same = IsPermutation-sym answer rows same; ordered = in_turn first.sorted answer zip first.ordered; kept = refl };
      }

-- an answer over what was found, as one over what counts
pub answers_mapped : {X Z : Type 0} (f : Z → X) (S : Z → List ByteCell → Type 0) (R : X → List ByteCell → Type 0) → ((z : Z) (a : List ByteCell) → S z a → R (f z) a)
    → (counted : List X) (found : List Z) (order : List Way) (cut : Cut) (answer : List (List ByteCell)) → IsPermutation counted (map f found)
    → ReadAnswers found S order cut answer → ReadAnswers counted R order cut answer
answers_mapped f S R each counted found order cut answer moves a =
    let (rows, same, shown) = zip_moved R (map f found) counted a.rows (IsPermutation-sym counted (map f found) moves) (zip_map f S R each found a.rows a.shown) in
    record {
      rows = rows;
      shown = shown;
      first = record { sorted = a.first.sorted; same = IsPermutation-trans rows a.rows a.first.sorted (IsPermutation-sym a.rows rows same) a.first.same; ordered = a.first.ordered; kept = a.first.kept };
    }

-- ---- what was chosen

-- the first rows are among the rows
pub chosen : {X : Type 0} (P : X → Type 0) (order : X → X → Ordering) (cut : Cut) (rows answer : List X) → All P rows → SortedAndCut order cut rows answer → All P answer
chosen P order AllRows rows answer all first = All-same P answer first.sorted first.kept (All-permutation P rows first.sorted first.same all)
chosen P order (FirstRows n) rows answer all first =
    All-same P answer (take n first.sorted) first.kept (All-take P n first.sorted (All-permutation P rows first.sorted first.same all))

-- what was walked, sorted and cut is among what the walk is of
pub walked : {X : Type 0} (P : X → Type 0) (order : X → X → Ordering) (cut : Cut) (counted walk found first items : List X)
    → All P counted → IsPermutation counted walk → found ≡ walk → SortedAndCut order cut found first → items ≡ first → All P items
walked P order cut counted walk found first items all moves same taken is =
    All-same P items first is (chosen P order cut found first (All-same P found walk same (All-permutation P counted walk moves all)) taken)

-- ---- an answer of one row, and of none

module _ {X : Type 0} (counted : List X) (Shows : X → List ByteCell → Type 0) (order : List Way) where
  pub one_row : (x : X) (a : List ByteCell) → counted ≡ x ∷ [] → Shows x a → ReadAnswers counted Shows order AllRows (a ∷ [])
  one_row x a is shows = record {
    rows = a ∷ [];
    shown = rw is (shows, tt);
    first = record { sorted = a ∷ []; same = IsPermutation-refl (a ∷ []); ordered = λ k d low high. absurd (omega arith); kept = refl };
  }

  pub no_row : counted ≡ [] → ReadAnswers counted Shows order AllRows []
  no_row is = record {
    rows = [];
    shown = rw is tt;
    first = record { sorted = []; same = IsPermutation-refl []; ordered = λ k d low high. absurd (omega arith); kept = refl };
  }

-- ---- the first of rows that come one after another

module _ {X : Type 0} (order : X → X → Ordering) where
  -- nothing is kept of no rows
  pub top_begins : (most : ℕ) → IsTopK order [] (record { rows = []; most = most; cut = false })
  top_begins most = record { rest = []; same = IsPermutation-refl []; later = All-nil (λ y. most ≤ not_after order y []); ordered = λ is. absurd cc }

  -- what is kept of rows is kept of them in any order
  pub top_moved : (all other : List X) (kept : Kept X) → IsPermutation all other → IsTopK order all kept → IsTopK order other kept
  top_moved all other kept moves top = record {
    rest = top.rest;
    same = IsPermutation-trans other all (kept.rows ++ top.rest) (IsPermutation-sym all other moves) top.same;
    later = top.later;
    ordered = top.ordered;
  }

  -- each row that is kept is one of all
  pub top_some : (P : X → Type 0) (all : List X) (kept : Kept X) → All P all → IsTopK order all kept → All P kept.rows
  top_some P all kept each top =
      let both = All-permutation P all (kept.rows ++ top.rest) top.same each in
      λ k d small. subst P (get_or_append_left kept.rows top.rest d k small) (both k d (omega (arith, length-append kept.rows top.rest)))
