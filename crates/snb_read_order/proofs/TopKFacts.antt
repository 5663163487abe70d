-- What is kept stays enough for the first rows when a row comes, when one is let go, and when what is kept is cut; and the first rows of it are those of all.
use Rattle.std.proofs.Common.{◌≡◌, ℕ, zero, suc, ◌+◌, ◌-◌, ◌<◌, ◌≤◌, not, Bool, true, false, cond, List, [], ◌∷◌, ◌++◌, length, get_or, take, drop, inl, inr, refl, sym, ap, ◌∙◌, subst, arith}
use Rattle.std.proofs.lemmas.Bool.{cases_lt}
use Rattle.std.proofs.lemmas.List.{append-nil, append_assoc, get_or-append_right, get_or-drop, get_or-take, get_or_append_left, get_or_default, length-append, length-drop, length-take, length-take-le, take-append-drop, take-append-le, take-take}
use Rattle.std.proofs.lemmas.List.Elements.{All-append, All-cons, All-contains, All-nil, All-push, All-weaker, Contains-get_or, filter-append}
use Rattle.std.proofs.lemmas.List.Sorted.{Contains-permutation, IsPermutation-append_comm, IsPermutation-append_left, IsPermutation-append_right, IsPermutation-sym, IsPermutation-trans, length_permutation, ranks_by, sorted_far, sum_by-IsPermutation}
use Rattle.std.proofs.lemmas.List.Sums.{length-filter}
use Rattle.std.specs.Cmp.{IsTotalOrder}
use Rattle.std.specs.Fn.{Called, Mut}
use Rattle.std.specs.List.{All, Contains, filter}
use Rattle.std.specs.List.Sorted.{IsPermutation, IsSorted, IsSortedByClosure}
use Rattle.std.specs.Ordering.{is_lt}
use Rattle.std.specs.declared.cmp.Ordering.{Ordering}
use Rattle.snb_read_model.specs.Order.{FirstRows, SortedAndCut, AllRows}
use denote.Ref.{Bor}
use Rattle.snb_read_order.specs.TopK.{IsTopK, Kept, TakesIn, not_after}
use Rattle.snb_read_order.proofs.OneFacts.{sorted_tail}
use Rattle.snb_read_order.proofs.SomeFacts.{some_first}

joined : {X : Type 0} (all rows rest : List X) (row : X) → IsPermutation all (rows ++ rest) → IsPermutation (all ++ row ∷ []) ((rows ++ row ∷ []) ++ rest)
joined all rows rest row same =
    IsPermutation-trans _ _ _ (IsPermutation-append_left (row ∷ []) all (rows ++ rest) same)
    (subst (λ l. IsPermutation l ((rows ++ row ∷ []) ++ rest)) (sym (append_assoc rows rest (row ∷ [])))
    (subst (λ l. IsPermutation (rows ++ (rest ++ row ∷ [])) l) (sym (append_assoc rows (row ∷ []) rest))
    (IsPermutation-append_right rows (rest ++ row ∷ []) (row ∷ rest) (IsPermutation-append_comm rest (row ∷ [])))))

split_before : {X : Type 0} (n : ℕ) (xs rest : List X) → xs ++ rest ≡ take n xs ++ (drop n xs ++ rest)
split_before n xs rest = ap (λ l. l ++ rest) (sym (take-append-drop n xs)) ∙ append_assoc (take n xs) (drop n xs) rest

module _ {X : Type 0} (R : X → X → Ordering) where
  -- two sorted lists, of which no row of the second is below one of the first
  pub sorted_append : (xs ys : List X) → IsSorted R xs → IsSorted R ys → ((x y : X) → Contains xs x → Contains ys y → is_lt (R y x) ≡ false) → IsSorted R (xs ++ ys)
  sorted_append xs ys up more apart k d low high =
      let long = length-append xs ys in
      elim (cases_lt (k + 1) (length xs)) as (λ _. is_lt (R (get_or (xs ++ ys) (k + 1) d) (get_or (xs ++ ys) k d)) ≡ false) [
        | inl inside ↦ rw (get_or_append_left xs ys d (k + 1) inside, get_or_append_left xs ys d k (omega (arith, inside))) (up k d low inside)
        | inr beyond ↦ elim (cases_lt k (length xs)) as (λ _. is_lt (R (get_or (xs ++ ys) (k + 1) d) (get_or (xs ++ ys) k d)) ≡ false) [
          | inl edge ↦ rw (get_or-append_right xs ys (length xs) (k + 1) d refl beyond, get_or_append_left xs ys d k edge)
              (apart (get_or xs k d) (get_or ys (k + 1 - length xs) d) (Contains-get_or xs k d edge) (Contains-get_or ys (k + 1 - length xs) d (omega (arith, high, long, beyond))))
          | inr past ↦ (let next : k + 1 - length xs ≡ k - length xs + 1 = omega (arith, past) in
              rw (get_or-append_right xs ys (length xs) (k + 1) d refl beyond, get_or-append_right xs ys (length xs) k d refl past, next) (more (k - length xs) d (omega arith) (omega (arith, high, long, past))))
        ]
      ]

  sorted_take : (n : ℕ) (xs : List X) → IsSorted R xs → IsSorted R (take n xs)
  sorted_take n xs up k d low high =
      let long = length-take n xs in
      rw (get_or-take n xs (k + 1) d (omega arith), get_or-take n xs k d (omega arith)) (up k d low (omega arith))

  not_after_append : (y : X) (xs ys : List X) → not_after R y (xs ++ ys) ≡ not_after R y xs + not_after R y ys
  not_after_append y xs ys = ap length (filter-append (λ x. not (is_lt (R y x))) xs ys) ∙ length-append (filter (λ x. not (is_lt (R y x))) xs) (filter (λ x. not (is_lt (R y x))) ys)

  not_after_all : (y : X) (xs : List X) → All (λ x. is_lt (R y x) ≡ false) xs → not_after R y xs ≡ length xs
  not_after_all y [] low = refl
  not_after_all y (x ∷ xs) low =
      let here : is_lt (R y x) ≡ false = low 0 x (omega arith) in
      rw here (ap suc (not_after_all y xs (λ k d small. low (suc k) d (omega arith))))

  not_after_le : (y : X) (xs : List X) → not_after R y xs ≤ length xs
  not_after_le y [] = omega arith
  not_after_le y (x ∷ xs) = by_test (is_lt (R y x)) refl (not_after_le y xs)
    where
      by_test : (b : Bool) → is_lt (R y x) ≡ b → not_after R y xs ≤ length xs → not_after R y (x ∷ xs) ≤ suc (length xs)
      by_test true e rest = rw e (omega arith)
      by_test false e rest = rw e (omega arith)

  not_after_moved : (y : X) (xs ys : List X) → IsPermutation xs ys → not_after R y ys ≡ not_after R y xs
  not_after_moved y xs ys moves =
      let p = λ (x : X). not (is_lt (R y x)) in
      length-filter p ys ∙ sum_by-IsPermutation (λ x. cond (p x) 1 0) xs ys moves ∙ sym (length-filter p xs)

  -- a row comes to what is kept
  pub pushed : (all items : List X) (kept : Kept X) (row : X) → items ≡ kept.rows ++ row ∷ [] → IsTopK R all kept → IsTopK R (all ++ row ∷ []) (record { rows = items; most = kept.most; cut = kept.cut })
  pushed all items kept row push top =
      let rows = kept.rows in
      let most = kept.most in
      subst (λ (l : List X). IsTopK R (all ++ row ∷ []) (record { rows = l; most = kept.most; cut = kept.cut })) (sym push) (record {
        rest = top.rest;
        same = joined all rows top.rest row top.same;
        later = All-weaker (λ y. most ≤ not_after R y rows) (λ y. most ≤ not_after R y (rows ++ row ∷ [])) (λ y enough. omega (arith, enough, not_after_append y rows (row ∷ []))) top.rest top.later;
        ordered = λ is. (let (long, up) = top.ordered is in (omega (arith, length-append rows (row ∷ [])), subst (IsSorted R) (sym (take-append-le most rows (row ∷ []) long)) up));
      })

  module _ (o : IsTotalOrder R) where
    below : (y x z : X) → is_lt (R y x) ≡ true → is_lt (R z x) ≡ false → is_lt (R y z) ≡ true
    below y x z low high = by_test (is_lt (R y z)) refl
      where
        by_test : (b : Bool) → is_lt (R y z) ≡ b → is_lt (R y z) ≡ true
        by_test true e = e
        by_test false e = (let no : is_lt (R y x) ≡ false = (ranks_by o (λ (a : X). a)).chain y z x e high in cc)

    -- where the head comes after y, all do
    past_none : (y x : X) (xs : List X) → IsSorted R (x ∷ xs) → is_lt (R y x) ≡ true → not_after R y (x ∷ xs) ≡ 0
    past_none y x [] up e = rw e refl
    past_none y x (z ∷ zs) up e = rw e (past_none y z zs (sorted_tail R x (z ∷ zs) up) (below y x z e (up 0 x (omega arith) (omega arith))))

    -- where n rows don't come after y, the first n are such
    first_low : (y : X) (n : ℕ) (xs : List X) → IsSorted R xs → n ≤ not_after R y xs → All (λ x. is_lt (R y x) ≡ false) (take n xs)
    first_low y zero [] up enough = All-nil (λ w. is_lt (R y w) ≡ false)
    first_low y zero (x ∷ xs) up enough = All-nil (λ w. is_lt (R y w) ≡ false)
    first_low y (suc n) [] up enough = absurd (omega arith)
    first_low y (suc n) (x ∷ xs) up enough = by_test (is_lt (R y x)) refl (first_low y n xs (sorted_tail R x xs up))
      where
        by_test : (b : Bool) → is_lt (R y x) ≡ b → (n ≤ not_after R y xs → All (λ w. is_lt (R y w) ≡ false) (take n xs)) → All (λ w. is_lt (R y w) ≡ false) (take (suc n) (x ∷ xs))
        by_test true e rest = (let none = past_none y x xs up e in absurd (omega (arith, none, enough)))
        by_test false e rest = (let more = rw e at enough in All-cons (λ w. is_lt (R y w) ≡ false) x (take n xs) e (rest (omega (arith, more))))

    -- no row behind comes before one of the first
    far : (n : ℕ) (xs : List X) → IsSorted R xs → All (λ y. All (λ x. is_lt (R y x) ≡ false) (take n xs)) (drop n xs)
    far n xs up j d small i e less =
        let long = length-take n xs in
        let rest = length-drop n xs in
        rw (get_or-drop n xs j d, get_or-take n xs i e (omega arith), get_or_default xs i e d (omega arith))
        (sorted_far (λ a b. is_lt (R a b)) (ranks_by o (λ a. a)) xs up i (n + j) d (omega arith) (omega arith))

    behind : (n : ℕ) (rows sorted rest : List X) → IsPermutation rows sorted → IsSorted R sorted → All (λ y. n ≤ not_after R y rows) rest
        → All (λ y. All (λ x. is_lt (R y x) ≡ false) (take n sorted)) (drop n sorted ++ rest)
    behind n rows sorted rest moves up later =
        All-append (λ y. All (λ x. is_lt (R y x) ≡ false) (take n sorted)) (drop n sorted) rest (far n sorted up)
        (All-weaker (λ y. n ≤ not_after R y rows) (λ y. All (λ x. is_lt (R y x) ≡ false) (take n sorted)) (λ y enough. first_low y n sorted up (omega (arith, enough, not_after_moved y rows sorted moves))) rest later)

    -- a row that doesn't come before the last of the first is let go
    pub let_go : (all : List X) (kept : Kept X) (row last : X) → kept.cut ≡ true → 0 < kept.most → last ≡ get_or kept.rows (kept.most - 1) last → is_lt (R row last) ≡ false
        → IsTopK R all kept → IsTopK R (all ++ row ∷ []) kept
    let_go all kept row last is some stands high top =
        let (long, up) = top.ordered is in
        let rows = kept.rows in
        let most = kept.most in
        let front : All (λ x. is_lt (R row x) ≡ false) (take most rows) = λ k d small. (
        let short = length-take-le most rows long in
        let here : last ≡ get_or (take most rows) (most - 1) d = stands ∙ get_or_default rows (most - 1) last d (omega arith) ∙ sym (get_or-take most rows (most - 1) d (omega arith)) in
        (ranks_by o (λ (a : X). a)).chain row last (get_or (take most rows) k d) high
        (subst (λ (x : X). is_lt (R x (get_or (take most rows) k d)) ≡ false) (sym here) (sorted_far (λ a b. is_lt (R a b)) (ranks_by o (λ a. a)) (take most rows) up k (most - 1) d (omega arith) (omega arith)))) in
        let split : not_after R row (take most rows ++ drop most rows) ≡ not_after R row rows = ap (not_after R row) (take-append-drop most rows) in
        record {
          rest = top.rest ++ row ∷ [];
          same = subst (λ l. IsPermutation (all ++ row ∷ []) l) (append_assoc rows top.rest (row ∷ [])) (IsPermutation-append_left (row ∷ []) all (rows ++ top.rest) top.same);
          later = All-push (λ y. most ≤ not_after R y rows) top.rest row top.later
              (omega (arith, length-take-le most rows long, not_after_all row (take most rows) front, not_after_append row (take most rows) (drop most rows), split));
          ordered = top.ordered;
        }

    -- the first are put in front, and the others let go
    pub cut_down : (all sorted items : List X) (kept : Kept X) → IsPermutation kept.rows sorted → IsSorted R sorted → kept.most ≤ length kept.rows → items ≡ take kept.most sorted
        → IsTopK R all kept → IsTopK R all (record { rows = items; most = kept.most; cut = true })
    cut_down all sorted items kept moves up enough front top =
        let most = kept.most in
        let long : most ≤ length sorted = omega (arith, enough, length_permutation kept.rows sorted moves) in
        let short = length-take-le most sorted long in
        subst (λ (l : List X). IsTopK R all (record { rows = l; most = kept.most; cut = true })) (sym front) (record {
          rest = drop most sorted ++ top.rest;
          same = IsPermutation-trans all (kept.rows ++ top.rest) (take most sorted ++ (drop most sorted ++ top.rest)) top.same
              (subst (λ l. IsPermutation (kept.rows ++ top.rest) l) (split_before most sorted top.rest) (IsPermutation-append_left top.rest kept.rows sorted moves));
          later = All-weaker (λ y. All (λ x. is_lt (R y x) ≡ false) (take most sorted)) (λ y. most ≤ not_after R y (take most sorted))
              (λ y low. omega (arith, not_after_all y (take most sorted) low, short)) (drop most sorted ++ top.rest) (behind most kept.rows sorted top.rest moves up top.later);
          ordered = λ is. (omega (arith, short), subst (IsSorted R) (sym (take-take most most sorted (omega arith))) (sorted_take most sorted up));
        })

    -- the first of what is kept are the first of all
    pub first_of_top : (all : List X) (kept : Kept X) (answer : List X) → IsTopK R all kept → SortedAndCut R (FirstRows kept.most) kept.rows answer → SortedAndCut R (FirstRows kept.most) all answer
    first_of_top all kept answer top first = by_rest top.rest top.same top.later
      where
        by_rest : (rest : List X) → IsPermutation all (kept.rows ++ rest) → All (λ y. kept.most ≤ not_after R y kept.rows) rest → SortedAndCut R (FirstRows kept.most) all answer
        by_rest [] same later = record {
          sorted = first.sorted;
          same = IsPermutation-trans all kept.rows first.sorted (subst (IsPermutation all) (append-nil kept.rows) same) first.same;
          ordered = first.ordered;
          kept = first.kept;
        }
        by_rest (y ∷ ys) same later =
            let front = take kept.most first.sorted in
            let back = drop kept.most first.sorted ++ y ∷ ys in
            let (all_back, more) = some_first R o AllRows back in
            let one : kept.most ≤ not_after R y kept.rows = later 0 y (omega arith) in
            let long : kept.most ≤ length first.sorted = omega (arith, one, not_after_le y kept.rows, length_permutation kept.rows first.sorted first.same) in
            let apart = behind kept.most kept.rows first.sorted (y ∷ ys) first.same first.ordered later in
            record {
              sorted = front ++ more.sorted;
              same = IsPermutation-trans all (kept.rows ++ y ∷ ys) (front ++ more.sorted) same (IsPermutation-trans (kept.rows ++ y ∷ ys) (front ++ back) (front ++ more.sorted)
                  (subst (λ l. IsPermutation (kept.rows ++ y ∷ ys) l) (split_before kept.most first.sorted (y ∷ ys)) (IsPermutation-append_left (y ∷ ys) kept.rows first.sorted first.same))
                  (IsPermutation-append_right front back more.sorted more.same));
              ordered = sorted_append front more.sorted (sorted_take kept.most first.sorted first.ordered) more.ordered (λ x z c d.
                  All-contains (λ w. is_lt (R z w) ≡ false) front x
                  (All-contains (λ v. All (λ w. is_lt (R v w) ≡ false) front) back z apart (Contains-permutation more.sorted back z (IsPermutation-sym back more.sorted more.same) d)) c);
              kept = first.kept ∙ sym (take-append-le kept.most front more.sorted (omega (arith, length-take-le kept.most first.sorted long)) ∙ take-take kept.most kept.most first.sorted (omega arith));
            }

    pub first_of_inside : (all : List X) (inside kept : Kept X) (answer : List X) → inside ≡ kept → SortedAndCut R (FirstRows inside.most) inside.rows answer → IsTopK R all kept → SortedAndCut R (FirstRows kept.most) all answer
    first_of_inside all inside kept answer is first top = first_of_top all kept answer top (subst (λ (k : Kept X). SortedAndCut R (FirstRows k.most) k.rows answer) is first)

module _ {F X : Type 0} (g : Mut F (Bor X × (Bor X × Unit {0})) Ordering) (f : F) where
  -- the row comes to what is kept
  pub taken_in : (row : X) (items : List X) (inside old : Kept X) → inside ≡ old → items ≡ inside.rows ++ row ∷ [] → TakesIn g f row old (record { rows = items; most = inside.most; cut = inside.cut })
  taken_in row items inside old is push order all total compares top = pushed order all items inside row push (subst (IsTopK order all) (sym is) top)

  -- and this is cut
  pub taken_cut : (row : X) (items sorted front : List X) (inside old : Kept X) → inside ≡ old → items ≡ inside.rows ++ row ∷ [] → IsPermutation items sorted → IsSortedByClosure g f sorted
      → inside.most ≤ length items → front ≡ take inside.most sorted → TakesIn g f row old (record { rows = front; most = inside.most; cut = true })
  taken_cut row items sorted front inside old is push moves up enough cut order all total compares top =
      cut_down order total (all ++ row ∷ []) sorted front (record { rows = items; most = inside.most; cut = inside.cut }) moves (up (λ x y. is_lt (order x y)) (ranks_by total (λ x. x)) compares) enough cut
      (taken_in row items inside old is push order all total compares top)

module _ {F X : Type 0} (g : Mut F (Bor X × (Bor X × Unit {0})) Ordering) (f f' : F) (a : Bor X × (Bor X × Unit {0})) (r : Ordering) (call : Called g f a r f') where
  -- what holds by the orders that a closure compares by after a call holds by those before it
  pub taken_after : (row : X) (old new : Kept X) → TakesIn g f' row old new → TakesIn g f row old new
  taken_after row old new takes order all total compares top = takes order all total (record { at = λ xs. (compares.at (a ∷ xs) r f' call).1 }) top

  -- the closure finds that the row doesn't come before the last of the first
  pub taken_past : (kept : Kept X) → is_lt r ≡ false → kept.cut ≡ true → 0 < kept.most → a.1.0.now ≡ get_or kept.rows (kept.most - 1) a.1.0.now → TakesIn g f a.0.now kept kept
  taken_past kept high is some stands order all total compares top =
      let_go order total all kept a.0.now a.1.0.now is some stands (sym ((compares.at (a ∷ []) r f' call).0) ∙ high) top
