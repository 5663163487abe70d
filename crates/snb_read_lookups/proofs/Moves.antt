-- Joins and filters of one more, and answers of things in another order.
use Rattle.std.proofs.Common.{◌≡◌, Bool, true, false, cond, List, [], ◌∷◌, ◌++◌, sym, ap, ◌∙◌, append_assoc}
use Rattle.std.proofs.lemmas.List.{append-nil}
use Rattle.std.proofs.lemmas.List.Sorted.{IsPermutation-sym, IsPermutation-trans}
use Rattle.std.specs.List.{filter, flat_map}
use Rattle.std.specs.List.Sorted.{IsPermutation}
use Rattle.snb_read_order.proofs.Laws.{zip_moved}
use Rattle.snb_read_model.specs.Cells.{ByteCell}
use Rattle.snb_read_model.specs.Order.{ReadAnswers, Cut, Way}

-- a join of one more
pub joined_push : {X Y : Type 0} (f : X → List Y) (xs : List X) (x : X) → flat_map f (xs ++ x ∷ []) ≡ flat_map f xs ++ f x
joined_push f [] x = append-nil (f x)
joined_push f (y ∷ ys) x = ap (λ l. f y ++ l) (joined_push f ys x) ∙ sym (append_assoc (f y) (flat_map f ys) (f x))

-- a filter of one more
pub filter_push : {X : Type 0} (p : X → Bool) (xs : List X) (x : X) (b : Bool) → p x ≡ b → filter p (xs ++ x ∷ []) ≡ filter p xs ++ cond b (x ∷ []) []
filter_push p [] x b e = ap (λ c. cond c (x ∷ []) []) e
filter_push p (y ∷ ys) x b e = by (p y) (filter_push p ys x b e)
  where
    by : (c : Bool) → filter p (ys ++ x ∷ []) ≡ filter p ys ++ cond b (x ∷ []) [] → cond c (y ∷ filter p (ys ++ x ∷ [])) (filter p (ys ++ x ∷ [])) ≡ cond c (y ∷ filter p ys) (filter p ys) ++ cond b (x ∷ []) []
    by true h = ap (λ l. y ∷ l) h
    by false h = h

-- an answer of things in another order
pub answers_moved : {X : Type 0} (Shows : X → List ByteCell → Type 0) (order : List Way) (cut : Cut) (counted found : List X) (answer : List (List ByteCell)) → IsPermutation counted found
    → ReadAnswers found Shows order cut answer → ReadAnswers counted Shows order cut answer
answers_moved Shows order cut counted found answer moves a =
    let (rows, same, shown) = zip_moved Shows found counted a.rows (IsPermutation-sym counted found moves) a.shown in
    record {
      rows = rows;
      shown = shown;
      first = record { sorted = a.first.sorted; same = IsPermutation-trans rows a.rows a.first.sorted (IsPermutation-sym a.rows rows same) a.first.same; ordered = a.first.ordered; kept = a.first.kept };
    }
