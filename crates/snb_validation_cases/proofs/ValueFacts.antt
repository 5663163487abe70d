-- Values one by one, alone and along columns.
use Rattle.std.proofs.Common.{◌≡◌, ◌<◌, ◌+◌, ◌++◌, ℕ, zero, suc, List, [], ◌∷◌, map, take, length, get_or, refl, ap, sym, subst, arith, Some, None, Option, MatchOption, add-one}
use Rattle.std.specs.List.{AllZip}
use Rattle.serde_json.specs.Data.{Data}
use Rattle.serde_json.specs.Find.{as_array}
use Rattle.serde_json.specs.View.{items_of, view}
use Rattle.serde_json.specs.declared.value.Value.{Value}
use Rattle.snb_validation_cases.specs.Values.{AreAlong, IsArray}

each_next : {X : Type 0} (R : Data → X → Type 0) (i : ℕ) (vs : List Value) (v : Value) (xs : List X) (x : X) → i < length vs → AllZip R (map view (take i vs)) xs → R (view (get_or vs i v)) x
    → AllZip R (map view (take (suc i) vs)) (xs ++ x ∷ [])
each_next R i [] v xs x l s r = absurd (omega (arith, l))
each_next R zero (w ∷ vs) v [] x l s r = (r, tt)
each_next R zero (w ∷ vs) v (y ∷ ys) x l s r = absurd s
each_next R (suc i) (w ∷ vs) v [] x l s r = absurd s
each_next R (suc i) (w ∷ vs) v (y ∷ ys) x l s r = (s.0, each_next R i vs v ys x (omega (arith, l)) s.1 r)

-- one more value was seen
pub each_more : {X : Type 0} (R : Data → X → Type 0) (i : ℕ) (vs : List Value) (v : Value) (xs : List X) (x : X) → i < length vs → AllZip R (map view (take i vs)) xs → R (view (get_or vs i v)) x
    → AllZip R (map view (take (i + 1) vs)) (xs ++ x ∷ [])
each_more R i vs v xs x l s r = rw (add-one i) (each_next R i vs v xs x l s r)

-- where one value is none of them, no list is
pub each_none : {X : Type 0} (R : Data → X → Type 0) (i : ℕ) (vs : List Value) (v : Value) → i < length vs → ((x : X) → ¬ R (view (get_or vs i v)) x) → (xs : List X) → ¬ AllZip R (map view vs) xs
each_none R i [] v l none xs h = absurd (omega (arith, l))
each_none R i (w ∷ vs) v l none [] h = absurd h
each_none R zero (w ∷ vs) v l none (x ∷ xs) h = none x h.0
each_none R (suc i) (w ∷ vs) v l none (x ∷ xs) h = each_none R i vs v (omega (arith, l)) none xs h.1

along_next : {C X : Type 0} (R : C → Data → X → Type 0) (i : ℕ) (cs : List C) (vs : List Value) (c : C) (v : Value) (xs : List X) (x : X) → i < length cs → i < length vs → AreAlong R (take i cs) (map view (take i vs)) xs
    → R (get_or cs i c) (view (get_or vs i v)) x → AreAlong R (take (suc i) cs) (map view (take (suc i) vs)) (xs ++ x ∷ [])
along_next R i [] vs c v xs x k l s r = absurd (omega (arith, k))
along_next R i (b ∷ cs) [] c v xs x k l s r = absurd (omega (arith, l))
along_next R zero (b ∷ cs) (w ∷ vs) c v [] x k l s r = (r, tt)
along_next R zero (b ∷ cs) (w ∷ vs) c v (y ∷ ys) x k l s r = absurd s
along_next R (suc i) (b ∷ cs) (w ∷ vs) c v [] x k l s r = absurd s
along_next R (suc i) (b ∷ cs) (w ∷ vs) c v (y ∷ ys) x k l s r = (s.0, along_next R i cs vs c v ys x (omega (arith, k)) (omega (arith, l)) s.1 r)

-- the same along columns, where `w` is the value
pub along_more : {C X : Type 0} (R : C → Data → X → Type 0) (i : ℕ) (cs : List C) (vs : List Value) (c : C) (w : Value) (xs : List X) (x : X) → w ≡ get_or vs i w → i < length cs → i < length vs
    → AreAlong R (take i cs) (map view (take i vs)) xs → R (get_or cs i c) (view w) x → AreAlong R (take (i + 1) cs) (map view (take (i + 1) vs)) (xs ++ x ∷ [])
along_more R i cs vs c w xs x e k l s r = rw (add-one i) (along_next R i cs vs c w xs x k l s (subst (λ (v : Value). R (get_or cs i c) (view v) x) e r))

none_along : {C X : Type 0} (R : C → Data → X → Type 0) (i : ℕ) (cs : List C) (vs : List Value) (c : C) (v : Value) → i < length cs → i < length vs → ((x : X) → ¬ R (get_or cs i c) (view (get_or vs i v)) x)
    → (xs : List X) → ¬ AreAlong R cs (map view vs) xs
none_along R i [] vs c v k l none xs h = absurd (omega (arith, k))
none_along R i (b ∷ cs) [] c v k l none xs h = absurd (omega (arith, l))
none_along R i (b ∷ cs) (w ∷ vs) c v k l none [] h = absurd h
none_along R zero (b ∷ cs) (w ∷ vs) c v k l none (x ∷ xs) h = none x h.0
none_along R (suc i) (b ∷ cs) (w ∷ vs) c v k l none (x ∷ xs) h = none_along R i cs vs c v (omega (arith, k)) (omega (arith, l)) none xs h.1

pub along_none : {C X : Type 0} (R : C → Data → X → Type 0) (i : ℕ) (cs : List C) (vs : List Value) (c : C) (w : Value) → w ≡ get_or vs i w → i < length cs → i < length vs → ((x : X) → ¬ R (get_or cs i c) (view w) x)
    → (xs : List X) → ¬ AreAlong R cs (map view vs) xs
along_none R i cs vs c w e k l none = none_along R i cs vs c w k l (λ x r. none x (subst (λ (v : Value). R (get_or cs i c) (view v) x) (sym e) r))

-- there are as many values as columns
pub along_long : {C X : Type 0} (R : C → Data → X → Type 0) (cs : List C) (vs : List Value) (xs : List X) → AreAlong R cs (map view vs) xs → length cs ≡ length vs
along_long R [] [] [] h = refl
along_long R [] [] (x ∷ xs) h = absurd h
along_long R [] (v ∷ vs) [] h = absurd h
along_long R [] (v ∷ vs) (x ∷ xs) h = absurd h
along_long R (c ∷ cs) [] [] h = absurd h
along_long R (c ∷ cs) [] (x ∷ xs) h = absurd h
along_long R (c ∷ cs) (v ∷ vs) [] h = absurd h
along_long R (c ∷ cs) (v ∷ vs) (x ∷ xs) h = ap suc (along_long R cs vs xs h.1)

-- ---- arrays

pub items_same : (xs ys : List Data) → items_of xs ≡ items_of ys → xs ≡ ys
items_same [] [] e = refl
items_same [] (y ∷ ys) e = cc
items_same (x ∷ xs) [] e = cc
items_same (x ∷ xs) (y ∷ ys) e =
    let head : x ≡ y = cc in
    let tails : items_of xs ≡ items_of ys = cc in
    let tail = items_same xs ys tails in
    cc

-- a value has one list of items
pub one_list : (d : Data) (xs ys : List Data) → as_array d ≡ Some (items_of xs) → as_array d ≡ Some (items_of ys) → xs ≡ ys
one_list d xs ys e f = items_same xs ys (let same : items_of xs ≡ items_of ys = cc in same)

-- what an array of these values is
pub array_all : {X : Type 0} (R : List Data → X → Type 0) (d : Data) (ds : List Data) (x : X) → as_array d ≡ Some (items_of ds) → IsArray R d x → R ds x
array_all R d ds x e (es, is, all) = subst (λ (ys : List Data). R ys x) (one_list d es ds is e) all

-- what the values of an array are found to be, the array is
pub array_found : {X : Type 0} (R : List Data → X → Type 0) (d : Data) (ds : List Data) → as_array d ≡ Some (items_of ds) → (found : Option X) → MatchOption found ((x : X) → ¬ R ds x) (R ds) → MatchOption found ((x : X) → ¬ IsArray R d x) (IsArray R d)
array_found R d ds e None none = λ x h. none x (array_all R d ds x e h)
array_found R d ds e (Some x) h = (ds, e, h)
