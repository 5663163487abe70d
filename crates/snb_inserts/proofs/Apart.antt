-- Lists of which no two elements have one image, and the items of a list that a field spells, each of which it has once.
use Rattle.std.proofs.Common.{◌≡◌, ◌≢◌, ℕ, List, [], ◌∷◌, ◌++◌, Bool, true, false, cond, Decides, map, get_or, refl, sym, ap, ◌∙◌, inl, inr, arith}
use Rattle.std.proofs.lemmas.Bool.{false≢true, or_parts}
use Rattle.std.proofs.lemmas.List.Elements.{All-from_recursion, Contains-append_right, Contains-get_or, recursion_from_All}
use Rattle.std.specs.List.{AllByRecursion, Contains, list_any}
use Rattle.snb_base.specs.Spellings.{HasOneYear, once_after}
use Rattle.snb_graph_model.proofs.Laws.{of_each}
use Rattle.snb_inserts.proofs.Lists.{each_both, each_of, each_weaker}
use Rattle.snb_base.proofs.Laws.{contains_cases, contains_here, contains_there}

-- no two elements have one image
abbrev pub AreApart : {X Y : Type 0} → (X → Y) → List X → Type 0
AreApart f [] = Unit {0}
AreApart f (x ∷ xs) = AllByRecursion (λ y. f x ≢ f y) xs × AreApart f xs

-- what a function gives of elements that are apart is apart, if it gives one image of elements with one image only
pub apart_mapped : {X Y Z W : Type 0} (f : X → Z) (image : Y → W) (h : X → Y) → ((a b : X) → image (h a) ≡ image (h b) → f a ≡ f b) → (xs : List X) → AreApart f xs → AreApart image (map h xs)
apart_mapped f image h one [] apart = tt
apart_mapped f image h one (x ∷ xs) apart = (each_of (λ y. f x ≢ f y) (λ y. image (h x) ≢ image y) h (λ y other e. other (one x y e)) xs apart.0, apart_mapped f image h one xs apart.1)

-- elements that are apart, put together, are apart if none of the first has the image of one of the others
pub apart_both : {X Y : Type 0} (f : X → Y) (xs ys : List X) → AreApart f xs → AreApart f ys → AllByRecursion (λ x. AllByRecursion (λ y. f x ≢ f y) ys) xs → AreApart f (xs ++ ys)
apart_both f [] ys one other differ = other
apart_both f (x ∷ xs) ys one other differ = (each_both (λ y. f x ≢ f y) xs ys one.0 differ.0, apart_both f xs ys one.1 other differ.1)

-- an element has no image of one before it
pub apart_before : {X Y : Type 0} (f : X → Y) (before : List X) (x : X) (after : List X) → AreApart f (before ++ x ∷ after) → (y : X) → Contains before y → f y ≢ f x
apart_before f [] x after apart y c e = omega (arith, c.1)
apart_before {X} f (z ∷ before) x after apart y c e = elim (contains_cases z before y c) [
  | inl is ↦ of_each (λ w. f z ≢ f w) (before ++ x ∷ after) apart.0 x (Contains-append_right before (x ∷ after) x (contains_here x after)) (ap f is ∙ e)
  | inr later ↦ apart_before f before x after apart.1 y later e
]

-- ---- items of lists

-- items of which each is kept once are apart, and none is one that was seen
module _ {A : Type 0} (eq : A → A → Bool) (decides : (a b : A) → Decides (eq a b) (a ≡ b)) where
  abbrev AreOnce : List A → List A → Type 0
  AreOnce seen items = AllByRecursion (λ b. list_any (eq b) seen ≡ false) items × AreApart (λ b. b) items

  once : (seen all : List A) → AreOnce seen (once_after eq seen all)
  once seen [] = (tt, tt)
  once seen (a ∷ all) = by (list_any (eq a) seen) refl (once seen all) (once (a ∷ seen) all)
    where
      by : (b : Bool) → list_any (eq a) seen ≡ b → AreOnce seen (once_after eq seen all) → AreOnce (a ∷ seen) (once_after eq (a ∷ seen) all) → AreOnce seen (cond b (once_after eq seen all) (a ∷ once_after eq (a ∷ seen) all))
      by true e without with = without
      by false e without with =
          let items = once_after eq (a ∷ seen) all in (
            (e, each_weaker (λ b. list_any (eq b) (a ∷ seen) ≡ false) (λ b. list_any (eq b) seen ≡ false) (λ b none. (or_parts (eq b a) (list_any (eq b) seen) none).1) items with.0),
            (each_weaker (λ b. list_any (eq b) (a ∷ seen) ≡ false) (λ b. a ≢ b) (λ b none is. false≢true (sym (or_parts (eq b a) (list_any (eq b) seen) none).0 ∙ (decides b a).1 (sym is))) items with.0, with.1),
          )

  -- the items of a list are apart
  pub once_apart : (all : List A) → AreApart (λ b. b) (once_after eq [] all)
  once_apart all = (once [] all).1

-- pairs that are apart have ids that are, where no id has two years
pub ids_apart : (items : List (ℕ × ℕ)) → HasOneYear items → AreApart (λ p. p) items → AreApart (λ p. p.0) items
ids_apart [] years apart = tt
ids_apart (p ∷ items) years apart = (
  recursion_from_All (λ q. p.0 ≢ q.0) items (λ k d l e.
      let q = get_or items k d in
      let year = years p q (contains_here p items) (contains_there p items q (Contains-get_or items k d l)) e in
      All-from_recursion (λ q. p ≢ q) items apart.0 k d l (λ i. (e i, year i))),
  ids_apart items (λ q r a b. years q r (contains_there p items q a) (contains_there p items r b)) apart.1,
)
