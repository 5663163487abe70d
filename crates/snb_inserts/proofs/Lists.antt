-- What holds of each element of lists that are put together, mapped or filtered.
use Rattle.std.proofs.Common.{◌≡◌, List, [], ◌∷◌, ◌++◌, Bool, false, cond, map, filter, refl, ap, ◌∙◌}
use Rattle.std.specs.List.{AllByRecursion, Contains}
use Rattle.snb_base.proofs.Laws.{contains_here, contains_there}

-- what holds of two lists put together holds of each
pub each_parts : {X : Type 0} (P : X → Type 0) (xs ys : List X) → AllByRecursion P (xs ++ ys) → AllByRecursion P xs × AllByRecursion P ys
each_parts P [] ys all = (tt, all)
each_parts P (x ∷ xs) ys all = let rest = each_parts P xs ys all.1 in ((all.0, rest.0), rest.1)

-- and the other way round
pub each_both : {X : Type 0} (P : X → Type 0) (xs ys : List X) → AllByRecursion P xs → AllByRecursion P ys → AllByRecursion P (xs ++ ys)
each_both P [] ys one other = other
each_both P (x ∷ xs) ys one other = (one.0, each_both P xs ys one.1 other)

-- what holds of all that a function gives
pub each_given : {X Y : Type 0} (P : Y → Type 0) (f : X → Y) → ((x : X) → P (f x)) → (xs : List X) → AllByRecursion P (map f xs)
each_given P f gives [] = tt
each_given P f gives (x ∷ xs) = (gives x, each_given P f gives xs)

-- what follows from what holds of each holds of each
pub each_weaker : {X : Type 0} (P Q : X → Type 0) → ((x : X) → P x → Q x) → (xs : List X) → AllByRecursion P xs → AllByRecursion Q xs
each_weaker P Q gives [] all = tt
each_weaker P Q gives (x ∷ xs) all = (gives x all.0, each_weaker P Q gives xs all.1)

-- what holds of all that a function gives of these elements, where it follows from what holds of them
pub each_of : {X Y : Type 0} (P : X → Type 0) (Q : Y → Type 0) (h : X → Y) → ((x : X) → P x → Q (h x)) → (xs : List X) → AllByRecursion P xs → AllByRecursion Q (map h xs)
each_of P Q h gives [] all = tt
each_of P Q h gives (x ∷ xs) all = (gives x all.0, each_of P Q h gives xs all.1)

-- and where it follows from what holds of all that another gives of them
pub each_mapped : {X Y Z : Type 0} (P : Y → Type 0) (Q : Z → Type 0) (f : X → Y) (h : X → Z) → ((x : X) → P (f x) → Q (h x)) → (xs : List X) → AllByRecursion P (map f xs) → AllByRecursion Q (map h xs)
each_mapped P Q f h gives [] all = tt
each_mapped P Q f h gives (x ∷ xs) all = (gives x all.0, each_mapped P Q f h gives xs all.1)

-- a filter that passes no element keeps none
pub none_kept : {X : Type 0} (p : X → Bool) (xs : List X) → ((x : X) → Contains xs x → p x ≡ false) → filter p xs ≡ []
none_kept p [] fails = refl
none_kept p (x ∷ xs) fails = ap (λ b. cond b (x ∷ filter p xs) (filter p xs)) (fails x (contains_here x xs)) ∙ none_kept p xs (λ y c. fails y (contains_there x xs y c))
