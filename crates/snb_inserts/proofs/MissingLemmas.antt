-- Which node of a list of references isn't held first.
use Rattle.std.proofs.Common.{◌≡◌, ◌↔◌, ◌+◌, List, [], ◌∷◌, ◌++◌, sym, ap, ◌∙◌, subst, All, Result, Err}
use Rattle.std.proofs.lemmas.List.Elements.{All-head, All-tail}
use Rattle.snb_schema.specs.declared.refusal.Missing.{Missing}
use Rattle.snb_schema.specs.declared.row.Row.{Row}
use Rattle.snb_inserts.specs.declared.applied.Applied.{Applied}
use Rattle.snb_inserts.specs.declared.applied.Applied.TheVariants as applied
use Rattle.snb_inserts.specs.Applying.{IsFirstMissing, IsThere}

-- what is answered to an insert
abbrev pub Outcome : Type 0
Outcome = Result (Unit {0}) Applied

-- the outcome says that this node is missing
abbrev pub IsTold : Outcome → Missing → Type 0
IsTold r m = r ≡ Err (applied.Missing m)

-- what holds of all holds of the one between others
all_at : {X : Type 0} (P : X → Type 0) (xs ys : List X) (x : X) → All P (xs ++ x ∷ ys) → P x
all_at P [] ys x all = All-head P x ys all
all_at P (z ∷ xs) ys x all = all_at P xs ys x (All-tail P z (xs ++ x ∷ ys) all)

-- where all references are held, none is missing first
pub none_first : (g : List Row) (refs : List Missing) (m : Missing) → All (IsThere g) refs → ¬ IsFirstMissing g refs m
none_first g refs m there first = first.lacking (all_at (IsThere g) first.before first.after m (subst (All (IsThere g)) (sym first.splits) there))

by_fronts : (g : List Row) (m n : Missing) (xs rest ys more : List Missing)
    → xs ++ m ∷ rest ≡ ys ++ n ∷ more
    → All (IsThere g) xs
    → All (IsThere g) ys
    → ¬ IsThere g m
    → ¬ IsThere g n
    → m ≡ n
by_fronts g m n [] rest [] more e there_x there_y lacks_m lacks_n = cc
by_fronts g m n [] rest (y ∷ ys) more e there_x there_y lacks_m lacks_n =
    let same : y ≡ m = cc in
    absurd (lacks_m (subst (IsThere g) same (All-head (IsThere g) y ys there_y)))
by_fronts g m n (x ∷ xs) rest [] more e there_x there_y lacks_m lacks_n =
    let same : x ≡ n = cc in
    absurd (lacks_n (subst (IsThere g) same (All-head (IsThere g) x xs there_x)))
by_fronts g m n (x ∷ xs) rest (y ∷ ys) more e there_x there_y lacks_m lacks_n =
    let tails : xs ++ m ∷ rest ≡ ys ++ n ∷ more = cc in
    by_fronts g m n xs rest ys more tails (All-tail (IsThere g) x xs there_x) (All-tail (IsThere g) y ys there_y) lacks_m lacks_n

-- two references that are missing first are one
pub one_first : (g : List Row) (refs : List Missing) (m n : Missing) → IsFirstMissing g refs m → IsFirstMissing g refs n → m ≡ n
one_first g refs m n a b = by_fronts g m n a.before a.after b.before b.after (a.splits ∙ sym b.splits) a.there b.there a.lacking b.lacking

-- the outcome names the node that is missing first, and no other
pub told_missing : (g : List Row) (refs : List Missing) (m : Missing) → IsFirstMissing g refs m → (n : Missing) → IsTold (Err (applied.Missing m)) n ↔ IsFirstMissing g refs n
told_missing g refs m first n = (
  λ e. let same : m ≡ n = cc in subst (IsFirstMissing g refs) same first,
  λ other. ap (λ (k : Missing). let told : Outcome = Err (applied.Missing k) in told) (one_first g refs m n first other),
)

-- where all references are held, an outcome that names no node is right
pub told_none : (g : List Row) (refs : List Missing) (r : Outcome) → ((n : Missing) → ¬ IsTold r n) → All (IsThere g) refs → (n : Missing) → IsTold r n ↔ IsFirstMissing g refs n
told_none g refs r other there n = (λ e. absurd (other n e), λ first. absurd (none_first g refs n there first))
