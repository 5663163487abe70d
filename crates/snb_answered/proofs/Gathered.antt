-- Facts on lists of replies.
use Rattle.std.proofs.Common.{◌≡◌, List, [], ◌∷◌, ◌++◌, get_or, inl, inr, sym, refl, subst, arith}
use Rattle.std.specs.Prelude.{All, Any, Contains}
use Rattle.std.proofs.lemmas.List.{get_or_default}
use Rattle.std.proofs.lemmas.List.Elements.{Contains-append_cases, Contains-append_left, Contains-append_right}
use Rattle.snb_base.proofs.Laws.{contains_cases, contains_here, contains_there}
use Rattle.snb_answered.specs.declared.done.Answered.{Answered}
use Rattle.snb_answered.specs.Replies.{HasAdded, HasOne}

module _ {X : Type 0} where
  -- what is true of each element that a list contains is true of all
  pub all_from : (P : X → Type 0) (xs : List X) → ((x : X) → Contains xs x → P x) → All P xs
  all_from P xs each k d lt = each (get_or xs k d) (k, lt, sym (get_or_default xs k d (get_or xs k d) lt))

  pub of_all : (P : X → Type 0) (xs : List X) (x : X) → All P xs → Contains xs x → P x
  of_all P xs x all c = subst P c.2 (all c.0 x c.1)

  pub contains_single : (x y : X) → Contains (x ∷ []) y → y ≡ x
  contains_single x y c = elim (contains_cases x [] y c) [ inl is ↦ sym is | inr (k, lt, e) ↦ absurd (omega arith) ]

  pub contained_any : (P : X → Type 0) (xs : List X) (x : X) → Contains xs x → P x → Any P xs
  contained_any P xs x c p = (c.0, x, c.1, c.2, p)

-- the replies that were there are there
pub still_there : (one : Answered) (old new : List Answered) (a : Answered) → HasAdded one old new → Contains old a → Contains new a
still_there one old new a added c =
    subst (λ (xs : List Answered). Contains xs a) (sym added.are)
    (elim (Contains-append_cases added.before added.after a (subst (λ (xs : List Answered). Contains xs a) added.were c)) [
      | inl early ↦ Contains-append_left added.before (one ∷ added.after) a early
      | inr late ↦ Contains-append_right added.before (one ∷ added.after) a (contains_there one added.after a late)
    ])

-- and so is the one that was added
pub added_there : (one : Answered) (old new : List Answered) → HasAdded one old new → Contains new one
added_there one old new added =
    subst (λ (xs : List Answered). Contains xs one) (sym added.are) (Contains-append_right added.before (one ∷ added.after) one (contains_here one added.after))

-- one reply more, among those that were there
pub has_one : (one : Answered) (old new : List Answered) → HasAdded one old new → HasOne one old new
has_one one old new added = record {
  each = λ a c. elim (Contains-append_cases added.before (one ∷ added.after) a (subst (λ (xs : List Answered). Contains xs a) added.are c)) [
    | inl early ↦ inl (subst (λ (xs : List Answered). Contains xs a) (sym added.were) (Contains-append_left added.before added.after a early))
    | inr late ↦ elim (contains_cases one added.after a late) [
      | inl is ↦ inr (sym is)
      | inr later ↦ inl (subst (λ (xs : List Answered). Contains xs a) (sym added.were) (Contains-append_right added.before added.after a later))
    ]
  ];
  kept = λ a c. still_there one old new a added c;
  there = contained_any (λ other. other.op ≡ one.op) new one (added_there one old new added) refl;
}

-- where there is a reply to the operation already
pub has_one_already : (one : Answered) (old : List Answered) → Any (λ other. other.op ≡ one.op) old → HasOne one old old
has_one_already one old any = record { each = λ a c. inl c; kept = λ a c. c; there = any }

-- the replies of those so far and of one more
pub each_of_more : (yielded : List Answered) (one : Answered) (old new : List Answered) → All (λ a. Contains yielded a) old → HasOne one old new → All (λ a. Contains (yielded ++ one ∷ []) a) new
each_of_more yielded one old new each has = all_from (λ a. Contains (yielded ++ one ∷ []) a) new (λ a c. elim (has.each a c) [
  | inl there ↦ Contains-append_left yielded (one ∷ []) a (of_all (λ a. Contains yielded a) old a each there)
  | inr is ↦ subst (Contains (yielded ++ one ∷ [])) (sym is) (Contains-append_right yielded (one ∷ []) one (contains_here one []))
])

pub all_of_more : (yielded : List Answered) (one : Answered) (old new : List Answered) → All (λ a. Any (λ other. other.op ≡ a.op) old) yielded → HasOne one old new
    → All (λ a. Any (λ other. other.op ≡ a.op) new) (yielded ++ one ∷ [])
all_of_more yielded one old new all has = all_from (λ a. Any (λ other. other.op ≡ a.op) new) (yielded ++ one ∷ []) (λ a c. elim (Contains-append_cases yielded (one ∷ []) a c) [
  | inl early ↦ (
      let any = of_all (λ a. Any (λ other. other.op ≡ a.op) old) yielded a all early in
      contained_any (λ other. other.op ≡ a.op) new any.1 (has.kept any.1 (any.0, any.2, any.3)) any.4)
  | inr last ↦ (
      let is : a ≡ one = contains_single one a last in
      subst (λ (x : Answered). Any (λ other. other.op ≡ x.op) new) (sym is) has.there)
])
