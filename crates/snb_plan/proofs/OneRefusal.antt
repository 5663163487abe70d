-- Updates are refused in one way at most.
use Rattle.std.proofs.Common.{◌≡◌, List, [], ◌∷◌, ◌++◌, ◌⊎◌, inl, inr, refl, sym, ap, ◌∙◌, subst}
use Rattle.std.specs.List.{All}
use Rattle.snb_schema.specs.declared.key.Key.{Key}
use Rattle.snb_schema.specs.declared.refusal.Missing.{Missing}
use Rattle.snb_schema.specs.declared.refusal.Refusal.{Refusal}
use Rattle.snb_schema.specs.declared.refusal.Refusal.TheVariants.{Unmet}
use Rattle.snb_schema.specs.References.{refs_of}
use Rattle.snb_plan.specs.Closed.{Update, IsFirstUnmet, IsFirstWrong, IsMet, IsTaken, IsWrong}
use Rattle.snb_plan.specs.PlanLaws.{ClosedIsOne}
use Rattle.snb_plan.proofs.CaseFacts.{IsWrongCase, to_case}
use Rattle.snb_plan.proofs.ClosedLemmas.{not_wrong}
use Rattle.snb_base.proofs.Laws.{all_at}

-- where two elements split a list, they stand at one place, or one of them before the other
splits_one : {X : Type 0} (xs : List X) (x : X) (rest ys : List X) (y : X) (more : List X) → xs ++ x ∷ rest ≡ ys ++ y ∷ more
    → ((xs ≡ ys) × (x ≡ y)) ⊎ ((after : List X) × (xs ++ x ∷ after ≡ ys)) ⊎ ((after : List X) × (ys ++ y ∷ after ≡ xs))
splits_one [] x rest [] y more e = inl (refl, cc)
splits_one [] x rest (z ∷ ys) y more e = inr (inl (ys, cc))
splits_one (z ∷ xs) x rest [] y more e = inr (inr (xs, cc))
splits_one (z ∷ xs) x rest (w ∷ ys) y more e =
    let same : z ≡ w = cc in
    let rests : xs ++ x ∷ rest ≡ ys ++ y ∷ more = cc in
    elim (splits_one xs x rest ys y more rests) [
      | inl here ↦ inl ((let p = here.0 in cc), here.1)
      | inr apart ↦ elim apart [
        | inl below ↦ inr (inl (below.0, let p = below.1 in cc))
        | inr above ↦ inr (inr (above.0, let p = above.1 in cc))
      ]
    ]

-- two references that lack a property first are one
one_unmet : (P : Missing → Type 0) (refs : List Missing) (m n : Missing) → IsFirstUnmet P refs m → IsFirstUnmet P refs n → m ≡ n
one_unmet P refs m n a b =
    elim (splits_one a.front m a.rest b.front n b.rest (a.splits ∙ sym b.splits)) [
      | inl here ↦ here.1
      | inr apart ↦ elim apart [
        | inl below ↦ absurd (a.unmet (all_at P a.front m below.0 (subst (All P) (sym below.1) b.before)))
        | inr above ↦ absurd (b.unmet (all_at P b.front n above.0 (subst (All P) (sym above.1) a.before)))
      ]
    ]

-- what is wrong with an update is one thing
one_case : (holds : Key → Type 0) (all before : List Update) (u : Update) (q r : Refusal) → IsWrongCase (IsTaken holds before) (IsMet holds all before) u q
    → IsWrongCase (IsTaken holds before) (IsMet holds all before) u r → q ≡ r
one_case holds all before u q r (inl a) (inl b) = a.1 ∙ sym b.1
one_case holds all before u q r (inl a) (inr (inl b)) = absurd (b.0 a.0)
one_case holds all before u q r (inl a) (inr (inr b)) = absurd (b.0 a.0)
one_case holds all before u q r (inr (inl a)) (inl b) = absurd (a.0 b.0)
one_case holds all before u q r (inr (inl a)) (inr (inl b)) = a.2 ∙ sym b.2
one_case holds all before u q r (inr (inl a)) (inr (inr b)) = absurd (b.1 a.1)
one_case holds all before u q r (inr (inr a)) (inl b) = absurd (a.0 b.0)
one_case holds all before u q r (inr (inr a)) (inr (inl b)) = absurd (a.1 b.1)
one_case holds all before u q r (inr (inr a)) (inr (inr b)) =
    a.2.2 ∙ ap (λ (n : Missing). Unmet u.file u.line.number n) (one_unmet (IsMet holds all before u) (refs_of u.line.op) a.2.0 b.2.0 a.2.1 b.2.1) ∙ sym b.2.2

one_wrong : (holds : Key → Type 0) (all before : List Update) (u : Update) (q r : Refusal) → IsWrong holds all before u q → IsWrong holds all before u r → q ≡ r
one_wrong holds all before u q r a b =
    one_case holds all before u q r (to_case (IsTaken holds before) (IsMet holds all before) u q a) (to_case (IsTaken holds before) (IsMet holds all before) u r b)

-- and not closed where they are refused
pub closed_is_one : (holds : Key → Type 0) → ClosedIsOne holds
closed_is_one holds all r b = (one, λ closed. not_wrong holds all b.before b.update r (closed.each b.before b.update b.after b.splits) b.wrong)
  where
    one : (q : Refusal) → IsFirstWrong holds all q → q ≡ r
    one q a =
        elim (splits_one a.before a.update a.after b.before b.update b.after (a.splits ∙ sym b.splits)) [
          | inl here ↦ one_wrong holds all b.before b.update q r
              (subst (λ (u : Update). IsWrong holds all b.before u q) here.1 (subst (λ (front : List Update). IsWrong holds all front a.update q) here.0 a.wrong))
              b.wrong
          | inr apart ↦ elim apart [
            | inl below ↦ absurd (b.none_before a.before a.update below.0 q below.1 a.wrong)
            | inr above ↦ absurd (a.none_before b.before b.update above.0 r above.1 b.wrong)
          ]
        ]
