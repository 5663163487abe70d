use Rattle.std.proofs.Common.{◌≡◌, ◌≢◌, ◌∙◌, ◌∷◌, ◌++◌, ℕ, List, [], inl, inr, rules, sym, ap, subst, arith}
use Rattle.std.proofs.lemmas.Bool.{cases_eq}
use Rattle.snb_schema.specs.declared.limits.TheConstants.{MAX_TIME}
use Rattle.snb_schema.specs.declared.query.Query.{Query}
use Rattle.snb_schema.specs.declared.query.Query.TheVariants.{Ic2, Ic13}
use Rattle.snb_schema.specs.QueryLists.{QueryLists, list_of}
use Rattle.snb_schema.proofs.Laws.{same_values}
use Rattle.snb_trial.specs.Trial.{lists, trial_parameters}
use Rattle.snb_trial.proofs.ByQuery.{at_query}
use Rattle.snb_trial.proofs.lists.trial_lists.Goals as goal

not_asked : (n q : ℕ) → q ≢ 2 → q ≢ 13 → trial_parameters n q ≡ []
not_asked n q not_two not_thirteen = search rules

-- lists are those of each number
listed : (made : QueryLists) (n : ℕ) → list_of made 2 ≡ Ic2 0 MAX_TIME ∷ [] → list_of made 13 ≡ Ic13 0 n ∷ [] → ((q : ℕ) → q ≢ 2 → q ≢ 13 → list_of made q ≡ []) → made ≡ lists n
listed made n two thirteen others = same_values [] made (lists n) (λ q. each q ∙ sym (at_query (trial_parameters n) [] (not_asked n) q))
  where
    each : (q : ℕ) → list_of made q ≡ trial_parameters n q
    each q = elim (cases_eq q 2) [
      | inl is_two ↦ subst (λ (k : ℕ). list_of made k ≡ trial_parameters n k) (sym is_two) two
      | inr not_two ↦ elim (cases_eq q 13) [
        | inl is_thirteen ↦ subst (λ (k : ℕ). list_of made k ≡ trial_parameters n k) (sym is_thirteen) thirteen
        | inr not_thirteen ↦ others q not_two not_thirteen ∙ sym (not_asked n q not_two not_thirteen)
      ]
    ]

pub returns : goal.returns
returns c =
    let none = λ (q : ℕ) (a : q ≢ 2) (b : q ≢ 13). c.in_ok-push-2.ensures.others q b ∙ c.in_ok-push.ensures.others q a ∙ c.new-made.ensures q in
    listed c.push-2.new.self c.args.n
    (c.in_ok-push-2.ensures.others 2 (omega arith) ∙ c.in_ok-push.ensures.appended ∙ ap (λ (xs : List Query). xs ++ Ic2 0 MAX_TIME ∷ []) (c.new-made.ensures 2))
    (c.in_ok-push-2.ensures.appended ∙ ap (λ (xs : List Query). xs ++ Ic13 0 c.from.result ∷ []) (c.in_ok-push.ensures.others 13 (omega arith) ∙ c.new-made.ensures 13) ∙ ap (λ (to : ℕ). Ic13 0 to ∷ []) c.from.ensures)
    none
