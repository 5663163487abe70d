-- What holds of the lists of parameters after a push.
use Rattle.std.proofs.Common.{◌≡◌, ◌≢◌, ◌⊎◌, ℕ, ◌++◌, ◌∷◌, [], inl, inr, arith, subst, sym, ◌∙◌, Ok, Err, Result, OnOk, OnErr}
use Rattle.std.proofs.lemmas.Bool.{cases_lt}
use Rattle.std.proofs.lemmas.List.Elements.{All-push}
use Rattle.snb_schema.specs.declared.query.Query.{Query}
use Rattle.snb_schema.specs.Queries.{number_of_query}
use Rattle.snb_schema.specs.QueryLists.{QueryLists, list_of, AreOf, AreSorted}

-- a number is another or it is not
same_or_not : (a b : ℕ) → (a ≡ b) ⊎ (a ≢ b)
same_or_not a b =
    elim (cases_lt a b) [
      | inl under ↦ inr (λ e. omega arith)
      | inr over ↦
          elim (cases_lt b a) [
            | inl under ↦ inr (λ e. omega arith)
            | inr not_over ↦ inl (omega arith)
          ]
    ]

-- the list of a number, after a query was appended to its list or to another
of_kind : (old new : QueryLists) (query q : ℕ) (one : Query) → number_of_query one ≡ query
    → list_of new query ≡ list_of old query ++ one ∷ [] → ((other : ℕ) → other ≢ query → list_of new other ≡ list_of old other)
    → AreOf q (list_of old q) → AreOf q (list_of new q)
of_kind old new query q one kind appended others were =
    elim (same_or_not q query) [
      | inl same ↦
          let more : list_of new q ≡ list_of old q ++ one ∷ [] = subst (λ (n : ℕ). list_of new n ≡ list_of old n ++ one ∷ []) (sym same) appended in
          subst (AreOf q) (sym more) (All-push (λ o. number_of_query o ≡ q) (list_of old q) one were (kind ∙ sym same))
      | inr apart ↦ subst (AreOf q) (sym (others q apart)) were
    ]

-- after a push each list has queries of its kind alone, as before
pub sorted_after : {T E : Type 0} (r : Result T E) (old new : QueryLists) (query : ℕ) (one : Query) → number_of_query one ≡ query
    → OnOk r (list_of new query ≡ list_of old query ++ one ∷ []) → OnOk r ((other : ℕ) → other ≢ query → list_of new other ≡ list_of old other)
    → OnErr r (new ≡ old) → AreSorted old → AreSorted new
sorted_after (Ok _) old new query one kind appended others err sorted = λ q. of_kind old new query q one kind appended others (sorted q)
sorted_after (Err _) old new query one kind appended others err sorted = subst AreSorted (sym err) sorted
