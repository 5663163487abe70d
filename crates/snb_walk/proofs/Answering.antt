-- The answers to reads, one after another, and their targets.
use Rattle.std.proofs.Common.{◌≡◌, ◌∙◌, ℕ, ◌+◌, ◌<◌, ◌≤◌, List, [], ◌∷◌, ◌++◌, length, get_or, take, append_assoc, refl, sym, ap, subst}
use Rattle.std.proofs.lemmas.List.{take_all, take_more}
use Rattle.std.specs.List.{AllZip}
use Rattle.snb_schema.specs.declared.query.Query.{Query}
use Rattle.snb_schema.specs.declared.row.Row.{Row}
use Rattle.snb_read_model.specs.ComplexReads.{IsAnswer}
use Rattle.snb_read_order.proofs.Laws.{zip_more}
use Rattle.snb_walk.specs.declared.target.Target.{Target}
use Rattle.snb_walk.specs.Targets.{HaveAnswers, AnswerRows, targets_in, targets_of}

pub append_none : {X : Type 0} (xs : List X) → xs ++ [] ≡ xs
append_none [] = refl
append_none (x ∷ xs) = ap (λ ys. x ∷ ys) (append_none xs)

module _ (g : List Row) where
  -- one more answer adds its targets
  more_targets : (reads : List Query) (reply : List AnswerRows) (read : Query) (answer : AnswerRows) → AllZip (IsAnswer g) reads reply
      → targets_in (reads ++ read ∷ []) (reply ++ answer ∷ []) ≡ targets_in reads reply ++ targets_of read answer
  more_targets [] [] read answer z = append_none (targets_of read answer)
  more_targets [] (a ∷ reply) read answer z = absurd z
  more_targets (q ∷ reads) [] read answer z = absurd z
  more_targets (q ∷ reads) (a ∷ reply) read answer z =
      ap (λ rest. targets_of q a ++ rest) (more_targets reads reply read answer z.1) ∙ sym (append_assoc (targets_of q a) (targets_in reads reply) (targets_of read answer))

  pub one_more : (reads : List Query) (i : ℕ) (read : Query) (answer : AnswerRows) (reply reply' : List AnswerRows) (targets targets' : List Target)
      → i < length reads → read ≡ get_or reads i read → IsAnswer g read answer
      → reply' ≡ reply ++ answer ∷ [] → targets' ≡ targets ++ targets_of read answer
      → HaveAnswers g (take i reads) reply targets → HaveAnswers g (take (i + 1) reads) reply' targets'
  one_more reads i read answer reply reply' targets targets' below here is push list h =
      let asked = subst (λ (q : Query). IsAnswer g q answer) here is in
      let before : take (i + 1) reads ≡ take i reads ++ read ∷ [] = take_more reads i read below ∙ ap (λ q. take i reads ++ q ∷ []) (sym here) in
      record {
        answers = zip_more (IsAnswer g) reads i read reply reply' answer below push h.answers asked;
        listed =
            list ∙ ap (λ ts. ts ++ targets_of read answer) h.listed
            ∙ sym (more_targets (take i reads) reply read answer h.answers)
            ∙ ap (λ qs. targets_in qs (reply ++ answer ∷ [])) (sym before)
            ∙ ap (λ answers. targets_in (take (i + 1) reads) answers) (sym push);
      }

  pub all_read : (reads : List Query) (i : ℕ) (reply : List AnswerRows) (targets : List Target) → length reads ≤ i
      → HaveAnswers g (take i reads) reply targets → HaveAnswers g reads reply targets
  all_read reads i reply targets high h = subst (λ (qs : List Query). HaveAnswers g qs reply targets) (take_all i reads high) h
