-- Facts on the words that were found, and on what they say.
use Rattle.std.proofs.Common.{◌≡◌, ℕ, List, [], ◌∷◌, Option, Some, None, sym, subst, ap, ◌∙◌, codes, map}
use Rattle.std.specs.Option.{IsSome, is_some}
use Rattle.snb_ratio.specs.Chances.{ChanceFall}
use Rattle.snb_schema.specs.declared.column.Column.{Column}
use Rattle.snb_schema.specs.declared.column.Value.{Value}
use Rattle.snb_schema.specs.declared.query.Query.{Query}
use Rattle.snb_schema.specs.Columns.{Spells, SpellsAll}
use Rattle.snb_schema.specs.Frequencies.{FrequencyTable}
use Rattle.snb_schema.specs.ReadKinds.{read_kind_of, parameter_columns, parameter_values}
use Rattle.snb_tool_words.specs.declared.command.Command.TheVariants.{Check, Run, Audit, Latency, Expect, Validate, Read, Walk, Trial}
use Rattle.snb_tool_words.specs.declared.options.Via.{Via}
use Rattle.snb_tool_words.specs.Commands.{IsReadOf}
use Rattle.snb_tool_words.specs.Options.{MustSay, OptionSays}
use Rattle.snb_tool_words.specs.Taken.{AreFoundOf, AreValuesFound, IsFoundBy, IsReadFound, plain_in, words_before}
use Rattle.snb_tool_words.proofs.CommandLemmas.{at_audit, at_check, at_expect, at_latency, at_read, at_run, at_trial, at_validate, at_walk}
use Rattle.std.proofs.lemmas.Option.{same_Some}

-- ---- words by their places

first_is : (o : Option (List ℕ)) (more : List (Option (List ℕ))) (x : List ℕ) (xs : List (List ℕ)) → words_before (o ∷ more) ≡ x ∷ xs → (o ≡ Some x) × (words_before more ≡ xs)
first_is None more x xs e = absurd cc
first_is (Some w) more x xs e = let heads : w ≡ x = cc in let tails : words_before more ≡ xs = cc in (ap Some heads, tails)

there : (o : Option (List ℕ)) (x : List ℕ) → o ≡ Some x → IsSome o
there o x e = ap is_some e

module _ (f : List ℕ → Option (List ℕ)) (x : List ℕ) (xs : List (List ℕ)) (plain : plain_in f ≡ x ∷ xs) where
  -- the first place has a word
  pub at_first : f (codes "first") ≡ Some x
  at_first = (first_is (f (codes "first")) _ x xs plain).0

  pub has_first : IsSome (f (codes "first"))
  has_first = there (f (codes "first")) x at_first

  after_first : words_before (map f (codes "second" ∷ codes "third" ∷ codes "fourth" ∷ codes "fifth" ∷ [])) ≡ xs
  after_first = (first_is (f (codes "first")) _ x xs plain).1

  pub with_first : (y : List ℕ) → f (codes "first") ≡ Some y → plain_in f ≡ y ∷ xs
  with_first y e = plain ∙ ap (λ (w : List ℕ). w ∷ xs) (same_Some x y (sym at_first ∙ e))

-- and the second
module _ (f : List ℕ → Option (List ℕ)) (x y : List ℕ) (ys : List (List ℕ)) (plain : plain_in f ≡ x ∷ y ∷ ys) where
  pub at_second : f (codes "second") ≡ Some y
  at_second = (first_is (f (codes "second")) _ y ys (after_first f x (y ∷ ys) plain)).0

  pub has_second : IsSome (f (codes "second"))
  has_second = there (f (codes "second")) y at_second

  after_second : words_before (map f (codes "third" ∷ codes "fourth" ∷ codes "fifth" ∷ [])) ≡ ys
  after_second = (first_is (f (codes "second")) _ y ys (after_first f x (y ∷ ys) plain)).1

  pub with_both : (v w : List ℕ) → f (codes "first") ≡ Some v → f (codes "second") ≡ Some w → plain_in f ≡ v ∷ w ∷ ys
  with_both v w a b = with_first f x (y ∷ ys) plain v a ∙ ap (λ (t : List ℕ). v ∷ t ∷ ys) (same_Some y w (sym at_second ∙ b))

-- ---- what a word says

module _ {A : Type 0} (Spells : List ℕ → A → Type 0) where
  -- what is said where no word was found
  pub unfound_says : (default a : A) (o : Option (List ℕ)) → None ≡ o → a ≡ default → OptionSays Spells default o a
  unfound_says default a o e s = subst (λ (o : Option (List ℕ)). OptionSays Spells default o a) e s

  -- a word that was found and says nothing can't be
  pub none_says : (default : A) (word : List ℕ) (o : Option (List ℕ)) → Some word ≡ o → ((a : A) → ¬ Spells word a) → (a : A) × OptionSays Spells default o a → ⊥
  none_says default word o e none s = none s.0 (subst (λ (o : Option (List ℕ)). OptionSays Spells default o s.0) (sym e) s.1)

  -- what the word says that is there
  pub as_must : (o : Option (List ℕ)) (word : List ℕ) (a : A) → o ≡ Some word → Spells word a → MustSay Spells o a
  as_must o word a e s = subst (λ (o : Option (List ℕ)). MustSay Spells o a) (sym e) s

  pub of_must : (o : Option (List ℕ)) (word : List ℕ) (a : A) → o ≡ Some word → MustSay Spells o a → Spells word a
  of_must o word a e s = subst (λ (o : Option (List ℕ)). MustSay Spells o a) e s

-- ---- the words of each command

module _ (f : List ℕ → Option (List ℕ)) where
  pub check_found : IsFoundBy (codes "check") f → (folder : List ℕ) × (table : FrequencyTable) × AreFoundOf (codes "check") f (Check folder table)
  check_found (c, are) = at_check (λ c. AreFoundOf (codes "check") f c → (folder : List ℕ) × (table : FrequencyTable) × AreFoundOf (codes "check") f (Check folder table))
      (λ folder table are. (folder, table, are)) c are.named are

  pub expect_found : IsFoundBy (codes "expect") f → (folder : List ℕ) × (table : FrequencyTable) × AreFoundOf (codes "expect") f (Expect folder table)
  expect_found (c, are) = at_expect (λ c. AreFoundOf (codes "expect") f c → (folder : List ℕ) × (table : FrequencyTable) × AreFoundOf (codes "expect") f (Expect folder table))
      (λ folder table are. (folder, table, are)) c are.named are

  pub run_found : IsFoundBy (codes "run") f → (folder : List ℕ) × (workers ratio : ℕ) × (table : FrequencyTable) × AreFoundOf (codes "run") f (Run folder workers ratio table)
  run_found (c, are) =
      at_run (λ c. AreFoundOf (codes "run") f c → (folder : List ℕ) × (workers ratio : ℕ) × (table : FrequencyTable) × AreFoundOf (codes "run") f (Run folder workers ratio table))
      (λ folder workers ratio table are. (folder, workers, ratio, table, are)) c are.named are

  pub audit_found : IsFoundBy (codes "audit") f → (folder log : List ℕ) × (ratio : ℕ) × (table : FrequencyTable) × AreFoundOf (codes "audit") f (Audit folder log ratio table)
  audit_found (c, are) =
      at_audit (λ c. AreFoundOf (codes "audit") f c → (folder log : List ℕ) × (ratio : ℕ) × (table : FrequencyTable) × AreFoundOf (codes "audit") f (Audit folder log ratio table))
      (λ folder log ratio table are. (folder, log, ratio, table, are)) c are.named are

  pub latency_found : IsFoundBy (codes "latency") f → (folder log : List ℕ) × (ratio : ℕ) × (table : FrequencyTable) × AreFoundOf (codes "latency") f (Latency folder log ratio table)
  latency_found (c, are) =
      at_latency (λ c. AreFoundOf (codes "latency") f c → (folder log : List ℕ) × (ratio : ℕ) × (table : FrequencyTable) × AreFoundOf (codes "latency") f (Latency folder log ratio table))
      (λ folder log ratio table are. (folder, log, ratio, table, are)) c are.named are

  pub validate_found : IsFoundBy (codes "validate") f → (folder cases : List ℕ) × (via : Via) × AreFoundOf (codes "validate") f (Validate folder cases via)
  validate_found (c, are) =
      at_validate (λ c. AreFoundOf (codes "validate") f c → (folder cases : List ℕ) × (via : Via) × AreFoundOf (codes "validate") f (Validate folder cases via))
      (λ folder cases via are. (folder, cases, via, are)) c are.named are

  pub read_found : IsFoundBy (codes "read") f → (folder : List ℕ) × (query : Query) × AreFoundOf (codes "read") f (Read folder query)
  read_found (c, are) = at_read (λ c. AreFoundOf (codes "read") f c → (folder : List ℕ) × (query : Query) × AreFoundOf (codes "read") f (Read folder query))
      (λ folder query are. (folder, query, are)) c are.named are

  pub walk_found : IsFoundBy (codes "walk") f → (folder : List ℕ) × (query : Query) × (chance : ChanceFall) × (words : List ℕ) × AreFoundOf (codes "walk") f (Walk folder query chance words)
  walk_found (c, are) =
      at_walk (λ c. AreFoundOf (codes "walk") f c → (folder : List ℕ) × (query : Query) × (chance : ChanceFall) × (words : List ℕ) × AreFoundOf (codes "walk") f (Walk folder query chance words))
      (λ folder query chance words are. (folder, query, chance, words, are)) c are.named are

  pub trial_found : IsFoundBy (codes "trial") f → (size workers : ℕ) × AreFoundOf (codes "trial") f (Trial size workers)
  trial_found (c, are) = at_trial (λ c. AreFoundOf (codes "trial") f c → (size workers : ℕ) × AreFoundOf (codes "trial") f (Trial size workers))
      (λ size workers are. (size, workers, are)) c are.named are

-- ---- the words of a read

-- the words of which the values are spelled are found
all_found : (cs : List Column) (ws : List (List ℕ)) (found : List (Option (List ℕ))) (vs : List Value) → words_before found ≡ ws → SpellsAll cs ws vs → AreValuesFound cs found vs
all_found [] [] found [] begin s = tt
all_found (c ∷ cs) (w ∷ ws) [] (v ∷ vs) begin s = absurd cc
all_found (c ∷ cs) (w ∷ ws) (word ∷ found) (v ∷ vs) begin s =
    let is = first_is word found w ws begin in (as_must (Spells c) word w v is.0 s.0, all_found cs ws found vs is.1 s.1)
all_found cs ws found vs begin s = absurd s

pub read_is_found : (f : List ℕ → Option (List ℕ)) (folder kind : List ℕ) (parameters : List (List ℕ)) (query : Query) → plain_in f ≡ folder ∷ kind ∷ parameters → IsReadOf kind parameters query
    → IsReadFound f query
read_is_found f folder kind parameters query plain read = record {
  kind = rw (at_second f folder kind parameters plain) read.0;
  parameters = all_found (parameter_columns (read_kind_of query)) parameters _ (parameter_values query) (after_second f folder kind parameters plain) read.1;
}
