-- A validation by a table of handlers.
use Rattle.std.specs.Prelude.{Contains, IsSome, MatchOption}
use Rattle.snb_base.specs.Moments.{Moments}
use Rattle.std.specs.Option.{IsSomeAnd}
use Rattle.std.proofs.Common.{◌≡◌, ◌∙◌, ℕ, ◌⊎◌, ◌++◌, List, [], ◌∷◌, Option, Some, None, inl, inr, refl, sym, ap, subst}
use Rattle.snb_base.specs.FirstOf.{FirstOf, NoneOf}
use Rattle.snb_base.specs.Outbox.{Written}
use Rattle.snb_base.specs.Shelf.{Files}
use Rattle.snb_handlers.specs.Table.{HasAll, IsFirstUnhandled, IsFirstWithout}
use Rattle.snb_input_files.specs.Files.{held_in}
use Rattle.snb_input_files.specs.Walk.{Held}
use Rattle.snb_loader.specs.Dataset.{dataset_checks}
use Rattle.snb_loader.specs.Laws.{DatasetIsOne}
use Rattle.snb_schema.specs.declared.query.ReadKind.{ReadKind}
use Rattle.snb_schema.specs.declared.refusal.Refusal.{Refusal}
use Rattle.snb_schema.specs.declared.row.Row.{Row}
use Rattle.snb_schema.specs.ReadKinds.{every_read}
use Rattle.snb_schema.specs.ScreenTexts.{refusal_text}
use Rattle.snb_tool_words.specs.declared.command.Command.{Command}
use Rattle.snb_tool_words.specs.declared.command.Command.TheVariants.{Validate}
use Rattle.snb_tool_words.specs.declared.options.Via.TheVariants.{Graph, Table}
use Rattle.snb_tool_words.specs.Commands.{IsLineOf}
use Rattle.snb_tool_words.specs.Laws.{WordsAreOne}
use Rattle.snb_validation_model.specs.declared.tally.Tally.{Tally}
use Rattle.snb_validation_model.specs.CasesFile.{IsTally}
use Rattle.snb_validation_model.specs.CheckTexts.{tally_status, tally_text}
use Rattle.snb_validation_check.specs.Laws.{TallyIsOne}
use Rattle.snb_walk.specs.declared.target.Pick.TheVariants.{Modulo}
use Rattle.snb_tool_outcome.specs.Inputs.{AreBadCases, IsUnregistered, at_first}
use Rattle.snb_tool_outcome.specs.Found.{Found, Given, IsFoundTold}
use Rattle.snb_tool.specs.Laws.{RefusalIsOne, RefusedOrNot}
use Rattle.snb_tool.specs.CaseLaws.{ViaTableIsTheSame}
use Rattle.snb_tool_outcome.specs.Outcome.{Asked, Belongs, IsCallAnswer, IsRefused}
use Rattle.snb_tool_outcome.specs.Done.{IsValidated}
use Rattle.snb_tool_outcome.specs.Output.{on_screen}
use Rattle.snb_tool.proofs.CompleteLemmas.{told_files}

-- over the same tables and cases one status and one text are told
validated_one : DatasetIsOne → TallyIsOne → (held : Held) (beside : Option (List ℕ)) (s t : ℕ) (texts shown : Written)
    → IsValidated held beside s texts → IsValidated held beside t shown → (t ≡ s) × (shown ≡ texts)
validated_one one tally_one held beside s t texts shown v w =
    let found : IsTally v.graph beside w.tally = subst (λ (g : List Row). IsTally g beside w.tally) (one at_first held w.graph v.graph w.dataset v.dataset) w.found in
    let same : w.tally ≡ v.tally = tally_one v.graph beside w.tally v.tally found v.found in
    (w.status_is ∙ ap tally_status same ∙ sym v.status_is, w.shown ∙ ap (λ (x : Tally). on_screen (tally_text x)) same ∙ sym v.shown)

-- the first kind without a handler has none
first_lacks : (ks there : List ReadKind) (kind : ReadKind) → IsFirstWithout ks there kind → ¬ Contains there kind
first_lacks [] there kind first = absurd first
first_lacks (k ∷ ks) there kind (inl here) = subst (λ (one : ReadKind). ¬ Contains there one) (sym here.0) here.1
first_lacks (k ∷ ks) there kind (inr later) = first_lacks ks there kind later.1

-- where each kind has a handler, none is refused for having none
no_missing : (missing : Option ReadKind) (kinds : List ReadKind) → HasAll kinds → MatchOption missing (HasAll kinds) (IsFirstUnhandled kinds) → (r : Refusal) → ¬ IsUnregistered missing r
no_missing None kinds all m r u = u
no_missing (Some kind) kinds all m r u = first_lacks every_read kinds kind m (all kind)

given_there : (given : Given) → IsSomeAnd given (λ c. HasAll c.kinds) → IsSome given
given_there None all = absurd all
given_there (Some c) all = refl

-- what a validation tries of its tables and its cases
abbrev checks : Held → Option (List ℕ) → List {1} (Refusal → Type 0)
checks held beside = dataset_checks at_first held ++ AreBadCases held beside ∷ []

module _ (files : Files) (folder name : List ℕ) where
  -- what is told of a validation of the files
  abbrev Told : ℕ → Written → Type 0
  Told status texts =
      (NoneOf (checks (held_in folder files) (files name)) × IsValidated (held_in folder files) (files name) status texts)
      ⊎ ((r : Refusal) × FirstOf (checks (held_in folder files) (files name)) r × IsRefused r status texts)

  -- is one thing
  module _ (once : RefusalIsOne) (law : RefusedOrNot) (one : DatasetIsOne) (tally_one : TallyIsOne) where
    abbrev found_there : Found
    found_there = record { missing = None; pick = Modulo; held = held_in folder files; beside = files name }

    told_one : (s t : ℕ) (texts shown : Written) → Told s texts → Told t shown → (t ≡ s) × (shown ≡ texts)
    told_one s t texts shown (inl v) (inl w) = validated_one one tally_one (held_in folder files) (files name) s t texts shown v.1 w.1
    told_one s t texts shown (inl v) (inr w) = absurd (law (Validate folder name Graph) found_there w.0 w.1 v.0)
    told_one s t texts shown (inr v) (inl w) = absurd (law (Validate folder name Graph) found_there v.0 v.1 w.0)
    told_one s t texts shown (inr v) (inr w) =
        let same : w.0 ≡ v.0 = once (Validate folder name Graph) found_there w.0 v.0 w.1 v.1 in
        (w.2.0 ∙ sym v.2.0, w.2.1 ∙ ap (λ (r : Refusal). on_screen (refusal_text r)) same ∙ sym v.2.1)

  module _ (found : Found) (moments : Moments) (status : ℕ) (texts : Written) where
    moved : (held : found.held ≡ held_in folder files) → found.beside ≡ files name → (P : Held → Option (List ℕ) → Type 0) → P found.held found.beside → P (held_in folder files) (files name)
    moved held beside P p = subst (P (held_in folder files)) beside (subst (λ (h : Held). P h found.beside) held p)

    -- by the graph's own reads
    graph_told : (given : Given) → IsFoundTold (Some files) given (Validate folder name Graph) found → Belongs (Validate folder name Graph) found moments status texts → Told status texts
    graph_told given told (inl b) =
        let there = moved (told_files folder files found.held told.0) told.1 in
        inl (there (λ held beside. NoneOf (checks held beside)) b.0, there (λ held beside. IsValidated held beside status texts) b.1)
    graph_told given told (inr b) =
        inr (b.0, moved (told_files folder files found.held told.0) told.1 (λ held beside. FirstOf (checks held beside) b.0) b.1, b.2)

    -- and by a table in which each kind has a handler
    table_told : (given : Given) → IsSomeAnd given (λ c. HasAll c.kinds) → IsFoundTold (Some files) given (Validate folder name Table) found
        → Belongs (Validate folder name Table) found moments status texts → Told status texts
    table_told None all told b = absurd all
    table_told (Some c) all told (inl b) =
        let there = moved (told_files folder files found.held told.0) told.1 in
        inl (there (λ held beside. NoneOf (checks held beside)) b.0.1, there (λ held beside. IsValidated held beside status texts) b.1)
    table_told (Some c) all told (inr (r, inl u, refused)) = absurd (no_missing found.missing c.kinds all told.2.0 r u)
    table_told (Some c) all told (inr (r, inr q, refused)) =
        inr (r, moved (told_files folder files found.held told.0) told.1 (λ held beside. FirstOf (checks held beside) r) q.1, refused)

  module _ (words_one : WordsAreOne) (asked : Asked) (moments : Moments) (status : ℕ) (texts : Written) where
    graph_answered : IsLineOf asked.words (Validate folder name Graph) → IsCallAnswer asked (Some files) moments status texts → Told status texts
    graph_answered line (inl usage) = absurd (usage.1 (Validate folder name Graph) (record { line = line; given = λ e. absurd cc }))
    graph_answered line (inr (c, l, (found, told, b))) =
        let same = words_one asked.words c (Validate folder name Graph) l.line line in
        graph_told found moments status texts asked.given (subst (λ (d : Command). IsFoundTold (Some files) asked.given d found) same told)
        (subst (λ (d : Command). Belongs d found moments status texts) same b)

    table_answered : IsLineOf asked.words (Validate folder name Table) → IsSomeAnd asked.given (λ c. HasAll c.kinds) → IsCallAnswer asked (Some files) moments status texts → Told status texts
    table_answered line all (inl usage) = absurd (usage.1 (Validate folder name Table) (record { line = line; given = λ e. given_there asked.given all }))
    table_answered line all (inr (c, l, (found, told, b))) =
        let same = words_one asked.words c (Validate folder name Table) l.line line in
        table_told found moments status texts asked.given all (subst (λ (d : Command). IsFoundTold (Some files) asked.given d found) same told)
        (subst (λ (d : Command). Belongs d found moments status texts) same b)

pub via_table_is_the_same : WordsAreOne → RefusalIsOne → RefusedOrNot → DatasetIsOne → TallyIsOne → ViaTableIsTheSame
via_table_is_the_same words_one once law one tally_one asked others files moments later folder name status other texts shown line answer other_line all other_answer =
    told_one files folder name once law one tally_one status other texts shown
    (graph_answered files folder name words_one asked moments status texts line answer)
    (table_answered files folder name words_one others later other shown other_line all other_answer)
