-- Facts on what the commands that read a dataset answer.
use Rattle.std.proofs.Common.{◌≡◌, ℕ, List, [], Option, None, Some, Ok, Err, Vec, refl, subst, ap, ◌∙◌, inl, inr, ◌∷◌, Result}
use Rattle.snb_base.specs.Moments.{Moments}
use Rattle.std.specs.declared.alloc.Global.{Global}
use Rattle.snb_base.specs.Outbox.{Written}
use Rattle.snb_base.specs.Shelf.{Files}
use Rattle.snb_schema.specs.declared.query.Query.{Query}
use Rattle.snb_input_files.specs.declared.load.Load.{Load}
use Rattle.snb_input_files.specs.Walk.{Held}
use Rattle.snb_schema.specs.declared.row.Row.{Row}
use Rattle.snb_schema.specs.Frequencies.{FrequencyTable}
use Rattle.snb_tool_words.specs.declared.command.Command.TheVariants.{Check, Expect, Read, Validate, Walk}
use Rattle.snb_tool_words.specs.declared.options.Via.TheVariants as via
use Rattle.snb_handlers.specs.Table.{HasAll}
use Rattle.snb_schema.specs.declared.refusal.Refusal.{Refusal}
use Rattle.snb_tool_outcome.specs.Inputs.{AreBadCases, at_first}
use Rattle.snb_tool_outcome.specs.Found.{Connector, Given}
use Rattle.snb_ratio.specs.Chances.{ChanceFall}
use Rattle.snb_walk.specs.declared.target.Pick.TheVariants.{Modulo}
use Rattle.snb_tool_outcome.specs.declared.delivery.Finished.{Finished}
use Rattle.snb_tool_outcome.specs.declared.input.Input.{Input}
use Rattle.snb_validation_model.specs.declared.tally.Tally.{Tally}
use Rattle.snb_tool_outcome.specs.Endings.{IsDoneWith, IsFinished}
use Rattle.snb_tool_outcome.specs.PlanEndings.{IsInputAnswer}
use Rattle.snb_tool_outcome.specs.DatasetEndings.{IsReplyAnswer, IsTallyAnswer, IsWalkAnswer, TellsTally, IsReplyLine}
use Rattle.snb_tool_outcome.specs.Done.{check_of}
use Rattle.snb_tool_outcome.specs.Output.{on_screen}
use Rattle.snb_input_files.specs.declared.load.Load.TheVariants.{Refused, ReadFault, Memory}
use Rattle.snb_input_files.specs.declared.load.Used.{Used}
use Rattle.snb_base.specs.FirstOf.{FirstOf, NoneOf}
use Rattle.snb_input_files.proofs.Laws.{first_anyway, first_later, none_append}
use Rattle.snb_loader.specs.Dataset.{IsDataset, IsDatasetAnswer, dataset_checks}
use Rattle.snb_loader.specs.Laws.{DatasetIsOne}
use Rattle.snb_validation_model.specs.CasesFile.{IsCasesAnswer, cases_checks}
use Rattle.snb_validation_check.specs.Laws.{CasesRefusedOrNot}
use Rattle.snb_tool_outcome.proofs.Laws.{any_told, beside_told, nothing_used}

-- ---- what a command answers where it isn't done

-- a command whose files are those of a plan answers what the loading of its input does
module _ (contents : Option Files) (folder : List ℕ) (table : FrequencyTable) (given : Given) (moments : Moments) where
  check_by : (load : Load) → IsInputAnswer contents folder 1000000 table (Err load) → IsFinished (Check folder table) contents given moments (Err load)
  check_by (Refused r) h = (record { missing = None; pick = Modulo; held = h.0; beside = None }, (h.1, tt, tt), h.2)
  check_by ReadFault h = tt
  check_by Memory h = tt

  expect_by : (load : Load) → IsInputAnswer contents folder 1000000 table (Err load) → IsFinished (Expect folder table) contents given moments (Err load)
  expect_by (Refused r) h = (record { missing = None; pick = Modulo; held = h.0; beside = None }, (h.1, tt, tt), h.2)
  expect_by ReadFault h = tt
  expect_by Memory h = tt

  pub check_not : (ratio : ℕ) → ratio ≡ 1000000 → (load : Load) → IsInputAnswer contents folder ratio table (Err load) → IsFinished (Check folder table) contents given moments (Err load)
  check_not ratio one load h = check_by load (subst (λ (n : ℕ). IsInputAnswer contents folder n table (Err load)) one h)

  pub expect_not : (ratio : ℕ) → ratio ≡ 1000000 → (load : Load) → IsInputAnswer contents folder ratio table (Err load) → IsFinished (Expect folder table) contents given moments (Err load)
  expect_not ratio one load h = expect_by load (subst (λ (n : ℕ). IsInputAnswer contents folder n table (Err load)) one h)

pub read_not : (contents : Option Files) (folder : List ℕ) (query : Query) (given : Given) (moments : Moments) (load : Load) → IsReplyAnswer contents folder query (Err load)
    → IsFinished (Read folder query) contents given moments (Err load)
read_not contents folder query given moments (Refused r) h = (record { missing = None; pick = Modulo; held = h.0; beside = None }, (h.1, tt, tt), h.2)
read_not contents folder query given moments ReadFault h = tt
read_not contents folder query given moments Memory h = tt

-- ---- the texts of a command

pub check_done : (contents : Option Files) (folder : List ℕ) (ratio : ℕ) (table : FrequencyTable) (given : Given) (moments : Moments) (input : Input) (status : ℕ) (texts : Written) → ratio ≡ 1000000
    → IsInputAnswer contents folder ratio table (Ok input) → status ≡ 0 → texts ≡ on_screen (check_of input.graph input.plan) → IsDoneWith (Check folder table) contents given moments status texts
check_done contents folder ratio table given moments input status texts one h s e =
    let k : IsInputAnswer contents folder 1000000 table (Ok input) = subst (λ (n : ℕ). IsInputAnswer contents folder n table (Ok input)) one h in
    (record { missing = None; pick = Modulo; held = k.0; beside = None }, (k.1, tt, tt), k.2.clean, (s, record { graph = input.graph; plan = input.plan; input = k.2.is; shown = e }))

pub read_done : (contents : Option Files) (folder : List ℕ) (query : Query) (given : Given) (moments : Moments) (line : Vec ℕ Global) (status : ℕ) (texts : Written) → IsReplyAnswer contents folder query (Ok line)
    → status ≡ 0 → texts ≡ on_screen line.items → IsDoneWith (Read folder query) contents given moments status texts
read_done contents folder query given moments line status texts h s e = (
  record { missing = None; pick = Modulo; held = h.0; beside = None },
  (h.1, tt, tt),
  h.2.dataset.clean,
  (
    s,
    record {
      graph = h.2.graph;
      reply = h.2.shown.reply;
      dataset = h.2.dataset;
      replies = h.2.shown.replies;
      shown = e ∙ ap on_screen h.2.shown.shown;
    },
  ),
)

module _ (contents : Option Files) (folder cases : List ℕ) (moments : Moments) where
  module _ (given : Given) where
    pub validate_not : (load : Load) → IsTallyAnswer contents folder cases (Err load) → IsFinished (Validate folder cases via.Graph) contents given moments (Err load)
    validate_not (Refused r) h = (record { missing = None; pick = Modulo; held = h.0; beside = h.1 }, (h.2, beside_told contents cases h.1 h.3, tt), h.4)
    validate_not ReadFault h = tt
    validate_not Memory h = tt

    pub validate_done : (tally : Tally) (f : Finished) → IsTallyAnswer contents folder cases (Ok tally) → TellsTally tally f → IsFinished (Validate folder cases via.Graph) contents given moments (Ok f)
    validate_done tally f h told = (
      record { missing = None; pick = Modulo; held = h.0; beside = h.1 },
      (h.2, beside_told contents cases h.1 h.3, tt),
      h.4.clean,
      record { graph = h.4.graph; dataset = h.4.dataset; tally = tally; found = h.4.found; status_is = told.status_is; shown = told.shown },
    )

  -- the same of a table in which each kind of read has a handler
  module _ (c : Connector) where
    pub table_not : HasAll c.kinds → (load : Load) → IsTallyAnswer contents folder cases (Err load) → IsFinished (Validate folder cases via.Table) contents (Some c) moments (Err load)
    table_not all (Refused r) h = (
      record { missing = None; pick = c.pick; held = h.0; beside = h.1 },
      (h.2, beside_told contents cases h.1 h.3, (all, refl)),
      inr (λ q no. no, h.4),
    )
    table_not all ReadFault h = tt
    table_not all Memory h = tt

    pub table_done : HasAll c.kinds → (tally : Tally) (f : Finished) → IsTallyAnswer contents folder cases (Ok tally) → TellsTally tally f
        → IsFinished (Validate folder cases via.Table) contents (Some c) moments (Ok f)
    table_done all tally f h told = (
      record { missing = None; pick = c.pick; held = h.0; beside = h.1 },
      (h.2, beside_told contents cases h.1 h.3, (all, refl)),
      (λ q no. no, h.4.clean),
      record { graph = h.4.graph; dataset = h.4.dataset; tally = tally; found = h.4.found; status_is = told.status_is; shown = told.shown },
    )

-- a walk by a table in which each kind of read has a handler, and a policy
module _ (contents : Option Files) (folder : List ℕ) (query : Query) (chance : ChanceFall) (words : List ℕ) (c : Connector) (moments : Moments) where
  pub walk_not : HasAll c.kinds → (load : Load) → IsWalkAnswer contents folder c.pick query chance words (Err load) → IsFinished (Walk folder query chance words) contents (Some c) moments (Err load)
  walk_not all (Refused r) h = (record { missing = None; pick = c.pick; held = h.0; beside = None }, (h.1, tt, (all, refl)), inr (λ q no. no, h.2))
  walk_not all ReadFault h = tt
  walk_not all Memory h = tt

  pub walk_done : HasAll c.kinds → (text : Vec ℕ Global) (status : ℕ) (texts : Written) → IsWalkAnswer contents folder c.pick query chance words (Ok text) → status ≡ 0 → texts ≡ on_screen text.items
      → IsDoneWith (Walk folder query chance words) contents (Some c) moments status texts
  walk_done all text status texts h s e = (
    record { missing = None; pick = c.pick; held = h.0; beside = None },
    (h.1, tt, (all, refl)),
    (λ q no. no, h.2.dataset.clean),
    (
      s,
      record {
        graph = h.2.graph;
        answer = h.2.answer;
        steps = h.2.steps;
        stop = h.2.stop;
        dataset = h.2.dataset;
        walk = h.2.walk;
        shown = e ∙ ap on_screen h.2.shown;
      },
    ),
  )

-- ---- of `read`

module _ (contents : Option Files) (folder : List ℕ) (query : Query) where
  pub read_no_dataset : (used : Used) (load : Load) → IsDatasetAnswer contents folder nothing_used used (Err load) → IsReplyAnswer contents folder query (Err load)
  read_no_dataset used (Refused r) h = (h.0, h.1, h.2)
  read_no_dataset used ReadFault h = tt
  read_no_dataset used Memory h = tt

  pub replied : (used : Used) (graph : List Row) (line : Vec ℕ Global) → IsDatasetAnswer contents folder nothing_used used (Ok graph) → IsReplyLine graph query line.items
      → IsReplyAnswer contents folder query (Ok line)
  replied used graph line d r = (d.0, d.1, record { graph = graph; dataset = d.2; shown = r })

-- ---- of `validate`

-- a file of cases with which nothing is wrong over one graph of the tables isn't refused over any
pub not_bad : DatasetIsOne → CasesRefusedOrNot → (held : Held) (beside : Option (List ℕ)) (graph : List Row) → IsDataset at_first held graph → NoneOf (cases_checks graph beside)
    → (r : Refusal) → ¬ AreBadCases held beside r
not_bad one law held beside graph dataset clean r a =
    law graph beside r (subst (λ (g : List Row). FirstOf (cases_checks g beside) r) (one at_first held a.graph graph a.dataset dataset) a.refused) clean

module _ (contents : Option Files) (folder cases : List ℕ) (used : Used) where
  pub tally_no_dataset : (load : Load) → IsDatasetAnswer contents folder nothing_used used (Err load) → IsTallyAnswer contents folder cases (Err load)
  tally_no_dataset (Refused r) h =
      let b = any_told contents cases in
      (h.0, b.0, h.1, b.1, first_anyway (dataset_checks at_first h.0) (AreBadCases h.0 b.0 ∷ []) r h.2)
  tally_no_dataset ReadFault h = tt
  tally_no_dataset Memory h = tt

  pub tallied : DatasetIsOne → CasesRefusedOrNot → (graph : List Row) (result : Result Tally Load) → IsDatasetAnswer contents folder nothing_used used (Ok graph)
      → IsCasesAnswer contents cases graph result → IsTallyAnswer contents folder cases result
  tallied one law graph (Ok tally) d a = (
    d.0,
    a.0,
    d.1,
    a.1,
    record {
      clean =
          none_append (dataset_checks at_first d.0) (AreBadCases d.0 a.0 ∷ []) d.2.clean
          (not_bad one law d.0 a.0 graph d.2 a.2.clean, tt);
      graph = graph;
      dataset = d.2;
      found = a.2;
    },
  )
  tallied one law graph (Err (Refused r)) d a = (
    d.0,
    a.0,
    d.1,
    a.1,
    first_later (dataset_checks at_first d.0) (AreBadCases d.0 a.0 ∷ []) r d.2.clean (inl (record { graph = graph; dataset = d.2; refused = a.2 })),
  )
  tallied one law graph (Err ReadFault) d a = tt
  tallied one law graph (Err Memory) d a = tt
