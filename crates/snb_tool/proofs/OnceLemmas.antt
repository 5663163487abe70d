-- Facts on what a command is refused for.
use Rattle.std.proofs.Common.{◌≡◌, ℕ, Bool, true, false, List, [], ◌∷◌, Option, None, Some, sym, subst, ◌∙◌}
use Rattle.snb_base.specs.FirstOf.{FirstOf}
use Rattle.snb_input_files.specs.Walk.{Held}
use Rattle.snb_loader.specs.Dataset.{dataset_checks}
use Rattle.snb_loader.specs.Lanes.{lane_checks}
use Rattle.snb_loader.specs.Laws.{DatasetRefusesOnce, LanesRefuseOnce, ParamsRefuseOnce, RefuseOnce}
use Rattle.snb_loader.specs.Params.{params_checks}
use Rattle.snb_loader.proofs.Laws.{once_append, once_single}
use Rattle.snb_plan.specs.Plans.{updates_in}
use Rattle.snb_plan.proofs.Laws.{closed_is_one}
use Rattle.snb_schema.specs.declared.refusal.Refusal.{Refusal}
use Rattle.snb_schema.specs.declared.row.Row.{Row}
use Rattle.snb_schema.specs.Frequencies.{FrequencyTable}
use Rattle.snb_graph_model.specs.Graphs.{HoldsKey}
use Rattle.snb_tool_words.specs.declared.command.Command.{Command}
use Rattle.snb_tool_words.specs.declared.command.Command.TheVariants.{Audit, Check, Expect, Latency, Run, Read, Trial, Validate, Walk}
use Rattle.snb_audit_model.specs.LogFiles.{log_checks}
use Rattle.snb_validation_model.specs.CasesFile.{cases_checks}
use Rattle.snb_validation_check.specs.Laws.{CasesRefuseOnce}
use Rattle.snb_tool_outcome.specs.Inputs.{AreBadCases, AreTooMany, IsNotClosed, IsUnregistered, after_dataset, after_streams, at_first, checks_of, plan_checks, read_checks, table_checks}
use Rattle.snb_tool_outcome.specs.Found.{Found}
use Rattle.snb_tool_words.specs.CommandFacts.{needs_table}
use Rattle.snb_schema.specs.declared.query.ReadKind.{ReadKind}
use Rattle.snb_tool_outcome.proofs.Laws.{AreOne, lane_tail, last_checks, param_tail, wrong_of}

-- each stage of what is read is refused in one way at most
pub record RefuseEachOnce : Type 0 where
  pub dataset : DatasetRefusesOnce
  pub lanes : LanesRefuseOnce
  pub params : ParamsRefuseOnce
  pub log : (beside : Option (List ℕ)) → RefuseOnce (log_checks beside)
  pub cases : CasesRefuseOnce

module _ (one : AreOne) (ratio : ℕ) (table : FrequencyTable) (held : Held) where
  -- too many reads are refused in one way
  too_many_once : (r q : Refusal) → AreTooMany held table r → AreTooMany held table q → r ≡ q
  too_many_once r q a b = a.refused ∙ sym b.refused

  -- updates that aren't closed are refused in one way
  not_closed_once : (r q : Refusal) → IsNotClosed held ratio table r → IsNotClosed held ratio table q → r ≡ q
  not_closed_once r q a b =
      sym ((closed_is_one (HoldsKey a.graph) (updates_in a.plan) r a.wrong).0 q (wrong_of one ratio table held a.graph a.plan q a.dataset a.planned b))

  -- the files of a plan are refused in one way at most
  plan_once : RefuseEachOnce → RefuseOnce (plan_checks ratio table held)
  plan_once each =
      once_append (dataset_checks at_first held) (lane_tail ratio table held) (each.dataset at_first held)
      (once_append (lane_checks (after_dataset held) held) (param_tail ratio table held) (each.lanes (after_dataset held) held)
      (once_append (params_checks (after_streams held) held table) (last_checks ratio table held) (each.params (after_streams held) held table)
      (once_append (AreTooMany held table ∷ []) (IsNotClosed held ratio table ∷ []) (once_single (AreTooMany held table) too_many_once) (once_single (IsNotClosed held ratio table) not_closed_once))))

-- a file of cases is refused in one way over the graph of the tables
bad_cases_once : AreOne → RefuseEachOnce → (held : Held) (beside : Option (List ℕ)) (r q : Refusal) → AreBadCases held beside r → AreBadCases held beside q → r ≡ q
bad_cases_once one each held beside r q a b =
    each.cases a.graph beside r q a.refused
    (subst (λ (g : List Row). FirstOf (cases_checks g beside) q) (one.dataset at_first held b.graph a.graph b.dataset a.dataset) b.refused)

-- where nothing is tried nothing is refused
no_checks : RefuseOnce []
no_checks = record { one = λ r q p s. absurd p; or_not = λ r p none. absurd p }

-- a kind of read without a handler is refused in one way
unregistered_once : (missing : Option ReadKind) (r q : Refusal) → IsUnregistered missing r → IsUnregistered missing q → r ≡ q
unregistered_once None r q a b = absurd a
unregistered_once (Some kind) r q a b = a ∙ sym b

table_once : (asks : Bool) (missing : Option ReadKind) → RefuseOnce (table_checks asks missing)
table_once false missing = no_checks
table_once true missing = once_single (IsUnregistered missing) (unregistered_once missing)

-- the checks of what a command reads give one refusal at most
read_once : AreOne → RefuseEachOnce → (command : Command) (found : Found) → RefuseOnce (read_checks command found)
read_once one each (Read folder query) found = each.dataset at_first found.held
read_once one each (Walk folder query chance words) found = each.dataset at_first found.held
read_once one each (Trial size workers) found = no_checks
read_once one each (Check folder table) found = plan_once one 1000000 table found.held each
read_once one each (Run folder workers ratio table) found = plan_once one ratio table found.held each
read_once one each (Audit folder log ratio table) found = once_append (plan_checks ratio table found.held) (log_checks found.beside) (plan_once one ratio table found.held each) (each.log found.beside)
read_once one each (Latency folder log ratio table) found = once_append (plan_checks ratio table found.held) (log_checks found.beside) (plan_once one ratio table found.held each) (each.log found.beside)
read_once one each (Expect folder table) found = plan_once one 1000000 table found.held each
read_once one each (Validate folder cases via) found =
    once_append (dataset_checks at_first found.held) (AreBadCases found.held found.beside ∷ []) (each.dataset at_first found.held)
    (once_single (AreBadCases found.held found.beside) (bad_cases_once one each found.held found.beside))

-- and so do those of all that it finds
pub once : AreOne → RefuseEachOnce → (command : Command) (found : Found) → RefuseOnce (checks_of command found)
once one each command found =
    once_append (table_checks (needs_table command) found.missing) (read_checks command found) (table_once (needs_table command) found.missing) (read_once one each command found)
