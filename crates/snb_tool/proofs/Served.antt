-- What a call of the program does, by how it ends.
use Rattle.std.proofs.Common.{◌≡◌, ◌≢◌, ◌≤◌, ◌⊎◌, ℕ, List, None, true, inl, inr, subst}
use Rattle.snb_base.specs.declared.outbox.Outbox.{Ghosts as Outboxes}
use Rattle.snb_base.specs.declared.shelf.Shelf.{Ghosts as Shelves}
use Rattle.snb_base.specs.Moments.{Moments}
use Rattle.snb_base.specs.Shelf.{Names}
use Rattle.snb_tool_words.specs.declared.command.Command.{Command}
use Rattle.snb_tool_words.specs.declared.command.Command.TheVariants.{Audit, Check, Expect, Latency, Run, Read, Trial, Validate, Walk}
use Rattle.snb_tool_words.specs.Commands.{IsLineOf}
use Rattle.snb_tool_words.specs.CommandFacts.{folder_of, needs_table, command_waits}
use Rattle.snb_tool_words.specs.Laws.{WordsAreOne}
use Rattle.snb_tool_outcome.specs.Found.{Given}
use Rattle.snb_tool.specs.Laws.{AnswersHaveStatus, RefusalIsOne, RefusedOrNot}
use Rattle.snb_tool_outcome.specs.Names.{MayAskFor}
use Rattle.snb_tool_outcome.specs.Outcome.{Asked, IsCallAnswer, IsAsked, IsOther}
use Rattle.snb_tool_outcome.specs.Served.{AreWaiting, HasServed, ReadsNothing}
use Rattle.snb_tool_outcome.specs.Outside.{EndsAs, IsReadOnly, seen}
use Rattle.snb_tool.proofs.CompleteLemmas.{complete, ends_answered, ends_counted, ends_cut, ends_read, ends_unwritten, refuses}

-- ---- words that run a plan

-- a command that runs a plan asks no table
needs_none : (command : Command) → command_waits command ≡ true → ¬ (needs_table command ≡ true)
needs_none (Check folder table) w n = absurd cc
needs_none (Run folder workers ratio table) w n = absurd cc
needs_none (Audit folder log ratio table) w n = absurd cc
needs_none (Latency folder log ratio table) w n = absurd cc
needs_none (Expect folder table) w n = absurd cc
needs_none (Validate folder cases via) w n = absurd cc
needs_none (Read folder query) w n = absurd cc
needs_none (Walk folder query chance words) w n = absurd cc
needs_none (Trial size workers) w n = absurd cc

module _ (words : List (List ℕ)) (waiting : AreWaiting true words) where
  abbrev asked_with : Given → Asked
  asked_with given = record { words = words; given = given }

  -- so it is asked whatever is given beside the words
  pub asked_anyhow : (given : Given) (command : Command) → IsLineOf words command → IsAsked (asked_with given) command
  asked_anyhow given command line = record { line = line; given = λ needs. absurd (needs_none command (waiting command line) needs) }

  pub other_anyhow : (given : Given) → IsOther (asked_with given) → (command : Command) → ¬ IsLineOf words command
  other_anyhow given other command line = other command (asked_anyhow given command line)

  -- it reads nothing only where it has no folder
  pub run_reads : {P : Type 0} → WordsAreOne → (given : Given) (mine : Command) → IsLineOf words mine → (folder_of mine ≡ None → P) → ReadsNothing (asked_with given) → P
  run_reads one given mine line unread (command, b, inl none) = unread (subst (λ (d : Command). folder_of d ≡ None) (one words command mine b.line line) none)
  run_reads one given mine line unread (command, b, inr lacks) = absurd (needs_none command (waiting command b.line) lacks.0)

  pub may_anyhow : (may : Names) (given other : Given) → MayAskFor may (asked_with given) → MayAskFor may (asked_with other)
  may_anyhow may given other allowed command a = allowed command (asked_anyhow given command a.line)

-- ---- all that is promised

module _ {S O : Type 0} (shelves : Shelves S) (outboxes : Outboxes O) (moments : Moments) (asked : Asked) (shelf shelf_after : S) (out out_after : O) (result : ℕ) where
  pub served : AnswersHaveStatus → WordsAreOne → RefusalIsOne → RefusedOrNot
      → EndsAs (IsCallAnswer asked) (seen shelves outboxes moments shelf shelf_after out out_after) result
      → (IsOther asked → ((result ≡ 2) ⊎ (result ≡ 5)) × (shelf_after ≡ shelf))
      → (ReadsNothing asked → shelf_after ≡ shelf)
      → IsReadOnly shelves shelf shelf_after
      → (result ≢ 4 → shelves.faults shelf_after ≡ shelves.faults shelf)
      → outboxes.faults out ≤ outboxes.faults out_after
      → (result ≢ 5 → outboxes.faults out_after ≡ outboxes.faults out)
      → HasServed shelves outboxes moments asked shelf shelf_after out out_after result
  served status one once or_not ends other unread only reads_calm later writes_calm =
      let call = seen shelves outboxes moments shelf shelf_after out out_after in
      record {
        ends = ends;
        other_line = other;
        unread = unread;
        read = ends_read status asked call.before call.after result ends only reads_calm;
        counted = ends_counted status asked call.before call.after result ends later writes_calm;
        follows = record {
          answered = ends_answered status asked call.before call.after result ends;
          unwritten = ends_unwritten status asked call.before call.after result ends;
          cut = λ e. (ends_cut status asked call.before call.after result ends e).1;
          complete = λ command line. complete one asked call.before call.after result command line or_not ends;
          refuses = λ command line. refuses one asked call.before call.after result command line once or_not ends;
        };
      }
