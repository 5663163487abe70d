-- Facts on how a call ends.
use Rattle.std.proofs.Common.{◌≡◌, ℕ, List, Option, None, Some, Ok, Err, refl, sym, subst, inl, inr}
use Rattle.snb_base.specs.Moments.{Moments}
use Rattle.snb_base.specs.declared.outbox.Outbox.{Ghosts as Outboxes}
use Rattle.snb_base.specs.Outbox.{Rooms, Written}
use Rattle.snb_base.specs.Shelf.{Counts, Files, Names}
use Rattle.snb_schema.specs.declared.query.Query.{Query}
use Rattle.snb_input_files.specs.declared.load.Load.{Load}
use Rattle.snb_input_files.specs.declared.load.Load.TheVariants as loads
use Rattle.snb_input_files.specs.Loading.{is_read_fault}
use Rattle.std.specs.Prelude.{◌≢◌, Result}
use Rattle.snb_schema.specs.ScreenTexts.{refusal_text}
use Rattle.snb_tool_words.specs.declared.command.Command.{Command}
use Rattle.snb_tool_words.specs.declared.command.Command.TheVariants.{Validate, Walk}
use Rattle.snb_tool_words.specs.declared.options.Via.TheVariants as via
use Rattle.snb_handlers.specs.Table.{IsFirstUnhandled}
use Rattle.snb_schema.specs.declared.query.ReadKind.{ReadKind}
use Rattle.snb_schema.specs.declared.refusal.Refusal.{Refusal}
use Rattle.snb_schema.specs.declared.refusal.Refusal.TheVariants.{Unregistered}
use Rattle.snb_tool_outcome.specs.Found.{Connector, Given}
use Rattle.snb_ratio.specs.Chances.{ChanceFall}
use Rattle.snb_tool_outcome.specs.declared.delivery.Finished.{Finished}
use Rattle.snb_tool_outcome.specs.Endings.{Delivers, Finishes, IsFinished, bytes_of}
use Rattle.snb_tool_outcome.specs.Outcome.{IsCommandAnswer}
use Rattle.snb_tool_outcome.specs.Output.{HasBegun, on_screen}
use Rattle.snb_tool_outcome.specs.Outside.{Ends, GivenUp, Outside, ReadFault, Whole, WriteFault}
use Rattle.snb_tool_outcome.proofs.Laws.{any_told, beside_told, held_told}

-- a front of texts of which this holds is one of texts of which that holds, where the first gives the second
begun_weaker : (ready : Rooms → Type 0) (old new : Option Written) (P Q : Written → Type 0) → ((texts : Written) → P texts → Q texts) → HasBegun ready old new P → HasBegun ready old new Q
begun_weaker ready old new P Q f b = record { texts = b.texts; part = b.part; are = f b.texts b.are; front = b.front; wrote = b.wrote; unsure = b.unsure }

-- what belongs to a status by one rule may by another
pub ends_weaker : (P Q : Option Files → Moments → ℕ → Written → Type 0) (old new : Outside) (result : ℕ)
    → ((s : ℕ) (texts : Written) → P old.contents old.moments s texts → Q old.contents old.moments s texts) → Ends P old new result → Ends Q old new result
ends_weaker P Q old new result f (Whole h) = Whole (h.0, f result h.0 h.1, h.2)
ends_weaker P Q old new result f (ReadFault e r n) = ReadFault e r n
ends_weaker P Q old new result f (WriteFault s e r h) = WriteFault s e r (begun_weaker old.ready old.written new.written (P old.contents old.moments s) (Q old.contents old.moments s) (f s) h)
ends_weaker P Q old new result f (GivenUp e n) = GivenUp e n

module _ {O : Type 0} (outboxes : Outboxes O) (out out_after : O) where
  module _ (contents contents_after : Option Files) (may may_after : Names) (moments : Moments) (faults faults_after : ℕ) where
    abbrev old : Outside
    old = record { contents = contents; may = may; moments = moments; read_faults = faults; write_faults = outboxes.faults out; written = outboxes.written out; ready = outboxes.ready out }

    abbrev new : Outside
    new = record {
      contents = contents_after;
      may = may_after;
      moments = moments;
      read_faults = faults_after;
      write_faults = outboxes.faults out_after;
      written = outboxes.written out_after;
      ready = outboxes.ready out_after;
    }

    -- a call that delivers texts that belong to its status
    pub delivers_ends : (P : Option Files → Moments → ℕ → Written → Type 0) (status : ℕ) (texts : Written) (result : ℕ) → P contents moments status texts
        → Delivers outboxes out out_after status texts result → Ends P old new result
    delivers_ends P status texts result b (inl h) = subst (λ (r : ℕ). Ends P old new r) (sym h.0) (Whole (texts, b, h.1))
    delivers_ends P status texts result b (inr h) =
        WriteFault status h.0 h.1
        (begun_weaker old.ready old.written new.written (λ all. all ≡ texts) (P contents moments status)
        (λ all e. subst (λ (t : Written). P contents moments status t) (sym e) b) h.2)

    -- and one that delivers what a command answers
    pub finished_ends : (given : Given) (command : Command) (answer : Result Finished Load) (result : ℕ) → IsFinished command contents given moments answer → Counts (is_read_fault answer) faults faults_after
        → Finishes outboxes out out_after answer result → Ends (IsCommandAnswer given command) old new result
    finished_ends given command (Ok f) result is counts d =
        delivers_ends (IsCommandAnswer given command) f.status (bytes_of f.output) result (is.0, is.1, inl (is.2, is.3)) d
    finished_ends given command (Err (loads.Refused r)) result is counts (inl d) =
        delivers_ends (IsCommandAnswer given command) 3 (on_screen (refusal_text r)) result (is.0, is.1, inr (r, is.2, (refl, refl))) d
    finished_ends given command (Err (loads.Refused r)) result is counts (inr d) = GivenUp d.0 d.1
    finished_ends given command (Err loads.ReadFault) result is counts d = ReadFault d.0 counts d.1
    finished_ends given command (Err loads.Memory) result is counts d = GivenUp d.0 d.1

  -- it counts a failed read by status 4 alone
  pub finished_calm : (answer : Result Finished Load) (result faults faults_after : ℕ) → Finishes outboxes out out_after answer result → Counts (is_read_fault answer) faults faults_after
      → result ≢ 4 → faults_after ≡ faults
  finished_calm (Ok f) result faults faults_after d counts other = counts
  finished_calm (Err (loads.Refused r)) result faults faults_after d counts other = counts
  finished_calm (Err loads.ReadFault) result faults faults_after d counts other = absurd (other d.0)
  finished_calm (Err loads.Memory) result faults faults_after d counts other = counts

-- ---- a table in which a kind of read has no handler: whatever there is of files, that kind is what is wrong first

module _ (contents : Option Files) (folder cases : List ℕ) (moments : Moments) (c : Connector) where
  pub table_lacks : (kind : ReadKind) → IsFirstUnhandled c.kinds kind → (r : Refusal) → r ≡ Unregistered kind → IsFinished (Validate folder cases via.Table) contents (Some c) moments (Err (loads.Refused r))
  table_lacks kind first r is =
      let held = held_told contents folder in
      let beside = any_told contents cases in
      (record { missing = Some kind; pick = c.pick; held = held.0; beside = beside.0 }, (held.1, beside_told contents cases beside.0 beside.1, (first, refl)), inl is)

module _ (contents : Option Files) (folder : List ℕ) (query : Query) (chance : ChanceFall) (words : List ℕ) (c : Connector) (moments : Moments) where
  pub walk_lacks : (kind : ReadKind) → IsFirstUnhandled c.kinds kind → (r : Refusal) → r ≡ Unregistered kind → IsFinished (Walk folder query chance words) contents (Some c) moments (Err (loads.Refused r))
  walk_lacks kind first r is =
      let held = held_told contents folder in
      (record { missing = Some kind; pick = c.pick; held = held.0; beside = None }, (held.1, tt, (first, refl)), inl is)
