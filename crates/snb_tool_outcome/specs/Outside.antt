-- What a call sees of the world outside it.
use Rattle.std.specs.Prelude.{◌≡◌, ℕ, ◌≤◌, Option}
use Rattle.snb_base.specs.Moments.{Moments}
use Rattle.snb_base.specs.declared.outbox.Outbox.{Ghosts as Outboxes}
use Rattle.snb_base.specs.declared.shelf.Shelf.{Ghosts as Shelves}
use Rattle.snb_base.specs.Outbox.{Rooms, Written}
use Rattle.snb_base.specs.Shelf.{Files, Names, Rose}
use Rattle.snb_tool_outcome.specs.Output.{HasBegun, HasWritten}

-- the world outside at one moment: the files that the shelf tells, the names that it may be asked
-- for, the moments that the clock can answer, how many faults of reading and of writing there have
-- been, the bytes on the channels, and how many more each takes for sure
pub record Outside : Type 1 where
  pub contents : Option Files
  pub may : Names
  pub moments : Moments
  pub read_faults : ℕ
  pub write_faults : ℕ
  pub written : Option Written
  pub ready : Rooms → Type 0

-- the world outside, as a shelf and an outbox tell it, with a clock of these moments
abbrev pub outside : {S O : Type 0} → Shelves S → Outboxes O → Moments → S → O → Outside
outside shelves outboxes moments shelf out = record {
  contents = shelves.contents shelf;
  may = shelves.may shelf;
  moments = moments;
  read_faults = shelves.faults shelf;
  write_faults = outboxes.faults out;
  written = outboxes.written out;
  ready = outboxes.ready out;
}

-- the world outside before a call and after it
pub record Call : Type 1 where
  pub before : Outside
  pub after : Outside

-- that of a call, by its shelf and its outbox, and the moments of its clock
abbrev pub seen : {S O : Type 0} → Shelves S → Outboxes O → Moments → S → S → O → O → Call
seen shelves outboxes moments shelf shelf_after out out_after =
    record {
      before = outside shelves outboxes moments shelf out;
      after = outside shelves outboxes moments shelf_after out_after;
    }

-- the shelf was read and not changed: it tells what it told, may be asked for the same names, and
-- forgets no fault
abbrev pub IsReadOnly : {S : Type 0} → Shelves S → S → S → Type 0
IsReadOnly shelves old new =
    (shelves.contents new ≡ shelves.contents old) × (shelves.may new ≡ shelves.may old)
    × (shelves.faults old ≤ shelves.faults new)

-- how a call ends, where this says which texts belong to a status
pub data Ends (belongs : Option Files → Moments → ℕ → Written → Type 0) (old new : Outside)
    (status : ℕ) : Type 0 where
  Whole : HasWritten old.written new.written (belongs old.contents old.moments status)
      → Ends belongs old new status
  ReadFault : status ≡ 4 → Rose old.read_faults new.read_faults → new.written ≡ old.written
      → Ends belongs old new status
  WriteFault : (s : ℕ) → status ≡ 5 → Rose old.write_faults new.write_faults
      → HasBegun old.ready old.written new.written (belongs old.contents old.moments s)
      → Ends belongs old new status
  GivenUp : status ≡ 6 → new.written ≡ old.written → Ends belongs old new status

-- how a call ends, by what it sees of the world outside
abbrev pub EndsAs : (Option Files → Moments → ℕ → Written → Type 0) → Call → ℕ → Type 0
EndsAs belongs call status = Ends belongs call.before call.after status
