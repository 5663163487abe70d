-- The bytes of five channels, and what a call of `write` does to them.
use Rattle.std.specs.Prelude.{◌≡◌, ℕ, ◌-◌, ◌<◌, ◌≤◌, Bool, true, false, List, [], ◌++◌, length, take, Option}
use Rattle.std.specs.Option.{option_map}
use Rattle.snb_base.specs.declared.outbox.Channel.{Channel}
use Rattle.snb_base.specs.declared.outbox.Channel.TheVariants.{Screen, Log, Answers, Final, Cases}
use Rattle.snb_base.specs.declared.outbox.Put.{Put}
use Rattle.snb_base.specs.declared.outbox.Put.TheVariants.{Took, Failed}

-- the bytes on each channel
pub record Written : Type 0 where
  pub screen : List ℕ
  pub log : List ℕ
  pub answers : List ℕ
  pub finals : List ℕ
  pub cases : List ℕ

-- nothing on any channel
abbrev pub nothing : Written
nothing = record { screen = []; log = []; answers = []; finals = []; cases = [] }

-- the bytes on one channel
abbrev pub bytes_on : Written → Channel → List ℕ
bytes_on w Screen = w.screen
bytes_on w Log = w.log
bytes_on w Answers = w.answers
bytes_on w Final = w.finals
bytes_on w Cases = w.cases

-- with these bytes at the end of one channel
abbrev pub appended : Written → Channel → List ℕ → Written
appended w Screen bytes =
    record {
      screen = w.screen ++ bytes;
      log = w.log;
      answers = w.answers;
      finals = w.finals;
      cases = w.cases;
    }
appended w Log bytes =
    record {
      screen = w.screen;
      log = w.log ++ bytes;
      answers = w.answers;
      finals = w.finals;
      cases = w.cases;
    }
appended w Answers bytes =
    record {
      screen = w.screen;
      log = w.log;
      answers = w.answers ++ bytes;
      finals = w.finals;
      cases = w.cases;
    }
appended w Final bytes =
    record {
      screen = w.screen;
      log = w.log;
      answers = w.answers;
      finals = w.finals ++ bytes;
      cases = w.cases;
    }
appended w Cases bytes =
    record {
      screen = w.screen;
      log = w.log;
      answers = w.answers;
      finals = w.finals;
      cases = w.cases ++ bytes;
    }

-- with the bytes of the second at the end of each channel of the first
abbrev pub joined : Written → Written → Written
joined w v = record {
  screen = w.screen ++ v.screen;
  log = w.log ++ v.log;
  answers = w.answers ++ v.answers;
  finals = w.finals ++ v.finals;
  cases = w.cases ++ v.cases;
}

-- a number of bytes for each channel, as of those that it may hold or takes for sure
pub record Rooms : Type 0 where
  pub screen : ℕ
  pub log : ℕ
  pub answers : ℕ
  pub finals : ℕ
  pub cases : ℕ

-- that of one channel
abbrev pub room_of : Rooms → Channel → ℕ
room_of r Screen = r.screen
room_of r Log = r.log
room_of r Answers = r.answers
room_of r Final = r.finals
room_of r Cases = r.cases

-- with another number for one channel
abbrev pub with_room : Rooms → Channel → ℕ → Rooms
with_room r Screen room =
    record { screen = room; log = r.log; answers = r.answers; finals = r.finals; cases = r.cases }
with_room r Log room =
    record {
      screen = r.screen;
      log = room;
      answers = r.answers;
      finals = r.finals;
      cases = r.cases;
    }
with_room r Answers room =
    record { screen = r.screen; log = r.log; answers = room; finals = r.finals; cases = r.cases }
with_room r Final room =
    record { screen = r.screen; log = r.log; answers = r.answers; finals = room; cases = r.cases }
with_room r Cases room =
    record { screen = r.screen; log = r.log; answers = r.answers; finals = r.finals; cases = room }

-- whether the outside failed at a call of `write`
abbrev pub write_failed : Put → Bool
write_failed (Took count) = false
write_failed Failed = true

-- what a call of `write` may answer, with the bytes before and after it
abbrev pub IsWriting : Channel → List ℕ → Option Written → Option Written → Put → Type 0
IsWriting channel piece old new (Took count) =
    (0 < count) × (count ≤ length piece)
    × (new ≡ option_map (λ w. appended w channel (take count piece)) old)
IsWriting channel piece old new Failed = new ≡ old

-- it didn't fail, and of so many bytes on each channel that it was sure to take it is sure of the
-- rest
abbrev pub IsSure : Put → Channel → Rooms → (Rooms → Type 0) → Type 0
IsSure (Took count) channel rooms ready =
    ready (with_room rooms channel (room_of rooms channel - count))
IsSure Failed channel rooms ready = ⊥
