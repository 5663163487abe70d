-- An outbox in memory, as contracts see it.
use Rattle.std.specs.Prelude.{◌≡◌, ℕ, ◌+◌, ◌-◌, ◌^◌, ◌≤◌, ◌&&◌, ◌||◌, min, nat_lt, nat_le, Bool, List, [], length, take, if◌then◌else◌}
use Rattle.snb_base.specs.declared.outbox.Channel.{Channel}
use Rattle.snb_base.specs.declared.outbox.Put.{Put}
use Rattle.snb_base.specs.declared.outbox.Put.TheVariants.{Took, Failed}
use Rattle.snb_base.specs.MemoryShelf.{is_listed}
use Rattle.snb_base.specs.Outbox.{Rooms, Written, appended, bytes_on, room_of}

-- the same room for each
abbrev pub equal_rooms : ℕ → Rooms
equal_rooms room = record { screen = room; log = room; answers = room; finals = room; cases = room }

-- the bytes, the rooms, the calls of `write` that are to fail, how many calls there were, and how
-- many failed
pub record Sheets : Type 0 where
  pub written : Written
  pub rooms : Rooms
  pub failing : List ℕ
  pub calls : ℕ
  pub faults : ℕ

-- the room that is left on one channel
abbrev pub room_left : Sheets → Channel → ℕ
room_left s channel = room_of s.rooms channel - length (bytes_on s.written channel)

-- whether the next call of `write` is one that is to fail: its number is on the list, and the count
-- of calls is not at its end
abbrev pub is_stopped : Sheets → Bool
is_stopped s = nat_lt s.calls (2 ^ 64 - 1) && is_listed s.failing s.calls

-- whether the next call of `write` on this channel fails: it is to fail, or the channel is full
abbrev pub is_refused : Sheets → Channel → Bool
is_refused s channel = is_stopped s || nat_le (room_left s channel) 0

-- what the next call of `write` answers for so many bytes
abbrev pub answer_of : Sheets → Channel → ℕ → Put
answer_of s channel count =
    if is_refused s channel then Failed else Took (min count (room_left s channel))

-- after the next call of `write`: what fits is written, with one call more and one fault more where
-- it fails, as far as 64 bits go
abbrev pub after_write : Sheets → Channel → List ℕ → Sheets
after_write s channel piece = record {
  written =
      if is_refused s channel then s.written else appended s.written channel
      (take (room_left s channel) piece);
  rooms = s.rooms;
  failing = s.failing;
  calls = min (s.calls + 1) (2 ^ 64 - 1);
  faults = if is_refused s channel then min (s.faults + 1) (2 ^ 64 - 1) else s.faults;
}

-- no call is to fail, and each channel has room for so many bytes more
pub record IsReady (s : Sheets) (rooms : Rooms) : Type 0 where
  pub unlisted : s.failing ≡ []
  pub roomy : (channel : Channel)
      → length (bytes_on s.written channel) + room_of rooms channel ≤ room_of s.rooms channel
