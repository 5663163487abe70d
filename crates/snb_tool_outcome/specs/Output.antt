-- What a call writes.
use Rattle.std.specs.Prelude.{◌≡◌, ℕ, ◌≤◌, ◌⊎◌, List, [], ◌++◌, length, Option, codes}
use Rattle.std.specs.Option.{option_map}
use Rattle.snb_base.specs.declared.outbox.Channel.{Channel}
use Rattle.snb_base.specs.Outbox.{Rooms, Written, bytes_on, joined, room_of}

-- what is shown for words that aren't a line of the program's
abbrev pub usage_text : List ℕ
usage_text =
    codes "usage: snb COMMAND, where COMMAND is check, run, audit, latency, expect, validate, read, walk or trial\n"

-- a text on the screen, and nothing on the other channels
abbrev pub on_screen : List ℕ → Written
on_screen text = record { screen = text; log = []; answers = []; finals = []; cases = [] }

-- each text is no longer than the number of bytes of its channel
abbrev pub Fit : Written → Rooms → Type 0
Fit texts rooms = (channel : Channel) → length (bytes_on texts channel) ≤ room_of rooms channel

-- the bytes begin the text
abbrev pub IsPrefix : List ℕ → List ℕ → Type 0
IsPrefix front whole = (rest : List ℕ) × (front ++ rest ≡ whole)

-- each channel has a prefix of its text, and in the order log, answers, final, cases, screen
-- nothing follows a text that isn't whole
pub record IsWrittenSoFar (part whole : Written) : Type 0 where
  pub log : IsPrefix part.log whole.log
  pub answers : IsPrefix part.answers whole.answers
  pub finals : IsPrefix part.finals whole.finals
  pub cases : IsPrefix part.cases whole.cases
  pub screen : IsPrefix part.screen whole.screen
  pub after_log : (part.log ≡ whole.log)
      ⊎ ((part.answers ≡ []) × (part.finals ≡ []) × (part.cases ≡ []) × (part.screen ≡ []))
  pub after_answers : (part.answers ≡ whole.answers)
      ⊎ ((part.finals ≡ []) × (part.cases ≡ []) × (part.screen ≡ []))
  pub after_finals : (part.finals ≡ whole.finals) ⊎ ((part.cases ≡ []) × (part.screen ≡ []))
  pub after_cases : (part.cases ≡ whole.cases) ⊎ (part.screen ≡ [])

-- the texts were added to the channels, where they are told
abbrev pub Wrote : Option Written → Option Written → Written → Type 0
Wrote old new texts = new ≡ option_map (λ w. joined w texts) old

-- texts of which this holds were added to the channels
abbrev pub HasWritten : Option Written → Option Written → (Written → Type 0) → Type 0
HasWritten old new P = (texts : Written) × P texts × Wrote old new texts

-- a front of texts of which this holds was added to the channels; an outbox that was sure to take
-- so many bytes on each channel wasn't sure of all of the texts
pub record HasBegun (ready : Rooms → Type 0) (old new : Option Written) (P : Written → Type 0)
    : Type 0 where
  pub texts : Written
  pub part : Written
  pub are : P texts
  pub front : IsWrittenSoFar part texts
  pub wrote : Wrote old new part
  pub unsure : (rooms : Rooms) → ready rooms → ¬ Fit texts rooms
