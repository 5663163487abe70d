-- What a `feed` and an `end` do to a reader of lines and to the sink of its items.
-- `old` and `new` are the reader before and after, `had` and `has` the sink.
use Rattle.std.specs.Prelude.{◌≡◌, ◌⊎◌, ◌+◌, ◌++◌, ℕ, Bool, true, false, List, [], length, Option, None, Some, Result, Ok, Err}
use Rattle.snb_schema.specs.declared.fault.Fault.{Fault}
use Rattle.snb_schema.specs.declared.fault.Fault.TheVariants.{Bad, Memory}
use Rattle.snb_schema.specs.declared.file.FileId.{FileId}
use Rattle.snb_schema.specs.declared.refusal.Refusal.{Refusal}
use Rattle.snb_input_lines.specs.Cut.{last_lines, rest_of, whole_lines}
use Rattle.snb_input_lines.specs.Language.{Language}
use Rattle.snb_input_lines.specs.Reading.{EndsBad, ReadsSome, Says, Stops}
use Rattle.snb_input_lines.specs.Sinks.{Refuses, Runs, Takes}

-- what a contract sees of a reader of lines: its file and grammar, how many bytes it was fed, how
-- many lines ended, the bytes of the line begun, what the header said, whether the file has ended,
-- and the fault that it keeps
pub record Reader (G K : Type 0) : Type 0 where
  pub file : FileId
  pub grammar : G
  pub fed : ℕ
  pub ended : ℕ
  pub begun : List ℕ
  pub known : Option K
  pub over : Bool
  pub fault : Option Fault

-- a reader before the first byte of the file
abbrev pub at_begin : {G K : Type 0} → FileId → G → Option K → Reader G K
at_begin file grammar begins = record {
  file = file;
  grammar = grammar;
  fed = 0;
  ended = 0;
  begun = [];
  known = begins;
  over = false;
  fault = None;
}

-- the lines that end in the piece, of which the first is begun already
abbrev pub new_lines : {G K : Type 0} → Reader G K → List ℕ → List (List ℕ)
new_lines old piece = whole_lines (old.begun ++ piece)

-- the line begun, which is the last of the file where it has a byte
abbrev pub left_lines : {G K : Type 0} → Reader G K → List (List ℕ)
left_lines old = last_lines old.begun

-- the reader past the piece, where the header said this
abbrev pub fed_more : {G K : Type 0} → Reader G K → List ℕ → Option K → Reader G K
fed_more old piece known = record old {
  fed = old.fed + length piece;
  ended = old.ended + length (new_lines old piece);
  begun = rest_of (old.begun ++ piece);
  known = known;
}

-- the reader past the end of the file, where the header said this
abbrev pub at_file_end : {G K : Type 0} → Reader G K → Option K → Reader G K
at_file_end old known = record old {
  ended = old.ended + length (left_lines old);
  begun = [];
  known = known;
  over = true;
}

-- the reader has read the lines, and the sink has their items
pub record HasRead {G K S T : Type 0} (g : Language K T) (takes : Takes S T) (lines : List (List ℕ))
    (old : Reader G K) (had : S) (new : Reader G K) (has : S) : Type 0 where
  pub items : List T
  pub says : Says g old.known old.ended lines items new.known
  pub runs : Runs takes old.file had items has

-- the reader has stopped at the first of the lines that is refused, and keeps that refusal; the
-- sink has the items of the lines before it
pub record HasStopped {G K S T : Type 0} (g : Language K T) (takes : Takes S T)
    (refuses : Refuses S T) (same : S → S → Type 0) (lines : List (List ℕ))
    (old : Reader G K) (had : S) (new : Reader G K) (has : S) (r : Refusal) : Type 0 where
  pub items : List T
  pub mid : S
  pub stops : Stops g takes refuses old.file old.known old.ended lines had items mid r
  pub left : same mid has
  pub kept : new.fault ≡ Some (Bad r)

-- the reader has stopped at the last line or at the end of the file, and keeps that refusal; the
-- sink has the items of the lines before it
pub record HasStoppedAtEnd {G K S T : Type 0} (g : Language K T) (takes : Takes S T)
    (refuses : Refuses S T) (same : S → S → Type 0)
    (ends : S → FileId → Option Refusal) (lines : List (List ℕ))
    (old : Reader G K) (had : S) (new : Reader G K) (has : S) (r : Refusal) : Type 0 where
  pub items : List T
  pub mid : S
  pub stops :
      Stops g takes refuses old.file old.known old.ended lines had items mid r
      ⊎ EndsBad g takes ends old.file old.known old.ended lines had items mid r
  pub left : same mid has
  pub kept : new.fault ≡ Some (Bad r)

-- memory ran out, and the reader keeps that; the sink has the items of a first few of the lines
pub record HasRunOut {G K S T : Type 0} (g : Language K T) (takes : Takes S T)
    (same : S → S → Type 0) (lines : List (List ℕ))
    (old : Reader G K) (had : S) (new : Reader G K) (has : S) : Type 0 where
  pub items : List T
  pub mid : S
  pub reads : ReadsSome g takes old.file old.known old.ended lines had items mid
  pub left : same mid has
  pub kept : new.fault ≡ Some Memory

-- a reader that keeps a fault answers it, and neither the reader nor the sink changes
abbrev pub KeepsFault : {G K S A : Type 0} → Result A Fault → Reader G K → S → Reader G K → S
    → Type 0
KeepsFault result old had new has =
    (fault : Fault) → old.fault ≡ Some fault → (result ≡ Err fault) × (new ≡ old) × (has ≡ had)

-- the reader is of the same file, was fed as much, and the file has ended where it had
pub record IsSameFile {G K : Type 0} (old new : Reader G K) : Type 0 where
  pub file : new.file ≡ old.file
  pub grammar : new.grammar ≡ old.grammar
  pub fed : new.fed ≡ old.fed
  pub over : new.over ≡ old.over

-- a fact where memory ran out
abbrev pub OnMemory : {A : Type 0} → Result A Fault → Type 0 → Type 0
OnMemory (Ok a) P = Unit {0}
OnMemory (Err (Bad r)) P = Unit {0}
OnMemory (Err Memory) P = P
