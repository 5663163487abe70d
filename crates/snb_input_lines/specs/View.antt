-- How a contract sees a reader of lines. Cited by contracts of private functions alone.
use Rattle.std.specs.Prelude.{◌≡◌, ◌+◌, ◌≤◌, None, length}
use Rattle.snb_schema.specs.declared.limits.TheConstants.{MAX_BYTES}
use Rattle.snb_schema.specs.Lines.{HasNoEnd}
use Rattle.snb_input_lines.specs.Feeding.{Reader}
use Rattle.snb_input_lines.specs.declared.line_reader.LineReader.TheInside.{Inside}

-- the value of its fields
abbrev pub view_of : {G I K : Type 0} → Inside G I K → Reader G K
view_of s = record {
  file = s.source.file;
  grammar = s.source.grammar;
  fed = s.fed;
  ended = s.progress.ended;
  begun = s.progress.begun.items;
  known = s.progress.known;
  over = s.over;
  fault = s.fault;
}

-- what holds of a reader that keeps no fault
pub record Sound {G I K : Type 0} (s : Inside G I K) : Type 0 where
  pub one_line : HasNoEnd s.progress.begun.items
  pub counted : s.progress.ended + length s.progress.begun.items ≤ s.fed
  pub few : s.fed ≤ MAX_BYTES

-- a reader that keeps no fault is sound
abbrev pub IsSound : {G I K : Type 0} → Inside G I K → Type 0
IsSound s = s.fault ≡ None → Sound s
