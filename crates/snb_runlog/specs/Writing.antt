-- What the writing of a log appends.
use Rattle.std.specs.Prelude.{◌≡◌, ◌≤◌, ◌++◌, ◌∷◌, ℕ, List, All, Option, codes}
use Rattle.std.specs.Fmt.{decimal}
use Rattle.std.specs.List.{flat_map}
use Rattle.snb_history.specs.declared.logged.Logged.{Logged}
use Rattle.snb_schema.specs.declared.limits.TheConstants.{MAX_AT}
use Rattle.snb_history.specs.History.{moment}
use Rattle.snb_history.specs.RunTexts.{count_text, logged_line}
use Rattle.snb_runlog.specs.declared.columns.TheConstants.{LAST_VERSION}
use Rattle.snb_runlog.specs.Columns.{HasCount}

-- each number with a bar before it
abbrev pub cells_text : List ℕ → List ℕ
cells_text ns = flat_map (λ n. 124 ∷ decimal n) ns

-- a line that begins with this and goes on with the numbers, and with a count where there is one
abbrev pub line_with : List ℕ → List ℕ → Option ℕ → List ℕ
line_with first ns count = first ++ cells_text ns ++ count_text count ++ codes "\n"

-- the lines of what a log tells
abbrev pub logged_text : List Logged → List ℕ
logged_text logged = flat_map logged_line logged

-- no moment is above the greatest, and there is a count of rows exactly at each Finish
pub record AreCounted (logged : List Logged) : Type 0 where
  pub timed : All (λ l. moment l.event ≤ MAX_AT) logged
  pub counted : All (HasCount LAST_VERSION) logged

-- a first part of the text is appended
pub record AppendsSome (old new text : List ℕ) : Type 0 where
  pub written : List ℕ
  pub left : List ℕ
  pub part : text ≡ written ++ left
  pub appended : new ≡ old ++ written
