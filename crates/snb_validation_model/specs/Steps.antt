-- What a checker does with a case.
use Rattle.std.specs.Prelude.{◌≡◌, ◌≢◌, ℕ, List, Option, Some, None}
use Rattle.snb_schema.specs.declared.query.Query.{Query}
use Rattle.snb_schema.specs.declared.refusal.Missing.{Missing}
use Rattle.snb_schema.specs.declared.row.Row.{Row}
use Rattle.snb_schema.specs.Inserts.{rows_of}
use Rattle.snb_schema.specs.References.{refs_of}
use Rattle.snb_graph_model.specs.Graphs.{HasGained}
use Rattle.snb_inserts.specs.Applying.{HasLine, IsDuplicate, IsFirstMissing}
use Rattle.snb_read_model.specs.Cells.{ByteCell}
use Rattle.snb_read_model.specs.Replies.{IsReply}
use Rattle.snb_validation_cases.specs.declared.case.Case.{Case}
use Rattle.snb_validation_cases.specs.declared.case.Case.TheVariants.{Insert, Ask}
use Rattle.snb_validation_model.specs.declared.difference.Difference.{Difference}

-- a checker is its graph, and the first difference so far
pub record Checked : Type 0 where
  pub graph : List Row
  pub first : Option Difference

-- what is inserted has a line; a read needs none
abbrev pub HasText : Case → Type 0
HasText (Insert line) = HasLine line.op
HasText (Ask query reply) = Unit {0}

-- the case inserts, and of what it refers to this is the first that the graph doesn't hold
abbrev pub IsUnmet : List Row → Case → Missing → Type 0
IsUnmet graph (Insert line) missing = IsFirstMissing graph (refs_of line.op) missing
IsUnmet graph (Ask query reply) missing = ⊥

-- the case inserts, all that it refers to is held, and so is a key that it takes
abbrev pub CaseRepeats : List Row → Case → Type 0
CaseRepeats graph (Insert line) = IsDuplicate graph line.op
CaseRepeats graph (Ask query reply) = ⊥

-- nothing is kept of a read whose reply is the one that is due, and of another one its line and
-- both replies
abbrev pub IsKept : ℕ → List (List (List ByteCell)) → List (List (List ByteCell))
    → Option Difference → Type 0
IsKept line due given None = given ≡ due
IsKept line due given (Some d) =
    (given ≢ due) × (d ≡ record { line = line; expected = due; given = given })

-- what is kept already stays; else the reply on the graph is compared with the one that is due
abbrev pub HasCompared : List Row → ℕ → Query → List (List (List ByteCell)) → Option Difference
    → Option Difference → Type 0
HasCompared graph line query due (Some d) new = new ≡ Some d
HasCompared graph line query due None new =
    (given : List (List (List ByteCell))) × IsReply graph query given × IsKept line due given new

-- an insert adds its rows and leaves what is kept; a read leaves the graph
abbrev pub Steps : Checked → Case → ℕ → Checked → Type 0
Steps old (Insert line) number new =
    HasGained old.graph (rows_of line.op) new.graph × (new.first ≡ old.first)
Steps old (Ask query due) number new =
    (new.graph ≡ old.graph) × HasCompared old.graph number query due old.first new.first
