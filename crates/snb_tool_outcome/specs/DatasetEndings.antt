-- What commands over a dataset alone answer before they write. Cited by contracts of functions of
-- the tool alone.
use Rattle.std.specs.Prelude.{◌≡◌, ℕ, List, [], ◌∷◌, ◌++◌, Option, Result, Ok, Err, Vec}
use Rattle.std.specs.declared.alloc.Global.{Global}
use Rattle.snb_base.specs.Outbox.{Written}
use Rattle.snb_base.specs.Shelf.{Files}
use Rattle.snb_base.specs.FirstOf.{FirstOf, NoneOf}
use Rattle.snb_input_files.specs.Loading.{IsTold}
use Rattle.snb_input_files.specs.Walk.{Held, IsHeldTold}
use Rattle.snb_input_files.specs.declared.load.Load.{Load}
use Rattle.snb_input_files.specs.declared.load.Load.TheVariants.{Refused, ReadFault, Memory}
use Rattle.snb_loader.specs.Dataset.{IsDataset, dataset_checks}
use Rattle.snb_read_model.specs.Cells.{ByteCell}
use Rattle.snb_read_model.specs.Replies.{IsReply}
use Rattle.snb_schema.specs.declared.query.Query.{Query}
use Rattle.snb_schema.specs.declared.refusal.Refusal.{Refusal}
use Rattle.snb_schema.specs.declared.row.Row.{Row}
use Rattle.snb_plan.specs.Plans.{IsOfStreams, queries_in}
use Rattle.snb_tool_outcome.specs.declared.delivery.Finished.{Finished}
use Rattle.snb_tool_outcome.specs.declared.input.Input.{Input}
use Rattle.snb_validation_cases.specs.declared.case.Case.{Case}
use Rattle.snb_validation_model.specs.declared.tally.Tally.{Tally}
use Rattle.snb_validation_model.specs.Expected.{AreExpected, AreReadBack, HaveWords}
use Rattle.snb_validation_model.specs.CasesFile.{IsTally}
use Rattle.snb_validation_model.specs.CheckTexts.{tally_status, tally_text}
use Rattle.snb_trial.specs.Trial.{dataset}
use Rattle.snb_tool_outcome.specs.Inputs.{AreBadCases, at_first}
use Rattle.snb_tool_outcome.specs.Done.{expected_texts}
use Rattle.snb_tool_outcome.specs.WalkTexts.{reply_line, walk_text}
use Rattle.snb_ratio.specs.Chances.{ChanceFall}
use Rattle.snb_walk.specs.declared.target.Pick.{Pick}
use Rattle.snb_walk.specs.declared.target.Stop.{Stop}
use Rattle.snb_walk.specs.Targets.{AnswerRows, WalkStep}
use Rattle.snb_walk.specs.Walks.{IsWalk}
use Rattle.snb_tool_outcome.specs.Output.{on_screen}
use Rattle.snb_tool_outcome.specs.Endings.{bytes_of}

-- the texts are those of the cases of the input's plan over its dataset; where words spell the
-- parameters of the plan's queries, each case is read from its line
pub record AreCasesOf (input : Input) (texts : Written) : Type 0 where
  pub streams : IsOfStreams input.plan
  pub cases : List Case
  pub are : AreExpected input.graph input.plan cases
  pub read_back : HaveWords (queries_in input.plan) → AreReadBack cases
  pub shown : texts ≡ expected_texts input.plan cases

-- the line is that of the reply to the query on a graph
pub record IsReplyLine (graph : List Row) (query : Query) (line : List ℕ) : Type 0 where
  pub reply : List (List (List ByteCell))
  pub replies : IsReply graph query reply
  pub shown : line ≡ reply_line reply

-- nothing is wrong with the tables, and the line is that of the reply on their graph
pub record IsReplied (held : Held) (query : Query) (line : List ℕ) : Type 0 where
  pub graph : List Row
  pub dataset : IsDataset at_first held graph
  pub shown : IsReplyLine graph query line

-- nothing is wrong with the tables, and the text is that of the walk of the query on their graph
pub record IsWalkText (held : Held) (pick : Pick) (query : Query) (chance : ChanceFall)
    (words : List ℕ) (text : List ℕ) : Type 0 where
  pub graph : List Row
  pub dataset : IsDataset at_first held graph
  pub answer : AnswerRows
  pub steps : List WalkStep
  pub stop : Stop
  pub walk : IsWalk graph pick chance words query answer steps stop
  pub shown : text ≡ walk_text answer steps stop

-- what the taking of a walk answers
abbrev pub IsWalkAnswer : Option Files → List ℕ → Pick → Query → ChanceFall → List ℕ
    → Result (Vec ℕ Global) Load → Type 0
IsWalkAnswer contents folder pick query chance words (Ok text) =
    (held : Held) × IsHeldTold contents folder held
    × IsWalkText held pick query chance words text.items
IsWalkAnswer contents folder pick query chance words (Err (Refused r)) =
    (held : Held) × IsHeldTold contents folder held × FirstOf (dataset_checks at_first held) r
IsWalkAnswer contents folder pick query chance words (Err ReadFault) = Unit {0}
IsWalkAnswer contents folder pick query chance words (Err Memory) = Unit {0}

-- what the reading of a reply answers
abbrev pub IsReplyAnswer : Option Files → List ℕ → Query → Result (Vec ℕ Global) Load → Type 0
IsReplyAnswer contents folder query (Ok line) =
    (held : Held) × IsHeldTold contents folder held × IsReplied held query line.items
IsReplyAnswer contents folder query (Err (Refused r)) =
    (held : Held) × IsHeldTold contents folder held × FirstOf (dataset_checks at_first held) r
IsReplyAnswer contents folder query (Err ReadFault) = Unit {0}
IsReplyAnswer contents folder query (Err Memory) = Unit {0}

-- the status and the text of a tally
pub record TellsTally (tally : Tally) (f : Finished) : Type 0 where
  pub status_is : f.status ≡ tally_status tally
  pub shown : bytes_of f.output ≡ on_screen (tally_text tally)

-- what is tried for a validation, in order: the tables, then the file of cases over their graph
abbrev pub validate_checks : Held → Option (List ℕ) → List {1} (Refusal → Type 0)
validate_checks held beside = dataset_checks at_first held ++ AreBadCases held beside ∷ []

-- nothing is wrong with the tables and the cases, and this is what is found over them
pub record IsTallied (held : Held) (beside : Option (List ℕ)) (tally : Tally) : Type 0 where
  pub clean : NoneOf (validate_checks held beside)
  pub graph : List Row
  pub dataset : IsDataset at_first held graph
  pub found : IsTally graph beside tally

-- what the checking of cases over the tables of a folder answers: there are tables and a file of
-- cases, which are those that the shelf tells where it tells any, of which this is found, or which
-- are refused so
abbrev pub IsTallyAnswer : Option Files → List ℕ → List ℕ → Result Tally Load → Type 0
IsTallyAnswer contents folder cases (Ok tally) =
    (held : Held) × (beside : Option (List ℕ)) × IsHeldTold contents folder held
    × IsTold contents cases beside × IsTallied held beside tally
IsTallyAnswer contents folder cases (Err (Refused r)) =
    (held : Held) × (beside : Option (List ℕ)) × IsHeldTold contents folder held
    × IsTold contents cases beside × FirstOf (validate_checks held beside) r
IsTallyAnswer contents folder cases (Err ReadFault) = Unit {0}
IsTallyAnswer contents folder cases (Err Memory) = Unit {0}
