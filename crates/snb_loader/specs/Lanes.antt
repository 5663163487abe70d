-- What the update streams of a folder are refused for, and the lanes that they are.
use Rattle.std.specs.Prelude.{◌≡◌, ℕ, ◌-◌, ◌<◌, ◌≤◌, List, [], ◌∷◌, ◌++◌, length, slice_index_or, All, Option, Some, None, Result, Ok, Err}
use Rattle.snb_base.specs.Shelf.{Files}
use Rattle.snb_schema.specs.declared.file.FileId.{FileId}
use Rattle.snb_schema.specs.declared.limits.TheConstants.{MAX_ROWS}
use Rattle.snb_schema.specs.declared.op.Line.{Line}
use Rattle.snb_schema.specs.declared.op.InsertKind.{InsertKind}
use Rattle.snb_schema.specs.declared.refusal.Refusal.{Refusal}
use Rattle.snb_schema.specs.declared.refusal.Refusal.TheVariants.{OutOfOrder}
use Rattle.snb_schema.specs.LineLanes.{LineLanes}
use Rattle.snb_schema.specs.StreamLines.{IsOfLine, NeverFalls}
use Rattle.snb_schema.specs.TableRows.{IsFieldText}
use Rattle.snb_streams.specs.Spelled.{SpellsInsert}
use Rattle.snb_input_lines.specs.Sinks.{Refuses, SinkMeaning, Takes}
use Rattle.snb_streams.specs.Lines.{stream_language}
use Rattle.snb_input_files.specs.declared.load.Load.{Load}
use Rattle.snb_input_files.specs.declared.load.Load.TheVariants.{Refused, ReadFault, Memory}
use Rattle.snb_input_files.specs.declared.load.Used.{Used}
use Rattle.snb_base.specs.FirstOf.{FirstOf, NoneOf}
use Rattle.snb_input_files.specs.Format.{Format, IsFileSink, Rules}
use Rattle.snb_input_files.specs.Places.{FilesSay}
use Rattle.snb_input_files.specs.Stages.{before}
use Rattle.snb_input_files.specs.Walk.{Before, Held, IsHeldTold, after_walk, stage_checks, stage_looks}
use Rattle.snb_loader.specs.Order.{forum_series, person_series}

-- the line before has a greater t
abbrev pub Falls : FileId → List (List Line) → List Line → Line → Refusal → Type 0
Falls file done mine x r =
    (0 < length mine) × (x.t < (slice_index_or mine (length mine - 1) x).t)
    × (r ≡ OutOfOrder file x.number)

-- what the inserts of streams are refused for
abbrev pub stream_rules : Rules Line
stream_rules = record { limit = Some MAX_ROWS; own = Falls; bare = λ file items. None }

-- what streams say, and what their inserts are refused for
abbrev pub stream_format : Format (Unit {0}) Line
stream_format = record { language = λ file. stream_language file.kind; rules = stream_rules }

-- an insert that texts of fields spell is that of some line
abbrev pub InsertsOfFieldsFit : Type 0
InsertsOfFieldsFit =
    (allowed : List InsertKind) (fs : List (List ℕ)) (x : Line) → All IsFieldText fs
    → SpellsInsert allowed fs x.t x.t_d x.op → IsOfLine x

-- some text is each line, and t never falls
pub record AreTaken (lines : List Line) : Type 0 where
  pub of_lines : All IsOfLine lines
  pub rises : NeverFalls lines

-- what the files before said, and what this one has said so far
pub record StreamLines : Type 0 where
  pub done : List (List Line)
  pub mine : List Line

abbrev pub IsHeard : StreamLines → List (List Line) → List Line → Type 0
IsHeard s done mine = (s.done ≡ done) × (s.mine ≡ mine)

-- a line whose t is no lower than that of the line before comes after it
abbrev pub TakesLine : Takes StreamLines Line
TakesLine old file x new =
    (new.done ≡ old.done)
    × (new.mine ≡ old.mine ++ x ∷ [])
    × (0 < length old.mine → (slice_index_or old.mine (length old.mine - 1) x).t ≤ x.t)

-- one whose t is lower is out of order
abbrev pub RefusesLine : Refuses StreamLines Line
RefusesLine old file x r = Falls file old.done old.mine x r

-- the stream is at its end
abbrev pub EndsStream : StreamLines → StreamLines → Type 0
EndsStream old new = (new.done ≡ old.done ++ old.mine ∷ []) × (new.mine ≡ [])

-- what takes streams
abbrev pub stream_sink : SinkMeaning StreamLines Line
stream_sink = record {
  fits = IsOfLine;
  takes = TakesLine;
  refuses = RefusesLine;
  same = λ old new. new ≡ old;
  ends = λ s file. None;
  turns = EndsStream;
}

-- what takes streams is a file_sink of their files
abbrev pub IsStreamFileSink : Type 0
IsStreamFileSink = IsFileSink stream_format IsHeard stream_sink

-- this is the t of the last of the lines, or 0
pub record IsLastOf (lines : List Line) (last : ℕ) : Type 0 where
  pub none : length lines ≡ 0 → last ≡ 0
  pub some : (x : Line) → 0 < length lines → (slice_index_or lines (length lines - 1) x).t ≡ last

-- what was read after the person streams, where the forum streams begin; and after these
abbrev pub after_persons : Before → Held → Before
after_persons at held = after_walk stream_format at (stage_looks held person_series)

-- bytes and data lines are counted on, and the files of a stage begin anew
abbrev pub next_stage : Before → Before
next_stage at = record { bytes = at.bytes; rows = at.rows; past = [] }

abbrev pub after_lanes : Before → Held → Before
after_lanes at held =
    after_walk stream_format (next_stage (after_persons at held)) (stage_looks held forum_series)

-- what is tried of the streams, in order: the person streams, then the forum streams
abbrev pub lane_checks : Before → Held → List {1} (Refusal → Type 0)
lane_checks at held =
    stage_checks stream_format at held person_series
    ++ stage_checks stream_format (next_stage (after_persons at held)) held forum_series

-- nothing is wrong with the streams, and these are their lanes
pub record AreLanes (at : Before) (held : Held) (lanes : LineLanes) : Type 0 where
  pub clean : NoneOf (lane_checks at held)
  pub persons : FilesSay stream_format (after_persons at held).past lanes.persons
  pub forums : FilesSay stream_format (after_lanes at held).past lanes.forums

-- what the loading of the streams answers: there are files in the folder, which are those that the
-- shelf tells where it tells any, of which nothing is wrong and these are the lanes, or which are
-- refused so
abbrev pub IsLanesAnswer : Option Files → List ℕ → Used → Used → Result LineLanes Load → Type 0
IsLanesAnswer contents folder old new (Ok lanes) =
    (held : Held)
    × IsHeldTold contents folder held
    × AreLanes (before old) held lanes
    × (new.bytes ≡ (after_lanes (before old) held).bytes)
    × (new.rows ≡ (after_lanes (before old) held).rows)
IsLanesAnswer contents folder old new (Err (Refused r)) =
    (held : Held) × IsHeldTold contents folder held × FirstOf (lane_checks (before old) held) r
IsLanesAnswer contents folder old new (Err ReadFault) = Unit {0}
IsLanesAnswer contents folder old new (Err Memory) = Unit {0}
