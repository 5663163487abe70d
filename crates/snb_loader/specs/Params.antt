-- What the parameter files of a folder are refused for, and the lists of parameters that they are.
use Rattle.std.specs.Prelude.{◌≡◌, ℕ, ◌<◌, ltb, List, [], ◌∷◌, ◌++◌, filter, map, Option, Some, None, Result, Ok, Err}
use Rattle.snb_base.specs.Shelf.{Files}
use Rattle.snb_schema.specs.declared.file.FileId.{FileId}
use Rattle.snb_schema.specs.declared.file.FileKind.{FileKind}
use Rattle.snb_schema.specs.declared.file.FileKind.TheVariants.{Params}
use Rattle.snb_schema.specs.declared.limits.TheConstants.{MAX_ROWS}
use Rattle.snb_schema.specs.declared.query.Query.{Query}
use Rattle.snb_schema.specs.declared.refusal.Refusal.{Refusal}
use Rattle.snb_schema.specs.declared.refusal.Refusal.TheVariants.{NoParameters}
use Rattle.snb_schema.specs.Frequencies.{FrequencyTable, frequency_at}
use Rattle.snb_schema.specs.QueryLists.{AreOf, QueryLists, list_of}
use Rattle.snb_schema.specs.Queries.{complex_queries}
use Rattle.snb_input_lines.specs.Sinks.{SinkMeaning, Takes}
use Rattle.snb_streams.specs.Parameters.{params_file, params_language}
use Rattle.snb_input_files.specs.declared.load.Load.{Load}
use Rattle.snb_input_files.specs.declared.load.Load.TheVariants.{Refused, ReadFault, Memory}
use Rattle.snb_input_files.specs.declared.load.Used.{Used}
use Rattle.snb_input_files.specs.declared.series.Series.{Series}
use Rattle.snb_base.specs.FirstOf.{FirstOf, NoneOf}
use Rattle.snb_input_files.specs.Format.{Format, IsFileSink, Rules}
use Rattle.snb_input_files.specs.Places.{FileSays}
use Rattle.snb_input_files.specs.Stages.{before}
use Rattle.snb_input_files.specs.Walk.{Before, Held, IsHeldTold, after_walk, stage_checks, stage_looks}
use Rattle.snb_loader.specs.Order.{params_series}

-- the queries with a frequency, by rising number
abbrev pub asked : FrequencyTable → List ℕ
asked table = filter (λ q. ltb 0 (frequency_at table q)) complex_queries

-- the parameter files of the queries with a frequency
abbrev pub params_stage : FrequencyTable → List Series
params_stage table = map params_series (asked table)

-- the number of the query whose parameters a file of this kind has; any other file gives 0
abbrev pub query_in : FileKind → ℕ
query_in (Params q) = q
query_in _ = 0

-- what is wrong with a file that has these parameters: there must be one
abbrev pub no_parameters : FileId → List Query → Option Refusal
no_parameters file [] = Some (NoParameters file)
no_parameters file (x ∷ xs) = None

-- what the parameters of queries are refused for: a file has one at least
abbrev pub params_rules : Rules Query
params_rules = record { limit = Some MAX_ROWS; own = λ file done mine x r. ⊥; bare = no_parameters }

-- what parameter files say, and what their parameters are refused for
abbrev pub params_format : Format (Unit {0}) Query
params_format =
    record { language = λ file. params_language (query_in file.kind); rules = params_rules }

-- what the files before said, and what this one has said so far
pub record ParamLines : Type 0 where
  pub done : List (List Query)
  pub mine : List Query

-- these are what the files before said, and what this one has said so far
abbrev pub HasHeard : ParamLines → List (List Query) → List Query → Type 0
HasHeard s done mine = (s.done ≡ done) × (s.mine ≡ mine)

-- the parameters come after those before
abbrev pub TakesQuery : Takes ParamLines Query
TakesQuery old file x new = (new.done ≡ old.done) × (new.mine ≡ old.mine ++ x ∷ [])

-- the file is at its end
abbrev pub EndsParams : ParamLines → ParamLines → Type 0
EndsParams old new = (new.done ≡ old.done ++ old.mine ∷ []) × (new.mine ≡ [])

-- what takes parameters
abbrev pub param_sink : SinkMeaning ParamLines Query
param_sink = record {
  fits = λ x. Unit {0};
  takes = TakesQuery;
  refuses = λ old file x r. ⊥;
  same = λ old new. new ≡ old;
  ends = λ s file. no_parameters file s.mine;
  turns = EndsParams;
}

-- what takes parameters is a file_sink of their files
abbrev pub IsParamFileSink : Type 0
IsParamFileSink = IsFileSink params_format HasHeard param_sink

-- there is a list for each of these queries, with queries of its kind alone
abbrev pub AreOfEach : List ℕ → List (List Query) → Type 0
AreOfEach [] [] = Unit {0}
AreOfEach [] (xs ∷ xss) = ⊥
AreOfEach (q ∷ qs) [] = ⊥
AreOfEach (q ∷ qs) (xs ∷ xss) = AreOf q xs × AreOfEach qs xss

-- what was read after the parameter files
abbrev pub after_params : Before → Held → FrequencyTable → Before
after_params at held table = after_walk params_format at (stage_looks held (params_stage table))

-- what is tried of the parameter files, in order
abbrev pub params_checks : Before → Held → FrequencyTable → List {1} (Refusal → Type 0)
params_checks at held table = stage_checks params_format at held (params_stage table)

-- the parameter file of the query is there, and says this list
abbrev pub IsListSaid : Held → ℕ → List Query → Type 0
IsListSaid held q list =
    (bytes : List ℕ) × (held (params_file q) ≡ Some bytes)
    × FileSays params_format (record { file = params_file q; bytes = bytes }) list

-- nothing is wrong with the parameter files, and these are the lists of parameters
pub record AreParams (at : Before) (held : Held) (table : FrequencyTable) (lists : QueryLists)
    : Type 0 where
  pub clean : NoneOf (params_checks at held table)
  -- the list of a query with a frequency is what its file says
  pub said : (query : ℕ) → 0 < frequency_at table query
      → IsListSaid held query (list_of lists query)
  -- any other is empty
  pub others : (query : ℕ) → frequency_at table query ≡ 0 → list_of lists query ≡ []

-- what the loading of the parameter files answers: there are files in the folder, which are those
-- that the shelf tells where it tells any, of which nothing is wrong and these are the lists of
-- parameters, or which are refused so
abbrev pub IsParamsAnswer : Option Files → List ℕ → FrequencyTable → Used → Used
    → Result QueryLists Load → Type 0
IsParamsAnswer contents folder table old new (Ok lists) =
    (held : Held)
    × IsHeldTold contents folder held
    × AreParams (before old) held table lists
    × (new.bytes ≡ (after_params (before old) held table).bytes)
    × (new.rows ≡ (after_params (before old) held table).rows)
IsParamsAnswer contents folder table old new (Err (Refused r)) =
    (held : Held) × IsHeldTold contents folder held
    × FirstOf (params_checks (before old) held table) r
IsParamsAnswer contents folder table old new (Err ReadFault) = Unit {0}
IsParamsAnswer contents folder table old new (Err Memory) = Unit {0}
