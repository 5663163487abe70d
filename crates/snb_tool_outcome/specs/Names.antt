-- The names that a command may ask the shelf for.
use Rattle.std.specs.Prelude.{◌≡◌, ℕ, ◌⊎◌, List, ◌++◌}
use Rattle.snb_base.specs.Shelf.{Names}
use Rattle.snb_input_files.specs.declared.series.Series.{Series}
use Rattle.snb_input_files.specs.Names.{Allows, IsNameIn}
use Rattle.snb_loader.specs.Order.{stream_series, table_series}
use Rattle.snb_loader.specs.Params.{params_stage}
use Rattle.snb_schema.specs.Frequencies.{FrequencyTable}
use Rattle.snb_tool_words.specs.declared.command.Command.{Command}
use Rattle.snb_tool_words.specs.declared.command.Command.TheVariants.{Audit, Check, Expect, Latency, Run, Read, Trial, Validate, Walk}
use Rattle.snb_tool_outcome.specs.Outcome.{Asked, IsAsked}

-- the files of a plan: the tables, the streams, and the parameter files of the queries with a
-- frequency
abbrev pub plan_series : FrequencyTable → List Series
plan_series frequencies = table_series ++ (stream_series ++ params_stage frequencies)

-- the names that a command may ask for: those of its files in its folder, and that of the log or
-- the cases; a trial asks for none
abbrev pub IsNameOf : Command → List ℕ → Type 0
IsNameOf (Check folder frequencies) name = IsNameIn (plan_series frequencies) folder name
IsNameOf (Run folder workers ratio frequencies) name =
    IsNameIn (plan_series frequencies) folder name
IsNameOf (Audit folder log ratio frequencies) name =
    IsNameIn (plan_series frequencies) folder name ⊎ (name ≡ log)
IsNameOf (Latency folder log ratio frequencies) name =
    IsNameIn (plan_series frequencies) folder name ⊎ (name ≡ log)
IsNameOf (Expect folder frequencies) name = IsNameIn (plan_series frequencies) folder name
IsNameOf (Validate folder cases via) name = IsNameIn table_series folder name ⊎ (name ≡ cases)
IsNameOf (Read folder query) name = IsNameIn table_series folder name
IsNameOf (Walk folder query chance words) name = IsNameIn table_series folder name
IsNameOf (Trial size workers) name = ⊥

-- a shelf may be asked for the names of the command that is asked, and where none can be done, for
-- none
abbrev pub MayAskFor : Names → Asked → Type 0
MayAskFor names asked =
    (command : Command) → IsAsked asked command → Allows names (IsNameOf command)
