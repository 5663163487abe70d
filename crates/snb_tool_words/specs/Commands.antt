-- The commands of the program, and the words of each.
use Rattle.std.specs.Prelude.{◌≡◌, ℕ, ◌≤◌, List, [], ◌∷◌, codes}
use Rattle.snb_base.specs.Spellings.{Num}
use Rattle.snb_ratio.specs.Chances.{SpellsChance}
use Rattle.snb_ratio.specs.Ratios.{SpellsRatio, real_time}
use Rattle.snb_schema.specs.declared.limits.TheConstants.{MAX_TRIAL, MAX_WORKERS}
use Rattle.snb_schema.specs.declared.query.Query.{Query}
use Rattle.snb_schema.specs.Columns.{SpellsAll}
use Rattle.snb_schema.specs.ReadKinds.{read_kind_of, parameter_columns, parameter_values, read_word}
use Rattle.snb_tool_words.specs.declared.command.Command.{Command}
use Rattle.snb_tool_words.specs.declared.command.Command.TheVariants.{Check, Run, Audit, Latency, Expect, Validate, Read, Walk, Trial}
use Rattle.snb_tool_words.specs.declared.options.OptionName.{OptionName}
use Rattle.snb_tool_words.specs.declared.options.OptionName.TheVariants.{Workers, Ratio, Frequencies, Via, Chance, Words}
use Rattle.snb_tool_words.specs.declared.options.Via.TheVariants.{Graph}
use Rattle.snb_tool_words.specs.Options.{AreSuited, OptionWords, MustSay, OptionSays, SaysFrequencies, SaysVia, SaysWorkers, SpellsWords, no_frequencies}
use Rattle.snb_tool_words.specs.Words.{AreLineWords}

-- how a command's line begins, and which options it admits and needs
pub record Form : Type 0 where
  pub name : List ℕ
  pub admitted : List OptionName
  pub needed : List OptionName

-- the form of each command
abbrev pub form_of : Command → Form
form_of (Check folder frequencies) =
    record { name = codes "check"; admitted = Frequencies ∷ []; needed = [] }
form_of (Run folder workers ratio frequencies) =
    record {
      name = codes "run";
      admitted = Workers ∷ Ratio ∷ Frequencies ∷ [];
      needed = Workers ∷ [];
    }
form_of (Audit folder log ratio frequencies) =
    record { name = codes "audit"; admitted = Ratio ∷ Frequencies ∷ []; needed = [] }
form_of (Latency folder log ratio frequencies) =
    record { name = codes "latency"; admitted = Ratio ∷ Frequencies ∷ []; needed = [] }
form_of (Expect folder frequencies) =
    record { name = codes "expect"; admitted = Frequencies ∷ []; needed = [] }
form_of (Validate folder cases via) =
    record { name = codes "validate"; admitted = Via ∷ []; needed = [] }
form_of (Read folder query) = record { name = codes "read"; admitted = []; needed = [] }
form_of (Walk folder query chance words) =
    record { name = codes "walk"; admitted = Chance ∷ Words ∷ []; needed = Chance ∷ Words ∷ [] }
form_of (Trial size workers) = record { name = codes "trial"; admitted = []; needed = [] }

-- the words are the kind of the query and its parameters
abbrev pub IsReadOf : List ℕ → List (List ℕ) → Query → Type 0
IsReadOf kind parameters query =
    (kind ≡ read_word (read_kind_of query))
    × SpellsAll (parameter_columns (read_kind_of query)) parameters (parameter_values query)

-- the words are a size and a number of workers
abbrev pub IsTrialOf : List ℕ → List ℕ → ℕ → ℕ → Type 0
IsTrialOf first second size workers =
    (Num first size MAX_TRIAL × (1 ≤ size)) × (Num second workers MAX_WORKERS × (1 ≤ workers))

-- what the plain words and the options of a command's line say: a folder; for `check` and `expect`
-- frequencies; for a run the number of workers, a ratio and frequencies; for an audit and for
-- latencies the file of a log, a ratio and frequencies; for a validation the file of the cases, and
-- by what reads are answered; for a read its kind and its parameters, and for a walk a chance and
-- words too. Of a trial they say a size and a number of workers
abbrev pub IsSaid : Command → List (List ℕ) → OptionWords → Type 0
IsSaid (Check folder frequencies) plain given =
    (plain ≡ folder ∷ []) × OptionSays SaysFrequencies no_frequencies (given Frequencies)
    frequencies
IsSaid (Run folder workers ratio frequencies) plain given =
    (plain ≡ folder ∷ []) × MustSay SaysWorkers (given Workers) workers
    × OptionSays SpellsRatio real_time (given Ratio) ratio
    × OptionSays SaysFrequencies no_frequencies (given Frequencies) frequencies
IsSaid (Audit folder log ratio frequencies) plain given =
    (plain ≡ folder ∷ log ∷ []) × OptionSays SpellsRatio real_time (given Ratio) ratio
    × OptionSays SaysFrequencies no_frequencies (given Frequencies) frequencies
IsSaid (Latency folder log ratio frequencies) plain given =
    (plain ≡ folder ∷ log ∷ []) × OptionSays SpellsRatio real_time (given Ratio) ratio
    × OptionSays SaysFrequencies no_frequencies (given Frequencies) frequencies
IsSaid (Expect folder frequencies) plain given =
    (plain ≡ folder ∷ []) × OptionSays SaysFrequencies no_frequencies (given Frequencies)
    frequencies
IsSaid (Validate folder cases via) plain given =
    (plain ≡ folder ∷ cases ∷ []) × OptionSays SaysVia Graph (given Via) via
IsSaid (Read folder query) plain given =
    (kind : List ℕ) × (parameters : List (List ℕ)) × (plain ≡ folder ∷ kind ∷ parameters)
    × IsReadOf kind parameters query
IsSaid (Walk folder query chance words) plain given =
    (kind : List ℕ) × (parameters : List (List ℕ)) × (plain ≡ folder ∷ kind ∷ parameters)
    × IsReadOf kind parameters query
    × MustSay SpellsChance (given Chance) chance × MustSay SpellsWords (given Words) words
IsSaid (Trial size workers) plain given =
    (first second : List ℕ) × (plain ≡ first ∷ second ∷ []) × IsTrialOf first second size workers

-- the name, the plain words and the options are those of the command
pub record AreOf (command : Command) (name : List ℕ) (plain : List (List ℕ)) (given : OptionWords)
    : Type 0 where
  pub named : name ≡ (form_of command).name
  pub suited : AreSuited (form_of command).admitted (form_of command).needed given
  pub is_said : IsSaid command plain given

-- the words are the line of the command
pub record IsLineOf (words : List (List ℕ)) (command : Command) : Type 0 where
  pub name : List ℕ
  pub plain : List (List ℕ)
  pub given : OptionWords
  pub line : AreLineWords words name plain given
  pub are : AreOf command name plain given

-- the words are no command's line
abbrev pub IsOtherLine : List (List ℕ) → Type 0
IsOtherLine words = (command : Command) → ¬ IsLineOf words command
