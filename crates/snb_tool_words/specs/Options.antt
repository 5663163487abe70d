-- The options of a command line, and the word after the name of each.
use Rattle.std.specs.Prelude.{◌≡◌, ℕ, ◌≤◌, ◌++◌, ◌==◌, true, List, [], ◌∷◌, Option, None, Some, Contains, is_some, length, codes, if◌then◌else◌}
use Rattle.std.specs.List.{slice_split}
use Rattle.std.specs.Str.{bytes_eq}
use Rattle.snb_base.specs.Spellings.{EachSpells, Num, SpellsId}
use Rattle.snb_ratio.specs.Chances.{ChanceFall, SpellsChance}
use Rattle.snb_ratio.specs.Ratios.{SpellsRatio}
use Rattle.snb_schema.specs.declared.limits.TheConstants.{MAX_WORKERS}
use Rattle.snb_schema.specs.declared.query.TheConstants.{COMPLEX_COUNT}
use Rattle.snb_schema.specs.QueryPlaces.{values_of}
use Rattle.snb_schema.specs.Frequencies.{FrequencyTable, HasFrequencies, SpellsFrequencies}
use Rattle.snb_schema.specs.declared.limits.TheConstants.{MAX_WORDS}
use Rattle.snb_tool_words.specs.declared.options.OptionName.{OptionName}
use Rattle.snb_tool_words.specs.declared.options.OptionName.TheVariants.{Workers, Ratio, Frequencies, Via, Chance, Words}
use Rattle.snb_tool_words.specs.declared.options.Via.{Via as AnyVia}
use Rattle.snb_tool_words.specs.declared.options.Via.TheVariants.{Graph, Table}

-- which options are given, and the word after the name of each
abbrev pub OptionWords : Type 0
OptionWords = OptionName → Option (List ℕ)

-- the name of an option
abbrev pub option_name : OptionName → List ℕ
option_name Workers = codes "workers"
option_name Ratio = codes "ratio"
option_name Frequencies = codes "freq"
option_name Via = codes "via"
option_name Chance = codes "chance"
option_name Words = codes "words"

-- the name of an option on a command line
abbrev pub option_word : OptionName → List ℕ
option_word option = codes "--" ++ option_name option

-- no option is given
abbrev pub no_options : OptionWords
no_options option = None

-- with this word after the name of this option, and the others as they are
abbrev pub put : OptionWords → OptionName → List ℕ → OptionWords
put given option word other =
    if bytes_eq (option_name option) (option_name other) then Some word else given other

-- the word says a number of workers
abbrev pub SaysWorkers : List ℕ → ℕ → Type 0
SaysWorkers word n = Num word n MAX_WORKERS × (1 ≤ n)

-- the word says these frequencies
abbrev pub SaysFrequencies : List ℕ → FrequencyTable → Type 0
SaysFrequencies word table =
    (pairs : List (ℕ × ℕ)) × SpellsFrequencies word pairs × HasFrequencies table pairs

-- the word says by what reads are answered: it names the table, and nothing names the graph
abbrev pub SaysVia : List ℕ → AnyVia → Type 0
SaysVia word Table = word ≡ codes "table"
SaysVia word Graph = ⊥

-- x is from 1 to `MAX_WORDS` numbers up to the greatest id, separated by commas
pub record SpellsWords (x : List ℕ) (words : List ℕ) : Type 0 where
  pub spelled : EachSpells SpellsId (slice_split (λ b. b == 44) x) words
  pub few : length words ≤ MAX_WORDS

-- the word is a value of the option
abbrev pub IsValueOf : OptionName → List ℕ → Type 0
IsValueOf Workers word = (n : ℕ) × SaysWorkers word n
IsValueOf Ratio word = (ratio : ℕ) × SpellsRatio word ratio
IsValueOf Frequencies word = (table : FrequencyTable) × SaysFrequencies word table
IsValueOf Via word = (via : AnyVia) × SaysVia word via
IsValueOf Chance word = (chance : ChanceFall) × SpellsChance word chance
IsValueOf Words word = (words : List ℕ) × SpellsWords word words

-- one option more, which was not given yet: its name, and a value of it
pub record Adds (old : OptionWords) (name value : List ℕ) (new : OptionWords) : Type 0 where
  pub option : OptionName
  pub named : name ≡ option_word option
  pub fresh : old option ≡ None
  pub valued : IsValueOf option value
  pub added : new ≡ put old option value

-- each two of the words are one option more
abbrev pub Say : OptionWords → List (List ℕ) → OptionWords → Type 0
Say old [] new = old ≡ new
Say old (name ∷ []) new = ⊥
Say old (name ∷ value ∷ rest) new =
    (more : OptionWords) × Adds old name value more × Say more rest new

-- the option is given
abbrev pub IsGiven : OptionWords → OptionName → Type 0
IsGiven given option = true ≡ is_some (given option)

-- an option that is given is admitted, and one that is needed is given
abbrev pub IsSuited : List OptionName → List OptionName → OptionWords → OptionName → Type 0
IsSuited admitted needed given option =
    (IsGiven given option → Contains admitted option)
    × (Contains needed option → IsGiven given option)

-- those that are given are admitted, and those that are needed are given
abbrev pub AreSuited : List OptionName → List OptionName → OptionWords → Type 0
AreSuited admitted needed given = (option : OptionName) → IsSuited admitted needed given option

-- what the word of an option says, or a default where it isn't given
abbrev pub OptionSays : {A : Type 0} → (List ℕ → A → Type 0) → A → Option (List ℕ) → A → Type 0
OptionSays Spells default None a = a ≡ default
OptionSays Spells default (Some word) a = Spells word a

-- what the word of an option says that must be given
abbrev pub MustSay : {A : Type 0} → (List ℕ → A → Type 0) → Option (List ℕ) → A → Type 0
MustSay Spells None a = ⊥
MustSay Spells (Some word) a = Spells word a

-- no query has a frequency
abbrev pub no_frequencies : FrequencyTable
no_frequencies = values_of COMPLEX_COUNT [] 0
