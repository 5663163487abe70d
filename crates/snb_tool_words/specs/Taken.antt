-- What `clap` sees of a line, and what it finds there. Only the contracts of private functions cite
-- these definitions.
use Rattle.std.specs.Prelude.{◌≡◌, ℕ, ◌≤◌, List, [], ◌∷◌, ◌++◌, Option, Some, None, true, codes, drop, map}
use Rattle.std.specs.Option.{IfSome, option_map}
use Rattle.snb_base.specs.Spellings.{Num}
use Rattle.snb_schema.specs.declared.limits.TheConstants.{MAX_TRIAL}
use Rattle.snb_schema.specs.declared.column.Column.{Column}
use Rattle.snb_schema.specs.declared.column.Column.TheVariants.{Number, Small, Date, Words}
use Rattle.snb_schema.specs.declared.column.Value.{Value}
use Rattle.snb_schema.specs.declared.query.Query.{Query}
use Rattle.snb_schema.specs.declared.query.ReadKind.{ReadKind}
use Rattle.snb_schema.specs.Columns.{Spells}
use Rattle.snb_schema.specs.ReadKinds.{read_kind_of, parameter_columns, parameter_values, read_word}
use Rattle.snb_input_fields.specs.Fields.{FieldsMeaning}
use Rattle.clap.specs.Simple.{App, new_rule, new_shape}
use Rattle.clap.specs.Walk.{Rule}
use Rattle.snb_tool_words.specs.declared.command.Command.{Command}
use Rattle.snb_tool_words.specs.declared.options.OptionName.{OptionName}
use Rattle.snb_tool_words.specs.declared.options.OptionName.TheVariants as names
use Rattle.snb_tool_words.specs.declared.options.Options.{Options}
use Rattle.snb_tool_words.specs.Commands.{AreOf, IsReadOf, IsLineOf, form_of}
use Rattle.snb_tool_words.specs.Options.{OptionWords, IsValueOf, MustSay, option_name}

-- the words of the options
abbrev pub given_of : Options → OptionWords
given_of options names.Workers = option_map (λ word. word.now) options.workers
given_of options names.Ratio = option_map (λ word. word.now) options.ratio
given_of options names.Frequencies = option_map (λ word. word.now) options.frequencies
given_of options names.Via = option_map (λ word. word.now) options.via
given_of options names.Chance = option_map (λ word. word.now) options.chance
given_of options names.Words = option_map (λ word. word.now) options.words

-- each word that is given is a value of its option
abbrev pub AreValues : OptionWords → Type 0
AreValues given = (option : OptionName) → IfSome (given option) (IsValueOf option)

-- an option of this name, which has one value
abbrev pub option_rule : List ℕ → Rule
option_rule name = record (new_rule name) { long = Some name }

-- the command that has these places and these options, and no flag for help
abbrev pub app_with : List (List ℕ) → List (List ℕ) → App
app_with places options = record {
  top = record (new_shape (codes "snb"))
      { rules = map new_rule places ++ map option_rule options; disable_help_flag = true };
  subs = [];
}

-- the names of places
abbrev pub place_names : List (List ℕ)
place_names = codes "first" ∷ codes "second" ∷ codes "third" ∷ codes "fourth" ∷ codes "fifth" ∷ []

-- the command that has all places and all options
abbrev pub line_app : App
line_app =
    app_with place_names
    (map option_name
    (names.Workers ∷ names.Ratio ∷ names.Frequencies ∷ names.Via ∷ names.Chance ∷ names.Words ∷ []))

-- the words are the line of a command of this name
abbrev pub IsLineBy : List ℕ → List (List ℕ) → Type 0
IsLineBy name words = (command : Command) × (name ≡ (form_of command).name) × IsLineOf words command

-- the parts of a line are those of a command of this name
abbrev pub AreSome : List ℕ → List (List ℕ) → OptionWords → Type 0
AreSome name plain given = (command : Command) × AreOf command name plain given

-- the words before the first that wasn't found
abbrev pub words_before : List (Option (List ℕ)) → List (List ℕ)
words_before [] = []
words_before (None ∷ more) = []
words_before (Some word ∷ more) = word ∷ words_before more

-- the plain words that were found
abbrev pub plain_in : (List ℕ → Option (List ℕ)) → List (List ℕ)
plain_in word_of = words_before (map word_of place_names)

-- the words of options that were found
abbrev pub given_in : (List ℕ → Option (List ℕ)) → OptionWords
given_in word_of option = word_of (option_name option)

-- the words that were found are those of a command and its name
abbrev pub AreFoundOf : List ℕ → (List ℕ → Option (List ℕ)) → Command → Type 0
AreFoundOf name word_of command = AreOf command name (plain_in word_of) (given_in word_of)

-- the words that were found are those of a command of this name
abbrev pub IsFoundBy : List ℕ → (List ℕ → Option (List ℕ)) → Type 0
IsFoundBy name word_of = AreSome name (plain_in word_of) (given_in word_of)

-- the plain words are a folder, and the kind and the parameters of a read
abbrev pub HaveRead : List (List ℕ) → Type 0
HaveRead plain =
    (folder kind : List ℕ) × (parameters : List (List ℕ)) × (query : Query)
    × (plain ≡ folder ∷ kind ∷ parameters) × IsReadOf kind parameters query

-- the word says the size of a trial
abbrev pub SaysSize : List ℕ → ℕ → Type 0
SaysSize word n = Num word n MAX_TRIAL × (1 ≤ n)

-- a parameter of a read may have the column
abbrev pub IsParameter : Column → Type 0
IsParameter (Number most) = Unit {0}
IsParameter (Small most) = Unit {0}
IsParameter Date = Unit {0}
IsParameter Words = Unit {0}
IsParameter _ = ⊥

-- the words that were found begin with one for each column, which spells the value in it
abbrev pub AreValuesFound : List Column → List (Option (List ℕ)) → List Value → Type 0
AreValuesFound [] words [] = Unit {0}
AreValuesFound (c ∷ cs) (word ∷ words) (v ∷ vs) =
    MustSay (Spells c) word v × AreValuesFound cs words vs
AreValuesFound cs words vs = ⊥

-- the next of the words that were found
abbrev pub next_of : List (Option (List ℕ)) → Option (List ℕ)
next_of [] = None
next_of (word ∷ words) = word

-- the words that were found, as fields that are read one after another, of which each that is read
-- spells a value of its column
abbrev pub words_meaning : FieldsMeaning (List (Option (List ℕ)))
words_meaning = record {
  expects = λ words column. (v : Value) × MustSay (Spells column) (next_of words) v;
  reads = λ words column v more. MustSay (Spells column) (next_of words) v × (more ≡ drop 1 words);
  stops = λ words column number. ⊥;
}

-- the word names the kind
abbrev pub NamesKind : List ℕ → ReadKind → Type 0
NamesKind word kind = word ≡ read_word kind

-- the words that were found at the places of a read are its kind and its parameters
pub record IsReadFound (word_of : List ℕ → Option (List ℕ)) (query : Query) : Type 0 where
  pub kind : MustSay NamesKind (word_of (codes "second")) (read_kind_of query)
  pub parameters : AreValuesFound (parameter_columns (read_kind_of query))
      (map word_of (codes "third" ∷ codes "fourth" ∷ codes "fifth" ∷ [])) (parameter_values query)
