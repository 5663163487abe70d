-- What the files of a stage of an input say, and what is wrong with what they say.
use Rattle.std.specs.Prelude.{◌≡◌, ℕ, List, [], ◌∷◌, ◌++◌, Option}
use Rattle.snb_schema.specs.declared.file.FileId.{FileId}
use Rattle.snb_schema.specs.declared.refusal.Refusal.{Refusal}
use Rattle.snb_input_lines.specs.Language.{Fits, Language}
use Rattle.snb_input_lines.specs.Laws.{IsExact}
use Rattle.snb_input_lines.specs.Sinks.{Heard, Hears, Own, SinkMeaning}

-- what the items of the files of a stage are refused for
pub record Rules (T : Type 0) : Type 1 where
  -- how many data lines all files of an input may have together, where there is a limit
  pub limit : Option ℕ
  -- a file's own check, the last that is tried of a line, refuses an item so, by what each file
  -- before it said and what this file said before
  pub own : Own T
  -- what is wrong with a file whose data lines said these items
  pub bare : FileId → List T → Option Refusal

-- what the lines of each file of a stage say, in items, and what these are refused for
pub record Format (K T : Type 0) : Type 1 where
  pub language : FileId → Language K T
  pub rules : Rules T

-- what a file sink's contract says of the files of its stage
pub record Stage (P G T : Type 0) : Type 1 where
  -- the grammar of each file
  pub grammar_of : FileId → G
  -- how many data lines all files of the input may have together, where there is a limit
  pub limit : Option ℕ
  -- a file's own check of an item, where the first file was begun in this state
  pub own : P → Own T
  -- what is wrong with a file that said these items, if anything is
  pub bare : FileId → List T → Option Refusal
  -- where the first file was begun in the one state, the other was told these items by each file
  -- before, and these so far by the file that is open
  pub heard : P → Heard P T

-- the format of the files of a stage that are read by grammars of this language, where the first
-- file was begun in this state
abbrev pub format_in : {P G K T : Type 0} → (G → Language K T) → Stage P G T → P → Format K T
format_in language stage begun = record {
  language = λ file. language (stage.grammar_of file);
  rules = record { limit = stage.limit; own = stage.own begun; bare = stage.bare };
}

-- a stage that means the same in whatever state the first file was begun
abbrev pub stage_by : {P G T : Type 0} → (FileId → G) → Rules T → Heard P T → Stage P G T
stage_by grammar_of rules heard =
    record {
      grammar_of = grammar_of;
      limit = rules.limit;
      own = λ begun. rules.own;
      bare = rules.bare;
      heard = λ begun. heard;
    }

-- a line says one thing at most, and is refused in one way at most
pub record Lawful {K T : Type 0} (g : Format K T) : Type 0 where
  -- a header and a data line say one thing at most, and where they say one they have no bad column
  pub exact : (file : FileId) → IsExact (g.language file)
  -- they have one bad column at most
  pub one_header_column : (file : FileId) (line : List ℕ) (a b : ℕ)
      → (g.language file).bad_header line a → (g.language file).bad_header line b → a ≡ b
  pub one_column : (file : FileId) (k : K) (line : List ℕ) (a b : ℕ)
      → (g.language file).bad_line k line a → (g.language file).bad_line k line b → a ≡ b
  -- the own check refuses in one way at most
  pub one_own : (file : FileId) (done : List (List T)) (mine : List T) (x : T) (r q : Refusal)
      → g.rules.own file done mine x r → g.rules.own file done mine x q → r ≡ q

-- a sink of the items of such files, with what it was told
pub record IsFileSink {P K T : Type 0} (g : Format K T) (heard : Heard P T) (sink : SinkMeaning P T)
    : Type 0 where
  -- lines say one thing at most, and are refused in one way at most
  pub lawful : Lawful g
  -- it may be told what a line spells
  pub fits : (file : FileId) → Fits (g.language file) sink.fits
  -- what it takes it was told, and isn't refused by the rules; what it refuses is
  pub hears : Hears sink.takes sink.refuses heard g.rules.own
  -- past the end of a file, what that file said is what a file before said
  pub turned : (old new : P) (done : List (List T)) (mine : List T) → heard old done mine
      → sink.turns old new → heard new (done ++ mine ∷ []) []
  -- where a file ends it is refused by the rules
  pub ended : (s : P) (file : FileId) (done : List (List T)) (mine : List T) → heard s done mine
      → sink.ends s file ≡ g.rules.bare file mine

-- sinks of the files of a stage, in whatever state the first file was begun
abbrev pub AreTakers : {P G K T : Type 0} → (G → Language K T) → Stage P G T → SinkMeaning P T
    → Type 0
AreTakers {P} language stage sink =
    (begun : P) → IsFileSink (format_in language stage begun) (stage.heard begun) sink
