-- How `csv` is set up to read the fields of lines, and where it stands. Cited by contracts of
-- private functions alone.
use Rattle.std.specs.Prelude.{◌≡◌, ℕ, true, false, List, [], Option, None, Some}
use Rattle.std.specs.Borrow.{Bor}
use Rattle.std.specs.declared.io.traits.Chain.{Chain}
use Rattle.std.specs.Io.Chain.{chain_remaining}
use Rattle.csv.specs.declared.parser.Config.{Config}
use Rattle.csv.specs.declared.parser.State.TheVariants as st
use Rattle.csv.specs.declared.parser.Terminator.TheVariants as term
use Rattle.csv.specs.declared.reader.Reader.{Reader}
use Rattle.csv.specs.declared.reader.Trim.TheVariants as trim
use Rattle.csv.specs.Machine.{next_record}
use Rattle.csv.specs.Reading.{Ready, has_failed, is_flexible, reader_config, reader_state, reader_trim, source_of}

-- bars between fields, no quoting, lines end at `\n` alone
abbrev pub bar_config : Config
bar_config = record {
  delimiter = 124;
  quote = 34;
  escape = None;
  double_quote = true;
  quoting = false;
  comment = None;
  terminator = term.Any 10;
}

-- what is read from: a line end, and two texts after it
abbrev pub PieceChain : Type 0
PieceChain = Chain (Chain (Bor (List ℕ)) (Bor (List ℕ))) (Bor (List ℕ))

abbrev pub text_of : Bor (List ℕ) → Option (List ℕ)
text_of r = Some r.now

abbrev pub bytes_of : PieceChain → Option (List ℕ)
bytes_of = chain_remaining (chain_remaining text_of text_of) text_of

-- a reader reads lines of fields, and what it has left reads as this text does
pub record Stands (s : Reader PieceChain) (text : List ℕ) : Type 0 where
  pub config : reader_config s ≡ bar_config
  pub plain : reader_trim s ≡ trim.None
  pub any_length : is_flexible s ≡ true
  pub ready : Ready s
  pub starts : reader_state s ≡ st.StartRecord
  pub left : List ℕ
  pub source : source_of bytes_of s ≡ Some left
  pub same : next_record bar_config st.StartRecord [] [] left
      ≡ next_record bar_config st.StartRecord [] [] text

-- a reader stands before this text, unless it failed
abbrev pub MayStand : Reader PieceChain → List ℕ → Type 0
MayStand s text = has_failed s ≡ false → Stands s text
