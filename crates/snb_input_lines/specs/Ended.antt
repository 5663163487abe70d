-- The lines of a text that are ended, and what is left of it. Cited by contracts of private
-- functions alone.
use Rattle.std.specs.Prelude.{◌≡◌, ◌≢◌, ◌++◌, ◌∷◌, ℕ, Bool, true, All, IsUtf8, List, [], Option, None, Some}
use Rattle.csv.specs.declared.reader.Reader.{Reader}
use Rattle.snb_schema.specs.Lines.{HasNoEnd}
use Rattle.snb_input_lines.specs.Bars.{MayStand, PieceChain}
use Rattle.snb_input_lines.specs.Cut.{whole_lines}

-- what is left: its bytes, whether lines are split at their bars, and whether each line that is
-- ended is known to be UTF-8
pub record Left : Type 0 where
  pub text : List ℕ
  pub splits : Bool
  pub is_utf8 : Bool

-- where there is a reader, it stands before this text, unless it failed
abbrev pub AnyStands : Option (Reader PieceChain) → List ℕ → Type 0
AnyStands None text = Unit {0}
AnyStands (Some s) text = MayStand s text

-- each line that is ended is UTF-8, where that is known
abbrev pub AreUtf8 : Bool → List ℕ → Type 0
AreUtf8 known text = known ≡ true → All IsUtf8 (whole_lines text)

-- what is known of a text that is left, of which the first line may be apart, without its end
pub record IsLeft (reader : Option (Reader PieceChain)) (first rest : List ℕ) (known : Bool)
    : Type 0 where
  pub stands : AnyStands reader (first ++ rest)
  pub one_line : HasNoEnd first
  pub ends : first ≢ [] → (others : List ℕ) × (rest ≡ 10 ∷ others)
  pub utf8 : AreUtf8 known (first ++ rest)
