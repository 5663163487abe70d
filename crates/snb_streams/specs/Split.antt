-- The fields of a text. Cited by contracts of private functions alone.
use Rattle.std.specs.Prelude.{◌≡◌, ℕ, All, IsUtf8, List, false}
use Rattle.snb_schema.specs.Lines.{HasNoEnd, begins_with_mark, fields}

-- the text is one line of UTF-8 without a byte order mark, and these are its fields
pub record IsSplit (text : List ℕ) (fs : List (List ℕ)) : Type 0 where
  pub utf8 : IsUtf8 text
  pub unmarked : begins_with_mark text ≡ false
  pub one_line : HasNoEnd text
  pub split : fs ≡ fields text
  pub texts : All IsUtf8 fs
