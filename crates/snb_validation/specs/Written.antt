-- What is written of a reply, a value at a time. Cited by contracts of private functions alone.
use Rattle.std.specs.Prelude.{◌≡◌, ◌++◌, List, OnOk, Result}
use Rattle.json.specs.Token.{Token}
use Rattle.json.specs.Tree.{json_tokens}
use Rattle.json.specs.Written.{Written}
use Rattle.serde_json.specs.Data.{Data}
use Rattle.serde_json.specs.Written.{outline}

-- the tokens of a value
abbrev pub data_tokens : Data → List Token
data_tokens d = json_tokens (outline d)

-- the value's tokens are appended, and what the buffer held before the writer stays, also on an
-- error
pub record WritesData {E : Type 0} (r : Result (Unit {0}) E) (old new : Written) (d : Data)
    : Type 0 where
  pub ok : OnOk r (new.tokens ≡ old.tokens ++ data_tokens d)
  pub before : new.before ≡ old.before
