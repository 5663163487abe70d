-- What of an array is still to be written.
use Rattle.std.proofs.Common.{List, map}
use Rattle.json.specs.Token.{Token}
use Rattle.json.specs.Tree.{items_tokens}
use Rattle.serde_json.specs.Data.{Data}
use Rattle.serde_json.specs.View.{items_of}
use Rattle.serde_json.specs.Written.{items_outline}

-- the tokens of such values, with the bracket that ends their array
abbrev pub rest_tokens : {X : Type 0} → (X → Data) → List X → List Token
rest_tokens f xs = items_tokens (items_outline (items_of (map f xs)))
