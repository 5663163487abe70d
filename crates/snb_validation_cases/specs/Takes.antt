-- Values that are taken off the front of the tokens of a text.
use Rattle.std.specs.Prelude.{◌≡◌, ◌≤◌, ℕ, List, [], ◌∷◌, ◌++◌, Some, codes}
use Rattle.std.specs.List.{AllZip}
use Rattle.json.specs.Token.{Token, begin_array, key, string}
use Rattle.json.specs.Json.{Json}
use Rattle.json.specs.Tree.{json_tokens, depth}
use Rattle.serde_json.specs.Data.{Data}
use Rattle.serde_json.specs.Read.{of_json}
use Rattle.snb_schema.specs.declared.query.Query.{Query}
use Rattle.snb_schema.specs.ReadKinds.{read_kind_of, read_word}
use Rattle.snb_read_model.specs.Cells.{ByteCell}
use Rattle.snb_validation_cases.specs.Parameters.{AreParameters}
use Rattle.snb_validation_cases.specs.Replies.{IsReplyData}
use Rattle.snb_validation_cases.specs.declared.case.Case.{Case}
use Rattle.snb_validation_cases.specs.declared.case.Case.TheVariants.{Insert, Ask}
use Rattle.snb_validation_cases.specs.Cases.{IsInsertLine}
use Rattle.snb_validation_cases.specs.Values.{IsArray}

-- `serde_json` makes this value of the JSON, which nests no deeper than `most`
abbrev pub Makes : ℕ → Json → Data → Type 0
Makes most j d = (of_json j ≡ Some d) × (depth j ≤ most)

-- the first of the old tokens are those of a value that is so, and the new ones are left
pub record Takes (most : ℕ) (P : Data → Type 0) (old new : List Token) : Type 0 where
  pub json : Json
  pub value : Data
  pub first : old ≡ json_tokens json ++ new
  pub makes : Makes most json value
  pub is : P value

-- the tokens of some values, one after another
abbrev pub tokens_of : List Json → List Token
tokens_of [] = []
tokens_of (j ∷ js) = json_tokens j ++ tokens_of js

-- the first of the old tokens are those of some values that together are so, and the new ones are left
pub record TakesEach (most : ℕ) (P : List Data → Type 0) (old new : List Token) : Type 0 where
  pub jsons : List Json
  pub values : List Data
  pub first : old ≡ tokens_of jsons ++ new
  pub makes : AllZip (Makes most) jsons values
  pub are : P values

-- the same after an opening bracket
abbrev pub TakesSome : ℕ → (List Data → Type 0) → List Token → List Token → Type 0
TakesSome most P old new =
    (inside : List Token) × (old ≡ begin_array ∷ inside) × TakesEach most P inside new

-- the first of the old tokens are those of a read's parameters, of the key and the word of its kind,
-- and of the key of a reply and a reply to it
pub record TakesAsk (query : Query) (reply : List (List (List ByteCell))) (old new : List Token)
    : Type 0 where
  pub after_params : List Token
  pub before_reply : List Token
  pub params : Takes 1 (λ d. IsArray AreParameters d query) old after_params
  pub between : after_params
      ≡ key (codes "read") ∷ string (read_word (read_kind_of query)) ∷ key (codes "reply") ∷ before_reply
  pub reply_is : Takes 5 (λ d. IsReplyData query d reply) before_reply new

-- the first of the old tokens are those of the members of a case
abbrev pub TakesMembers : Case → List Token → List Token → Type 0
TakesMembers (Insert line) old new =
    (inside : List Token) × (old ≡ key (codes "insert") ∷ inside)
    × Takes 0 (λ d. IsInsertLine d line) inside new
TakesMembers (Ask query reply) old new =
    (inside : List Token) × (old ≡ key (codes "params") ∷ inside) × TakesAsk query reply inside new
