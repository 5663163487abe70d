-- The value of a case has no float, and nests seven deep at most.
use Rattle.std.proofs.Common.{◌≡◌, ◌≤◌, List, [], ◌∷◌, map, false, refl, arith}
use Rattle.serde_json.specs.Data.{depth, items_depth}
use Rattle.serde_json.specs.Read.{max_depth}
use Rattle.serde_json.specs.View.{items_of}
use Rattle.serde_json.specs.Written.{has_float}
use Rattle.snb_schema.specs.declared.column.Value.{Value}
use Rattle.snb_schema.specs.declared.column.Value.TheVariants as value
use Rattle.snb_schema.specs.declared.query.Query.{Query}
use Rattle.snb_schema.specs.ReadKinds.{parameter_values}
use Rattle.snb_read_model.specs.Cells.{ByteCell}
use Rattle.snb_validation.specs.ReplyData.{array_of}
use Rattle.snb_validation.proofs.Laws.{reply_low, reply_plain}
use Rattle.snb_validation_cases.specs.declared.case.Case.TheVariants.{Ask}
use Rattle.snb_validation_model.specs.CaseTexts.{case_data, parameter_data}

parameter_plain : (v : Value) → has_float (parameter_data v) ≡ false
parameter_plain (value.Digits n) = refl
parameter_plain (value.SmallDigits n) = refl
parameter_plain (value.Letters text) = refl
parameter_plain v = refl

parameters_plain : (vs : List Value) → has_float (array_of parameter_data vs) ≡ false
parameters_plain [] = refl
parameters_plain (v ∷ vs) = rw (parameter_plain v) (parameters_plain vs)

parameter_low : (v : Value) → depth (parameter_data v) ≤ 0
parameter_low (value.Digits n) = omega arith
parameter_low (value.SmallDigits n) = omega arith
parameter_low (value.Letters text) = omega arith
parameter_low v = omega arith

parameters_low : (vs : List Value) → items_depth (items_of (map parameter_data vs)) ≤ 0
parameters_low [] = omega arith
parameters_low (v ∷ vs) = omega (arith, parameter_low v, parameters_low vs)

pub ask_plain : (query : Query) (reply : List (List (List ByteCell))) → has_float (case_data (Ask query reply)) ≡ false
ask_plain query reply = rw (parameters_plain (parameter_values query), reply_plain reply) refl

pub ask_low : (query : Query) (reply : List (List (List ByteCell))) → depth (case_data (Ask query reply)) ≤ max_depth
ask_low query reply = omega (arith, parameters_low (parameter_values query), reply_low reply)
