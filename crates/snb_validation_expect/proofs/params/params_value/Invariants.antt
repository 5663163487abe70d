-- The values of the parameters so far.
use Rattle.std.proofs.Common.{◌≡◌, map, take}
use Rattle.serde_json.specs.View.{view}
use Rattle.snb_input_fields.specs.Cells.{value_of}
use Rattle.snb_validation_model.specs.CaseTexts.{parameter_data}
use Rattle.snb_validation_expect.proofs.params.params_value.Given as goal

abbrev pub invariant-loop-cell : goal.invariant-loop-cell
invariant-loop-cell l =
    map view l.values.items ≡ map (λ c. parameter_data (value_of c)) (take l.cell-index l.cell-items)
