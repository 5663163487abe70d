-- A read by its kind and the values of its parameters.
use Rattle.std.proofs.Common.{◌≡◌, List, Option, Some, None, rules}
use Rattle.std.proofs.lemmas.Option.{same_Some}
use Rattle.std.specs.Option.{option_map}
use Rattle.snb_schema.specs.declared.column.Value.{Value}
use Rattle.snb_schema.specs.declared.query.Query.{Query}
use Rattle.snb_schema.specs.declared.query.ReadKind.{ReadKind}
use Rattle.snb_schema.specs.ReadKinds.{query_with, read_kind_of, parameter_columns, parameter_values}
use Rattle.snb_input_fields.proofs.TypedRows.{TypedRow, row_values}

-- reads of one kind with the same parameters are one
pub one_query : (a b : Query) → read_kind_of a ≡ read_kind_of b → parameter_values a ≡ parameter_values b → a ≡ b
one_query a b kinds values = search rules

-- what the columns of a kind hold makes a read of it, with these parameters
made_kind : (kind : ReadKind) (row : TypedRow (parameter_columns kind)) → option_map read_kind_of (query_with kind (row_values (parameter_columns kind) row)) ≡ Some kind
made_kind kind row = search rules

made_values : (kind : ReadKind) (row : TypedRow (parameter_columns kind)) → option_map parameter_values (query_with kind (row_values (parameter_columns kind) row)) ≡ Some (row_values (parameter_columns kind) row)
made_values kind row = search rules

made : (kind : ReadKind) (values : List Value) (found : Option Query) → option_map read_kind_of found ≡ Some kind → option_map parameter_values found ≡ Some values → (query : Query) × (read_kind_of query ≡ kind) × (parameter_values query ≡ values)
made kind values None is has = absurd cc
made kind values (Some query) is has = (query, same_Some (read_kind_of query) kind is, same_Some (parameter_values query) values has)

pub typed_query : (kind : ReadKind) (row : TypedRow (parameter_columns kind)) → (query : Query) × (read_kind_of query ≡ kind) × (parameter_values query ≡ row_values (parameter_columns kind) row)
typed_query kind row = made kind (row_values (parameter_columns kind) row) (query_with kind (row_values (parameter_columns kind) row)) (made_kind kind row) (made_values kind row)
