-- The parameters of a query, read one after another, and a query by its kind and its values.
use Rattle.std.proofs.Common.{◌≡◌, ◌+◌, ℕ, List, [], ◌∷◌, map, refl, sym, subst, inl, inr}
use Rattle.serde_json.specs.Data.{Data}
use Rattle.serde_json.specs.View.{view}
use Rattle.serde_json.specs.declared.value.Value.{Value as Json}
use Rattle.snb_schema.specs.declared.column.Column.{Column}
use Rattle.snb_schema.specs.declared.column.Value.{Value}
use Rattle.snb_schema.specs.declared.query.Query.{Query}
use Rattle.snb_schema.specs.declared.query.ReadKind.{ReadKind}
use Rattle.snb_schema.specs.ReadKinds.{read_kind_of, parameter_columns, parameter_values}
use Rattle.snb_input_fields.proofs.Laws.{one_query}
use Rattle.snb_input_fields.specs.Fields.{StopsIn}
use Rattle.snb_validation_cases.specs.Parameters.{AreParameters, IsParameter, JsonReading, json_meaning}
use Rattle.snb_validation_cases.specs.Values.{AreAlong, IsArray}
use Rattle.snb_validation_cases.proofs.OneFacts.{along_one, parameter_one}
use Rattle.snb_validation_cases.proofs.ValueFacts.{array_all}

-- where the reading stops, the values that were left are no parameters
pub stops_along : (cs : List Column) (ds : List Json) (s : JsonReading) (number : ℕ) → s.left ≡ ds → StopsIn json_meaning s cs number → (vs : List Value) → ¬ AreAlong IsParameter cs (map view ds) vs
stops_along [] ds s number e r vs h = r
stops_along (c ∷ cs) (d ∷ ds) s number e (inl (none, is)) (v ∷ vs) h = none v (record { left = ds; read = s.read + 1 }) (d, e, refl, h.0)
stops_along (c ∷ cs) (d ∷ ds) s number e (inr (w, next, (a, is, read, p), r)) (v ∷ vs) h =
    let others : next.left ≡ ds = cc in
    stops_along cs ds next number others r vs h.1
stops_along cs ds s number e r vs h = h

-- parameters are those of one query of a kind
query_of_one : (ds : List Data) (a b : Query) → read_kind_of a ≡ read_kind_of b → AreParameters ds a → AreParameters ds b → a ≡ b
query_of_one ds a b alike x y =
    one_query a b alike
    (along_one IsParameter parameter_one (parameter_columns (read_kind_of a)) ds (parameter_values a) (parameter_values b) x
    (subst (λ (k : ReadKind). AreAlong IsParameter (parameter_columns k) ds (parameter_values b)) (sym alike) y))

pub query_one : (d : Data) (a b : Query) → read_kind_of a ≡ read_kind_of b → IsArray AreParameters d a → IsArray AreParameters d b → a ≡ b
query_one d a b alike x (ds, is, all) = query_of_one ds a b alike (array_all AreParameters d ds a is x) all
