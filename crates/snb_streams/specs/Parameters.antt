-- What the lines of a parameter file say.
use Rattle.std.specs.Prelude.{◌≡◌, ◌≢◌, ℕ, List, [], ◌∷◌, length, true, None}
use Rattle.snb_base.specs.FirstOf.{FirstOf}
use Rattle.snb_schema.specs.declared.file.FileId.{FileId}
use Rattle.snb_schema.specs.declared.file.FileKind.TheVariants.{Params}
use Rattle.snb_schema.specs.declared.query.Query.{Query}
use Rattle.snb_schema.specs.Lines.{fields}
use Rattle.snb_schema.specs.ParameterLines.{IsBadQuery, SpellsQuery, query_columns}
use Rattle.snb_schema.specs.Queries.{IsComplex}
use Rattle.snb_input_lines.specs.Language.{Language}

-- the file of the parameters of the query of this number
abbrev pub params_file : ℕ → FileId
params_file q = record { kind = Params q; part = 0 }

-- these fields are no parameters of the query, in this column first: 0 where its number isn't one
-- of the seven, else that of its fields
abbrev pub IsBadParams : ℕ → List (List ℕ) → ℕ → Type 0
IsBadParams q fs column = FirstOf ((λ c. ¬ IsComplex q × (c ≡ 0)) ∷ IsBadQuery q fs ∷ []) column

-- of the header only the number of fields counts, and the fields of each later line spell a query
-- of the number, which is one of the seven
abbrev pub params_language : ℕ → Language (Unit {0}) Query
params_language q = record {
  begins = None;
  splits = true;
  heads = λ line known. length (fields line) ≡ length (query_columns q);
  bad_header = λ line column. (length (fields line) ≢ length (query_columns q)) × (column ≡ 0);
  spells = λ known number line one. IsComplex q × SpellsQuery q (fields line) one;
  bad_line = λ known line column. IsBadParams q (fields line) column;
}
