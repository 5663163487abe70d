-- Laws of the files of update streams and of parameters.
use Rattle.std.specs.Prelude.{◌≡◌, ℕ, Contains, List, length, IsUtf8, false, Option, Some, None}
use Rattle.snb_schema.specs.declared.file.FileKind.{FileKind}
use Rattle.snb_schema.specs.declared.op.Line.{Line}
use Rattle.snb_schema.specs.declared.query.Query.{Query}
use Rattle.snb_schema.specs.Lines.{HasNoEnd, begins_with_mark, fields, lines}
use Rattle.snb_schema.specs.ParameterLines.{IsParams, query_columns}
use Rattle.snb_schema.specs.UpdateLines.{IsLine}
use Rattle.snb_schema.specs.InsertLines.{kind_of}
use Rattle.snb_input_lines.specs.Files.{AreEach, AreUnder}
use Rattle.snb_input_lines.specs.Laws.{ReadsOn, ReadsOnce}
use Rattle.snb_input_lines.specs.Reading.{Says}
use Rattle.snb_streams.specs.Lines.{stream_language}
use Rattle.snb_streams.specs.Order.{FallsBehind, Follows}
use Rattle.snb_streams.specs.Parameters.{params_language}
use Rattle.snb_streams.specs.Updates.{allowed_in}

-- the line of this number is that of the insert, which has its number, and this kind of stream has
-- inserts of its kind
pub record IsStreamLine (kind : FileKind) (number : ℕ) (line : List ℕ) (x : Line) : Type 0 where
  pub numbered : x.number ≡ number
  pub is_line : IsLine line x.t x.t_d x.op
  pub allowed : Contains (allowed_in kind) (kind_of x.op)

-- the inserts that a stream says, from its first line to its last, are those of its lines with a
-- byte, in order
abbrev pub StreamFiles : Type 0
StreamFiles = (kind : FileKind) (bytes : List ℕ) (inserts : List Line) (new : Option (Unit {0}))
    → Says (stream_language kind) (Some tt) 0 (lines bytes) inserts new
    → AreEach (IsStreamLine kind) 0 (lines bytes) inserts

-- lines say one list of inserts at most, and where they say one none of them is refused; nor is one
-- out of order where t never falls
abbrev pub OneStreamReading : Type 0
OneStreamReading =
    (kind : FileKind) → ReadsOnce (stream_language kind)
    × ReadsOn (stream_language kind) Follows FallsBehind

-- the line is a header for the query: one line of UTF-8 without a byte order mark, of which only
-- the number of fields counts
pub record IsParamsHeader (q : ℕ) (line : List ℕ) : Type 0 where
  pub text : IsUtf8 line
  pub unmarked : begins_with_mark line ≡ false
  pub one_line : HasNoEnd line
  pub wide : length (fields line) ≡ length (query_columns q)

-- the queries that a parameter file says, from its first line to its last, are those of its data
-- lines in order, under a header
abbrev pub ParamsFiles : Type 0
ParamsFiles = (q : ℕ) (bytes : List ℕ) (queries : List Query)
    → Says (params_language q) None 0 (lines bytes) queries (Some tt)
    → AreUnder (IsParamsHeader q) (λ number line one. IsParams q line one) (lines bytes) queries

-- lines say one list of queries at most, and where they say one none of them is refused
abbrev pub OneParamsReading : Type 0
OneParamsReading = (q : ℕ) → ReadsOnce (params_language q)
