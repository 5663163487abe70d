-- What the file of a stream and that of parameters say.
use Rattle.std.proofs.Common.{◌≡◌, ◌∙◌, ℕ, List, refl, sym, inl, inr}
use Rattle.snb_schema.specs.declared.file.FileKind.{FileKind}
use Rattle.snb_schema.specs.declared.op.Line.{Line}
use Rattle.snb_schema.specs.declared.query.Query.{Query}
use Rattle.snb_schema.specs.Lines.{HasNoEnd, fields, lines}
use Rattle.snb_schema.specs.ParameterLines.{IsParams}
use Rattle.snb_columns.specs.Laws.{OneList}
use Rattle.snb_input_lines.specs.Language.{IsText}
use Rattle.snb_input_lines.specs.Laws.{IsExact}
use Rattle.snb_input_lines.proofs.Laws.{are_under, each_line, lines_no_end, one_reading, reads_on, under}
use Rattle.snb_streams.specs.FileLaws.{IsParamsHeader, IsStreamLine, OneParamsReading, OneStreamReading, ParamsFiles, StreamFiles}
use Rattle.snb_streams.specs.Laws.{InsertsAreRight, NoBadQuery, OneQuery}
use Rattle.snb_streams.specs.Lines.{stream_language}
use Rattle.snb_streams.specs.Order.{FallsBehind, Follows}
use Rattle.snb_streams.specs.Parameters.{params_language}
use Rattle.snb_streams.specs.Updates.{allowed_in}
use Rattle.snb_streams.proofs.LineFacts.{one_spelled}
use Rattle.snb_streams.proofs.UpdateFacts.{follows_once}
use Rattle.snb_streams.proofs.CaseFacts.{params_to_case}

-- each line of a stream is that of its insert
one_each : (kind : FileKind) (number : ℕ) (line : List ℕ) (x : Line) → HasNoEnd line → IsText line → (stream_language kind).spells tt number line x → IsStreamLine kind number line x
one_each kind number line x ends text s = record {
  numbered = s.number_is;
  is_line = record { text = text.1; unmarked = text.0; one_line = ends; spelled = s.spells.1; of_two = s.spells.2 };
  allowed = s.spells.0;
}

pub stream_files : StreamFiles
stream_files kind bytes inserts new h = (each_line (stream_language kind) (IsStreamLine kind) tt (one_each kind) (lines bytes) 0 inserts new (lines_no_end bytes) h).0

-- a line of a stream is one insert, or has a bad column
exact_stream : OneList → InsertsAreRight → (kind : FileKind) → IsExact (stream_language kind)
exact_stream list right kind = record {
  one_header = λ line k j h g. refl;
  good_header = λ line k column h b. absurd h;
  one_item = λ k number line x y g h.
      let same = one_spelled list (fields line) x.t x.t_d x.op y.t y.t_d y.op g.spells.1 h.spells.1 in
      let numbered : x.number ≡ y.number = g.number_is ∙ sym h.number_is in
      λ i. record { t = same.0 i; t_d = same.1 i; op = same.2 i; number = numbered i };
  good_item = λ k number line x column g b. right (allowed_in kind) (fields line) x.t x.t_d x.op column g.spells b;
}

pub one_stream_reading : OneList → InsertsAreRight → OneStreamReading
one_stream_reading list right kind =
    let exact = exact_stream list right kind in
    (one_reading (stream_language kind) exact, reads_on (stream_language kind) exact Follows FallsBehind follows_once)

-- each data line of a parameter file has the parameters of its query
one_query_each : (q : ℕ) (k : Unit {0}) (number : ℕ) (line : List ℕ) (x : Query) → HasNoEnd line → IsText line → (params_language q).spells k number line x → IsParams q line x
one_query_each q k number line x ends text s = record { text = text.1; unmarked = text.0; one_line = ends; spelled = s.1 }

-- and the header has a field for each of them
own_header : (q : ℕ) (line : List ℕ) (k : Unit {0}) → HasNoEnd line → IsText line → (params_language q).heads line k → IsParamsHeader q line
own_header q line k ends text h = record { text = text.1; unmarked = text.0; one_line = ends; wide = h }

pub params_files : ParamsFiles
params_files q bytes queries h =
    under (IsParamsHeader q) (λ number line one. IsParams q line one) (lines bytes) queries
    (are_under (params_language q) (λ k line. IsParamsHeader q line) (λ k number line one. IsParams q line one) (own_header q) (one_query_each q) (lines bytes) 0 queries tt (lines_no_end bytes) h)

-- a line of parameters is one query, or has a bad column
exact_params : OneQuery → NoBadQuery → (q : ℕ) → IsExact (params_language q)
exact_params one right q = record {
  one_header = λ line k j h g. refl;
  good_header = λ line k column h b. b.0 h;
  one_item = λ k number line x y g h. one q (fields line) x y g.0 g.1 h.1;
  good_item = λ k number line x column g b. elim (params_to_case q (fields line) column b) [ inl bad ↦ right q (fields line) x column g.1 bad.1 | inr other ↦ other.0 g.0 ];
}

pub one_params_reading : OneQuery → NoBadQuery → OneParamsReading
one_params_reading one right q = one_reading (params_language q) (exact_params one right q)
