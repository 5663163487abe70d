-- Each line of the streams is a data line.
use Rattle.std.proofs.Common.{◌≡◌, ◌+◌, List, [], ◌∷◌, Some, length, refl, sym, subst, arith}
use Rattle.std.proofs.lemmas.List.{length-append}
use Rattle.std.specs.List.{flat_map}
use Rattle.snb_schema.specs.declared.op.Line.{Line}
use Rattle.snb_schema.specs.Lines.{lines}
use Rattle.snb_streams.specs.Lines.{stream_language}
use Rattle.snb_input_files.specs.declared.load.Used.{Used}
use Rattle.snb_input_files.specs.declared.series.Series.{Series}
use Rattle.snb_input_files.specs.declared.walk.Walk.{Walk}
use Rattle.snb_input_files.specs.Places.{FilesSay, ReadFile, counted_rows}
use Rattle.snb_input_files.specs.Stages.{Walked, before}
use Rattle.snb_input_files.specs.Walk.{Before, Held, Look, after_walk, stage_looks}
use Rattle.snb_input_files.proofs.Laws.{says_count}
use Rattle.snb_loader.specs.Lanes.{IsHeard, StreamLines, stream_format}
use Rattle.snb_loader.proofs.PastFacts.{data_count, stage_read}

-- lists of lines, one after the other
abbrev pub concat : List (List Line) → List Line
concat lists = flat_map (λ lines. lines) lists

-- files say a line for each of their lines that has a byte
files_count : (ss : List ReadFile) (xss : List (List Line)) → FilesSay stream_format ss xss → length (concat xss) ≡ data_count stream_format ss
files_count [] [] h = refl
files_count [] (xs ∷ xss) h = absurd h
files_count (s ∷ ss) [] h = absurd h
files_count (s ∷ ss) (xs ∷ xss) h =
    let both = length-append xs (concat xss) in
    let here : length xs ≡ counted_rows stream_format s.file (lines s.bytes) = says_count (stream_language s.file.kind) (lines s.bytes) (Some tt) (Some h.0.0) 0 xs h.0.1 in
    let more = files_count ss xss h.1 in
    omega (arith, both, here, more)

-- what the file_sink has are the lists that the files say
pub said_by : (at : Before) (looked : List Look) (w : Walk StreamLines) → Walked stream_format IsHeard at looked w → FilesSay stream_format (after_walk stream_format at looked).past w.file_sink.done
said_by at looked w k = subst (λ (xss : List (List Line)). FilesSay stream_format (after_walk stream_format at looked).past xss) (sym k.fresh.0) k.said

-- a stage of one series counts the lines that were taken
pub walk_count : (s : Series) (used : Used) (held : Held) (w : Walk StreamLines) → Walked stream_format IsHeard (before used) (stage_looks held (s ∷ [])) w → w.used.rows ≡ used.rows + length (concat w.file_sink.done)
walk_count s used held w k =
    let grown = stage_read stream_format held s (before used) in
    let lines_are = files_count grown.more w.file_sink.done (subst (λ (ss : List ReadFile). FilesSay stream_format ss w.file_sink.done) grown.past (said_by (before used) (stage_looks held (s ∷ [])) w k)) in
    let rows = grown.rows in
    let are = k.rows_are in
    omega (arith, lines_are, rows, are)
