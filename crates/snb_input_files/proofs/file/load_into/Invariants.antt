use Rattle.std.proofs.Common.{◌≡◌, ◌-◌, ◌≤◌, ◌<◌, length, None, false}
use Rattle.snb_base.specs.Reads.{IsShelfRead}
use Rattle.snb_input_files.specs.Format.{format_in}
use Rattle.snb_input_files.proofs.Going.{Going, first}
use Rattle.snb_input_files.proofs.file.load_into.Given as goal

-- the reader was fed the first bytes of the file, and the shelf has changed nothing
abbrev pub invariant-pieces : goal.invariant-pieces
invariant-pieces g l = record {
  going :
      (begun : g.row.P.Denot) → Going (format_in g.G.Grammar.language g.P.FileSink.stage begun) (g.P.FileSink.stage.heard begun) g.P.Sink.meaning.takes l.file (g.P.FileSink.stage.grammar_of l.file) (g.S.Shelf.contents l.fn.shelf) l.path
      (first (format_in g.G.Grammar.language g.P.FileSink.stage begun) (g.P.FileSink.stage.heard begun) g.P.Sink.meaning.takes l.file (g.P.FileSink.stage.grammar_of l.file) l.used.rows l.fn.file_sink) l.reader l.sink;
  of_file : l.reader.file ≡ l.file;
  by_grammar : l.reader.grammar ≡ g.P.FileSink.stage.grammar_of l.file;
  few : l.reader.fed ≤ l.most;
  goes_on : l.reader.over ≡ false;
  good : l.reader.fault ≡ None;
  room : 0 < length l.buffer;
  read : IsShelfRead false g.S.Shelf l.fn.shelf l.shelf;
}

abbrev pub decreases-pieces : goal.decreases-pieces
decreases-pieces g l = l.most - l.reader.fed
