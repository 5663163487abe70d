use Rattle.std.proofs.Common.{◌≤◌, ◌<◌, [], drop, length, false}
use Rattle.snb_base.specs.Reads.{IsShelfRead}
use Rattle.snb_schema.specs.declared.limits.TheConstants.{MAX_BYTES}
use Rattle.snb_input_lines.specs.Counts.{IsUnder}
use Rattle.snb_input_files.specs.Format.{format_in}
use Rattle.snb_input_files.specs.Stages.{before}
use Rattle.snb_input_files.proofs.StageFacts.{Staged}
use Rattle.snb_input_files.proofs.walk.walk_stage.Given as goal

-- the series before this one were walked, and the shelf has changed nothing
abbrev pub invariant-loop-series : goal.invariant-loop-series
invariant-loop-series g l = record {
  staged :
      (g.P.FileSink.stage.heard l.fn.file_sink) l.fn.file_sink [] []
      → Staged (format_in g.G.Grammar.language g.P.FileSink.stage l.fn.file_sink) (g.P.FileSink.stage.heard l.fn.file_sink) (g.S.Shelf.contents l.fn.shelf) l.folder l.stage (before l.fn.used) (drop l.series-index l.stage) l.so_far;
  bytes : l.so_far.used.bytes ≤ MAX_BYTES;
  rows : IsUnder g.P.FileSink.stage.limit l.so_far.used.rows;
  room : 0 < length l.buffer.items;
  read : IsShelfRead false g.S.Shelf l.fn.shelf l.shelf;
}
