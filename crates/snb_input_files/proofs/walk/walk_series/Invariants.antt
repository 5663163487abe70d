use Rattle.std.proofs.Common.{◌≤◌, ◌<◌, List, length, false}
use Rattle.snb_base.specs.Reads.{IsShelfRead}
use Rattle.snb_schema.specs.declared.limits.TheConstants.{MAX_BYTES}
use Rattle.snb_input_lines.specs.Counts.{IsUnder}
use Rattle.snb_input_files.specs.Format.{format_in}
use Rattle.snb_input_files.specs.Stages.{Walked}
use Rattle.snb_input_files.specs.Walk.{Before, Look, first_role}
use Rattle.snb_input_files.proofs.SeriesFacts.{Along}
use Rattle.snb_input_files.proofs.walk.walk_series.Given as goal

-- the files before this one were looked for, and the shelf has changed nothing
abbrev pub invariant-loop-part : goal.invariant-loop-part
invariant-loop-part g l = record {
  along :
      (begun : g.row.P.Denot) (start : Before) (looked : List Look)
      → Walked (format_in g.G.Grammar.language g.P.FileSink.stage begun) (g.P.FileSink.stage.heard begun) start looked l.fn.walk
      → Along (format_in g.G.Grammar.language g.P.FileSink.stage begun) (g.P.FileSink.stage.heard begun) (g.S.Shelf.contents l.fn.shelf) l.folder l.series start looked l.part (first_role l.needed) l.so_far;
  bytes : l.so_far.used.bytes ≤ MAX_BYTES;
  rows : IsUnder g.P.FileSink.stage.limit l.so_far.used.rows;
  room : 0 < length l.buffer;
  read : IsShelfRead false g.S.Shelf l.fn.shelf l.shelf;
}
