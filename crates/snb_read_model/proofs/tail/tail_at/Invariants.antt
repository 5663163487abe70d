use Rattle.std.proofs.Common.{◌≡◌, drop}
use Rattle.std.specs.List.{fold}
use Rattle.snb_read_model.specs.Tails.{no_tail, with_target}
use Rattle.snb_read_model.proofs.tail.tail_at.Given as goal

abbrev pub invariant-loop-column : goal.invariant-loop-column
invariant-loop-column l =
    fold (with_target l.row) l.tail (drop l.column-index l.columns)
    ≡ fold (with_target l.row) no_tail l.columns
