use Rattle.std.proofs.Common.{◌≡◌, ◌++◌, map, take}
use Rattle.snb_schema.specs.Columns.{pair_text}
use Rattle.std.specs.List.{join_with_byte}
use Rattle.snb_input_fields.proofs.write.put_pairs.Given as goal

abbrev pub invariant-loop-i : goal.invariant-loop-i
invariant-loop-i l = l.line.items ≡ l.fn.line.items ++ join_with_byte 59 (map pair_text (take l.i l.pairs))
