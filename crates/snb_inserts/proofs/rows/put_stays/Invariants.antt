use Rattle.std.proofs.Common.{◌≡◌, ◌++◌, take}
use Rattle.snb_inserts.proofs.ListRows.{stays}
use Rattle.snb_inserts.proofs.rows.put_stays.Given as goal

-- the edges so far are appended
abbrev pub invariant-loop-end : goal.invariant-loop-end
invariant-loop-end l = l.rows.items ≡ l.initial.rows.items ++ stays l.table l.from (take l.end-index l.ends)
