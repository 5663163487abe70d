use Rattle.std.proofs.Common.{◌≡◌, ◌++◌, take}
use Rattle.snb_inserts.proofs.ListRows.{links}
use Rattle.snb_inserts.proofs.rows.put_links.Given as goal

-- the edges so far are appended
abbrev pub invariant-loop-to : goal.invariant-loop-to
invariant-loop-to l = l.rows.items ≡ l.initial.rows.items ++ links l.table l.from (take l.to-index l.ends)
