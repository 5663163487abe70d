use Rattle.std.proofs.Common.{◌≡◌, ◌++◌, take}
use Rattle.snb_inserts.proofs.ListRows.{words}
use Rattle.snb_inserts.proofs.rows.put_words.Given as goal

-- the words so far are appended
abbrev pub invariant-loop-text : goal.invariant-loop-text
invariant-loop-text l = l.rows.items ≡ l.initial.rows.items ++ words l.table l.person (take l.text-index l.texts)
