use Rattle.std.proofs.Common.{◌≡◌, ◌+◌, ◌≤◌, [], length}
use Rattle.snb_schema.specs.declared.limits.TheConstants.{MAX_BYTES}
use Rattle.snb_input_lines.proofs.RunFacts.{Coming}
use Rattle.snb_input_lines.proofs.progress.take_lines.Given as goal

-- the lines before what is left are read
abbrev pub invariant-loop-row : goal.invariant-loop-row
invariant-loop-row g l = record {
  splits : l.text.splits ≡ (g.G.Grammar.language l.of.grammar).splits;
  begun : l.at.begun.items ≡ [];
  room : l.at.ended + length l.text.text ≤ MAX_BYTES;
  coming : Coming (g.G.Grammar.language l.of.grammar) g.S.Sink.meaning.takes l.of.file l.fn.at.known l.fn.at.ended l.fn.text.text l.fn.sink l.at.known l.at.ended l.text.text l.sink;
}

abbrev pub decreases-loop-row : goal.decreases-loop-row
decreases-loop-row g l = length l.text.text
