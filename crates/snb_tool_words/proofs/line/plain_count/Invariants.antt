-- The words so far are plain.
use Rattle.std.proofs.Common.{All, take}
use Rattle.snb_tool_words.specs.Words.{IsPlainWord}
use Rattle.snb_tool_words.proofs.line.plain_count.Given as goal

abbrev pub invariant-loop-i : goal.invariant-loop-i
invariant-loop-i l = All (λ word. IsPlainWord word.now) (take l.i l.words)
