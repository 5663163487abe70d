-- The pieces so far, with the one at hand, are the text of the replies so far.
use Rattle.std.proofs.Common.{◌≡◌, ◌++◌}
use Rattle.snb_tool_texts.specs.Answers.{answers_text, bytes_in}
use Rattle.snb_tool_texts.proofs.answers.answer_pieces.Given as goal

abbrev pub invariant-loop-one : goal.invariant-loop-one
invariant-loop-one l = bytes_in l.pieces.items ++ l.piece.items ≡ answers_text l.yielded
