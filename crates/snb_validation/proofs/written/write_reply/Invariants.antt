use Rattle.std.proofs.Common.{◌≡◌, ◌++◌, drop, take}
use Rattle.snb_validation.specs.Laws.{AreOfTypes}
use Rattle.snb_validation.specs.ReplyData.{array_of, cell_data, reply_data}
use Rattle.snb_validation.specs.Written.{data_tokens}
use Rattle.snb_validation.proofs.WrittenFacts.{rest_tokens}
use Rattle.snb_validation.proofs.written.write_reply.Given as goal

abbrev pub invariant-answers : goal.invariant-answers
invariant-answers l = record {
  written : l.to.tokens ++ rest_tokens (array_of (array_of cell_data)) (drop l.answer-index l.answer-items) ≡ l.fn.to.tokens ++ data_tokens (reply_data l.answer-items);
  before : l.to.before ≡ l.fn.to.before;
  types : AreOfTypes (take l.answer-index l.answer-items);
}
