use Rattle.std.proofs.Common.{◌≡◌, ◌++◌, drop}
use Rattle.serde_json.specs.Data.{string}
use Rattle.snb_validation.specs.ReplyData.{array_of}
use Rattle.snb_validation.specs.Written.{data_tokens}
use Rattle.snb_validation.proofs.WrittenFacts.{rest_tokens}
use Rattle.snb_validation.proofs.written.write_texts.Given as goal

abbrev pub invariant-texts : goal.invariant-texts
invariant-texts l = record {
  written : l.to.tokens ++ rest_tokens string (drop l.text-index l.texts) ≡ l.fn.to.tokens ++ data_tokens (array_of string l.texts);
  before : l.to.before ≡ l.fn.to.before;
}
