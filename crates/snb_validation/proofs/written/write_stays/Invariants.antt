use Rattle.std.proofs.Common.{◌≡◌, ◌<◌, ◌^◌, ◌++◌, ℕ, List, drop, take}
use Rattle.std.specs.List.{AllByRecursion}
use Rattle.snb_validation.specs.ReplyData.{array_of, stay_data}
use Rattle.snb_validation.specs.Written.{data_tokens}
use Rattle.snb_validation.proofs.WrittenFacts.{rest_tokens}
use Rattle.snb_validation.proofs.written.write_stays.Given as goal

abbrev pub invariant-stays : goal.invariant-stays
invariant-stays l = record {
  written : l.to.tokens ++ rest_tokens stay_data (drop l.stay-index l.stays) ≡ l.fn.to.tokens ++ data_tokens (array_of stay_data l.stays);
  before : l.to.before ≡ l.fn.to.before;
  types : AllByRecursion (λ (s : List ℕ × ℕ × List ℕ). s.1 < 2 ^ 32) (take l.stay-index l.stays);
}
