-- So far there are digits alone, and the number goes on from `value` with the digits that are left.
use Rattle.std.proofs.Common.{◌≡◌, ◌<◌, ◌^◌, drop}
use Rattle.std.specs.List.{AllByRecursion}
use Rattle.snb_base.specs.Calendar.{IsDigit}
use Rattle.snb_base.specs.Spellings.{value_after}
use Rattle.snb_ratio.proofs.ratio.read_part.Given as goal

abbrev pub invariant-loop-digit : goal.invariant-loop-digit
invariant-loop-digit l =
    (l.value < 10 ^ l.digit-index)
    × (value_after l.value (drop l.digit-index l.text) ≡ value_after 0 l.text)
    × (AllByRecursion IsDigit (drop l.digit-index l.text) → AllByRecursion IsDigit l.text)
