-- What other crates may cite of this one.
pub use Rattle.snb_book.proofs.Claiming.{claim_is_not_stuck}
use Rattle.std.proofs.Common.{arith, FitsSigned, rules, w64, ℕ, ◌+◌, ◌≡◌, ◌≤◌}
use Rattle.std.specs.Prelude.{pos, ℤ, ◌+ℤ◌, ◌-ℤ◌}
use Rattle.std.proofs.lemmas.Int.{ints}
use Rattle.snb_schema.specs.declared.limits.TheConstants.{MAX_TIME}

pub next_time : (z : ℤ) (l : ℕ) → z ≡ pos l -ℤ pos 1 → z +ℤ pos 1 ≡ pos l
next_time z l is = omega (arith, ints)

pub time_fits : (l : ℕ) → l ≤ MAX_TIME + 1 → FitsSigned w64 (pos l)
time_fits l le = search rules
