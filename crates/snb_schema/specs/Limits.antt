-- The limits of the profile, as numbers.
use Rattle.std.specs.Prelude.{◌≡◌}
use Rattle.snb_schema.specs.declared.limits.TheConstants as limits

-- what each limit is
pub record LimitsAreThese : Type 0 where
  pub time : limits.MAX_TIME ≡ 253402300799999
  pub id : limits.MAX_ID ≡ 9223372036854775807
  pub year : limits.MAX_YEAR ≡ 9999
  pub length : limits.MAX_LENGTH ≡ 2147483647
  pub at : limits.MAX_AT ≡ 9223372036854775807
  pub bytes : limits.MAX_BYTES ≡ 268435456
  pub rows : limits.MAX_ROWS ≡ 2000000
  pub lanes : limits.MAX_LANES ≡ 256
  pub parts : limits.MAX_PARTS ≡ 1000
  pub reads : limits.MAX_READS ≡ 200000
  pub frequency : limits.MAX_FREQUENCY ≡ 1000000
  pub workers : limits.MAX_WORKERS ≡ 8
  pub words : limits.MAX_WORDS ≡ 1000
  pub trial : limits.MAX_TRIAL ≡ 5000
