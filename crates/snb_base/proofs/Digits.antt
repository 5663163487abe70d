-- Decimal digits and the number that they make.
use Rattle.std.proofs.Common.{◌≡◌, ℕ, ◌^◌, ◌<◌, ◌≤◌, zero, suc, List, length, get_or, rules, arith, lit<, sym, ◌∙◌, ap}
use Rattle.std.proofs.lemmas.Fmt.{digits_decimal, digits_value-decimal, decimal_nonempty, length-decimal-le, first_decimal, decimal_digit, decimal-digits_value}
use Rattle.std.proofs.lemmas.Str.Parse.{IsNumeralModel, numerals_by_fold, digits_value_short}
use Rattle.std.proofs.Math.Nat.{pow-le-pow_right}
use Rattle.std.specs.Fmt.{decimal}
use Rattle.std.specs.List.{AllByRecursion}
use Rattle.snb_base.specs.Calendar.{IsDigit}
use Rattle.snb_base.specs.Spellings.{Num, value_after}

-- these digits and their value are those of the library's lemmas
pub own_digits : IsNumeralModel (AllByRecursion IsDigit) (value_after 0)
own_digits = numerals_by_fold _ (search rules) value_after (search rules)

-- the first digit of a number's spelling is a zero only where it is the only one
pub decimal_leads : (n : ℕ) → n < 2 ^ 64 → get_or (decimal n) 0 0 ≡ 48 → length (decimal n) ≡ 1
decimal_leads zero fits leads = ap length (decimal_digit 0 (lit< tt))
decimal_leads (suc n) fits leads = absurd (omega (arith, first_decimal (suc n) (omega arith) fits))

-- what fewer than 19 digits make has room for one digit more
pub has_room : (value i : ℕ) → value < 10 ^ i → i < 19 → value < 10 ^ 18
has_room value i below few = let most : 10 ^ i ≤ 10 ^ 18 = pow-le-pow_right {n = 10} (lit< tt) {i = i} {j = 18} (omega arith) in omega arith

-- what is written of a number is its spelling
pub number_spelled : (n most : ℕ) → n ≤ most → n < 10 ^ 19 → Num (decimal n) n most
number_spelled n most small few =
    let fits : n < 2 ^ 64 = omega arith in
    record {
      digits = digits_decimal own_digits n fits;
      some = decimal_nonempty n fits;
      few = length-decimal-le 19 n (lit< tt) few fits;
      no_lead = decimal_leads n fits;
      value = sym (digits_value-decimal own_digits n fits);
      small = small;
    }

-- a number has no other spelling
pub decimal-Num : (x : List ℕ) (n most : ℕ) → Num x n most → x ≡ decimal n
decimal-Num x n most num =
    let below : value_after 0 x < 10 ^ 19 = digits_value_short own_digits x 19 num.digits num.few in
    let fits : value_after 0 x < 2 ^ 64 = omega arith in
    sym (ap decimal num.value ∙ decimal-digits_value own_digits x num.digits num.some num.no_lead fits)
