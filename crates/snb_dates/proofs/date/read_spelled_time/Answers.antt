use Rattle.std.proofs.Common.{◌≡◌, ◌+◌, ◌*◌, arith}
use Rattle.snb_dates.proofs.TextFacts.{TimeParts, millis_at, time_at, time_spelled, two_at}
use Rattle.snb_dates.proofs.date.read_spelled_time.Goals as goal

pub returns-clause-spelled : goal.returns-clause-spelled
returns-clause-spelled c =
    let x = c.args.text.now in
    let (hours, h) = c.in_ok-hour.ensures in
    let (minutes, m) = c.in_ok-minute.ensures in
    let (seconds, s) = c.in_ok-second.ensures in
    let (millis, k) = c.in_ok-two_digits.ensures in
    let hour : c.in_ok-hour.hour ≡ two_at x 1 2 = omega arith in
    let minute : c.in_ok-minute.minute ≡ two_at x 4 5 = omega arith in
    let second : c.in_ok-second.second ≡ two_at x 7 8 = omega arith in
    let part : c.from.result * 100 + c.from-2.result ≡ millis_at x = omega (arith, c.from.ensures, c.from-2.ensures) in
    let digit = c.if-not-is_ascii_digit.ensures.cases in
    let parts : TimeParts x = record {
      size = c.if-text-ne18.false;
      mark = c.if-text-ne84.false;
      colon = c.if-text-ne58.false;
      second_colon = c.if-text-ne58-2.false;
      point = c.if-text-ne46.false;
      zone = (c.if-text-ne43.false, c.if-text-ne48.false, c.if-text-ne48-2.false, c.if-text-ne48-3.false, c.if-text-ne48-4.false);
      hour = hours;
      minute = minutes;
      second = seconds;
      tenths = digit;
      millis = millis;
      real = record { last_hour = omega arith; last_minute = omega arith; last_second = omega arith; last_milli = omega (arith, part, digit.1, millis.0.1, millis.1.1) };
    } in
    let value : c.from-3.result * 3600000 + c.from-4.result * 60000 + c.from-5.result * 1000 + (c.from.result * 100 + c.from-2.result) ≡ time_at x =
    omega (arith, c.from-3.ensures, c.from-4.ensures, c.from-5.ensures) in
    rw value (time_spelled x parts)
