-- How a spelled date reads, byte by byte.
use Rattle.std.proofs.Common.{◌≡◌, ◌∙◌, ◌+◌, ◌-◌, ◌*◌, ◌≤◌, ℕ, List, ◌++◌, get_or, take, drop, length, refl, sym, ap, subst, arith}
use Rattle.std.proofs.Math.Seq.{drop-append_seam, take-append_seam}
use Rattle.std.proofs.lemmas.List.{take-append-drop}
use Rattle.std.proofs.lemmas.Slice.Eq.{text_from_reads}
use Rattle.snb_base.specs.Calendar.{IsDigit, IsRealDay, IsRealTime, SpellsDay, SpellsMoment, SpellsTime, day_number, day_text, time_number, time_text}

-- the number that the bytes at k and k + 1 spell
abbrev pub two_at : List ℕ → ℕ → ℕ → ℕ
two_at x k l = 10 * (get_or x k 0 - 48) + (get_or x l 0 - 48)

abbrev pub year_at : List ℕ → ℕ
year_at x = 100 * two_at x 0 1 + two_at x 2 3

-- the bytes of a spelled day
pub record DayParts (x : List ℕ) : Type 0 where
  pub size : length x ≡ 10
  pub dash : get_or x 4 0 ≡ 45
  pub second_dash : get_or x 7 0 ≡ 45
  pub high : IsDigit (get_or x 0 0) × IsDigit (get_or x 1 0)
  pub low : IsDigit (get_or x 2 0) × IsDigit (get_or x 3 0)
  pub month : IsDigit (get_or x 5 0) × IsDigit (get_or x 6 0)
  pub day : IsDigit (get_or x 8 0) × IsDigit (get_or x 9 0)
  pub real : IsRealDay (year_at x) (two_at x 5 6) (two_at x 8 9)

day_of_text : (y m d : ℕ) → IsRealDay y m d → d ≤ 31 → DayParts (day_text y m d) × (day_number (year_at (day_text y m d)) (two_at (day_text y m d) 5 6) (two_at (day_text y m d) 8 9) ≡ day_number y m d)
day_of_text y m d h small =
    let year : year_at (day_text y m d) ≡ y = omega (arith, h.last_year) in
    let month : two_at (day_text y m d) 5 6 ≡ m = omega (arith, h.last_month) in
    let day : two_at (day_text y m d) 8 9 ≡ d = omega (arith, small) in
    let top : y ≤ 9999 = h.last_year in
    let last : m ≤ 12 = h.last_month in (
      record {
        size = refl;
        dash = refl;
        second_dash = refl;
        high = ((omega arith, omega arith), (omega arith, omega arith));
        low = ((omega arith, omega arith), (omega arith, omega arith));
        month = ((omega arith, omega arith), (omega arith, omega arith));
        day = ((omega arith, omega arith), (omega arith, omega arith));
        real = rw (year, month, day) h;
      },
      rw (year, month, day) refl,
    )

month_small : (y m d : ℕ) → IsRealDay y m d → d ≤ 31
month_small y m d h = let last = h.last_day in grind arith

pub day_parts : (x : List ℕ) (n : ℕ) → SpellsDay x n → DayParts x × (n ≡ 86400000 * day_number (year_at x) (two_at x 5 6) (two_at x 8 9))
day_parts x n s =
    let (y, m, d, real, e, value) = s in
    let known = day_of_text y m d real (month_small y m d real) in
    rw e (known.0, value ∙ ap (λ k. 86400000 * k) (sym known.1))

pub day_spelled : (x : List ℕ) → DayParts x → SpellsDay x (86400000 * day_number (year_at x) (two_at x 5 6) (two_at x 8 9))
day_spelled x p =
    let (h0, h1) = p.high in
    let (l0, l1) = p.low in
    let (m0, m1) = p.month in
    let (d0, d1) = p.day in (
      year_at x,
      two_at x 5 6,
      two_at x 8 9,
      p.real,
      text_from_reads x (day_text (year_at x) (two_at x 5 6) (two_at x 8 9)) p.size
          (omega arith, (omega arith, (omega arith, (omega arith, (p.dash, (omega arith, (omega arith, (p.second_dash, (omega arith, (omega arith, tt)))))))))),
      refl,
    )

abbrev pub millis_at : List ℕ → ℕ
millis_at x = 100 * (get_or x 10 0 - 48) + two_at x 11 12

-- the bytes of a spelled time of day
pub record TimeParts (x : List ℕ) : Type 0 where
  pub size : length x ≡ 18
  pub mark : get_or x 0 0 ≡ 84
  pub colon : get_or x 3 0 ≡ 58
  pub second_colon : get_or x 6 0 ≡ 58
  pub point : get_or x 9 0 ≡ 46
  pub zone : (get_or x 13 0 ≡ 43) × (get_or x 14 0 ≡ 48) × (get_or x 15 0 ≡ 48) × (get_or x 16 0 ≡ 48) × (get_or x 17 0 ≡ 48)
  pub hour : IsDigit (get_or x 1 0) × IsDigit (get_or x 2 0)
  pub minute : IsDigit (get_or x 4 0) × IsDigit (get_or x 5 0)
  pub second : IsDigit (get_or x 7 0) × IsDigit (get_or x 8 0)
  pub tenths : IsDigit (get_or x 10 0)
  pub millis : IsDigit (get_or x 11 0) × IsDigit (get_or x 12 0)
  pub real : IsRealTime (two_at x 1 2) (two_at x 4 5) (two_at x 7 8) (millis_at x)

abbrev pub time_at : List ℕ → ℕ
time_at x = time_number (two_at x 1 2) (two_at x 4 5) (two_at x 7 8) (millis_at x)

time_of_text : (h i s k : ℕ) → IsRealTime h i s k → TimeParts (time_text h i s k) × (time_at (time_text h i s k) ≡ time_number h i s k)
time_of_text h i s k r =
    let a : h ≤ 23 = r.last_hour in
    let b : i ≤ 59 = r.last_minute in
    let c : s ≤ 59 = r.last_second in
    let d : k ≤ 999 = r.last_milli in
    let hour : two_at (time_text h i s k) 1 2 ≡ h = omega arith in
    let minute : two_at (time_text h i s k) 4 5 ≡ i = omega arith in
    let second : two_at (time_text h i s k) 7 8 ≡ s = omega arith in
    let millis : millis_at (time_text h i s k) ≡ k = omega arith in (
      record {
        size = refl;
        mark = refl;
        colon = refl;
        second_colon = refl;
        point = refl;
        zone = (refl, refl, refl, refl, refl);
        hour = ((omega arith, omega arith), (omega arith, omega arith));
        minute = ((omega arith, omega arith), (omega arith, omega arith));
        second = ((omega arith, omega arith), (omega arith, omega arith));
        tenths = (omega arith, omega arith);
        millis = ((omega arith, omega arith), (omega arith, omega arith));
        real = rw (hour, minute, second, millis) r;
      },
      rw (hour, minute, second, millis) refl,
    )

pub time_parts : (x : List ℕ) (n : ℕ) → SpellsTime x n → TimeParts x × (n ≡ time_at x)
time_parts x n t =
    let (h, i, s, k, real, e, value) = t in
    let known = time_of_text h i s k real in
    rw e (known.0, value ∙ sym known.1)

pub time_spelled : (x : List ℕ) → TimeParts x → SpellsTime x (time_at x)
time_spelled x p =
    let (h0, h1) = p.hour in
    let (m0, m1) = p.minute in
    let (s0, s1) = p.second in
    let (k1, k2) = p.millis in
    let k0 = p.tenths in (
      two_at x 1 2,
      two_at x 4 5,
      two_at x 7 8,
      millis_at x,
      p.real,
      text_from_reads x (time_text (two_at x 1 2) (two_at x 4 5) (two_at x 7 8) (millis_at x)) p.size
          (p.mark, (omega arith, (omega arith, (p.colon, (omega arith, (omega arith, (p.second_colon, (omega arith, (omega arith, (p.point, (omega arith, (omega arith, (omega arith, (p.zone.0, (p.zone.1, (p.zone.2, (p.zone.3, (p.zone.4, tt)))))))))))))))))),
      refl,
    )

-- a moment is a day of ten bytes and a time of day
pub moment_parts : (x : List ℕ) (n : ℕ) → SpellsMoment x n → (a : ℕ) × (b : ℕ) × SpellsDay (take 10 x) a × SpellsTime (drop 10 x) b × (n ≡ a + b)
moment_parts x n s =
    let (day, time, a, b, e, d, t, value) = s in
    let ten = (day_parts day a d).0.size in
    let front : take 10 x ≡ day = rw e (subst (λ (k : ℕ). take k (day ++ time) ≡ day) ten (take-append_seam day time)) in
    let back : drop 10 x ≡ time = rw e (subst (λ (k : ℕ). drop k (day ++ time) ≡ time) ten (drop-append_seam day time)) in
    (a, b, rw front d, rw back t, value)

pub moment_spelled : (x : List ℕ) (a b : ℕ) → SpellsDay (take 10 x) a → SpellsTime (drop 10 x) b → SpellsMoment x (a + b)
moment_spelled x a b d t = (take 10 x, drop 10 x, a, b, sym (take-append-drop 10 x), d, t, refl)
