-- Some text has each of the lines.
use Rattle.std.proofs.Common.{◌≡◌, ◌≢◌, ◌∷◌, ℕ, ◌*◌, ◌^◌, ◌<◌, ◌≤◌, List, [], inr, refl, sym, subst, arith, map, All}
use Rattle.std.specs.Prelude.{codes}
use Rattle.std.specs.Fmt.{decimal}
use Rattle.std.specs.List.{Contains}
use Rattle.std.specs.Str.{IsUtf8}
use Rattle.std.proofs.lemmas.List.Elements.{All-cons, All-from_recursion, All-nil, All-weaker}
use Rattle.std.proofs.lemmas.Str.{IsUtf8-from_ascii, IsUtf8-nil}
use Rattle.std.proofs.lemmas.Str.Ascii.{IsAscii-from_all}
use Rattle.snb_base.specs.Spellings.{last_id, last_time}
use Rattle.snb_base.proofs.Laws.{all_of, none_in, number_spelled}
use Rattle.snb_schema.specs.declared.column.Column.{Column}
use Rattle.snb_schema.specs.declared.column.Column.TheVariants.{Number, Small, OptionalId, Date, Day, Words, TextList, IdList, PairList}
use Rattle.snb_schema.specs.declared.column.Value.{Value}
use Rattle.snb_schema.specs.declared.column.Value.TheVariants.{Digits, SmallDigits, NoId, Letters, Texts, Ids, Pairs}
use Rattle.snb_schema.specs.declared.limits.TheConstants.{MAX_TIME, MAX_TRIAL}
use Rattle.snb_schema.specs.declared.op.Line.{Line}
use Rattle.snb_schema.specs.declared.op.InsertKind.{InsertKind}
use Rattle.snb_schema.specs.Columns.{Spells, SpellsAll, canonical_field, no_id}
use Rattle.snb_schema.specs.Lines.{HasNoBar, HasNoEnd}
use Rattle.snb_schema.specs.StreamLines.{AreOfStream, AreOfStreams, IsOfLine}
use Rattle.snb_schema.specs.TableRows.{IsFieldText}
use Rattle.snb_schema.specs.UpdateLines.{IsOfTwo, canonical_line, forum_inserts, person_inserts}
use Rattle.snb_schema.specs.InsertLines.{kind_of, line_columns, line_values, op_number, op_values}
use Rattle.snb_columns.specs.Laws.{OwnLineOfValues}
use Rattle.snb_trial.specs.Trial.{half, lane, lanes, trial_line}
use Rattle.snb_trial.proofs.Seven.{Comment, Forum, Friendship, IsLineIn, Like, Membership, Person, Post, Seven, entry_of, in_order, lane_number, line_in, of_lane}
use Rattle.snb_columns.proofs.Laws.{all_digits}

-- ---- values that have a spelling

-- the value has a spelling in its column: numbers of 19 digits at most, plain texts, empty lists
abbrev Fits : Column → Value → Type 0
Fits (Number most) (Digits n) = (n ≤ most) × (n < 10 ^ 19)
Fits (Small most) (SmallDigits n) = (n ≤ most) × (n < 10 ^ 19)
Fits OptionalId (Digits n) = (n ≤ last_id) × (n < 10 ^ 19)
Fits OptionalId NoId = Unit {0}
Fits Date (Digits n) = (n ≤ last_time) × (n < 10 ^ 19)
Fits Day (Digits n) = (n ≤ last_time) × (n < 10 ^ 19)
Fits Words (Letters text) = IsFieldText text
Fits TextList (Texts []) = Unit {0}
Fits IdList (Ids []) = Unit {0}
Fits PairList (Pairs []) = Unit {0}
Fits c v = ⊥

abbrev AreFit : List Column → List Value → Type 0
AreFit [] [] = Unit {0}
AreFit (c ∷ cs) (v ∷ vs) = Fits c v × AreFit cs vs
AreFit cs vs = ⊥

spelled : (c : Column) (v : Value) → Fits c v → Spells c (canonical_field v) v
spelled (Number most) (Digits n) f = number_spelled n most f.0 f.1
spelled (Small most) (SmallDigits n) f = number_spelled n most f.0 f.1
spelled OptionalId (Digits n) f = number_spelled n last_id f.0 f.1
spelled OptionalId NoId f = refl
spelled Date (Digits n) f = (f.0, inr (number_spelled n last_time f.0 f.1))
spelled Day (Digits n) f = (f.0, inr (number_spelled n last_time f.0 f.1))
spelled Words (Letters text) f = refl
spelled TextList (Texts []) f = ([], tt, refl)
spelled IdList (Ids []) f = ([], tt, refl)
spelled PairList (Pairs []) f = (([], tt, refl), λ p q c d e. absurd (none_in p c))
spelled c v f = absurd f

spelled_all : (cs : List Column) (vs : List Value) → AreFit cs vs → SpellsAll cs (map canonical_field vs) vs
spelled_all [] [] f = tt
spelled_all (c ∷ cs) (v ∷ vs) f = (spelled c v f.0, spelled_all cs vs f.1)
spelled_all cs vs f = absurd f

none_plain : IsFieldText []
none_plain = record { utf8 = IsUtf8-nil; no_bar = All-nil _; one_line = All-nil _ }

no_id_plain : IsFieldText no_id
no_id_plain = record { utf8 = IsUtf8-from_ascii no_id (grind arith); no_bar = grind arith; one_line = grind arith }

digits_plain : (n most : ℕ) → n ≤ most → n < 10 ^ 19 → IsFieldText (decimal n)
digits_plain n most le few =
    let digits = (number_spelled n most le few).digits in
    record {
      utf8 = IsUtf8-from_ascii (decimal n) (IsAscii-from_all (decimal n) (all_digits (λ b. b < 128) (λ b d. omega arith) (decimal n) digits));
      no_bar = all_digits (λ b. b ≢ 124) (λ b d. omega arith) (decimal n) digits;
      one_line = all_digits (λ b. b ≢ 10) (λ b d. omega arith) (decimal n) digits;
    }

plain : (c : Column) (v : Value) → Fits c v → IsFieldText (canonical_field v)
plain (Number most) (Digits n) f = digits_plain n most f.0 f.1
plain (Small most) (SmallDigits n) f = digits_plain n most f.0 f.1
plain OptionalId (Digits n) f = digits_plain n last_id f.0 f.1
plain OptionalId NoId f = no_id_plain
plain Date (Digits n) f = digits_plain n last_time f.0 f.1
plain Day (Digits n) f = digits_plain n last_time f.0 f.1
plain Words (Letters text) f = f
plain TextList (Texts []) f = none_plain
plain IdList (Ids []) f = none_plain
plain PairList (Pairs []) f = none_plain
plain c v f = absurd f

plain_all : (cs : List Column) (vs : List Value) → AreFit cs vs → All IsFieldText (map canonical_field vs)
plain_all [] [] f = All-nil IsFieldText
plain_all (c ∷ cs) (v ∷ vs) f = All-cons IsFieldText (canonical_field v) (map canonical_field vs) (plain c v f.0) (plain_all cs vs f.1)
plain_all cs vs f = absurd f

-- an insert whose values fit has a line
has_line : OwnLineOfValues → (x : Line) → AreFit (line_columns (kind_of x.op)) (line_values x.t x.t_d x.op) → IsOfTwo x.op → IsOfLine x
has_line own x fit two =
    let cs = line_columns (kind_of x.op) in
    let vs = line_values x.t x.t_d x.op in
    let all = plain_all cs vs fit in
    let line = own cs (map canonical_field vs) vs (λ e. cc) (spelled_all cs vs fit) (All-weaker IsFieldText HasNoBar (λ t f. f.no_bar) (map canonical_field vs) all) in (
      canonical_line x.t x.t_d x.op,
      record {
        text = line.text (All-weaker IsFieldText IsUtf8 (λ t f. f.utf8) (map canonical_field vs) all);
        unmarked = line.unmarked x.t (Digits x.t_d ∷ Digits (op_number x.op) ∷ op_values x.op) refl;
        one_line = line.one_line (All-weaker IsFieldText HasNoEnd (λ t f. f.one_line) (map canonical_field vs) all);
        spelled = subst (λ (xs : List (List ℕ)). SpellsAll cs xs vs) (sym line.split) line.spelled;
        of_two = two;
      },
    )

-- ---- the texts of the updates

pub letter : (b : ℕ) → b < 128 → b ≢ 124 → b ≢ 10 → IsFieldText (b ∷ [])
letter b ascii bar end = record {
  utf8 = IsUtf8-from_ascii (b ∷ []) (IsAscii-from_all (b ∷ []) (All-from_recursion (λ c. c < 128) (b ∷ []) (ascii, tt)));
  no_bar = All-from_recursion (λ c. c ≢ 124) (b ∷ []) (bar, tt);
  one_line = All-from_recursion (λ c. c ≢ 10) (b ∷ []) (end, tt);
}

pub address : IsFieldText (codes "0.0.0.0")
address = record { utf8 = IsUtf8-from_ascii (codes "0.0.0.0") (grind arith); no_bar = grind arith; one_line = grind arith }

fits : (which : Seven) (i number : ℕ) → i ≤ MAX_TRIAL → let x = trial_line (number, entry_of which i) in AreFit (line_columns (kind_of x.op)) (line_values x.t x.t_d x.op)
fits Person i number few =
    let a : (1000 * i ≤ MAX_TIME) × (1000 * i < 10 ^ 19) = (omega arith, omega arith) in (
      a,
      (
        (omega arith, omega arith),
        (
          (omega arith, omega arith),
          (
            (omega arith, omega arith),
            (
              letter 70 (omega arith) (omega arith) (omega arith),
              (
                letter 76 (omega arith) (omega arith) (omega arith),
                (
                  letter 103 (omega arith) (omega arith) (omega arith),
                  ((omega arith, omega arith), (a, (address, (letter 98 (omega arith) (omega arith) (omega arith), ((omega arith, omega arith), (tt, (tt, (tt, (tt, (tt, tt)))))))))),
                ),
              ),
            ),
          ),
        ),
      ),
    )
fits Friendship i number few = ((omega arith, omega arith), ((omega arith, omega arith), ((omega arith, omega arith), ((omega arith, omega arith), ((omega arith, omega arith), ((omega arith, omega arith), tt))))))
fits Forum i number few =
    ((omega arith, omega arith), ((omega arith, omega arith), ((omega arith, omega arith), ((omega arith, omega arith), (letter 84 (omega arith) (omega arith) (omega arith), ((omega arith, omega arith), ((omega arith, omega arith), (tt, tt))))))))
fits Membership i number few = ((omega arith, omega arith), ((omega arith, omega arith), ((omega arith, omega arith), ((omega arith, omega arith), ((omega arith, omega arith), ((omega arith, omega arith), tt))))))
fits Post i number few = (
  (omega arith, omega arith),
  (
    (omega arith, omega arith),
    (
      (omega arith, omega arith),
      (
        (omega arith, omega arith),
        (
          none_plain,
          (
            (omega arith, omega arith),
            (
              address,
              (
                letter 98 (omega arith) (omega arith) (omega arith),
                (
                  letter 108 (omega arith) (omega arith) (omega arith),
                  (
                    letter 99 (omega arith) (omega arith) (omega arith),
                    ((omega arith, omega arith), ((omega arith, omega arith), ((omega arith, omega arith), ((omega arith, omega arith), (tt, tt))))),
                  ),
                ),
              ),
            ),
          ),
        ),
      ),
    ),
  ),
)
fits Comment i number few = (
  (omega arith, omega arith),
  (
    (omega arith, omega arith),
    (
      (omega arith, omega arith),
      (
        (omega arith, omega arith),
        (
          (omega arith, omega arith),
          (
            address,
            (
              letter 98 (omega arith) (omega arith) (omega arith),
              (
                letter 99 (omega arith) (omega arith) (omega arith),
                ((omega arith, omega arith), ((omega arith, omega arith), ((omega arith, omega arith), ((omega arith, omega arith), (tt, (tt, tt)))))),
              ),
            ),
          ),
        ),
      ),
    ),
  ),
)
fits Like i number few = ((omega arith, omega arith), ((omega arith, omega arith), ((omega arith, omega arith), ((omega arith, omega arith), ((omega arith, omega arith), ((omega arith, omega arith), tt))))))

of_two : (which : Seven) (i : ℕ) → 1 ≤ i → IsOfTwo (entry_of which i).op
of_two Person i some = tt
of_two Friendship i some = (let ne : i ≢ half i = omega arith in ne)
of_two Forum i some = tt
of_two Membership i some = tt
of_two Post i some = tt
of_two Comment i some = tt
of_two Like i some = tt

-- ---- lanes of streams

person_kind : (which : Seven) (i : ℕ) → lane_number which i < 2 → Contains person_inserts (kind_of (entry_of which i).op)
person_kind Person i lt = (0, omega arith, refl)
person_kind Friendship i lt = (1, omega arith, refl)
person_kind Forum i lt = absurd (omega (arith, lt))
person_kind Membership i lt = absurd (omega (arith, lt))
person_kind Post i lt = absurd (omega (arith, lt))
person_kind Comment i lt = absurd (omega (arith, lt))
person_kind Like i lt = absurd (omega (arith, lt))

forum_kind : (which : Seven) (i : ℕ) → 2 ≤ lane_number which i → Contains forum_inserts (kind_of (entry_of which i).op)
forum_kind Person i le = absurd (omega (arith, le))
forum_kind Friendship i le = absurd (omega (arith, le))
forum_kind Forum i le = (2, omega arith, refl)
forum_kind Membership i le = (3, omega arith, refl)
forum_kind Post i le = (4, omega arith, refl)
forum_kind Comment i le = (5, omega arith, refl)
forum_kind Like i le = (0, omega arith, refl)

of_stream : OwnLineOfValues → (l n : ℕ) (kinds : List InsertKind) → n ≤ MAX_TRIAL → ((which : Seven) (i : ℕ) → lane_number which i ≡ l → Contains kinds (kind_of (entry_of which i).op))
    → AreOfStream kinds (lane (of_lane l) n)
of_stream own l n kinds few theirs = record {
  of_lines = all_of IsOfLine (lane (of_lane l) n) (λ x c. of_line x (line_in n l x c));
  of_kinds = all_of (λ (x : Line). Contains kinds (kind_of x.op)) (lane (of_lane l) n) (λ x c. of_kind x (line_in n l x c));
  rises = λ i j d below lt. (let less = in_order l n i j d below lt in omega (arith, less));
}
  where
    of_line : (x : Line) → IsLineIn n l x → IsOfLine x
    of_line x in' =
        let within = in'.few in
        subst IsOfLine in'.is (has_line own (trial_line (in'.number, entry_of in'.which in'.i)) (fits in'.which in'.i in'.number (omega (arith, within, few))) (of_two in'.which in'.i in'.some))

    of_kind : (x : Line) → IsLineIn n l x → Contains kinds (kind_of x.op)
    of_kind x in' = subst (λ (y : Line). Contains kinds (kind_of y.op)) in'.is (theirs in'.which in'.i in'.there)

pub of_streams : OwnLineOfValues → (n : ℕ) → n ≤ MAX_TRIAL → AreOfStreams (lanes n)
of_streams own n few = record {
  persons = All-from_recursion (AreOfStream person_inserts) (lanes n).persons (person 0 (omega arith), (person 1 (omega arith), tt));
  forums = All-from_recursion (AreOfStream forum_inserts) (lanes n).forums (forum 2 (omega arith), (forum 3 (omega arith), (forum 4 (omega arith), tt)));
}
  where
    person : (l : ℕ) → l < 2 → AreOfStream person_inserts (lane (of_lane l) n)
    person l lt = of_stream own l n person_inserts few (λ which i e. person_kind which i (omega (arith, e, lt)))

    forum : (l : ℕ) → 2 ≤ l → AreOfStream forum_inserts (lane (of_lane l) n)
    forum l le = of_stream own l n forum_inserts few (λ which i e. forum_kind which i (omega (arith, e, le)))
