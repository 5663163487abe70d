-- The texts of the frequencies and of the ratio, and that they are said so.
use Rattle.std.proofs.Common.{◌≡◌, ◌≢◌, ◌∙◌, ℕ, ◌<◌, zero, suc, List, [], ◌∷◌, inl, inr, refl, rules, sym, arith, codes}
use Rattle.std.proofs.lemmas.Bool.{cases_eq}
use Rattle.std.specs.List.Sorted.{IsStrictlyIncreasing}
use Rattle.snb_ratio.specs.Ratios.{SpellsRatio}
use Rattle.snb_schema.specs.Frequencies.{FrequencyTable, HasFrequencies, frequency_at, SpellsFrequencies, SpellsFrequency}
use Rattle.snb_schema.proofs.Laws.{same_values}
use Rattle.snb_trial.specs.Laws.{NamesTwo}
use Rattle.snb_trial.specs.Trial.{least_ratio, read_frequencies, trial_frequency}
use Rattle.snb_trial.proofs.ByQuery.{at_query}

abbrev pub pairs : List (ℕ × ℕ)
pairs = (2, 10) ∷ (13, 7) ∷ []

two : SpellsFrequency (codes "2:10") (2, 10)
two = record {
  query = codes "2";
  frequency = codes "10";
  splits = refl;
  numbered = record { digits = ((omega arith, omega arith), tt); some = omega arith; few = omega arith; no_lead = λ e. refl; value = refl; small = omega arith };
  counted = record { digits = ((omega arith, omega arith), ((omega arith, omega arith), tt)); some = omega arith; few = omega arith; no_lead = λ e. absurd (omega (arith, e)); value = refl; small = omega arith };
  complex = search rules;
  positive = omega arith;
}

thirteen : SpellsFrequency (codes "13:7") (13, 7)
thirteen = record {
  query = codes "13";
  frequency = codes "7";
  splits = refl;
  numbered = record { digits = ((omega arith, omega arith), ((omega arith, omega arith), tt)); some = omega arith; few = omega arith; no_lead = λ e. absurd (omega (arith, e)); value = refl; small = omega arith };
  counted = record { digits = ((omega arith, omega arith), tt); some = omega arith; few = omega arith; no_lead = λ e. refl; value = refl; small = omega arith };
  complex = search rules;
  positive = omega arith;
}

-- two numbers of which the first is below the second rise
two_rise : (a b : ℕ) → a < b → IsStrictlyIncreasing (a ∷ b ∷ [])
two_rise a b less zero lt = less
two_rise a b less (suc k) lt = absurd (omega (arith, lt))

pub frequencies_said : SpellsFrequencies (codes "2:10,13:7") pairs
frequencies_said = record { spelled = (two, (thirteen, tt)); rising = two_rise 2 13 (omega arith) }

-- each query but these two has no frequency
not_asked : (q : ℕ) → q ≢ 2 → q ≢ 13 → trial_frequency q ≡ 0
not_asked q not_two not_thirteen = search rules

asked_at : (q : ℕ) → frequency_at read_frequencies q ≡ trial_frequency q
asked_at q = at_query trial_frequency 0 not_asked q

-- a table that has just these is the workload's
pub table_is : (table : FrequencyTable) → HasFrequencies table pairs → table ≡ read_frequencies
table_is table p = same_values 0 table read_frequencies (λ q. p q ∙ sym (asked_at q))

-- and the ratio's text
pub ratio_said : SpellsRatio (codes "0.000001") least_ratio
ratio_said = (
  omega arith,
  omega arith,
  (
    codes "0",
    0,
    record { digits = ((omega arith, omega arith), tt); some = omega arith; few = omega arith; no_lead = λ e. refl; value = refl; small = omega arith },
    inr (
      codes "000001",
      1,
      refl,
      record {
        digits = ((omega arith, omega arith), ((omega arith, omega arith), ((omega arith, omega arith), ((omega arith, omega arith), ((omega arith, omega arith), ((omega arith, omega arith), tt))))));
        some = omega arith;
        few = omega arith;
        value = refl;
      },
      refl,
    ),
  ),
)

-- no query but 2 and 13 has a frequency
pub names_two : NamesTwo read_frequencies
names_two q lt = elim (cases_eq q 2) [
  | inl two ↦ inl two
  | inr not_two ↦ elim (cases_eq q 13) [
    | inl thirteen ↦ inr thirteen
    | inr not_thirteen ↦ absurd (let none = asked_at q ∙ not_asked q not_two not_thirteen in omega (arith, lt, none))
  ]
]
