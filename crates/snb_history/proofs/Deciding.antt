-- Each rule holds or fails, and a first one fails where one does.
use Rattle.std.proofs.Common.{◌≡◌, ℕ, zero, suc, ◌<◌, ◌≤◌, List, length, Bool, true, false, ◌||◌, not, cond, ◌⊎◌, inl, inr, refl, sym, ap, ◌∙◌, subst, arith, Option, Some, None, eqb, ltb}
use Rattle.std.specs.Prelude.{◌==◌, nat_lt, slice_get}
use Rattle.std.specs.List.{position_or_len}
use Rattle.std.proofs.lemmas.Bool.{cases_lt, cases_eq, eqb-true, eq-eqb, ltb-false, le-ltb}
use Rattle.snb_history.specs.declared.step.LaneKind.{LaneKind}
use Rattle.snb_history.specs.declared.step.LaneKind.TheVariants.{Person, Forum, Query}
use Rattle.snb_history.specs.declared.event.Event.{Event}
use Rattle.snb_history.specs.declared.event.Event.TheVariants.{Start, Finish, Halt}
use Rattle.snb_history.specs.Schedule.{Schedule, step_of, IsBefore, is_dependency}
use Rattle.snb_history.specs.History.{starts, started, finished, halted, hand, last}
use Rattle.snb_history.specs.Rules.{Rule, V1, V2, V3, V4, V5, V6, V7, V8, V9, rule_number, MayAct, LeadsLane, IsFront, Obeys}
use Rattle.snb_history.specs.Violation.{told_at}
use Rattle.snb_history.specs.Laws.{FitsOrBreaks, BreaksOne}
use Rattle.snb_history.proofs.Times.{is_dependency-within}
use Rattle.snb_base.proofs.Laws.{both, Decided, is_at_most, is_less, is_true, IsLeastFailing, least_failing, where_so}

is_false : (b : Bool) → Decided (b ≡ false)
is_false true = inr (λ q. cc)
is_false false = inl refl

is_forum : (o : Option LaneKind) → Decided (o ≡ Some Forum)
is_forum None = inr (λ q. cc)
is_forum (Some Person) = inr (λ q. cc)
is_forum (Some Forum) = inl refl
is_forum (Some Query) = inr (λ q. cc)

is_none : (o : Option ℕ) → Decided (o ≡ None)
is_none None = inl refl
is_none (Some x) = inr (λ q. cc)

is_some_of : (o : Option ℕ) (k : ℕ) → Decided (o ≡ Some k)
is_some_of None k = inr (λ q. cc)
is_some_of (Some x) k = elim (cases_eq x k) [ inl same ↦ inl (ap Some same) | inr other ↦ inr (λ q. other cc) ]

-- what holds of all before an operation in its lane
all_before : (s : Schedule) (op : ℕ) (p : ℕ → Bool) → Decided ((j : ℕ) → IsBefore s j op → p j ≡ true)
all_before s op p =
    elim (least_failing (λ j. not ((step_of s j).lane == (step_of s op).lane) || p j) op) [
      | inl all ↦ inl (λ j before. let a = all j before.0 in let b = eq-eqb (step_of s j).lane (step_of s op).lane before.1 in grind arith)
      | inr found ↦ inr (λ each.
          let f : IsLeastFailing (λ j. not ((step_of s j).lane == (step_of s op).lane) || p j) op found.0 = found.1 in
          let a = f.fails in
          let lane : eqb (step_of s found.0).lane (step_of s op).lane ≡ true = grind arith in
          let b = each found.0 (f.within, eqb-true (step_of s found.0).lane (step_of s op).lane lane) in
          grind arith)
    ]

all_dependencies : (s : Schedule) (h : List Event) (op : ℕ)
    → Decided ((k : ℕ) → is_dependency s k ≡ true → (step_of s k).t ≤ (step_of s op).t_d → finished h k ≡ true)
all_dependencies s h op =
    elim (least_failing p (length s.steps)) [
      | inl all ↦ inl (λ k dep due. let a = all k (is_dependency-within s k dep) in let b = le-ltb (step_of s op).t_d (step_of s k).t due in grind arith)
      | inr found ↦ inr (λ each.
          let f : IsLeastFailing p (length s.steps) found.0 = found.1 in
          let a = f.fails in
          let dep : is_dependency s found.0 ≡ true = grind arith in
          let late : ltb (step_of s op).t_d (step_of s found.0).t ≡ false = grind arith in
          let b = each found.0 dep (ltb-false (step_of s op).t_d (step_of s found.0).t late) in
          grind arith)
    ]
  where
    p : ℕ → Bool
    p k = not (is_dependency s k) || (nat_lt (step_of s op).t_d (step_of s k).t || finished h k)

may_act : (workers : ℕ) (h : List Event) (worker : ℕ) → Decided (MayAct workers h worker)
may_act workers h worker =
    elim (both (is_less worker workers) (is_false (halted h worker))) [
      | inl may ↦ inl (record { known = may.0; running = may.1 })
      | inr not_both ↦ inr (λ may. not_both (may.known, may.running))
    ]

is_head : (s : Schedule) (h : List Event) (op : ℕ) → Decided (LeadsLane s h op)
is_head s h op =
    elim (both (is_false (started h op)) (all_before s op (started h))) [
      | inl head ↦ inl (record { fresh = head.0; led = head.1 })
      | inr not_both ↦ inr (λ head. not_both (head.fresh, head.led))
    ]

is_front : (s : Schedule) (h : List Event) (op front : ℕ) → Decided (IsFront s h op front)
is_front s h op front =
    elim (both (where_so (is_true (step_of s op).query) (both (is_less (position_or_len (starts op) h) front) (is_at_most front (length h))))
    (where_so (is_false (step_of s op).query) (cases_eq front 0))) [
      | inl f ↦ inl (record { of_read = f.0; of_insert = f.1 })
      | inr not_both ↦ inr (λ f. not_both (f.of_read, f.of_insert))
    ]

-- whether an event obeys a rule is decided
pub obeys : (s : Schedule) (workers : ℕ) (h : List Event) (e : Event) (r : Rule) → Decided (Obeys s workers h e r)
obeys s workers h (Start op worker at) V1 = both (is_less op (length s.steps)) (may_act workers h worker)
obeys s workers h (Start op worker at) V2 = is_head s h op
obeys s workers h (Start op worker at) V3 = where_so (is_forum (slice_get s.kinds (step_of s op).lane)) (all_before s op (finished h))
obeys s workers h (Start op worker at) V4 = is_at_most (step_of s op).due at
obeys s workers h (Start op worker at) V5 = where_so (is_true (step_of s op).dependent) (all_dependencies s h op)
obeys s workers h (Start op worker at) V6 = is_none (hand h worker)
obeys s workers h (Start op worker at) V7 = inl tt
obeys s workers h (Start op worker at) V8 = inl tt
obeys s workers h (Start op worker at) V9 = is_at_most (last h) at
obeys s workers h (Finish op worker at front) V1 = both (is_less op (length s.steps)) (may_act workers h worker)
obeys s workers h (Finish op worker at front) V7 = is_some_of (hand h worker) op
obeys s workers h (Finish op worker at front) V8 = is_front s h op front
obeys s workers h (Finish op worker at front) V9 = is_at_most (last h) at
obeys s workers h (Finish op worker at front) V2 = inl tt
obeys s workers h (Finish op worker at front) V3 = inl tt
obeys s workers h (Finish op worker at front) V4 = inl tt
obeys s workers h (Finish op worker at front) V5 = inl tt
obeys s workers h (Finish op worker at front) V6 = inl tt
obeys s workers h (Halt worker) V1 = may_act workers h worker
obeys s workers h (Halt worker) V2 = inl tt
obeys s workers h (Halt worker) V3 = inl tt
obeys s workers h (Halt worker) V4 = inl tt
obeys s workers h (Halt worker) V5 = inl tt
obeys s workers h (Halt worker) V6 = inl tt
obeys s workers h (Halt worker) V7 = inl tt
obeys s workers h (Halt worker) V8 = inl tt
obeys s workers h (Halt worker) V9 = inl tt

-- the rule of a number
pub rule_of : ℕ → Rule
rule_of n =
    cond (eqb n 1) V1 (cond (eqb n 2) V2 (cond (eqb n 3) V3 (cond (eqb n 4) V4 (cond (eqb n 5) V5 (cond (eqb n 6) V6 (cond (eqb n 7) V7 (cond (eqb n 8) V8 V9)))))))

pub rule_of-number : (r : Rule) → rule_of (rule_number r) ≡ r
unfolding rule_of
rule_of-number V1 = refl
rule_of-number V2 = refl
rule_of-number V3 = refl
rule_of-number V4 = refl
rule_of-number V5 = refl
rule_of-number V6 = refl
rule_of-number V7 = refl
rule_of-number V8 = refl
rule_of-number V9 = refl

pub number-same : (q r : Rule) → rule_number q ≡ rule_number r → q ≡ r
number-same q r e = sym (rule_of-number q) ∙ ap rule_of e ∙ rule_of-number r

number-bounds : (r : Rule) → (0 < rule_number r) × (rule_number r < 10)
number-bounds V1 = (omega arith, omega arith)
number-bounds V2 = (omega arith, omega arith)
number-bounds V3 = (omega arith, omega arith)
number-bounds V4 = (omega arith, omega arith)
number-bounds V5 = (omega arith, omega arith)
number-bounds V6 = (omega arith, omega arith)
number-bounds V7 = (omega arith, omega arith)
number-bounds V8 = (omega arith, omega arith)
number-bounds V9 = (omega arith, omega arith)

-- all hold, or a first one fails
first_broken : (P : Rule → Type 0) → ((r : Rule) → Decided (P r)) → ((r : Rule) → P r) ⊎ ((r : Rule) × (P r → ⊥) × ((q : Rule) → rule_number q < rule_number r → P q))
first_broken P decide = elim (up_to 10) [ inl all ↦ inl (λ q. all q (number-bounds q).1) | inr found ↦ inr found ]
  where
    up_to : (n : ℕ) → ((q : Rule) → rule_number q < n → P q) ⊎ ((r : Rule) × (P r → ⊥) × ((q : Rule) → rule_number q < rule_number r → P q))
    up_to zero = inl (λ q lt. absurd (omega arith))
    up_to (suc n) =
        elim (up_to n) [
          | inr found ↦ inr found
          | inl all ↦ elim (cases_eq (rule_number (rule_of n)) n) [
            | inr no_rule ↦ inl (λ q lt. elim (cases_lt (rule_number q) n) [
              | inl below ↦ all q below
              | inr here ↦ absurd (no_rule (let e : rule_number q ≡ n = omega arith in ap (λ m. rule_number (rule_of m)) (sym e) ∙ ap rule_number (rule_of-number q) ∙ e))
            ])
            | inl rule ↦ elim (decide (rule_of n)) [
              | inl holds ↦ inl (λ q lt. elim (cases_lt (rule_number q) n) [
                | inl below ↦ all q below
                | inr here ↦ let e : rule_number q ≡ n = omega arith in subst P (number-same (rule_of n) q (rule ∙ sym e)) holds
              ])
              | inr fails ↦ inr (rule_of n, fails, λ q lt. all q (let e = rule in omega arith))
            ]
          ]
        ]

pub fits_or_breaks : FitsOrBreaks
fits_or_breaks s workers h e =
    elim (first_broken (Obeys s workers h e) (obeys s workers h e)) [
      | inl all ↦ inl (record { obeys = all })
      | inr found ↦ inr (found.0, told_at s workers h e found.0, record { broken = found.1; before = found.2; values_are = refl })
    ]

pub breaks_one : BreaksOne
breaks_one s workers h e q r one other first second =
    let same : q ≡ r = elim (cases_lt (rule_number q) (rule_number r)) [
      | inl below ↦ absurd (first.broken (second.before q below))
      | inr above ↦ elim (cases_lt (rule_number r) (rule_number q)) [
        | inl below ↦ absurd (second.broken (first.before r below))
        | inr level ↦ number-same q r (omega arith)
      ]
    ] in
    (same, first.values_are ∙ ap (told_at s workers h e) same ∙ sym second.values_are)
