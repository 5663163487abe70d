-- A history has one verdict.
use Rattle.std.proofs.Common.{◌≡◌, ℕ, List, [], ◌∷◌, ◌++◌, length, true, inl, inr, refl, sym, ap, ◌∙◌, subst, arith}
use Rattle.std.specs.Prelude.{ℤ}
use Rattle.std.proofs.lemmas.Bool.{cases_order, eq-eqb}
use Rattle.snb_history.specs.declared.event.Event.{Event}
use Rattle.snb_history.specs.declared.event.Event.TheVariants.{Halt}
use Rattle.snb_history.specs.Schedule.{Schedule}
use Rattle.snb_history.specs.History.{halted}
use Rattle.snb_history.specs.Rules.{Rule, rule_number, Fits, IsLegal}
use Rattle.snb_history.specs.Violation.{Told, told_at, Breaks}
use Rattle.snb_book.specs.Asked.{IsFirstUnfinished}
use Rattle.snb_auditor.specs.declared.verdict.Violation.{Violation}
use Rattle.snb_auditor.specs.declared.verdict.Verdict.TheVariants.{Violated, Halted, Incomplete, TooLate, Accepted}
use Rattle.snb_auditor.specs.Verdicts.{IsFirstHalt, IsVerdict, IsViolation, NobodyHalted, on_time}
use Rattle.snb_auditor.specs.VerdictLaws.{VerdictIsOne, AcceptedExactly}
use Rattle.snb_base.proofs.Laws.{same_list_split}
use Rattle.snb_history.proofs.Laws.{number-same}

-- the first rule that an event breaks is one, and so are its values
one_break : (s : Schedule) (workers : ℕ) (h : List Event) (e : Event) (q r : Rule) (one other : Told) → Breaks s workers h e q one → Breaks s workers h e r other → (q ≡ r) × (one ≡ other)
one_break s workers h e q r one other first second =
    let same : q ≡ r = elim (cases_order (rule_number q) (rule_number r)) [
      | inl level ↦ number-same q r level
      | inr apart ↦ elim apart [
        | inl below ↦ absurd (first.broken (second.before q below))
        | inr above ↦ absurd (second.broken (first.before r above))
      ]
    ] in
    (same, first.values_are ∙ ap (told_at s workers h e) same ∙ sym second.values_are)

same_violation : (s : Schedule) (workers : ℕ) (h : List Event) (e : Event) (one other : Violation) → IsViolation s workers h e one → IsViolation s workers h e other → one ≡ other
same_violation s workers h e one other a b =
    let same = one_break s workers h e a.first b.first _ _ a.breaks b.breaks in
    let event : one.event ≡ other.event = a.place ∙ sym b.place in
    let rule : one.rule ≡ other.rule = a.numbered ∙ ap rule_number same.0 ∙ sym b.numbered in
    let needs : one.needs ≡ other.needs = ap (λ (t : Told). t.needs) same.1 in
    let found : one.found ≡ other.found = ap (λ (t : Told). t.found) same.1 in
    by_fields one other event rule needs found
  where
    by_fields : (a b : Violation) → a.event ≡ b.event → a.rule ≡ b.rule → a.needs ≡ b.needs → a.found ≡ b.found → a ≡ b
    by_fields a b p q r t =
        ap (λ (n : ℕ). record { event = n; rule = a.rule; needs = a.needs; found = a.found }) p
        ∙ (ap (λ (n : ℕ). record { event = b.event; rule = n; needs = a.needs; found = a.found }) q
        ∙ (ap (λ (n : ℤ). record { event = b.event; rule = b.rule; needs = n; found = a.found }) r
        ∙ ap (λ (n : ℤ). record { event = b.event; rule = b.rule; needs = b.needs; found = n }) t))

-- an event of a legal history breaks no rule
fits_no_break : (s : Schedule) (workers : ℕ) (h : List Event) (e : Event) (v : Violation) → Fits s workers h e → IsViolation s workers h e v → ⊥
fits_no_break s workers h e v fits is = is.breaks.broken (fits.obeys is.first)

legal_no_break : (s : Schedule) (workers : ℕ) (h : List Event) (v : Violation) → IsLegal s workers h → IsVerdict s workers h (Violated v) → ⊥
legal_no_break s workers h v legal is = fits_no_break s workers is.0 is.1 v (legal.fits is.0 is.1 is.2 is.3) is.5

same_violated : (s : Schedule) (workers : ℕ) (h : List Event) (u v : Violation) → IsVerdict s workers h (Violated u) → IsVerdict s workers h (Violated v) → u ≡ v
same_violated s workers h u v a b =
    elim (same_list_split a.0 a.1 a.2 b.0 b.1 b.2 (a.3 ∙ sym b.3)) [
      | inl p ↦
          let here : IsViolation s workers b.0 b.1 u =
          subst (λ (g : List Event). IsViolation s workers g b.1 u) p.0 (subst (λ (e : Event). IsViolation s workers a.0 e u) p.1 a.5) in
          same_violation s workers b.0 b.1 u v here b.5
      | inr other ↦ elim other [
        | inl p ↦ absurd (let legal : IsLegal s workers b.0 = b.4 in fits_no_break s workers a.0 a.1 u (legal.fits a.0 a.1 p.0 p.1) a.5)
        | inr p ↦ absurd (let legal : IsLegal s workers a.0 = a.4 in fits_no_break s workers b.0 b.1 v (legal.fits b.0 b.1 p.0 p.1) b.5)
      ]
    ]

halted_in : (g : List Event) (worker : ℕ) (rest : List Event) → halted (g ++ Halt worker ∷ rest) worker ≡ true
halted_in [] worker rest = let y = eq-eqb worker worker refl in grind arith
halted_in (x ∷ g) worker rest = let ih = halted_in g worker rest in grind arith

-- where somebody has halted not nobody has
halt_not_nobody : (h : List Event) (worker : ℕ) → IsFirstHalt h worker → NobodyHalted h → ⊥
halt_not_nobody h worker first nobody =
    let a : halted h worker ≡ true = subst (λ (l : List Event). halted l worker ≡ true) first.2 (halted_in first.0 worker first.1) in
    let b = nobody worker in
    absurd cc

same_halt : (h : List Event) (u v : ℕ) → IsFirstHalt h u → IsFirstHalt h v → u ≡ v
same_halt h u v a b =
    elim (same_list_split a.0 (Halt u) a.1 b.0 (Halt v) b.1 (a.2 ∙ sym b.2)) [
      | inl p ↦ (let e = p.1 in cc)
      | inr other ↦ elim other [
        | inl p ↦ absurd (halt_not_nobody b.0 u (a.0, p.0, p.1, a.3) b.3)
        | inr p ↦ absurd (halt_not_nobody a.0 v (b.0, p.0, p.1, b.3) a.3)
      ]
    ]

same_unfinished : (s : Schedule) (h : List Event) (j k : ℕ) → IsFirstUnfinished s h j → IsFirstUnfinished s h k → j ≡ k
same_unfinished s h j k a b =
    elim (cases_order j k) [
      | inl same ↦ same
      | inr apart ↦ elim apart [
        | inl below ↦ absurd (let x = b.least j below in let y = a.left in cc)
        | inr above ↦ absurd (let x = a.least k above in let y = b.left in cc)
      ]
    ]

same_counts : (a b c d : ℕ) (x y : ℕ) → a ≡ x → c ≡ x → b ≡ y → d ≡ y → (a ≡ c) × (b ≡ d)
same_counts a b c d x y p q r t = (p ∙ sym q, r ∙ sym t)

-- the verdict on a history is one
pub verdict_is_one : VerdictIsOne
verdict_is_one s workers h (Violated u) (Violated v) a b = ap Violated (same_violated s workers h u v a b)
verdict_is_one s workers h (Violated u) (Halted w) a b = absurd (legal_no_break s workers h u b.0 a)
verdict_is_one s workers h (Violated u) (Incomplete op) a b = absurd (legal_no_break s workers h u b.0 a)
verdict_is_one s workers h (Violated u) (TooLate x y) a b = absurd (legal_no_break s workers h u b.0 a)
verdict_is_one s workers h (Violated u) (Accepted x y) a b = absurd (legal_no_break s workers h u b.0 a)
verdict_is_one s workers h (Halted w) (Violated v) a b = absurd (legal_no_break s workers h v a.0 b)
verdict_is_one s workers h (Halted w) (Halted v) a b = ap Halted (same_halt h w v a.1 b.1)
verdict_is_one s workers h (Halted w) (Incomplete op) a b = absurd (halt_not_nobody h w a.1 b.1)
verdict_is_one s workers h (Halted w) (TooLate x y) a b = absurd (halt_not_nobody h w a.1 b.1.none_halted)
verdict_is_one s workers h (Halted w) (Accepted x y) a b = absurd (halt_not_nobody h w a.1 b.1.none_halted)
verdict_is_one s workers h (Incomplete op) (Violated v) a b = absurd (legal_no_break s workers h v a.0 b)
verdict_is_one s workers h (Incomplete op) (Halted w) a b = absurd (halt_not_nobody h w b.1 a.1)
verdict_is_one s workers h (Incomplete op) (Incomplete k) a b = ap Incomplete (same_unfinished s h op k a.2 b.2)
verdict_is_one s workers h (Incomplete op) (TooLate x y) a b = absurd (let f = b.1.all_finished op a.2.within in let g = a.2.left in cc)
verdict_is_one s workers h (Incomplete op) (Accepted x y) a b = absurd (let f = b.1.all_finished op a.2.within in let g = a.2.left in cc)
verdict_is_one s workers h (TooLate x y) (Violated v) a b = absurd (legal_no_break s workers h v a.0 b)
verdict_is_one s workers h (TooLate x y) (Halted w) a b = absurd (halt_not_nobody h w b.1 a.1.none_halted)
verdict_is_one s workers h (TooLate x y) (Incomplete k) a b = absurd (let f = a.1.all_finished k b.2.within in let g = b.2.left in cc)
verdict_is_one s workers h (TooLate x y) (TooLate i j) a b =
    let these : x ≡ i = a.2 ∙ sym b.2 in let all : y ≡ j = a.3 ∙ sym b.3 in ap (λ (n : ℕ). TooLate n y) these ∙ ap (λ (n : ℕ). TooLate i n) all
verdict_is_one s workers h (TooLate x y) (Accepted i j) a b = absurd (let less = a.4 in let more = b.4 in omega arith)
verdict_is_one s workers h (Accepted x y) (Violated v) a b = absurd (legal_no_break s workers h v a.0 b)
verdict_is_one s workers h (Accepted x y) (Halted w) a b = absurd (halt_not_nobody h w b.1 a.1.none_halted)
verdict_is_one s workers h (Accepted x y) (Incomplete k) a b = absurd (let f = a.1.all_finished k b.2.within in let g = b.2.left in cc)
verdict_is_one s workers h (Accepted x y) (TooLate i j) a b = absurd (let more = a.4 in let less = b.4 in omega arith)
verdict_is_one s workers h (Accepted x y) (Accepted i j) a b =
    let these : x ≡ i = a.2 ∙ sym b.2 in let all : y ≡ j = a.3 ∙ sym b.3 in ap (λ (n : ℕ). Accepted n y) these ∙ ap (λ (n : ℕ). Accepted i n) all

-- a history is accepted exactly where it is legal and complete and at least 95 of 100 operations start in time
pub accepted_exactly : AcceptedExactly
accepted_exactly s workers h = (
  λ one. let is : IsVerdict s workers h (Accepted one.0 one.1) = one.2 in (is.0, is.1, is.4),
  λ all. (on_time s h, length s.steps, (all.0, all.1, refl, refl, all.2)),
)
