-- Every history has a verdict.
use Rattle.std.proofs.Common.{ℕ, suc, ◌*◌, ◌≤◌, List, [], ◌∷◌, ◌++◌, length, ◌⊎◌, inl, inr, refl, sym, ap, ◌∙◌, subst, append_assoc, length-append, arith}
use Rattle.std.specs.Prelude.{All}
use Rattle.std.proofs.lemmas.Bool.{cases_lt}
use Rattle.std.proofs.lemmas.List.{get_or_append_left}
use Rattle.std.proofs.Math.Seq.{get_or-append_seam}
use Rattle.snb_base.proofs.Laws.{by_push, least_failing}
use Rattle.snb_history.specs.declared.event.Event.{Event}
use Rattle.snb_history.specs.declared.event.Event.TheVariants.{Start, Finish, Halt}
use Rattle.snb_schema.specs.declared.limits.TheConstants.{MAX_AT}
use Rattle.snb_history.specs.Schedule.{Schedule}
use Rattle.snb_history.specs.History.{finished, moment}
use Rattle.snb_history.specs.Rules.{Rule, V1, V2, V3, V4, V5, V6, V7, V8, V9, rule_number, Obeys, Fits, IsLegal}
use Rattle.snb_history.specs.Violation.{told_at}
use Rattle.snb_history.proofs.Laws.{obeys, halted-push, IsLegal-nil, IsLegal-push}
use Rattle.snb_book.specs.Kept.{Kept}
use Rattle.snb_auditor.specs.declared.verdict.Violation.{Violation}
use Rattle.snb_auditor.specs.declared.verdict.Verdict.{Verdict}
use Rattle.snb_auditor.specs.declared.verdict.Verdict.TheVariants.{Violated, Halted, Incomplete, TooLate, Accepted}
use Rattle.snb_auditor.specs.Verdicts.{IsFirstHalt, IsVerdict, IsViolation, NobodyHalted, on_time}
use Rattle.snb_auditor.specs.VerdictLaws.{VerdictExists}
use Rattle.snb_auditor.proofs.Judged.{Passes, passes_none, passes_more, passes_all}

-- the event fits, or a first rule doesn't hold
abbrev FitsOrNot : Kept → Event → Type 0
FitsOrNot b e = Fits b.schedule b.workers b.history e ⊎ ((r : Rule) × (¬ Obeys b.schedule b.workers b.history e r) × Passes b e (rule_number r))

-- one rule is tried, and then the others
try_rule : (b : Kept) (e : Event) (r : Rule) → (Passes b e (suc (rule_number r)) → FitsOrNot b e) → Passes b e (rule_number r) → FitsOrNot b e
try_rule b e r others passes =
    elim (obeys b.schedule b.workers b.history e r) [
      | inl holds ↦ others (passes_more b e r passes holds)
      | inr fails ↦ inr (r, fails, passes)
    ]

fits_or_not : (b : Kept) (e : Event) → FitsOrNot b e
fits_or_not b e =
    try_rule b e V1 (try_rule b e V2 (try_rule b e V3 (try_rule b e V4 (try_rule b e V5 (try_rule b e V6 (try_rule b e V7 (try_rule b e V8 (try_rule b e V9
    (λ passes. inl (passes_all b e passes))))))))))
    (passes_none b e)

-- the violation of the first rule that fails
violated : (s : Schedule) (workers : ℕ) (h : List Event) (e : Event) (r : Rule) → IsLegal s workers h → (¬ Obeys s workers h e r)
    → Passes (record { schedule = s; workers = workers; history = h }) e (rule_number r) → (v : Violation) × IsVerdict s workers (h ++ e ∷ []) (Violated v)
violated s workers h e r legal fails passes =
    let v : Violation =
    record { event = length h; rule = rule_number r; needs = (told_at s workers h e r).needs; found = (told_at s workers h e r).found } in
    let is : IsViolation s workers h e v =
    record { place = refl; first = r; numbered = refl; breaks = record { broken = fails; before = passes; values_are = refl } } in
    (v, (h, e, [], refl, legal, is))

-- a history is legal, or has a first event that doesn't fit
legal_or_not : (s : Schedule) (workers : ℕ) (h : List Event) → All (λ e. moment e ≤ MAX_AT) h → IsLegal s workers h ⊎ ((v : Violation) × IsVerdict s workers h (Violated v))
legal_or_not s workers h small =
    by_push (λ g. All (λ e. moment e ≤ MAX_AT) g → IsLegal s workers g ⊎ ((v : Violation) × IsVerdict s workers g (Violated v)))
    (λ none. inl (IsLegal-nil s workers))
    (λ g e before all. elim (before (front g e all)) [
      | inr found ↦ inr (
          let v : Violation = found.0 in
          let is : IsVerdict s workers g (Violated v) = found.1 in
          (v, (is.0, is.1, is.2 ++ e ∷ [], sym (append_assoc is.0 (is.1 ∷ is.2) (e ∷ [])) ∙ ap (λ (l : List Event). l ++ e ∷ []) is.3, is.4, is.5)))
      | inl legal ↦ elim (fits_or_not (record { schedule = s; workers = workers; history = g }) e) [
        | inl fits ↦ inl (IsLegal-push s workers g e legal fits (last_small g e all))
        | inr broken ↦ inr (violated s workers g e broken.0 legal broken.1 broken.2)
      ]
    ])
    h small
  where
    front : (g : List Event) (e : Event) → All (λ x. moment x ≤ MAX_AT) (g ++ e ∷ []) → All (λ x. moment x ≤ MAX_AT) g
    front g e all k d lt =
        subst (λ (x : Event). moment x ≤ MAX_AT) (get_or_append_left g (e ∷ []) d k lt) (all k d (let size = length-append g (e ∷ []) in omega arith))

    last_small : (g : List Event) (e : Event) → All (λ x. moment x ≤ MAX_AT) (g ++ e ∷ []) → moment e ≤ MAX_AT
    last_small g e all =
        subst (λ (x : Event). moment x ≤ MAX_AT) (get_or-append_seam g e [] e) (all (length g) e (let size = length-append g (e ∷ []) in omega arith))

-- nobody has halted, or somebody has first
halted_or_not : (h : List Event) → NobodyHalted h ⊎ ((w : ℕ) × IsFirstHalt h w)
halted_or_not h =
    by_push (λ g. NobodyHalted g ⊎ ((w : ℕ) × IsFirstHalt g w))
    (inl (λ w. refl))
    (λ g e before. elim before [
      | inr found ↦ inr (
          let is : IsFirstHalt g found.0 = found.1 in
          (found.0, (is.0, is.1 ++ e ∷ [], sym (append_assoc is.0 (Halt found.0 ∷ is.1) (e ∷ [])) ∙ ap (λ (l : List Event). l ++ e ∷ []) is.2, is.3)))
      | inl nobody ↦ by_event g e nobody
    ])
    h
  where
    by_event : (g : List Event) (e : Event) → NobodyHalted g → NobodyHalted (g ++ e ∷ []) ⊎ ((w : ℕ) × IsFirstHalt (g ++ e ∷ []) w)
    by_event g (Start op worker at) nobody = inl (λ w. halted-push g (Start op worker at) w ∙ nobody w)
    by_event g (Finish op worker at front) nobody = inl (λ w. halted-push g (Finish op worker at front) w ∙ nobody w)
    by_event g (Halt worker) nobody = inr (worker, (g, [], refl, nobody))

-- the verdict on a legal history
of_legal : (s : Schedule) (workers : ℕ) (h : List Event) → IsLegal s workers h → (verdict : Verdict) × IsVerdict s workers h verdict
of_legal s workers h legal =
    elim (halted_or_not h) [
      | inr found ↦ (Halted found.0, (legal, found.1))
      | inl nobody ↦ elim (least_failing (finished h) (length s.steps)) [
        | inr found ↦ (Incomplete found.0, (legal, nobody, record { within = found.1.within; left = found.1.fails; least = found.1.before }))
        | inl over ↦ elim (cases_lt (100 * on_time s h) (95 * length s.steps)) [
          | inl late ↦ (TooLate (on_time s h) (length s.steps), (legal, record { all_finished = over; none_halted = nobody }, refl, refl, late))
          | inr enough ↦ (Accepted (on_time s h) (length s.steps), (legal, record { all_finished = over; none_halted = nobody }, refl, refl, enough))
        ]
      ]
    ]

-- every history whose moments aren't too great has a verdict
pub verdict_exists : VerdictExists
verdict_exists s workers h small =
    elim (legal_or_not s workers h small) [
      | inl legal ↦ of_legal s workers h legal
      | inr found ↦ (Violated found.0, found.1)
    ]
