-- Where an operation stands in its lane.
use Rattle.std.proofs.Common.{◌≡◌, ℕ, zero, suc, ◌+◌, ◌-◌, ◌<◌, ◌≤◌, List, length, take, get_or, Bool, true, inl, inr, refl, sym, ap, ◌∙◌, subst, arith, Option, Some, None}
use Rattle.std.specs.Prelude.{◌==◌, count_by, slice_get, MatchOption}
use Rattle.std.proofs.lemmas.Bool.{cases_Bool, cases_lt, cases_order, eqb-true}
use Rattle.std.proofs.lemmas.List.Sums.{count_by_more_yes, count_by_more_no}
use Rattle.std.proofs.lemmas.Option.{slice_get-get_or}
use Rattle.snb_history.specs.declared.step.Step.{Step}
use Rattle.snb_history.specs.declared.step.LaneKind.{LaneKind}
use Rattle.snb_history.specs.declared.step.LaneKind.TheVariants.{Person}
use Rattle.snb_history.specs.Schedule.{Schedule, no_step, step_of, count_before, IsOperation, IsBefore, IsInForum, IsPlaced, IsPlanned}
use Rattle.snb_book.specs.Heads.{HasNoPredecessor, IsAtPlace, IsPassed, IsPredecessor}
use Rattle.snb_history.proofs.Laws.{planned_is_placed}

-- a count above p was once p, where one more passed
count_passes : (q : Step → Bool) (xs : List Step) (p n : ℕ) → n ≤ length xs → p < count_by q (take n xs)
    → (j : ℕ) × (j < n) × (q (get_or xs j no_step) ≡ true) × (count_by q (take j xs) ≡ p)
count_passes q xs p zero within lt = absurd (omega arith)
count_passes q xs p (suc n) within lt =
    let next : n + 1 ≡ suc n = omega arith in
    let in_list : n < length xs = omega arith in
    elim (cases_Bool (q (get_or xs n no_step))) [
      | inl hit ↦
          let c : count_by q (take (suc n) xs) ≡ count_by q (take n xs) + 1 =
          subst (λ (i : ℕ). count_by q (take i xs) ≡ count_by q (take n xs) + 1) next (count_by_more_yes q xs n no_step in_list hit) in
          elim (cases_lt p (count_by q (take n xs))) [
            | inl below ↦
                let r = count_passes q xs p n (omega arith) below in
                (r.0, let l : r.0 < n = r.1 in omega arith, r.2, r.3)
            | inr here ↦ (n, omega arith, hit, omega arith)
          ]
      | inr miss ↦
          let c : count_by q (take (suc n) xs) ≡ count_by q (take n xs) =
          subst (λ (i : ℕ). count_by q (take i xs) ≡ count_by q (take n xs)) next (count_by_more_no q xs n no_step in_list miss) in
          let r = count_passes q xs p n (omega arith) (omega arith) in
          (r.0, let l : r.0 < n = r.1 in omega arith, r.2, r.3)
    ]

-- each earlier place of a lane is that of an operation before
pub earlier_place : (s : Schedule) → IsPlanned s → (k p : ℕ) → IsOperation s k → p < (step_of s k).place
    → (j : ℕ) × IsBefore s j k × ((step_of s j).place ≡ p)
earlier_place s planned k p within lt =
    let lane : ℕ = (step_of s k).lane in
    let counted : (step_of s k).place ≡ count_before s lane k = planned.placed k within in
    let r = count_passes (λ step. step.lane == lane) s.steps p k (omega arith) (omega arith) in
    let below : r.0 < k = r.1 in
    let same : (step_of s r.0).lane ≡ lane = eqb-true (step_of s r.0).lane lane r.2 in
    let place : (step_of s r.0).place ≡ count_before s lane r.0 = planned.placed r.0 (omega arith) ∙ ap (λ l. count_before s l r.0) same in
    (r.0, (below, same), place ∙ r.3)

-- a place of a lane is that of one operation alone
pub same_place : (s : Schedule) → IsPlanned s → (j k : ℕ) → IsOperation s j → IsOperation s k
    → (step_of s j).lane ≡ (step_of s k).lane → (step_of s j).place ≡ (step_of s k).place → j ≡ k
same_place s planned j k within_j within_k lane place =
    let placed : IsPlaced s = planned_is_placed s planned in
    elim (cases_order j k) [
      | inl same ↦ same
      | inr apart ↦ elim apart [
        | inl lower ↦ absurd (let a = placed.rises j k lower within_k lane in omega arith)
        | inr higher ↦ absurd (let a = placed.rises k j higher within_j (sym lane) in omega arith)
      ]
    ]

-- the one that stands a place before is the last before
pub place_before : (s : Schedule) → IsPlanned s → (op place j : ℕ) → IsOperation s op → IsInForum s op → (step_of s op).place ≡ place + 1
    → IsAtPlace s (step_of s op).lane place j → IsPredecessor s op j
place_before s planned op place j within forum here at = record {
  forum = forum;
  before = (lower, at.in_lane);
  last = λ i before.
      elim (cases_lt j i) [
        | inl less ↦ absurd (
            let i_in : IsOperation s i = (let l = before.0 in omega arith) in
            let a = placed.rises j i less i_in (at.in_lane ∙ sym before.1) in
            let b = placed.rises i op before.0 within before.1 in
            let p = at.placed in
            omega arith)
        | inr more ↦ more
      ];
}
  where
    placed : IsPlaced s
    placed = planned_is_placed s planned

    lower : j < op
    lower =
        elim (cases_order j op) [
          | inl same ↦ absurd (let e = ap (λ i. (step_of s i).place) same in let p = at.placed in omega arith)
          | inr apart ↦ elim apart [
            | inl less ↦ less
            | inr more ↦ absurd (let a = placed.rises op j more at.within (sym at.in_lane) in let p = at.placed in omega arith)
          ]
        ]

-- none stands before the first place
pub none_before : (s : Schedule) → IsPlanned s → (op : ℕ) → IsOperation s op → (step_of s op).place ≡ 0 → (j : ℕ) → ¬ IsBefore s j op
none_before s planned op within first j before =
    let a = (planned_is_placed s planned).rises j op before.0 within before.1 in omega arith

-- what comes before is one
pub one_predecessor : (s : Schedule) (op i j : ℕ) → IsPredecessor s op i → IsPredecessor s op j → i ≡ j
one_predecessor s op i j a b = let x = a.last j b.before in let y = b.last i a.before in omega arith

-- what stands in a forum lane after another has one just before it
pub has_predecessor : (s : Schedule) → IsPlanned s → (op j : ℕ) → IsOperation s op → IsInForum s op → IsBefore s j op → (p : ℕ) × IsPredecessor s op p
has_predecessor s planned op j within forum before =
    let a = (planned_is_placed s planned).rises j op before.0 within before.1 in
    by_place (step_of s op).place refl (omega arith)
  where
    by_place : (p : ℕ) → (step_of s op).place ≡ p → 0 < p → (k : ℕ) × IsPredecessor s op k
    by_place zero q above = absurd (omega arith)
    by_place (suc p) q above =
        let r = earlier_place s planned op p within (omega arith) in
        let lower : r.0 < op = r.1.0 in
        (r.0, place_before s planned op p r.0 within forum (omega arith) (record { within = omega arith; in_lane = r.1.1; placed = r.2 }))

-- what is found a place before, by the step that is read
pub predecessor_told : (s : Schedule) → IsPlanned s → (op : ℕ) (step : Step) → IsOperation s op → step ≡ step_of s op → IsInForum s op → 0 < step.place
    → (found : Option ℕ) → MatchOption found (IsPassed s step.lane (step.place - 1)) (λ j. IsAtPlace s step.lane (step.place - 1) j)
    → MatchOption found (HasNoPredecessor s op) (λ j. IsPredecessor s op j)
predecessor_told s planned op step within is forum above found told =
    by_found found (subst (λ (x : Step). MatchOption found (IsPassed s x.lane (x.place - 1)) (λ j. IsAtPlace s x.lane (x.place - 1) j)) is told)
  where
    later : 0 < (step_of s op).place
    later = subst (λ (x : Step). 0 < x.place) is above

    by_found : (o : Option ℕ) → MatchOption o (IsPassed s (step_of s op).lane ((step_of s op).place - 1)) (λ j. IsAtPlace s (step_of s op).lane ((step_of s op).place - 1) j)
        → MatchOption o (HasNoPredecessor s op) (λ j. IsPredecessor s op j)
    by_found None passed = absurd (let a = passed.before op within refl in let l = later in omega arith)
    by_found (Some j) at = place_before s planned op ((step_of s op).place - 1) j within forum (let l = later in omega arith) at

-- the kind of a lane, by the lists that are read
pub kind_told : (s : Schedule) → IsPlanned s → (op : ℕ) (steps : List Step) (kinds : List LaneKind) (kind : LaneKind) → IsOperation s op → steps ≡ s.steps → kinds ≡ s.kinds
    → get_or kinds (get_or steps op no_step).lane Person ≡ kind → slice_get s.kinds (step_of s op).lane ≡ Some kind
kind_told s planned op steps kinds kind within of_steps of_kinds is =
    let here : get_or s.kinds (step_of s op).lane Person ≡ kind =
    subst (λ (l : List LaneKind). get_or l (step_of s op).lane Person ≡ kind) of_kinds
    (subst (λ (l : List Step). get_or kinds (get_or l op no_step).lane Person ≡ kind) of_steps is) in
    slice_get-get_or s.kinds (step_of s op).lane Person (planned.in_lanes op within) ∙ ap Some here
