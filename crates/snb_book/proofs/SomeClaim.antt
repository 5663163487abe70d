-- A claim has an answer.
use Rattle.std.proofs.Common.{◌≡◌, ℕ, zero, suc, ◌<◌, ◌≤◌, List, [], ◌∷◌, length, Bool, true, false, not, ◌||◌, inl, inr, refl, sym, ◌∙◌, subst, arith, Option, Some, None, eqb}
use Rattle.std.specs.Prelude.{◌⊎◌, ◌==◌}
use Rattle.std.proofs.lemmas.Bool.{cases_lt, cases_order, eq-eqb, eqb-true}
use Rattle.snb_history.specs.declared.event.Event.{Event}
use Rattle.snb_history.specs.declared.event.Event.TheVariants.{Start, Finish, Halt}
use Rattle.snb_history.specs.Schedule.{Schedule, step_of, IsOperation, IsBefore}
use Rattle.snb_history.specs.History.{started, finished, halted, hand, holder}
use Rattle.snb_history.specs.Completion.{completion}
use Rattle.snb_history.specs.Rules.{V2, V3, V5, IsLegal, LeadsLane, LaneIsFinished, IsCleared}
use Rattle.snb_book.specs.declared.claim.Claim.{Claim}
use Rattle.snb_book.specs.declared.claim.Claim.TheVariants.{Halted, AllStarted, Busy, NotDue, Go, Blocked}
use Rattle.snb_book.specs.Claims.{IsPlanHead, IsDueHead, IsAdmitted, ComesFirst, IsFirst, IsUnderWay, IsClaim}
use Rattle.snb_book.specs.ClaimLaws.{ClaimExists}
use Rattle.snb_base.proofs.Laws.{both, Decided, IsLeastFailing, least_failing}
use Rattle.snb_book.proofs.Blocking.{blocked_below}
use Rattle.snb_history.proofs.Laws.{holder_holds, keeps_legal, obeys}

is_plan_head : (s : Schedule) (h : List Event) (k : ℕ) → Decided (IsPlanHead s h k)
is_plan_head s h k =
    let within : Decided (IsOperation s k) = elim (cases_lt k (length s.steps)) [ inl less ↦ inl less | inr more ↦ inr (λ q. omega arith) ] in
    let head : Decided (LeadsLane s h k) = obeys s 0 h (Start k 0 0) V2 in
    both within head

is_due_head : (s : Schedule) (h : List Event) (at k : ℕ) → Decided (IsDueHead s h at k)
is_due_head s h at k =
    elim (is_plan_head s h k) [
      | inr not_head ↦ inr (λ due. not_head (due.0, due.1))
      | inl head ↦ elim (cases_lt at (step_of s k).due) [
        | inl early ↦ inr (λ due. let d = due.2 in omega arith)
        | inr late ↦ inl (head.0, head.1, late)
      ]
    ]

is_not_busy : (s : Schedule) (h : List Event) (k : ℕ) → Decided (LaneIsFinished s h k)
is_not_busy s h k = obeys s 0 h (Start k 0 0) V3

is_admitted : (s : Schedule) (h : List Event) (k : ℕ) → Decided (IsAdmitted s h k)
is_admitted s h k = let cleared : Decided (IsCleared s h k) = obeys s 0 h (Start k 0 0) V5 in both (is_not_busy s h k) cleared

-- of two one comes first
order : (s : Schedule) (a b : ℕ) → ComesFirst s a b ⊎ ComesFirst s b a
order s a b =
    elim (cases_order (step_of s a).due (step_of s b).due) [
      | inl same ↦ elim (cases_lt (step_of s b).lane (step_of s a).lane) [
        | inl lower ↦ inr (inr (sym same, omega arith))
        | inr higher ↦ inl (inr (same, higher))
      ]
      | inr apart ↦ elim apart [ inl lower ↦ inl (inl lower) | inr higher ↦ inr (inl higher) ]
    ]

chain : (s : Schedule) (a b c : ℕ) → ComesFirst s a b → ComesFirst s b c → ComesFirst s a c
chain s a b c (inl p) (inl q) = inl (omega arith)
chain s a b c (inl p) (inr q) = inl (let e = q.0 in omega arith)
chain s a b c (inr p) (inl q) = inl (let e = p.0 in omega arith)
chain s a b c (inr p) (inr q) = inr (p.0 ∙ q.0, let x = p.1 in let y = q.1 in omega arith)

-- of the numbers below n that have the property, the first
record IsFirstOf (s : Schedule) (P : ℕ → Type 0) (n op : ℕ) : Type 0 where
  pub has : P op
  pub first : (j : ℕ) → j < n → P j → ComesFirst s op j

first_of : (s : Schedule) (P : ℕ → Type 0) → ((k : ℕ) → Decided (P k)) → (n : ℕ) → ((k : ℕ) → k < n → P k → ⊥) ⊎ ((op : ℕ) × IsFirstOf s P n op)
first_of s P decide zero = inl (λ k lt p. absurd (omega arith))
first_of s P decide (suc n) =
    elim (first_of s P decide n) [
      | inl none ↦ elim (decide n) [
        | inl p ↦ inr (
          n,
          record {
            has = p;
            first = λ j lt q. elim (cases_lt j n) [
              | inl below ↦ absurd (none j below q)
              | inr here ↦ (let e : n ≡ j = omega arith in subst (λ (i : ℕ). ComesFirst s n i) e (inr (refl, omega arith)))
            ];
          },
        )
        | inr not_p ↦ inl (λ k lt q. elim (cases_lt k n) [
          | inl below ↦ none k below q
          | inr here ↦ (let e : k ≡ n = omega arith in not_p (subst P e q))
        ])
      ]
      | inr found ↦
          let f : IsFirstOf s P n found.0 = found.1 in
          elim (decide n) [
            | inr not_p ↦ inr (
              found.0,
              record {
                has = f.has;
                first = λ j lt q. elim (cases_lt j n) [
                  | inl below ↦ f.first j below q
                  | inr here ↦ absurd (let e : j ≡ n = omega arith in not_p (subst P e q))
                ];
              },
            )
            | inl p ↦ elim (order s found.0 n) [
              | inl stays ↦ inr (
                found.0,
                record {
                  has = f.has;
                  first = λ j lt q. elim (cases_lt j n) [
                    | inl below ↦ f.first j below q
                    | inr here ↦ (let e : n ≡ j = omega arith in subst (λ (i : ℕ). ComesFirst s found.0 i) e stays)
                  ];
                },
              )
              | inr goes ↦ inr (
                n,
                record {
                  has = p;
                  first = λ j lt q. elim (cases_lt j n) [
                    | inl below ↦ chain s n found.0 j goes (f.first j below q)
                    | inr here ↦ (let e : n ≡ j = omega arith in subst (λ (i : ℕ). ComesFirst s n i) e (inr (refl, omega arith)))
                  ];
                },
              )
            ]
          ]
    ]

-- the first operation with a property of operations, or none
first_such : (s : Schedule) (P : ℕ → Type 0) → ((k : ℕ) → Decided (P k)) → ((k : ℕ) → P k → IsOperation s k)
    → ((k : ℕ) → ¬ P k) ⊎ ((op : ℕ) × IsFirst s P op)
first_such s P decide within =
    elim (first_of s P decide (length s.steps)) [
      | inl none ↦ inl (λ k p. none k (within k p) p)
      | inr found ↦ (let f : IsFirstOf s P (length s.steps) found.0 = found.1 in inr (found.0, (f.has, λ j q. f.first j (within j q) q)))
    ]

-- somebody has halted or nobody
any_halted : (h : List Event) → ((w : ℕ) → halted h w ≡ false) ⊎ ((w : ℕ) × (halted h w ≡ true))
any_halted [] = inl (λ w. refl)
any_halted (Start op worker at ∷ h) = any_halted h
any_halted (Finish op worker at front ∷ h) = any_halted h
any_halted (Halt worker ∷ h) = inr (worker, let e = eq-eqb worker worker refl in grind arith)

-- an operation that is busy waits for one before it, which somebody holds
waits_for : (s : Schedule) (workers : ℕ) (h : List Event) (op : ℕ) → IsLegal s workers h → LeadsLane s h op → ¬ LaneIsFinished s h op
    → (by_whom : ℕ) × ((j : ℕ) × IsBefore s j op × (finished h j ≡ false) × (holder h j ≡ Some by_whom))
waits_for s workers h op legal head busy =
    elim (least_failing p op) [
      | inl all ↦ absurd (busy (λ forum j before. let a = all j before.0 in let b = eq-eqb (step_of s j).lane (step_of s op).lane before.1 in grind arith))
      | inr found ↦ held found.0 found.1
    ]
  where
    p : ℕ → Bool
    p j = not ((step_of s j).lane == (step_of s op).lane) || finished h j

    held : (j : ℕ) → IsLeastFailing p op j
        → (by_whom : ℕ) × ((i : ℕ) × IsBefore s i op × (finished h i ≡ false) × (holder h i ≡ Some by_whom))
    held j f =
        let a = f.fails in
        let lane : eqb (step_of s j).lane (step_of s op).lane ≡ true = grind arith in
        let open_yet : finished h j ≡ false = grind arith in
        let before : IsBefore s j op = (f.within, eqb-true (step_of s j).lane (step_of s op).lane lane) in
        let w = (keeps_legal s workers h legal).open_held j (head.led j before) open_yet in
        (w.0, (j, before, open_yet, (holder_holds s workers h legal j w.0).1 w.1))

pub claim_exists : ClaimExists
claim_exists s workers h worker at legal =
    elim (any_halted h) [
      | inr halts ↦ (Halted, halts)
      | inl running ↦ elim (least_failing (started h) (length s.steps)) [
        | inl all ↦ (AllStarted, (running, all))
        | inr found ↦ by_hand running found.0 found.1 (hand h worker) refl
      ]
    ]
  where
    -- the least unstarted operation is a head
    least_head : (k : ℕ) → IsLeastFailing (started h) (length s.steps) k → IsPlanHead s h k
    least_head k f = (f.within, record { fresh = f.fails; led = λ j before. f.before j before.0 })

    -- none of the due heads is admitted
    none_admitted : IsUnderWay s h worker → (first : ℕ) → IsFirst s (IsDueHead s h at) first → ((j : ℕ) → IsDueHead s h at j → ¬ IsAdmitted s h j)
        → (c : Claim) × IsClaim s h worker at c
    none_admitted under_way first is none =
        elim (first_such s (λ j. IsDueHead s h at j × LaneIsFinished s h j) (λ j. both (is_due_head s h at j) (is_not_busy s h j)) (λ j p. p.0.0)) [
          | inr found ↦ (Blocked found.0 (step_of s found.0).t_d (completion s h), (under_way, none, found.1, refl, refl, blocked_below s h at found.0 none found.1.0.0 found.1.0.1))
          | inl all_busy ↦
              let w = waits_for s workers h first legal is.0.1 (λ free. all_busy first (is.0, free)) in (
                Busy first w.0,
                inr (record {
                  under_way = under_way;
                  all_busy = λ j due free. all_busy j (due, free);
                  first = is;
                  held = w.1;
                }),
              )
        ]

    under : IsUnderWay s h worker → (k : ℕ) → IsPlanHead s h k → (c : Claim) × IsClaim s h worker at c
    under under_way k head =
        elim (first_such s (IsDueHead s h at) (is_due_head s h at) (λ j p. p.0)) [
          | inl none ↦ elim (first_such s (IsPlanHead s h) (is_plan_head s h) (λ j p. p.0)) [
            | inl no_head ↦ absurd (no_head k head)
            | inr found ↦
                let f : IsFirst s (IsPlanHead s h) found.0 = found.1 in (
                  NotDue (step_of s found.0).due,
                  (
                    under_way,
                    λ j other. elim (cases_lt at (step_of s j).due) [ inl early ↦ early | inr late ↦ absurd (none j (other.0, other.1, late)) ],
                    (found.0, f.0, refl, λ j other. no_later found.0 j (f.1 j other)),
                  ),
                )
          ]
          | inr first ↦ elim (first_such s (λ j. IsDueHead s h at j × IsAdmitted s h j) (λ j. both (is_due_head s h at j) (is_admitted s h j)) (λ j p. p.0.0)) [
            | inr found ↦ (Go (record { op = found.0; worker = worker; start = length h }), (under_way, found.1, refl, refl))
            | inl none ↦ none_admitted under_way first.0 first.1 (λ j due free. none j (due, free))
          ]
        ]
      where
        no_later : (a b : ℕ) → ComesFirst s a b → (step_of s a).due ≤ (step_of s b).due
        no_later a b (inl less) = omega arith
        no_later a b (inr same) = (let e = same.0 in omega arith)

    by_hand : ((w : ℕ) → halted h w ≡ false) → (k : ℕ) → IsLeastFailing (started h) (length s.steps) k → (o : Option ℕ) → hand h worker ≡ o
        → (c : Claim) × IsClaim s h worker at c
    by_hand running k f (Some op) q =
        (Busy op worker, inl (record { running = running; left = (k, f.within, f.fails); held = q; own = refl }))
    by_hand running k f None q =
        under (record { running = running; left = (k, f.within, f.fails); free = q }) k (least_head k f)
