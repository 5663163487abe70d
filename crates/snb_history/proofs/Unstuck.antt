-- Where nobody has an operation in hand, the least unstarted operation may start.
use Rattle.std.proofs.Common.{◌≡◌, ℕ, ◌<◌, ◌≤◌, length, true, false, inl, inr, arith, Some}
use Rattle.std.proofs.lemmas.Bool.{cases_Bool, cases_lt}
use Rattle.snb_history.specs.declared.event.Event.TheVariants.{Start}
use Rattle.snb_history.specs.Schedule.{IsOperation, step_of}
use Rattle.snb_history.specs.History.{started, finished, hand, last}
use Rattle.snb_history.specs.Rules.{Rule, V1, V2, V3, V4, V5, V6, V7, V8, V9, Obeys, Fits}
use Rattle.snb_history.specs.Laws.{NeverStuck}
use Rattle.snb_history.proofs.Times.{is_dependency-within}
use Rattle.snb_history.proofs.Held.{KeepsAt, keeps_legal}
use Rattle.snb_base.proofs.Laws.{IsLeastFailing, least_failing}

-- where nobody has an operation in hand, some unstarted operation may start
pub never_stuck : NeverStuck
never_stuck s workers h timely legal idle running k within fresh =
    elim (least_failing (started h) (length s.steps)) [
      | inl all ↦ absurd (let e : started h k ≡ true = all k within in cc)
      | inr found ↦ (found.0, found.1.within, found.1.fails, earliest found.0 found.1, fits found.0 found.1)
    ]
  where
    keeps : KeepsAt h
    keeps = keeps_legal s workers h legal

    -- what is started is finished, since nobody holds it
    done : (j : ℕ) → started h j ≡ true → finished h j ≡ true
    done j begun =
        elim (cases_Bool (finished h j)) [
          | inl over ↦ over
          | inr open_yet ↦ absurd (let w = keeps.open_held j begun open_yet in let i = idle w.0 in let held : hand h w.0 ≡ Some j = w.1 in cc)
        ]

    rule : (op : ℕ) → IsLeastFailing (started h) (length s.steps) op → (worker at : ℕ) → worker < workers → (step_of s op).due ≤ at → last h ≤ at → (r : Rule) → Obeys s workers h (Start op worker at) r
    rule op first worker at known due later V1 = (first.within, record { known = known; running = running worker })
    rule op first worker at known due later V2 = record { fresh = first.fails; led = λ j before. first.before j before.0 }
    rule op first worker at known due later V3 = λ forum j before. done j (first.before j before.0)
    rule op first worker at known due later V4 = due
    rule op first worker at known due later V5 = λ dependent j dep no_later.
        done j (elim (cases_lt j op) [
          | inl before ↦ first.before j before
          | inr after ↦ absurd (let a = timely.numbered op j after (is_dependency-within s j dep) in let b = timely.below op dependent in omega arith)
        ])
    rule op first worker at known due later V6 = idle worker
    rule op first worker at known due later V7 = tt
    rule op first worker at known due later V8 = tt
    rule op first worker at known due later V9 = later

    earliest : (op : ℕ) → IsLeastFailing (started h) (length s.steps) op → (j : ℕ) → IsOperation s j → started h j ≡ false → (step_of s op).due ≤ (step_of s j).due
    earliest op first j within_j fresh_j =
        timely.due_rises op j
        (elim (cases_lt j op) [
          | inl below ↦ absurd (let b : started h j ≡ true = first.before j below in cc)
          | inr above ↦ above
        ])
        within_j

    fits : (op : ℕ) → IsLeastFailing (started h) (length s.steps) op → (worker at : ℕ) → worker < workers → (step_of s op).due ≤ at → last h ≤ at → Fits s workers h (Start op worker at)
    fits op first worker at known due later = record { obeys = rule op first worker at known due later }
