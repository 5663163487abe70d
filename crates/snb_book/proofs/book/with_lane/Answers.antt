use Rattle.std.proofs.Common.{◌≡◌, ℕ, ◌+◌, List, Bool, true, refl, sym, ap, ◌∙◌, subst, Option}
use Rattle.snb_history.specs.declared.step.Step.{Step}
use Rattle.snb_history.specs.Schedule.{Schedule, step_of}
use Rattle.snb_book.specs.Book.{IsNext}
use Rattle.snb_book.specs.Heads.{TellsFirstBelow, earlier_where}
use Rattle.snb_book.proofs.Firsts.{at_next, below_next, below_skip, none_next, one_next}
use Rattle.snb_book.proofs.book.with_lane.Goals as goal

-- what is read of a lane with a head, where the steps are the schedule's
next_told : (s : Schedule) (P : ℕ → Type 0) (steps : List Step) (n : ℕ) (first result : Option ℕ) (op : ℕ) (counts : Bool) → steps ≡ s.steps → (counts ≡ true → P op) → (P op → counts ≡ true)
    → (step_of s op).lane ≡ n → ((j : ℕ) → P j → (step_of s j).lane ≡ n → op ≡ j) → result ≡ earlier_where steps first op counts
    → TellsFirstBelow s P n first → TellsFirstBelow s P (n + 1) result
next_told s P steps n first result op counts of_plan to from lane alone is told =
    subst (λ (o : Option ℕ). TellsFirstBelow s P (n + 1) o) (sym (is ∙ ap (λ (l : List Step). earlier_where l first op counts) of_plan))
    (below_next s P n first op counts to from lane alone told)

pub returns-in-None : goal.returns-in-None
returns-in-None c =
    let none = none_next c.args.schedule.now c.args.heads.now c.args.lane c.in-None.ensures in
    record {
      all = below_skip c.args.schedule.now (IsNext c.args.schedule.now c.args.heads.now) c.args.lane _ none c.requires.firsts.all;
      free = below_skip c.args.schedule.now _ c.args.lane _ (λ j p. none j p.0) c.requires.firsts.free;
      ready = below_skip c.args.schedule.now _ c.args.lane _ (λ j p. none j p.0) c.requires.firsts.ready;
    }

pub returns-in-Some : goal.returns-in-Some
returns-in-Some c =
    let at = c.in-Some.ensures in
    let next = at_next c.args.schedule.now c.args.heads.now c.args.lane c.in-Some.op at in
    let one = one_next c.args.schedule.now c.args.heads.now c.steps-steps.ensures.planned c.args.lane c.in-Some.op at in
    let free = c.is_free-free.ensures in
    let ready = c.is_ready-ready.ensures in
    record {
      all = next_told c.args.schedule.now (IsNext c.args.schedule.now c.args.heads.now) _ c.args.lane _ _ c.in-Some.op true c.steps-steps.ensures.value
          (λ q. next) (λ p. refl) at.in_lane one c.earlier.ensures c.requires.firsts.all;
      free = next_told c.args.schedule.now _ _ c.args.lane _ _ c.in-Some.op _ c.steps-steps.ensures.value
          (λ q. (next, free.0 q)) (λ p. free.1 p.1) at.in_lane (λ j p. one j p.0) c.earlier-in-Some.ensures c.requires.firsts.free;
      ready = next_told c.args.schedule.now _ _ c.args.lane _ _ c.in-Some.op _ c.steps-steps.ensures.value
          (λ q. (next, free.0 (ready.0 q).0, (ready.0 q).1)) (λ p. ready.1 (free.1 p.1, p.2)) at.in_lane (λ j p. one j p.0) c.earlier-in-Some-2.ensures c.requires.firsts.ready;
    }
