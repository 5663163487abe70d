-- What is in hand, started and finished in a legal history.
use Rattle.std.proofs.Common.{◌≡◌, ℕ, List, [], ◌∷◌, ◌++◌, Bool, true, false, cond, inl, inr, sym, ◌∙◌, arith, Option, Some, None, eqb}
use Rattle.std.proofs.lemmas.Bool.{cases_eq}
use Rattle.std.proofs.lemmas.Bool.Decides.{nat_tests}
use Rattle.snb_history.specs.declared.event.Event.{Event}
use Rattle.snb_history.specs.declared.event.Event.TheVariants.{Start, Finish, Halt}
use Rattle.snb_history.specs.Schedule.{Schedule}
use Rattle.snb_history.specs.History.{starts, finishes, acts, started, finished, hand}
use Rattle.snb_history.specs.Rules.{Fits, IsLegal, V2, V6, V7}
use Rattle.snb_history.proofs.Pushes.{list_any-push, find-reverse_push}
use Rattle.snb_history.proofs.Histories.{IsLegal-front, Fits-last}
use Rattle.snb_base.proofs.Laws.{by_push}

-- one more event starts what it starts, and leaves the rest
pub started-push : (h : List Event) (e : Event) (k : ℕ) → started (h ++ e ∷ []) k ≡ cond (starts k e) true (started h k)
started-push h e k = list_any-push (starts k) h e

-- one more event finishes what it finishes, and leaves the rest
pub finished-push : (h : List Event) (e : Event) (k : ℕ) → finished (h ++ e ∷ []) k ≡ cond (finishes k e) true (finished h k)
finished-push h e k = list_any-push (finishes k) h e

-- what the worker has in hand after one more event
abbrev pub hand_after : Event → ℕ → Option ℕ → Option ℕ
hand_after (Start op worker at) w held = cond (eqb worker w) (Some op) held
hand_after (Finish op worker at front) w held = cond (eqb worker w) None held
hand_after (Halt worker) w held = held

-- what one more event leaves in a worker's hand
pub hand-push : (h : List Event) (e : Event) (w : ℕ) → hand (h ++ e ∷ []) w ≡ hand_after e w (hand h w)
hand-push h (Start op worker at) w = let e = find-reverse_push (acts w) h (Start op worker at) in grind (arith, nat_tests)
hand-push h (Finish op worker at front) w = let e = find-reverse_push (acts w) h (Finish op worker at front) in grind (arith, nat_tests)
hand-push h (Halt worker) w = let e = find-reverse_push (acts w) h (Halt worker) in grind (arith, nat_tests)

-- what a legal history keeps: of what is started, what is finished and what each worker has in hand
pub record Keeps (begun done : ℕ → Bool) (held : ℕ → Option ℕ) : Type 0 where
  pub begun_first : (k : ℕ) → done k ≡ true → begun k ≡ true
  pub held_begun : (w k : ℕ) → held w ≡ Some k → begun k ≡ true
  pub held_open : (w k : ℕ) → held w ≡ Some k → done k ≡ false
  pub held_once : (v w k : ℕ) → held v ≡ Some k → held w ≡ Some k → v ≡ w
  pub open_held : (k : ℕ) → begun k ≡ true → done k ≡ false → (w : ℕ) × (held w ≡ Some k)

some-none : (k : ℕ) → Some k ≡ None → ⊥
some-none k q = cc

Keeps-start : {b d b' d' : ℕ → Bool} {held held' : ℕ → Option ℕ} (op worker : ℕ) → Keeps b d held → b op ≡ false → held worker ≡ None
    → ((k : ℕ) → b' k ≡ cond (eqb op k) true (b k)) → ((k : ℕ) → d' k ≡ d k) → ((w : ℕ) → held' w ≡ cond (eqb worker w) (Some op) (held w))
    → Keeps b' d' held'
Keeps-start {b} {d} {b'} {d'} {held} {held'} op worker keeps fresh free on same hands =
    record {
      begun_first = λ k q. let x = on k in let y = same k in let z = keeps.begun_first k in grind (arith, nat_tests);
      held_begun = λ w k q. let x = on k in let y = hands w in let z = keeps.held_begun w k in grind (arith, nat_tests);
      held_open = λ w k q. let x = same k in let y = hands w in let z = keeps.held_open w k in let v = keeps.begun_first k in grind (arith, nat_tests);
      held_once = λ v w k q r. let x = hands v in let y = hands w in let z = keeps.held_once v w k in let i = keeps.held_begun v k in let j = keeps.held_begun w k in grind (arith, nat_tests);
      open_held = λ k q r. elim (cases_eq op k) [
        | inl e ↦ (worker, let y = hands worker in grind (arith, nat_tests))
        | inr ne ↦
            let x = on k in
            let y = same k in
            let z : (w : ℕ) × (held w ≡ Some k) = keeps.open_held k (grind (arith, nat_tests)) (grind arith) in
            (z.0, let y = hands z.0 in let u : held z.0 ≡ Some k = z.1 in grind (arith, nat_tests))
      ];
    }

Keeps-finish : {b d b' d' : ℕ → Bool} {held held' : ℕ → Option ℕ} (op worker : ℕ) → Keeps b d held → held worker ≡ Some op
    → ((k : ℕ) → b' k ≡ b k) → ((k : ℕ) → d' k ≡ cond (eqb op k) true (d k)) → ((w : ℕ) → held' w ≡ cond (eqb worker w) None (held w))
    → Keeps b' d' held'
Keeps-finish {b} {d} {b'} {d'} {held} {held'} op worker keeps has same on hands =
    let o : b op ≡ true = keeps.held_begun worker op has in
    record {
      begun_first = λ k q. let x = on k in let y = same k in let z = keeps.begun_first k in grind (arith, nat_tests);
      held_begun = λ w k q. let x = same k in let y = hands w in let z = keeps.held_begun w k in grind (arith, nat_tests);
      held_open = λ w k q. let x = on k in let y = hands w in let z = keeps.held_open w k in let v = keeps.held_once worker w op has in grind (arith, nat_tests);
      held_once = λ v w k q r. let x = hands v in let y = hands w in let z = keeps.held_once v w k in grind (arith, nat_tests);
      open_held = λ k q r.
          let x = on k in
          let y = same k in
          let z : (w : ℕ) × (held w ≡ Some k) = keeps.open_held k (grind arith) (grind (arith, nat_tests)) in
          (z.0, let y = hands z.0 in let u : held z.0 ≡ Some k = z.1 in grind (arith, nat_tests));
    }

Keeps-same : {b d b' d' : ℕ → Bool} {held held' : ℕ → Option ℕ} → Keeps b d held
    → ((k : ℕ) → b' k ≡ b k) → ((k : ℕ) → d' k ≡ d k) → ((w : ℕ) → held' w ≡ held w) → Keeps b' d' held'
Keeps-same {b} {d} {b'} {d'} {held} {held'} keeps s f a =
    record {
      begun_first = λ k q. s k ∙ keeps.begun_first k (sym (f k) ∙ q);
      held_begun = λ w k q. s k ∙ keeps.held_begun w k (sym (a w) ∙ q);
      held_open = λ w k q. f k ∙ keeps.held_open w k (sym (a w) ∙ q);
      held_once = λ v w k q r. keeps.held_once v w k (sym (a v) ∙ q) (sym (a w) ∙ r);
      open_held = λ k q r. let z = keeps.open_held k (sym (s k) ∙ q) (sym (f k) ∙ r) in (z.0, a z.0 ∙ z.1);
    }

abbrev pub KeepsAt : List Event → Type 0
KeepsAt h = Keeps (started h) (finished h) (hand h)

Keeps-event : (s : Schedule) (workers : ℕ) (h : List Event) (e : Event) → Fits s workers h e → KeepsAt h → KeepsAt (h ++ e ∷ [])
Keeps-event s workers h (Start op worker at) fits keeps =
    let e : Event = Start op worker at in
    Keeps-start op worker keeps (fits.obeys V2).fresh (fits.obeys V6) (λ k. started-push h e k) (λ k. finished-push h e k) (λ w. hand-push h e w)
Keeps-event s workers h (Finish op worker at front) fits keeps =
    let e : Event = Finish op worker at front in
    Keeps-finish op worker keeps (fits.obeys V7) (λ k. started-push h e k) (λ k. finished-push h e k) (λ w. hand-push h e w)
Keeps-event s workers h (Halt worker) fits keeps =
    let e : Event = Halt worker in
    Keeps-same keeps (λ k. started-push h e k) (λ k. finished-push h e k) (λ w. hand-push h e w)

-- how starts, finishes and hands go together in a legal history
pub keeps_legal : (s : Schedule) (workers : ℕ) (h : List Event) → IsLegal s workers h → KeepsAt h
keeps_legal s workers h =
    by_push (λ g. IsLegal s workers g → KeepsAt g) none
    (λ g e ih legal. Keeps-event s workers g e (Fits-last s workers g e legal) (ih (IsLegal-front s workers g (e ∷ []) legal)))
    h
  where
    none : IsLegal s workers [] → KeepsAt []
    none legal = record {
      begun_first = λ k q. absurd cc;
      held_begun = λ w k q. absurd cc;
      held_open = λ w k q. absurd cc;
      held_once = λ v w k q r. absurd cc;
      open_held = λ k q r. absurd cc;
    }
