-- How the moments of a legal history stand to one another.
use Rattle.std.proofs.Common.{◌≡◌, ℕ, ◌≤◌, ◌&&◌, Bool, true, false, cond, eqb, nat_le, List, [], ◌∷◌, ◌++◌, inl, inr, refl, ap, sym, ◌∙◌, subst, arith}
use Rattle.std.proofs.lemmas.Bool.{cases_eq, eq-eqb, false≢true, ne_eqb}
use Rattle.std.proofs.lemmas.Bool.Decides.{nat_tests}
use Rattle.snb_base.proofs.Laws.{by_push}
use Rattle.snb_history.specs.declared.event.Event.{Event}
use Rattle.snb_history.specs.declared.event.Event.TheVariants.{Start, Finish, Halt}
use Rattle.snb_history.specs.History.{finished, finishes, last, started, starts}
use Rattle.snb_history.specs.Rules.{V2, V4, V5, V7, V9, Fits, IsCleared, IsLegal}
use Rattle.snb_history.specs.Schedule.{Schedule, step_of, is_dependency}
use Rattle.snb_history.proofs.Laws.{Fits-last, IsLegal-front}
use Rattle.snb_history.proofs.Laws.{finished-push, keeps_legal, last-push, started-push}
use Rattle.snb_summary.specs.Latencies.{moments_of, waits_for}
use Rattle.snb_summary.specs.MomentLaws.{NothingIsCut}
use Rattle.snb_summary.proofs.Heeding.{latest_push}

-- what holds of the moments of what is started, finished and the last one
record AreTimed (s : Schedule) (begun done : ℕ → Bool) (start finish : ℕ → ℕ) (most : ℕ) : Type 0 where
  due : (k : ℕ) → begun k ≡ true → (step_of s k).due ≤ start k
  start_most : (k : ℕ) → start k ≤ most
  finish_most : (k : ℕ) → finish k ≤ most
  follows : (k : ℕ) → done k ≡ true → start k ≤ finish k
  cleared : (k j : ℕ) → begun k ≡ true → waits_for s k j ≡ true → (done j ≡ true) × (finish j ≤ start k)

-- a function that is changed at one number
hit : {A : Type 0} (f g : ℕ → A) (op : ℕ) (v : A) → ((k : ℕ) → g k ≡ cond (eqb op k) v (f k)) → (k : ℕ) → op ≡ k → g k ≡ v
hit {A} f g op v on k e = on k ∙ ap (λ (b : Bool). cond b v (f k)) (eq-eqb op k e)

miss : {A : Type 0} (f g : ℕ → A) (op : ℕ) (v : A) → ((k : ℕ) → g k ≡ cond (eqb op k) v (f k)) → (k : ℕ) → (op ≡ k → ⊥) → g k ≡ f k
miss {A} f g op v on k ne = on k ∙ ap (λ (b : Bool). cond b v (f k)) (ne_eqb op k ne)

timed_start : (s : Schedule) (b d b' d' : ℕ → Bool) (start finish start' finish' : ℕ → ℕ) (most most' op at : ℕ) → AreTimed s b d start finish most
    → ((k : ℕ) → d k ≡ true → b k ≡ true) → b op ≡ false → (step_of s op).due ≤ at → ((j : ℕ) → waits_for s op j ≡ true → d j ≡ true) → most ≤ at → most' ≡ at
    → ((k : ℕ) → b' k ≡ cond (eqb op k) true (b k)) → ((k : ℕ) → d' k ≡ d k) → ((k : ℕ) → start' k ≡ cond (eqb op k) at (start k)) → ((k : ℕ) → finish' k ≡ finish k)
    → AreTimed s b' d' start' finish' most'
timed_start s b d b' d' start finish start' finish' most most' op at t first fresh due clears later is on_b on_d on_start on_finish = record {
  due = λ k q. elim (cases_eq op k) [
    | inl e ↦ let y : start' k ≡ at = hit start start' op at on_start k e in subst (λ (i : ℕ). (step_of s i).due ≤ start' k) e (omega arith)
    | inr ne ↦
        let y : start' k ≡ start k = miss start start' op at on_start k ne in
        let z : (step_of s k).due ≤ start k = t.due k (sym (miss b b' op true on_b k ne) ∙ q) in
        omega arith
  ];
  start_most = λ k. elim (cases_eq op k) [
    | inl e ↦ let y : start' k ≡ at = hit start start' op at on_start k e in omega arith
    | inr ne ↦
        let y : start' k ≡ start k = miss start start' op at on_start k ne in
        let z : start k ≤ most = t.start_most k in
        omega arith
  ];
  finish_most = λ k.
      let y : finish' k ≡ finish k = on_finish k in
      let z : finish k ≤ most = t.finish_most k in
      omega arith;
  follows = λ k q.
      let done : d k ≡ true = sym (on_d k) ∙ q in
      elim (cases_eq op k) [
        | inl e ↦ absurd (false≢true (sym fresh ∙ subst (λ (i : ℕ). b i ≡ true) (sym e) (first k done)))
        | inr ne ↦
            let y : start' k ≡ start k = miss start start' op at on_start k ne in
            let f : finish' k ≡ finish k = on_finish k in
            let z : start k ≤ finish k = t.follows k done in
            omega arith
      ];
  cleared = λ k j q w. elim (cases_eq op k) [
    | inl e ↦
        let y : start' k ≡ at = hit start start' op at on_start k e in
        let f : finish' j ≡ finish j = on_finish j in
        let z : finish j ≤ most = t.finish_most j in
        (on_d j ∙ clears j (subst (λ (i : ℕ). waits_for s i j ≡ true) (sym e) w), omega arith)
    | inr ne ↦
        let y : start' k ≡ start k = miss start start' op at on_start k ne in
        let f : finish' j ≡ finish j = on_finish j in
        let z = t.cleared k j (sym (miss b b' op true on_b k ne) ∙ q) w in
        let u : finish j ≤ start k = z.1 in
        (on_d j ∙ z.0, omega arith)
  ];
}

timed_finish : (s : Schedule) (b d b' d' : ℕ → Bool) (start finish start' finish' : ℕ → ℕ) (most most' op at : ℕ) → AreTimed s b d start finish most → d op ≡ false → most ≤ at → most' ≡ at
    → ((k : ℕ) → b' k ≡ b k) → ((k : ℕ) → d' k ≡ cond (eqb op k) true (d k)) → ((k : ℕ) → start' k ≡ start k) → ((k : ℕ) → finish' k ≡ cond (eqb op k) at (finish k))
    → AreTimed s b' d' start' finish' most'
timed_finish s b d b' d' start finish start' finish' most most' op at t unmade later is on_b on_d on_start on_finish = record {
  due = λ k q.
      let y : start' k ≡ start k = on_start k in
      let z : (step_of s k).due ≤ start k = t.due k (sym (on_b k) ∙ q) in
      omega arith;
  start_most = λ k.
      let y : start' k ≡ start k = on_start k in
      let z : start k ≤ most = t.start_most k in
      omega arith;
  finish_most = λ k. elim (cases_eq op k) [
    | inl e ↦ let y : finish' k ≡ at = hit finish finish' op at on_finish k e in omega arith
    | inr ne ↦
        let y : finish' k ≡ finish k = miss finish finish' op at on_finish k ne in
        let z : finish k ≤ most = t.finish_most k in
        omega arith
  ];
  follows = λ k q.
      let y : start' k ≡ start k = on_start k in
      elim (cases_eq op k) [
        | inl e ↦
            let f : finish' k ≡ at = hit finish finish' op at on_finish k e in
            let z : start k ≤ most = t.start_most k in
            omega arith
        | inr ne ↦
            let f : finish' k ≡ finish k = miss finish finish' op at on_finish k ne in
            let z : start k ≤ finish k = t.follows k (sym (miss d d' op true on_d k ne) ∙ q) in
            omega arith
      ];
  cleared = λ k j q w.
      let y : start' k ≡ start k = on_start k in
      let z = t.cleared k j (sym (on_b k) ∙ q) w in
      let u : finish j ≤ start k = z.1 in
      elim (cases_eq op j) [
        | inl e ↦ absurd (false≢true (sym unmade ∙ subst (λ (i : ℕ). d i ≡ true) (sym e) z.0))
        | inr ne ↦
            let f : finish' j ≡ finish j = miss finish finish' op at on_finish j ne in
            (miss d d' op true on_d j ne ∙ z.0, omega arith)
      ];
}

timed_same : (s : Schedule) (b d b' d' : ℕ → Bool) (start finish start' finish' : ℕ → ℕ) (most most' : ℕ) → AreTimed s b d start finish most → most' ≡ most
    → ((k : ℕ) → b' k ≡ b k) → ((k : ℕ) → d' k ≡ d k) → ((k : ℕ) → start' k ≡ start k) → ((k : ℕ) → finish' k ≡ finish k) → AreTimed s b' d' start' finish' most'
timed_same s b d b' d' start finish start' finish' most most' t is on_b on_d on_start on_finish = record {
  due = λ k q. let y : start' k ≡ start k = on_start k in let z : (step_of s k).due ≤ start k = t.due k (sym (on_b k) ∙ q) in omega arith;
  start_most = λ k. let y : start' k ≡ start k = on_start k in let z : start k ≤ most = t.start_most k in omega arith;
  finish_most = λ k. let y : finish' k ≡ finish k = on_finish k in let z : finish k ≤ most = t.finish_most k in omega arith;
  follows = λ k q.
      let y : start' k ≡ start k = on_start k in
      let f : finish' k ≡ finish k = on_finish k in
      let z : start k ≤ finish k = t.follows k (sym (on_d k) ∙ q) in
      omega arith;
  cleared = λ k j q w.
      let y : start' k ≡ start k = on_start k in
      let f : finish' j ≡ finish j = on_finish j in
      let z = t.cleared k j (sym (on_b k) ∙ q) w in
      let u : finish j ≤ start k = z.1 in
      (on_d j ∙ z.0, omega arith);
}

-- what an operation waits for
waits_parts : (a b c : Bool) → (a && (b && c)) ≡ true → (a ≡ true) × (b ≡ true) × (c ≡ true)
waits_parts true true true q = (refl, refl, refl)
waits_parts true true false q = absurd (false≢true q)
waits_parts true false c q = absurd (false≢true q)
waits_parts false b c q = absurd (false≢true q)

at_most : (a b : ℕ) → nat_le a b ≡ true → a ≤ b
at_most a b q = grind (arith, nat_tests)

clears : (s : Schedule) (h : List Event) (op : ℕ) → IsCleared s h op → (j : ℕ) → waits_for s op j ≡ true → finished h j ≡ true
clears s h op cleared j w =
    let parts = waits_parts (step_of s op).dependent (is_dependency s j) (nat_le (step_of s j).t (step_of s op).t_d) w in
    cleared parts.0 j parts.1 (at_most (step_of s j).t (step_of s op).t_d parts.2)

-- those of a history
abbrev TimedAt : Schedule → List Event → Type 0
TimedAt s h = AreTimed s (started h) (finished h) (moments_of h).start (moments_of h).finish (last h)

timed_event : (s : Schedule) (workers : ℕ) (h : List Event) (e : Event) → IsLegal s workers h → Fits s workers h e → TimedAt s h → TimedAt s (h ++ e ∷ [])
timed_event s workers h (Start op worker at) legal fits t =
    let e : Event = Start op worker at in
    timed_start s (started h) (finished h) (started (h ++ e ∷ [])) (finished (h ++ e ∷ [])) (moments_of h).start (moments_of h).finish (moments_of (h ++ e ∷ [])).start (moments_of (h ++ e ∷ [])).finish
    (last h) (last (h ++ e ∷ [])) op at t (keeps_legal s workers h legal).begun_first (fits.obeys V2).fresh (fits.obeys V4) (clears s h op (fits.obeys V5)) (fits.obeys V9) (last-push h e)
    (λ k. started-push h e k) (λ k. finished-push h e k) (λ k. latest_push (starts k) h e) (λ k. latest_push (finishes k) h e)
timed_event s workers h (Finish op worker at front) legal fits t =
    let e : Event = Finish op worker at front in
    timed_finish s (started h) (finished h) (started (h ++ e ∷ [])) (finished (h ++ e ∷ [])) (moments_of h).start (moments_of h).finish (moments_of (h ++ e ∷ [])).start (moments_of (h ++ e ∷ [])).finish
    (last h) (last (h ++ e ∷ [])) op at t ((keeps_legal s workers h legal).held_open worker op (fits.obeys V7)) (fits.obeys V9) (last-push h e)
    (λ k. started-push h e k) (λ k. finished-push h e k) (λ k. latest_push (starts k) h e) (λ k. latest_push (finishes k) h e)
timed_event s workers h (Halt worker) legal fits t =
    let e : Event = Halt worker in
    timed_same s (started h) (finished h) (started (h ++ e ∷ [])) (finished (h ++ e ∷ [])) (moments_of h).start (moments_of h).finish (moments_of (h ++ e ∷ [])).start (moments_of (h ++ e ∷ [])).finish
    (last h) (last (h ++ e ∷ [])) t (last-push h e) (λ k. started-push h e k) (λ k. finished-push h e k) (λ k. latest_push (starts k) h e) (λ k. latest_push (finishes k) h e)

timed_none : (s : Schedule) → TimedAt s []
timed_none s = record {
  due = λ k q. absurd (false≢true q);
  start_most = λ k. omega arith;
  finish_most = λ k. omega arith;
  follows = λ k q. absurd (false≢true q);
  cleared = λ k j q w. absurd (false≢true q);
}

timed : (s : Schedule) (workers : ℕ) (h : List Event) → IsLegal s workers h → TimedAt s h
timed s workers h =
    by_push (λ g. IsLegal s workers g → TimedAt s g) (λ _. timed_none s)
    (λ g e ih legal.
    let before : IsLegal s workers g = IsLegal-front s workers g (e ∷ []) legal in
    timed_event s workers g e before (Fits-last s workers g e legal) (ih before))
    h

pub nothing_is_cut : NothingIsCut
nothing_is_cut s workers h legal complete k within =
    let t : TimedAt s h = timed s workers h legal in
    let done : finished h k ≡ true = complete.all_finished k within in
    let begun : started h k ≡ true = (keeps_legal s workers h legal).begun_first k done in
    record { due = t.due k begun; follows = t.follows k done; cleared = λ j w. (t.cleared k j begun w).1 }
