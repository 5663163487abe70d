-- The moments of a legal history are those of each of its events.
use Rattle.std.proofs.Common.{◌≡◌, ℕ, Bool, true, false, cond, List, [], ◌∷◌, ◌++◌, inl, inr, refl, ap, sym, ◌∙◌, subst, append_assoc}
use Rattle.std.proofs.lemmas.Bool.{cases_eq, false≢true, ne_eqb}
use Rattle.snb_base.proofs.Laws.{by_push}
use Rattle.snb_history.specs.declared.event.Event.{Event}
use Rattle.snb_history.specs.declared.event.Event.TheVariants.{Start, Finish, Halt}
use Rattle.snb_history.specs.History.{finished, finishes, moment, started, starts}
use Rattle.snb_history.specs.Rules.{V2, V7, Fits, IsLegal}
use Rattle.snb_history.specs.Schedule.{Schedule}
use Rattle.snb_history.proofs.Laws.{Fits-last, IsLegal-front}
use Rattle.snb_history.proofs.Laws.{finished-push, keeps_legal, started-push}
use Rattle.snb_summary.specs.Latencies.{moments_of}
use Rattle.snb_summary.specs.MomentLaws.{AreToldOf, EachIsTold}
use Rattle.snb_summary.proofs.Heeding.{latest_push}

-- what is started isn't started again, and what is finished isn't finished again
no_start : (s : Schedule) (workers : ℕ) (h : List Event) (x : Event) → Fits s workers h x → (k : ℕ) → started h k ≡ true → starts k x ≡ false
no_start s workers h (Start op worker at) fits k begun =
    elim (cases_eq op k) [
      | inl e ↦ absurd (false≢true (sym (fits.obeys V2).fresh ∙ subst (λ (i : ℕ). started h i ≡ true) (sym e) begun))
      | inr ne ↦ ne_eqb op k ne
    ]
no_start s workers h (Finish op worker at front) fits k begun = refl
no_start s workers h (Halt worker) fits k begun = refl

no_finish : (s : Schedule) (workers : ℕ) (h : List Event) (x : Event) → IsLegal s workers h → Fits s workers h x → (k : ℕ) → finished h k ≡ true → finishes k x ≡ false
no_finish s workers h (Start op worker at) legal fits k done = refl
no_finish s workers h (Finish op worker at front) legal fits k done =
    elim (cases_eq op k) [
      | inl e ↦ absurd (false≢true (sym ((keeps_legal s workers h legal).held_open worker op (fits.obeys V7)) ∙ subst (λ (i : ℕ). finished h i ≡ true) (sym e) done))
      | inr ne ↦ ne_eqb op k ne
    ]
no_finish s workers h (Halt worker) legal fits k done = refl

-- a test of one more event, and a moment
test_more : (b old new : Bool) → new ≡ cond b true old → b ≡ false → old ≡ true → new ≡ true
test_more b old new is not had = is ∙ (ap (λ (t : Bool). cond t true old) not ∙ had)

moment_more : (b : Bool) (at old new told : ℕ) → new ≡ cond b at old → b ≡ false → old ≡ told → new ≡ told
moment_more b at old new told is not had = is ∙ (ap (λ (t : Bool). cond t at old) not ∙ had)

start_told : (s : Schedule) (workers : ℕ) (g : List Event) (e : Event) (k : ℕ) → starts k e ≡ true → (more : List Event) → IsLegal s workers (g ++ e ∷ more)
    → (started (g ++ e ∷ more) k ≡ true) × ((moments_of (g ++ e ∷ more)).start k ≡ moment e)
start_told s workers g e k is more =
    by_push (λ m. IsLegal s workers (g ++ e ∷ m) → (started (g ++ e ∷ m) k ≡ true) × ((moments_of (g ++ e ∷ m)).start k ≡ moment e))
    (λ _. (
      started-push g e k ∙ ap (λ (b : Bool). cond b true (started g k)) is,
      latest_push (starts k) g e ∙ ap (λ (b : Bool). cond b (moment e) ((moments_of g).start k)) is,
    ))
    (λ m x ih legal.
    let h : List Event = g ++ e ∷ m in
    let same : g ++ e ∷ (m ++ x ∷ []) ≡ h ++ x ∷ [] = sym (append_assoc g (e ∷ m) (x ∷ [])) in
    let whole : IsLegal s workers (h ++ x ∷ []) = subst (λ (t : List Event). IsLegal s workers t) same legal in
    let had = ih (IsLegal-front s workers h (x ∷ []) whole) in
    let not : starts k x ≡ false = no_start s workers h x (Fits-last s workers h x whole) k had.0 in (
      ap (λ (t : List Event). started t k) same ∙ test_more (starts k x) (started h k) _ (started-push h x k) not had.0,
      ap (λ (t : List Event). (moments_of t).start k) same ∙ moment_more (starts k x) (moment x) ((moments_of h).start k) _ (moment e) (latest_push (starts k) h x) not had.1,
    ))
    more

finish_told : (s : Schedule) (workers : ℕ) (g : List Event) (e : Event) (k : ℕ) → finishes k e ≡ true → (more : List Event) → IsLegal s workers (g ++ e ∷ more)
    → (finished (g ++ e ∷ more) k ≡ true) × ((moments_of (g ++ e ∷ more)).finish k ≡ moment e)
finish_told s workers g e k is more =
    by_push (λ m. IsLegal s workers (g ++ e ∷ m) → (finished (g ++ e ∷ m) k ≡ true) × ((moments_of (g ++ e ∷ m)).finish k ≡ moment e))
    (λ _. (
      finished-push g e k ∙ ap (λ (b : Bool). cond b true (finished g k)) is,
      latest_push (finishes k) g e ∙ ap (λ (b : Bool). cond b (moment e) ((moments_of g).finish k)) is,
    ))
    (λ m x ih legal.
    let h : List Event = g ++ e ∷ m in
    let same : g ++ e ∷ (m ++ x ∷ []) ≡ h ++ x ∷ [] = sym (append_assoc g (e ∷ m) (x ∷ [])) in
    let whole : IsLegal s workers (h ++ x ∷ []) = subst (λ (t : List Event). IsLegal s workers t) same legal in
    let before : IsLegal s workers h = IsLegal-front s workers h (x ∷ []) whole in
    let had = ih before in
    let not : finishes k x ≡ false = no_finish s workers h x before (Fits-last s workers h x whole) k had.0 in (
      ap (λ (t : List Event). finished t k) same ∙ test_more (finishes k x) (finished h k) _ (finished-push h x k) not had.0,
      ap (λ (t : List Event). (moments_of t).finish k) same ∙ moment_more (finishes k x) (moment x) ((moments_of h).finish k) _ (moment e) (latest_push (finishes k) h x) not had.1,
    ))
    more

pub each_is_told : EachIsTold
each_is_told s workers h legal g e rest split =
    let here : IsLegal s workers (g ++ e ∷ rest) = subst (λ (t : List Event). IsLegal s workers t) (sym split) legal in
    subst (λ (t : List Event). AreToldOf e (moments_of t)) split
    (record { start = λ k is. (start_told s workers g e k is rest here).1; finish = λ k is. (finish_told s workers g e k is rest here).1 })
