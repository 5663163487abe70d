-- What is in hand is told by the worker's own events.
use Rattle.std.proofs.Common.{◌≡◌, List, [], ◌∷◌, ◌++◌, Bool, true, false, cond, refl, sym, ap, ◌∙◌, append-nil, inl, inr, arith, Some}
use Rattle.std.specs.Prelude.{reverse}
use Rattle.std.specs.List.{find, filter}
use Rattle.std.proofs.lemmas.Bool.{cases_Bool}
use Rattle.std.proofs.lemmas.List.Elements.{filter-append}
use Rattle.std.proofs.lemmas.Map.Views.{any-filter_same}
use Rattle.snb_history.specs.declared.event.Event.{Event}
use Rattle.snb_history.specs.declared.event.Event.TheVariants.{Start, Finish, Halt}
use Rattle.snb_history.specs.History.{acts, halts, is_by, opened}
use Rattle.snb_history.specs.Laws.{HandIsOwn}
use Rattle.snb_history.proofs.Pushes.{find-reverse_push}
use Rattle.snb_base.proofs.Laws.{by_push}

-- a filter that keeps all that passes doesn't change the last that passes
find-reverse_filter : {X : Type 0} (p q : X → Bool) → ((x : X) → p x ≡ true → q x ≡ true) → (h : List X) → find p (reverse (filter q h)) ≡ find p (reverse h)
find-reverse_filter {X} p q kept h =
    by_push (λ g. find p (reverse (filter q g)) ≡ find p (reverse g)) refl
    (λ g x ih.
    let a = filter-append q g (x ∷ []) in
    let b = find-reverse_push p g x in
    let c = find-reverse_push p (filter q g) x in
    elim (cases_Bool (q x)) [
      | inl keeps ↦
          let d : filter q (g ++ x ∷ []) ≡ filter q g ++ x ∷ [] = rw a (rw keeps refl) in
          ap (λ y. find p (reverse y)) d ∙ c ∙ ap (λ y. cond (p x) (Some x) y) ih ∙ sym b
      | inr drops ↦
          let d : filter q (g ++ x ∷ []) ≡ filter q g = rw a (rw drops (append-nil (filter q g))) in
          let k = kept x in
          let e : p x ≡ false = grind arith in
          ap (λ y. find p (reverse y)) d ∙ ih ∙ (let f : find p (reverse (g ++ x ∷ [])) ≡ find p (reverse g) = rw b (rw e refl) in sym f)
    ])
    h

pub hand_is_own : HandIsOwn
hand_is_own h w = (
  ap opened (find-reverse_filter (acts w) (is_by w) acts_are h),
  any-filter_same (halts w) (is_by w) true halts_are h,
)
  where
    acts_are : (e : Event) → acts w e ≡ true → is_by w e ≡ true
    acts_are (Start op worker at) q = q
    acts_are (Finish op worker at front) q = q
    acts_are (Halt worker) q = absurd cc

    halts_are : (e : Event) → halts w e ≡ true → is_by w e ≡ true
    halts_are (Start op worker at) q = absurd cc
    halts_are (Finish op worker at front) q = absurd cc
    halts_are (Halt worker) q = q
