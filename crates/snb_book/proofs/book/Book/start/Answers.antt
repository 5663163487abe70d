use Rattle.std.proofs.Common.{◌≡◌, ℕ, ◌<◌, List, length, get_or, sym, ap, subst, arith, refl}
use Rattle.std.proofs.lemmas.Bool.{eq-eqb}
use Rattle.snb_history.specs.declared.event.Event.TheVariants.{Start}
use Rattle.snb_history.specs.declared.step.Step.{Step}
use Rattle.snb_history.specs.Schedule.{no_step, step_of}
use Rattle.snb_history.specs.Rules.{Fits, V1}
use Rattle.snb_completion.specs.Progress.{Progress}
use Rattle.snb_book.specs.Kept.{Kept}
use Rattle.snb_book.proofs.Telling.{has_room, IsSoundBook-push, IsTold-start, next_in_lane, adds_event}
use Rattle.snb_book.proofs.book.Book.start.Goals as goal

-- what fits the value fits the fields
fits_fields : (now inside : Kept) (op worker at : ℕ) → inside ≡ now → Fits now.schedule now.workers now.history (Start op worker at)
    → Fits inside.schedule inside.workers inside.history (Start op worker at)
fits_fields now inside op worker at same fits = subst (λ (b : Kept). Fits b.schedule b.workers b.history (Start op worker at)) (sym same) fits

pub bounds-steps-op : goal.bounds-steps-op
bounds-steps-op c =
    let fits = fits_fields _ _ _ _ _ c.self.view_is c.requires.fits in
    let within : c.args.op < length c.self.inside.times.schedule.steps = (fits.obeys V1).0 in
    subst (λ (l : List Step). c.args.op < length l) (let a = c.steps.ensures.value in let b = c.schedule.ensures in cc) within

pub append-requires : goal.append-requires
append-requires c = has_room _ _ _ c.self.invariant.0 (fits_fields _ _ _ _ _ c.self.view_is c.requires.fits) c.requires.bounded

pub start-requires : goal.start-requires
start-requires c = next_in_lane _ _ _ _ _ _ _ _ _ refl c.self.invariant.1 (fits_fields _ _ _ _ _ c.self.view_is c.requires.fits)

pub index_mut-requires : goal.index_mut-requires
index_mut-requires c =
    let fits = fits_fields _ _ _ _ _ c.self.view_is c.requires.fits in
    let in_lane : (step_of c.self.inside.times.schedule c.args.op).lane < length c.self.inside.times.schedule.kinds =
    c.self.invariant.0.planned.in_lanes c.args.op (fits.obeys V1).0 in
    let of_plan : c.self.inside.times.schedule.steps ≡ c.steps.result.now = (let a = c.steps.ensures.value in let b = c.schedule.ensures in cc) in
    subst (λ (l : List Step). (get_or l c.args.op no_step).lane < c.self.inside.heads.len) of_plan
    (let each = c.self.invariant.1.a_head_each in omega arith)

pub index_mut-requires-2 : goal.index_mut-requires-2
index_mut-requires-2 c =
    let fits = fits_fields _ _ _ _ _ c.self.view_is c.requires.fits in
    let known : c.args.worker < c.self.inside.workers = (fits.obeys V1).1.known in
    let each = c.self.invariant.1.a_hand_each in
    omega arith

pub invariant_of-self : goal.invariant_of-self
invariant_of-self c =
    let fits = fits_fields _ _ _ _ _ c.self.view_is c.requires.fits in
    let of_plan : c.steps.result.now ≡ c.self.inside.times.schedule.steps = (let a = c.steps.ensures.value in let b = c.schedule.ensures in cc) in
    rw (c.append.ensures.items, of_plan, c.start.ensures) (
      IsSoundBook-push _ _ _ _ c.self.invariant.0 fits c.requires.bounded c.append.ensures.capacity,
      IsTold-start _ _ _ _ _ _ _ _ _ _ c.self.invariant.0 c.self.invariant.1 fits,
    )

pub returns-clause-adds : goal.returns-clause-adds
returns-clause-adds c =
    adds_event _ _ _ _ _ c.args.worker (Start c.args.op c.args.worker c.args.at) c.self.view_is (ap (λ (p : Progress). p.schedule) c.start.ensures) c.append.ensures.items
    c.self.invariant.0 (fits_fields _ _ _ _ _ c.self.view_is c.requires.fits) c.requires.bounded (eq-eqb c.args.worker c.args.worker refl)
