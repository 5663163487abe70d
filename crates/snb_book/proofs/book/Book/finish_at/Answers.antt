use Rattle.std.proofs.Common.{◌≡◌, ℕ, ◌<◌, refl, sym, ap, subst, arith}
use Rattle.std.proofs.lemmas.Bool.{eq-eqb}
use Rattle.snb_history.specs.declared.event.Event.TheVariants.{Finish}
use Rattle.snb_history.specs.Rules.{Fits, V1}
use Rattle.snb_completion.specs.Progress.{Progress}
use Rattle.snb_book.specs.Kept.{Kept}
use Rattle.snb_book.proofs.Telling.{has_room, open_yet, IsSoundBook-push, IsTold-finish, adds_event}
use Rattle.snb_book.proofs.book.Book.finish_at.Goals as goal

-- what fits the value fits the fields
fits_fields : (now inside : Kept) (op worker at front : ℕ) → inside ≡ now → Fits now.schedule now.workers now.history (Finish op worker at front)
    → Fits inside.schedule inside.workers inside.history (Finish op worker at front)
fits_fields now inside op worker at front same fits = subst (λ (b : Kept). Fits b.schedule b.workers b.history (Finish op worker at front)) (sym same) fits

pub append-requires : goal.append-requires
append-requires c = has_room _ _ _ c.self.invariant.0 (fits_fields _ _ _ _ _ _ c.self.view_is c.requires.fits) c.requires.bounded

pub finish-requires : goal.finish-requires
finish-requires c =
    open_yet _ _ _ _ _ _ _ _ _ _ _ refl c.self.invariant.0 c.self.invariant.1 (fits_fields _ _ _ _ _ _ c.self.view_is c.requires.fits)

pub invariant_of-self : goal.invariant_of-self
invariant_of-self c =
    let fits = fits_fields _ _ _ _ _ _ c.self.view_is c.requires.fits in
    rw (c.append.ensures.items, c.finish.ensures) (
      IsSoundBook-push _ _ _ _ c.self.invariant.0 fits c.requires.bounded c.append.ensures.capacity,
      IsTold-finish _ _ _ _ _ _ _ _ _ _ c.self.invariant.1 fits,
    )

pub returns-clause-adds : goal.returns-clause-adds
returns-clause-adds c =
    adds_event _ _ _ _ _ c.args.worker (Finish c.args.op c.args.worker c.args.at c.args.front) c.self.view_is
    (ap (λ (p : Progress). p.schedule) c.finish.ensures) c.append.ensures.items c.self.invariant.0
    (fits_fields _ _ _ _ _ _ c.self.view_is c.requires.fits) c.requires.bounded (eq-eqb c.args.worker c.args.worker refl)

pub index_mut-requires : goal.index_mut-requires
index_mut-requires c =
    let fits = fits_fields _ _ _ _ _ _ c.self.view_is c.requires.fits in
    let known : c.args.worker < c.self.inside.workers = (fits.obeys V1).1.known in
    let each = c.self.invariant.1.a_hand_each in
    omega arith
