use Rattle.std.proofs.Common.{◌≡◌, ℕ, subst, sym, refl, arith}
use Rattle.std.proofs.lemmas.Bool.{eq-eqb}
use Rattle.snb_history.specs.declared.event.Event.TheVariants.{Halt}
use Rattle.snb_history.specs.Rules.{Fits, MayAct}
use Rattle.snb_book.specs.Kept.{Kept}
use Rattle.snb_book.proofs.Telling.{has_room, IsSoundBook-push, IsTold-halt, adds_event, adding_rises}
use Rattle.snb_book.proofs.book.Book.halt.Goals as goal
use Rattle.snb_history.proofs.Laws.{Fits-halt}

-- the Halt fits the fields
fits_fields : (now inside : Kept) (worker : ℕ) → inside ≡ now → MayAct now.workers now.history worker
    → Fits inside.schedule inside.workers inside.history (Halt worker)
fits_fields now inside worker same may =
    Fits-halt inside.schedule inside.workers inside.history worker (subst (λ (b : Kept). MayAct b.workers b.history worker) (sym same) may)

pub append-requires : goal.append-requires
append-requires c = has_room _ _ _ c.self.invariant.0 (fits_fields _ _ _ c.self.view_is c.requires) (omega arith)

pub invariant_of-self : goal.invariant_of-self
invariant_of-self c =
    rw c.append.ensures.items (
      IsSoundBook-push _ _ _ _ c.self.invariant.0 (fits_fields _ _ _ c.self.view_is c.requires) (omega arith) c.append.ensures.capacity,
      IsTold-halt _ _ _ _ _ _ c.args.worker c.self.invariant.1,
    )

pub returns-clause-adds : goal.returns-clause-adds
returns-clause-adds c =
    adds_event _ _ _ _ _ c.args.worker (Halt c.args.worker) c.self.view_is refl c.append.ensures.items
    c.self.invariant.0 (fits_fields _ _ _ c.self.view_is c.requires) (omega arith) (eq-eqb c.args.worker c.args.worker refl)

pub returns-clause-rises : goal.returns-clause-rises
returns-clause-rises c = adding_rises c.args.worker _ _ (returns-clause-adds c)
