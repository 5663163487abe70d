-- What the program promises to whoever starts it.
use Rattle.std.specs.Prelude.{◌≡◌, ◌∷◌, ℕ, ◌⊎◌, List, [], IfSome, Option, Some}
use Rattle.snb_base.specs.declared.outbox.Outbox.{Ghosts as Outboxes}
use Rattle.snb_base.specs.declared.shelf.Shelf.{Ghosts as Shelves}
use Rattle.snb_base.specs.Moments.{Moments}
use Rattle.snb_schema.specs.ReadKinds.{every_read}
use Rattle.snb_tool_outcome.specs.Outcome.{Asked}
use Rattle.snb_tool_outcome.specs.Served.{HasServed}
use Rattle.snb_walk.specs.declared.target.Pick.TheVariants.{Modulo}

-- the words are those that are told, where any are
abbrev pub AreTold : Option (List (List ℕ)) → List (List ℕ) → Type 0
AreTold told texts = IfSome told (λ words. texts ≡ words)

-- what the program is asked that is started with these words: they come with a table in which each
-- kind of read has a handler, and with a policy that picks by the word modulo the number of targets
abbrev pub started_with : List (List ℕ) → Asked
started_with texts =
    record { words = texts; given = Some (record { kinds = every_read; pick = Modulo }) }

-- there are words, which are those that are told where any are, of which the call did all that it
-- promises
pub record HasObeyed {S O : Type 0} (shelves : Shelves S) (outboxes : Outboxes O)
    (told : Option (List (List ℕ))) (moments : Moments) (shelf shelf_after : S) (out out_after : O)
    (status : ℕ) : Type 0 where
  pub texts : List (List ℕ)
  pub words : AreTold told texts
  pub served : HasServed shelves outboxes moments (started_with texts) shelf shelf_after out
      out_after status

-- the call did all that it promises; or memory didn't suffice before it, and nothing was read or
-- written
abbrev pub IsServed : {S O : Type 0} → Shelves S → Outboxes O → Option (List (List ℕ)) → Moments → S
    → S → O → O → ℕ → Type 0
IsServed shelves outboxes told moments shelf shelf_after out out_after status =
    HasObeyed shelves outboxes told moments shelf shelf_after out out_after status
    ⊎ ((status ≡ 6) × (shelf_after ≡ shelf) × (out_after ≡ out))
