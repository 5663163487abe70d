-- What a call leaves of a shelf, whatever the shelf is.
use Rattle.std.specs.Prelude.{Bool}
use Rattle.snb_base.specs.declared.shelf.Shelf.{Ghosts as Shelves}
use Rattle.snb_base.specs.Shelf.{HasRead}

-- what a call that reads does to a shelf, by all that is told of it before and after
abbrev pub IsShelfRead : {S : Type 0} → Bool → Shelves S → S → S → Type 0
IsShelfRead failed shelves old new =
    HasRead failed (shelves.contents old) (shelves.may old) (shelves.faults old)
    (shelves.contents new) (shelves.may new) (shelves.faults new)
