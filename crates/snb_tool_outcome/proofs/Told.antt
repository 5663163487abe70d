-- Facts on what a shelf tells.
use Rattle.std.proofs.Common.{◌≡◌, ℕ, List, Option, None, Some, refl, sym}
use Rattle.snb_base.specs.Shelf.{Files}
use Rattle.snb_input_files.specs.Files.{held_in}
use Rattle.snb_input_files.specs.Loading.{IsTold}
use Rattle.snb_input_files.specs.Walk.{Held, IsHeldTold}
use Rattle.std.specs.Prelude.{IfSome}

-- what is told of a file, either way round
pub beside_told : (contents : Option Files) (name : List ℕ) (held : Option (List ℕ)) → IsTold contents name held → IfSome contents (λ files. held ≡ files name)
beside_told None name held told = tt
beside_told (Some files) name held told = sym told

-- there are some files, which are those that the shelf tells where it tells any
pub held_told : (contents : Option Files) (folder : List ℕ) → (held : Held) × IsHeldTold contents folder held
held_told None folder = (λ file. None, tt)
held_told (Some files) folder = (held_in folder files, λ file. refl)

pub any_told : (contents : Option Files) (name : List ℕ) → (beside : Option (List ℕ)) × IsTold contents name beside
any_told None name = (None, tt)
any_told (Some files) name = (files name, refl)
