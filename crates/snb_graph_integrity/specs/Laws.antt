-- Laws of what is found wrong.
use Rattle.std.specs.Prelude.{◌≡◌, ◌≢◌, List}
use Rattle.snb_schema.specs.declared.row.Row.{Row}
use Rattle.snb_graph_integrity.specs.declared.unsound.Unsound.{Unsound}
use Rattle.snb_graph_integrity.specs.declared.unsound.Unsound.TheVariants.{Memory}
use Rattle.snb_graph_integrity.specs.Outcomes.{IsWrong}
use Rattle.snb_graph_model.specs.Soundness.{Sound}

-- nothing is wrong with a sound graph
abbrev pub SoundIsNotWrong : Type 0
SoundIsNotWrong = (g : List Row) (e : Unsound) → e ≢ Memory → Sound g → ¬ IsWrong g e

-- and of a graph that isn't sound one thing is wrong first
abbrev pub OneIsWrong : Type 0
OneIsWrong =
    (g : List Row) (e f : Unsound) → e ≢ Memory → f ≢ Memory → IsWrong g e → IsWrong g f → e ≡ f
