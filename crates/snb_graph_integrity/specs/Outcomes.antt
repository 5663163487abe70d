-- What a graph that isn't sound is refused for.
use Rattle.std.specs.Prelude.{List}
use Rattle.snb_schema.specs.declared.row.Row.{Row}
use Rattle.snb_graph_integrity.specs.declared.unsound.Unsound.{Unsound}
use Rattle.snb_graph_integrity.specs.declared.unsound.Unsound.TheVariants as unsound
use Rattle.snb_graph_model.specs.Soundness.{IsCycle, HasNeededEdges, IsLacking}

-- what is wrong first: an edge is lacking, or none is and a comment's chain of parents doesn't end
-- at a post; memory says nothing
abbrev pub IsWrong : List Row → Unsound → Type 0
IsWrong g (unsound.Lacks node id edge) = IsLacking g node id edge
IsWrong g (unsound.Cycle comment) = HasNeededEdges g × IsCycle g comment
IsWrong g unsound.Memory = Unit {0}
