-- What is found of the edges that nodes must have.
use Rattle.std.specs.Prelude.{◌≡◌, ◌≢◌, not, false, ℕ, List, [], ◌∷◌, filter, map, Result, MatchResult}
use Rattle.snb_schema.specs.declared.layout.KeyColumns.TheVariants.{FirstTwo}
use Rattle.snb_schema.specs.declared.layout.Shape.TheVariants as shapes
use Rattle.snb_schema.specs.declared.row.Row.{Row}
use Rattle.snb_schema.specs.declared.table.Table.{Table}
use Rattle.snb_schema.specs.Layouts.{has_no_direction, key_columns, shape}
use Rattle.snb_schema.specs.RowKeys.{slot}
use Rattle.snb_graph_integrity.specs.declared.unsound.Unsound.{Unsound}
use Rattle.snb_graph_integrity.specs.declared.unsound.Unsound.TheVariants.{Lacks, Cycle, Memory}
use Rattle.snb_graph_model.specs.Graphs.{fills}
use Rattle.snb_graph_model.specs.Soundness.{Need, edges_of}

-- the key of the table's edges is the id of one end
pub record IsEndEdge (edge : Table) : Type 0 where
  pub link : shape edge ≡ shapes.Link
  pub one_end : key_columns edge ≢ FirstTwo
  pub directed : has_no_direction edge ≡ false

-- what a node must have
abbrev pub needs_at : Table → ℕ → List Need
needs_at node id = map (λ edge. (node, id, edge)) (edges_of node)

-- what of it isn't there
abbrev pub missing_of : List Row → List Need → List Need
missing_of g needs = filter (λ need. not (fills g (slot (need.2, need.1, 0, [])))) needs

-- the edge is the first of those that are missing
abbrev pub TellsFirst : List Need → Unsound → Type 0
TellsFirst missing (Lacks node id edge) =
    (others : List Need) × (missing ≡ (node, id, edge) ∷ others)
TellsFirst missing (Cycle comment) = ⊥
TellsFirst missing Memory = Unit {0}

-- nothing of it is missing, or the first that is missing is told, or memory doesn't suffice
abbrev pub Finds : List Row → List Need → Result (Unit {0}) Unsound → Type 0
Finds g needs result =
    MatchResult result (λ u. missing_of g needs ≡ []) (TellsFirst (missing_of g needs))
