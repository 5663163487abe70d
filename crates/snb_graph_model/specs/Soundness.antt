-- When a graph is sound, and what is wrong first with a graph that isn't.
use Rattle.std.specs.Prelude.{◌≡◌, ◌≤◌, not, false, ℕ, zero, suc, List, [], ◌∷◌, All, Contains, filter, map}
use Rattle.std.specs.List.{flat_map}
use Rattle.snb_schema.specs.declared.row.Row.{Row}
use Rattle.snb_schema.specs.declared.row.Row.TheVariants as row
use Rattle.snb_schema.specs.declared.table.Kind.TheVariants as kinds
use Rattle.snb_schema.specs.declared.table.Table.{Table}
use Rattle.snb_schema.specs.declared.table.Table.TheVariants as table
use Rattle.snb_schema.specs.References.{refs_of_row, required}
use Rattle.snb_schema.specs.RowKeys.{node_key, row_key, slot}
use Rattle.snb_schema.specs.TableOrder.{all_tables, same_table}
use Rattle.snb_graph_model.specs.Graphs.{HasKey, fills, rows}

-- each node that a row refers to is held
abbrev pub HoldsRefs : List Row → Type 0
HoldsRefs g =
    (r : Row) → Contains g r → All (λ ref. HasKey g (node_key ref.1.kind ref.1.id))
    (refs_of_row r false)

-- an edge that a node must have: the node's table and id, and the edge's table
abbrev pub Need : Type 0
Need = Table × ℕ × Table

-- the tables of the edges that each node of a table must have, in order
abbrev pub edges_of : Table → List Table
edges_of node = map (λ pair. pair.1) (filter (λ pair. same_table pair.0 node) required)

-- what a node must have, by the edge's table
abbrev pub needs_of : Row → List Need
needs_of r = map (λ edge. ((row_key r).0, (row_key r).1, edge)) (edges_of (row_key r).0)

-- what all nodes must have, by the node's table, then its id, then the edge's table
abbrev pub needs : List Row → List Need
needs g = flat_map (λ t. flat_map needs_of (rows g t)) all_tables

-- the edges that nodes must have and that aren't there: each of these edges has its node's id as
-- its key, and a comment's parent may be in either table of replies
abbrev pub missing : List Row → List Need
missing g = filter (λ need. not (fills g (slot (need.2, need.1, 0, [])))) (needs g)

-- this edge is the first that is missing
pub record IsLacking (g : List Row) (node : Table) (id : ℕ) (edge : Table) : Type 0 where
  pub others : List Need
  pub first : missing g ≡ (node, id, edge) ∷ others

-- each edge that a node must have is there
abbrev pub HasNeededEdges : List Row → Type 0
HasNeededEdges g = missing g ≡ []

-- after so many comments the chain of a comment's parents ends at a post
abbrev pub EndsAfter : List Row → ℕ → ℕ → Type 0
EndsAfter g zero comment = (post : ℕ) × Contains g (row.Link table.CommentReplyOfPost comment post)
EndsAfter g (suc n) comment =
    (parent : ℕ) × Contains g (row.Link table.CommentReplyOfComment comment parent)
    × EndsAfter g n parent

-- the chain of a comment's parents ends at a post
abbrev pub IsRooted : List Row → ℕ → Type 0
IsRooted g comment = (n : ℕ) × EndsAfter g n comment

-- the least comment whose chain doesn't end at a post: it is in a cycle, or hangs below one
pub record IsCycle (g : List Row) (comment : ℕ) : Type 0 where
  pub held : HasKey g (node_key kinds.Comment comment)
  pub loose : ¬ IsRooted g comment
  pub least : (other : ℕ) → HasKey g (node_key kinds.Comment other) → ¬ IsRooted g other
      → comment ≤ other

-- each reference is held, each edge that a node must have is there, and each comment's chain of
-- parents ends at a post
pub record Sound (g : List Row) : Type 0 where
  pub held : HoldsRefs g
  pub complete : HasNeededEdges g
  pub rooted : (comment : ℕ) → HasKey g (node_key kinds.Comment comment) → IsRooted g comment
