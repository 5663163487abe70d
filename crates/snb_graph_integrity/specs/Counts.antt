-- As many edges as nodes that must have them.
use Rattle.std.specs.Prelude.{◌≡◌, ◌+◌, ℕ, List, All}
use Rattle.snb_schema.specs.declared.row.Row.{Row}
use Rattle.snb_schema.specs.declared.table.Table.{Table}
use Rattle.snb_schema.specs.declared.table.Table.TheVariants as table
use Rattle.snb_schema.specs.TableOrder.{all_tables}
use Rattle.snb_graph_model.specs.Graphs.{count}
use Rattle.snb_graph_model.specs.Soundness.{edges_of}

-- how many edges of a table there are, where both tables of replies are one: a comment's parent may
-- be in either
abbrev pub edge_count : List Row → Table → ℕ
edge_count g table.CommentReplyOfPost =
    count g table.CommentReplyOfPost + count g table.CommentReplyOfComment
edge_count g edge = count g edge

-- there are as many of each edge that the nodes of a table must have as there are nodes
abbrev pub IsFull : List Row → Table → Type 0
IsFull g node = All (λ edge. edge_count g edge ≡ count g node) (edges_of node)

-- there are as many of each edge as nodes that must have it
abbrev pub AreFull : List Row → Type 0
AreFull g = All (IsFull g) all_tables
