use Rattle.std.proofs.Common.{◌∙◌, sym, refl, []}
use Rattle.snb_schema.specs.declared.table.Table.TheVariants as table
use Rattle.snb_graph_rows.specs.KeysApart.{edge_name}
use Rattle.snb_graph_tables.proofs.SlotLemmas.{twin_iff}
use Rattle.snb_graph_tables.proofs.tables.Tables.has_twin.Goals as goal

pub returns-in-Post : goal.returns-in-Post
returns-in-Post c = rw c.in-Post.is (twin_iff c.args.self.now.rows (table.Post, c.in-Post.post.id, 0, []) table.Comment c.has_node.result refl c.has_node.ensures)

pub returns-in-Comment : goal.returns-in-Comment
returns-in-Comment c = rw c.in-Comment.is (twin_iff c.args.self.now.rows (table.Comment, c.in-Comment.comment.id, 0, []) table.Post c.has_node-in-Comment.result refl c.has_node-in-Comment.ensures)

pub returns-in-Some : goal.returns-in-Some
returns-in-Some c = rw c.in-Edge.is (twin_iff c.args.self.now.rows (edge_name c.in-Edge.key) c.in-Some.other c.has_edge.result (sym c.twin_of.ensures ∙ c.in-Some.is) c.has_edge.ensures)
