use Rattle.std.proofs.Common.{refl}
use Rattle.snb_schema.specs.RowKeys.{node_key}
use Rattle.snb_schema.specs.declared.table.Kind.TheVariants as kinds
use Rattle.snb_graph_tables.specs.Parts.{parts}
use Rattle.snb_graph_tables.proofs.SlotLemmas.{key_in_part}
use Rattle.snb_graph_tables.proofs.Laws.{rows_is}
use Rattle.snb_graph_tables.proofs.tables.Tables.has_node.Goals as goal

pub returns-in-Place : goal.returns-in-Place
returns-in-Place c = rw c.in-Place.is (key_in_part (parts c.self.inside) 0 c.args.self.now.rows (node_key kinds.Place c.args.id) c.has.result (rows_is c.self.view_is) c.self.invariant refl c.has.ensures)

pub returns-in-TagClass : goal.returns-in-TagClass
returns-in-TagClass c = rw c.in-TagClass.is (key_in_part (parts c.self.inside) 1 c.args.self.now.rows (node_key kinds.TagClass c.args.id) c.has-in-TagClass.result (rows_is c.self.view_is) c.self.invariant refl c.has-in-TagClass.ensures)

pub returns-in-Tag : goal.returns-in-Tag
returns-in-Tag c = rw c.in-Tag.is (key_in_part (parts c.self.inside) 2 c.args.self.now.rows (node_key kinds.Tag c.args.id) c.has-in-Tag.result (rows_is c.self.view_is) c.self.invariant refl c.has-in-Tag.ensures)

pub returns-in-Organisation : goal.returns-in-Organisation
returns-in-Organisation c = rw c.in-Organisation.is (key_in_part (parts c.self.inside) 3 c.args.self.now.rows (node_key kinds.Organisation c.args.id) c.has-in-Organisation.result (rows_is c.self.view_is) c.self.invariant refl c.has-in-Organisation.ensures)

pub returns-in-Person : goal.returns-in-Person
returns-in-Person c = rw c.in-Person.is (key_in_part (parts c.self.inside) 4 c.args.self.now.rows (node_key kinds.Person c.args.id) c.has-in-Person.result (rows_is c.self.view_is) c.self.invariant refl c.has-in-Person.ensures)

pub returns-in-Forum : goal.returns-in-Forum
returns-in-Forum c = rw c.in-Forum.is (key_in_part (parts c.self.inside) 5 c.args.self.now.rows (node_key kinds.Forum c.args.id) c.has-in-Forum.result (rows_is c.self.view_is) c.self.invariant refl c.has-in-Forum.ensures)

pub returns-in-Post : goal.returns-in-Post
returns-in-Post c = rw c.in-Post.is (key_in_part (parts c.self.inside) 6 c.args.self.now.rows (node_key kinds.Post c.args.id) c.has-in-Post.result (rows_is c.self.view_is) c.self.invariant refl c.has-in-Post.ensures)

pub returns-in-Comment : goal.returns-in-Comment
returns-in-Comment c = rw c.in-Comment.is (key_in_part (parts c.self.inside) 7 c.args.self.now.rows (node_key kinds.Comment c.args.id) c.has-in-Comment.result (rows_is c.self.view_is) c.self.invariant refl c.has-in-Comment.ensures)
