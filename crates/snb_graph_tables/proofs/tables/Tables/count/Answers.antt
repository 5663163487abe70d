use Rattle.std.proofs.Common.{◌∙◌, ap, sym, length, arith}
use Rattle.snb_graph_model.specs.Graphs.{part_of}
use Rattle.snb_graph_tables.specs.Parts.{parts}
use Rattle.snb_graph_tables.proofs.TableLemmas.{node_rows}
use Rattle.snb_graph_tables.proofs.Laws.{rows_is}
use Rattle.snb_graph_tables.proofs.tables.Tables.count.Goals as goal

pub returns-in-Place : goal.returns-in-Place
returns-in-Place c = c.len.ensures.count ∙ ap length (sym (node_rows c.args.table (parts c.self.inside) c.args.self.now.rows 0 (rows_is c.self.view_is) c.self.invariant (ap part_of (sym c.shape_of.ensures ∙ c.in-Place.is)) (omega arith)))

pub returns-in-TagClass : goal.returns-in-TagClass
returns-in-TagClass c = c.len-in-TagClass.ensures.count ∙ ap length (sym (node_rows c.args.table (parts c.self.inside) c.args.self.now.rows 1 (rows_is c.self.view_is) c.self.invariant (ap part_of (sym c.shape_of.ensures ∙ c.in-TagClass.is)) (omega arith)))

pub returns-in-Tag : goal.returns-in-Tag
returns-in-Tag c = c.len-in-Tag.ensures.count ∙ ap length (sym (node_rows c.args.table (parts c.self.inside) c.args.self.now.rows 2 (rows_is c.self.view_is) c.self.invariant (ap part_of (sym c.shape_of.ensures ∙ c.in-Tag.is)) (omega arith)))

pub returns-in-Organisation : goal.returns-in-Organisation
returns-in-Organisation c = c.len-in-Organisation.ensures.count ∙ ap length (sym (node_rows c.args.table (parts c.self.inside) c.args.self.now.rows 3 (rows_is c.self.view_is) c.self.invariant (ap part_of (sym c.shape_of.ensures ∙ c.in-Organisation.is)) (omega arith)))

pub returns-in-Person : goal.returns-in-Person
returns-in-Person c = c.len-in-Person.ensures.count ∙ ap length (sym (node_rows c.args.table (parts c.self.inside) c.args.self.now.rows 4 (rows_is c.self.view_is) c.self.invariant (ap part_of (sym c.shape_of.ensures ∙ c.in-Person.is)) (omega arith)))

pub returns-in-Forum : goal.returns-in-Forum
returns-in-Forum c = c.len-in-Forum.ensures.count ∙ ap length (sym (node_rows c.args.table (parts c.self.inside) c.args.self.now.rows 5 (rows_is c.self.view_is) c.self.invariant (ap part_of (sym c.shape_of.ensures ∙ c.in-Forum.is)) (omega arith)))

pub returns-in-Post : goal.returns-in-Post
returns-in-Post c = c.len-in-Post.ensures.count ∙ ap length (sym (node_rows c.args.table (parts c.self.inside) c.args.self.now.rows 6 (rows_is c.self.view_is) c.self.invariant (ap part_of (sym c.shape_of.ensures ∙ c.in-Post.is)) (omega arith)))

pub returns-in-Comment : goal.returns-in-Comment
returns-in-Comment c = c.len-in-Comment.ensures.count ∙ ap length (sym (node_rows c.args.table (parts c.self.inside) c.args.self.now.rows 7 (rows_is c.self.view_is) c.self.invariant (ap part_of (sym c.shape_of.ensures ∙ c.in-Comment.is)) (omega arith)))
