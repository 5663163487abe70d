use Rattle.std.proofs.Common.{◌∙◌, arith, refl, sym}
use Rattle.snb_schema.specs.declared.table.Table.TheVariants as tables
use Rattle.snb_graph_tables.specs.Parts.{parts}
use Rattle.snb_graph_tables.proofs.PartLemmas.{part_fit}
use Rattle.snb_graph_tables.proofs.TableLemmas.{node_rows}
use Rattle.snb_graph_tables.proofs.Laws.{rows_is}
use Rattle.snb_graph_tables.proofs.tables.Tables.left.Goals as goal

pub every-requires : goal.every-requires
every-requires c = part_fit (parts c.self.inside) 0 c.self.invariant

pub returns-in-Place : goal.returns-in-Place
returns-in-Place c = rw c.in-Place.is (c.every.ensures ∙ sym (node_rows tables.Place (parts c.self.inside) c.args.self.now.rows 0 (rows_is c.self.view_is) c.self.invariant refl (omega arith)))

pub every-requires-in-TagClass : goal.every-requires-in-TagClass
every-requires-in-TagClass c = part_fit (parts c.self.inside) 1 c.self.invariant

pub returns-in-TagClass : goal.returns-in-TagClass
returns-in-TagClass c = rw c.in-TagClass.is (c.every-in-TagClass.ensures ∙ sym (node_rows tables.TagClass (parts c.self.inside) c.args.self.now.rows 1 (rows_is c.self.view_is) c.self.invariant refl (omega arith)))

pub every-requires-in-Tag : goal.every-requires-in-Tag
every-requires-in-Tag c = part_fit (parts c.self.inside) 2 c.self.invariant

pub returns-in-Tag : goal.returns-in-Tag
returns-in-Tag c = rw c.in-Tag.is (c.every-in-Tag.ensures ∙ sym (node_rows tables.Tag (parts c.self.inside) c.args.self.now.rows 2 (rows_is c.self.view_is) c.self.invariant refl (omega arith)))

pub every-requires-in-Organisation : goal.every-requires-in-Organisation
every-requires-in-Organisation c = part_fit (parts c.self.inside) 3 c.self.invariant

pub returns-in-Organisation : goal.returns-in-Organisation
returns-in-Organisation c = rw c.in-Organisation.is (c.every-in-Organisation.ensures ∙ sym (node_rows tables.Organisation (parts c.self.inside) c.args.self.now.rows 3 (rows_is c.self.view_is) c.self.invariant refl (omega arith)))

pub every-requires-in-Person : goal.every-requires-in-Person
every-requires-in-Person c = part_fit (parts c.self.inside) 4 c.self.invariant

pub returns-in-Person : goal.returns-in-Person
returns-in-Person c = rw c.in-Person.is (c.every-in-Person.ensures ∙ sym (node_rows tables.Person (parts c.self.inside) c.args.self.now.rows 4 (rows_is c.self.view_is) c.self.invariant refl (omega arith)))

pub every-requires-in-Forum : goal.every-requires-in-Forum
every-requires-in-Forum c = part_fit (parts c.self.inside) 5 c.self.invariant

pub returns-in-Forum : goal.returns-in-Forum
returns-in-Forum c = rw c.in-Forum.is (c.every-in-Forum.ensures ∙ sym (node_rows tables.Forum (parts c.self.inside) c.args.self.now.rows 5 (rows_is c.self.view_is) c.self.invariant refl (omega arith)))

pub every-requires-in-Post : goal.every-requires-in-Post
every-requires-in-Post c = part_fit (parts c.self.inside) 6 c.self.invariant

pub returns-in-Post : goal.returns-in-Post
returns-in-Post c = rw c.in-Post.is (c.every-in-Post.ensures ∙ sym (node_rows tables.Post (parts c.self.inside) c.args.self.now.rows 6 (rows_is c.self.view_is) c.self.invariant refl (omega arith)))

pub every-requires-in-Comment : goal.every-requires-in-Comment
every-requires-in-Comment c = part_fit (parts c.self.inside) 7 c.self.invariant

pub returns-in-Comment : goal.returns-in-Comment
returns-in-Comment c = rw c.in-Comment.is (c.every-in-Comment.ensures ∙ sym (node_rows tables.Comment (parts c.self.inside) c.args.self.now.rows 7 (rows_is c.self.view_is) c.self.invariant refl (omega arith)))
