-- A node is taken out of the shelf of its kind.
use Rattle.std.proofs.Common.{refl, subst, arith}
use Rattle.snb_schema.specs.RowKeys.{node_key}
use Rattle.snb_schema.specs.declared.table.Kind.TheVariants as kinds
use Rattle.snb_graph_tables.specs.Parts.{frozen_parts, parts}
use Rattle.snb_graph_tables.proofs.PartLemmas.{not_in_part, part_lost}
use Rattle.snb_graph_model.specs.Graphs.{HasKey}
use Rattle.snb_graph_tables.proofs.Laws.{rows_is}
use Rattle.snb_graph_tables.proofs.tables.Tables.take_node.Goals as goal

pub invariant_of-self : goal.invariant_of-self
invariant_of-self c = (part_lost (parts c.self.inside) 0 c.take_back.new.self.rows c.args.self.now.rows (node_key kinds.Place c.args.id) (omega arith) (rows_is c.self.view_is) c.self.invariant c.take_back.ensures.whole c.take_back.ensures.lost refl (subst (λ k. HasKey c.args.self.now.rows (node_key k c.args.id)) c.in-Place.is c.requires.held)).0

pub returns-in-Place-clause-gone : goal.returns-in-Place-clause-gone
returns-in-Place-clause-gone c = rw c.in-Place.is (part_lost (parts c.self.inside) 0 c.take_back.new.self.rows c.args.self.now.rows (node_key kinds.Place c.args.id) (omega arith) (rows_is c.self.view_is) c.self.invariant c.take_back.ensures.whole c.take_back.ensures.lost refl (subst (λ k. HasKey c.args.self.now.rows (node_key k c.args.id)) c.in-Place.is c.requires.held)).1

pub invariant_of-self-in-TagClass : goal.invariant_of-self-in-TagClass
invariant_of-self-in-TagClass c = (part_lost (parts c.self.inside) 1 c.take_back-in-TagClass.new.self.rows c.args.self.now.rows (node_key kinds.TagClass c.args.id) (omega arith) (rows_is c.self.view_is) c.self.invariant c.take_back-in-TagClass.ensures.whole c.take_back-in-TagClass.ensures.lost refl (subst (λ k. HasKey c.args.self.now.rows (node_key k c.args.id)) c.in-TagClass.is c.requires.held)).0

pub returns-in-TagClass-clause-gone : goal.returns-in-TagClass-clause-gone
returns-in-TagClass-clause-gone c = rw c.in-TagClass.is (part_lost (parts c.self.inside) 1 c.take_back-in-TagClass.new.self.rows c.args.self.now.rows (node_key kinds.TagClass c.args.id) (omega arith) (rows_is c.self.view_is) c.self.invariant c.take_back-in-TagClass.ensures.whole c.take_back-in-TagClass.ensures.lost refl (subst (λ k. HasKey c.args.self.now.rows (node_key k c.args.id)) c.in-TagClass.is c.requires.held)).1

pub invariant_of-self-in-Tag : goal.invariant_of-self-in-Tag
invariant_of-self-in-Tag c = (part_lost (parts c.self.inside) 2 c.take_back-in-Tag.new.self.rows c.args.self.now.rows (node_key kinds.Tag c.args.id) (omega arith) (rows_is c.self.view_is) c.self.invariant c.take_back-in-Tag.ensures.whole c.take_back-in-Tag.ensures.lost refl (subst (λ k. HasKey c.args.self.now.rows (node_key k c.args.id)) c.in-Tag.is c.requires.held)).0

pub returns-in-Tag-clause-gone : goal.returns-in-Tag-clause-gone
returns-in-Tag-clause-gone c = rw c.in-Tag.is (part_lost (parts c.self.inside) 2 c.take_back-in-Tag.new.self.rows c.args.self.now.rows (node_key kinds.Tag c.args.id) (omega arith) (rows_is c.self.view_is) c.self.invariant c.take_back-in-Tag.ensures.whole c.take_back-in-Tag.ensures.lost refl (subst (λ k. HasKey c.args.self.now.rows (node_key k c.args.id)) c.in-Tag.is c.requires.held)).1

pub invariant_of-self-in-Organisation : goal.invariant_of-self-in-Organisation
invariant_of-self-in-Organisation c = (part_lost (parts c.self.inside) 3 c.take_back-in-Organisation.new.self.rows c.args.self.now.rows (node_key kinds.Organisation c.args.id) (omega arith) (rows_is c.self.view_is) c.self.invariant c.take_back-in-Organisation.ensures.whole c.take_back-in-Organisation.ensures.lost refl (subst (λ k. HasKey c.args.self.now.rows (node_key k c.args.id)) c.in-Organisation.is c.requires.held)).0

pub returns-in-Organisation-clause-gone : goal.returns-in-Organisation-clause-gone
returns-in-Organisation-clause-gone c = rw c.in-Organisation.is (part_lost (parts c.self.inside) 3 c.take_back-in-Organisation.new.self.rows c.args.self.now.rows (node_key kinds.Organisation c.args.id) (omega arith) (rows_is c.self.view_is) c.self.invariant c.take_back-in-Organisation.ensures.whole c.take_back-in-Organisation.ensures.lost refl (subst (λ k. HasKey c.args.self.now.rows (node_key k c.args.id)) c.in-Organisation.is c.requires.held)).1

pub invariant_of-self-in-Person : goal.invariant_of-self-in-Person
invariant_of-self-in-Person c = (part_lost (parts c.self.inside) 4 c.take_back-in-Person.new.self.rows c.args.self.now.rows (node_key kinds.Person c.args.id) (omega arith) (rows_is c.self.view_is) c.self.invariant c.take_back-in-Person.ensures.whole c.take_back-in-Person.ensures.lost refl (subst (λ k. HasKey c.args.self.now.rows (node_key k c.args.id)) c.in-Person.is c.requires.held)).0

pub returns-in-Person-clause-gone : goal.returns-in-Person-clause-gone
returns-in-Person-clause-gone c = rw c.in-Person.is (part_lost (parts c.self.inside) 4 c.take_back-in-Person.new.self.rows c.args.self.now.rows (node_key kinds.Person c.args.id) (omega arith) (rows_is c.self.view_is) c.self.invariant c.take_back-in-Person.ensures.whole c.take_back-in-Person.ensures.lost refl (subst (λ k. HasKey c.args.self.now.rows (node_key k c.args.id)) c.in-Person.is c.requires.held)).1

pub invariant_of-self-in-Forum : goal.invariant_of-self-in-Forum
invariant_of-self-in-Forum c = (part_lost (parts c.self.inside) 5 c.take_back-in-Forum.new.self.rows c.args.self.now.rows (node_key kinds.Forum c.args.id) (omega arith) (rows_is c.self.view_is) c.self.invariant c.take_back-in-Forum.ensures.whole c.take_back-in-Forum.ensures.lost refl (subst (λ k. HasKey c.args.self.now.rows (node_key k c.args.id)) c.in-Forum.is c.requires.held)).0

pub returns-in-Forum-clause-gone : goal.returns-in-Forum-clause-gone
returns-in-Forum-clause-gone c = rw c.in-Forum.is (part_lost (parts c.self.inside) 5 c.take_back-in-Forum.new.self.rows c.args.self.now.rows (node_key kinds.Forum c.args.id) (omega arith) (rows_is c.self.view_is) c.self.invariant c.take_back-in-Forum.ensures.whole c.take_back-in-Forum.ensures.lost refl (subst (λ k. HasKey c.args.self.now.rows (node_key k c.args.id)) c.in-Forum.is c.requires.held)).1

pub invariant_of-self-in-Post : goal.invariant_of-self-in-Post
invariant_of-self-in-Post c = (part_lost (parts c.self.inside) 6 c.take_back-in-Post.new.self.rows c.args.self.now.rows (node_key kinds.Post c.args.id) (omega arith) (rows_is c.self.view_is) c.self.invariant c.take_back-in-Post.ensures.whole c.take_back-in-Post.ensures.lost refl (subst (λ k. HasKey c.args.self.now.rows (node_key k c.args.id)) c.in-Post.is c.requires.held)).0

pub returns-in-Post-clause-gone : goal.returns-in-Post-clause-gone
returns-in-Post-clause-gone c = rw c.in-Post.is (part_lost (parts c.self.inside) 6 c.take_back-in-Post.new.self.rows c.args.self.now.rows (node_key kinds.Post c.args.id) (omega arith) (rows_is c.self.view_is) c.self.invariant c.take_back-in-Post.ensures.whole c.take_back-in-Post.ensures.lost refl (subst (λ k. HasKey c.args.self.now.rows (node_key k c.args.id)) c.in-Post.is c.requires.held)).1

pub invariant_of-self-in-Comment : goal.invariant_of-self-in-Comment
invariant_of-self-in-Comment c = (part_lost (parts c.self.inside) 7 c.take_back-in-Comment.new.self.rows c.args.self.now.rows (node_key kinds.Comment c.args.id) (omega arith) (rows_is c.self.view_is) c.self.invariant c.take_back-in-Comment.ensures.whole c.take_back-in-Comment.ensures.lost refl (subst (λ k. HasKey c.args.self.now.rows (node_key k c.args.id)) c.in-Comment.is c.requires.held)).0

pub returns-in-Comment-clause-gone : goal.returns-in-Comment-clause-gone
returns-in-Comment-clause-gone c = rw c.in-Comment.is (part_lost (parts c.self.inside) 7 c.take_back-in-Comment.new.self.rows c.args.self.now.rows (node_key kinds.Comment c.args.id) (omega arith) (rows_is c.self.view_is) c.self.invariant c.take_back-in-Comment.ensures.whole c.take_back-in-Comment.ensures.lost refl (subst (λ k. HasKey c.args.self.now.rows (node_key k c.args.id)) c.in-Comment.is c.requires.held)).1

pub take_back-requires : goal.take_back-requires
take_back-requires c = not_in_part (frozen_parts c.self.inside) 0 (node_key kinds.Place c.args.id) (rw (c.in-Place.is, ← c.self.view_is) at c.requires.free)

pub returns-in-Place-clause-frozen : goal.returns-in-Place-clause-frozen
returns-in-Place-clause-frozen c = rw (c.take_back.ensures.frozen, ← c.self.view_is) refl

pub take_back-requires-in-TagClass : goal.take_back-requires-in-TagClass
take_back-requires-in-TagClass c = not_in_part (frozen_parts c.self.inside) 1 (node_key kinds.TagClass c.args.id) (rw (c.in-TagClass.is, ← c.self.view_is) at c.requires.free)

pub returns-in-TagClass-clause-frozen : goal.returns-in-TagClass-clause-frozen
returns-in-TagClass-clause-frozen c = rw (c.take_back-in-TagClass.ensures.frozen, ← c.self.view_is) refl

pub take_back-requires-in-Tag : goal.take_back-requires-in-Tag
take_back-requires-in-Tag c = not_in_part (frozen_parts c.self.inside) 2 (node_key kinds.Tag c.args.id) (rw (c.in-Tag.is, ← c.self.view_is) at c.requires.free)

pub returns-in-Tag-clause-frozen : goal.returns-in-Tag-clause-frozen
returns-in-Tag-clause-frozen c = rw (c.take_back-in-Tag.ensures.frozen, ← c.self.view_is) refl

pub take_back-requires-in-Organisation : goal.take_back-requires-in-Organisation
take_back-requires-in-Organisation c = not_in_part (frozen_parts c.self.inside) 3 (node_key kinds.Organisation c.args.id) (rw (c.in-Organisation.is, ← c.self.view_is) at c.requires.free)

pub returns-in-Organisation-clause-frozen : goal.returns-in-Organisation-clause-frozen
returns-in-Organisation-clause-frozen c = rw (c.take_back-in-Organisation.ensures.frozen, ← c.self.view_is) refl

pub take_back-requires-in-Person : goal.take_back-requires-in-Person
take_back-requires-in-Person c = not_in_part (frozen_parts c.self.inside) 4 (node_key kinds.Person c.args.id) (rw (c.in-Person.is, ← c.self.view_is) at c.requires.free)

pub returns-in-Person-clause-frozen : goal.returns-in-Person-clause-frozen
returns-in-Person-clause-frozen c = rw (c.take_back-in-Person.ensures.frozen, ← c.self.view_is) refl

pub take_back-requires-in-Forum : goal.take_back-requires-in-Forum
take_back-requires-in-Forum c = not_in_part (frozen_parts c.self.inside) 5 (node_key kinds.Forum c.args.id) (rw (c.in-Forum.is, ← c.self.view_is) at c.requires.free)

pub returns-in-Forum-clause-frozen : goal.returns-in-Forum-clause-frozen
returns-in-Forum-clause-frozen c = rw (c.take_back-in-Forum.ensures.frozen, ← c.self.view_is) refl

pub take_back-requires-in-Post : goal.take_back-requires-in-Post
take_back-requires-in-Post c = not_in_part (frozen_parts c.self.inside) 6 (node_key kinds.Post c.args.id) (rw (c.in-Post.is, ← c.self.view_is) at c.requires.free)

pub returns-in-Post-clause-frozen : goal.returns-in-Post-clause-frozen
returns-in-Post-clause-frozen c = rw (c.take_back-in-Post.ensures.frozen, ← c.self.view_is) refl

pub take_back-requires-in-Comment : goal.take_back-requires-in-Comment
take_back-requires-in-Comment c = not_in_part (frozen_parts c.self.inside) 7 (node_key kinds.Comment c.args.id) (rw (c.in-Comment.is, ← c.self.view_is) at c.requires.free)

pub returns-in-Comment-clause-frozen : goal.returns-in-Comment-clause-frozen
returns-in-Comment-clause-frozen c = rw (c.take_back-in-Comment.ensures.frozen, ← c.self.view_is) refl
