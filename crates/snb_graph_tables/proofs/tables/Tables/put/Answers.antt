-- Each kind of row goes to the shelf of its part.
use Rattle.std.proofs.Common.{ap, refl, arith, subst}
use Rattle.snb_graph_tables.specs.Entries.{IsEntry, row_of}
use Rattle.snb_graph_tables.specs.Parts.{frozen_parts, parts}
use Rattle.snb_graph_tables.proofs.PartLemmas.{new_key, put_into}
use Rattle.snb_graph_tables.proofs.Laws.{rows_is}
use Rattle.snb_graph_tables.proofs.tables.Tables.put.Goals as goal

pub add-requires-clause-new : goal.add-requires-clause-new
add-requires-clause-new c = new_key (parts c.self.inside) 0 c.args.self.now.rows (row_of c.args.entry) _ (rows_is c.self.view_is) (ap row_of c.in-Place.is) c.requires.free

pub invariant_of-self : goal.invariant_of-self
invariant_of-self c = (put_into c.args.half (parts c.self.inside) (frozen_parts c.self.inside) 0 c.add.new.self c.args.self.now (row_of c.args.entry) _ c.add.result (omega arith) (omega arith) c.self.view_is (ap row_of c.in-Place.is) c.self.invariant c.add.ensures.whole c.add.ensures.ok c.add.ensures.err c.add.ensures.frozen c.add.ensures.more c.requires.free c.requires.fits.shaped).0

pub returns-in-Place : goal.returns-in-Place
returns-in-Place c = (put_into c.args.half (parts c.self.inside) (frozen_parts c.self.inside) 0 c.add.new.self c.args.self.now (row_of c.args.entry) _ c.add.result (omega arith) (omega arith) c.self.view_is (ap row_of c.in-Place.is) c.self.invariant c.add.ensures.whole c.add.ensures.ok c.add.ensures.err c.add.ensures.frozen c.add.ensures.more c.requires.free c.requires.fits.shaped).1

pub add-requires-in-TagClass-clause-new : goal.add-requires-in-TagClass-clause-new
add-requires-in-TagClass-clause-new c = new_key (parts c.self.inside) 1 c.args.self.now.rows (row_of c.args.entry) _ (rows_is c.self.view_is) (ap row_of c.in-TagClass.is) c.requires.free

pub invariant_of-self-in-TagClass : goal.invariant_of-self-in-TagClass
invariant_of-self-in-TagClass c = (put_into c.args.half (parts c.self.inside) (frozen_parts c.self.inside) 1 c.add-in-TagClass.new.self c.args.self.now (row_of c.args.entry) _ c.add-in-TagClass.result (omega arith) (omega arith) c.self.view_is (ap row_of c.in-TagClass.is) c.self.invariant c.add-in-TagClass.ensures.whole c.add-in-TagClass.ensures.ok c.add-in-TagClass.ensures.err c.add-in-TagClass.ensures.frozen c.add-in-TagClass.ensures.more c.requires.free c.requires.fits.shaped).0

pub returns-in-TagClass : goal.returns-in-TagClass
returns-in-TagClass c = (put_into c.args.half (parts c.self.inside) (frozen_parts c.self.inside) 1 c.add-in-TagClass.new.self c.args.self.now (row_of c.args.entry) _ c.add-in-TagClass.result (omega arith) (omega arith) c.self.view_is (ap row_of c.in-TagClass.is) c.self.invariant c.add-in-TagClass.ensures.whole c.add-in-TagClass.ensures.ok c.add-in-TagClass.ensures.err c.add-in-TagClass.ensures.frozen c.add-in-TagClass.ensures.more c.requires.free c.requires.fits.shaped).1

pub add-requires-in-Tag-clause-new : goal.add-requires-in-Tag-clause-new
add-requires-in-Tag-clause-new c = new_key (parts c.self.inside) 2 c.args.self.now.rows (row_of c.args.entry) _ (rows_is c.self.view_is) (ap row_of c.in-Tag.is) c.requires.free

pub invariant_of-self-in-Tag : goal.invariant_of-self-in-Tag
invariant_of-self-in-Tag c = (put_into c.args.half (parts c.self.inside) (frozen_parts c.self.inside) 2 c.add-in-Tag.new.self c.args.self.now (row_of c.args.entry) _ c.add-in-Tag.result (omega arith) (omega arith) c.self.view_is (ap row_of c.in-Tag.is) c.self.invariant c.add-in-Tag.ensures.whole c.add-in-Tag.ensures.ok c.add-in-Tag.ensures.err c.add-in-Tag.ensures.frozen c.add-in-Tag.ensures.more c.requires.free c.requires.fits.shaped).0

pub returns-in-Tag : goal.returns-in-Tag
returns-in-Tag c = (put_into c.args.half (parts c.self.inside) (frozen_parts c.self.inside) 2 c.add-in-Tag.new.self c.args.self.now (row_of c.args.entry) _ c.add-in-Tag.result (omega arith) (omega arith) c.self.view_is (ap row_of c.in-Tag.is) c.self.invariant c.add-in-Tag.ensures.whole c.add-in-Tag.ensures.ok c.add-in-Tag.ensures.err c.add-in-Tag.ensures.frozen c.add-in-Tag.ensures.more c.requires.free c.requires.fits.shaped).1

pub add-requires-in-Organisation-clause-new : goal.add-requires-in-Organisation-clause-new
add-requires-in-Organisation-clause-new c = new_key (parts c.self.inside) 3 c.args.self.now.rows (row_of c.args.entry) _ (rows_is c.self.view_is) (ap row_of c.in-Organisation.is) c.requires.free

pub invariant_of-self-in-Organisation : goal.invariant_of-self-in-Organisation
invariant_of-self-in-Organisation c = (put_into c.args.half (parts c.self.inside) (frozen_parts c.self.inside) 3 c.add-in-Organisation.new.self c.args.self.now (row_of c.args.entry) _ c.add-in-Organisation.result (omega arith) (omega arith) c.self.view_is (ap row_of c.in-Organisation.is) c.self.invariant c.add-in-Organisation.ensures.whole c.add-in-Organisation.ensures.ok c.add-in-Organisation.ensures.err c.add-in-Organisation.ensures.frozen c.add-in-Organisation.ensures.more c.requires.free c.requires.fits.shaped).0

pub returns-in-Organisation : goal.returns-in-Organisation
returns-in-Organisation c = (put_into c.args.half (parts c.self.inside) (frozen_parts c.self.inside) 3 c.add-in-Organisation.new.self c.args.self.now (row_of c.args.entry) _ c.add-in-Organisation.result (omega arith) (omega arith) c.self.view_is (ap row_of c.in-Organisation.is) c.self.invariant c.add-in-Organisation.ensures.whole c.add-in-Organisation.ensures.ok c.add-in-Organisation.ensures.err c.add-in-Organisation.ensures.frozen c.add-in-Organisation.ensures.more c.requires.free c.requires.fits.shaped).1

pub add-requires-in-Person-clause-new : goal.add-requires-in-Person-clause-new
add-requires-in-Person-clause-new c = new_key (parts c.self.inside) 4 c.args.self.now.rows (row_of c.args.entry) _ (rows_is c.self.view_is) (ap row_of c.in-Person.is) c.requires.free

pub invariant_of-self-in-Person : goal.invariant_of-self-in-Person
invariant_of-self-in-Person c = (put_into c.args.half (parts c.self.inside) (frozen_parts c.self.inside) 4 c.add-in-Person.new.self c.args.self.now (row_of c.args.entry) _ c.add-in-Person.result (omega arith) (omega arith) c.self.view_is (ap row_of c.in-Person.is) c.self.invariant c.add-in-Person.ensures.whole c.add-in-Person.ensures.ok c.add-in-Person.ensures.err c.add-in-Person.ensures.frozen c.add-in-Person.ensures.more c.requires.free c.requires.fits.shaped).0

pub returns-in-Person : goal.returns-in-Person
returns-in-Person c = (put_into c.args.half (parts c.self.inside) (frozen_parts c.self.inside) 4 c.add-in-Person.new.self c.args.self.now (row_of c.args.entry) _ c.add-in-Person.result (omega arith) (omega arith) c.self.view_is (ap row_of c.in-Person.is) c.self.invariant c.add-in-Person.ensures.whole c.add-in-Person.ensures.ok c.add-in-Person.ensures.err c.add-in-Person.ensures.frozen c.add-in-Person.ensures.more c.requires.free c.requires.fits.shaped).1

pub add-requires-in-Forum-clause-new : goal.add-requires-in-Forum-clause-new
add-requires-in-Forum-clause-new c = new_key (parts c.self.inside) 5 c.args.self.now.rows (row_of c.args.entry) _ (rows_is c.self.view_is) (ap row_of c.in-Forum.is) c.requires.free

pub invariant_of-self-in-Forum : goal.invariant_of-self-in-Forum
invariant_of-self-in-Forum c = (put_into c.args.half (parts c.self.inside) (frozen_parts c.self.inside) 5 c.add-in-Forum.new.self c.args.self.now (row_of c.args.entry) _ c.add-in-Forum.result (omega arith) (omega arith) c.self.view_is (ap row_of c.in-Forum.is) c.self.invariant c.add-in-Forum.ensures.whole c.add-in-Forum.ensures.ok c.add-in-Forum.ensures.err c.add-in-Forum.ensures.frozen c.add-in-Forum.ensures.more c.requires.free c.requires.fits.shaped).0

pub returns-in-Forum : goal.returns-in-Forum
returns-in-Forum c = (put_into c.args.half (parts c.self.inside) (frozen_parts c.self.inside) 5 c.add-in-Forum.new.self c.args.self.now (row_of c.args.entry) _ c.add-in-Forum.result (omega arith) (omega arith) c.self.view_is (ap row_of c.in-Forum.is) c.self.invariant c.add-in-Forum.ensures.whole c.add-in-Forum.ensures.ok c.add-in-Forum.ensures.err c.add-in-Forum.ensures.frozen c.add-in-Forum.ensures.more c.requires.free c.requires.fits.shaped).1

pub add-requires-in-Post-clause-new : goal.add-requires-in-Post-clause-new
add-requires-in-Post-clause-new c = new_key (parts c.self.inside) 6 c.args.self.now.rows (row_of c.args.entry) _ (rows_is c.self.view_is) (ap row_of c.in-Post.is) c.requires.free

pub invariant_of-self-in-Post : goal.invariant_of-self-in-Post
invariant_of-self-in-Post c = (put_into c.args.half (parts c.self.inside) (frozen_parts c.self.inside) 6 c.add-in-Post.new.self c.args.self.now (row_of c.args.entry) _ c.add-in-Post.result (omega arith) (omega arith) c.self.view_is (ap row_of c.in-Post.is) c.self.invariant c.add-in-Post.ensures.whole c.add-in-Post.ensures.ok c.add-in-Post.ensures.err c.add-in-Post.ensures.frozen c.add-in-Post.ensures.more c.requires.free c.requires.fits.shaped).0

pub returns-in-Post : goal.returns-in-Post
returns-in-Post c = (put_into c.args.half (parts c.self.inside) (frozen_parts c.self.inside) 6 c.add-in-Post.new.self c.args.self.now (row_of c.args.entry) _ c.add-in-Post.result (omega arith) (omega arith) c.self.view_is (ap row_of c.in-Post.is) c.self.invariant c.add-in-Post.ensures.whole c.add-in-Post.ensures.ok c.add-in-Post.ensures.err c.add-in-Post.ensures.frozen c.add-in-Post.ensures.more c.requires.free c.requires.fits.shaped).1

pub add-requires-in-Comment-clause-new : goal.add-requires-in-Comment-clause-new
add-requires-in-Comment-clause-new c = new_key (parts c.self.inside) 7 c.args.self.now.rows (row_of c.args.entry) _ (rows_is c.self.view_is) (ap row_of c.in-Comment.is) c.requires.free

pub invariant_of-self-in-Comment : goal.invariant_of-self-in-Comment
invariant_of-self-in-Comment c = (put_into c.args.half (parts c.self.inside) (frozen_parts c.self.inside) 7 c.add-in-Comment.new.self c.args.self.now (row_of c.args.entry) _ c.add-in-Comment.result (omega arith) (omega arith) c.self.view_is (ap row_of c.in-Comment.is) c.self.invariant c.add-in-Comment.ensures.whole c.add-in-Comment.ensures.ok c.add-in-Comment.ensures.err c.add-in-Comment.ensures.frozen c.add-in-Comment.ensures.more c.requires.free c.requires.fits.shaped).0

pub returns-in-Comment : goal.returns-in-Comment
returns-in-Comment c = (put_into c.args.half (parts c.self.inside) (frozen_parts c.self.inside) 7 c.add-in-Comment.new.self c.args.self.now (row_of c.args.entry) _ c.add-in-Comment.result (omega arith) (omega arith) c.self.view_is (ap row_of c.in-Comment.is) c.self.invariant c.add-in-Comment.ensures.whole c.add-in-Comment.ensures.ok c.add-in-Comment.ensures.err c.add-in-Comment.ensures.frozen c.add-in-Comment.ensures.more c.requires.free c.requires.fits.shaped).1

pub add-requires-in-Edge-clause-fits : goal.add-requires-in-Edge-clause-fits
add-requires-in-Edge-clause-fits c = let fits = subst IsEntry c.in-Edge.is c.requires.fits in (fits.keyed, fits.stands)

pub add-requires-in-Edge-clause-new : goal.add-requires-in-Edge-clause-new
add-requires-in-Edge-clause-new c = let fits = subst IsEntry c.in-Edge.is c.requires.fits in rw (← fits.keyed) (new_key (parts c.self.inside) 8 c.args.self.now.rows (row_of c.args.entry) _ (rows_is c.self.view_is) (ap row_of c.in-Edge.is) c.requires.free)

pub invariant_of-self-in-Edge : goal.invariant_of-self-in-Edge
invariant_of-self-in-Edge c = (put_into c.args.half (parts c.self.inside) (frozen_parts c.self.inside) 8 c.add-in-Edge.new.self c.args.self.now (row_of c.args.entry) _ c.add-in-Edge.result (omega arith) (omega arith) c.self.view_is (ap row_of c.in-Edge.is) c.self.invariant c.add-in-Edge.ensures.whole c.add-in-Edge.ensures.ok c.add-in-Edge.ensures.err c.add-in-Edge.ensures.frozen c.add-in-Edge.ensures.more c.requires.free c.requires.fits.shaped).0

pub returns-in-Edge : goal.returns-in-Edge
returns-in-Edge c = (put_into c.args.half (parts c.self.inside) (frozen_parts c.self.inside) 8 c.add-in-Edge.new.self c.args.self.now (row_of c.args.entry) _ c.add-in-Edge.result (omega arith) (omega arith) c.self.view_is (ap row_of c.in-Edge.is) c.self.invariant c.add-in-Edge.ensures.whole c.add-in-Edge.ensures.ok c.add-in-Edge.ensures.err c.add-in-Edge.ensures.frozen c.add-in-Edge.ensures.more c.requires.free c.requires.fits.shaped).1

pub add-requires-in-Word-clause-fits : goal.add-requires-in-Word-clause-fits
add-requires-in-Word-clause-fits c = (refl, (subst IsEntry c.in-Word.is c.requires.fits).stands)

pub add-requires-in-Word-clause-new : goal.add-requires-in-Word-clause-new
add-requires-in-Word-clause-new c = new_key (parts c.self.inside) 9 c.args.self.now.rows (row_of c.args.entry) _ (rows_is c.self.view_is) (ap row_of c.in-Word.is) c.requires.free

pub invariant_of-self-in-Word : goal.invariant_of-self-in-Word
invariant_of-self-in-Word c = (put_into c.args.half (parts c.self.inside) (frozen_parts c.self.inside) 9 c.add-in-Word.new.self c.args.self.now (row_of c.args.entry) _ c.add-in-Word.result (omega arith) (omega arith) c.self.view_is (ap row_of c.in-Word.is) c.self.invariant c.add-in-Word.ensures.whole c.add-in-Word.ensures.ok c.add-in-Word.ensures.err c.add-in-Word.ensures.frozen c.add-in-Word.ensures.more c.requires.free c.requires.fits.shaped).0

pub returns-in-Word : goal.returns-in-Word
returns-in-Word c = (put_into c.args.half (parts c.self.inside) (frozen_parts c.self.inside) 9 c.add-in-Word.new.self c.args.self.now (row_of c.args.entry) _ c.add-in-Word.result (omega arith) (omega arith) c.self.view_is (ap row_of c.in-Word.is) c.self.invariant c.add-in-Word.ensures.whole c.add-in-Word.ensures.ok c.add-in-Word.ensures.err c.add-in-Word.ensures.frozen c.add-in-Word.ensures.more c.requires.free c.requires.fits.shaped).1
