use Rattle.std.proofs.Common.{refl, arith}
use Rattle.snb_graph_rows.specs.KeysApart.{word_name}
use Rattle.snb_graph_tables.specs.Parts.{frozen_parts, parts}
use Rattle.snb_graph_tables.proofs.PartLemmas.{not_in_part, part_lost}
use Rattle.snb_graph_tables.proofs.Laws.{rows_is}
use Rattle.snb_graph_tables.proofs.tables.Tables.take_word.Goals as goal

pub invariant_of-self : goal.invariant_of-self
invariant_of-self c = (part_lost (parts c.self.inside) 9 c.take_back.new.self.rows c.args.self.now.rows (word_name c.args.key) (omega arith) (rows_is c.self.view_is) c.self.invariant c.take_back.ensures.whole c.take_back.ensures.lost c.requires.word c.requires.held).0

pub returns-clause-gone : goal.returns-clause-gone
returns-clause-gone c = (part_lost (parts c.self.inside) 9 c.take_back.new.self.rows c.args.self.now.rows (word_name c.args.key) (omega arith) (rows_is c.self.view_is) c.self.invariant c.take_back.ensures.whole c.take_back.ensures.lost c.requires.word c.requires.held).1

pub take_back-requires : goal.take_back-requires
take_back-requires c = not_in_part (frozen_parts c.self.inside) 9 (word_name c.args.key) (rw (← c.self.view_is) at c.requires.free)

pub returns-clause-frozen : goal.returns-clause-frozen
returns-clause-frozen c = rw (c.take_back.ensures.frozen, ← c.self.view_is) refl
