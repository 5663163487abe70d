use Rattle.snb_graph_integrity.specs.Marks.{HasChildren}
use Rattle.snb_graph_integrity.proofs.MarkLemmas.{marking_passed, marking_more}
use Rattle.snb_graph_integrity.proofs.mark.look.Goals as goal
use Rattle.std.proofs.lemmas.Result.{on_ok_weaker}

pub add-requires : goal.add-requires
add-requires c d pair = let none = c.has.ensures.1 (d, pair) in let no = c.if-has.false in absurd cc

pub returns-then-has : goal.returns-then-has
returns-then-has c roots is = marking_passed c.args.pairs.now roots c.args.marks.now c.args.ahead.now.items c.args.id (c.has.ensures.0 c.if-has.true) is

pub returns : goal.returns
returns c = on_ok_weaker {P = HasChildren c.args.pairs.now c.args.id c.args.ahead.now.items c.push_pairs.new.ahead.items} c.push_pairs.result (λ children roots is. marking_more c.args.pairs.now roots c.args.marks.now c.add.new.self c.args.ahead.now.items c.push_pairs.new.ahead.items c.args.id c.in_ok-add.ensures.ok children is) c.push_pairs.ensures
