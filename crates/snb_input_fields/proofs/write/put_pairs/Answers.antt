use Rattle.std.proofs.Common.{add-one, get_or, map, suc, take}
use Rattle.snb_schema.specs.Columns.{pair_text}
use Rattle.std.specs.List.{join_with_byte}
use Rattle.snb_input_fields.proofs.JoinFacts.{front_within, grown, joined_more, mark_before}
use Rattle.snb_input_fields.proofs.write.put_pairs.Goals as goal

pub loop-i-preserved : goal.loop-i-preserved
loop-i-preserved c =
    let next = joined_more 59 pair_text c.loop-i.i c.args.pairs.now (0, 0) c.loop-i-test.true in
    rw add-one (grown c.args.line.now.items (join_with_byte 59 (map pair_text (take c.loop-i.i c.args.pairs.now))) (mark_before 59 c.loop-i.i) (pair_text (get_or c.args.pairs.now c.loop-i.i (0, 0))) c.loop-i.line.items c.put_between.new.line.items c.put_pair.new.line.items
    (join_with_byte 59 (map pair_text (take (suc c.loop-i.i) c.args.pairs.now))) c.loop-i.invariant c.in_ok-put_between.ensures.ok c.in_ok-put_pair.ensures.ok next)

pub returns-in_err-put_pair-clause-err : goal.returns-in_err-put_pair-clause-err
returns-in_err-put_pair-clause-err c =
    front_within c.from_residual-in_err-put_pair.result c.args.line.now.items (join_with_byte 59 (map pair_text (take c.loop-i.i c.args.pairs.now))) (mark_before 59 c.loop-i.i) c.loop-i.line.items c.put_between.new.line.items c.put_pair.new.line.items
    c.loop-i.invariant c.in_ok-put_between.ensures.ok c.in_err-put_pair.ensures.err
