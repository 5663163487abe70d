use Rattle.std.proofs.Common.{add-one, get_or, map, suc, take}
use Rattle.std.specs.Fmt.{decimal}
use Rattle.std.specs.List.{join_with_byte}
use Rattle.snb_input_fields.proofs.JoinFacts.{grown, joined_more, mark_before}
use Rattle.snb_input_fields.proofs.write.put_ids.Goals as goal

pub loop-i-preserved : goal.loop-i-preserved
loop-i-preserved c =
    let next = joined_more 59 decimal c.loop-i.i c.args.ids.now 0 c.loop-i-test.true in
    rw add-one (grown c.args.line.now.items (join_with_byte 59 (map decimal (take c.loop-i.i c.args.ids.now))) (mark_before 59 c.loop-i.i) (decimal (get_or c.args.ids.now c.loop-i.i 0)) c.loop-i.line.items c.put_between.new.line.items c.put_number.new.to.items
    (join_with_byte 59 (map decimal (take (suc c.loop-i.i) c.args.ids.now))) c.loop-i.invariant c.in_ok-put_between.ensures.ok c.in_ok-put_number.ensures.ok next)
