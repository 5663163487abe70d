use Rattle.std.proofs.Common.{Ok, subst}
use Rattle.std.proofs.lemmas.Fn.{says_at}
use Rattle.std.proofs.lemmas.List.{take_more}
use Rattle.std.proofs.lemmas.Slice.Zip.{all_zipped_more}
use Rattle.std.specs.Fn.{FnReturnsAt}
use Rattle.snb_base.proofs.owned_list.list_of.Goals as goal

pub loop-item-preserved : goal.loop-item-preserved
loop-item-preserved g c =
    let R : g.row.T.Denot → g.row.U.Denot → Type 0 = λ item one. FnReturnsAt g.F.Fn c.args.make item (Ok one) in
    rw (take_more c.args.items.now c.loop-item.item-index c.item-item.result c.loop-item-test.true, c.in_ok-push.ensures.items) (all_zipped_more R _ _ _ _ c.loop-item.invariant
    (subst (λ (x : g.row.T.Denot). R x c.in_ok-make.field-0) c.item-item.is (says_at g.F.Fn c.make.ensures c.in_ok-make.was)))
