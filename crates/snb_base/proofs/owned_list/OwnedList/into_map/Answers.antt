use Rattle.std.proofs.Common.{subst}
use Rattle.std.proofs.lemmas.Slice.Zip.{all_zipped_more}
use Rattle.snb_base.proofs.owned_list.OwnedList.into_map.Goals as goal

pub loop-item-preserved : goal.loop-item-preserved
loop-item-preserved g c =
    rw c.in_ok-push.ensures.items (all_zipped_more _ _ _ c.in-Some.item c.in_ok-make.field-0 c.loop-item.invariant (subst (λ r. g.F.Fn.post c.args.make (c.in-Some.item, tt) r) c.in_ok-make.was c.make.ensures))
