use Rattle.std.proofs.Common.{◌∙◌, sym, below_more}
use denote.Enum.Bare.{same_false}
use Rattle.snb_schema.specs.contracts.query.ReadKind.{the_type}
use Rattle.snb_handlers.proofs.Images.{image_at}
use Rattle.snb_handlers.proofs.table.find.Goals as goal

pub loop-one-preserved : goal.loop-one-preserved
loop-one-preserved g c = below_more _ _ c.loop-one.invariant (λ e.
    let same = sym (image_at (λ h. h.kind) c.args.items.now c.loop-one.one-index c.one-item.result c.args.kind c.loop-one-test.true c.one-item.is) ∙ e in
    same_false the_type c.one-item.result.kind c.args.kind (sym c.if-eq.ensures) same)
