use Rattle.std.proofs.Common.{arith, rules, sym}
use Rattle.std.proofs.lemmas.Slice.Zip.{AllZip-long}
use Rattle.snb_read_same.proofs.SameFacts.{not_so, zip_at, zip_next}
use Rattle.snb_read_same.proofs.same.same_items.Goals as goal

pub returns-then-a-b : goal.returns-then-a-b
returns-then-a-b g c = not_so (λ z. c.if-a-b.true (sym (AllZip-long g.T.Same.is _ _ z)))

pub returns-then-not-same : goal.returns-then-not-same
returns-then-not-same g c = not_so (λ z.
    (let told = c.same.ensures.1 (zip_at g.T.Same.is c.args.a.now c.args.b.now c.loop-at.at _ _ c.loop-at-test.true c.index-a-at.is c.index-b-at.is z) in
    let other = c.if-not-same.true in
    cc))

pub loop-at-preserved : goal.loop-at-preserved
loop-at-preserved g c =
    zip_next g.T.Same.is c.args.a.now c.args.b.now c.loop-at.at _ _ c.loop-at-test.true (omega arith) c.index-a-at.is c.index-b-at.is c.loop-at.invariant (c.same.ensures.0 (search rules))
