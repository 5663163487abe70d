use Rattle.std.proofs.Common.{◌^◌, arith}
use Rattle.std.proofs.lemmas.Nat.{pow_pos}
use Rattle.snb_summary.proofs.Bucketing.{below-bucket, summed_more}
use Rattle.snb_summary.proofs.ranks.find_bucket.Goals as goal

pub returns-then-rest-before-clause-found : goal.returns-then-rest-before-clause-found
returns-then-rest-before-clause-found c = record {
  summed = c.loop-bucket.invariant.summed;
  fewer = c.loop-bucket.invariant.fewer;
  enough = omega (
    arith,
    c.if-rest-before.true,
    c.loop-bucket.invariant.summed,
    c.counts_of-counts.ensures c.loop-bucket.bucket c.loop-bucket-test.true,
    below-bucket c.args.values.now c.args.low (2 ^ c.args.shift) c.loop-bucket.bucket (pow_pos c.args.shift),
  );
}

pub loop-bucket-preserved : goal.loop-bucket-preserved
loop-bucket-preserved c = record {
  summed =
      summed_more c.args.values.now c.args.low (2 ^ c.args.shift) c.loop-bucket.bucket c.loop-bucket.before _ (pow_pos c.args.shift)
      (c.counts_of-counts.ensures c.loop-bucket.bucket c.loop-bucket-test.true) c.loop-bucket.invariant.summed;
  fewer = omega arith;
}
