use Rattle.std.proofs.Common.{ℕ, ◌^◌, ◌∙◌, get_or, length, ap, arith}
use Rattle.std.proofs.lemmas.List.{get_or-replicate, length-replicate, length-set}
use Rattle.snb_summary.proofs.Bucketing.{counts_more, counts_same}
use Rattle.snb_summary.proofs.ranks.counts_of.Goals as goal
use Rattle.snb_summary.proofs.ranks.counts_of.Goals.{then-bucket-lt256, else-bucket-lt256}

pub loop-value-init : goal.loop-value-init
loop-value-init c = record { each = λ b h. get_or-replicate 256 b 0 0 h; size = length-replicate {A = ℕ} 256 0 }

pub loop-value-preserved : goal.loop-value-preserved
loop-value-preserved c =
    elim c.if-bucket-lt256.branch [
      | then-bucket-lt256 w ↦ record {
        each = λ b h.
            ap (λ counts. get_or counts b 0) w.counts-is
            ∙ counts_more c.args.values.now c.args.low (2 ^ c.args.shift) c.loop-value.value-index c.bucket_of-bucket.result c.loop-value.counts c.loop-value-test.true
            (omega (arith, w.if-bucket-lt256.true, c.loop-value.invariant.size)) c.bucket_of-bucket.ensures c.loop-value.invariant.each b h;
        size = ap length w.counts-is ∙ (length-set _ _ _ ∙ c.loop-value.invariant.size);
      }
      | else-bucket-lt256 w ↦ record {
        each = λ b h.
            ap (λ counts. get_or counts b 0) w.counts-is
            ∙ counts_same c.args.values.now c.args.low (2 ^ c.args.shift) c.loop-value.value-index c.bucket_of-bucket.result c.loop-value.counts c.loop-value-test.true
            w.if-bucket-lt256.false c.bucket_of-bucket.ensures c.loop-value.invariant.each b h;
        size = ap length w.counts-is ∙ c.loop-value.invariant.size;
      }
    ]
