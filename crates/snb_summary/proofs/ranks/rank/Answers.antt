use Rattle.std.proofs.Common.{◌≡◌, ℕ, ◌+◌, ◌-◌, ◌*◌, ◌^◌, ◌<◌, ap, sym, subst, arith}
use Rattle.std.proofs.lemmas.List.Elements.{All-from_get_or}
use Rattle.std.proofs.lemmas.Nat.{pow_pos}
use Rattle.snb_summary.specs.Buckets.{LiesBefore}
use Rattle.snb_summary.proofs.Bucketing.{IsNarrowed, bucket_fits, low_is, narrowed, narrowed_rank, width_of_byte}
use Rattle.snb_summary.proofs.Counting.{all_below, none_below}
use Rattle.snb_summary.proofs.ranks.rank.Goals as goal

pub loop-byte-init : goal.loop-byte-init
loop-byte-init c =
    let none = none_below c.args.values.now in
    let all = all_below c.args.values.now 18446744073709551616 (All-from_get_or (λ v. v < 18446744073709551616) c.args.values.now 0 (λ i h. omega (arith, c.type_inv.values i))) in
    record {
      known = omega (arith, none);
      before = record { some = c.requires.first; enough = omega (arith, none, all, c.requires.last) };
      fits = omega arith;
    }

pub find_bucket-found-requires-clause-before : goal.find_bucket-found-requires-clause-before
find_bucket-found-requires-clause-before c =
    subst (λ (w : ℕ). LiesBefore c.args.values.now c.loop-byte.low c.loop-byte.rest (c.loop-byte.low + w)) (width_of_byte c.loop-byte.byte c.loop-byte-test.true) c.loop-byte.invariant.before

pub overflow_add-low : goal.overflow_add-low
overflow_add-low c =
    let w : ℕ = 2 ^ (56 - 8 * c.loop-byte.byte) in
    omega (
      arith,
      low_is c.find_bucket-found.result.bucket c.loop-byte.byte c.find_bucket-found.ensures.within c.loop-byte-test.true,
      bucket_fits c.loop-byte.low w c.find_bucket-found.result.bucket c.find_bucket-found.ensures.within (omega (arith, c.loop-byte.invariant.fits, width_of_byte c.loop-byte.byte c.loop-byte-test.true)),
      pow_pos (56 - 8 * c.loop-byte.byte),
    )

pub loop-byte-preserved : goal.loop-byte-preserved
loop-byte-preserved c =
    let byte : ℕ = c.loop-byte.byte in
    let bucket : ℕ = c.find_bucket-found.result.bucket in
    let rest : ℕ = c.loop-byte.rest - c.find_bucket-found.result.before in
    let next : 56 - 8 * byte ≡ 64 - 8 * (byte + 1) = omega arith in
    subst (λ (x : ℕ). IsNarrowed c.args.values.now c.args.r (c.loop-byte.low + x) rest (2 ^ (64 - 8 * (byte + 1))))
    (sym (low_is bucket byte c.find_bucket-found.ensures.within c.loop-byte-test.true))
    (subst (λ (k : ℕ). IsNarrowed c.args.values.now c.args.r (c.loop-byte.low + bucket * 2 ^ (56 - 8 * byte)) rest (2 ^ k)) next
    (narrowed c.args.values.now c.args.r c.loop-byte.low c.loop-byte.rest (2 ^ (56 - 8 * byte)) bucket c.find_bucket-found.result.before c.find_bucket-found.ensures.within
    c.loop-byte.invariant.known (omega (arith, c.loop-byte.invariant.fits, width_of_byte byte c.loop-byte-test.true)) c.find_bucket-found.ensures.found))

pub returns : goal.returns
returns c =
    let last : c.loop-byte.byte ≡ 8 = omega arith in
    narrowed_rank c.args.values.now c.args.r c.loop-byte.low c.loop-byte.rest (2 ^ (64 - 8 * c.loop-byte.byte)) (ap (λ k. 2 ^ (64 - 8 * k)) last) c.loop-byte.invariant
