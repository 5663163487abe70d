use Rattle.std.proofs.Common.{ℕ, sym, subst, arith}
use Rattle.std.proofs.lemmas.Bool.{false≢true}
use Rattle.snb_base.specs.Spellings.{Num}
use Rattle.snb_schema.specs.Queries.{IsComplex}
use Rattle.snb_schema.proofs.FrequencyFacts.{no_pair, parts_spell, one_pair}
use Rattle.snb_schema.proofs.frequencies.read_pair.Goals as goal
use Rattle.snb_schema.proofs.frequencies.read_pair.Goals.{then-query-last-via-then-query-last, then-query-last-via-else-query-last+then-not-is_complex, then-query-last-via-else-query-last+else-not-is_complex+then-frequency-eq0}

pub returns-in_err-before : goal.returns-in_err-before
returns-in_err-before c = rw c.from_residual.ensures (λ pair above s. no_pair c.args.piece.now c.in_err-before.ensures pair s)

pub returns-in_err-query : goal.returns-in_err-query
returns-in_err-query c = rw c.from_residual-in_err-query.ensures (λ pair above s.
    let parts = parts_spell c.args.piece.now c.in_ok-before.before.now c.in_ok-before.after.now pair c.in_ok-before.ensures s in
    c.in_err-query.ensures pair.0 (subst (λ (most : ℕ). Num c.in_ok-before.before.now pair.0 most) (sym c.from-most.ensures) parts.0))

pub returns-in_err-frequency : goal.returns-in_err-frequency
returns-in_err-frequency c = rw c.from_residual-in_err-frequency.ensures (λ pair above s.
    let parts = parts_spell c.args.piece.now c.in_ok-before.before.now c.in_ok-before.after.now pair c.in_ok-before.ensures s in
    c.in_err-frequency.ensures pair.1 (subst (λ (most : ℕ). Num c.in_ok-before.after.now pair.1 most) (sym c.from-most.ensures) parts.1))

pub returns-then-query-last : goal.returns-then-query-last
returns-then-query-last c = λ pair above s.
    let asked = subst (λ (most : ℕ). Num c.in_ok-before.before.now c.in_ok-query.field-0 most) c.from-most.ensures c.in_ok-query.ensures in
    let counted = subst (λ (most : ℕ). Num c.in_ok-before.after.now c.in_ok-frequency.field-0 most) c.from-most.ensures c.in_ok-frequency.ensures in
    let same = one_pair c.args.piece.now c.in_ok-before.before.now c.in_ok-before.after.now c.in_ok-query.field-0 c.in_ok-frequency.field-0 pair c.in_ok-before.ensures asked counted s in
    let positive = s.positive in
    let complex = subst IsComplex (sym same.0) s.complex in
    elim c.then-query-last.branch [
      | then-query-last-via-then-query-last w ↦ omega (arith, same)
      | then-query-last-via-else-query-last+then-not-is_complex w ↦ absurd (false≢true (w.if-not-is_complex.ensures.1 complex))
      | then-query-last-via-else-query-last+else-not-is_complex+then-frequency-eq0 w ↦ omega (arith, same)
    ]
