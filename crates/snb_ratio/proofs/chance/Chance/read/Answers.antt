use Rattle.std.proofs.Common.{arith}
use Rattle.snb_ratio.proofs.ChanceFacts.{no_chance, parts_spell}
use Rattle.snb_ratio.proofs.chance.Chance.read.Goals as goal

pub returns-in_err-first : goal.returns-in_err-first
returns-in_err-first c = rw c.from_residual.ensures (no_chance c.args.text.now c.in_err-first.ensures)

pub returns-in_err-start : goal.returns-in_err-start
returns-in_err-start c = rw c.from_residual-in_err-start.ensures (λ chance s.
    let parts = parts_spell c.args.text.now c.in_ok-first.first.now c.in_ok-first.fall.now chance c.in_ok-first.ensures.0 c.in_ok-first.ensures.1 s in
    c.in_err-start.ensures chance.start parts.0)

pub returns-in_err-down : goal.returns-in_err-down
returns-in_err-down c = rw c.from_residual-in_err-down.ensures (λ chance s.
    let parts = parts_spell c.args.text.now c.in_ok-first.first.now c.in_ok-first.fall.now chance c.in_ok-first.ensures.0 c.in_ok-first.ensures.1 s in
    c.in_err-down.ensures chance.down parts.1)

pub returns-then-down-eq0 : goal.returns-then-down-eq0
returns-then-down-eq0 c = λ chance s.
    let parts = parts_spell c.args.text.now c.in_ok-first.first.now c.in_ok-first.fall.now chance c.in_ok-first.ensures.0 c.in_ok-first.ensures.1 s in
    let zero = parts.1.value in
    let found = c.in_ok-down.ensures.value in
    absurd (omega (arith, parts.2, zero, found, c.if-down-eq0.true))
