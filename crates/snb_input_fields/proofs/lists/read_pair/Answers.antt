use Rattle.std.proofs.Common.{subst, sym}
use Rattle.snb_base.specs.Spellings.{Num}
use Rattle.snb_columns.proofs.Laws.{no_comma, pair_parts}
use Rattle.snb_input_fields.proofs.lists.read_pair.Goals as goal

pub returns-in_default : goal.returns-in_default
returns-in_default c = λ p. no_comma c.args.text.now p c.in_default.ensures

pub returns-in_default-read_number : goal.returns-in_default-read_number
returns-in_default-read_number c = λ p s. c.in_default-read_number.ensures p.0 (pair_parts c.args.text.now c.in-Some.before.now c.in-Some.behind.now p c.in-Some.ensures s).0

pub returns-in_default-read_number-2 : goal.returns-in_default-read_number-2
returns-in_default-read_number-2 c = λ p s.
    let parts = pair_parts c.args.text.now c.in-Some.before.now c.in-Some.behind.now p c.in-Some.ensures s in
    c.in_default-read_number-2.ensures p.1 (subst (λ most. Num c.in-Some.behind.now p.1 most) (sym c.from.ensures) parts.1)
