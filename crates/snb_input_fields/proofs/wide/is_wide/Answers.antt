use Rattle.std.proofs.Common.{◌+◌}
use Rattle.std.proofs.lemmas.Bool.Decides.{Decides-eqb}
use Rattle.snb_input_fields.proofs.WideFacts.{tests_empty, tests_longer, tests_none}
use Rattle.snb_input_fields.proofs.wide.is_wide.Goals as goal
use Rattle.snb_input_lines.proofs.Laws.{found_there, none_there}

pub returns-in-None : goal.returns-in-None
returns-in-None c = tests_none c.args.count c.len-found.result c.args.fields.now c.len-found.ensures (none_there c.get.result _ c.get.ensures.value c.in-None.is)

pub returns-then-found-count : goal.returns-then-found-count
returns-then-found-count c =
    tests_empty c.args.count c.len-found.result c.args.fields.now c.in-Some.extra.now c.is_empty.result c.len-found.ensures (found_there c.get.result c.in-Some.extra _ c.get.ensures.value c.in-Some.is) c.if-found-count.true c.is_empty.ensures

pub returns-else-found-count : goal.returns-else-found-count
returns-else-found-count c = (
  λ t. absurd (c.if-found-count.false ((Decides-eqb c.len-found.result (c.args.count + 1)).0 t)),
  λ w. absurd (tests_longer c.args.count c.len-found.result c.args.fields.now c.in-Some.extra.now c.len-found.ensures (found_there c.get.result c.in-Some.extra _ c.get.ensures.value c.in-Some.is) c.if-found-count.false w),
)
