use Rattle.std.proofs.Common.{◌∙◌, [], refl, sym}
use Rattle.snb_tool_words.specs.Taken.{given_of}
use Rattle.snb_tool_words.proofs.PartLemmas.{trial_test}
use Rattle.snb_tool_words.proofs.command.is_trial_line.Goals as goal

pub returns-then-is_some : goal.returns-then-is_some
returns-then-is_some c =
    let line = c.args.line.now in
    let suits = c.if-not-suits.ensures.0 refl in
    rw c.is_some-then-is_some.ensures
    (trial_test line.plain.now (given_of line.given) (record { ref_ptr = (0, 0); now = [] }) c.size_of.result c.workers_of.result suits.0 suits.1 c.size_of.ensures (sym c.is_some.ensures ∙ c.if-is_some.true) c.workers_of.ensures)
