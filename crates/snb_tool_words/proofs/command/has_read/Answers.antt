use Rattle.std.proofs.Common.{[], refl}
use Rattle.snb_tool_words.specs.Taken.{given_of}
use Rattle.snb_tool_words.specs.Words.{texts_of}
use Rattle.snb_tool_words.proofs.OptionLemmas.{not_true}
use Rattle.snb_tool_words.proofs.PartLemmas.{no_read, read_test}
use Rattle.snb_tool_words.proofs.WordLemmas.{two_words}
use Rattle.snb_tool_words.proofs.command.has_read.Goals as goal

pub returns-in_default : goal.returns-in_default
returns-in_default c = (λ e. not_true e, λ p. no_read c.args.line.now.plain.now c.in_default.len_below p.1)

pub returns-in-len2-up : goal.returns-in-len2-up
returns-in-len2-up c =
    let line = c.args.line.now in
    read_test (texts_of line.plain.now) (given_of line.given) c.args.options.now _ _ _ c.is_read.result (two_words line.plain.now (record { ref_ptr = (0, 0); now = [] }) c.in-len2-up.len_at_least)
    (c.if-not-are_suited.ensures.0 refl) c.is_read.ensures
