use Rattle.std.proofs.Common.{[]}
use Rattle.snb_tool_words.specs.Taken.{given_of}
use Rattle.snb_tool_words.specs.Words.{texts_of}
use Rattle.snb_tool_words.proofs.WordLemmas.{two_words}
use Rattle.snb_tool_words.proofs.OptionLemmas.{no_say, say_more}
use Rattle.snb_tool_words.proofs.options.+with_options.Goals as goal

pub returns-in_err-with_option-in-len2-up : goal.returns-in_err-with_option-in-len2-up
returns-in_err-with_option-in-len2-up t c =
    rw c.from_residual.ensures
    (no_say (given_of c.args.old) (texts_of c.args.words.now) _ _ _ (two_words c.args.words.now (record { ref_ptr = (0, 0); now = [] }) c.in-len2-up.len_at_least) c.in_err-with_option-in-len2-up.ensures)

pub returns-in_ok-with_option-in-len2-up : goal.returns-in_ok-with_option-in-len2-up
returns-in_ok-with_option-in-len2-up t c =
    say_more given_of (given_of c.args.old) (given_of c.in_ok-with_option-in-len2-up.field-0) _ _ _ (texts_of c.args.words.now)
    (two_words c.args.words.now (record { ref_ptr = (0, 0); now = [] }) c.in-len2-up.len_at_least) c.in_ok-with_option-in-len2-up.ensures c.with_options.result c.with_options.ensures
