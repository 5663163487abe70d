use Rattle.std.proofs.Common.{◌∙◌, [], List, ℕ, ap, ap₂, sym}
use Rattle.clap.specs.Simple.{with_rule}
use Rattle.snb_tool_words.specs.Taken.{app_with}
use Rattle.snb_tool_words.specs.Words.{texts_of}
use Rattle.snb_tool_words.proofs.TakenLemmas.{option_added, texts_more}
use Rattle.snb_tool_words.proofs.taken.line_command.Goals as goal

pub loop-name-preserved : goal.loop-name-preserved
loop-name-preserved c =
    c.in_ok-command-2.ensures.shape c.option.ensures.local ∙ ap₂ with_rule c.loop-name.invariant c.option.ensures.rule
    ∙ option_added (texts_of c.args.places.now) (texts_of _) _
    ∙ ap (λ (t : List (List ℕ)). app_with (texts_of c.args.places.now) t) (sym (texts_more c.args.options.now c.loop-name.name-index (record { ref_ptr = (0, 0); now = [] }) c.loop-name-test.true))
