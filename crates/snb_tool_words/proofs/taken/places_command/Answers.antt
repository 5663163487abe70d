use Rattle.std.proofs.Common.{◌∙◌, [], List, ℕ, ap, ap₂, sym}
use Rattle.clap.specs.Simple.{with_rule}
use Rattle.snb_tool_words.specs.Taken.{app_with}
use Rattle.snb_tool_words.specs.Words.{texts_of}
use Rattle.snb_tool_words.proofs.TakenLemmas.{place_added, texts_more}
use Rattle.snb_tool_words.proofs.taken.places_command.Goals as goal

pub loop-place-preserved : goal.loop-place-preserved
loop-place-preserved c =
    c.in_ok-command.ensures.shape c.new-in-loop-place.ensures.optional.1 ∙ ap₂ with_rule c.loop-place.invariant c.new-in-loop-place.ensures.rule
    ∙ place_added (texts_of _) _ ∙ ap (λ (t : List (List ℕ)). app_with t []) (sym (texts_more c.args.places.now c.loop-place.place-index (record { ref_ptr = (0, 0); now = [] }) c.loop-place-test.true))
