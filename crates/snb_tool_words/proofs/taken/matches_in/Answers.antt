use Rattle.std.proofs.Common.{◌∙◌, ap}
use Rattle.clap.proofs.WalkLemmas.{first_value-rows}
use Rattle.clap.specs.Simple.{App, matches_of}
use Rattle.clap.specs.Takes.{takes}
use Rattle.clap.specs.Words.{app_of, first_of, found_of}
use Rattle.snb_tool_words.specs.Words.{texts_of}
use Rattle.snb_tool_words.proofs.TakenLemmas.{takes_simple}
use Rattle.snb_tool_words.proofs.taken.matches_in.Goals as goal

pub unreachable-requires : goal.unreachable-requires
unreachable-requires c =
    let taken = ap (λ (a : App). takes a (texts_of c.args.words.now)) c.in_ok-command.ensures ∙ c.requires in
    c.in_default.not-OutOfMemory (c.kind.ensures ∙ c.in-Err.ensures.passes taken)

pub returns-in-Ok : goal.returns-in-Ok
returns-in-Ok c = λ name.
    let app = c.in_ok-command.ensures in
    let taken = ap (λ (a : App). takes a (texts_of c.args.words.now)) app ∙ c.requires in
    let found = (c.in-Ok.ensures.matches (takes_simple (app_of c.in_ok-command.command) (texts_of c.args.words.now) taken)).0 in
    first_value-rows (found_of c.in-Ok.matches) name ∙ ap (first_of name) (found ∙ ap (λ (a : App). matches_of a (texts_of c.args.words.now)) app)
