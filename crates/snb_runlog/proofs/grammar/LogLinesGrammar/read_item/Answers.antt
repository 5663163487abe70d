use Rattle.std.proofs.Common.{List, ℕ, subst}
use Rattle.snb_runlog.specs.Lines.{IsNoEvent}
use Rattle.snb_runlog.proofs.grammar.LogLinesGrammar.read_item.Goals as goal

pub returns-in-Err-clause-bad : goal.returns-in-Err-clause-bad
returns-in-Err-clause-bad c =
    subst (λ (fs : List (List ℕ)). IsNoEvent c.args.known.now.version fs c.in-Err.column) c.requires.split.same c.in-Err.ensures.bad
