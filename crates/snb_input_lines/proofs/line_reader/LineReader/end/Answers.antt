use Rattle.std.proofs.lemmas.Result.{on_ok_weaker}
use Rattle.snb_input_lines.proofs.ListFacts.{has_appended, has_run_out, has_stopped_at_end, on_bad_weaker, on_memory_weaker}
use Rattle.snb_input_lines.specs.Feeding.{left_lines}
use Rattle.snb_input_lines.proofs.line_reader.LineReader.end.Goals as goal

pub returns-clause-ok : goal.returns-clause-ok
returns-clause-ok g c =
    on_ok_weaker c.end_to.result (has_appended (λ v. v.items) (g.G.Grammar.language c.args.self.now.grammar) (left_lines c.args.self.now) c.args.self.now c.args.into.now c.end_to.new.self c.end_to.new.sink) c.end_to.ensures.ok

pub returns-clause-bad : goal.returns-clause-bad
returns-clause-bad g c none =
    on_bad_weaker c.end_to.result _ _ (has_stopped_at_end (λ v. v.items) (g.G.Grammar.language c.args.self.now.grammar) (left_lines c.args.self.now) c.args.self.now c.args.into.now c.end_to.new.self c.end_to.new.sink) (c.end_to.ensures.bad none)

pub returns-clause-memory : goal.returns-clause-memory
returns-clause-memory g c none =
    on_memory_weaker c.end_to.result _ _ (has_run_out (λ v. v.items) (g.G.Grammar.language c.args.self.now.grammar) (left_lines c.args.self.now) c.args.self.now c.args.into.now c.end_to.new.self c.end_to.new.sink) (c.end_to.ensures.memory none)
