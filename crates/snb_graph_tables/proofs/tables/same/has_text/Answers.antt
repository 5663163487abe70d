use Rattle.std.proofs.Common.{◌≡◌, ◌↔◌, IsTrue, rules, sym, ◌∙◌}
use mathlib.Core.Bool.{false≢true}
use Rattle.snb_graph_tables.proofs.SameLemmas.{text_passed}
use Rattle.snb_graph_tables.proofs.tables.same.has_text.Goals as goal

pub loop-word-preserved : goal.loop-word-preserved
loop-word-preserved c =
    let same : IsTrue c.eq.result ↔ (c.in-Some.word.now ≡ c.args.text.now) = search rules in
    text_passed c.into_iter-word-iterator.result c.loop-word.word-iterator c.next.new.self c.in-Some.word.now c.args.text.now c.in-Some.ensures.steps (λ e. absurd (false≢true (sym c.if-eq.false ∙ same.1 e))) c.loop-word.invariant
