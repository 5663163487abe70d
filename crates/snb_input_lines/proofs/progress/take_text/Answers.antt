use Rattle.std.proofs.Common.{◌∷◌, [], refl, sym, subst}
use Rattle.std.proofs.lemmas.Result.{on_ok_weaker}
use Rattle.snb_input_lines.specs.Reading.{LineSays}
use Rattle.snb_input_lines.proofs.progress.take_text.Goals as goal

pub returns-in-Ok-read_item-clause-ok : goal.returns-in-Ok-read_item-clause-ok
returns-in-Ok-read_item-clause-ok g c =
    let item = c.in-Ok-read_item.item in
    on_ok_weaker c.put.result (λ taken. (
      item ∷ [],
      subst (λ k. LineSays (g.G.Grammar.language c.args.of.now.grammar) k c.args.number c.args.line.now (item ∷ []) k) (sym c.in-Some.is) (item, c.in-Ok-read_item.ensures.ok, refl, refl),
      (c.put.new.self, taken, refl),
    )) c.put.ensures.ok
