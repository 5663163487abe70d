use Rattle.std.proofs.Common.{◌≡◌, ◌≢◌, ◌∙◌, [], ℕ, List, subst, sym}
use Rattle.snb_schema.specs.Lines.{fields}
use Rattle.snb_input_lines.proofs.RunFacts.{fields_as}
use Rattle.snb_input_lines.proofs.progress.take_last.Goals as goal

pub take_line-requires-clause-split : goal.take_line-requires-clause-split
take_line-requires-clause-split g c filled =
    let row = c.split_line.new.row in
    fields_as (g.G.Grammar.language c.args.of.now.grammar).splits c.as_slice-2.result.now row
    (subst (λ (l : List ℕ). row ≡ fields l) (c.as_slice.ensures.value ∙ sym c.as_slice-2.ensures.value) c.in_ok-split_line.ensures)
