use Rattle.std.proofs.Common.{◌∙◌, ap, sym, subst}
use Rattle.snb_schema.specs.Lines.{HasNoEnd}
use Rattle.snb_input_lines.proofs.BarFacts.{none-apart}
use Rattle.snb_input_lines.proofs.ended.EndedLines.rest.Goals as goal

pub returns : goal.returns
returns c none =
    let is = ap (λ v. v.text) c.self.view_is in
    none-apart c.self.inside.first.now c.self.inside.rest.now c.self.invariant.ends (subst HasNoEnd (sym is) none) ∙ is
