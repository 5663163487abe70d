use Rattle.std.proofs.Common.{◌∙◌, sym}
use Rattle.snb_graph_rows.proofs.PairLemmas.{has_pair}
use Rattle.snb_graph_rows.proofs.index.Index.has.Goals as goal

pub returns : goal.returns
returns c =
    let same = has_pair c.self.inside.map.entries c.args.of c.args.id c.self.invariant in
    rw (← c.self.view_is) (λ yes. same.0 (sym c.contains_key.ensures ∙ yes), λ pair. c.contains_key.ensures ∙ same.1 pair)
