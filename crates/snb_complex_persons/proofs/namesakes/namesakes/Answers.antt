use Rattle.std.proofs.Common.{ap, subst}
use Rattle.std.proofs.lemmas.List.Elements.{All-same}
use Rattle.std.proofs.lemmas.Result.{IfOk-weaker}
use Rattle.std.specs.List.{filter}
use Rattle.snb_read_model.specs.ComplexReads.{is_named}
use Rattle.snb_complex_persons.proofs.NamesakeLemmas.{near_is}
use Rattle.snb_complex_persons.specs.Namesakes.{AreNamesakes, IsNearFound}
use Rattle.snb_complex_persons.proofs.namesakes.namesakes.Goals as goal

pub named-requires : goal.named-requires
named-requires c = All-same (IsNearFound c.args.graph.now) _ c.in_ok-near.near c.as_slice.ensures (near_is c.args.graph.now c.args.person c.args.steps c.requires.few c.in_ok-near.near c.in_ok-near.ensures)

pub returns : goal.returns
returns c =
    let g = c.args.graph.now in
    IfOk-weaker c.named.result _ _ (λ found are. record {
      near = c.in_ok-near.near;
      within = c.in_ok-near.ensures;
      are = subst (λ l. AreNamesakes g l found.items) (ap (filter (is_named g c.args.first_name.now)) c.as_slice.ensures) are;
    }) c.named.ensures
