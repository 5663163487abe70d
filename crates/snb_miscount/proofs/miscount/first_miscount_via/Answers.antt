use Rattle.std.proofs.Common.{List, inr, subst, arith}
use Rattle.std.proofs.lemmas.List.{length-map}
use Rattle.snb_history.specs.declared.logged.Logged.{Logged}
use Rattle.std.proofs.lemmas.Result.{IfOk-weaker}
use Rattle.snb_miscount.specs.declared.tally.Tally.{Tally}
use Rattle.snb_miscount.specs.Tallies.{IsLeastAmong}
use Rattle.snb_miscount.proofs.MiscountFacts.{first_of_least}
use Rattle.snb_miscount.proofs.miscount.first_miscount_via.Goals as goal

pub returns : goal.returns
returns g c =
    IfOk-weaker c.least_among.result _ _
    (λ best least.
    first_of_least c.args.base.now c.args.plan.now c.args.logged.now c.in_ok-tallies.tallies.items c.in_ok-tallies.ensures.all best
    (subst (λ (l : List Tally). IsLeastAmong c.args.base.now c.args.plan.now c.args.logged.now l best) c.deref.ensures.value least))
    c.least_among.ensures

pub least_among-requires-clause-legal : goal.least_among-requires-clause-legal
least_among-requires-clause-legal g c = (
  c.requires.legal.0,
  inr (let size = length-map c.args.logged.now (λ (l : Logged). l.event) in omega (arith, size)),
  c.requires.legal.1,
)
