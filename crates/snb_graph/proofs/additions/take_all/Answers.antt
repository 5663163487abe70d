use Rattle.std.proofs.Common.{rules, sym, subst}
use Rattle.snb_graph.specs.Additions.{HoldsAll, Lead}
use Rattle.snb_graph.proofs.GraphLemmas.{lead_graph, lead_holds, lead_last}
use Rattle.snb_graph.proofs.additions.take_all.Goals as goal
use Rattle.std.proofs.lemmas.List.{nil_from_length}

pub take_last-requires-clause-some : goal.take_last-requires-clause-some
take_last-requires-clause-some c =
    let (old, graph, lead, holds) = c.loop-noted.invariant.some in
    let front = c.pop.new.self.items in
    let (r, before, is, rest) = lead_last old c.loop-noted.tables.rows front c.in-Some.noted (subst (λ l. Lead old l c.loop-noted.tables.rows) c.in-Some.ensures.items lead) in
    (before, r, lead_graph old before front graph rest, is, lead_holds old before c.loop-noted.tables.frozen front rest holds)

pub loop-noted-preserved : goal.loop-noted-preserved
loop-noted-preserved c =
    let front = c.pop.new.self.items in
    let (old, graph, lead, holds) = c.loop-noted.invariant.some in
    let (r, before, is, rest) = lead_last old c.loop-noted.tables.rows front c.in-Some.noted (subst (λ l. Lead old l c.loop-noted.tables.rows) c.in-Some.ensures.items lead) in
    record {
      some = (
        old,
        graph,
        subst (Lead old front) (sym (c.take_last.ensures.back before r (lead_graph old before front graph rest) is)) rest,
        subst (HoldsAll old) (sym c.take_last.ensures.frozen) holds,
      );
      all = λ base from first.
          let (q, mid, own, others) = lead_last base c.loop-noted.tables.rows front c.in-Some.noted (subst (λ l. Lead base l c.loop-noted.tables.rows) c.in-Some.ensures.items (c.loop-noted.invariant.all base from first)) in
          subst (Lead base front) (sym (c.take_last.ensures.back mid q (lead_graph base mid front from others) own)) others;
      kept = c.take_last.ensures.kept;
    }

pub returns-clause-back : goal.returns-clause-back
returns-clause-back c old graph lead =
    subst (λ l. Lead old l c.loop-noted.tables.rows) (nil_from_length c.loop-noted.left.items (let e = c.in_default.ensures.cases.0 in search (rules, e))) (c.loop-noted.invariant.all old graph lead)
