use Rattle.std.proofs.Common.{rules, sym, subst, ap}
use Rattle.snb_graph_links.specs.Pairs.{rest}
use Rattle.snb_read_order.proofs.Laws.{compares}
use Rattle.snb_read_model.specs.ComplexReads.{AreStays, stay_cmp}
use Rattle.snb_complex_persons.proofs.NamesakeLemmas.{naming_begins, naming_done, naming_head, naming_next}
use Rattle.snb_complex_persons.proofs.namesakes.stays.Goals as goal
use Rattle.snb_read_laws.proofs.Laws.{stay_total}

pub loop-one-init : goal.loop-one-init
loop-one-init c = naming_begins c.args.graph.now (rest c.args.found) _ _ (ap rest c.into_iter-one-iterator.ensures.into_iter_gives) c.new-named.ensures.items c.requires.found

pub stay-requires-clause-found : goal.stay-requires-clause-found
stay-requires-clause-found c = naming_head c.args.graph.now _ _ (rest c.next.new.self) _ c.in-Some.one c.in-Some.ensures.steps c.loop-one.invariant

pub loop-one-preserved : goal.loop-one-preserved
loop-one-preserved c = naming_next c.args.graph.now _ _ (rest c.next.new.self) _ _ c.in-Some.one _ c.in-Some.ensures.steps c.stay.ensures c.in_ok-push.ensures.items c.loop-one.invariant

pub returns : goal.returns
returns c =
    subst (AreStays c.args.graph.now (rest c.args.found)) (sym c.from_vec.ensures)
    (naming_done c.args.graph.now _ _ _ _ c.in-None.ensures.steps.0 (c.in_order-ordered.ensures stay_cmp stay_total (compares _ _ stay_cmp (λ a r q k. search rules))) c.loop-one.invariant)
