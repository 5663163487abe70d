use Rattle.std.proofs.Common.{nat_eq}
use Rattle.std.specs.HashMap.{get}
use Rattle.snb_complex_persons.proofs.ScanLemmas.{scanning_begun, scanning_done, scanning_head, scanning_next, scanning_over}
use Rattle.snb_complex_persons.proofs.scan.scanned.Goals as goal

pub loop-person-init : goal.loop-person-init
loop-person-init c =
    scanning_begun c.args.graph.now (get nat_eq c.args.met.now) c.args.first_name.now c.new-found.result.items c.persons-person-items.result c.into_iter-person-iterator.result c.new-found.ensures.items c.into_iter-person-iterator.ensures.into_iter_gives c.persons-person-items.ensures

pub namesake-requires : goal.namesake-requires
namesake-requires c = record {
  held = scanning_head c.args.graph.now (get nat_eq c.args.met.now) c.args.first_name.now c.loop-person.found.items c.loop-person.person-iterator c.next.new.self _ c.in-Some.ensures.steps c.loop-person.invariant;
}

pub loop-person-preserved-in-Continue-1 : goal.loop-person-preserved-in-Continue-1
loop-person-preserved-in-Continue-1 c =
    scanning_next c.args.graph.now (get nat_eq c.args.met.now) c.args.first_name.now c.loop-person.found.items c.loop-person.person-iterator c.next.new.self _ c.in-Some.ensures.steps c.loop-person.invariant
    c.push.new.self.items c.in-Some-namesake.one c.in_ok-push.ensures.items c.in-Some-namesake.ensures

pub loop-person-preserved : goal.loop-person-preserved
loop-person-preserved c =
    scanning_over c.args.graph.now (get nat_eq c.args.met.now) c.args.first_name.now c.loop-person.found.items c.loop-person.person-iterator c.next.new.self _ c.in-Some.ensures.steps c.loop-person.invariant
    c.in_default.ensures

pub returns : goal.returns
returns c =
    scanning_done c.args.graph.now c.known.ensures (get nat_eq c.args.met.now) c.args.first_name.now c.loop-person.found.items c.loop-person.person-iterator c.in-None.ensures.steps.0 c.loop-person.invariant
