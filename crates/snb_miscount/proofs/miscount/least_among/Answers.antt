use Rattle.std.proofs.Common.{◌≡◌, ℕ, List, take, get_or, sym, ap, subst, arith}
use Rattle.std.proofs.lemmas.List.{take_all, take_more}
use Rattle.snb_schema.specs.declared.row.Row.{Row}
use Rattle.snb_miscount.specs.declared.tally.Tally.{Tally}
use Rattle.snb_audit_model.specs.Miscounts.{events_of}
use Rattle.snb_miscount.specs.Tallies.{CountsRows, IsLeastAmong}
use Rattle.snb_miscount.proofs.TallyFacts.{tally_front, tally_op}
use Rattle.snb_miscount.proofs.MiscountFacts.{ahead_more, along_start, has_laws, least_more, tally_counts}
use Rattle.snb_miscount.proofs.miscount.least_among.Goals as goal

-- what is read past the tallies' end
abbrev nothing : Tally
nothing = record { event = 0; op = 0; front = 0; found = 0 }

pub loop-one-init : goal.loop-one-init
loop-one-init g c =
    let is : c.in_ok-replica.replica ≡ record { graph = c.args.base.now; front = 0 } = c.in_ok-replica.ensures in
    record {
      along = along_start c.args.base.now c.args.plan.now (events_of c.args.logged.now) c.requires.legal.0 c.in_ok-replica.replica is c.known.ensures c.requires.closed c.requires.legal.1 c.requires.legal.2;
      ahead = λ k d le lt. (let none = ap (λ r. r.front) is in omega (arith, none));
      least = λ m wrong has. absurd (let lt = has.held.1 in omega (arith, lt));
    }

pub go_to-requires-clause-within : goal.go_to-requires-clause-within
go_to-requires-clause-within g c =
    tally_front c.args.plan.now c.requires.legal.0 c.args.logged.now c.requires.legal.2 (get_or c.args.tallies.now c.loop-one.one-index nothing) (c.requires.each c.loop-one.one-index nothing c.loop-one-test.true)

pub rows_at-requires-clause-there : goal.rows_at-requires-clause-there
rows_at-requires-clause-there g c =
    tally_op c.args.plan.now c.requires.legal.0 c.args.logged.now c.requires.legal.2 (get_or c.args.tallies.now c.loop-one.one-index nothing) (c.requires.each c.loop-one.one-index nothing c.loop-one-test.true)

pub loop-one-preserved : goal.loop-one-preserved
loop-one-preserved g c =
    let i : ℕ = c.loop-one.one-index in
    let tallies : List Tally = c.args.tallies.now in
    let t : Tally = get_or tallies i nothing in
    let is = c.requires.each i nothing c.loop-one-test.true in
    let gone = c.in_ok-go_to.ensures c.args.base.now c.loop-one.invariant.along in
    let laws =
    has_laws c.args.base.now c.args.plan.now c.requires.legal.0 (events_of c.args.logged.now) c.graphs_are_their_rows.ensures c.replay_is_welcome.ensures.sound c.one_reply.ensures.reply c.known.ensures c.requires.sound
    (record { of_streams = c.known-2.ensures; closed = c.requires.closed }) c.requires.legal.2 in
    let counts = subst (λ (g : List Row). CountsRows c.args.plan.now g t.op c.in_ok-needs.needs) c.graph.ensures.value c.in_ok-needs.ensures in
    let count = tally_counts c.args.base.now c.args.plan.now c.args.logged.now c.go_to.new.replica t c.in_ok-needs.needs gone.0 gone.1 counts is in
    record {
      along = gone.0;
      ahead = ahead_more tallies i c.go_to.new.replica.front nothing c.loop-one-test.true gone.1 c.requires.rises;
      least =
          subst (λ (l : List Tally). IsLeastAmong c.args.base.now c.args.plan.now c.args.logged.now l c.weighed-best.result) (sym (take_more tallies i nothing c.loop-one-test.true))
          (least_more c.args.base.now c.args.plan.now c.args.logged.now (take i tallies) t c.in_ok-needs.needs laws is count c.loop-one.best c.weighed-best.result c.weighed-best.ensures c.loop-one.invariant.least);
    }

pub returns : goal.returns
returns g c =
    subst (λ (l : List Tally). IsLeastAmong c.args.base.now c.args.plan.now c.args.logged.now l c.loop-one.best) (take_all c.loop-one.one-index c.args.tallies.now c.loop-one-test.false) c.loop-one.invariant.least
