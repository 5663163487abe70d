use Rattle.std.proofs.Common.{◌≡◌, ◌-◌, rules, length}
use Rattle.snb_walk.specs.Targets.{WalkStep, targets_of}
use Rattle.snb_walk.proofs.Going.{falls_on, few_on, is_step, leads_on, leads_out}
use Rattle.snb_walk.proofs.walking.walk.Goals as goal

pub returns-in-Some : goal.returns-in-Some
returns-in-Some g c = record {
  begins = c.in_ok-start.ensures;
  goes = leads_out c.args.graph.now c.args.policy.now.pick c.args.chance c.args.words.now (targets_of c.args.query.now c.in_ok-start.start)
      c.walking.steps c.walking.step c.walking.targets.items c.walking.left (length c.deref.result.now) c.in-Some.stop
      c.walking.invariant.left (let v = c.deref.ensures.value in cc) c.in-Some.ensures c.walking.invariant.leads;
}

pub walking-preserved : goal.walking-preserved
walking-preserved g c =
    let d = c.down-down.ensures.value in
    let f : c.saturating_sub-left.result ≡ c.walking.left - c.down-down.result = search rules in
    let fall : c.saturating_sub-left.result ≡ c.walking.left - c.args.chance.down = cc in
    let step : WalkStep = (c.index-target.result.now, c.in_ok-reply.reply) in
    let is = is_step c.args.graph.now c.args.policy.now.pick c.args.chance c.args.words.now
    c.walking.step c.walking.left (length c.deref.result.now) c.index-at.result c.walking.targets.items c.in_ok-reply.next.items step
    c.walking.invariant.left (let v = c.deref.ensures.value in cc) c.in-None.ensures
    (let v = c.deref.ensures.value in let w = c.deref-in-walking.ensures.value in let i = c.index-at.ensures in cc)
    c.index-target.ensures c.in_ok-reply.ensures in
    record {
      left = falls_on c.args.chance c.walking.step c.walking.left c.saturating_sub-left.result c.walking.invariant.left fall;
      few = few_on c.walking.step c.walking.left c.saturating_sub-left.result c.down-down.result c.in-None.ensures.chance c.down-down.ensures.falls f c.walking.invariant.few;
      leads = leads_on c.args.graph.now c.args.policy.now.pick c.args.chance c.args.words.now (targets_of c.args.query.now c.in_ok-start.start)
          c.walking.steps c.push.new.self c.walking.step c.walking.targets.items c.in_ok-reply.next.items step
          is c.in_ok-reply.ensures.listed c.in_ok-push.ensures.ok c.walking.invariant.leads;
    }
