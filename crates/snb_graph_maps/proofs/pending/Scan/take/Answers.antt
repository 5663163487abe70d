use Rattle.std.proofs.Common.{◌∙◌, ◌∷◌, ap, sym, subst}
use Rattle.std.specs.Option.{option_copied}
use Rattle.snb_graph_maps.specs.Ahead.{IsWithin, ahead}
use Rattle.snb_graph_maps.proofs.PendingLemmas.{none_ahead, takes_next, within}
use Rattle.snb_graph_maps.proofs.pending.Scan.take.Goals as goal

pub returns-in-None : goal.returns-in-None
returns-in-None g c =
    let none = ap (λ n. ahead g.K.Ord.cmp c.self.inside.map.now.entries (option_copied n) (option_copied c.self.inside.end)) c.in-None.is ∙ none_ahead g.K.Ord.cmp g.met.K.Ord.total g.met.K.Apart.same_key c.self.inside.map.now.entries (option_copied c.self.inside.end) in
    rw (← c.self.view_is) (none, none)

pub held-value-requires : goal.held-value-requires
held-value-requires g c = (subst (λ n. IsWithin g.K.Ord.cmp c.self.inside.map.now.entries (option_copied n) (option_copied c.self.inside.end)) c.in-Some.is c.self.invariant).0

pub invariant_of-self : goal.invariant_of-self
invariant_of-self g c = rw c.before-self-inside.ensures (within g.K.Ord.cmp g.met.K.Ord.total g.met.K.Apart.same_key c.self.inside.map.now.entries (option_copied c.least_in-above.result) (option_copied c.self.inside.end) c.least_in-above.ensures.held)

pub returns-in-Some : goal.returns-in-Some
returns-in-Some g c =
    let at = subst (λ n. IsWithin g.K.Ord.cmp c.self.inside.map.now.entries (option_copied n) (option_copied c.self.inside.end)) c.in-Some.is c.self.invariant in
    rw (← c.self.view_is)
    (ap (λ n. ahead g.K.Ord.cmp c.self.inside.map.now.entries (option_copied n) (option_copied c.self.inside.end)) c.in-Some.is
    ∙ takes_next g.K.Ord.cmp g.met.K.Ord.total g.met.K.Apart.same_key c.self.inside.map.now.entries c.in-Some.key.now c.held-value.result.now (option_copied c.least_in-above.result) (option_copied c.self.inside.end) c.held-value.ensures at.1 c.least_in-above.ensures
    ∙ ap (λ n. (c.in-Some.key.now, c.held-value.result.now) ∷ ahead g.K.Ord.cmp c.self.inside.map.now.entries n (option_copied c.self.inside.end)) (sym c.before-self-inside.ensures))
