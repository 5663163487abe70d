use Rattle.std.proofs.Common.{rules, sym, ◌∙◌, ap, length, arith}
use Rattle.std.specs.Ordering.{is_lt}
use Rattle.std.proofs.lemmas.Fn.{always_returns_same}
use Rattle.snb_graph_maps.proofs.SearchLemmas.{less}
use Rattle.snb_graph_maps.proofs.ZipLemmas.{all_below, found_beside, keys_rise, keys_searchable, missed_beside}
use Rattle.snb_graph_maps.proofs.sorted.Span.find.Goals as goal

-- the last key is below this one
pub returns : goal.returns
returns g c =
    let rises = keys_rise g.K.Ord.cmp g.met.K.Ord.total g.met.K.Apart.same_key c.self.inside.keys.now c.self.inside.values.now c.self.invariant (rw (← c.self.view_is) at c.requires) in
    let below = all_below g.K.Ord.cmp g.met.K.Ord.total g.met.K.Apart.same_key c.self.inside.keys.now c.in-Some.last.now c.args.key.now rises (sym c.in-Some.ensures.value) (less _ (ap is_lt (sym c.cmp.ensures) ∙ sym c.if-is_lt.ensures)) in
    rw (← c.self.view_is) (sym (missed_beside g.K.Ord.cmp g.met.K.Ord.total g.met.K.Apart.same_key c.self.inside.keys.now c.self.inside.values.now c.args.key.now (length c.self.inside.keys.now) c.self.invariant (rw (← c.self.view_is) at c.requires) (omega arith) below (λ j d l h. absurd (omega arith))))

-- the key is at its place
pub returns-in-Ok : goal.returns-in-Ok
returns-in-Ok g c =
    let hit = c.in-Ok.ensures.position (λ k. g.K.Ord.cmp k c.args.key.now) (always_returns_same _ _ _ (λ a r f called. search rules)) in
    rw (← c.self.view_is) (sym (found_beside g.K.Ord.cmp g.met.K.Ord.total g.met.K.Apart.same_key c.self.inside.keys.now c.self.inside.values.now c.args.key.now c.in-Ok.at c.index-self-at.result c.self.invariant (rw (← c.self.view_is) at c.requires) c.in-Ok.ensures.bound (hit c.args.key.now)))

-- the key isn't there
pub returns-in-Err : goal.returns-in-Err
returns-in-Err g c =
    let gap = c.in-Err.ensures.position (λ k. g.K.Ord.cmp k c.args.key.now) (always_returns_same _ _ _ (λ a r f called. search rules))
    (keys_searchable g.K.Ord.cmp g.met.K.Ord.total g.met.K.Apart.same_key c.self.inside.keys.now c.args.key.now (keys_rise g.K.Ord.cmp g.met.K.Ord.total g.met.K.Apart.same_key c.self.inside.keys.now c.self.inside.values.now c.self.invariant (rw (← c.self.view_is) at c.requires))) in
    rw (← c.self.view_is) (sym (missed_beside g.K.Ord.cmp g.met.K.Ord.total g.met.K.Apart.same_key c.self.inside.keys.now c.self.inside.values.now c.args.key.now c.in-Err.field-0 c.self.invariant (rw (← c.self.view_is) at c.requires) c.in-Err.ensures.bound gap.0 gap.1))
