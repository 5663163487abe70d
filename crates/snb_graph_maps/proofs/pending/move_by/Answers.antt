use Rattle.std.proofs.Common.{◌++◌, ◌∷◌, [], get_or, arith, take, sym, ◌∙◌, ap, subst, is_some}
use mathlib.Core.Bool.{false≢true}
use Rattle.std.proofs.lemmas.List.{get_or_default, take_all, take_more}
use Rattle.std.proofs.lemmas.Map.Keys.{Less-from_sorted}
use Rattle.snb_graph_maps.specs.Ahead.{AreAt}
use Rattle.snb_graph_maps.specs.Merged.{value_at}
use Rattle.snb_graph_maps.proofs.PendingLemmas.{at_more, left_alone, told_alike}
use Rattle.snb_graph_maps.proofs.pending.move_by.Goals as goal

pub unreachable-requires : goal.unreachable-requires
unreachable-requires g c =
    let k = c.key-item.result in
    let gone = c.in-None.ensures.value ∙ told_alike g.K.Ord.cmp g.met.K.Ord.total g.met.K.Apart.same_key g.K.PartialEq.eq g.met.K.Ord.matches_eq c.loop-key.map.entries k in
    let same = ap (value_at g.K.Ord.cmp c.loop-key.map.entries) c.key-item.is ∙ c.loop-key.invariant.rest c.loop-key.key-index k (omega arith) c.loop-key-test.true ∙ ap (value_at g.K.Ord.cmp c.args.map.entries) (sym c.key-item.is) in
    false≢true (ap is_some (gone ∙ same) ∙ c.requires.held k (c.loop-key.key-index, c.loop-key-test.true, sym c.key-item.is))

pub loop-key-preserved : goal.loop-key-preserved
loop-key-preserved g c =
    let k = c.key-item.result in
    let at = c.loop-key.key-index in
    let so_far = take at c.args.keys.now in
    let more = take_more c.args.keys.now at k c.loop-key-test.true ∙ ap (λ x. so_far ++ x ∷ []) (sym c.key-item.is) in
    let same = ap (value_at g.K.Ord.cmp c.loop-key.map.entries) c.key-item.is ∙ c.loop-key.invariant.rest at k (omega arith) c.loop-key-test.true ∙ ap (value_at g.K.Ord.cmp c.args.map.entries) (sym c.key-item.is) in
    let is = c.in-Some.ensures.value ∙ told_alike g.K.Ord.cmp g.met.K.Ord.total g.met.K.Apart.same_key g.K.PartialEq.eq g.met.K.Ord.matches_eq c.loop-key.map.entries k ∙ same in
    record {
      moved = rw (more, c.put.ensures.items) (at_more g.K.Ord.cmp c.args.map.entries so_far c.loop-key.values.items k c.in-Some.value c.loop-key.invariant.moved is);
      rest = λ j d le lt.
          let below = ap (λ x. g.K.Ord.cmp x (get_or c.args.keys.now j d)) (c.key-item.is ∙ get_or_default c.args.keys.now at k d c.loop-key-test.true) ∙ Less-from_sorted g.K.Ord.cmp c.args.keys.now at j d c.requires.rises (omega arith) lt in
          left_alone g.K.Ord.cmp g.met.K.Ord.total g.met.K.Apart.same_key g.K.PartialEq.eq g.met.K.Ord.matches_eq c.loop-key.map.entries c.remove.new.self.entries k c.remove.ensures.updates.0 (get_or c.args.keys.now j d) below
          ∙ c.loop-key.invariant.rest j d (omega arith) lt;
      room = (let len = c.put.ensures.len in let room = c.put.ensures.room in let before = c.loop-key.invariant.room in let short = c.loop-key-test.true in omega arith);
    }

pub returns : goal.returns
returns g c = subst (λ ks. AreAt g.K.Ord.cmp c.args.map.entries ks c.loop-key.values.items) (take_all c.loop-key.key-index c.args.keys.now c.loop-key-test.false) c.loop-key.invariant.moved
