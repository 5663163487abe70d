use Rattle.std.proofs.Common.{ap, length, subst, sym, ◌∙◌}
use Rattle.std.specs.Cmp.{eq_by_cmp_equiv}
use Rattle.std.specs.List.Sorted.{IsPermutation, IsSorted}
use Rattle.std.specs.Map.{keys_of}
use Rattle.std.specs.Ordering.{eq_by_cmp}
use Rattle.std.proofs.lemmas.List.{length-map}
use Rattle.std.proofs.lemmas.List.Sorted.{Contains-permutation, IsPermutation-sym}
use Rattle.std.proofs.lemmas.Map.Keys.{IsDistinct-IsPermutation}
use Rattle.snb_graph_maps.specs.Ahead.{AreAt}
use Rattle.snb_graph_maps.proofs.PendingLemmas.{at_length, distinct_alike, in_order, key_held, settled, strict_from}
use Rattle.snb_graph_maps.proofs.pending.in_order.Goals as goal

pub of-requires : goal.of-requires
of-requires g c = ap length c.move_all.ensures ∙ length-map c.args.map.entries (λ e. e.1) ∙ sym (length-map c.args.map.entries (λ e. e.0)) ∙ sym (ap length c.requires.keys)

pub returns-then-is_sorted : goal.returns-then-is_sorted
returns-then-is_sorted g c =
    let es = c.args.map.entries in
    rw (c.of.ensures, c.move_all.ensures, c.requires.keys)
    (settled g.K.Ord.cmp g.met.K.Ord.total g.met.K.Apart.same_key es (subst (IsSorted g.K.Ord.cmp) (c.as_slice.ensures.value ∙ c.requires.keys) (c.is_sorted.ensures c.if-is_sorted.true)) (distinct_alike g.K.Ord.cmp g.K.PartialEq.eq g.met.K.Ord.matches_eq (keys_of es) c.len.ensures.unique))

pub move_by-requires-clause-rises : goal.move_by-requires-clause-rises
move_by-requires-clause-rises g c =
    let es = c.args.map.entries in
    let perm = subst (λ ks. IsPermutation ks c.sort_unstable.new.self.items) c.requires.keys c.sort_unstable.ensures.permutation in
    rw c.as_slice-2.ensures.value (strict_from g.K.Ord.cmp g.met.K.Ord.total c.sort_unstable.new.self.items c.sort_unstable.ensures.sorted (IsDistinct-IsPermutation (eq_by_cmp g.K.Ord.cmp) (eq_by_cmp_equiv g.met.K.Ord.total).symm (keys_of es) c.sort_unstable.new.self.items perm (distinct_alike g.K.Ord.cmp g.K.PartialEq.eq g.met.K.Ord.matches_eq (keys_of es) c.len.ensures.unique)))

pub move_by-requires-clause-held : goal.move_by-requires-clause-held
move_by-requires-clause-held g c = λ k there.
    let es = c.args.map.entries in
    let perm = subst (λ ks. IsPermutation ks c.sort_unstable.new.self.items) c.requires.keys c.sort_unstable.ensures.permutation in
    key_held g.K.Ord.cmp g.met.K.Ord.total g.met.K.Apart.same_key es k (Contains-permutation _ _ k (IsPermutation-sym _ _ perm) (rw (← c.as_slice-2.ensures.value) there))

pub of-requires-2 : goal.of-requires-2
of-requires-2 g c = at_length g.K.Ord.cmp c.args.map.entries c.sort_unstable.new.self.items c.move_by.new.values.items (subst (λ ks. AreAt g.K.Ord.cmp c.args.map.entries ks c.move_by.new.values.items) c.as_slice-2.ensures.value c.move_by.ensures)

pub returns : goal.returns
returns g c =
    let es = c.args.map.entries in
    let ks = c.sort_unstable.new.self.items in
    let vs = c.move_by.new.values.items in
    let perm = subst (λ xs. IsPermutation xs ks) c.requires.keys c.sort_unstable.ensures.permutation in
    let at = subst (λ xs. AreAt g.K.Ord.cmp es xs vs) c.as_slice-2.ensures.value c.move_by.ensures in
    let rise = strict_from g.K.Ord.cmp g.met.K.Ord.total ks c.sort_unstable.ensures.sorted (IsDistinct-IsPermutation (eq_by_cmp g.K.Ord.cmp) (eq_by_cmp_equiv g.met.K.Ord.total).symm (keys_of es) ks perm (distinct_alike g.K.Ord.cmp g.K.PartialEq.eq g.met.K.Ord.matches_eq (keys_of es) c.len.ensures.unique)) in
    c.of-2.ensures ∙ in_order g.K.Ord.cmp g.met.K.Ord.total g.met.K.Apart.same_key es ks vs at rise (λ q there. Contains-permutation (keys_of es) ks q perm there) (at_length g.K.Ord.cmp es ks vs at)
