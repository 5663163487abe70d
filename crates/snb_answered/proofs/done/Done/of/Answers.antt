use Rattle.std.proofs.Common.{◌≡◌, ◌∙◌, sym, subst, List, rules}
use Rattle.std.proofs.lemmas.Iterator.Adapters.{YieldsList-from_vec}
use Rattle.std.proofs.lemmas.Iterator.Consumers.{YieldsList-end}
use Rattle.std.proofs.lemmas.List.{map-id}
use Rattle.std.specs.Prelude.{Any, Contains}
use Rattle.std.proofs.lemmas.List.Sorted.{Contains-permutation, IsPermutation-sym}
use Rattle.snb_answered.specs.declared.done.Answered.{Answered}
use Rattle.snb_answered.proofs.Gathered.{all_from, all_of_more, each_of_more, of_all}
use Rattle.snb_answered.proofs.done.Done.of.Goals as goal

pub loop-one-preserved : goal.loop-one-preserved
loop-one-preserved c = record {
  each = each_of_more c.loop-one.yielded c.in-Some.one c.loop-one.done c.add_new.new.self c.loop-one.invariant.each c.in_ok-add_new.ensures;
  all = all_of_more c.loop-one.yielded c.in-Some.one c.loop-one.done c.add_new.new.self c.loop-one.invariant.all c.in_ok-add_new.ensures;
}

pub returns-clause-each : goal.returns-clause-each
returns-clause-each c =
    let whole : c.loop-one.yielded ≡ c.sort_unstable_by_key.new.self.items = sym (map-id c.loop-one.yielded)
    ∙ (YieldsList-end (YieldsList-from_vec {s = c.into_iter-one-iterator.result} c.sort_unstable_by_key.new.self.items (search rules) (search rules)) c.loop-one.yielded c.loop-one.one-iterator c.loop-one.yielded_by c.next.result c.next.new.self c.in-None.is
    c.next.ensures.steps).0 in
    all_from (λ a. Contains c.args.items.items a) c.loop-one.done (λ a there.
    Contains-permutation c.sort_unstable_by_key.new.self.items c.args.items.items a (IsPermutation-sym c.args.items.items c.sort_unstable_by_key.new.self.items c.sort_unstable_by_key.ensures.permutation)
    (subst (λ (xs : List Answered). Contains xs a) whole (of_all (λ a. Contains c.loop-one.yielded a) c.loop-one.done a c.loop-one.invariant.each there)))

pub returns-clause-all : goal.returns-clause-all
returns-clause-all c =
    let whole : c.loop-one.yielded ≡ c.sort_unstable_by_key.new.self.items = sym (map-id c.loop-one.yielded)
    ∙ (YieldsList-end (YieldsList-from_vec {s = c.into_iter-one-iterator.result} c.sort_unstable_by_key.new.self.items (search rules) (search rules)) c.loop-one.yielded c.loop-one.one-iterator c.loop-one.yielded_by c.next.result c.next.new.self c.in-None.is
    c.next.ensures.steps).0 in
    all_from (λ a. Any (λ other. other.op ≡ a.op) c.loop-one.done) c.args.items.items (λ a there.
    of_all (λ a. Any (λ other. other.op ≡ a.op) c.loop-one.done) c.loop-one.yielded a c.loop-one.invariant.all
    (subst (λ (xs : List Answered). Contains xs a) (sym whole) (Contains-permutation c.args.items.items c.sort_unstable_by_key.new.self.items a c.sort_unstable_by_key.ensures.permutation there)))
