use Rattle.std.proofs.Common.{ℕ, ap, nat_eq, sym, ◌∙◌}
use Rattle.std.proofs.lemmas.List.Sorted.{list_any-IsPermutation}
use Rattle.std.specs.HashMap.{get}
use Rattle.std.specs.List.{list_any}
use Rattle.snb_graph_links.specs.Pairs.{rest}
use Rattle.snb_complex_persons.specs.Scan.{is_two}
use Rattle.snb_complex_persons.proofs.scan.is_third.Goals as goal

pub loop-friend-init : goal.loop-friend-init
loop-friend-init c =
    let test : ℕ × ℕ → _ = λ f. is_two (get nat_eq c.args.met.now f.0) in
    ap (λ w. list_any test (rest w)) c.into_iter-friend-iterator.ensures.into_iter_gives ∙ sym (list_any-IsPermutation test _ _ c.friends-friend-items.ensures.same)
