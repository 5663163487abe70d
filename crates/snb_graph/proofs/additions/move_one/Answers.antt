use Rattle.std.proofs.Common.{rules, sym, vec_len, ◌≡◌, ◌∙◌, length}
use Rattle.std.proofs.lemmas.Bool.Decides.{Decides-eqb}
use Rattle.snb_graph.proofs.additions.move_one.Goals as goal
use Rattle.std.proofs.lemmas.List.{nil_from_length}

pub next_delta-delta-requires-clause-alone : goal.next_delta-delta-requires-clause-alone
next_delta-delta-requires-clause-alone c first =
    let len : vec_len c.args.added.now ≡ length c.args.added.now.items = search rules in
    c.requires.alone (nil_from_length c.args.added.now.items (sym len ∙ (Decides-eqb (vec_len c.args.added.now) 0).0 (sym c.is_empty.ensures ∙ first)))
