use Rattle.std.proofs.Common.{◌≡◌, ◌∷◌, [], ℕ, rules, sym, ap, subst, ◌∙◌}
use Rattle.snb_graph_model.specs.Around.{persons}
use Rattle.snb_short_reads.proofs.messages.forum_row.Goals as goal

pub returns : goal.returns
returns c =
    let g = c.args.graph.now in
    let p = c.known-person.result.now in
    record {
      root = c.root.result;
      from = c.root.ensures.root;
      forum = c.forum-forum.result.now;
      inside = c.forum-forum.ensures.inside;
      held = c.forum-forum.ensures.only;
      moderator = p;
      moderates = c.moderator.ensures.only ∙ ap (λ (n : ℕ). n ∷ []) (sym c.known-person.ensures.named);
      known = subst (λ n. persons g n ≡ p ∷ []) (sym c.known-person.ensures.named) c.known-person.ensures.only;
      is = search rules;
    }
