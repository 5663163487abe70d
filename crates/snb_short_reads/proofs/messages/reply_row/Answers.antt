use Rattle.std.proofs.Common.{◌≡◌, ◌∷◌, [], rules, subst}
use Rattle.snb_graph_model.proofs.Laws.{comment_alone}
use Rattle.snb_graph_model.specs.Around.{comments}
use Rattle.snb_graph_model.specs.RowParts.{comment_shown}
use Rattle.snb_short_reads.proofs.messages.reply_row.Goals as goal

pub returns : goal.returns
returns c =
    let g = c.args.graph.now in
    let m = c.in-Some.comment.now in
    record {
      comment = comment_shown m;
      held = subst (λ n. comments g n ≡ comment_shown m ∷ []) c.in-Some.ensures.found.0 (comment_alone g m c.known.ensures c.in-Some.ensures.found.1);
      author = c.known-author.result.now;
      wrote = record { id = c.author_id.result; created = c.author_id.ensures.only; held = c.known-author.ensures.only };
      answered = c.author_id-2.result;
      created = c.author_id-2.ensures.only;
      is = search rules;
    }
