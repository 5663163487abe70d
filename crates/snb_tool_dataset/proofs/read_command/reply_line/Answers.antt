use Rattle.std.proofs.Common.{ℕ, List, [], ◌∷◌, ◌++◌, ap, ◌∙◌}
use Rattle.serde_json.specs.Written.{compact_text}
use Rattle.snb_validation.specs.ReplyData.{reply_data}
use Rattle.snb_tool_dataset.proofs.read_command.reply_line.Goals as goal

pub returns : goal.returns
returns g c = record {
  reply = c.in_ok-reply.reply;
  replies = c.in_ok-reply.ensures;
  shown = c.in_ok-push.ensures.items
      ∙ ap (λ (xs : List ℕ). xs ++ 10 ∷ []) (c.in_ok-reply_text.ensures.ok ∙ ap (λ (xs : List ℕ). xs ++ compact_text (reply_data c.in_ok-reply.reply)) c.new-line.ensures.items);
}
