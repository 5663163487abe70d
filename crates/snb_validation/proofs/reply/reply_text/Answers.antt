use Rattle.std.proofs.Common.{◌≡◌, ◌∙◌, ◌++◌, ap, ap₂, List, ℕ}
use Rattle.std.proofs.lemmas.Result.{on_ok_weaker}
use Rattle.json.specs.Print.{print}
use Rattle.serde_json.proofs.Texts.{print-outline}
use Rattle.snb_validation.proofs.TextFacts.{text_read}
use Rattle.snb_validation.specs.ReplyData.{reply_data}
use Rattle.snb_validation.specs.Written.{data_tokens}
use Rattle.snb_validation.proofs.reply.reply_text.Goals as goal

pub returns-else-is_err-clause-ok : goal.returns-else-is_err-clause-ok
returns-else-is_err-clause-ok c =
    let reply = reply_data c.args.reply.now in
    let wrote = c.write_reply-written in
    let before : wrote.new.to.before ≡ c.args.to.now.items = wrote.ensures.written.before ∙ c.new-writer.ensures.before ∙ ap (λ v. v.items) c.replace-bytes.ensures.value in
    on_ok_weaker wrote.result (λ same.
    let tokens = same ∙ ap (λ ts. ts ++ data_tokens reply) c.new-writer.ensures.tokens in
    c.into_inner.ensures.items ∙ ap₂ (λ (s : List ℕ) ts. s ++ print ts) before tokens ∙ ap (λ s. c.args.to.now.items ++ s) (print-outline reply)) wrote.ensures.written.ok

pub returns-else-is_err-clause-back : goal.returns-else-is_err-clause-back
returns-else-is_err-clause-back c = on_ok_weaker c.write_reply-written.result (text_read c.args.reply.now) c.write_reply-written.ensures.types
