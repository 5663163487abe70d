use Rattle.std.proofs.Common.{◌≡◌, ◌+◌, true, false, rules, arith, get_or, sym, subst}
use Rattle.std.proofs.lemmas.List.{get_or_default}
use Rattle.snb_read_model.specs.MessageReads.{beats}
use Rattle.snb_read_model.specs.declared.like.Like.{Like}
use Rattle.snb_complex_messages.proofs.Heads.{IsChoosing, begins, first_item, next_kept, next_left}
use Rattle.snb_complex_messages.proofs.liked.best_of.Goals as goal
use Rattle.snb_complex_messages.proofs.liked.best_of.Goals.{then-not-stands_before+in_ok-push, else-not-stands_before}

pub loop-like-init : goal.loop-like-init
loop-like-init c =
    let (some, here) = first_item c.args.likes.now c.in-Some.first.now c.in-Some.ensures.value in
    begins c.args.likes.now c.in-Some.first.now _ c.requires some here c.new-best.ensures.items

pub loop-like-preserved : goal.loop-like-preserved
loop-like-preserved c =
    let s = c.args.likes.now in
    let i = c.loop-like.like-index in
    let l : Like = get_or s i (record { person = 0; date = 0; message = 0; sent = 0 }) in
    let here = λ (d : Like). get_or_default s i d (record { person = 0; date = 0; message = 0; sent = 0 }) c.loop-like-test.true in
    elim c.if-not-stands_before.branch [
      | then-not-stands_before+in_ok-push w ↦ (let test : beats c.head_of-head.result l ≡ false = first_of (cc, search rules, grind arith) in
          subst (λ b. IsChoosing s (i + 1) c.head_of-head.result b.items) (sym w.best-is)
          (next_kept s i c.loop-like.head l c.loop-like.best.items c.requires c.loop-like-test.true here c.loop-like.invariant c.head_of-head.result _ c.head_of-head.ensures test w.in_ok-push.ensures.items))
      | else-not-stands_before w ↦ (let test : beats c.head_of-head.result l ≡ true = first_of (cc, search rules, grind arith) in
          subst (λ b. IsChoosing s (i + 1) c.head_of-head.result b.items) (sym w.best-is)
          (next_left s i c.loop-like.head l c.loop-like.best.items c.requires c.loop-like-test.true here c.loop-like.invariant c.head_of-head.result c.head_of-head.ensures test))
    ]
