use Rattle.std.proofs.Common.{◌≡◌, ◌∷◌, ◌++◌, ◌+◌, ◌%◌, [], Bool, true, sym, subst, arith, length}
use Rattle.std.specs.Prelude.{◌==◌, if◌then◌else◌}
use Rattle.std.proofs.lemmas.Bool.{eq-eqb}
use Rattle.snb_trial.specs.Trial.{comment, forum, like, lines_from, membership, post}
use Rattle.snb_trial.proofs.Numbered.{five_pushed}
use Rattle.snb_trial.proofs.lanes.push_forum.Goals as goal

pub returns : goal.returns
returns c =
    let here : (c.args.i % 3 == c.args.part) ≡ true = eq-eqb (c.args.i % 3) c.args.part c.if-i-part.false in
    let i = c.args.i in
    subst
    (λ (b : Bool). c.push-5.new.self.items ≡ c.args.lines.now.items ++ lines_from (length c.args.lines.now.items + 1) (if b then forum i ∷ membership i ∷ post i ∷ comment i ∷ like i ∷ [] else []))
    (sym here)
    (five_pushed (forum i) (membership i) (post i) (comment i) (like i) (c.len.result + 1) c.args.lines.now.items c.push.new.self.items c.push-2.new.self.items c.push-3.new.self.items c.push-4.new.self.items c.push-5.new.self.items
    _ _ _ _ _ (omega arith) c.in_ok-forum_line.ensures c.membership_line.ensures c.in_ok-post_line.ensures c.in_ok-comment_line.ensures c.like_line.ensures
    c.in_ok-push.ensures.items c.in_ok-push-2.ensures.items c.in_ok-push-3.ensures.items c.in_ok-push-4.ensures.items c.in_ok-push-5.ensures.items)
