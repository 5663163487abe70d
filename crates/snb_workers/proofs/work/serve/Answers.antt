use Rattle.std.proofs.Common.{◌≡◌, ◌∙◌, ℕ, List, true, ap, refl, sym, subst}
use Rattle.snb_answered.specs.declared.done.Answered.{Answered}
use Rattle.snb_workers.specs.declared.work.Served.{Served}
use Rattle.snb_workers.specs.Turns.{IsDone}
use Rattle.snb_workers.proofs.work.serve.Goals as goal
use Rattle.snb_workers.proofs.work.serve.Goals.{in-Insert, in-Ask+in_ok-answer_text-in-Ask+in_ok-push-in-Ask}

pub returns-clause-served : goal.returns-clause-served
returns-clause-served g c =
    let (o, got, does) = c.task.ensures in
    let front = λ (s : Served). s.front in
    let now = λ (s : Served). s.now in
    elim c.match-task.branch [
      | in-Insert w ↦ (let same = rw w.in-Insert.is at does in
          (o, got, subst (IsDone (g.C.Clock.moments c.args.clock.now) c.args.ticket.op c.args.replica.now c.args.replies.now c.match-task.replies c.match-task.served) (sym same) (ap front w.served-is, w.replies-is)))
      | in-Ask+in_ok-answer_text-in-Ask+in_ok-push-in-Ask w ↦ (
          let same = rw w.in-Ask.is at does in
          let replied = w.in_ok-answer_text-in-Ask.ensures in
          let parts = w.into_parts-rows.ensures in
          let one : Answered = record { op = c.args.ticket.op; front = w.front-front.result; rows = w.into_parts-rows.result.0; text = w.from_vec-text.result } in (
            o,
            got,
            subst (IsDone (g.C.Clock.moments c.args.clock.now) c.args.ticket.op c.args.replica.now c.args.replies.now c.match-task.replies c.match-task.served) (sym same) (
              ap front w.served-is ∙ w.front-front.ensures,
              (
                one,
                record {
                  number = refl;
                  front = w.front-front.ensures;
                  reply = (replied.0, replied.1, parts.rows ∙ replied.2, w.from_vec-text.ensures ∙ (λ i. (parts.text i).items) ∙ replied.3);
                  after =
                      subst (λ (x : List ℕ × ℕ). (g.C.Clock.moments c.args.clock.now).tells_after x.0 x.1 ≡ true) (λ i. (w.as_slice.ensures i, sym (ap now w.served-is) i))
                      w.after-now.ensures.there;
                },
                rw w.replies-is w.in_ok-push-in-Ask.ensures.ok,
              ),
            ),
          ))
    ]
