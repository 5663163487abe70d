use Rattle.std.proofs.Common.{◌≡◌, ℕ, ◌<◌, List, length, get_or, true, false, sym, ◌∙◌, subst, arith, Option, Some, None}
use Rattle.std.proofs.lemmas.List.{get_or_default}
use Rattle.snb_history.specs.History.{halted, hand}
use Rattle.snb_book.specs.Kept.{Kept}
use Rattle.snb_book.specs.Claims.{IsPlanHead}
use Rattle.snb_book.specs.Heads.{TellsFirst}
use Rattle.snb_book.proofs.Answering.{all_started, own_busy, under_way}
use Rattle.snb_book.proofs.book.Book.answer.Goals as goal

-- what stands at the worker's place, whatever is read past the end
held_is : (held : List (Option ℕ)) (w : ℕ) (r o : Option ℕ) → w < length held → r ≡ get_or held w r → r ≡ o → get_or held w None ≡ o
held_is held w r o lt is some = get_or_default held w None r lt ∙ sym is ∙ some

pub returns-then-self : goal.returns-then-self
returns-then-self c = subst (λ (b : Kept). (w : ℕ) × (halted b.history w ≡ true)) c.self.view_is (c.self.invariant.1.stops c.if-self.true)

pub returns-in-None : goal.returns-in-None
returns-in-None c = (
  subst (λ (b : Kept). (w : ℕ) → halted b.history w ≡ false) c.self.view_is (c.self.invariant.1.runs c.if-self.false),
  all_started c.args.self.now.schedule c.args.self.now.history
      (subst (λ (o : Option ℕ). TellsFirst c.args.self.now.schedule (IsPlanHead c.args.self.now.schedule c.args.self.now.history) o) c.in-None.is c.firsts-firsts.ensures.all),
)

pub returns-in-Some-index : goal.returns-in-Some-index
returns-in-Some-index c =
    let known : c.args.worker < c.self.inside.workers = subst (λ (b : Kept). c.args.worker < b.workers) (sym c.self.view_is) c.requires in
    let has : get_or c.self.inside.held.items c.args.worker None ≡ Some c.in-Some-index.op =
    held_is c.self.inside.held.items c.args.worker c.index.result.now (Some c.in-Some-index.op) (let l = c.self.invariant.1.a_hand_each in omega arith) c.index.ensures c.in-Some-index.is in
    own_busy c.args.self.now.schedule c.args.self.now.history c.in-Some.first c.args.worker c.args.at c.in-Some-index.op
    (subst (λ (b : Kept). (w : ℕ) → halted b.history w ≡ false) c.self.view_is (c.self.invariant.1.runs c.if-self.false))
    (subst (λ (o : Option ℕ). TellsFirst c.args.self.now.schedule (IsPlanHead c.args.self.now.schedule c.args.self.now.history) o) c.in-Some.is c.firsts-firsts.ensures.all)
    (subst (λ (b : Kept). hand b.history c.args.worker ≡ Some c.in-Some-index.op) c.self.view_is (sym (c.self.invariant.1.hands c.args.worker known) ∙ has))

pub answer_idle-requires-clause-idle : goal.answer_idle-requires-clause-idle
answer_idle-requires-clause-idle c =
    let known : c.args.worker < c.self.inside.workers = subst (λ (b : Kept). c.args.worker < b.workers) (sym c.self.view_is) c.requires in
    let has : get_or c.self.inside.held.items c.args.worker None ≡ None =
    held_is c.self.inside.held.items c.args.worker c.index.result.now None (let l = c.self.invariant.1.a_hand_each in omega arith) c.index.ensures c.in-None-index.is in
    under_way c.args.self.now.schedule c.args.self.now.history c.in-Some.first c.args.worker
    (subst (λ (b : Kept). (w : ℕ) → halted b.history w ≡ false) c.self.view_is (c.self.invariant.1.runs c.if-self.false))
    (subst (λ (o : Option ℕ). TellsFirst c.args.self.now.schedule (IsPlanHead c.args.self.now.schedule c.args.self.now.history) o) c.in-Some.is c.firsts-firsts.ensures.all)
    (subst (λ (b : Kept). hand b.history c.args.worker ≡ None) c.self.view_is (sym (c.self.invariant.1.hands c.args.worker known) ∙ has))
