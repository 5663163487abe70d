use Rattle.std.proofs.Common.{◌∙◌, ℕ, ◌++◌, ◌∷◌, [], refl, sym, subst}
use Rattle.std.specs.List.Sorted.{IsPermutation}
use Rattle.snb_graph_links.specs.Pairs.{rest}
use Rattle.snb_graph_model.specs.Around.{messages}
use Rattle.snb_read_model.specs.declared.sent.Sent.{Sent}
use Rattle.snb_complex_messages.proofs.Moves.{passed_done, passed_next, passed_over}
use Rattle.snb_complex_messages.proofs.sent.offer_messages.Goals as goal

-- a message of a person, with its date
abbrev made : ℕ → ℕ × ℕ → Sent
made person m = record { person = person; message = m.0; date = m.1 }

pub loop-message-init : goal.loop-message-init
loop-message-init g c = (c.requires, λ test is before latest. (before, latest, refl))

pub loop-message-preserved : goal.loop-message-preserved
loop-message-preserved g c = (
  c.loop-message.invariant.0,
  λ test is before latest.
      (let (found, are, same) = c.loop-message.invariant.1 test is before latest in (
        found,
        are,
        passed_over (made c.args.person) (λ m. test m.1) found _ (rest c.next.new.self) (c.in-Some.message, c.in-Some.date) _ c.in-Some.ensures.steps
            (sym (is c.in-Some.date c.passes.result c.passes.ensures) ∙ c.if-passes.false) same,
      )),
)

pub loop-message-preserved-in-Continue-1 : goal.loop-message-preserved-in-Continue-1
loop-message-preserved-in-Continue-1 g c = (
  c.loop-message.invariant.0,
  λ test is before latest.
      (let (found, are, same) = c.loop-message.invariant.1 test is before latest in (
        found ++ made c.args.person (c.in-Some.message, c.in-Some.date) ∷ [],
        c.in_ok-offer.ensures found are,
        passed_next (made c.args.person) (λ m. test m.1) found _ _ (rest c.next.new.self) (c.in-Some.message, c.in-Some.date) _ c.in-Some.ensures.steps
            (sym (is c.in-Some.date c.passes.result c.passes.ensures) ∙ c.if-passes.true) refl same,
      )),
)

pub returns : goal.returns
returns g c test is before latest =
    let (found, are, same) = c.loop-message.invariant.1 test is before latest in (
      found,
      are,
      passed_done (made c.args.person) (λ m. test m.1) _ _ _ _ _
          (subst (λ w. IsPermutation (messages c.args.graph.now c.args.person) (rest w)) (sym c.into_iter-message-iterator.ensures.into_iter_gives) c.messages-message-items.ensures.same)
          c.in-None.ensures.steps.0 same,
    )
