use Rattle.std.proofs.Common.{inr, refl}
use Rattle.std.proofs.lemmas.Bool.{false≢true}
use Rattle.snb_plan.specs.Added.{IsMetBy, IsTakenBy}
use Rattle.snb_plan.proofs.CaseFacts.{from_case}
use Rattle.snb_plan.proofs.closed.wrong_with.Goals as goal

pub returns-in-Some : goal.returns-in-Some
returns-in-Some g c =
    from_case (IsTakenBy (g.H.Held.holds c.args.held.now) c.args.added.now) (IsMetBy (g.H.Held.holds c.args.held.now) c.args.added.now) _ _
    (inr (inr (λ late. false≢true (c.if-is_late.ensures.1 late), λ taken. false≢true (c.if-is_taken.ensures.1 taken), (c.in-Some.missing, c.in-Some.ensures, refl))))
