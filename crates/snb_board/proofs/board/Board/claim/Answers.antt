use Rattle.std.proofs.Common.{sym, subst, refl, ◌∙◌}
use Rattle.snb_book.specs.Claims.{IsClaim}
use Rattle.snb_book.specs.Kept.{moment_after}
use Rattle.snb_board.specs.Boards.{claimed_events}
use Rattle.snb_board.specs.Steps.{is_go}
use Rattle.snb_board.proofs.Calls.{Effect, calling, claim_acts, claim_effect, claim_held, giving, same_table}
use Rattle.snb_board.proofs.board.Board.claim.Goals as goal
use Rattle.std.specs.Prelude.{◌≡◌}

pub give-requires : goal.give-requires
give-requires g c =
    let a = c.take-book.result in
    let b = c.claim-claim.new.self in
    let claim = c.claim-claim.result in
    let w = c.seat.inside.worker in
    let at = moment_after a.history c.args.now in
    let i = c.seat.invariant in
    let effect = subst (Effect w a b (claimed_events w at claim)) (sym c.is_grown.ensures) (claim_effect w at a b claim c.claim-claim.ensures.go c.claim-claim.ensures.same) in
    let all = giving w c.seat.inside.place c.take-book.new.place a b _ _ i.1 i.0.1 c.take-book.ensures.turn c.take-book.ensures.book effect in
    record { table = (c.self.invariant.0, c.take-book.ensures.table.0 ∙ same_table c.seat.inside.place _ _ _ c.seat.view_is c.requires c.self.view_is); turn = all.0; event = all.1 }

pub returns : goal.returns
returns g c =
    let a = c.take-book.result in
    let b = c.claim-claim.new.self in
    let claim = c.claim-claim.result in
    let w = c.seat.inside.worker in
    let now = c.args.now in
    let at = moment_after a.history now in
    let i = c.seat.invariant in
    let p = c.seat.inside.place in
    let q = c.take-book.new.place in
    let r = c.give.new.place in
    let took = c.take-book.ensures in
    let gave = c.give.ensures in
    let did = c.claim-claim.ensures in
    record {
      call = calling c.args.self.now c.args.seat.now w p q r a b (λ w. claimed_events w at claim) (is_go claim)
          (λ schedule w h added. IsClaim schedule h w (moment_after h now) claim × (added ≡ claimed_events w (moment_after h now) claim))
          c.requires c.seat.view_is i.1 i.0.1 took.table gave.table took.turn took.book gave.rest
          (claim_effect w at a b claim did.go did.same) gave.legal took.told (did.answer, refl);
      held = claim_held c.args.seat.now p q r a b w at claim c.seat.view_is i.1 i.0.1 took.table gave.table took.turn gave.rest did.answer did.held;
      acts = claim_acts c.hand_is_own.ensures p q r a b w at claim i.1 i.0.1 took.table gave.table took.turn gave.rest did.answer did.acts;
    }
