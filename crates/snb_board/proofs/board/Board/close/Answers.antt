use Rattle.std.proofs.Common.{◌∙◌, ◌≡◌, sym, ap, subst}
use Rattle.std.specs.Prelude.{All}
use mathlib.Core.Option.{some-injective}
use Rattle.snb_history.specs.Rules.{IsLegal}
use Rattle.snb_book.specs.Kept.{Kept}
use Rattle.snb_board.specs.Boards.{IsPartOf}
use Rattle.std.specs.Prelude.{Ok}
use Rattle.snb_board.proofs.Closing.{board_closes, made_by}
use Rattle.snb_board.proofs.board.Board.close.Goals as goal
use Rattle.snb_board.proofs.Turns.{full_kept}

pub unreachable-requires-in_default-take : goal.unreachable-requires-in_default-take
unreachable-requires-in_default-take c =
    let all = board_closes _ c.last.inside.place c.gather_all.new.place c.args.self c.in-Some.last c.pop.new.self.items c.args.seats.items _ _ c.last.view_is c.last.invariant.0 c.gather_all.ensures.view c.in-Some.ensures.items c.requires.all c.close_with-closed.ensures.values.2 in
    c.in_default-take.not-Ok all.0 (some-injective _ _ (sym c.take.ensures.value ∙ all.1))

pub returns : goal.returns
returns c =
    let all = board_closes _ c.last.inside.place c.gather_all.new.place c.args.self c.in-Some.last c.pop.new.self.items c.args.seats.items _ _ c.last.view_is c.last.invariant.0 c.gather_all.ensures.view c.in-Some.ensures.items c.requires.all c.close_with-closed.ensures.values.2 in
    let book : all.0 ≡ c.in-Ok.book = full_kept _ _ (sym (some-injective _ _ (sym c.take.ensures.value ∙ all.1)) ∙ c.in-Ok.is) in
    let legal = subst (λ (a : Kept). IsLegal a.schedule a.workers a.history) book all.4 in
    let workers = sym (ap (λ (a : Kept). a.workers) book) ∙ all.3 in
    record {
      book = (sym (ap (λ (a : Kept). a.schedule) book) ∙ all.2, workers);
      legal = legal;
      seats = subst (λ (a : Kept). All (IsPartOf c.args.self.schedule a.history) c.args.seats.items) book all.5;
      made = made_by c.args.self c.args.seats.items c.in-Ok.book.schedule c.in-Ok.book.workers c.in-Ok.book.history c.requires.all workers legal;
    }
