use Rattle.std.proofs.Common.{rules}
use Rattle.snb_board.proofs.Joins.{mints}
use Rattle.snb_board.proofs.steps.mint.Goals as goal

pub split_seat-requires : goal.split_seat-requires
split_seat-requires c = (search rules, search rules, mints _ _ c.args.place.now.me.0 c.requires.rest.0 c.requires.room.0 c.requires.room.1)
