use Rattle.std.proofs.Common.{rules}
use Rattle.snb_board.proofs.Joins.{joins}
use Rattle.snb_board.proofs.steps.gather.Goals as goal

pub join_seat-requires : goal.join_seat-requires
join_seat-requires c = (search rules, search rules, search rules, search rules, joins _ _ _ c.args.place.now.me.0 c.args.other.me.0 c.requires.rest.0 c.requires.rest.3.0 c.requires.rest.1)
