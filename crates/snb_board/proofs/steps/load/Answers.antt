use Rattle.std.proofs.Common.{rules}
use Rattle.snb_board.proofs.Keeps.{loading}
use Rattle.snb_board.proofs.steps.load.Goals as goal

pub load-requires : goal.load-requires
load-requires c = (search rules, search rules, loading _ _ _ c.args.place.now.me c.requires.rest.0 c.requires.rest.1)
