use Rattle.snb_read_lookups.proofs.Laws.{found_forum}
use Rattle.snb_read_lookups.proofs.lookups.forum.Goals as goal

pub returns : goal.returns
returns c = found_forum c.args.graph.now c.known.ensures c.sound_graphs.ensures.numbers c.args.post c.forum_id.result c.in-Some.forum.now c.in-Some.ensures.found c.forum_id.ensures.inside
