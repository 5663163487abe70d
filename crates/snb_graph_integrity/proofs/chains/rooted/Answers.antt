use Rattle.snb_graph_integrity.proofs.ChainLemmas.{marks_rooted}
use Rattle.snb_graph_integrity.proofs.chains.rooted.Goals as goal
use Rattle.snb_base.proofs.Laws.{if_ok}

pub returns : goal.returns
returns c = if_ok c.reached.result (marks_rooted c.args.tables.now.rows c.in_ok-pairs.pairs c.in_ok-ids.ids.items c.in_ok-pairs.ensures c.in_ok-ids.ensures) c.reached.ensures
