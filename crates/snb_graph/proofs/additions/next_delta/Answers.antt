use Rattle.snb_graph.proofs.additions.next_delta.Goals as goal

pub lone_delta-requires-clause-alone : goal.lone_delta-requires-clause-alone
lone_delta-requires-clause-alone c = c.requires.alone c.if-first.true
