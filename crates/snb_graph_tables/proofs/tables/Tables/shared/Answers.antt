use Rattle.snb_graph_tables.specs.Parts.{frozen_parts, parts}
use Rattle.snb_graph_tables.proofs.PartLemmas.{joined_among}
use Rattle.snb_graph_tables.proofs.tables.Tables.shared.Goals as goal

pub returns : goal.returns
returns c = rw (← c.self.view_is) (joined_among (frozen_parts c.self.inside) (parts c.self.inside) (c.known.ensures.among, (c.known-2.ensures.among, (c.known-3.ensures.among, (c.known-4.ensures.among, (c.known-5.ensures.among, (c.known-6.ensures.among, (c.known-7.ensures.among, (c.known-8.ensures.among, (c.known-9.ensures.among, (c.known-10.ensures.among, tt)))))))))))
