use Rattle.std.proofs.Common.{ap}
use Rattle.snb_schema.specs.Layouts.{key_columns}
use Rattle.snb_graph_rows.specs.Edges.{edge_of}
use Rattle.snb_graph_tables.proofs.SlotLemmas.{if_contains}
use Rattle.snb_graph_tables.proofs.tables.Tables.one.Goals as goal

pub returns-clause-found : goal.returns-clause-found
returns-clause-found c =
    if_contains c.args.self.now.rows c.edge.result (λ n. edge_of _ (key_columns c.args.table) c.args.table c.args.id 0 n) _ _ (λ n. ap (λ s. edge_of s (key_columns c.args.table) c.args.table c.args.id 0 n) c.requires.shape) c.edge.ensures.found
