use Rattle.snb_graph_model.proofs.SortedLemmas.{graphs_same}
use Rattle.snb_graph_model.proofs.law.graphs_are_their_rows.Goals as goal

pub returns : goal.returns
returns c = graphs_same
