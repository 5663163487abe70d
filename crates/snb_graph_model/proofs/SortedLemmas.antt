-- Two graphs with the same rows are equal.
use Rattle.snb_graph_model.specs.Graphs.{row_order}
use Rattle.snb_graph_model.specs.Laws.{GraphsAreTheirRows}
use Rattle.snb_graph_model.proofs.Laws.{row_total, same_list}

pub graphs_same : GraphsAreTheirRows
graphs_same g h a b same = same_list row_order row_total g h a.rises b.rises same
