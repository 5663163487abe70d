use Rattle.snb_graph_model.proofs.Gaining.{new_rows_are_gained}
use Rattle.snb_graph_model.proofs.law.new_rows_are_gained.Goals as goal

pub returns : goal.returns
returns c = new_rows_are_gained
