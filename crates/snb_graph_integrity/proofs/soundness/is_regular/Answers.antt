use Rattle.snb_graph_integrity.proofs.soundness.is_regular.Goals as goal

pub returns-then-is_rising : goal.returns-then-is_rising
returns-then-is_rising c = (λ t. (c.is_rising.ensures.0 c.if-is_rising.true, c.are_full.ensures.0 t), λ both. c.are_full.ensures.1 both.1)
