use Rattle.snb_graph_integrity.proofs.ChainCount.{chain_short}
use Rattle.snb_graph_integrity.proofs.NumberLemmas.{numbers_fit}
use Rattle.snb_graph_integrity.proofs.RootLemmas.{one_root, parent_root}
use Rattle.snb_graph_integrity.proofs.SoundLemmas.{no_parent, one_author, one_kind, one_parent, replies_held, required_there}
use Rattle.snb_graph_integrity.proofs.law.sound_graphs.Goals as goal

pub returns-clause-numbers : goal.returns-clause-numbers
returns-clause-numbers c = numbers_fit

pub returns-clause-kinds : goal.returns-clause-kinds
returns-clause-kinds c = one_kind

pub returns-clause-required : goal.returns-clause-required
returns-clause-required c = required_there

pub returns-clause-author : goal.returns-clause-author
returns-clause-author c = one_author

pub returns-clause-root : goal.returns-clause-root
returns-clause-root c = one_root

pub returns-clause-root_of_parent : goal.returns-clause-root_of_parent
returns-clause-root_of_parent c = parent_root

pub returns-clause-posts : goal.returns-clause-posts
returns-clause-posts c = no_parent

pub returns-clause-replies : goal.returns-clause-replies
returns-clause-replies c = replies_held

pub returns-clause-one_parent : goal.returns-clause-one_parent
returns-clause-one_parent c = one_parent

pub returns-clause-chains : goal.returns-clause-chains
returns-clause-chains c = chain_short
