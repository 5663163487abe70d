use Rattle.std.proofs.Common.{refl, arith, inr}
use Rattle.snb_graph_model.specs.Messages.{IsRoot}
use Rattle.snb_graph_model.specs.Worked.{network}
use Rattle.snb_read_model.proofs.WorkedFacts.{no_row, one_row}
use Rattle.snb_read_model.proofs.worked.short_reads_of_the_network.Goals as goal

root : IsRoot network 31 30
root = inr (0, (30, omega arith, refl))

pub returns-clause-profile : goal.returns-clause-profile
returns-clause-profile c = one_row _ _ _ _ _ _ refl (record { city = 1; lives = refl; is = refl }) refl

pub returns-clause-recent : goal.returns-clause-recent
returns-clause-recent c =
    one_row _ _ _ _ _ _ refl
    (record { message = _; held = refl; root = 30; from = root; author = _; wrote = record { id = 10; created = refl; held = refl }; is = refl }) refl

pub returns-clause-friend : goal.returns-clause-friend
returns-clause-friend c = one_row _ _ _ _ _ _ refl (record { friend = _; held = refl; is = refl }) refl

pub returns-clause-forum : goal.returns-clause-forum
returns-clause-forum c =
    one_row _ _ _ _ _ _ refl
    (record { root = 30; from = root; forum = _; inside = refl; held = refl; moderator = _; moderates = refl; known = refl; is = refl }) refl

pub returns-clause-replies : goal.returns-clause-replies
returns-clause-replies c =
    one_row _ _ _ _ _ _ refl
    (record { comment = _; held = refl; author = _; wrote = record { id = 11; created = refl; held = refl }; answered = 10; created = refl; is = refl }) refl

pub returns-clause-no_person : goal.returns-clause-no_person
returns-clause-no_person c = no_row _ _ _ _ refl refl

pub returns-clause-no_message : goal.returns-clause-no_message
returns-clause-no_message c = no_row _ _ _ _ refl refl
