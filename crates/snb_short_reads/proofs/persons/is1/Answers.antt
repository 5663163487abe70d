use Rattle.std.proofs.Common.{◌≡◌, ◌∷◌, [], subst}
use Rattle.std.proofs.lemmas.Result.{IfOk-weaker}
use Rattle.snb_read_order.proofs.Laws.{no_row, one_row}
use Rattle.snb_graph_model.proofs.Laws.{no_person, person_only}
use Rattle.snb_graph_model.specs.Around.{persons}
use Rattle.snb_read_model.specs.ShortReads.{IsProfile}
use Rattle.snb_short_reads.proofs.persons.is1.Goals as goal

pub returns-in_default : goal.returns-in_default
returns-in_default c =
    rw c.new.ensures (no_row (persons c.args.graph.now c.args.person) (IsProfile c.args.graph.now) [] (no_person c.args.graph.now c.args.person (λ h. let e = c.in_default.ensures.held.1 h in cc)))

pub returns : goal.returns
returns c =
    let g = c.args.graph.now in
    let p = c.in-Some.found.now in
    let one = subst (λ n. persons g n ≡ p ∷ []) c.in-Some.ensures.found.0 (person_only g p c.known.ensures c.in-Some.ensures.found.1) in
    IfOk-weaker c.only.result _ _ (λ a is. rw is (one_row (persons g c.args.person) (IsProfile g) [] p _ one c.in_ok-profile.ensures)) c.only.ensures
