use Rattle.std.proofs.Common.{◌≡◌, ◌∙◌, ◌++◌, List, sym, ap}
use Rattle.snb_schema.specs.Inserts.{addition_edges}
use Rattle.snb_schema.specs.Nodes.{addition}
use Rattle.snb_schema.specs.declared.op.Op.{Op}
use Rattle.snb_schema.specs.declared.row.Row.{Row}
use Rattle.snb_inserts.proofs.ListRows.{edges}
use Rattle.snb_inserts.proofs.rows.put_rest.Goals as goal
use Rattle.std.proofs.lemmas.Result.{on_ok_weaker}

pub returns-in-AddPerson : goal.returns-in-AddPerson
returns-in-AddPerson c =
    let person = c.in-AddPerson in
    let same : edges person.person_id person.city_id c.as_slice-in-AddPerson.result.now c.as_slice.result.now c.as_slice-in-AddPerson-2.result.now c.as_slice-in-AddPerson-3.result.now c.as_slice-in-AddPerson-4.result.now ≡ addition_edges (addition c.args.op.now) =
    (λ i. edges person.person_id person.city_id (c.as_slice-in-AddPerson.ensures i) (c.as_slice.ensures i) (c.as_slice-in-AddPerson-2.ensures i) (c.as_slice-in-AddPerson-3.ensures i) (c.as_slice-in-AddPerson-4.ensures i))
    ∙ ap (λ (op : Op). addition_edges (addition op)) (sym person.is) in
    on_ok_weaker c.put_person.result (λ e. e ∙ ap (λ (xs : List Row). c.args.rows.now.items ++ xs) same) c.put_person.ensures
