use Rattle.snb_columns.proofs.Laws.{OneEach, one_list, one_value}
use Rattle.snb_input_fields.proofs.law.one_value.Goals as goal

pub returns : goal.returns
returns c =
    let one : OneEach = record { number = c.one_spelling.ensures.value; date = c.one_moment.ensures.date; day = c.one_moment.ensures.day } in
    record { value = one_value one; list = one_list one }
