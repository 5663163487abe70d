use Rattle.std.proofs.Common.{ap, sym, ◌∙◌, ◌++◌, append_assoc, codes}
use Rattle.std.specs.Fmt.{decimal}
use Rattle.snb_schema.specs.FileNames.{name_of_part, table_text}
use Rattle.snb_schema.proofs.file.name_text.Goals as goal

pub returns-in_ok-format-in-Table : goal.returns-in_ok-format-in-Table
returns-in_ok-format-in-Table c =
    let name = table_text c.in-Table.table in
    let part = decimal c.args.file.part in
    c.in_ok-format-in-Table.ensures.ok
    ∙ ap (λ text. text ++ (codes "_" ++ (part ++ codes "_0.csv"))) c.table_name-name.ensures
    ∙ sym (append_assoc (name ++ codes "_") part (codes "_0.csv") ∙ append_assoc name (codes "_") (part ++ codes "_0.csv"))
    ∙ ap (λ kind. name_of_part kind c.args.file.part) (sym c.in-Table.is)

pub returns-in_ok-format-in-PersonStream : goal.returns-in_ok-format-in-PersonStream
returns-in_ok-format-in-PersonStream c = c.in_ok-format-in-PersonStream.ensures.ok ∙ ap (λ kind. name_of_part kind c.args.file.part) (sym c.in-PersonStream.is)
