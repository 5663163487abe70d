-- The names of the files of an input.
use Rattle.std.specs.Prelude.{ℕ, List, ◌++◌, codes}
use Rattle.std.specs.Fmt.{decimal}
use Rattle.snb_schema.specs.declared.file.FileId.{FileId}
use Rattle.snb_schema.specs.declared.file.FileKind.{FileKind}
use Rattle.snb_schema.specs.declared.file.FileKind.TheVariants as kind
use Rattle.snb_schema.specs.declared.table.Table.{Table}
use Rattle.snb_schema.specs.Layouts.{layout}

-- the name of a table
abbrev pub table_text : Table → List ℕ
table_text t = codes (layout t).name

-- the name of a file of this kind, of which it is the part counted from 0
abbrev pub name_of_part : FileKind → ℕ → List ℕ
name_of_part (kind.Table table) part =
    table_text table ++ codes "_" ++ decimal part ++ codes "_0.csv"
name_of_part kind.PersonStream part = codes "updateStream_0_" ++ decimal part ++ codes "_person.csv"
name_of_part kind.ForumStream part = codes "updateStream_0_" ++ decimal part ++ codes "_forum.csv"
name_of_part (kind.Params query) part = codes "interactive_" ++ decimal query ++ codes "_param.txt"
name_of_part kind.Log part = codes "log"
name_of_part kind.Cases part = codes "cases"

-- the name of a file, in its folder and in what is said of it
abbrev pub name_of : FileId → List ℕ
name_of file = name_of_part file.kind file.part
