-- What is shown on the screen; each text ends each line with `\n`.
use Rattle.std.specs.Prelude.{ℕ, List, ◌++◌, codes}
use Rattle.std.specs.Fmt.{decimal}
use Rattle.snb_schema.specs.declared.refusal.Counted.{Counted}
use Rattle.snb_schema.specs.declared.refusal.Counted.TheVariants.{Rows, Reads, Parts, Lanes}
use Rattle.snb_schema.specs.declared.refusal.Refusal.{Refusal}
use Rattle.snb_schema.specs.declared.refusal.Refusal.TheVariants as refusal
use Rattle.snb_schema.specs.declared.table.Kind.{Kind}
use Rattle.snb_schema.specs.declared.table.Kind.TheVariants as kind
use Rattle.snb_schema.specs.FileNames.{name_of, table_text}
use Rattle.snb_schema.specs.ReadKinds.{read_word}

-- how many operations, updates and reads a run had, and how many rows its final graph has
abbrev pub summary_text : ℕ → ℕ → ℕ → ℕ → List ℕ
summary_text operations updates reads rows =
    codes "operations " ++ decimal operations ++ codes "\nupdates " ++ decimal updates
    ++ codes "\nreads " ++ decimal reads
    ++ codes "\nrows " ++ decimal rows ++ codes "\n"

-- the name of a node's table
abbrev pub kind_text : Kind → List ℕ
kind_text kind.Place = codes "place"
kind_text kind.TagClass = codes "tagclass"
kind_text kind.Tag = codes "tag"
kind_text kind.Organisation = codes "organisation"
kind_text kind.Person = codes "person"
kind_text kind.Forum = codes "forum"
kind_text kind.Post = codes "post"
kind_text kind.Comment = codes "comment"

-- what there are too many of
abbrev pub counted_text : Counted → List ℕ
counted_text Rows = codes "rows"
counted_text Reads = codes "reads"
counted_text Parts = codes "parts"
counted_text Lanes = codes "lanes"

-- what is wrong, without the words before it and the line end
abbrev pub cause_text : Refusal → List ℕ
cause_text (refusal.Absent file) = name_of file ++ codes ": absent"
cause_text (refusal.TooLarge file) = name_of file ++ codes ": too large"
cause_text (refusal.NoHeader file) = name_of file ++ codes ": no header"
cause_text (refusal.BadLine file line column) =
    name_of file ++ codes ":" ++ decimal line ++ codes ": column " ++ decimal column
cause_text (refusal.NotUtf8 file line) =
    name_of file ++ codes ":" ++ decimal line ++ codes ": not UTF-8"
cause_text (refusal.Duplicate file line) =
    name_of file ++ codes ":" ++ decimal line ++ codes ": duplicate"
cause_text (refusal.Dangling file line column) =
    name_of file ++ codes ":" ++ decimal line ++ codes ": column " ++ decimal column
    ++ codes ": dangling"
cause_text (refusal.Lacks table id edge) =
    table_text table ++ codes " " ++ decimal id ++ codes ": lacks " ++ table_text edge
cause_text (refusal.Cycle comment) = codes "comment " ++ decimal comment ++ codes ": cycle"
cause_text (refusal.OutOfOrder file line) =
    name_of file ++ codes ":" ++ decimal line ++ codes ": out of order"
cause_text (refusal.LateDependency file line) =
    name_of file ++ codes ":" ++ decimal line ++ codes ": late dependency"
cause_text (refusal.Unmet file line missing) =
    name_of file ++ codes ":" ++ decimal line ++ codes ": unmet " ++ kind_text missing.kind
    ++ codes " " ++ decimal missing.id
cause_text (refusal.TooMany what) = codes "too many " ++ counted_text what
cause_text (refusal.NoParameters file) = name_of file ++ codes ": no parameters"
cause_text (refusal.Unregistered kind) = read_word kind ++ codes ": no handler"

-- what is shown for a refused input
abbrev pub refusal_text : Refusal → List ℕ
refusal_text r = codes "refused: " ++ cause_text r ++ codes "\n"
