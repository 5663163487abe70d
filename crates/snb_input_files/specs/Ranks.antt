-- The order in which the files of an input are looked for.
use Rattle.std.specs.Prelude.{ℕ, zero, suc, ◌+◌, ◌*◌, ◌^◌, List, [], ◌∷◌, if◌then◌else◌}
use Rattle.snb_schema.specs.declared.file.FileId.{FileId}
use Rattle.snb_schema.specs.declared.file.FileKind.{FileKind}
use Rattle.snb_schema.specs.declared.file.FileKind.TheVariants.{Table, PersonStream, ForumStream, Params, Log, Cases}
use Rattle.snb_schema.specs.declared.table.Table.{Table as Tables}
use Rattle.snb_schema.specs.TableOrder.{all_tables, same_table}

-- how many of these tables come before this one
abbrev pub tables_before : List Tables → Tables → ℕ
tables_before [] t = zero
tables_before (u ∷ us) t = if same_table u t then zero else suc (tables_before us t)

-- the number of a kind of file: the tables in their order, the streams of persons, those of the
-- other inserts, the parameter files by their queries, the log, the cases
abbrev pub ordinal : FileKind → ℕ
ordinal (Table t) = tables_before all_tables t
ordinal PersonStream = 33
ordinal ForumStream = 34
ordinal (Params q) = 35 + q
ordinal Log = 35 + 2 ^ 32
ordinal Cases = 36 + 2 ^ 32

-- the number of a file: files of a kind by their parts, after those of the kinds before it
abbrev pub rank : FileId → ℕ
rank file = ordinal file.kind * 2 ^ 32 + file.part
