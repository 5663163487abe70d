-- The number by which the key of an edge is hashed.
use Rattle.std.specs.Prelude.{ℕ, ◌+◌, ◌*◌, ◌%◌, ◌^◌}
use denote.Enum.Declared.{tag_of}
use Rattle.snb_schema.specs.contracts.table.Table.{the_type as the_table}
use Rattle.snb_graph_rows.specs.declared.keys.EdgeKey.{EdgeKey}

-- the ids and the number of the table in one number
abbrev pub mixed : EdgeKey → ℕ
mixed k =
    (((k.first * 11400714819323198485) % 2 ^ 64 + k.second) % 2 ^ 64
    + tag_of the_table k.table) % 2 ^ 64
