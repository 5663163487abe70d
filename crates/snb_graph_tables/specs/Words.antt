-- The words of a person.
use Rattle.std.specs.Prelude.{◌&&◌, ℕ, Bool, List, filter, map, nat_eq, not}
use Rattle.std.specs.Ordering.{is_le, nat_cmp}
use Rattle.snb_schema.specs.declared.row.Row.{Row}
use Rattle.snb_schema.specs.declared.table.Table.{Table}
use Rattle.snb_schema.specs.RowKeys.{row_key}
use Rattle.snb_graph_rows.specs.declared.keys.WordKey.{WordKey}
use Rattle.snb_graph_model.specs.Graphs.{rows}

-- an id lies from one on and before another
abbrev pub is_from : ℕ → ℕ → ℕ → Bool
is_from p q a = is_le (nat_cmp p a) && not (is_le (nat_cmp q a))

-- the texts of keys of words
abbrev pub texts_of : {V : Type 0} → List (WordKey × V) → List (List ℕ)
texts_of es = map (λ e. e.0.text) es

-- the texts of a person in a table of words, in byte order
abbrev pub words_of : List Row → Table → ℕ → List (List ℕ)
words_of g t person =
    map (λ r. (row_key r).3) (filter (λ r. nat_eq (row_key r).1 person) (rows g t))
