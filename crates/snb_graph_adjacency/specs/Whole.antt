-- The links of all rows at once. Cited by contracts of private functions and by proofs.
use Rattle.std.specs.Prelude.{◌≡◌, ◌↔◌, ◌⊎◌, [], ℕ, Bool, List, Contains, cond}
use Rattle.snb_schema.specs.declared.row.Row.{Row}
use Rattle.snb_schema.specs.declared.row.Row.TheVariants as row
use Rattle.snb_schema.specs.declared.layout.Shape.TheVariants as shapes
use Rattle.snb_schema.specs.declared.table.Kind.{Kind}
use Rattle.snb_schema.specs.declared.table.Table.{Table}
use Rattle.snb_schema.specs.Layouts.{shape}
use Rattle.snb_graph_links.specs.Pairs.{HasPair, Lists}
use Rattle.snb_graph_rows.specs.Edges.{edge_row}
use Rattle.snb_graph_adjacency.specs.LinkDelta.{IsDated}

-- a table of edges with dates or years
abbrev pub IsWide : Table → Type 0
IsWide t = (shape t ≡ shapes.Dated) ⊎ (shape t ≡ shapes.Yeared)

-- an edge of such a table leads from an id to another one, or back from it
abbrev pub HasEdge : List Row → Table → Bool → ℕ → ℕ → ℕ → Type 0
HasEdge g t back of id date = Contains g (edge_row (t, cond back id of, cond back of id, []) date)

-- an edge of the table leads from a message of the kind, which has this date, to an id
abbrev pub IsLedBy : List Row → Table → Kind → ℕ → ℕ → ℕ → Type 0
IsLedBy g t kind of id date = Contains g (row.Link t id of) × IsDated g kind id date

-- these links more
abbrev pub HasAddedLinks : List (ℕ × (ℕ × ℕ)) → (ℕ → ℕ → ℕ → Type 0) → List (ℕ × (ℕ × ℕ)) → Type 0
HasAddedLinks old More new =
    (of id date : ℕ) → Contains new (of, (id, date))
    ↔ (Contains old (of, (id, date)) ⊎ More of id date)

-- the pairs are those of these links
abbrev pub ArePairsBy : (ℕ → ℕ → ℕ → Type 0) → Lists × Lists → Type 0
ArePairsBy Are s = (of id date : ℕ) → HasPair s of id date ↔ Are of id date
