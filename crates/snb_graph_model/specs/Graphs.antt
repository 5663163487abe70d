-- A graph is its rows: one list in a fixed order.
use Rattle.std.specs.Prelude.{◌≡◌, ◌++◌, ◌&&◌, ℕ, nat_eq, Bool, List, filter, length, All, Contains, IsPermutation}
use Rattle.std.specs.Cmp.Lexicographic.{slice_cmp}
use Rattle.std.specs.List.{list_any}
use Rattle.std.specs.List.Sorted.{IsStrictlySortedBy}
use Rattle.std.specs.Ordering.{nat_cmp, ordering_then}
use Rattle.std.specs.Str.{bytes_eq}
use Rattle.std.specs.declared.cmp.Ordering.{Ordering}
use Rattle.snb_schema.specs.declared.key.Key.{Key}
use Rattle.snb_schema.specs.declared.layout.Shape.{Shape}
use Rattle.snb_schema.specs.declared.layout.Shape.TheVariants as shapes
use Rattle.snb_schema.specs.declared.row.Row.{Row}
use Rattle.snb_schema.specs.declared.table.Table.{Table}
use Rattle.snb_schema.specs.Layouts.{shape}
use Rattle.snb_schema.specs.RowKeys.{RowKey, named_key, row_key, slot_of}
use Rattle.snb_schema.specs.RowValues.{table_of}
use Rattle.snb_schema.specs.TableOrder.{same_table, table_order}
use Rattle.snb_schema.specs.TableRows.{IsTableRow}

-- the part of a graph in which rows of a shape stand: a part for each kind of node, one for all
-- edges, and one for the words
abbrev pub part_of : Shape → ℕ
part_of shapes.Place = 0
part_of shapes.TagClass = 1
part_of shapes.Tag = 2
part_of shapes.Organisation = 3
part_of shapes.Person = 4
part_of shapes.Forum = 5
part_of shapes.Post = 6
part_of shapes.Comment = 7
part_of shapes.Link = 8
part_of shapes.Dated = 8
part_of shapes.Yeared = 8
part_of shapes.Word = 9

-- a table of edges
abbrev pub IsOfEdges : Table → Type 0
IsOfEdges t = part_of (shape t) ≡ 8

-- the part in which a row stands
abbrev pub part : Row → ℕ
part r = part_of (shape (table_of r))

-- the order of keys: by table, then by ids as numbers, then by the bytes of a text
abbrev pub key_order : RowKey → RowKey → Ordering
key_order j k =
    ordering_then (table_order j.0 k.0)
    (ordering_then (nat_cmp j.1 k.1) (ordering_then (nat_cmp j.2 k.2) (slice_cmp nat_cmp j.3 k.3)))

-- the order of rows: by part, and within a part by key
abbrev pub row_order : Row → Row → Ordering
row_order r s = ordering_then (nat_cmp (part r) (part s)) (key_order (row_key r) (row_key s))

-- rows in order, of which no two fill one slot, each a row that its table can have
pub record IsGraph (g : List Row) : Type 0 where
  pub rises : IsStrictlySortedBy row_order g
  pub apart : (r s : Row) → Contains g r → Contains g s → slot_of r ≡ slot_of s → r ≡ s
  pub of_tables : All IsTableRow g

-- the rows of a table, in the order of their keys
abbrev pub rows : List Row → Table → List Row
rows g t = filter (λ r. same_table (table_of r) t) g

-- how many rows a table has
abbrev pub count : List Row → Table → ℕ
count g t = length (rows g t)

-- the new graph has these rows more: each as often as it is in both together
pub record HasGained (old : List Row) (more : List Row) (new : List Row) : Type 0 where
  pub graph : IsGraph new
  pub rows : IsPermutation new (old ++ more)

-- one of the rows has the key
pub record HasKey (g : List Row) (k : RowKey) : Type 0 where
  pub it : Row
  pub held : Contains g it
  pub keyed : row_key it ≡ k

-- one of the rows fills the slot
pub record HasSlot (g : List Row) (s : RowKey) : Type 0 where
  pub it : Row
  pub held : Contains g it
  pub fills : slot_of it ≡ s

-- the graph holds what a reference, or a key of an insert, names
abbrev pub HoldsKey : List Row → Key → Type 0
HoldsKey g key = HasKey g (named_key key)

-- whether two keys, or two slots, are one
abbrev pub same_key : RowKey → RowKey → Bool
same_key j k = same_table j.0 k.0 && nat_eq j.1 k.1 && nat_eq j.2 k.2 && bytes_eq j.3 k.3

-- whether one of the rows fills the slot
abbrev pub fills : List Row → RowKey → Bool
fills g s = list_any (λ r. same_key (slot_of r) s) g
