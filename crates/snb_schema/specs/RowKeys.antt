-- The key of each row, and the slot that it fills.
use Rattle.std.specs.Prelude.{ℕ, List, [], ◌∷◌, unwrap_or}
use Rattle.snb_schema.specs.declared.column.Value.{Value}
use Rattle.snb_schema.specs.declared.column.Value.TheVariants.{Digits, Letters}
use Rattle.snb_schema.specs.declared.key.Key.{Key}
use Rattle.snb_schema.specs.declared.key.Key.TheVariants.{Node, Knows, LikesPost, LikesComment, Member}
use Rattle.snb_schema.specs.declared.layout.KeyColumns.{KeyColumns}
use Rattle.snb_schema.specs.declared.layout.KeyColumns.TheVariants.{First, Second, FirstTwo}
use Rattle.snb_schema.specs.declared.row.Row.{Row}
use Rattle.snb_schema.specs.declared.row.Row.TheVariants as row
use Rattle.snb_schema.specs.declared.table.Kind.{Kind}
use Rattle.snb_schema.specs.declared.table.Kind.TheVariants as kinds
use Rattle.snb_schema.specs.declared.table.Table.{Table}
use Rattle.snb_schema.specs.declared.table.Table.TheVariants as table
use Rattle.snb_schema.specs.Layouts.{key_columns, layout}
use Rattle.snb_schema.specs.RowValues.{table_of, values}

-- what tells the rows of a graph apart: a table, the ids of its key columns, where 0 stands for no
-- second one, and a word's text
abbrev pub RowKey : Type 0
RowKey = Table × ℕ × ℕ × List ℕ

-- the key that columns of a table give for the values of a row
abbrev pub column_key : KeyColumns → Table → List Value → RowKey
column_key First t (Digits one ∷ rest) = (t, one, 0, [])
column_key First t values = (t, 0, 0, [])
column_key Second t (one ∷ Digits other ∷ rest) = (t, other, 0, [])
column_key Second t values = (t, 0, 0, [])
column_key FirstTwo t (Digits one ∷ Digits other ∷ rest) = (t, one, other, [])
column_key FirstTwo t (Digits one ∷ Letters text ∷ rest) = (t, one, 0, text)
column_key FirstTwo t values = (t, 0, 0, [])

-- the columns of a row's key: of an edge with neither date nor year those that its table says, of
-- any other row with two ends these, and of a node its id
abbrev pub key_columns_in : Row → KeyColumns
key_columns_in (row.Link t from to) = key_columns t
key_columns_in (row.Dated t from to date) = FirstTwo
key_columns_in (row.Yeared t from to year) = FirstTwo
key_columns_in (row.Word t person text) = FirstTwo
key_columns_in _ = First

-- the key of a row: its key's columns among its values
abbrev pub row_key : Row → RowKey
row_key r = column_key (key_columns_in r) (table_of r) (values r)

-- the key of a row with two ids first
abbrev pub edge_key : KeyColumns → Table → ℕ → ℕ → RowKey
edge_key key t from to = column_key key t (Digits from ∷ Digits to ∷ [])

-- the table with which a table shares its keys: posts and comments have one id space, and a comment
-- has one parent, be it a post or a comment
abbrev pub sharing : Table → Table
sharing t = unwrap_or (layout t).shares t

-- the slot of a key: the key, where tables that share their keys are one
abbrev pub slot : RowKey → RowKey
slot key = (sharing key.0, key.1, key.2, key.3)

-- the slot that a row fills: no two rows of a graph fill one
abbrev pub slot_of : Row → RowKey
slot_of r = slot (row_key r)

-- the table of the nodes of a kind
abbrev pub kind_table : Kind → Table
kind_table kinds.Place = table.Place
kind_table kinds.TagClass = table.TagClass
kind_table kinds.Tag = table.Tag
kind_table kinds.Organisation = table.Organisation
kind_table kinds.Person = table.Person
kind_table kinds.Forum = table.Forum
kind_table kinds.Post = table.Post
kind_table kinds.Comment = table.Comment

-- the key of a node
abbrev pub node_key : Kind → ℕ → RowKey
node_key kind id = (kind_table kind, id, 0, [])

-- the key of the rows that a reference, or what an insert makes new, names
abbrev pub named_key : Key → RowKey
named_key (Node kind id) = node_key kind id
named_key (Knows low high) = (table.PersonKnowsPerson, low, high, [])
named_key (LikesPost person post) = (table.PersonLikesPost, person, post, [])
named_key (LikesComment person comment) = (table.PersonLikesComment, person, comment, [])
named_key (Member forum person) = (table.ForumHasMemberPerson, forum, person, [])
