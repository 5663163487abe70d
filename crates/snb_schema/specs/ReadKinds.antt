-- The table of reads: the word and the number of each kind, its parameters, what the rows of its
-- answer hold, and what may follow them.
use Rattle.std.specs.Prelude.{Bool, true, false, List, ℕ, [], ◌∷◌, Option, None, Some, codes}
use Rattle.snb_schema.specs.declared.column.Column.{Column}
use Rattle.snb_schema.specs.declared.column.Column.TheVariants.{Small, Date}
use Rattle.snb_schema.specs.declared.column.Column.TheVariants as columns
use Rattle.snb_schema.specs.declared.column.Value.{Value}
use Rattle.snb_schema.specs.declared.column.Value.TheVariants.{Digits, SmallDigits, Letters}
use Rattle.snb_schema.specs.declared.limits.TheConstants.{MAX_YEAR}
use Rattle.snb_schema.specs.declared.query.Query.{Query}
use Rattle.snb_schema.specs.declared.query.Query.TheVariants as queries
use Rattle.snb_schema.specs.declared.query.CellKind.{CellKind}
use Rattle.snb_schema.specs.declared.query.CellKind.TheVariants.{Number, Flag, Words, Texts, Stays}
use Rattle.snb_schema.specs.declared.query.ReadKind.{ReadKind}
use Rattle.snb_schema.specs.declared.query.ReadKind.TheVariants.{Is1, Is2, Is3, Is4, Is5, Is6, Is7, Ic1, Ic2, Ic7, Ic8, Ic9, Ic11, Ic13}
use Rattle.snb_schema.specs.declared.query.TargetColumn.{TargetColumn}
use Rattle.snb_schema.specs.declared.query.TargetColumn.TheVariants.{PersonAt, MessageAt}
use Rattle.snb_schema.specs.Nodes.{id_column}

-- what is fixed of a kind of read
pub record ReadLayout : Type 0 where
  pub word : List ℕ  -- the word that names it
  pub number : ℕ  -- the number of a complex read, and 0 for a short one
  pub parameters : List Column  -- the columns of its parameters
  pub cells : List CellKind  -- what stands in the columns of its rows
  -- the columns, counted from 1, from whose ids further reads may go on, by rising column
  pub targets : List TargetColumn
  -- the short reads of the targets in the first row of its answer follow it in a reply
  pub is_followed : Bool

-- a complex read: word, number, parameters, cells, targets, is followed
abbrev pub complex_read : List ℕ → ℕ → List Column → List CellKind → List TargetColumn → Bool
    → ReadLayout
complex_read word number parameters cells targets is_followed =
    record {
      word = word;
      number = number;
      parameters = parameters;
      cells = cells;
      targets = targets;
      is_followed = is_followed;
    }

-- a short read has the id of a person or a message, and no read follows its answer: word, cells,
-- targets
abbrev pub short_read : List ℕ → List CellKind → List TargetColumn → ReadLayout
short_read word cells targets = complex_read word 0 (id_column ∷ []) cells targets false

-- the fourteen kinds
abbrev pub read_layout : ReadKind → ReadLayout
read_layout Is1 =
    short_read (codes "IS1")
    (Words ∷ Words ∷ Number ∷ Words ∷ Words ∷ Number ∷ Words ∷ Number ∷ []) []
read_layout Is2 =
    short_read (codes "IS2") (Number ∷ Words ∷ Number ∷ Number ∷ Number ∷ Words ∷ Words ∷ [])
    (MessageAt 1 ∷ MessageAt 4 ∷ PersonAt 5 ∷ [])
read_layout Is3 =
    short_read (codes "IS3") (Number ∷ Words ∷ Words ∷ Number ∷ []) (PersonAt 1 ∷ [])
read_layout Is4 = short_read (codes "IS4") (Number ∷ Words ∷ []) []
read_layout Is5 = short_read (codes "IS5") (Number ∷ Words ∷ Words ∷ []) (PersonAt 1 ∷ [])
read_layout Is6 =
    short_read (codes "IS6") (Number ∷ Words ∷ Number ∷ Words ∷ Words ∷ []) (PersonAt 3 ∷ [])
read_layout Is7 =
    short_read (codes "IS7") (Number ∷ Words ∷ Number ∷ Number ∷ Words ∷ Words ∷ Flag ∷ [])
    (MessageAt 1 ∷ PersonAt 4 ∷ [])
read_layout Ic1 =
    complex_read (codes "IC1") 1 (id_column ∷ columns.Words ∷ [])
    (Number ∷ Words ∷ Number ∷ Number ∷ Number ∷ Words ∷ Words ∷ Words ∷ Texts ∷ Texts ∷ Words
    ∷ Stays ∷ Stays ∷ []) (PersonAt 1 ∷ []) true
read_layout Ic2 =
    complex_read (codes "IC2") 2 (id_column ∷ Date ∷ [])
    (Number ∷ Words ∷ Words ∷ Number ∷ Words ∷ Number ∷ []) (PersonAt 1 ∷ MessageAt 4 ∷ []) true
read_layout Ic7 =
    complex_read (codes "IC7") 7 (id_column ∷ [])
    (Number ∷ Words ∷ Words ∷ Number ∷ Number ∷ Words ∷ Number ∷ Flag ∷ [])
    (PersonAt 1 ∷ MessageAt 5 ∷ []) true
read_layout Ic8 =
    complex_read (codes "IC8") 8 (id_column ∷ [])
    (Number ∷ Words ∷ Words ∷ Number ∷ Number ∷ Words ∷ []) (PersonAt 1 ∷ MessageAt 5 ∷ []) true
read_layout Ic9 =
    complex_read (codes "IC9") 9 (id_column ∷ Date ∷ [])
    (Number ∷ Words ∷ Words ∷ Number ∷ Words ∷ Number ∷ []) (PersonAt 1 ∷ MessageAt 4 ∷ []) true
read_layout Ic11 =
    complex_read (codes "IC11") 11 (id_column ∷ columns.Words ∷ Small MAX_YEAR ∷ [])
    (Number ∷ Words ∷ Words ∷ Words ∷ Number ∷ []) (PersonAt 1 ∷ []) true
read_layout Ic13 =
    complex_read (codes "IC13") 13 (id_column ∷ id_column ∷ []) (Number ∷ []) [] false

-- the complex reads, in the order of their numbers
abbrev pub complex_reads : List ReadKind
complex_reads = Ic1 ∷ Ic2 ∷ Ic7 ∷ Ic8 ∷ Ic9 ∷ Ic11 ∷ Ic13 ∷ []

-- all reads: the short ones, then the complex ones
abbrev pub every_read : List ReadKind
every_read = Is1 ∷ Is2 ∷ Is3 ∷ Is4 ∷ Is5 ∷ Is6 ∷ Is7 ∷ complex_reads

-- the kind of a read
abbrev pub read_kind_of : Query → ReadKind
read_kind_of (queries.Is1 person) = Is1
read_kind_of (queries.Is2 person) = Is2
read_kind_of (queries.Is3 person) = Is3
read_kind_of (queries.Is4 message) = Is4
read_kind_of (queries.Is5 message) = Is5
read_kind_of (queries.Is6 message) = Is6
read_kind_of (queries.Is7 message) = Is7
read_kind_of (queries.Ic1 person first_name) = Ic1
read_kind_of (queries.Ic2 person max_date) = Ic2
read_kind_of (queries.Ic7 person) = Ic7
read_kind_of (queries.Ic8 person) = Ic8
read_kind_of (queries.Ic9 person max_date) = Ic9
read_kind_of (queries.Ic11 person country year) = Ic11
read_kind_of (queries.Ic13 from to) = Ic13

-- what is fixed of the kind of a read
abbrev pub layout_of : Query → ReadLayout
layout_of query = read_layout (read_kind_of query)

-- the word that names it
abbrev pub read_word : ReadKind → List ℕ
read_word kind = (read_layout kind).word

-- the number of a complex read, and 0 for a short one
abbrev pub number_of_kind : ReadKind → ℕ
number_of_kind kind = (read_layout kind).number

-- the columns of its parameters
abbrev pub parameter_columns : ReadKind → List Column
parameter_columns kind = (read_layout kind).parameters

-- the values of a read's parameters
abbrev pub parameter_values : Query → List Value
parameter_values (queries.Is1 person) = Digits person ∷ []
parameter_values (queries.Is2 person) = Digits person ∷ []
parameter_values (queries.Is3 person) = Digits person ∷ []
parameter_values (queries.Is4 message) = Digits message ∷ []
parameter_values (queries.Is5 message) = Digits message ∷ []
parameter_values (queries.Is6 message) = Digits message ∷ []
parameter_values (queries.Is7 message) = Digits message ∷ []
parameter_values (queries.Ic1 person first_name) = Digits person ∷ Letters first_name ∷ []
parameter_values (queries.Ic2 person max_date) = Digits person ∷ Digits max_date ∷ []
parameter_values (queries.Ic7 person) = Digits person ∷ []
parameter_values (queries.Ic8 person) = Digits person ∷ []
parameter_values (queries.Ic9 person max_date) = Digits person ∷ Digits max_date ∷ []
parameter_values (queries.Ic11 person country year) =
    Digits person ∷ Letters country ∷ SmallDigits year ∷ []
parameter_values (queries.Ic13 from to) = Digits from ∷ Digits to ∷ []

-- the read of a kind with these values, which are those of its parameters, if there is one
abbrev pub query_with : ReadKind → List Value → Option Query
query_with Is1 (Digits person ∷ []) = Some (queries.Is1 person)
query_with Is2 (Digits person ∷ []) = Some (queries.Is2 person)
query_with Is3 (Digits person ∷ []) = Some (queries.Is3 person)
query_with Is4 (Digits message ∷ []) = Some (queries.Is4 message)
query_with Is5 (Digits message ∷ []) = Some (queries.Is5 message)
query_with Is6 (Digits message ∷ []) = Some (queries.Is6 message)
query_with Is7 (Digits message ∷ []) = Some (queries.Is7 message)
query_with Ic1 (Digits person ∷ Letters first_name ∷ []) = Some (queries.Ic1 person first_name)
query_with Ic2 (Digits person ∷ Digits max_date ∷ []) = Some (queries.Ic2 person max_date)
query_with Ic7 (Digits person ∷ []) = Some (queries.Ic7 person)
query_with Ic8 (Digits person ∷ []) = Some (queries.Ic8 person)
query_with Ic9 (Digits person ∷ Digits max_date ∷ []) = Some (queries.Ic9 person max_date)
query_with Ic11 (Digits person ∷ Letters country ∷ SmallDigits year ∷ []) =
    Some (queries.Ic11 person country year)
query_with Ic13 (Digits from ∷ Digits to ∷ []) = Some (queries.Ic13 from to)
query_with kind values = None
