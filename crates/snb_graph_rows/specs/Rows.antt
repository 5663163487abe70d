-- The rows of a map's entries.
use Rattle.std.specs.Prelude.{◌≡◌, ℕ, ◌++◌, ◌∷◌, [], List, map, All, Contains, IsPermutation, Bool, true, false, not, ◌&&◌, filter, Option, Result, MatchOption, MatchResult}
use Rattle.std.specs.declared.cmp.Ordering.{Ordering}
use Rattle.std.specs.List.Sorted.{IsStrictlySortedBy}
use Rattle.std.specs.Map.{keys_of}
use Rattle.snb_schema.specs.declared.row.Row.{Row}
use Rattle.snb_schema.specs.RowKeys.{RowKey, row_key}
use Rattle.snb_graph_model.specs.Graphs.{part_of, key_order}
use Rattle.std.specs.Ordering.{is_le, is_lt}
use Rattle.snb_graph_maps.specs.Merged.{all_of}
use Rattle.snb_schema.specs.Layouts.{shape}

-- the row of an entry; name makes the key of a map the key of a row
abbrev pub entry_row : {K V : Type 0} → (K → RowKey) → (RowKey → V → Row) → K → V → Row
entry_row name row k v = row (name k) v

-- the rows of entries, in the same order
abbrev pub rows_by : {K V : Type 0} → (K → V → Row) → List (K × V) → List Row
rows_by f es = map (λ e. f e.0 e.1) es

-- an entry's row has the entry's key, and is of this part
abbrev pub Fits : {K V : Type 0} → ℕ → (K → RowKey) → (RowKey → V → Row) → K → V → Type 0
Fits n name row k v = (row_key (row (name k) v) ≡ name k) × (part_of (shape (name k).0) ≡ n)

-- the entries rise by key, and each fits
pub record AreKept {K V : Type 0} (cmp : K → K → Ordering) (fits : K → V → Type 0)
    (es : List (K × V)) : Type 0 where
  pub fit : All (λ e. fits e.0 e.1) es
  pub rises : IsStrictlySortedBy cmp (keys_of es)

-- the rows, and those of them that copies share
pub record Stock : Type 0 where
  pub rows : List Row
  pub frozen : List Row

-- the rows of two lists of entries, of which the first is shared
abbrev pub stock : {K V : Type 0} → (K → K → Ordering) → (K → V → Row) → List (K × V) × List (K × V)
    → Stock
stock cmp f s = record { rows = rows_by f (all_of cmp s); frozen = rows_by f s.0 }

-- the rows but for the one with this key
abbrev pub HasLost : List Row → RowKey → List Row → Type 0
HasLost old k new = (r : Row) → Contains old r → row_key r ≡ k → IsPermutation old (new ++ r ∷ [])

-- a key lies from the first of two on and before the second, by how these compare to it
abbrev pub is_before_end : Ordering → Ordering → Bool
is_before_end low high = is_le low && not (is_le high)

-- or up to the second
abbrev pub is_up_to_end : Ordering → Ordering → Bool
is_up_to_end low high = is_le low && not (is_lt high)

-- the rows with keys between two
abbrev pub rows_within : (Ordering → Ordering → Bool) → RowKey → RowKey → List Row → List Row
rows_within test lo hi rows =
    filter (λ r. test (key_order lo (row_key r)) (key_order hi (row_key r))) rows

-- what a walk has still to give: nothing, once it has ended
abbrev pub rows_left : Bool → List Row → List Row
rows_left true rows = []
rows_left false rows = rows

-- a walk gave the first of the rows that it had, and has the others; or it had none; or memory
-- didn't suffice, and it has none
abbrev pub GivesRow : {E : Type 0} → List Row → Option (Result Row E) → List Row → Type 0
GivesRow old given new =
    MatchOption given ((old ≡ []) × (new ≡ []))
    (λ one. MatchResult one (λ r. old ≡ r ∷ new) (λ e. new ≡ []))
