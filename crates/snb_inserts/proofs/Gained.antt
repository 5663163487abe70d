-- What a graph that has gained rows holds: what it held before, and the rows.
use Rattle.std.proofs.Common.{◌⊎◌, ◌++◌, ℕ, zero, suc, List}
use Rattle.std.proofs.lemmas.List.Elements.{All-contains_itself, All-weaker, Contains-append_cases, Contains-append_left, Contains-append_right, recursion_from_All}
use Rattle.std.proofs.lemmas.List.Sorted.{Contains-permutation, IsPermutation-sym}
use Rattle.std.specs.List.{AllByRecursion, Contains}
use Rattle.snb_schema.specs.declared.row.Row.{Row}
use Rattle.snb_schema.specs.RowKeys.{RowKey}
use Rattle.snb_graph_model.specs.Graphs.{HasGained, HasKey, HasSlot}
use Rattle.snb_graph_model.specs.Soundness.{EndsAfter, IsRooted}

-- one graph holds each row of another
abbrev pub HoldsAll : List Row → List Row → Type 0
HoldsAll g now = (r : Row) → Contains g r → Contains now r

-- a graph that has gained rows holds those from before
pub old_held : (g more now : List Row) → HasGained g more now → HoldsAll g now
old_held g more now gained r c = Contains-permutation (g ++ more) now r (IsPermutation-sym now (g ++ more) gained.rows) (Contains-append_left g more r c)

-- and those that it has gained
pub more_held : (g more now : List Row) → HasGained g more now → AllByRecursion (Contains now) more
more_held g more now gained =
    recursion_from_All (Contains now) more
    (All-weaker (Contains more) (Contains now) (λ r c. Contains-permutation (g ++ more) now r (IsPermutation-sym now (g ++ more) gained.rows) (Contains-append_right g more r c)) more (All-contains_itself more))

-- and no others
pub held_cases : (g more now : List Row) → HasGained g more now → (r : Row) → Contains now r → Contains g r ⊎ Contains more r
held_cases g more now gained r c = Contains-append_cases g more r (Contains-permutation now (g ++ more) r gained.rows c)

-- a key stays held
pub key_kept : (g now : List Row) → HoldsAll g now → (k : RowKey) → HasKey g k → HasKey now k
key_kept g now all k has = record { it = has.it; held = all has.it has.held; keyed = has.keyed }

-- a slot stays filled
pub slot_kept : (g now : List Row) → HoldsAll g now → (s : RowKey) → HasSlot g s → HasSlot now s
slot_kept g now all s has = record { it = has.it; held = all has.it has.held; fills = has.fills }

ends_kept : (g now : List Row) → HoldsAll g now → (n comment : ℕ) → EndsAfter g n comment → EndsAfter now n comment
ends_kept g now all zero comment ends = (ends.0, all _ ends.1)
ends_kept g now all (suc n) comment ends = (ends.0, all _ ends.1, ends_kept g now all n ends.0 ends.2)

-- a chain of parents that ends at a post still does
pub root_kept : (g now : List Row) → HoldsAll g now → (comment : ℕ) → IsRooted g comment → IsRooted now comment
root_kept g now all comment rooted = (rooted.0, ends_kept g now all rooted.0 comment rooted.1)
