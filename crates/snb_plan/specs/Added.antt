-- What is kept of the updates so far. Cited by contracts of private functions alone.
use Rattle.std.specs.Prelude.{◌≡◌, ℕ, ◌≤◌, ◌⊎◌, Option, Some, List, All, Contains, true}
use Rattle.std.specs.BTreeMap.{get}
use Rattle.std.specs.Ordering.{nat_cmp, ordering_then}
use Rattle.std.specs.declared.cmp.Ordering.{Ordering}
use Rattle.snb_schema.specs.declared.file.FileId.{FileId}
use Rattle.snb_schema.specs.declared.key.Key.{Key}
use Rattle.snb_schema.specs.declared.key.Key.TheVariants.{Node, Knows, LikesPost, LikesComment, Member}
use Rattle.snb_schema.specs.declared.op.Line.{Line}
use Rattle.snb_schema.specs.declared.refusal.Missing.{Missing}
use Rattle.snb_schema.specs.declared.table.Table.TheVariants as table
use Rattle.snb_schema.specs.Awaiting.{is_awaited}
use Rattle.snb_schema.specs.Inserts.{keys_of}
use Rattle.snb_schema.specs.References.{added_node, refs_of}
use Rattle.snb_schema.specs.RowKeys.{kind_table}
use Rattle.snb_schema.specs.TableOrder.{table_order}
use Rattle.snb_plan.specs.declared.added.Added.{Added}
use Rattle.snb_plan.specs.declared.added.Mark.{Mark}
use Rattle.snb_plan.specs.declared.added.Slot.{Slot}
use Rattle.snb_plan.specs.Closed.{Update, is_in_lane, DependsTooLate}

-- how a key stands in the map
abbrev pub slot_of : Key → Slot
slot_of (Node kind id) = record { table = kind_table kind; first = id; second = 0 }
slot_of (Knows low high) = record { table = table.PersonKnowsPerson; first = low; second = high }
slot_of (LikesPost person post) =
    record { table = table.PersonLikesPost; first = person; second = post }
slot_of (LikesComment person comment) =
    record { table = table.PersonLikesComment; first = person; second = comment }
slot_of (Member forum person) =
    record { table = table.ForumHasMemberPerson; first = forum; second = person }

-- by table, then by the ids
abbrev pub slot_cmp : Slot → Slot → Ordering
slot_cmp a b =
    ordering_then (table_order a.table b.table)
    (ordering_then (nat_cmp a.first b.first) (nat_cmp a.second b.second))

-- the mark that is kept at a key
abbrev pub mark_at : Added → Key → Option Mark
mark_at a key = get slot_cmp a.marks (slot_of key)

-- the mark of an update
abbrev pub mark_of : ℕ → Line → Mark
mark_of lane line = record { lane = lane; t = line.t; node = added_node line.op }

-- the mark is kept at the key, and those of other keys are as they were
pub record HasPut (old : Added) (key : Key) (mark : Mark) (new : Added) : Type 0 where
  pub here : mark_at new key ≡ Some mark
  pub others : (other : Key) → ¬ (key ≡ other) → mark_at new other ≡ mark_at old other

-- the mark is kept at these keys, and those of other keys are as they were
pub record HasMore (old : Added) (keys : List Key) (mark : Mark) (new : Added) : Type 0 where
  pub here : (key : Key) → Contains keys key → mark_at new key ≡ Some mark
  pub others : (key : Key) → ¬ Contains keys key → mark_at new key ≡ mark_at old key

-- the mark of the line is kept at the keys that it takes, and those of other keys are as they were
abbrev pub HasAdded : Added → ℕ → Line → Added → Type 0
HasAdded old lane line new = HasMore old (keys_of line.op) (mark_of lane line) new

-- the key is held, or a mark is kept at it
abbrev pub IsKeyTaken : (Key → Type 0) → Added → Key → Type 0
IsKeyTaken holds added key = holds key ⊎ ((m : Mark) × (mark_at added key ≡ Some m))

-- a key that the update takes is so
abbrev pub IsTakenBy : (Key → Type 0) → Added → Update → Type 0
IsTakenBy holds added u =
    (key : Key) × Contains (keys_of u.line.op) key × IsKeyTaken holds added key

-- the update with this mark meets a reference with this t_d in this lane
abbrev pub MeetsBy : Mark → ℕ → ℕ → Missing → Type 0
MeetsBy m lane t_d node =
    (m.node ≡ Some node)
    × (((is_awaited node.kind ≡ true) × (m.t ≤ t_d))
    ⊎ ((is_in_lane node.kind ≡ true) × (m.lane ≡ lane)))

-- the node is held, or the mark at its key meets the reference
abbrev pub IsMetAt : (Key → Type 0) → Added → ℕ → ℕ → Missing → Type 0
IsMetAt holds added lane t_d node =
    holds (Node node.kind node.id) ⊎
    ((m : Mark) × (mark_at added (Node node.kind node.id) ≡ Some m) × MeetsBy m lane t_d node)

-- the node that the update refers to is so
abbrev pub IsMetBy : (Key → Type 0) → Added → Update → Missing → Type 0
IsMetBy holds added u node = IsMetAt holds added u.lane u.line.t_d node

-- the line of a file as an update of a lane
abbrev pub update_of : ℕ → FileId → Line → Update
update_of lane file line = record { lane = lane; file = file; line = line }

-- nothing is wrong with the update
pub record IsFine (holds : Key → Type 0) (added : Added) (u : Update) : Type 0 where
  pub timely : ¬ DependsTooLate u
  pub new : ¬ IsTakenBy holds added u
  pub met : All (IsMetBy holds added u) (refs_of u.line.op)
