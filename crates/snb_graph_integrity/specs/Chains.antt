-- The parents of comments as lists and pairs.
use Rattle.std.specs.Prelude.{◌↔◌, ℕ, List, Contains, Result, MatchResult}
use Rattle.snb_schema.specs.declared.row.Row.{Row}
use Rattle.snb_schema.specs.declared.row.Row.TheVariants as row
use Rattle.snb_schema.specs.declared.table.Kind.TheVariants as kinds
use Rattle.snb_schema.specs.declared.table.Table.TheVariants as table
use Rattle.snb_schema.specs.RowKeys.{node_key}
use Rattle.snb_graph_rows.specs.Pairs.{HasPair}
use Rattle.snb_graph_integrity.specs.declared.unsound.Unsound.{Unsound}
use Rattle.snb_graph_integrity.specs.declared.unsound.Unsound.TheVariants.{Lacks, Cycle, Memory}
use Rattle.snb_graph_integrity.specs.Marks.{IsMarked}
use Rattle.snb_graph_model.specs.Graphs.{HasKey}
use Rattle.snb_graph_model.specs.Soundness.{IsRooted, IsCycle as IsFirstCycle}

-- the ids are the comments that reply to posts
abbrev pub AreRoots : List Row → List ℕ → Type 0
AreRoots g ids =
    (c : ℕ) → Contains ids c ↔ ((post : ℕ) × Contains g (row.Link table.CommentReplyOfPost c post))

-- the pairs are those of a comment and a comment that replies to it
abbrev pub AreReplies : List Row → List ((ℕ × ℕ) × ℕ) → Type 0
AreReplies g es =
    (p c : ℕ) → ((d : ℕ) × HasPair es p c d) ↔ Contains g (row.Link table.CommentReplyOfComment c p)

-- the marks are the comments whose chains of parents end at posts
abbrev pub MarksRooted : List Row → List ((ℕ × ℕ) × ℕ) → Type 0
MarksRooted g marks = (c : ℕ) → IsMarked marks c ↔ IsRooted g c

-- the chain of each comment's parents ends at a post
abbrev pub AreRooted : List Row → Type 0
AreRooted g = (c : ℕ) → HasKey g (node_key kinds.Comment c) → IsRooted g c

-- the comment is the least whose chain doesn't end at a post
abbrev pub TellsCycle : List Row → Unsound → Type 0
TellsCycle g (Lacks node id edge) = ⊥
TellsCycle g (Cycle comment) = IsFirstCycle g comment
TellsCycle g Memory = Unit {0}

-- each chain ends at a post, or the least comment whose chain doesn't is told, or memory doesn't
-- suffice
abbrev pub FindsCycle : List Row → Result (Unit {0}) Unsound → Type 0
FindsCycle g result = MatchResult result (λ u. AreRooted g) (TellsCycle g)
