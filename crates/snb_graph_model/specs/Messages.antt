-- Messages: their authors, their parents and the posts at their roots.
use Rattle.std.specs.Prelude.{◌≡◌, ◌⊎◌, ℕ, zero, suc, List, Contains}
use Rattle.snb_schema.specs.declared.row.Row.{Row}
use Rattle.snb_schema.specs.declared.row.Row.TheVariants as row
use Rattle.snb_schema.specs.declared.table.Kind.TheVariants as kinds
use Rattle.snb_schema.specs.declared.table.Table.TheVariants as table
use Rattle.snb_schema.specs.RowKeys.{node_key}
use Rattle.snb_graph_model.specs.Graphs.{HasKey}

-- a message, a post or a comment, of this id is held
abbrev pub HasMessage : List Row → ℕ → Type 0
HasMessage g id = HasKey g (node_key kinds.Post id) ⊎ HasKey g (node_key kinds.Comment id)

-- the person wrote the message
abbrev pub Wrote : List Row → ℕ → ℕ → Type 0
Wrote g person message =
    Contains g (row.Link table.PostHasCreatorPerson message person)
    ⊎ Contains g (row.Link table.CommentHasCreatorPerson message person)

-- the comment replies to the message
abbrev pub RepliesTo : List Row → ℕ → ℕ → Type 0
RepliesTo g comment message =
    Contains g (row.Link table.CommentReplyOfPost comment message)
    ⊎ Contains g (row.Link table.CommentReplyOfComment comment message)

-- after so many comments the chain of a comment's parents ends at this post
abbrev pub EndsAt : List Row → ℕ → ℕ → ℕ → Type 0
EndsAt g zero comment post = Contains g (row.Link table.CommentReplyOfPost comment post)
EndsAt g (suc n) comment post =
    (parent : ℕ) × Contains g (row.Link table.CommentReplyOfComment comment parent)
    × EndsAt g n parent post

-- the post at a message's root: a post is its own root, and the root of a comment is where the
-- chain of its parents ends
abbrev pub IsRoot : List Row → ℕ → ℕ → Type 0
IsRoot g message post =
    (HasKey g (node_key kinds.Post message) × (message ≡ post))
    ⊎ ((n : ℕ) × EndsAt g n message post)
