-- Comments with higher ids than the comments to which they reply.
use Rattle.std.specs.Prelude.{◌<◌, ℕ, List, Contains}
use Rattle.snb_schema.specs.declared.row.Row.{Row}
use Rattle.snb_schema.specs.declared.row.Row.TheVariants as row
use Rattle.snb_schema.specs.declared.table.Table.TheVariants as table

-- each comment that replies to a comment has a higher id than that one
abbrev pub IsRising : List Row → Type 0
IsRising g =
    (comment parent : ℕ) → Contains g (row.Link table.CommentReplyOfComment comment parent)
    → parent < comment
