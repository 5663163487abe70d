-- Tables that share their keys.
use Rattle.std.specs.Prelude.{◌≡◌, Option, Some, None, List}
use Rattle.snb_schema.specs.declared.row.Row.{Row}
use Rattle.snb_schema.specs.declared.table.Table.{Table}
use Rattle.snb_schema.specs.declared.table.Table.TheVariants as table
use Rattle.snb_schema.specs.RowKeys.{RowKey}
use Rattle.snb_graph_model.specs.Graphs.{HasKey}

-- the other of two tables that share their keys
abbrev pub twin : Table → Option Table
twin table.Post = Some table.Comment
twin table.Comment = Some table.Post
twin table.CommentReplyOfPost = Some table.CommentReplyOfComment
twin table.CommentReplyOfComment = Some table.CommentReplyOfPost
twin _ = None

-- a row of the table that shares the key's table's keys has the key
pub record HasTwin (g : List Row) (k : RowKey) : Type 0 where
  pub other : Table
  pub shares : twin k.0 ≡ Some other
  pub has : HasKey g (other, k.1, k.2, k.3)
