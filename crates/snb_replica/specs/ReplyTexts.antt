-- What is kept of a reply.
use Rattle.std.specs.Prelude.{◌≡◌, ℕ, List}
use Rattle.serde_json.specs.Written.{compact_text}
use Rattle.snb_schema.specs.declared.query.Query.{Query}
use Rattle.snb_schema.specs.declared.row.Row.{Row}
use Rattle.snb_read_model.specs.Cells.{ByteCell}
use Rattle.snb_read_model.specs.Replies.{IsReply}
use Rattle.snb_validation.specs.ReplyData.{reply_data}
use Rattle.snb_replica.specs.Counts.{first_rows}

-- so many rows has the first answer of a reply to the query on the graph, and the bytes are the
-- JSON text of that reply
abbrev pub IsReplied : List Row → Query → ℕ → List ℕ → Type 0
IsReplied graph query rows text =
    (reply : List (List (List ByteCell))) × IsReply graph query reply × (rows ≡ first_rows reply)
    × (text ≡ compact_text (reply_data reply))
