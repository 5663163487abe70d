-- The text of a walk.
use Rattle.std.specs.Prelude.{List, ℕ, [], ◌∷◌, ◌++◌, codes}
use Rattle.std.specs.Fmt.{decimal}
use Rattle.std.specs.List.{flat_map}
use Rattle.serde_json.specs.Written.{compact_text}
use Rattle.snb_read_model.specs.Cells.{ByteCell}
use Rattle.snb_validation.specs.ReplyData.{reply_data}
use Rattle.snb_walk.specs.declared.target.Stop.{Stop}
use Rattle.snb_walk.specs.declared.target.Stop.TheVariants as stops
use Rattle.snb_walk.specs.declared.target.Target.{Target}
use Rattle.snb_walk.specs.declared.target.Target.TheVariants.{Person, Message}
use Rattle.snb_walk.specs.Targets.{AnswerRows, WalkStep}

-- the line of a reply: its JSON text, and a line feed
abbrev pub reply_line : List (List (List ByteCell)) → List ℕ
reply_line reply = compact_text (reply_data reply) ++ 10 ∷ []

-- whom or which message a step asks about
abbrev pub target_text : Target → List ℕ
target_text (Person id) = codes "person " ++ decimal id
target_text (Message id) = codes "message " ++ decimal id

-- the line of a step: its target, and its reply
abbrev pub step_line : WalkStep → List ℕ
step_line step = target_text step.0 ++ codes " " ++ reply_line step.1

-- the line of why a walk stopped
abbrev pub stop_line : Stop → List ℕ
stop_line stops.Chance = codes "stop chance\n"
stop_line stops.Words = codes "stop words\n"
stop_line stops.Nowhere = codes "stop nowhere\n"

-- the answer that a walk began with, as the only one of a reply; the steps in order; and why it
-- stopped
abbrev pub walk_text : AnswerRows → List WalkStep → Stop → List ℕ
walk_text answer steps stop =
    codes "start " ++ reply_line (answer ∷ []) ++ flat_map step_line steps ++ stop_line stop
