-- What `validate` shows.
use Rattle.std.specs.Prelude.{ℕ, List, ◌++◌, codes, Option, Some, None}
use Rattle.std.specs.Fmt.{decimal}
use Rattle.serde_json.specs.Written.{compact_text}
use Rattle.snb_validation.specs.ReplyData.{reply_data}
use Rattle.snb_validation_model.specs.declared.difference.Difference.{Difference}
use Rattle.snb_validation_model.specs.declared.tally.Tally.{Tally}

-- the line of the first difference, the reply that is due, and the one that the graph gives, each
-- on a line
abbrev pub difference_text : Difference → List ℕ
difference_text d =
    codes "differs line " ++ decimal d.line ++ codes "\nexpected "
    ++ compact_text (reply_data d.expected)
    ++ codes "\ngiven " ++ compact_text (reply_data d.given) ++ codes "\n"

-- how many reads there are where no reply differs, and else the first difference
abbrev pub outcome_text : ℕ → Option Difference → List ℕ
outcome_text reads None = codes "valid " ++ decimal reads ++ codes "\n"
outcome_text reads (Some d) = difference_text d

abbrev pub tally_text : Tally → List ℕ
tally_text tally = outcome_text tally.reads tally.first

-- 0 where no reply differs, else 1
abbrev pub outcome_status : Option Difference → ℕ
outcome_status None = 0
outcome_status (Some d) = 1

abbrev pub tally_status : Tally → ℕ
tally_status tally = outcome_status tally.first
