use Rattle.std.proofs.Common.{[], ap}
use Rattle.snb_schema.specs.declared.column.Column.TheVariants.{Number}
use Rattle.snb_tool_words.specs.Words.{texts_of}
use Rattle.snb_tool_words.proofs.ReadLemmas.{first_spells, more_spells}
use Rattle.snb_tool_words.proofs.WordLemmas.{headed}
use Rattle.snb_tool_words.proofs.reads.+are_spelled.Goals as goal

pub returns-then-is_spelled : goal.returns-then-is_spelled
returns-then-is_spelled t c =
    more_spells _ _ _ _ _ _ c.are_spelled.result (headed c.args.columns.now (Number 0) c.in-len1-up.len_at_least)
    (ap texts_of (headed c.args.words.now (record { ref_ptr = (0, 0); now = [] }) c.in-len1-up-words.len_at_least)) (c.is_spelled.ensures.0 c.if-is_spelled.true) c.are_spelled.ensures

pub returns-else-is_spelled : goal.returns-else-is_spelled
returns-else-is_spelled t c =
    first_spells _ _ _ _ _ _ c.is_spelled.result (headed c.args.columns.now (Number 0) c.in-len1-up.len_at_least)
    (ap texts_of (headed c.args.words.now (record { ref_ptr = (0, 0); now = [] }) c.in-len1-up-words.len_at_least)) c.if-is_spelled.false c.is_spelled.ensures
