use Rattle.snb_tool_words.proofs.ReadLemmas.{only_date}
use Rattle.snb_tool_words.proofs.taken.WordFieldsFields.date.Goals as goal

pub unreachable-requires : goal.unreachable-requires
unreachable-requires c = only_date _ (rw c.as_bytes.ensures.value at c.in-None.ensures) c.requires.0 (rw c.next_word.ensures.word at c.requires.1)
