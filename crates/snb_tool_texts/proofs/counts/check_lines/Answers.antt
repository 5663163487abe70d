use Rattle.std.proofs.lemmas.List.{append_assoc}
use Rattle.snb_tool_texts.proofs.counts.check_lines.Goals as goal

pub returns : goal.returns
returns c = simp append_assoc (rw c.into_bytes.ensures.value c.in_ok-text.ensures.ok)
