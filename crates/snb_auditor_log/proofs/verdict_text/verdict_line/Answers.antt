use Rattle.std.proofs.lemmas.List.{append_assoc}
use Rattle.snb_auditor_log.proofs.verdict_text.verdict_line.Goals as goal

pub returns-in_ok-format-in-Mismatched : goal.returns-in_ok-format-in-Mismatched
returns-in_ok-format-in-Mismatched c = rw c.in-Mismatched.is (simp append_assoc (rw c.into_bytes.ensures.value c.in_ok-format-in-Mismatched.ensures.ok))

pub returns-in_ok-line-in-Miscounted : goal.returns-in_ok-line-in-Miscounted
returns-in_ok-line-in-Miscounted c = rw c.in-Miscounted.is (simp append_assoc (rw c.into_bytes-in-Miscounted.ensures.value c.in_ok-line-in-Miscounted.ensures.ok))
