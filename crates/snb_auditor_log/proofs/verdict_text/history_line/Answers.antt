use Rattle.std.proofs.lemmas.List.{append_assoc}
use Rattle.snb_auditor_log.proofs.verdict_text.history_line.Goals as goal

pub returns-in_ok-line-in-Violated : goal.returns-in_ok-line-in-Violated
returns-in_ok-line-in-Violated c =
    rw c.in-Violated.is (simp append_assoc (rw (c.into_bytes.ensures.value, c.in_ok-line-in-Violated.ensures.ok, c.in_ok-needs-in-Violated.ensures, c.in_ok-found-in-Violated.ensures)))

pub returns-in_ok-format-in-TooLate : goal.returns-in_ok-format-in-TooLate
returns-in_ok-format-in-TooLate c = rw c.in-TooLate.is (simp append_assoc (rw c.into_bytes-in-TooLate.ensures.value c.in_ok-format-in-TooLate.ensures.ok))

pub returns-in_ok-format-in-Accepted : goal.returns-in_ok-format-in-Accepted
returns-in_ok-format-in-Accepted c = rw c.in-Accepted.is (simp append_assoc (rw c.into_bytes-in-Accepted.ensures.value c.in_ok-format-in-Accepted.ensures.ok))
