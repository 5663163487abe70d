use Rattle.std.proofs.Common.{subst}
use Rattle.snb_input_files.specs.Names.{Allows}
use Rattle.snb_tool_words.specs.declared.command.Command.{Command}
use Rattle.snb_tool.specs.Connectors.{given_by}
use Rattle.snb_tool_outcome.specs.Names.{IsNameOf}
use Rattle.snb_tool.proofs.tool.obey.Goals as goal

pub check-requires : goal.check-requires
check-requires g c = record { allowed = rw c.as_str.ensures (subst (λ (z : Command). Allows (g.S.Shelf.may c.args.shelf.now) (IsNameOf z)) c.in-Check.is c.requires.allowed) }

pub audit-requires : goal.audit-requires
audit-requires g c = record { ready = tt; allowed = rw (c.as_str-in-Audit.ensures, c.as_str-in-Audit-2.ensures) (subst (λ (z : Command). Allows (g.S.Shelf.may c.args.shelf.now) (IsNameOf z)) c.in-Audit.is c.requires.allowed) }

pub latency-requires : goal.latency-requires
latency-requires g c = record { ready = tt; allowed = rw (c.as_str-in-Latency.ensures, c.as_str-in-Latency-2.ensures) (subst (λ (z : Command). Allows (g.S.Shelf.may c.args.shelf.now) (IsNameOf z)) c.in-Latency.is c.requires.allowed) }

pub expect-requires : goal.expect-requires
expect-requires g c = record { ready = tt; allowed = rw c.as_str-in-Expect.ensures (subst (λ (z : Command). Allows (g.S.Shelf.may c.args.shelf.now) (IsNameOf z)) c.in-Expect.is c.requires.allowed) }

pub read-requires : goal.read-requires
read-requires g c = record { ready = tt; allowed = rw c.as_str-in-Read.ensures (subst (λ (z : Command). Allows (g.S.Shelf.may c.args.shelf.now) (IsNameOf z)) c.in-Read.is c.requires.allowed) }

pub validate-requires : goal.validate-requires
validate-requires g c = record { ready = tt; allowed = rw (c.as_str-in-Graph.ensures, c.as_str-in-Graph-2.ensures) (subst (λ (z : Command). Allows (g.S.Shelf.may c.args.shelf.now) (IsNameOf z)) c.in-Validate.is c.requires.allowed) }

pub validate_via-requires : goal.validate_via-requires
validate_via-requires g c = record { allowed = rw (c.as_str-in-Some.ensures, c.as_str-in-Some-2.ensures) (subst (λ (z : Command). Allows (g.S.Shelf.may c.args.shelf.now) (IsNameOf z)) c.in-Validate.is c.requires.allowed) }

pub walk_via-requires : goal.walk_via-requires
walk_via-requires g c = record { allowed = rw c.as_str-in-Some-given.ensures (subst (λ (z : Command). Allows (g.S.Shelf.may c.args.shelf.now) (IsNameOf z)) c.in-Walk.is c.requires.allowed) }

pub returns-in-Check-clause-answer : goal.returns-in-Check-clause-answer
returns-in-Check-clause-answer g c = λ moments. rw (c.in-Check.is, ← c.as_str.ensures) (c.check.ensures.answer (given_by c.args.given) moments)

pub returns-in-Read-clause-answer : goal.returns-in-Read-clause-answer
returns-in-Read-clause-answer g c = λ moments. rw (c.in-Read.is, ← c.as_str-in-Read.ensures) (c.read.ensures.answer (given_by c.args.given) moments)

pub returns-in-Audit-clause-answer : goal.returns-in-Audit-clause-answer
returns-in-Audit-clause-answer g c = λ moments. rw (c.in-Audit.is, ← c.as_str-in-Audit.ensures, ← c.as_str-in-Audit-2.ensures) (c.audit.ensures.answer (given_by c.args.given) moments)

pub returns-in-Expect-clause-answer : goal.returns-in-Expect-clause-answer
returns-in-Expect-clause-answer g c = λ moments. rw (c.in-Expect.is, ← c.as_str-in-Expect.ensures) (c.expect.ensures.answer (given_by c.args.given) moments)

pub returns-in-Latency-clause-answer : goal.returns-in-Latency-clause-answer
returns-in-Latency-clause-answer g c = λ moments. rw (c.in-Latency.is, ← c.as_str-in-Latency.ensures, ← c.as_str-in-Latency-2.ensures) (c.latency.ensures.answer (given_by c.args.given) moments)

pub returns-in-Graph-clause-answer : goal.returns-in-Graph-clause-answer
returns-in-Graph-clause-answer g c = λ moments.
    rw (c.in-Validate.is, c.in-Graph.is, ← c.as_str-in-Graph.ensures, ← c.as_str-in-Graph-2.ensures) (c.validate.ensures.graph (given_by c.args.given) moments)

pub returns-in-Some-clause-answer : goal.returns-in-Some-clause-answer
returns-in-Some-clause-answer g c = λ moments.
    rw (c.in-Validate.is, c.in-Table.is, c.in-Some.is, ← c.as_str-in-Some.ensures, ← c.as_str-in-Some-2.ensures) (c.validate_via.ensures.answer c.in-Some.field-0-1.now.pick moments)

pub returns-in-Some-clause-unasked : goal.returns-in-Some-clause-unasked
returns-in-Some-clause-unasked g c = λ asks. rw c.in-Some.is c.validate_via.ensures.unread

pub returns-in-Some-given-clause-answer : goal.returns-in-Some-given-clause-answer
returns-in-Some-given-clause-answer g c = λ moments.
    rw (c.in-Walk.is, c.in-Some-given.is, ← c.as_str-in-Some-given.ensures, ← c.as_slice.ensures) (c.walk_via.ensures.answer moments)
