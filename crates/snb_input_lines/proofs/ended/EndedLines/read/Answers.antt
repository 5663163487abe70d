use Rattle.std.proofs.Common.{subst, sym}
use Rattle.snb_input_lines.specs.Ended.{AnyStands, AreUtf8}
use Rattle.snb_input_lines.proofs.BarFacts.{rest-left, rest-of-end}
use Rattle.snb_input_lines.proofs.CutFacts.{first_text}
use Rattle.snb_input_lines.proofs.ended.EndedLines.read.Goals as goal

pub next_line-requires : goal.next_line-requires
next_line-requires c = record { one_line = c.self.invariant.one_line; ends = c.self.invariant.ends }

pub take_any_fields-requires : goal.take_any_fields-requires
take_any_fields-requires c =
    let cut = c.in-Some.ensures in
    record { one_line = cut.one_line; stands = (cut.rest, subst (AnyStands c.self.inside.reader) cut.joined c.self.invariant.stands) }

pub invariant_of-self-2 : goal.invariant_of-self-2
invariant_of-self-2 c =
    let cut = c.in-Some.ensures in
    let left = sym (rest-of-end c.in-Some.others.now cut.rest cut.ends) in
    rest-left c.take_any_fields.new.reader _ c.self.inside.is_utf8
    (subst (AnyStands c.take_any_fields.new.reader) left (c.in_ok-take_any_fields.ensures.ok cut.rest (subst (AnyStands c.self.inside.reader) cut.joined c.self.invariant.stands)))
    (subst (AreUtf8 c.self.inside.is_utf8) left (λ known. (first_text _ c.in-Some.line.now c.in-Some.others.now cut (c.self.invariant.utf8 known)).1))

pub returns-clause-utf8 : goal.returns-clause-utf8
returns-clause-utf8 c known = (first_text _ c.in-Some.line.now c.in-Some.others.now c.in-Some.ensures (c.self.invariant.utf8 known)).0
