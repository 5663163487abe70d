use Rattle.std.proofs.Common.{◌≡◌, ◌<◌, arith, length, subst, sym}
use Rattle.std.specs.Str.{IsUtf8}
use Rattle.snb_input_fields.specs.Reading.{Reading, text_at}
use Rattle.snb_input_fields.proofs.ReadingFacts.{holds_at}
use Rattle.snb_input_fields.proofs.ReaderFacts.{found_text, next_below}
use Rattle.snb_input_fields.proofs.field_reader.FieldReader.next_field.Goals as goal
use Rattle.snb_input_lines.proofs.Laws.{found_there, none_there, some_field}

pub unreachable-requires : goal.unreachable-requires
unreachable-requires c =
    some_field c.self.inside.fields.now c.self.inside.read
    (let l = subst (λ (r : Reading). r.read < length r.columns) (sym c.self.view_is) (next_below c.args.self.now c.requires.next) in let enough = c.self.invariant.enough in omega (arith, l, enough))
    (none_there c.get.result _ c.get.ensures.value c.in-None.is)

pub returns-clause-text : goal.returns-clause-text
returns-clause-text c =
    subst (λ (r : Reading). c.in-Some.field.now ≡ text_at r.fields r.read) c.self.view_is (found_text c.self.inside.fields.now c.self.inside.read c.in-Some.field.now (found_there c.get.result c.in-Some.field _ c.get.ensures.value c.in-Some.is))

pub returns-clause-utf8 : goal.returns-clause-utf8
returns-clause-utf8 c = holds_at IsUtf8 c.self.inside.fields.now c.self.inside.read c.in-Some.field.now c.self.invariant.texts (found_there c.get.result c.in-Some.field _ c.get.ensures.value c.in-Some.is)
