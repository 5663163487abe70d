use Rattle.std.proofs.Common.{◌∙◌, ℕ, List, subst, sym}
use Rattle.snb_base.specs.Spellings.{SpellsId}
use Rattle.snb_schema.specs.declared.column.Column.TheVariants as columns
use Rattle.snb_schema.specs.declared.column.Value.TheVariants.{Digits, NoId}
use Rattle.snb_input_fields.proofs.field_reader.FieldReader.optional_id.Goals as goal

pub pass-requires : goal.pass-requires
pass-requires c = record { good = (columns.OptionalId, c.requires.next, NoId, sym c.next_field.ensures.text ∙ c.is_no_id.ensures.0 c.if-is_no_id.true) }

pub pass-requires-in-Some : goal.pass-requires-in-Some
pass-requires-in-Some c = record { good = (columns.OptionalId, c.requires.next, Digits c.in-Some.id, subst (λ (x : List ℕ). SpellsId x c.in-Some.id) c.next_field-2.ensures.text c.in-Some.ensures) }
