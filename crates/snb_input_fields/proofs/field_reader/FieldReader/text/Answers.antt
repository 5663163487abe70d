use Rattle.std.proofs.Common.{◌∙◌, sym}
use Rattle.snb_schema.specs.declared.column.Column.TheVariants as columns
use Rattle.snb_schema.specs.declared.column.Value.TheVariants.{Letters}
use Rattle.snb_input_fields.proofs.field_reader.FieldReader.text.Goals as goal

pub pass-requires : goal.pass-requires
pass-requires c = record { good = (columns.Words, c.requires.next, Letters c.in_ok-text.text, sym c.next_field.ensures.text ∙ sym c.in_ok-text.ensures) }
