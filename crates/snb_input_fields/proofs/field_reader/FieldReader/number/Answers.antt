use Rattle.std.proofs.Common.{ℕ, List, subst}
use Rattle.snb_base.specs.Spellings as spellings
use Rattle.snb_schema.specs.declared.column.Column.TheVariants as columns
use Rattle.snb_schema.specs.declared.column.Value.TheVariants.{Digits}
use Rattle.snb_input_fields.proofs.field_reader.FieldReader.number.Goals as goal

pub pass-requires : goal.pass-requires
pass-requires c = record { good = (columns.Number c.args.most, c.requires.next, Digits c.in-Some.n, subst (λ (x : List ℕ). spellings.Num x c.in-Some.n c.args.most) c.next_field.ensures.text c.in-Some.ensures) }
