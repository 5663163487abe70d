use Rattle.std.proofs.Common.{ℕ, List, subst}
use Rattle.snb_base.specs.Spellings as spellings
use Rattle.snb_schema.specs.declared.column.Column.TheVariants as columns
use Rattle.snb_schema.specs.declared.column.Value.TheVariants.{SmallDigits}
use Rattle.snb_input_fields.proofs.field_reader.FieldReader.small.Goals as goal

pub pass-requires : goal.pass-requires
pass-requires c = record { good = (columns.Small c.args.most, c.requires.next, SmallDigits c.in-Some.n, subst (λ (x : List ℕ). spellings.Num x c.in-Some.n c.args.most) c.next_field.ensures.text (subst (λ (k : ℕ). spellings.Num c.next_field.result.now c.in-Some.n k) c.from.ensures c.in-Some.ensures)) }
