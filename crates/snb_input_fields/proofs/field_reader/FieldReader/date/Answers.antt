use Rattle.std.proofs.Common.{ℕ, List, subst, sym}
use Rattle.snb_base.specs.Spellings as spellings
use Rattle.snb_schema.specs.declared.column.Column.TheVariants as columns
use Rattle.snb_schema.specs.declared.column.Value.TheVariants.{Digits}
use Rattle.snb_input_fields.proofs.ReadingFacts.{date_of}
use Rattle.snb_input_fields.proofs.field_reader.FieldReader.date.Goals as goal

pub pass-requires : goal.pass-requires
pass-requires c = record { good = (columns.Date, c.requires.next, Digits c.in-Some.n, subst (λ (x : List ℕ). spellings.Date x c.in-Some.n) c.next_field.ensures.text c.in-Some.ensures) }

pub refusal-requires : goal.refusal-requires
refusal-requires c =
    record { bad = (columns.Date, c.requires.next, λ v s. let (n, k) = date_of _ v s in c.in-None.ensures n (subst (λ (x : List ℕ). spellings.Date x n) (sym c.next_field.ensures.text) k)) }
