use Rattle.std.proofs.Common.{ℕ, List, subst}
use Rattle.snb_base.specs.Spellings as spellings
use Rattle.snb_schema.specs.declared.column.Column.TheVariants as columns
use Rattle.snb_schema.specs.declared.column.Value.{Value}
use Rattle.snb_schema.specs.declared.column.Value.TheVariants.{Ids}
use Rattle.snb_schema.specs.Columns.{Spells}
use Rattle.snb_input_fields.proofs.ReaderFacts.{found_none, found_one}
use Rattle.snb_input_fields.proofs.ReadingFacts.{ids_of}
use Rattle.snb_input_fields.proofs.field_reader.FieldReader.ids.Goals as goal

pub pass-requires : goal.pass-requires
pass-requires c = record { good = (columns.IdList, c.requires.next, Ids c.in-Some.ids, subst (λ (x : List ℕ). spellings.IdList x c.in-Some.ids) c.next_field.ensures.text (found_one _ _ c.in_ok-ids.field-0 c.in-Some.ids c.in_ok-ids.ensures c.in-Some.is)) }

pub refusal-requires : goal.refusal-requires
refusal-requires c = record { bad = (columns.IdList, c.requires.next, subst (λ (x : List ℕ). (v : Value) → ¬ Spells columns.IdList x v) c.next_field.ensures.text (λ v s. (let f = ids_of c.next_field.result.now v s in found_none _ _ c.in_ok-ids.field-0 c.in_ok-ids.ensures c.in-None.is f.0 f.1))) }
