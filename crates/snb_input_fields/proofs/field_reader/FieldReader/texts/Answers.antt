use Rattle.std.proofs.Common.{ℕ, List, subst}
use Rattle.snb_base.specs.Spellings as spellings
use Rattle.snb_schema.specs.declared.column.Column.TheVariants as columns
use Rattle.snb_schema.specs.declared.column.Value.{Value}
use Rattle.snb_schema.specs.declared.column.Value.TheVariants.{Texts}
use Rattle.snb_schema.specs.Columns.{Spells}
use Rattle.snb_input_fields.proofs.ReaderFacts.{found_none, found_one}
use Rattle.snb_input_fields.proofs.ReadingFacts.{texts_of}
use Rattle.snb_input_fields.proofs.field_reader.FieldReader.texts.Goals as goal

pub pass-requires : goal.pass-requires
pass-requires c = record { good = (columns.TextList, c.requires.next, Texts c.in-Some.texts, subst (λ (x : List ℕ). spellings.WordList x c.in-Some.texts) c.next_field.ensures.text (found_one _ _ c.in_ok-texts.field-0 c.in-Some.texts c.in_ok-texts.ensures c.in-Some.is)) }

pub refusal-requires : goal.refusal-requires
refusal-requires c = record { bad = (columns.TextList, c.requires.next, subst (λ (x : List ℕ). (v : Value) → ¬ Spells columns.TextList x v) c.next_field.ensures.text (λ v s. (let f = texts_of c.next_field.result.now v s in found_none _ _ c.in_ok-texts.field-0 c.in_ok-texts.ensures c.in-None.is f.0 f.1))) }
