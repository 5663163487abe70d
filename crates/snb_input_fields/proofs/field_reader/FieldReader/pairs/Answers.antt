use Rattle.std.proofs.Common.{ℕ, List, subst}
use Rattle.snb_base.specs.Spellings as spellings
use Rattle.snb_schema.specs.declared.column.Column.TheVariants as columns
use Rattle.snb_schema.specs.declared.column.Value.{Value}
use Rattle.snb_schema.specs.declared.column.Value.TheVariants.{Pairs}
use Rattle.snb_schema.specs.Columns.{Spells}
use Rattle.snb_input_fields.proofs.ReaderFacts.{found_none, found_one}
use Rattle.snb_input_fields.proofs.ReadingFacts.{pairs_of}
use Rattle.snb_input_fields.proofs.field_reader.FieldReader.pairs.Goals as goal

pub pass-requires : goal.pass-requires
pass-requires c = record { good = (columns.PairList, c.requires.next, Pairs c.in-Some.pairs, subst (λ (x : List ℕ). spellings.PairList x c.in-Some.pairs) c.next_field.ensures.text (found_one _ _ c.in_ok-pairs.field-0 c.in-Some.pairs c.in_ok-pairs.ensures c.in-Some.is)) }

pub refusal-requires : goal.refusal-requires
refusal-requires c = record { bad = (columns.PairList, c.requires.next, subst (λ (x : List ℕ). (v : Value) → ¬ Spells columns.PairList x v) c.next_field.ensures.text (λ v s. (let f = pairs_of c.next_field.result.now v s in found_none _ _ c.in_ok-pairs.field-0 c.in_ok-pairs.ensures c.in-None.is f.0 f.1))) }
