use Rattle.std.proofs.Common.{◌≤◌, ℕ, arith, subst}
use Rattle.snb_schema.specs.Columns.{StopsAfter}
use Rattle.snb_input_fields.specs.Reading.{Reading}
use Rattle.snb_input_fields.proofs.ReaderFacts.{sound_first}
use Rattle.snb_input_fields.proofs.field_reader.FieldReader.clash.Goals as goal

pub overflow_cast-result : goal.overflow_cast-result
overflow_cast-result c = let few = c.self.invariant.few in let within = c.self.invariant.within in omega (arith, few, within)

pub returns-clause-first : goal.returns-clause-first
returns-clause-first c = subst (λ (r : Reading). (n : ℕ) → StopsAfter r.columns r.fields n → r.read ≤ n) c.self.view_is (sound_first _ c.self.invariant)
