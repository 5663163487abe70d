use Rattle.std.proofs.Common.{◌<◌, arith, length, subst, sym}
use Rattle.snb_schema.specs.declared.column.Column.{Column}
use Rattle.snb_schema.specs.declared.column.Value.{Value}
use Rattle.snb_schema.specs.Columns.{StopsAfter}
use Rattle.snb_input_fields.specs.Reading.{IsNext, Reading, SpellsNext}
use Rattle.snb_input_fields.proofs.ReaderFacts.{next_below, sound_stop}
use Rattle.snb_input_fields.proofs.field_reader.FieldReader.refusal.Goals as goal

pub overflow_cast-result : goal.overflow_cast-result
overflow_cast-result c =
    let l = subst (λ (r : Reading). r.read < length r.columns) (sym c.self.view_is) (next_below c.args.self.now (c.requires.bad.0, c.requires.bad.1)) in let few = c.self.invariant.few in omega (arith, l, few)

pub overflow_add-result : goal.overflow_add-result
overflow_add-result c =
    let l = subst (λ (r : Reading). r.read < length r.columns) (sym c.self.view_is) (next_below c.args.self.now (c.requires.bad.0, c.requires.bad.1)) in let few = c.self.invariant.few in omega (arith, l, few)

pub returns-clause-stops : goal.returns-clause-stops
returns-clause-stops c =
    subst (λ (r : Reading). StopsAfter r.columns r.fields r.read) c.self.view_is
    (sound_stop _ c.self.invariant (subst (λ (r : Reading). (c : Column) × IsNext r c × ((v : Value) → ¬ SpellsNext r c v)) (sym c.self.view_is) c.requires.bad))
