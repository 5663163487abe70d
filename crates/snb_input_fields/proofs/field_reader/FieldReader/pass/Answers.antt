use Rattle.std.proofs.Common.{◌<◌, arith, length, subst, sym}
use Rattle.snb_schema.specs.declared.column.Column.{Column}
use Rattle.snb_schema.specs.declared.column.Value.{Value}
use Rattle.snb_input_fields.specs.Reading.{IsNext, Reading, SpellsNext}
use Rattle.snb_input_fields.proofs.ReaderFacts.{next_below, sound_past}
use Rattle.snb_input_fields.proofs.field_reader.FieldReader.pass.Goals as goal

pub overflow_add-self : goal.overflow_add-self
overflow_add-self c =
    let l = subst (λ (r : Reading). r.read < length r.columns) (sym c.self.view_is) (next_below c.args.self.now (c.requires.good.0, c.requires.good.1)) in let few = c.self.invariant.few in omega (arith, l, few)

pub invariant_of-self : goal.invariant_of-self
invariant_of-self c = sound_past _ c.self.invariant (subst (λ (r : Reading). (c : Column) × IsNext r c × (v : Value) × SpellsNext r c v) (sym c.self.view_is) c.requires.good)
