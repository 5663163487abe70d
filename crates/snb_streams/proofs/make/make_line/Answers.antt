use Rattle.std.proofs.Common.{ℕ, List, ap, refl, subst, sym}
use Rattle.snb_schema.specs.declared.column.Column.TheVariants as columns
use Rattle.snb_schema.specs.declared.column.Value.TheVariants.{Digits}
use Rattle.snb_schema.specs.declared.limits.TheConstants.{MAX_TIME}
use Rattle.snb_schema.specs.InsertLines.{kind_number}
use Rattle.snb_input_fields.specs.Reading.{Reading, SpellsNext}
use Rattle.snb_input_fields.proofs.Laws.{moved, spelled}
use Rattle.snb_streams.specs.Make.{IsMade}
use Rattle.snb_streams.proofs.MakeFacts.{line_made}
use Rattle.snb_streams.proofs.make.make_line.Goals as goal

pub pass-requires : goal.pass-requires
pass-requires c =
    let e1 = moved c.in_ok-t.ensures.past c.requires.begins in
    let e2 = moved c.in_ok-t_d.ensures.past e1 in
    let number = kind_number c.args.kind in
    record { good = (columns.Number number, rw e2 refl, Digits number, subst (λ (r : Reading). SpellsNext r (columns.Number number) (Digits number)) (sym e2) c.requires.third) }

pub returns-clause-ok : goal.returns-clause-ok
returns-clause-ok c =
    let fs = c.args.fields.now.fields in
    let e1 = moved c.in_ok-t.ensures.past c.requires.begins in
    let e2 = moved c.in_ok-t_d.ensures.past e1 in
    let e3 = moved c.pass.ensures e2 in
    let made : IsMade c.args.kind fs c.in_ok-op.op = subst (λ (xs : List (List ℕ)). IsMade c.args.kind xs c.in_ok-op.op) (ap (λ (r : Reading). r.fields) e3) c.in_ok-op.ensures.ok in (
      record {
        kind_is = made.kind_is;
        spelled = line_made c.args.kind fs c.in_ok-t.t c.in_ok-t_d.t_d c.in_ok-op.op c.requires.long (spelled 0 (columns.Number MAX_TIME) (Digits c.in_ok-t.t) c.requires.begins c.in_ok-t.ensures.ok) (spelled 1 (columns.Number MAX_TIME) (Digits c.in_ok-t_d.t_d) e1 c.in_ok-t_d.ensures.ok) c.requires.third made;
        of_two = made.of_two;
      },
      refl,
    )
