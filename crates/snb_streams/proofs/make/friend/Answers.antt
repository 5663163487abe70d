use Rattle.std.proofs.Common.{ℕ, List, refl, subst, sym}
use Rattle.snb_base.specs.Spellings.{SpellsId}
use Rattle.snb_schema.specs.declared.column.Column.TheVariants as columns
use Rattle.snb_schema.specs.declared.column.Value.TheVariants.{Digits}
use Rattle.snb_schema.specs.declared.limits.TheConstants.{MAX_ID}
use Rattle.snb_schema.specs.declared.op.InsertKind.TheVariants as kinds
use Rattle.snb_schema.specs.declared.op.Op.{Op}
use Rattle.snb_schema.specs.UpdateLines.{field}
use Rattle.snb_input_fields.proofs.Laws.{moved, spelled}
use Rattle.snb_streams.proofs.MakeFacts.{clash_here}
use Rattle.snb_streams.proofs.PlaceFacts.{same_field}
use Rattle.snb_streams.proofs.make.friend.Goals as goal

pub returns-then-one-other-clause-bad : goal.returns-then-one-other-clause-bad
returns-then-one-other-clause-bad c =
    let fs = c.args.fields.now.fields in
    let e1 = moved c.in_ok-one.ensures.past c.requires in
    let e2 = moved c.in_ok-other.ensures.past e1 in
    let one : SpellsId (field 3 fs) c.in_ok-one.one = subst (λ (x : List ℕ). SpellsId x c.in_ok-one.one) (same_field fs 3) (spelled 3 (columns.Number MAX_ID) (Digits c.in_ok-one.one) c.requires c.in_ok-one.ensures.ok) in
    let other : SpellsId (field 4 fs) c.in_ok-other.other = subst (λ (x : List ℕ). SpellsId x c.in_ok-other.other) (same_field fs 4) (spelled 4 (columns.Number MAX_ID) (Digits c.in_ok-other.other) e1 c.in_ok-other.ensures.ok) in
    clash_here Op kinds.AddFriend fs c.clash.result c.number-2.new.self 5 c.clash.ensures.column e2 (refl, (c.in_ok-one.one, one, subst (SpellsId (field 4 fs)) (sym c.if-one-other.true) other)) c.clash.ensures.first

pub returns-clause-ok : goal.returns-clause-ok
returns-clause-ok c =
    let e1 = moved c.in_ok-one.ensures.past c.requires in
    let e2 = moved c.in_ok-other.ensures.past e1 in
    record {
      kind_is = refl;
      spelled = (spelled 3 (columns.Number MAX_ID) (Digits c.in_ok-one.one) c.requires c.in_ok-one.ensures.ok, (spelled 4 (columns.Number MAX_ID) (Digits c.in_ok-other.other) e1 c.in_ok-other.ensures.ok, (spelled 5 columns.Date (Digits c.in_ok-date.field-0) e2 c.in_ok-date.ensures.ok, tt)));
      of_two = c.if-one-other.false;
    }
