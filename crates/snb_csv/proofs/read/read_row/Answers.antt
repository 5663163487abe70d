use Rattle.std.proofs.Common.{◌∙◌, List, ℕ, ap, length, refl, subst, sym}
use Rattle.snb_schema.specs.declared.column.Column.{Column}
use Rattle.snb_schema.specs.Layouts.{shape}
use Rattle.snb_schema.specs.RowValues.{IsWide}
use Rattle.snb_input_fields.specs.Reading.{Reading}
use Rattle.snb_csv.specs.Make.{IsMadeOf}
use Rattle.snb_csv.proofs.RowFacts.{answers_friends, spells_made}
use Rattle.snb_csv.proofs.read.read_row.Goals as goal

pub returns-then-is_undirected-clause-ok : goal.returns-then-is_undirected-clause-ok
returns-then-is_undirected-clause-ok c =
    answers_friends c.args.table c.args.fields.now c.new-reader.result.fields c.args.line c.make_friends.result (ap (λ (r : Reading). r.fields) c.new-reader.ensures) (c.is_undirected.ensures.friends c.if-is_undirected.true)
    (subst (λ (cs : List Column). IsWide (length cs) c.args.fields.now) c.columns_of-columns.ensures (c.is_wide.ensures.0 c.if-not-is_wide.false)) c.make_friends.ensures.ok

pub returns-clause-ok : goal.returns-clause-ok
returns-clause-ok c = (
  spells_made c.args.table c.args.fields.now c.in_ok-make_row.field-0 (sym c.is_undirected.ensures.value ∙ c.if-is_undirected.false)
      (subst (λ (cs : List Column). IsWide (length cs) c.args.fields.now) c.columns_of-columns.ensures (c.is_wide.ensures.0 c.if-not-is_wide.false))
      (subst (λ (xs : List (List ℕ)). IsMadeOf (shape c.args.table) c.args.table xs c.in_ok-make_row.field-0) (ap (λ (r : Reading). r.fields) c.new-reader.ensures) c.in_ok-make_row.ensures.ok),
  refl,
)
