-- The row that is made of the fields of a line.
use Rattle.std.proofs.Common.{Result, Ok, Err, IfOk, ◌≡◌, ◌∙◌, ◌+◌, ◌<◌, ℕ, zero, suc, Bool, false, List, [], ◌∷◌, length, refl, sym, ap, subst, inr, arith}
use Rattle.snb_schema.specs.declared.column.Value.{Value}
use Rattle.snb_schema.specs.declared.column.Value.TheVariants.{Digits}
use Rattle.snb_schema.specs.declared.layout.Shape.TheVariants as shapes
use Rattle.snb_schema.specs.declared.row.Row.{Row}
use Rattle.snb_schema.specs.declared.table.Table.{Table}
use Rattle.snb_schema.specs.declared.table.Table.TheVariants as table
use Rattle.snb_schema.specs.Columns.{StopsAfter}
use Rattle.snb_schema.specs.Layouts.{has_no_direction, shape}
use Rattle.snb_schema.specs.TableColumns.{columns, shape_columns}
use Rattle.snb_schema.specs.RowLines.{SpellsRow}
use Rattle.snb_schema.specs.RowValues.{IsWide, row_shape, table_of, values}
use Rattle.snb_schema.specs.Faults.{OnBadColumn}
use Rattle.snb_schema.specs.declared.fault.LineFault.{LineFault}
use Rattle.snb_schema.specs.declared.fault.LineFault.TheVariants.{Bad, Memory}
use Rattle.snb_schema.specs.declared.row.Placed.{Placed}
use Rattle.snb_input_fields.specs.Reading.{IsBadNext, Reading}
use Rattle.snb_input_fields.proofs.Laws.{at, spells_from}
use Rattle.snb_csv.specs.Make.{AreFriends, AreNoFriends, IsMadeOf, LeadsBack, table_by}
use Rattle.snb_csv.proofs.RowsByValues.{spells_row, wide_long}

-- the table of a row that is made by its shape
own_table : (t : Table) → table_by (shape t) t ≡ t
own_table table.Place = refl
own_table t = refl

-- the row of an edge with a direction, or of a node
pub spells_made : (t : Table) (fs : List (List ℕ)) (r : Row) → has_no_direction t ≡ false → IsWide (length (columns t)) fs → IsMadeOf (shape t) t fs r → SpellsRow t fs r false
spells_made t fs r directed w made =
    spells_row t fs (values r) r false w (spells_from 0 (columns t) fs (values r) (omega (arith, wide_long (length (columns t)) fs w)) made.spelled) (rw directed tt) (record { table = made.table ∙ own_table t; shaped = made.shaped; kept = rw directed refl; turns = rw directed refl })

-- the row of a friendship
spells_knows : (fs : List (List ℕ)) (r : Row) (turned : Bool) → IsWide 3 fs → AreFriends table.PersonKnowsPerson fs r turned → SpellsRow table.PersonKnowsPerson fs r turned
spells_knows fs r turned w f =
    let said : List Value = Digits f.one ∷ Digits f.other ∷ Digits f.date ∷ [] in
    spells_row table.PersonKnowsPerson fs said r turned w (spells_from 0 (columns table.PersonKnowsPerson) fs said (wide_long 3 fs w) f.spelled) f.differ (record { table = ap table_of f.made; shaped = ap row_shape f.made; kept = ap values f.made; turns = f.turns })

pub spells_friends : (t : Table) (fs : List (List ℕ)) (r : Row) (turned : Bool) → t ≡ table.PersonKnowsPerson → IsWide (length (columns t)) fs → AreFriends t fs r turned → SpellsRow t fs r turned
spells_friends t fs r turned knows = subst (λ (u : Table). IsWide (length (columns u)) fs → AreFriends u fs r turned → SpellsRow u fs r turned) (sym knows) (spells_knows fs r turned)

-- fields of which the first or the second spells no id don't lead back
no_end : (fs : List (List ℕ)) (n : ℕ) → n < 2 → StopsAfter (shape_columns shapes.Dated) fs n → ¬ LeadsBack fs
no_end [] n early s l = s
no_end (x ∷ fs) zero early s l = s (Digits l.0) l.1
no_end (x ∷ []) (suc n) early s l = s.1
no_end (x ∷ y ∷ fs) (suc zero) early s l = s.1 (Digits l.0) l.2
no_end (x ∷ y ∷ fs) (suc (suc n)) early s l = omega (arith, early)

-- so they are no friendship
pub no_friends : (n : ℕ) (why : LineFault) (result : Result Placed LineFault) (r : Reading) (fs : List (List ℕ)) → result ≡ Err why → n < 2 → r ≡ at (shape_columns shapes.Dated) fs n → OnBadColumn {A = ℕ} (Err why) (IsBadNext r) → OnBadColumn result (AreNoFriends fs)
no_friends n Memory result r fs same early is b = rw same tt
no_friends n (Bad column) result r fs same early is b =
    let stops : StopsAfter (shape_columns shapes.Dated) fs n = subst (λ (q : Reading). StopsAfter q.columns q.fields q.read) is b.stops in
    rw same (inr (no_end fs n early stops, (n, stops, b.at ∙ ap (λ (q : Reading). q.read + 1) is)))

-- what is answered for the fields of a friendship
pub answers_friends : (t : Table) (fs gs : List (List ℕ)) (line : ℕ) (result : Result Placed LineFault) → gs ≡ fs → t ≡ table.PersonKnowsPerson → IsWide (length (columns t)) fs
    → IfOk result (λ p. AreFriends t gs p.row p.turned × (p.line ≡ line)) → IfOk result (λ p. SpellsRow t fs p.row p.turned × (p.line ≡ line))
answers_friends t fs gs line (Ok p) same knows w f = (spells_friends t fs p.row p.turned knows w (subst (λ (xs : List (List ℕ)). AreFriends t xs p.row p.turned) same f.0), f.1)
answers_friends t fs gs line (Err e) same knows w f = tt
