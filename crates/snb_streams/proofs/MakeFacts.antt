-- Inserts that are made of the fields of a line, and why there is none.
use Rattle.std.proofs.Common.{◌≡◌, ◌≢◌, ◌∙◌, ◌+◌, ◌≤◌, ℕ, suc, List, [], ◌∷◌, ◌++◌, length, ap, refl, sym, subst, arith}
use Rattle.std.specs.Prelude.{Err, IfOk, Ok, Result}
use Rattle.std.proofs.lemmas.List.{take_all}
use Rattle.snb_base.specs.Spellings.{Num}
use Rattle.snb_schema.specs.declared.column.Column.{Column}
use Rattle.snb_schema.specs.declared.column.Column.TheVariants.{Number}
use Rattle.snb_schema.specs.declared.column.Value.{Value}
use Rattle.snb_schema.specs.declared.fault.LineFault.{LineFault}
use Rattle.snb_schema.specs.declared.fault.LineFault.TheVariants as line_fault
use Rattle.snb_schema.specs.declared.limits.TheConstants.{MAX_TIME}
use Rattle.snb_schema.specs.declared.op.Line.{Line}
use Rattle.snb_schema.specs.declared.op.Op.{Op}
use Rattle.snb_schema.specs.declared.op.InsertKind.{InsertKind}
use Rattle.snb_schema.specs.declared.op.InsertKind.TheVariants as kinds
use Rattle.snb_schema.specs.Columns.{SpellsAll, StopsAfter}
use Rattle.snb_schema.specs.Faults.{OnBadColumn}
use Rattle.snb_schema.specs.InsertLines.{addition_kind, beside_columns, beside_values, insert_columns, kind_number, kind_of, line_columns, line_values, node_columns, node_values, op_values}
use Rattle.snb_schema.specs.Nodes.{Addition, NewFriends, addition}
use Rattle.snb_schema.specs.UpdateLines.{AreTwo, Clashes, IsFirstBad, NamesInsert}
use Rattle.snb_input_fields.specs.Fields.{Expects, ReadsAll, StopsIn}
use Rattle.snb_input_fields.specs.Reading.{IsBadIn, IsBadNext, Reading, SpellsFrom, line_meaning, text_at}
pub use Rattle.snb_input_fields.proofs.Laws.{on_bad}
use Rattle.snb_input_fields.proofs.Laws.{at, expects_after, expects_first, expects_second, reads_both, reads_spell, spells_from, stops_bad, stops_first, stops_second, stops_within}
use Rattle.snb_streams.specs.Make.{HasRead, HasSpelled, IsMade, IsMadeLine, IsThird, at_field}
use Rattle.snb_streams.specs.Spelled.{SpellsInsert}
use Rattle.snb_streams.proofs.FaultFacts.{clash_first, stop_first}
use Rattle.snb_streams.proofs.InsertFacts.{spells_insert}

-- a field that isn't in its grammar, of a line whose fields don't clash
pub plain_bad : (kind : InsertKind) (fs : List (List ℕ)) → ((c : ℕ) → ¬ Clashes kind fs c) → (column : ℕ) → IsBadIn (line_columns kind) fs column → IsFirstBad kind fs column
plain_bad kind fs never column bad = stop_first kind fs bad.0 column bad.1 bad.2 (λ c h. absurd (never c h))

-- the next field isn't in its grammar, and none clash before it
pub next_bad : (kind : InsertKind) (fs : List (List ℕ)) (n : ℕ) (r : Reading) → r ≡ at (line_columns kind) fs n → ((c : ℕ) → Clashes kind fs c → n + 1 ≤ c) → (column : ℕ) → IsBadNext r column → IsFirstBad kind fs column
next_bad kind fs n r is low column bad =
    let here = subst (λ (t : Reading). IsBadNext t column) is bad in
    stop_first kind fs n column here.stops here.at low

-- the field that was read last doesn't go with one before it
pub clash_here : (A : Type 0) (kind : InsertKind) (fs : List (List ℕ)) (fault : LineFault) (r : Reading) (n : ℕ) → fault ≡ line_fault.Bad r.read → r ≡ at (line_columns kind) fs n → Clashes kind fs n
    → ((m : ℕ) → StopsAfter r.columns r.fields m → r.read ≤ m) → OnBadColumn {A = A} (Err fault) (IsFirstBad kind fs)
clash_here A kind fs fault r n is begins clash first =
    let low : (m : ℕ) → StopsAfter (line_columns kind) fs m → n ≤ m = subst (λ (t : Reading). (m : ℕ) → StopsAfter t.columns t.fields m → t.read ≤ m) begins first in
    subst (λ (f : LineFault). OnBadColumn {A = A} (Err f) (IsFirstBad kind fs)) (sym is)
    (subst (λ (t : Reading). IsFirstBad kind fs t.read) (sym begins) (clash_first kind fs n clash low))

-- an insert of another kind than a friendship isn't of two persons
two_unless : (a : Addition) → addition_kind a ≢ kinds.AddFriend → AreTwo a
two_unless (NewFriends one other date) differs = absurd (differs refl)
two_unless a differs = tt

-- so many fields are read of what the reading has
pub at_own : (kind : InsertKind) (fs : List (List ℕ)) (n : ℕ) (r : Reading) → r ≡ at_field kind fs n → r ≡ at_field kind r.fields n
at_own kind fs n r is = is ∙ ap (λ (xs : List (List ℕ)). at_field kind xs n) (sym (ap (λ (x : Reading). x.fields) is))

-- past a line's times and number the columns of its insert are expected
pub expects_insert : (kind : InsertKind) (fs : List (List ℕ)) (r : Reading) → r ≡ at_field kind fs 3 → Expects line_meaning r (insert_columns kind)
expects_insert kind fs r is = expects_after (Number MAX_TIME ∷ Number MAX_TIME ∷ Number (kind_number kind) ∷ []) (insert_columns kind) fs r is

-- fields that spell values in some columns, and further ones in others
spells_both : (k : ℕ) (cs : List Column) (vs : List Value) (ds : List Column) (ws : List Value) (fs : List (List ℕ)) → SpellsFrom k cs fs vs → SpellsFrom (k + length cs) ds fs ws → SpellsFrom k (cs ++ ds) fs (vs ++ ws)
spells_both k [] [] ds ws fs s t = (let same : k + 0 ≡ k = omega arith in subst (λ n. SpellsFrom n ds fs ws) same t)
spells_both k (c ∷ cs) (v ∷ vs) ds ws fs s t = (s.0, spells_both (suc k) cs vs ds ws fs s.1 (let same : k + suc (length cs) ≡ suc k + length cs = omega arith in subst (λ n. SpellsFrom n ds fs ws) same t))
spells_both k cs vs ds ws fs s t = absurd s

module _ (kind : InsertKind) (fs : List (List ℕ)) (r : Reading) (begins : r ≡ at_field kind fs 3) where
  -- those of its node
  pub expects_node : Expects line_meaning r (node_columns kind)
  expects_node = expects_first line_meaning (node_columns kind) (beside_columns kind) r (expects_insert kind fs r begins)

  -- and once these are read those beside them
  pub expects_beside : (node : List Value) (mid : Reading) → ReadsAll line_meaning r (node_columns kind) node mid → Expects line_meaning mid (beside_columns kind)
  expects_beside node mid reads = expects_second line_meaning (node_columns kind) (beside_columns kind) node r mid (expects_insert kind fs r begins) reads

  -- the insert whose node and whose other values are read
  pub made_of : (node : List Value) (mid s : Reading) (op : Op) → kind ≢ kinds.AddFriend → ReadsAll line_meaning r (node_columns kind) node mid → HasRead line_meaning kind node mid s op → IsMade kind fs op
  made_of node mid s op differs first has = record {
    kind_is = has.kind_is;
    spelled = subst (λ (x : Reading). SpellsFrom x.read (insert_columns kind) x.fields (op_values op)) begins
        (reads_spell (insert_columns kind) (op_values op) r s
        (reads_both line_meaning (node_columns kind) (beside_columns kind) (node_values (addition op)) (beside_values (addition op)) r mid s
        (subst (λ (vs : List Value). ReadsAll line_meaning r (node_columns kind) vs mid) (sym has.node_is) first) has.beside));
    of_two = two_unless (addition op) (λ friend. differs (sym has.kind_is ∙ friend));
  }

  pub if_made : (node : List Value) (mid s : Reading) (o : Result Op LineFault) → kind ≢ kinds.AddFriend → ReadsAll line_meaning r (node_columns kind) node mid → IfOk o (HasRead line_meaning kind node mid s) → IfOk o (IsMade kind fs)
  if_made node mid s (Ok op) differs first has = made_of node mid s op differs first has
  if_made node mid s (Err fault) differs first has = tt

  -- the insert whose node is read, and whose other values the fields after it spell
  pub if_spelled : (node : List Value) (mid : Reading) (o : Result Op LineFault) → kind ≢ kinds.AddFriend → ReadsAll line_meaning r (node_columns kind) node mid → IfOk o (HasSpelled kind node (3 + length (node_columns kind)) fs) → IfOk o (IsMade kind fs)
  if_spelled node mid (Ok op) differs first has = record {
    kind_is = has.kind_is;
    spelled = spells_both 3 (node_columns kind) (node_values (addition op)) (beside_columns kind) (beside_values (addition op)) fs
        (subst (λ (vs : List Value). SpellsFrom 3 (node_columns kind) fs vs) (sym has.node_is) (subst (λ (x : Reading). SpellsFrom x.read (node_columns kind) x.fields node) begins (reads_spell (node_columns kind) node r mid first)))
        has.beside;
    of_two = two_unless (addition op) (λ friend. differs (sym has.kind_is ∙ friend));
  }
  if_spelled node mid (Err fault) differs first has = tt

  -- the column at which reading of the node stops, where none clash before its end
  pub node_first : (end : ℕ) → end ≡ 3 + length (node_columns kind) → ((c : ℕ) → Clashes kind fs c → end ≤ c) → (column : ℕ) → StopsIn line_meaning r (node_columns kind) column → IsFirstBad kind fs column
  node_first end is low column stops =
      let bad : IsBadIn (line_columns kind) fs column = subst (λ (x : Reading). IsBadIn x.columns x.fields column) begins (stops_bad (node_columns kind) r column stops) in
      let within : column ≤ 3 + length (node_columns kind) = subst (λ (x : Reading). column ≤ x.read + length (node_columns kind)) begins (stops_within (node_columns kind) r column stops) in
      let at = bad.2 in
      stop_first kind fs bad.0 column bad.1 bad.2 (λ c clash. (let l = low c clash in omega (arith, within, l, at, is)))

  -- the column at which reading stops, where none clash
  pub stop_bad : ((c : ℕ) → ¬ Clashes kind fs c) → (column : ℕ) → StopsIn line_meaning r (insert_columns kind) column → IsFirstBad kind fs column
  stop_bad never column stops = plain_bad kind fs never column (subst (λ (x : Reading). IsBadIn x.columns x.fields column) begins (stops_bad (insert_columns kind) r column stops))

  pub node_bad : ((c : ℕ) → ¬ Clashes kind fs c) → (column : ℕ) → StopsIn line_meaning r (node_columns kind) column → IsFirstBad kind fs column
  node_bad never column stops = stop_bad never column (stops_first line_meaning (node_columns kind) (beside_columns kind) r column stops)

  pub beside_bad : ((c : ℕ) → ¬ Clashes kind fs c) → (node : List Value) (mid : Reading) → ReadsAll line_meaning r (node_columns kind) node mid → (column : ℕ) → StopsIn line_meaning mid (beside_columns kind) column → IsFirstBad kind fs column
  beside_bad never node mid reads column stops = stop_bad never column (stops_second line_meaning (node_columns kind) (beside_columns kind) node r mid column reads stops)

-- a line of which the times and the insert are read
pub line_made : (kind : InsertKind) (fs : List (List ℕ)) (t t_d : ℕ) (op : Op) → length fs ≡ length (line_columns kind) → Num (text_at fs 0) t MAX_TIME → Num (text_at fs 1) t_d MAX_TIME → IsThird kind fs → IsMade kind fs op
    → SpellsAll (line_columns kind) fs (line_values t t_d op)
line_made kind fs t t_d op long first second third made =
    let number : Num (text_at fs 2) (kind_number (kind_of op)) (kind_number kind) = subst (λ (k : InsertKind). Num (text_at fs 2) (kind_number k) (kind_number kind)) (sym made.kind_is) third in
    let spelled : SpellsFrom 0 (line_columns kind) fs (line_values t t_d op) = (first, (second, (number, made.spelled))) in
    let few : length fs ≤ length (line_columns kind) = omega (arith, long) in
    let enough : 0 + length (line_columns kind) ≤ length fs = omega (arith, long) in
    subst (λ (xs : List (List ℕ)). SpellsAll (line_columns kind) xs (line_values t t_d op)) (take_all (length (line_columns kind)) fs few) (spells_from 0 (line_columns kind) fs (line_values t t_d op) enough spelled)

-- a line that was made is an insert of these kinds
pub told_line : (r : Result Line LineFault) (allowed : List InsertKind) (kind : InsertKind) (fs : List (List ℕ)) (number : ℕ) → NamesInsert allowed fs kind → IfOk r (λ line. IsMadeLine kind fs line × (line.number ≡ number))
    → IfOk r (λ line. SpellsInsert allowed fs line.t line.t_d line.op × (line.number ≡ number))
told_line (Ok line) allowed kind fs number names made = (spells_insert allowed kind fs line.t line.t_d line.op names made.0.kind_is made.0.spelled made.0.of_two, made.1)
told_line (Err fault) allowed kind fs number names made = tt
