-- What a graph that heard lines of tables has of their rows.
use Rattle.std.proofs.Common.{◌≡◌, ◌∙◌, ◌↔◌, ◌⊎◌, ◌++◌, ◌∷◌, [], ℕ, Bool, true, false, List, All, Option, Some, None, map, sym, ap, subst, inl, inr, arith, append_assoc, append-nil}
use Rattle.std.specs.List.{Contains, flat_map}
use Rattle.std.proofs.lemmas.List.{flat_map_more, map-append}
use Rattle.std.proofs.lemmas.List.Elements.{All-append, All-cons, All-head, All-nil, All-tail, All-weaker, Contains-append_cases, Contains-append_left, Contains-append_right}
use Rattle.std.proofs.lemmas.List.Sorted.{Contains-permutation, IsPermutation-sym}
use Rattle.snb_base.proofs.Laws.{all_back, contains_cases, contains_here}
use Rattle.snb_schema.specs.declared.file.FileId.{FileId}
use Rattle.snb_schema.specs.declared.refusal.Missing.{Missing}
use Rattle.snb_schema.specs.declared.refusal.Refusal.{Refusal}
use Rattle.snb_schema.specs.declared.row.Placed.{Placed}
use Rattle.snb_schema.specs.declared.row.Row.{Row}
use Rattle.snb_schema.specs.declared.row.Row.TheVariants as row
use Rattle.snb_schema.specs.declared.table.Kind.{Kind}
use Rattle.snb_schema.specs.References.{end_ref, from_kind, ref, refs_of_row, to_kind}
use Rattle.snb_schema.specs.RowKeys.{RowKey, node_key, slot_of}
use Rattle.snb_graph_tables.proofs.Laws.{contains_gained}
use Rattle.snb_input_lines.specs.Sinks.{Hears}
use Rattle.snb_graph_model.specs.Graphs.{HasGained, HasKey, HasSlot, IsGraph}
use Rattle.snb_graph_model.specs.Soundness.{HoldsRefs}
use Rattle.snb_loader.specs.Tables.{HasTaken, IsAmiss, IsAmissBeside, IsFirstLacking, IsHeard, IsRepeat, IsSecond, IsAmongRows, TakesPlaced, said_rows}
use Rattle.snb_loader.proofs.CaseFacts.{IsAmissCase, from_case, to_case}
use Rattle.snb_loader.proofs.LackingFacts.{none_first}

-- ---- the rows that lines said

abbrev rows_of : List Placed → List Row
rows_of ps = map (λ p. p.row) ps

-- the rows of a file that has ended are those of a file before
said_next : (done : List (List Placed)) (mine : List Placed) → said_rows (done ++ mine ∷ []) [] ≡ said_rows done mine
said_next done mine = append-nil (flat_map rows_of (done ++ mine ∷ [])) ∙ sym (flat_map_more rows_of [] done mine)

-- a line more said one row more
said_more : (done : List (List Placed)) (mine : List Placed) (p : Placed) → said_rows done (mine ++ p ∷ []) ≡ said_rows done mine ++ p.row ∷ []
said_more done mine p =
    ap (λ (rs : List Row). flat_map rows_of done ++ rs) (map-append (λ (q : Placed). q.row) mine (p ∷ [])) ∙ sym (append_assoc (flat_map rows_of done) (rows_of mine) (p.row ∷ []))

-- the end of a file changes nothing of what was heard
pub heard_next : (g : List Row) (done : List (List Placed)) (mine : List Placed) → IsHeard g done mine → IsHeard g (done ++ mine ∷ []) []
heard_next g done mine h = record {
  graph = h.graph;
  held = h.held;
  same = subst (λ (rs : List Row). (r : Row) → Contains g r ↔ Contains rs r) (sym (said_next done mine)) h.same;
}

-- ---- rows that others have

module _ (one other : List Row) (to : (r : Row) → Contains one r → Contains other r) where
  key_moved : (k : RowKey) → HasKey one k → HasKey other k
  key_moved k h = record { it = h.it; held = to h.it h.held; keyed = h.keyed }

  slot_moved : (s : RowKey) → HasSlot one s → HasSlot other s
  slot_moved s h = record { it = h.it; held = to h.it h.held; fills = h.fills }

  there_moved : (refs : List (ℕ × Missing)) → All (IsAmongRows one) refs → All (IsAmongRows other) refs
  there_moved refs all = All-weaker (IsAmongRows one) (IsAmongRows other) (λ z h. key_moved (node_key z.1.kind z.1.id) h) refs all

  repeat_moved : (r : Row) → IsRepeat one r → IsRepeat other r
  repeat_moved r h = (h.0, to r h.1)

module _ (one other : List Row) (same : (r : Row) → Contains one r ↔ Contains other r) where
  -- what is lacking among the ones is lacking among the others
  first_moved : (refs : List (ℕ × Missing)) (column : ℕ) → IsFirstLacking one refs column → IsFirstLacking other refs column
  first_moved refs column a = record {
    before = a.before;
    ref = a.ref;
    after = a.after;
    splits = a.splits;
    there = there_moved one other (λ r. (same r).0) a.before a.there;
    lacking = λ h. a.lacking (key_moved other one (λ r. (same r).1) (node_key a.ref.kind a.ref.id) h);
  }

  -- and a second row of a slot is one among the others
  second_moved : (r : Row) → IsSecond one r → IsSecond other r
  second_moved r a = (slot_moved one other (λ x. (same x).0) (slot_of r) a.0, λ h. a.1 (repeat_moved other one (λ x. (same x).1) r h))

-- ---- the references of a row, by its line and by the row

-- the columns of references don't matter for whether their nodes are there
other_column : (g : List Row) (a b : ℕ) (k : Option Kind) (n : ℕ) → All (IsAmongRows g) (end_ref a k n) → All (IsAmongRows g) (end_ref b k n)
other_column g a b None n all = all
other_column g a b (Some k) n all = All-cons (IsAmongRows g) (b, ref k n) [] (All-head (IsAmongRows g) (a, ref k n) [] all) (All-nil (IsAmongRows g))

left_of : {X : Type 0} (P : X → Type 0) (xs ys : List X) → All P (xs ++ ys) → All P xs
left_of P [] ys all = All-nil P
left_of P (x ∷ xs) ys all = All-cons P x xs (All-head P x (xs ++ ys) all) (left_of P xs ys (All-tail P x (xs ++ ys) all))

edge_straight : (g : List Row) (a b : Option Kind) (from to : ℕ) → All (IsAmongRows g) (end_ref 1 b to ++ end_ref 2 a from) → All (IsAmongRows g) (end_ref 1 a from ++ end_ref 2 b to)
edge_straight g a b from to all =
    All-append (IsAmongRows g) (end_ref 1 a from) (end_ref 2 b to)
    (other_column g 2 1 a from (all_back (IsAmongRows g) (end_ref 1 b to) (end_ref 2 a from) all))
    (other_column g 1 2 b to (left_of (IsAmongRows g) (end_ref 1 b to) (end_ref 2 a from) all))

-- the nodes of a line's references are those of its row's
straight : (g : List Row) (r : Row) (turned : Bool) → All (IsAmongRows g) (refs_of_row r turned) → All (IsAmongRows g) (refs_of_row r false)
straight g r false all = all
straight g (row.Link t from to) true all = edge_straight g (from_kind t) (to_kind t) from to all
straight g (row.Dated t from to date) true all = edge_straight g (from_kind t) (to_kind t) from to all
straight g (row.Yeared t from to year) true all = edge_straight g (from_kind t) (to_kind t) from to all
straight g (row.Word t person text) true all = all
straight g (row.Place x) true all = all
straight g (row.TagClass x) true all = all
straight g (row.Tag x) true all = all
straight g (row.Organisation x) true all = all
straight g (row.Person x) true all = all
straight g (row.Forum x) true all = all
straight g (row.Post x) true all = all
straight g (row.Comment x) true all = all

-- ---- one line more

module _ (g : List Row) (done : List (List Placed)) (mine : List Placed) (p : Placed) (h : IsHeard g done mine) where
  -- what is wrong with a line beside the rows of the graph is wrong beside those that lines said
  case_moved : (file : FileId) (r : Refusal) → IsAmissCase g file p r → IsAmissCase (said_rows done mine) file p r
  case_moved file r (inl a) = inl (a.0, first_moved g (said_rows done mine) h.same (refs_of_row p.row p.turned) a.0 a.1, a.2)
  case_moved file r (inr b) = inr (there_moved g (said_rows done mine) (λ x. (h.same x).0) (refs_of_row p.row p.turned) b.0, second_moved g (said_rows done mine) h.same p.row b.1, b.2)

  is_amiss : (file : FileId) (r : Refusal) → IsAmissBeside g file p r → IsAmiss file done mine p r
  is_amiss file r a = from_case (said_rows done mine) file p r (case_moved file r (to_case g file p r a))

  module _ (new : List Row) (taken : TakesPlaced g p new) where
    not_second : HasTaken g p.row new → ¬ IsSecond (said_rows done mine) p.row
    not_second (inl again) second = second.1 (repeat_moved g (said_rows done mine) (λ r. (h.same r).0) p.row again.0)
    not_second (inr more) second = more.1 (slot_moved (said_rows done mine) g (λ r. (h.same r).1) (slot_of p.row) second.0)

    -- nothing is wrong with a line that is taken
    no_case : (file : FileId) (r : Refusal) → ¬ IsAmissCase (said_rows done mine) file p r
    no_case file r (inl a) = none_first (said_rows done mine) (refs_of_row p.row p.turned) a.0 (there_moved g (said_rows done mine) (λ x. (h.same x).0) (refs_of_row p.row p.turned) taken.0) a.1
    no_case file r (inr b) = not_second taken.1 b.1

    is_fine : (file : FileId) (r : Refusal) → ¬ IsAmiss file done mine p r
    is_fine file r a = no_case file r (to_case (said_rows done mine) file p r a)

    -- a row more at the end of what was said
    said_cases : (r : Row) → Contains (said_rows done mine ++ p.row ∷ []) r → Contains (said_rows done mine) r ⊎ (p.row ≡ r)
    said_cases r c = elim (Contains-append_cases (said_rows done mine) (p.row ∷ []) r c) [
      | inl a ↦ inl a
      | inr b ↦ elim (contains_cases p.row [] r b) [ inl e ↦ inr e | inr k ↦ absurd (omega (arith, k.1)) ]
    ]

    -- a line that is passed over
    heard_again : IsRepeat g p.row → (r : Row) → Contains g r ↔ Contains (said_rows done mine ++ p.row ∷ []) r
    heard_again again r = (
      λ c. Contains-append_left (said_rows done mine) (p.row ∷ []) r ((h.same r).0 c),
      λ c. elim (said_cases r c) [
        | inl a ↦ (h.same r).1 a
        | inr e ↦ subst (λ (x : Row). Contains g x) e again.1
      ],
    )

    -- a line whose row the graph gains
    module _ (gained : HasGained g (p.row ∷ []) new) where
      kept : (r : Row) → Contains g r → Contains new r
      kept r c = Contains-permutation (g ++ p.row ∷ []) new r (IsPermutation-sym new (g ++ p.row ∷ []) gained.rows) (Contains-append_left g (p.row ∷ []) r c)

      this : Contains new p.row
      this = Contains-permutation (g ++ p.row ∷ []) new p.row (IsPermutation-sym new (g ++ p.row ∷ []) gained.rows) (Contains-append_right g (p.row ∷ []) p.row (contains_here p.row []))

      is_said : (r : Row) → Contains new r ↔ Contains (said_rows done mine ++ p.row ∷ []) r
      is_said r = (
        λ c. elim (contains_gained g new p.row r gained.rows c) [
          | inl a ↦ Contains-append_left (said_rows done mine) (p.row ∷ []) r ((h.same r).0 a)
          | inr e ↦ subst (λ (x : Row). Contains (said_rows done mine ++ p.row ∷ []) x) e (Contains-append_right (said_rows done mine) (p.row ∷ []) p.row (contains_here p.row []))
        ],
        λ c. elim (said_cases r c) [
          | inl a ↦ kept r ((h.same r).1 a)
          | inr e ↦ subst (λ (x : Row). Contains new x) e this
        ],
      )

      still_held : HoldsRefs new
      still_held r c = elim (contains_gained g new p.row r gained.rows c) [
        | inl a ↦ there_moved g new kept (refs_of_row r false) (h.held r a)
        | inr e ↦ subst (λ (x : Row). All (IsAmongRows new) (refs_of_row x false)) e (there_moved g new kept (refs_of_row p.row false) (straight g p.row p.turned taken.0))
      ]

    by_rows : IsGraph new → HoldsRefs new → ((r : Row) → Contains new r ↔ Contains (said_rows done mine ++ p.row ∷ []) r) → IsHeard new done (mine ++ p ∷ [])
    by_rows graph held same = record {
      graph = graph;
      held = held;
      same = subst (λ (rs : List Row). (r : Row) → Contains new r ↔ Contains rs r) (sym (said_more done mine p)) same;
    }

    by_taking : HasTaken g p.row new → IsHeard new done (mine ++ p ∷ [])
    by_taking (inl again) =
        by_rows (subst IsGraph (sym again.1) h.graph) (subst HoldsRefs (sym again.1) h.held)
        (subst (λ (z : List Row). (r : Row) → Contains z r ↔ Contains (said_rows done mine ++ p.row ∷ []) r) (sym again.1) (heard_again again.0))
    by_taking (inr more) = by_rows more.0.graph (still_held more.0) (is_said more.0)

    -- a line that is taken is heard
    heard_more : IsHeard new done (mine ++ p ∷ [])
    heard_more = by_taking taken.1

-- what a graph takes it has, and what it refuses is refused by all that lines said before
pub graph_hears : Hears (λ (old : List Row) (file : FileId) (p : Placed) (new : List Row). TakesPlaced old p new) IsAmissBeside IsHeard IsAmiss
graph_hears = record {
  more = λ old new file p done mine h taken. heard_more old done mine p h new taken;
  passes = λ old new file p done mine r h taken. is_fine old done mine p h new taken file r;
  bad = λ old file p done mine r h wrong. is_amiss old done mine p h file r wrong;
}

-- past the end of a file the graph is as it was
pub graph_turned : (old new : List Row) (done : List (List Placed)) (mine : List Placed) → IsHeard old done mine → new ≡ old → IsHeard new (done ++ mine ∷ []) []
graph_turned old new done mine h e = subst (λ (g : List Row). IsHeard g (done ++ mine ∷ []) []) (sym e) (heard_next old done mine h)
