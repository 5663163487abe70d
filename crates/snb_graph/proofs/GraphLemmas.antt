-- The rows of a graph, and the links that go with them.
use Rattle.std.proofs.Common.{◌≡◌, ◌++◌, ◌∷◌, [], ℕ, Bool, true, false, List, refl, sym, ap, ◌∙◌, subst, inl, inr, arith, length, suc, ◌<◌, ◌+◌, take, drop, get_or, add-one, drop-cons, append-nil, append_assoc, map}
use Rattle.std.specs.List.{AllByRecursion, Contains, IsDistinct}
use Rattle.std.specs.List.Sorted.{IsPermutation}
use Rattle.std.specs.Cmp.{eq_by_cmp_equiv, tied_itself}
use Rattle.std.specs.Ordering.{eq_by_cmp, is_eq}
use Rattle.std.proofs.lemmas.List.{map-id, take-append-drop}
use Rattle.std.proofs.lemmas.List.Elements.{Contains-append_left, Contains-append_right}
use Rattle.std.proofs.lemmas.Map.Keys.{IsDistinct-IsPermutation, IsDistinct-from_sorted}
use Rattle.std.proofs.lemmas.List.Sorted.{Contains-permutation, IsPermutation-append_left, IsPermutation-refl, IsPermutation-sym, IsPermutation-trans}
use mathlib.Core.Bool.{false≢true}
use Rattle.snb_base.proofs.Laws.{contains_cases, contains_here, none_in, push_split}
use Rattle.snb_schema.specs.declared.row.Row.{Row}
use Rattle.snb_schema.specs.RowKeys.{RowKey, slot, slot_of}
use Rattle.snb_graph_rows.specs.Rows.{Stock}
use Rattle.snb_graph_model.specs.Graphs.{HasGained, HasKey, HasSlot, IsGraph, row_order, rows}
use Rattle.snb_graph_model.specs.Laws.{GraphsAreTheirRows}
use Rattle.snb_graph_model.proofs.Laws.{row_total}
use Rattle.snb_graph_adjacency.specs.declared.indexes.Indexes.{Indexes}
use Rattle.snb_graph_adjacency.specs.declared.link.Link.{Link}
use Rattle.snb_graph_adjacency.specs.declared.link.Walk.{Walk}
use Rattle.snb_graph_adjacency.specs.declared.link.Walk.TheVariants.{Friends, Messages, Replies, PostLikes, CommentLikes, Work, Study}
use Rattle.snb_graph_adjacency.specs.LinkDelta.{IsAlone}
use Rattle.snb_graph_adjacency.specs.Kept.{HasFrozenLink, HasLink, IsAlong, IsIndexed, along}
use Rattle.snb_graph_tables.proofs.Laws.{contains_gained}
use Rattle.snb_graph_tables.specs.Parts.{HasGivenBack}
use Rattle.snb_graph_tables.specs.Entries.{name_key}
use Rattle.snb_graph.specs.declared.additions.Noted.{Noted}
use Rattle.snb_graph.specs.Additions.{AreNew, HasClash, HasTaken, HoldsAll, IsFirstAlone, IsKept, IsNoteOf, Lead}

-- ---- rows added and taken out

none_along : (w : Walk) (of : ℕ) (pair : ℕ × ℕ) → ¬ Contains (along [] w of) pair
none_along Friends of pair c = none_in pair c
none_along Messages of pair c = none_in pair c
none_along Replies of pair c = none_in pair c
none_along PostLikes of pair c = none_in pair c
none_along CommentLikes of pair c = none_in pair c
none_along Work of pair c = none_in pair c
none_along Study of pair c = none_in pair c

pub none_indexed : (g : List Row) (s : Indexes) → g ≡ [] → IsGraph g → ((l : Link) → ¬ HasLink s l) → IsIndexed g s
none_indexed g s is graph none = record {
  graph = graph;
  same = λ l. (λ x. absurd (none l x), λ x. absurd (none_along l.walk l.of (l.id, l.date) (subst (λ h. IsAlong h l) is x)));
}

-- a row that stands apart from a row doesn't stand among those before it
not_before : {X : Type 0} (e : X → X → Bool) (xs : List X) (x : X) → IsDistinct e (xs ++ x ∷ []) → e x x ≡ true → ¬ Contains xs x
unfolding IsDistinct
not_before e [] x apart same c = omega (arith, c.1)
not_before {X} e (y ∷ ys) x apart same c =
    elim (contains_cases y ys x c) [
      | inl is ↦ false≢true (sym (last ys apart.0) ∙ ap (λ (z : X). e z x) is ∙ same)
      | inr d ↦ not_before e ys x apart.1 same d
    ]
  where
    last : (zs : List X) → AllByRecursion (λ z. e y z ≡ false) (zs ++ x ∷ []) → e y x ≡ false
    last [] all = all.0
    last (z ∷ zs) all = last zs all.1

-- a row that was taken out of a graph isn't left in it
pub once : (old new : List Row) (r : Row) → IsGraph old → IsPermutation old (new ++ r ∷ []) → ¬ Contains new r
once old new r graph rows =
    not_before (eq_by_cmp row_order) new r
    (IsDistinct-IsPermutation (eq_by_cmp row_order) flips old (new ++ r ∷ []) rows (IsDistinct-from_sorted row_order old graph.rises))
    (ap is_eq (tied_itself row_total r))
  where
    flips : (x y : Row) → eq_by_cmp row_order x y ≡ eq_by_cmp row_order y x
    flips x y = (eq_by_cmp_equiv row_total).symm x y

-- ---- rows added all together

pub none_taken : (g : List Row) → IsGraph g → HasTaken g [] g
none_taken g graph = record { from = graph; graph = graph; rows = subst (IsPermutation g) (sym (append-nil g)) (IsPermutation-refl g); new = λ clash. none clash.before clash.one clash.after clash.splits }
  where
    none : (before : List Row) (one : Row) (after : List Row) → before ++ one ∷ after ≡ [] → ⊥
    none [] one after e = absurd cc
    none (r ∷ rs) one after e = absurd cc

-- a slot that is free among all is free among these
free_among : (now all : List Row) (s : RowKey) → IsPermutation now all → ¬ HasSlot now s → ¬ HasSlot all s
free_among now all s same free has = free (record { it = has.it; held = Contains-permutation all now has.it (IsPermutation-sym now all same) has.held; fills = has.fills })

pub one_taken : (g more now next : List Row) (r : Row) → HasTaken g more now → ¬ HasSlot now (slot_of r) → HasGained now (r ∷ []) next → HasTaken g (more ++ r ∷ []) next
one_taken g more now next r taken free gained = record {
  from = taken.from;
  graph = gained.graph;
  rows = subst (IsPermutation next) (append_assoc g more (r ∷ [])) (IsPermutation-trans next (now ++ r ∷ []) ((g ++ more) ++ r ∷ []) gained.rows (IsPermutation-append_left (r ∷ []) now (g ++ more) taken.rows));
  new = λ clash. elim (push_split clash.before clash.one clash.after more r clash.splits) [
    | inl last ↦ free_among now (g ++ more) (slot_of r) taken.rows free (subst (λ q. HasSlot (g ++ more) (slot_of q)) last.1 (subst (λ b. HasSlot (g ++ b) (slot_of clash.one)) last.0 clash.filled))
    | inr front ↦ taken.new (record { before = clash.before; one = clash.one; after = front.0; splits = front.1; filled = clash.filled })
  ];
}

-- a row whose slot is taken is a clash
pub taken_clash : (g more now all after : List Row) (r : Row) → HasTaken g more now → HasSlot now (slot_of r) → more ++ r ∷ after ≡ all → HasClash g all
taken_clash g more now all after r taken has splits = record {
  before = more;
  one = r;
  after = after;
  splits = splits;
  filled = record { it = has.it; held = Contains-permutation now (g ++ more) has.it taken.rows has.held; fills = has.fills };
}

-- the next item of a list
pub next_item : {X : Type 0} (xs all : List X) (x : X) → map (λ (y : X). y) xs ≡ take (length xs) all → (length xs < length all) × (x ≡ get_or all (length xs) x) → xs ++ x ∷ drop (length xs + 1) all ≡ all
next_item {X} xs all x front at =
    let first : xs ≡ take (length xs) all = sym (map-id xs) ∙ front in
    let rest : drop (length xs) all ≡ x ∷ drop (length xs + 1) all =
    drop-cons all (length xs) x at.0 ∙ ap (λ (y : X). y ∷ drop (suc (length xs)) all) (sym at.1) ∙ ap (λ (n : ℕ). x ∷ drop n all) (sym (add-one (length xs))) in
    ap (λ (ys : List X). ys ++ x ∷ drop (length xs + 1) all) first ∙ ap (λ (ys : List X). take (length xs) all ++ ys) (sym rest) ∙ take-append-drop (length xs) all

-- without links and frozen rows nothing is wrong
pub none_kept : (g : Stock) (s : Indexes) → g.rows ≡ [] → IsGraph g.rows → ((l : Link) → ¬ HasLink s l) → ((l : Link) → ¬ HasFrozenLink s l) → IsKept g s
none_kept g s is graph none free = record { indexed = none_indexed g.rows s is graph none; backed = λ l has. absurd (free l has) }

-- ---- rows that are noted

-- a row that was gained is held
pub row_there : (before now : List Row) (r : Row) (note : Noted) → IsNoteOf before r now note → Contains now r
row_there before now r note is = Contains-permutation (before ++ r ∷ []) now r (IsPermutation-sym now (before ++ r ∷ []) is.gained.rows) (Contains-append_right before (r ∷ []) r (contains_here r []))

-- and so are those before it
pub old_there : (before now : List Row) (r x : Row) (note : Noted) → IsNoteOf before r now note → Contains before x → Contains now x
old_there before now r x note is c = Contains-permutation (before ++ r ∷ []) now x (IsPermutation-sym now (before ++ r ∷ []) is.gained.rows) (Contains-append_left before (r ∷ []) x c)

-- what it is called isn't a frozen row's key, where the frozen rows were held before
pub not_frozen : (before now frozen : List Row) (r : Row) (note : Noted) → IsNoteOf before r now note → HoldsAll before frozen → ¬ HasKey frozen (name_key note.name)
not_frozen before now frozen r note is holds has = is.free (record { it = has.it; held = holds has.it has.held; fills = ap slot (has.keyed ∙ is.named) })

-- without it the graph is the one before
pub taken_back : (before now next : List Row) (r : Row) (note : Noted) → GraphsAreTheirRows → IsGraph before → IsGraph now → IsNoteOf before r now note → HasGivenBack now r next → next ≡ before
taken_back before now next r note law from graph is back = law next before back.graph from (λ x. (
  λ c. elim (contains_gained before now r x is.gained.rows (Contains-permutation (next ++ r ∷ []) now x (IsPermutation-sym now (next ++ r ∷ []) back.rows) (Contains-append_left next (r ∷ []) x c))) [
    | inl old ↦ old
    | inr this ↦ absurd (once now next r graph back.rows (subst (Contains next) (sym this) c))
  ],
  λ c. elim (contains_gained next now r x back.rows (old_there before now r x note is c)) [
    | inl old ↦ old
    | inr this ↦ absurd (is.free (record { it = x; held = c; fills = ap slot_of (sym this) }))
  ],
))

-- a further note leads on
pub lead_on : (g now next : List Row) (notes : List Noted) (r : Row) (note : Noted) → Lead g notes now → IsNoteOf now r next note → Lead g (notes ++ note ∷ []) next
lead_on g now next [] r note e is = (r, next, subst (λ x. IsNoteOf x r next note) e is, refl)
lead_on g now next (n ∷ notes) r note lead is = (lead.0, lead.1, lead.2, lead_on lead.1 now next notes r note lead.3 is)

-- the last note leads from the graph to which the others lead
pub lead_last : (g now : List Row) (front : List Noted) (note : Noted) → Lead g (front ++ note ∷ []) now → (r : Row) × (before : List Row) × IsNoteOf before r now note × Lead g front before
lead_last g now [] note lead = (lead.0, g, subst (λ x. IsNoteOf g lead.0 x note) (sym lead.3) lead.2, refl)
lead_last g now (n ∷ front) note lead =
    let rest = lead_last lead.1 now front note lead.3 in
    (rest.0, rest.1, rest.2, (lead.0, lead.1, lead.2, rest.3))

-- where notes lead is a graph, which has all that was there
pub lead_graph : (g now : List Row) (notes : List Noted) → IsGraph g → Lead g notes now → IsGraph now
lead_graph g now [] graph e = subst IsGraph (sym e) graph
lead_graph g now (n ∷ notes) graph lead = lead_graph lead.1 now notes lead.2.gained.graph lead.3

pub lead_holds : (g now frozen : List Row) (notes : List Noted) → Lead g notes now → HoldsAll g frozen → HoldsAll now frozen
lead_holds g now frozen [] e holds = subst (λ x. HoldsAll x frozen) (sym e) holds
lead_holds g now frozen (n ∷ notes) lead holds = lead_holds lead.1 now frozen notes lead.3 (λ x c. old_there g lead.1 lead.0 x n lead.2 (holds x c))

-- a row that is new is new among those that were taken
pub still_new : (g more now all after : List Row) (r : Row) → HasTaken g more now → AreNew g all → more ++ r ∷ after ≡ all → ¬ HasSlot now (slot_of r)
still_new g more now all after r taken new splits has = new (taken_clash g more now all after r taken has splits)

-- the first of rows is alone in the graph without notes
pub first_alone : (g now yielded rows after : List Row) (notes : List Noted) (r : Row) → length notes ≡ length yielded → Lead g notes now → yielded ++ r ∷ after ≡ rows → IsFirstAlone g rows → notes ≡ [] → IsAlone now r
first_alone g now [] rows after [] r same lead splits alone e = subst (λ h. IsAlone h r) (sym lead) (alone r after (sym splits))
first_alone g now (y ∷ ys) rows after [] r same lead splits alone e = absurd (omega (arith, same))
first_alone g now yielded rows after (n ∷ ns) r same lead splits alone e = absurd cc
