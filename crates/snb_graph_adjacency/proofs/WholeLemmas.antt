-- The links of all rows at once.
use Rattle.std.proofs.Common.{◌≡◌, ◌↔◌, ◌⊎◌, ◌<◌, ◌++◌, ◌∷◌, [], ℕ, Bool, true, false, cond, List, Some, Result, IfOk, refl, sym, ap, ◌∙◌, subst, inl, inr, arith}
use Rattle.std.specs.List.{Contains}
use Rattle.std.proofs.lemmas.List.Elements.{All-contains, Contains-append_left, Contains-append_right, Contains-append_cases}
use Rattle.snb_schema.specs.declared.layout.KeyColumns.{KeyColumns}
use Rattle.snb_schema.specs.declared.layout.KeyColumns.TheVariants as columns
use Rattle.snb_schema.specs.declared.layout.Shape.{Shape}
use Rattle.snb_schema.specs.declared.layout.Shape.TheVariants as shapes
use Rattle.snb_schema.specs.declared.row.Row.{Row}
use Rattle.snb_schema.specs.declared.row.Row.TheVariants as row
use Rattle.snb_schema.specs.declared.table.Kind.{Kind}
use Rattle.snb_schema.specs.declared.table.Kind.TheVariants as kinds
use Rattle.snb_schema.specs.declared.table.Table.{Table}
use Rattle.snb_schema.specs.declared.table.Table.TheVariants as table
use Rattle.snb_schema.specs.Layouts.{key_columns, shape}
use Rattle.snb_schema.specs.References.{from_kind}
use Rattle.snb_schema.specs.RowValues.{table_of}
use Rattle.snb_schema.specs.TableRows.{IsTableRow}
use Rattle.snb_graph_links.specs.Pairs.{AreSingle, HasPair, Lists}
use Rattle.snb_graph_model.proofs.Laws.{in_rows}
use Rattle.snb_graph_model.specs.Graphs.{IsGraph, rows}
use Rattle.snb_graph_rows.specs.declared.keys.EdgeKey.{EdgeKey}
use Rattle.snb_graph_rows.specs.Edges.{edge_of, edge_row, link_of}
use Rattle.snb_graph_rows.specs.KeysApart.{edge_name}
use Rattle.snb_graph_rows.specs.Rows.{entry_row, rows_by}
use Rattle.snb_graph_adjacency.specs.declared.indexes.Indexes.{Indexes}
use Rattle.snb_graph_adjacency.specs.declared.link.Link.{Link}
use Rattle.snb_graph_adjacency.specs.declared.link.Walk.{Walk}
use Rattle.snb_graph_adjacency.specs.declared.link.Walk.TheVariants.{Friends, Messages, Replies, PostLikes, CommentLikes, Work, Study}
use Rattle.snb_graph_adjacency.specs.Kept.{IsIndexed, at}
use Rattle.snb_graph_adjacency.specs.Links.{IsCreatorTable, IsParentTable, LeadsTo, Tells, message_of}
use Rattle.snb_graph_adjacency.specs.LinkDelta.{IsDated, IsUndated}
use Rattle.snb_graph_adjacency.specs.Whole.{ArePairsBy, HasAddedLinks, HasEdge, IsLedBy, IsWide}
use Rattle.snb_graph_adjacency.proofs.LinkDeltaLemmas.{creators, one_message, one_node}
use Rattle.snb_graph_adjacency.proofs.TellLemmas.{told_indexed}
use Rattle.snb_base.proofs.Laws.{contains_cases, contains_here, contains_map, contains_there, if_ok, in_map}
use Rattle.std.proofs.lemmas.Option.{same_Some}

-- ---- links that are added one after another

abbrev pub Entry : Type 0
Entry = EdgeKey × ℕ

-- one of the entries gives the link
abbrev pub Gives : (Entry → ℕ → ℕ → ℕ → Type 0) → List Entry → ℕ → ℕ → ℕ → Type 0
Gives P es of id date = (e : Entry) × Contains es e × P e of id date

-- the links so far and what the rest gives are the links before and what all give
abbrev pub IsAdding : (Entry → ℕ → ℕ → ℕ → Type 0) → List (ℕ × (ℕ × ℕ)) → List (ℕ × (ℕ × ℕ)) → List Entry → List Entry → Type 0
IsAdding P old links all rest = (of id date : ℕ) → (Contains links (of, (id, date)) ⊎ Gives P rest of id date) ↔ (Contains old (of, (id, date)) ⊎ Gives P all of id date)

module _ (P : Entry → ℕ → ℕ → ℕ → Type 0) (old : List (ℕ × (ℕ × ℕ))) (all : List Entry) where
  pub adding_begun : (links : List (ℕ × (ℕ × ℕ))) (rest : List Entry) → links ≡ old → rest ≡ all → IsAdding P old links all rest
  adding_begun links rest a b of id date = (
    λ x. elim x [ inl c ↦ inl (subst (λ ls. Contains ls (of, (id, date))) a c) | inr g ↦ inr (subst (λ es. Gives P es of id date) b g) ],
    λ x. elim x [ inl c ↦ inl (subst (λ ls. Contains ls (of, (id, date))) (sym a) c) | inr g ↦ inr (subst (λ es. Gives P es of id date) (sym b) g) ],
  )

  -- what the first of the rest gives
  first_gives : (e : Entry) (rest left : List Entry) → rest ≡ e ∷ left → (of id date : ℕ) → Gives P rest of id date ↔ (P e of id date ⊎ Gives P left of id date)
  first_gives e rest left is of id date = (
    λ g. elim (contains_cases e left g.0 (subst (λ es. Contains es g.0) is g.1)) [
      | inl same ↦ inl (subst (λ (x : Entry). P x of id date) (sym same) g.2)
      | inr c ↦ inr (g.0, c, g.2)
    ],
    λ x. elim x [
      | inl p ↦ (e, subst (λ es. Contains es e) (sym is) (contains_here e left), p)
      | inr g ↦ (g.0, subst (λ es. Contains es g.0) (sym is) (contains_there e left g.0 g.1), g.2)
    ],
  )

  -- an entry that gives one link
  pub adding_one : (links : List (ℕ × (ℕ × ℕ))) (e : Entry) (rest left : List Entry) (l : ℕ × (ℕ × ℕ)) → rest ≡ e ∷ left → ((of id date : ℕ) → P e of id date ↔ ◌≡◌ {A = ℕ × (ℕ × ℕ)} l (of, (id, date))) → IsAdding P old links all rest → IsAdding P old (links ++ l ∷ []) all left
  adding_one links e rest left l is gives adding of id date = (
    λ x. (adding of id date).0 (elim x [
      | inl c ↦ elim (Contains-append_cases links (l ∷ []) (of, (id, date)) c) [
        | inl had ↦ inl had
        | inr new ↦ inr ((first_gives e rest left is of id date).1 (inl ((gives of id date).1 (only new))))
      ]
      | inr g ↦ inr ((first_gives e rest left is of id date).1 (inr g))
    ]),
    λ x. elim ((adding of id date).1 x) [
      | inl had ↦ inl (Contains-append_left links (l ∷ []) (of, (id, date)) had)
      | inr g ↦ elim ((first_gives e rest left is of id date).0 g) [
        | inl p ↦ inl (Contains-append_right links (l ∷ []) (of, (id, date)) (subst (λ (k : ℕ × (ℕ × ℕ)). Contains (l ∷ []) k) ((gives of id date).0 p) (contains_here l [])))
        | inr later ↦ inr later
      ]
    ],
  )
    where
      only : Contains (l ∷ []) (of, (id, date)) → ◌≡◌ {A = ℕ × (ℕ × ℕ)} l (of, (id, date))
      only c = elim (contains_cases l [] (of, (id, date)) c) [ inl same ↦ same | inr n ↦ absurd (omega (arith, n.1)) ]

  -- an entry that gives none
  pub adding_none : (links : List (ℕ × (ℕ × ℕ))) (e : Entry) (rest left : List Entry) → rest ≡ e ∷ left → ((of id date : ℕ) → ¬ P e of id date) → IsAdding P old links all rest → IsAdding P old links all left
  adding_none links e rest left is none adding of id date = (
    λ x. (adding of id date).0 (elim x [ inl c ↦ inl c | inr g ↦ inr ((first_gives e rest left is of id date).1 (inr g)) ]),
    λ x. elim ((adding of id date).1 x) [
      | inl had ↦ inl had
      | inr g ↦ elim ((first_gives e rest left is of id date).0 g) [ inl p ↦ absurd (none of id date p) | inr later ↦ inr later ]
    ],
  )

  pub adding_ended : (links : List (ℕ × (ℕ × ℕ))) (rest : List Entry) (More : ℕ → ℕ → ℕ → Type 0) → rest ≡ [] → ((of id date : ℕ) → Gives P all of id date ↔ More of id date) → IsAdding P old links all rest → HasAddedLinks old More links
  adding_ended links rest More is gives adding of id date = (
    λ c. elim ((adding of id date).0 (inl c)) [ inl had ↦ inl had | inr g ↦ inr ((gives of id date).0 g) ],
    λ x. elim ((adding of id date).1 (elim x [ inl had ↦ inl had | inr more ↦ inr ((gives of id date).1 more) ])) [
      | inl c ↦ c
      | inr g ↦ absurd (let none = subst (λ es. Contains es g.0) is g.1 in omega (arith, none.1))
    ],
  )

-- ---- entries and their rows

link_table : (c : KeyColumns) (t : Table) (a b n : ℕ) → table_of (link_of c t a b n) ≡ t
link_table columns.First t a b n = refl
link_table columns.Second t a b n = refl
link_table columns.FirstTwo t a b n = refl

edge_table : (s : Shape) (c : KeyColumns) (t : Table) (a b n : ℕ) → table_of (edge_of s c t a b n) ≡ t
edge_table shapes.Dated c t a b n = refl
edge_table shapes.Yeared c t a b n = refl
edge_table s c t a b n = link_table c t a b n

module _ (g : List Row) (t : Table) (es : List Entry) (are : rows_by (entry_row edge_name edge_row) es ≡ rows g t) where
  -- an entry's row is one of the table's
  entry_row_there : (e : Entry) → Contains es e → (e.0.table ≡ t) × Contains g (edge_row (edge_name e.0) e.1)
  entry_row_there e c =
      let r = edge_row (edge_name e.0) e.1 in
      let has = (in_rows g t r).0 (subst (λ rs. Contains rs r) are (contains_map (λ (x : Entry). edge_row (edge_name x.0) x.1) es e c)) in
      (sym (edge_table (shape e.0.table) (key_columns e.0.table) e.0.table e.0.first e.0.second e.1) ∙ has.1, has.0)

  -- and a row of the table an entry's
  row_entry : (r : Row) → Contains g r → table_of r ≡ t → (e : Entry) × Contains es e × (edge_row (edge_name e.0) e.1 ≡ r)
  row_entry r c is = in_map (λ (x : Entry). edge_row (edge_name x.0) x.1) es r (subst (λ rs. Contains rs r) (sym are) ((in_rows g t r).1 (c, is)))

-- the link of an edge with a date or a year
abbrev pub link_of_entry : Bool → Entry → ℕ × (ℕ × ℕ)
link_of_entry true e = (e.0.second, (e.0.first, e.1))
link_of_entry false e = (e.0.first, (e.0.second, e.1))

abbrev pub GivesEdge : Bool → Entry → ℕ → ℕ → ℕ → Type 0
GivesEdge back e of id date = ◌≡◌ {A = ℕ × (ℕ × ℕ)} (link_of_entry back e) (of, (id, date))

pub gives_edge_back : (back : Bool) (e : Entry) → back ≡ true → (of id date : ℕ) → GivesEdge back e of id date ↔ ◌≡◌ {A = ℕ × (ℕ × ℕ)} (e.0.second, (e.0.first, e.1)) (of, (id, date))
gives_edge_back true e is of id date = (λ x. x, λ x. x)
gives_edge_back false e is of id date = absurd cc

pub gives_edge_forth : (back : Bool) (e : Entry) → back ≡ false → (of id date : ℕ) → GivesEdge back e of id date ↔ ◌≡◌ {A = ℕ × (ℕ × ℕ)} (e.0.first, (e.0.second, e.1)) (of, (id, date))
gives_edge_forth false e is of id date = (λ x. x, λ x. x)
gives_edge_forth true e is of id date = absurd cc

abbrev ends : Row → ℕ × (ℕ × ℕ)
ends (row.Dated t a b d) = (a, (b, d))
ends (row.Yeared t a b y) = (a, (b, y))
ends r = (0, (0, 0))

wide_ends : (t : Table) (a b n : ℕ) → IsWide t → ends (edge_row (t, a, b, []) n) ≡ (a, (b, n))
wide_ends t a b n (inl is) = ap (λ s. ends (edge_of s (key_columns t) t a b n)) is
wide_ends t a b n (inr is) = ap (λ s. ends (edge_of s (key_columns t) t a b n)) is

pub gives_edges : (g : List Row) (t : Table) (back : Bool) (es : List Entry) → rows_by (entry_row edge_name edge_row) es ≡ rows g t → IsWide t → (of id date : ℕ) → Gives (GivesEdge back) es of id date ↔ HasEdge g t back of id date
gives_edges g t true es are wide of id date = (
  λ x.
      let there = entry_row_there g t es are x.0 x.1 in
      let here = subst (λ u. Contains g (edge_row (u, x.0.0.first, x.0.0.second, []) x.0.1)) there.0 there.1 in
      subst (λ (l : ℕ × (ℕ × ℕ)). Contains g (edge_row (t, l.1.0, l.0, []) l.1.1)) x.2 here,
  λ c.
      let e = row_entry g t es are (edge_row (t, id, of, []) date) c (edge_table (shape t) (key_columns t) t id of date) in
      let own = (entry_row_there g t es are e.0 e.1).0 in
      let same = sym (wide_ends t e.0.0.first e.0.0.second e.0.1 wide) ∙ ap (λ u. ends (edge_row (u, e.0.0.first, e.0.0.second, []) e.0.1)) (sym own) ∙ ap ends e.2 ∙ wide_ends t id of date wide in
      (e.0, e.1, λ i. ((same i).1.0, ((same i).0, (same i).1.1))),
)
gives_edges g t false es are wide of id date = (
  λ x.
      let there = entry_row_there g t es are x.0 x.1 in
      let here = subst (λ u. Contains g (edge_row (u, x.0.0.first, x.0.0.second, []) x.0.1)) there.0 there.1 in
      subst (λ (l : ℕ × (ℕ × ℕ)). Contains g (edge_row (t, l.0, l.1.0, []) l.1.1)) x.2 here,
  λ c.
      let e = row_entry g t es are (edge_row (t, of, id, []) date) c (edge_table (shape t) (key_columns t) t of id date) in
      let own = (entry_row_there g t es are e.0 e.1).0 in
      (e.0, e.1, sym (wide_ends t e.0.0.first e.0.0.second e.0.1 wide) ∙ ap (λ u. ends (edge_row (u, e.0.0.first, e.0.0.second, []) e.0.1)) (sym own) ∙ ap ends e.2 ∙ wide_ends t of id date wide),
)

-- ---- edges that lead from messages

abbrev pub GivesMessage : List Row → Kind → Entry → ℕ → ℕ → ℕ → Type 0
GivesMessage g kind e of id date = (e.1 ≡ of) × (e.0.first ≡ id) × IsDated g kind id date

-- a message has one date
one_date : (g : List Row) → IsGraph g → (k j : Kind) (id d e : ℕ) → IsDated g k id d → IsDated g j id e → d ≡ e
one_date g graph k j id d e a b =
    let same = one_node IsCreatorTable creators g graph a.0 b.0 k j id id d e a.1 b.1 refl a.2 b.2 in
    ap (λ (x : Kind × ℕ × ℕ). x.2) (one_message a.0 k j id d id e a.2 (ap message_of same ∙ b.2))

pub dated_gives : (g : List Row) → IsGraph g → (kind : Kind) (e : Entry) (d : ℕ) → IsDated g kind e.0.first d → (of id date : ℕ) → GivesMessage g kind e of id date ↔ ◌≡◌ {A = ℕ × (ℕ × ℕ)} (e.1, (e.0.first, d)) (of, (id, date))
dated_gives g graph kind e d dated of id date = (
  λ x. (let at = one_date g graph kind kind id d date (subst (λ i. IsDated g kind i d) x.1 dated) x.2 in λ i. (x.0 i, (x.1 i, at i))),
  λ same. (ap (λ (l : ℕ × (ℕ × ℕ)). l.0) same, ap (λ (l : ℕ × (ℕ × ℕ)). l.1.0) same, subst (λ (l : ℕ × (ℕ × ℕ)). IsDated g kind l.1.0 l.1.1) same dated),
)

pub undated_gives : (g : List Row) (kind : Kind) (e : Entry) → IsUndated g kind e.0.first → (of id date : ℕ) → ¬ GivesMessage g kind e of id date
undated_gives g kind e none of id date x = none x.2.0 date (x.2.2 ∙ ap (λ i. Some (kind, i, date)) (sym x.1)) x.2.1

abbrev link_ends : Row → ℕ × ℕ
link_ends (row.Link t a b) = (a, b)
link_ends r = (0, 0)

first_row : (t : Table) (a b n : ℕ) → shape t ≡ shapes.Link → key_columns t ≡ columns.First → edge_row (t, a, b, []) n ≡ row.Link t a n
first_row t a b n is first = ap (λ s. edge_of s (key_columns t) t a b n) is ∙ ap (λ c. link_of c t a b n) first

pub gives_messages : (g : List Row) (t : Table) (kind : Kind) (es : List Entry) → rows_by (entry_row edge_name edge_row) es ≡ rows g t → shape t ≡ shapes.Link → key_columns t ≡ columns.First → (of id date : ℕ) → Gives (GivesMessage g kind) es of id date ↔ IsLedBy g t kind of id date
gives_messages g t kind es are is first of id date = (
  λ x.
      let there = entry_row_there g t es are x.0 x.1 in
      let here = subst (λ u. Contains g (edge_row (u, x.0.0.first, x.0.0.second, []) x.0.1)) there.0 there.1 in
      let link = subst (Contains g) (first_row t x.0.0.first x.0.0.second x.0.1 is first) here in
      (subst (λ (l : ℕ × ℕ). Contains g (row.Link t l.0 l.1)) (λ i. (x.2.1 i, x.2.0 i)) link, x.2.2),
  λ c.
      let e = row_entry g t es are (row.Link t id of) c.0 refl in
      let own = (entry_row_there g t es are e.0 e.1).0 in
      let same = sym (first_row t e.0.0.first e.0.0.second e.0.1 is first) ∙ ap (λ u. edge_row (u, e.0.0.first, e.0.0.second, []) e.0.1) (sym own) ∙ e.2 in
      (e.0, e.1, (ap (λ r. (link_ends r).1) same, ap (λ r. (link_ends r).0) same, c.1)),
)

-- ---- links with the same ends have one date

dated_once : (g : List Row) → IsGraph g → (t : Table) (a b d e : ℕ) → Contains g (row.Dated t a b d) → Contains g (row.Dated t a b e) → d ≡ e
dated_once g graph t a b d e c x = ap (λ r. (ends r).1.1) (graph.apart (row.Dated t a b d) (row.Dated t a b e) c x refl)

yeared_once : (g : List Row) → IsGraph g → (t : Table) (a b d e : ℕ) → Contains g (row.Yeared t a b d) → Contains g (row.Yeared t a b e) → d ≡ e
yeared_once g graph t a b d e c x = ap (λ r. (ends r).1.1) (graph.apart (row.Yeared t a b d) (row.Yeared t a b e) c x refl)

lower_first : (g : List Row) → IsGraph g → (a b d : ℕ) → Contains g (row.Dated table.PersonKnowsPerson a b d) → a < b
lower_first g graph a b d c = (All-contains IsTableRow g (row.Dated table.PersonKnowsPerson a b d) graph.of_tables c).in_order

pub tells_once : (g : List Row) → IsGraph g → (w : Walk) (of id d e : ℕ) → Tells g w of id d → Tells g w of id e → d ≡ e
tells_once g graph Friends of id d e (inl c) (inl x) = dated_once g graph table.PersonKnowsPerson of id d e c x
tells_once g graph Friends of id d e (inr c) (inr x) = dated_once g graph table.PersonKnowsPerson id of d e c x
tells_once g graph Friends of id d e (inl c) (inr x) = let one = lower_first g graph of id d c in let two = lower_first g graph id of e x in absurd (omega arith)
tells_once g graph Friends of id d e (inr c) (inl x) = let one = lower_first g graph id of d c in let two = lower_first g graph of id e x in absurd (omega arith)
tells_once g graph Messages of id d e c x = one_date g graph c.kind x.kind id d e (c.node, c.held, c.is) (x.node, x.held, x.is)
tells_once g graph Replies of id d e c x = one_date g graph c.kind x.kind id d e (c.node, c.held, c.is) (x.node, x.held, x.is)
tells_once g graph PostLikes of id d e c x = dated_once g graph table.PersonLikesPost id of d e c x
tells_once g graph CommentLikes of id d e c x = dated_once g graph table.PersonLikesComment id of d e c x
tells_once g graph Work of id d e c x = yeared_once g graph table.PersonWorkAtOrganisation of id d e c x
tells_once g graph Study of id d e c x = yeared_once g graph table.PersonStudyAtOrganisation of id d e c x

-- links that the rows tell of have one date
pub told_single : (g : List Row) → IsGraph g → (w : Walk) (links : List (ℕ × (ℕ × ℕ))) → ((of id date : ℕ) → Contains links (of, (id, date)) ↔ Tells g w of id date) → AreSingle links
told_single g graph w links told of id d e c x = tells_once g graph w of id d e ((told of id d).0 c) ((told of id e).0 x)

-- ---- the links of each walk

pub one_added : (A : ℕ → ℕ → ℕ → Type 0) (none one : List (ℕ × (ℕ × ℕ))) → none ≡ [] → HasAddedLinks none A one → (of id date : ℕ) → Contains one (of, (id, date)) ↔ A of id date
one_added A none one is has of id date = (
  λ c. elim ((has of id date).0 c) [ inl old ↦ absurd (let n = subst (λ ls. Contains ls (of, (id, date))) is old in omega (arith, n.1)) | inr a ↦ a ],
  λ a. (has of id date).1 (inr a),
)

pub two_added : (A B : ℕ → ℕ → ℕ → Type 0) (none one two : List (ℕ × (ℕ × ℕ))) → none ≡ [] → HasAddedLinks none A one → HasAddedLinks one B two → (of id date : ℕ) → Contains two (of, (id, date)) ↔ (A of id date ⊎ B of id date)
two_added A B none one two is has then of id date = (
  λ c. elim ((then of id date).0 c) [ inl old ↦ inl ((one_added A none one is has of id date).0 old) | inr b ↦ inr b ],
  λ x. (then of id date).1 (elim x [ inl a ↦ inl ((one_added A none one is has of id date).1 a) | inr b ↦ inr b ]),
)

led_there : (F : Table → Type 0) (g : List Row) (t : Table) (k : Kind) (of id date : ℕ) → F t → from_kind t ≡ Some k → IsLedBy g t k of id date → LeadsTo F g of id date
led_there F g t k of id date among from x = record { edge = t; among = among; kind = k; from = from; node = x.1.0; linked = x.0; held = x.1.1; is = x.1.2 }

led_here : (F : Table → Type 0) (g : List Row) (t : Table) (k : Kind) (of id date : ℕ) → from_kind t ≡ Some k → (l : LeadsTo F g of id date) → l.edge ≡ t → IsLedBy g t k of id date
led_here F g t k of id date from l is =
    let kind : l.kind ≡ k = same_Some l.kind k (sym l.from ∙ ap from_kind is ∙ from) in
    (subst (λ u. Contains g (row.Link u id of)) is l.linked, (l.node, l.held, l.is ∙ ap (λ j. Some (j, id, date)) kind))

pub messages_told : (g : List Row) (of id date : ℕ) → (IsLedBy g table.PostHasCreatorPerson kinds.Post of id date ⊎ IsLedBy g table.CommentHasCreatorPerson kinds.Comment of id date) ↔ Tells g Messages of id date
messages_told g of id date = (
  λ x. elim x [
    | inl post ↦ led_there IsCreatorTable g table.PostHasCreatorPerson kinds.Post of id date (inl refl) refl post
    | inr comment ↦ led_there IsCreatorTable g table.CommentHasCreatorPerson kinds.Comment of id date (inr refl) refl comment
  ],
  λ l. elim l.among [
    | inl is ↦ inl (led_here IsCreatorTable g table.PostHasCreatorPerson kinds.Post of id date refl l is)
    | inr is ↦ inr (led_here IsCreatorTable g table.CommentHasCreatorPerson kinds.Comment of id date refl l is)
  ],
)

pub replies_told : (g : List Row) (of id date : ℕ) → (IsLedBy g table.CommentReplyOfPost kinds.Comment of id date ⊎ IsLedBy g table.CommentReplyOfComment kinds.Comment of id date) ↔ Tells g Replies of id date
replies_told g of id date = (
  λ x. elim x [
    | inl post ↦ led_there IsParentTable g table.CommentReplyOfPost kinds.Comment of id date (inl refl) refl post
    | inr comment ↦ led_there IsParentTable g table.CommentReplyOfComment kinds.Comment of id date (inr refl) refl comment
  ],
  λ l. elim l.among [
    | inl is ↦ inl (led_here IsParentTable g table.CommentReplyOfPost kinds.Comment of id date refl l is)
    | inr is ↦ inr (led_here IsParentTable g table.CommentReplyOfComment kinds.Comment of id date refl l is)
  ],
)

pub both : {A B C : Type 0} → A ↔ B → B ↔ C → A ↔ C
both f h = (λ a. h.0 (f.0 a), λ c. f.1 (h.1 c))

-- an edge of a table of edges with a date or a year is single
pub edges_once : (g : List Row) → IsGraph g → (t : Table) (back : Bool) (of id d e : ℕ) → IsWide t → HasEdge g t back of id d → HasEdge g t back of id e → d ≡ e
edges_once g graph t back of id d e (inl is) c x = dated_once g graph t (cond back id of) (cond back of id) d e (subst (λ s. Contains g (edge_of s (key_columns t) t (cond back id of) (cond back of id) d)) is c) (subst (λ s. Contains g (edge_of s (key_columns t) t (cond back id of) (cond back of id) e)) is x)
edges_once g graph t back of id d e (inr is) c x = yeared_once g graph t (cond back id of) (cond back of id) d e (subst (λ s. Contains g (edge_of s (key_columns t) t (cond back id of) (cond back of id) d)) is c) (subst (λ s. Contains g (edge_of s (key_columns t) t (cond back id of) (cond back of id) e)) is x)

pub edges_single : (g : List Row) → IsGraph g → (t : Table) (back : Bool) (links : List (ℕ × (ℕ × ℕ))) → IsWide t → ((of id date : ℕ) → Contains links (of, (id, date)) ↔ HasEdge g t back of id date) → AreSingle links
edges_single g graph t back links wide told of id d e c x = edges_once g graph t back of id d e wide ((told of id d).0 c) ((told of id e).0 x)

-- the maps of all walks are the links of the rows
pub whole_indexed : (g : List Row) (s : Indexes) → IsGraph g → ArePairsBy (Tells g Friends) s.friends → ArePairsBy (Tells g Messages) s.messages → ArePairsBy (Tells g Replies) s.replies → ArePairsBy (Tells g PostLikes) s.post_likes → ArePairsBy (Tells g CommentLikes) s.comment_likes → ArePairsBy (Tells g Work) s.work → ArePairsBy (Tells g Study) s.study → IsIndexed g s
whole_indexed g s graph friends messages replies post_likes comment_likes work study = told_indexed g s graph (λ l. by l.walk l.of l.id l.date)
  where
    by : (w : Walk) (of id date : ℕ) → HasPair (at s w) of id date ↔ Tells g w of id date
    by Friends of id date = friends of id date
    by Messages of id date = messages of id date
    by Replies of id date = replies of id date
    by PostLikes of id date = post_likes of id date
    by CommentLikes of id date = comment_likes of id date
    by Work of id date = work of id date
    by Study of id date = study of id date

-- a map of links is one of what these are
pub pairs_by : {E : Type 0} (Are : ℕ → ℕ → ℕ → Type 0) (links : List (ℕ × (ℕ × ℕ))) (r : Result (Lists × Lists) E) → ((of id date : ℕ) → Contains links (of, (id, date)) ↔ Are of id date) → IfOk r (λ all. (of id date : ℕ) → HasPair all of id date ↔ Contains links (of, (id, date))) → IfOk r (ArePairsBy Are)
pairs_by Are links r are has = if_ok r (λ all h of id date. both (h of id date) (are of id date)) has
