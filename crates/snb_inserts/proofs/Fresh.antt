-- Rows with slots of some tables, of which none is filled in a graph, and no two are one.
use Rattle.std.proofs.Common.{◌≡◌, ◌≢◌, ◌∙◌, ◌++◌, ◌∷◌, ℕ, List, [], true, false, Some, map, sym, ap, subst, inl, inr}
use Rattle.std.proofs.lemmas.Bool.{false≢true, or_cases, or_left, or_right}
use Rattle.std.proofs.lemmas.List.Elements.{Contains-append_cases, Contains-append_right}
use Rattle.std.specs.List.{AllByRecursion, Contains, list_any}
use Rattle.snb_schema.specs.declared.row.Row.{Row}
use Rattle.snb_schema.specs.declared.row.Row.TheVariants as row
use Rattle.snb_schema.specs.declared.table.Kind.{Kind}
use Rattle.snb_schema.specs.declared.table.Table.{Table}
use Rattle.snb_schema.specs.RowKeys.{RowKey, node_key, slot, slot_of}
use Rattle.snb_schema.specs.TableOrder.{same_table}
use Rattle.snb_graph.specs.Additions.{AreNew}
use Rattle.snb_graph_integrity.proofs.Laws.{table_decides}
use Rattle.snb_graph_model.proofs.Laws.{of_each}
use Rattle.snb_graph_model.specs.Graphs.{HasSlot, IsGraph}
use Rattle.snb_inserts.proofs.ListRows.{links, stays, words}
use Rattle.snb_graph_model.specs.Soundness.{HoldsRefs}
use Rattle.snb_inserts.proofs.Apart.{AreApart, apart_before, apart_both, apart_mapped}
use Rattle.snb_inserts.proofs.Lists.{each_both, each_given, each_weaker}
use Rattle.snb_inserts.proofs.Owners.{none_owned, owner}
use Rattle.snb_base.proofs.Laws.{contains_here}

-- the table is one of these
abbrev pub IsAmong : List Table → Table → Type 0
IsAmong ts t = list_any (same_table t) ts ≡ true

-- none of these tables is one of the others
abbrev pub AreOthers : List Table → List Table → Type 0
AreOthers us ts = AllByRecursion (λ t. list_any (same_table t) us ≡ false) ts

-- rows with slots of these tables, of which none is filled in the graph, and no two are one
pub record AreFresh (g : List Row) (ts : List Table) (rs : List Row) : Type 0 where
  pub of : AllByRecursion (λ r. IsAmong ts (slot_of r).0) rs
  pub free : AllByRecursion (λ r. ¬ HasSlot g (slot_of r)) rs
  pub apart : AreApart slot_of rs

-- ---- tables

-- a table that is one of these is none of the others
no_other : (ts us : List Table) → AreOthers us ts → (t : Table) → IsAmong ts t → ¬ IsAmong us t
no_other [] us others t among other = false≢true among
no_other (u ∷ ts) us others t among other = elim (or_cases (same_table t u) (list_any (same_table t) ts) among) [
  | inl same ↦ false≢true (sym others.0 ∙ ap (λ v. list_any (same_table v) us) (sym ((table_decides t u).0 same)) ∙ other)
  | inr later ↦ no_other ts us others.1 t later other
]

-- a table that is one of these is one of more
among_first : (ts us : List Table) (t : Table) → IsAmong ts t → IsAmong (ts ++ us) t
among_first [] us t among = absurd (false≢true among)
among_first (u ∷ ts) us t among = elim (or_cases (same_table t u) (list_any (same_table t) ts) among) [
  | inl same ↦ or_left (same_table t u) (list_any (same_table t) (ts ++ us)) same
  | inr later ↦ or_right (same_table t u) (list_any (same_table t) (ts ++ us)) (among_first ts us t later)
]

among_second : (ts us : List Table) (t : Table) → IsAmong us t → IsAmong (ts ++ us) t
among_second [] us t among = among
among_second (u ∷ ts) us t among = or_right (same_table t u) (list_any (same_table t) (ts ++ us)) (among_second ts us t among)

-- ---- rows

-- rows of some tables, and others of others
pub joined : {g : List Row} {ts us : List Table} {rs qs : List Row} → AreFresh g ts rs → AreFresh g us qs → AreOthers us ts → AreFresh g (ts ++ us) (rs ++ qs)
joined {g} {ts} {us} {rs} {qs} one other others = record {
  of = each_both (λ r. IsAmong (ts ++ us) (slot_of r).0) rs qs
      (each_weaker (λ r. IsAmong ts (slot_of r).0) (λ r. IsAmong (ts ++ us) (slot_of r).0) (λ r. among_first ts us (slot_of r).0) rs one.of)
      (each_weaker (λ r. IsAmong us (slot_of r).0) (λ r. IsAmong (ts ++ us) (slot_of r).0) (λ r. among_second ts us (slot_of r).0) qs other.of);
  free = each_both (λ r. ¬ HasSlot g (slot_of r)) rs qs one.free other.free;
  apart = apart_both slot_of rs qs one.apart other.apart (each_weaker (λ r. IsAmong ts (slot_of r).0) (λ r. AllByRecursion (λ q. slot_of r ≢ slot_of q) qs)
      (λ r of. each_weaker (λ q. IsAmong us (slot_of q).0) (λ q. slot_of r ≢ slot_of q)
      (λ q off same. no_other ts us others (slot_of q).0 (subst (λ (s : RowKey). IsAmong ts s.0) same of) off) qs other.of) rs one.of);
}

-- one row
pub single : {g : List Row} (t : Table) (r : Row) → (slot_of r).0 ≡ t → ¬ HasSlot g (slot_of r) → AreFresh g (t ∷ []) (r ∷ [])
single {g} t r is free = record { of = (or_left (same_table (slot_of r).0 t) false ((table_decides (slot_of r).0 t).1 is), tt); free = (free, tt); apart = (tt, tt) }

-- such rows are new
pub are_new : (g : List Row) (ts : List Table) (more : List Row) → AreFresh g ts more → AreNew g more
are_new g ts more fresh clash = elim (Contains-append_cases g clash.before clash.filled.it clash.filled.held) [
  | inl old ↦ of_each (λ r. ¬ HasSlot g (slot_of r)) more fresh.free clash.one
      (subst (λ l. Contains l clash.one) clash.splits (Contains-append_right clash.before (clash.one ∷ clash.after) clash.one (contains_here clash.one clash.after)))
      (record { it = clash.filled.it; held = old; fills = clash.filled.fills })
  | inr earlier ↦ apart_before slot_of clash.before clash.one clash.after (subst (AreApart slot_of) (sym clash.splits) fresh.apart) clash.filled.it earlier clash.filled.fills
]

-- ---- the rows of a node that is new

-- in a graph whose references are held the node's slot isn't filled
pub record IsAbsent (g : List Row) (k : Kind) (id : ℕ) : Type 0 where
  pub graph : IsGraph g
  pub held : HoldsRefs g
  pub free : ¬ HasSlot g (slot (node_key k id))

-- no slot of an edge or a word that begins with the node's id is filled
unfilled : {g : List Row} {k : Kind} {id : ℕ} → IsAbsent g k id → (t : Table) (r : Row) (second : ℕ) (text : List ℕ) → owner t ≡ Some k → slot_of r ≡ (t, id, second, text) → ¬ HasSlot g (slot_of r)
unfilled {g} {k} {id} new t r second text owned is =
    none_owned g new.graph new.held k id new.free (slot_of r) (ap (λ (s : RowKey). owner s.0) is ∙ owned) (ap (λ (s : RowKey). s.1) is)

-- an edge whose key is the node's id
pub edge_fresh : {g : List Row} {k : Kind} {id : ℕ} → IsAbsent g k id → (t : Table) (r : Row) → owner t ≡ Some k → slot_of r ≡ (t, id, 0, []) → AreFresh g (t ∷ []) (r ∷ [])
edge_fresh new t r owned is = single t r (ap (λ (s : RowKey). s.0) is) (unfilled new t r 0 [] owned is)

-- rows whose keys begin with the node's id
module _ {g : List Row} {k : Kind} {id : ℕ} (new : IsAbsent g k id) (t : Table) (owned : owner t ≡ Some k) where
  list_fresh : {X Y : Type 0} (h : X → Row) (second : X → ℕ) (text : X → List ℕ) (f : X → Y) → ((x : X) → slot_of (h x) ≡ (t, id, second x, text x)) → ((x y : X) → second x ≡ second y → text x ≡ text y → f x ≡ f y)
      → (xs : List X) → AreApart f xs → AreFresh g (t ∷ []) (map h xs)
  list_fresh h second text f is one xs apart = record {
    of = each_given (λ r. IsAmong (t ∷ []) (slot_of r).0) h (λ x. or_left (same_table (slot_of (h x)).0 t) false ((table_decides (slot_of (h x)).0 t).1 (ap (λ (s : RowKey). s.0) (is x)))) xs;
    free = each_given (λ r. ¬ HasSlot g (slot_of r)) h (λ x. unfilled new t (h x) (second x) (text x) owned (is x)) xs;
    apart = apart_mapped f slot_of h (λ x y same. let e = sym (is x) ∙ same ∙ is y in one x y (ap (λ (s : RowKey). s.2) e) (ap (λ (s : RowKey). s.3) e)) xs apart;
  }

  -- links
  pub links_fresh : (ends : List ℕ) → ((to : ℕ) → slot_of (row.Link t id to) ≡ (t, id, to, [])) → AreApart (λ to. to) ends → AreFresh g (t ∷ []) (links t id ends)
  links_fresh ends is apart = list_fresh (λ to. row.Link t id to) (λ to. to) (λ to. []) (λ to. to) is (λ x y to text. to) ends apart

  -- edges with years
  pub stays_fresh : (ends : List (ℕ × ℕ)) → ((to : ℕ × ℕ) → slot_of (row.Yeared t id to.0 to.1) ≡ (t, id, to.0, [])) → AreApart (λ to. to.0) ends → AreFresh g (t ∷ []) (stays t id ends)
  stays_fresh ends is apart = list_fresh (λ to. row.Yeared t id to.0 to.1) (λ to. to.0) (λ to. []) (λ to. to.0) is (λ x y to text. to) ends apart

  -- words
  pub words_fresh : (texts : List (List ℕ)) → ((text : List ℕ) → slot_of (row.Word t id text) ≡ (t, id, 0, text)) → AreApart (λ text. text) texts → AreFresh g (t ∷ []) (words t id texts)
  words_fresh texts is apart = list_fresh (λ text. row.Word t id text) (λ text. 0) (λ text. text) (λ text. text) is (λ x y to text. text) texts apart
