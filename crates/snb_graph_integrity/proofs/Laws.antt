-- Laws that proofs above cite: tests of tables and slots, and what lists put together hold.
use Rattle.std.proofs.Common.{◌≡◌, List, [], ◌∷◌, Decides, sym, ap, subst, inl, inr, arith}
use Rattle.std.proofs.lemmas.Bool.Decides.{Decides-and, Decides-eqb, Decides-like}
use Rattle.std.proofs.lemmas.List.Elements.{Contains-append_left, Contains-append_right}
use Rattle.std.proofs.lemmas.List.Folds.{Any-from_list_any, list_any-from_Any}
use Rattle.std.proofs.lemmas.Slice.Eq.{bytes_eq-Decides}
use Rattle.std.specs.List.{Contains, flat_map}
use Rattle.std.specs.Str.{bytes_eq}
use denote.Enum.Bare.{true_same}
use Rattle.snb_schema.specs.contracts.table.Table.{the_type as the_table}
use Rattle.snb_schema.specs.declared.row.Row.{Row}
use Rattle.snb_schema.specs.declared.table.Table.{Table}
use Rattle.snb_schema.specs.RowKeys.{RowKey, slot_of}
use Rattle.snb_schema.specs.TableOrder.{same_table}
use Rattle.snb_graph_model.proofs.Laws.{same_is}
use Rattle.snb_graph_model.specs.Graphs.{HasSlot, fills, same_key}
use Rattle.snb_base.proofs.Laws.{contains_cases}

-- tables are one exactly where the test says so
pub table_decides : (t u : Table) → Decides (same_table t u) (t ≡ u)
table_decides t u = (same_is t u, true_same the_table t u)

pub key_decides : (j k : RowKey) → Decides (same_key j k) (j ≡ k)
key_decides j k =
    Decides-like (same_key j k) (λ p i. (p.0.0.0 i, p.0.0.1 i, p.0.1 i, p.1 i)) (λ e. (((ap (λ x. x.0) e, ap (λ x. x.1) e), ap (λ x. x.2) e), ap (λ x. x.3) e))
    (Decides-and _ (bytes_eq j.3 k.3) (Decides-and _ _ (Decides-and (same_table j.0 k.0) _ (table_decides j.0 k.0) (Decides-eqb j.1 k.1)) (Decides-eqb j.2 k.2)) (bytes_eq-Decides j.3 k.3))

-- a slot is filled exactly where the test says so
pub fills_decides : (g : List Row) (s : RowKey) → Decides (fills g s) (HasSlot g s)
fills_decides g s = (
  λ e.
      let found = Any-from_list_any (λ r. same_key (slot_of r) s) g e in
      record { it = found.1; held = (found.0, found.2, found.3); fills = (key_decides (slot_of found.1) s).0 found.4 },
  λ has. list_any-from_Any (λ r. same_key (slot_of r) s) g (has.held.0, has.it, has.held.1, has.held.2, (key_decides (slot_of has.it) s).1 has.fills),
)

-- what one of the lists has is in all of them together
pub in_flat_map : {X A : Type 0} (f : X → List A) (xs : List X) (x : X) (a : A) → Contains xs x → Contains (f x) a → Contains (flat_map f xs) a
in_flat_map f [] x a c h = absurd (omega (arith, c.1))
in_flat_map f (y ∷ ys) x a c h = elim (contains_cases y ys x c) [
  | inl e ↦ Contains-append_left (f y) (flat_map f ys) a (subst (λ z. Contains (f z) a) (sym e) h)
  | inr later ↦ Contains-append_right (f y) (flat_map f ys) a (in_flat_map f ys x a later h)
]
