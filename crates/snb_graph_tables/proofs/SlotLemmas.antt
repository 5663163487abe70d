-- Slots and keys.
use Rattle.std.proofs.Common.{◌≡◌, ◌↔◌, ℕ, ◌⊎◌, List, Bool, false, Option, Some, None, IsTrue, refl, sym, ap, ◌∙◌, subst, inl, inr}
use Rattle.std.specs.List.{Contains}
use Rattle.snb_schema.specs.declared.row.Row.{Row}
use Rattle.snb_schema.specs.declared.table.Table.{Table}
use Rattle.snb_schema.specs.declared.table.Table.TheVariants as table
use Rattle.snb_schema.specs.Layouts.{shape}
use Rattle.std.specs.Option.{unwrap_or, IfSome}
use mathlib.Core.Bool.{false≢true}
use Rattle.snb_schema.specs.RowKeys.{RowKey, row_key, slot, sharing}
use Rattle.snb_graph_rows.specs.Keyed.{key_table}
use Rattle.snb_graph_tables.specs.Twins.{twin, HasTwin}
use Rattle.snb_graph_model.specs.Graphs.{part_of, HasKey, HasSlot}
use Rattle.snb_graph_tables.specs.Parts.{joined, IsWhole}
use Rattle.snb_graph_tables.proofs.PartLemmas.{at, in_part, part_among}

-- a table shares its keys with itself alone, or is one of two
unshared : (t v : Table) → sharing t ≡ v → (t ≡ v) ⊎ ((t ≡ table.Comment) × (v ≡ table.Post)) ⊎ ((t ≡ table.CommentReplyOfComment) × (v ≡ table.CommentReplyOfPost))
unshared table.Comment v e = inr (inl (refl, sym e))
unshared table.CommentReplyOfComment v e = inr (inr (refl, sym e))
unshared t v e = inl e

-- two tables that share their keys are one, or twins
pub shared : (t u : Table) → sharing t ≡ sharing u → (t ≡ u) ⊎ (twin u ≡ Some t)
shared t u e = by (sharing u) (unshared t (sharing u) e) (unshared u (sharing u) refl)
  where
    by : (v : Table) → (t ≡ v) ⊎ ((t ≡ table.Comment) × (v ≡ table.Post)) ⊎ ((t ≡ table.CommentReplyOfComment) × (v ≡ table.CommentReplyOfPost)) →
        (u ≡ v) ⊎ ((u ≡ table.Comment) × (v ≡ table.Post)) ⊎ ((u ≡ table.CommentReplyOfComment) × (v ≡ table.CommentReplyOfPost)) → (t ≡ u) ⊎ (twin u ≡ Some t)
    by v (inl a) (inl b) = inl (a ∙ sym b)
    by v (inl a) (inr (inl b)) = inr (ap twin b.0 ∙ ap Some (sym b.1 ∙ sym a))
    by v (inl a) (inr (inr b)) = inr (ap twin b.0 ∙ ap Some (sym b.1 ∙ sym a))
    by v (inr (inl a)) (inl b) = inr (ap twin (b ∙ a.1) ∙ ap Some (sym a.0))
    by v (inr (inl a)) (inr (inl b)) = inl (a.0 ∙ sym b.0)
    by v (inr (inl a)) (inr (inr b)) = let e = sym a.1 ∙ b.1 in absurd cc
    by v (inr (inr a)) (inl b) = inr (ap twin (b ∙ a.1) ∙ ap Some (sym a.0))
    by v (inr (inr a)) (inr (inl b)) = let e = sym a.1 ∙ b.1 in absurd cc
    by v (inr (inr a)) (inr (inr b)) = inl (a.0 ∙ sym b.0)

-- twins share their keys
twins_share : (u t : Table) → twin u ≡ Some t → sharing t ≡ sharing u
twins_share table.Post t e = ap (λ o. elim o as (λ _. Table) [ Some x ↦ sharing x | None ↦ table.Post ]) (sym e)
twins_share table.Comment t e = ap (λ o. elim o as (λ _. Table) [ Some x ↦ sharing x | None ↦ table.Post ]) (sym e)
twins_share table.CommentReplyOfPost t e = ap (λ o. elim o as (λ _. Table) [ Some x ↦ sharing x | None ↦ table.Post ]) (sym e)
twins_share table.CommentReplyOfComment t e = ap (λ o. elim o as (λ _. Table) [ Some x ↦ sharing x | None ↦ table.Post ]) (sym e)
twins_share u t e = absurd cc

-- a slot is filled by a row of a key, or of its twin
pub slot_cases : (g : List Row) (k : RowKey) → HasSlot g (slot k) → HasKey g k ⊎ HasTwin g k
slot_cases g k has =
    let e = has.fills in
    elim (shared (row_key has.it).0 k.0 (ap (λ x. x.0) e)) [
      | inl same ↦ inl (record { it = has.it; held = has.held; keyed = λ i. (same i, (ap (λ x. x.1) e) i, (ap (λ x. x.2) e) i, (ap (λ x. x.3) e) i) })
      | inr twins ↦ inr (record { other = (row_key has.it).0; shares = twins; has = record { it = has.it; held = has.held; keyed = λ i. ((row_key has.it).0, (ap (λ x. x.1) e) i, (ap (λ x. x.2) e) i, (ap (λ x. x.3) e) i) } })
    ]

pub slot_from_key : (g : List Row) (k : RowKey) → HasKey g k → HasSlot g (slot k)
slot_from_key g k has = record { it = has.it; held = has.held; fills = ap slot has.keyed }

pub slot_from_twin : (g : List Row) (k : RowKey) → HasTwin g k → HasSlot g (slot k)
slot_from_twin g k twins =
    let has = twins.has in
    record { it = has.it; held = has.held; fills = ap slot has.keyed ∙ ap (λ t. (t, k.1, k.2, k.3)) (twins_share k.0 twins.other twins.shares) }

-- a key is held exactly where its part has it
pub key_in_part : (ss : List (List Row)) (i : ℕ) (now : List Row) (k : RowKey) (test : Bool) → joined ss ≡ now → IsWhole ss → part_of (shape k.0) ≡ i → (IsTrue test ↔ HasKey (at ss i) k) → (IsTrue test ↔ HasKey now k)
key_in_part ss i now k test view whole is same = (
  λ yes. let has = same.0 yes in record { it = has.it; held = subst (λ g. Contains g has.it) view (part_among ss i has.it has.held); keyed = has.keyed },
  λ has.
      let stands = ap (λ t. part_of (shape t)) (sym (key_table has.it) ∙ ap (λ x. x.0) has.keyed) ∙ is in
      same.1 (record { it = has.it; held = in_part ss has.it i whole.parts (subst (λ g. Contains g has.it) (sym view) has.held) stands; keyed = has.keyed }),
)

pub twin_iff : (now : List Row) (k : RowKey) (t : Table) (test : Bool) → twin k.0 ≡ Some t → (IsTrue test ↔ HasKey now (t, k.1, k.2, k.3)) → (IsTrue test ↔ HasTwin now k)
twin_iff now k t test shares same = (
  λ yes. record { other = t; shares = shares; has = same.0 yes },
  λ twins. same.1 (subst (λ u. HasKey now (u, k.1, k.2, k.3)) (some_one t twins.other (sym twins.shares ∙ shares)) twins.has),
)
  where
    some_one : (u v : Table) → Some v ≡ Some u → v ≡ u
    some_one u v e = ap (λ (o : Option Table). unwrap_or o v) e

pub holds_else : (now : List Row) (k : RowKey) (row twins : Bool) → row ≡ false → (IsTrue row ↔ HasKey now k) → (IsTrue twins ↔ HasTwin now k) → (IsTrue twins ↔ HasSlot now (slot k))
holds_else now k row twins none own other = (
  λ yes. slot_from_twin now k (other.0 yes),
  λ has. elim (slot_cases now k has) [ inl one ↦ absurd (not_true row none (own.1 one)) | inr two ↦ other.1 two ],
)
  where
    not_true : (b : Bool) → b ≡ false → IsTrue b → ⊥
    not_true b e t = absurd (false≢true (sym e ∙ t))

-- what a shelf finds is a row of the whole
pub found_in_part : {X : Type 0} (ss : List (List Row)) (i : ℕ) (now : List Row) (o : Option X) (f : X → Row) (A B : X → Type 0) → joined ss ≡ now → IfSome o (λ v. A v × Contains (at ss i) (f v)) → ((v : X) → A v → B v) → IfSome o (λ v. B v × Contains now (f v))
found_in_part ss i now None f A B view found give = tt
found_in_part ss i now (Some v) f A B view found give = (give v found.0, subst (λ g. Contains g (f v)) view (part_among ss i (f v) found.1))

pub if_contains : {X : Type 0} (now : List Row) (o : Option X) (f g : X → Row) (A : X → Type 0) → ((v : X) → f v ≡ g v) → IfSome o (λ v. A v × Contains now (f v)) → IfSome o (λ v. Contains now (g v))
if_contains now None f g A same is = tt
if_contains now (Some v) f g A same is = subst (Contains now) (same v) is.1
