-- What is wrong with a line beside rows, by cases that exclude one another.
use Rattle.std.proofs.Common.{◌≡◌, ◌⊎◌, ◌∷◌, [], ℕ, List, All, Bool, Decides, refl, ap, inl, inr}
use Rattle.std.specs.List.{list_any}
use Rattle.std.proofs.lemmas.Bool.{cases_Bool}
use Rattle.std.proofs.lemmas.List.Elements.{All-cons, All-nil}
use Rattle.std.proofs.lemmas.List.Folds.{Any-from_list_any, list_any-from_Any}
use Rattle.snb_schema.specs.declared.file.FileId.{FileId}
use Rattle.snb_schema.specs.declared.refusal.Missing.{Missing}
use Rattle.snb_schema.specs.declared.refusal.Refusal.{Refusal}
use Rattle.snb_schema.specs.declared.refusal.Refusal.TheVariants.{Dangling, Duplicate}
use Rattle.snb_schema.specs.declared.row.Placed.{Placed}
use Rattle.snb_schema.specs.declared.row.Row.{Row}
use Rattle.snb_schema.specs.References.{refs_of_row}
use Rattle.snb_schema.specs.RowKeys.{RowKey, node_key, row_key}
use Rattle.snb_graph_integrity.proofs.Laws.{key_decides}
use Rattle.snb_graph_model.specs.Graphs.{HasKey, same_key}
use Rattle.snb_loader.specs.Tables.{IsAmissBeside, IsFirstLacking, IsSecond, IsAmongRows}
use Rattle.snb_loader.proofs.LackingFacts.{none_first}

-- one of the rows has the key, or none has
held : List Row → RowKey → Bool
held g k = list_any (λ r. same_key (row_key r) k) g

held_decides : (g : List Row) (k : RowKey) → Decides (held g k) (HasKey g k)
unfolding held
held_decides g k = (
  λ e.
      let found = Any-from_list_any (λ r. same_key (row_key r) k) g e in
      record { it = found.1; held = (found.0, found.2, found.3); keyed = (key_decides (row_key found.1) k).0 found.4 },
  λ has. list_any-from_Any (λ r. same_key (row_key r) k) g (has.held.0, has.it, has.held.1, has.held.2, (key_decides (row_key has.it) k).1 has.keyed),
)

held_or_not : (g : List Row) (k : RowKey) → HasKey g k ⊎ ¬ HasKey g k
held_or_not g k = elim (cases_Bool (held g k)) [
  | inl e ↦ inl ((held_decides g k).0 e)
  | inr e ↦ inr (λ h. (let yes = (held_decides g k).1 h in cc))
]

-- the nodes of all references are there, or a first one is lacking
there_or_lacking : (rows : List Row) (refs : List (ℕ × Missing)) → All (IsAmongRows rows) refs ⊎ ((column : ℕ) × IsFirstLacking rows refs column)
there_or_lacking rows [] = inl (All-nil (IsAmongRows rows))
there_or_lacking rows ((column, ref) ∷ refs) = elim (held_or_not rows (node_key ref.kind ref.id)) [
  | inr none ↦ inr (column, record { before = []; ref = ref; after = refs; splits = refl; there = All-nil (IsAmongRows rows); lacking = none })
  | inl here ↦ elim (there_or_lacking rows refs) [
    | inl all ↦ inl (All-cons (IsAmongRows rows) (column, ref) refs here all)
    | inr later ↦
        let first : IsFirstLacking rows refs later.0 = later.1 in
        inr (
          later.0,
          record {
            before = (column, ref) ∷ first.before;
            ref = first.ref;
            after = first.after;
            splits = ap (λ (zs : List (ℕ × Missing)). (column, ref) ∷ zs) first.splits;
            there = All-cons (IsAmongRows rows) (column, ref) first.before here first.there;
            lacking = first.lacking;
          },
        )
  ]
]

-- each case with what isn't so before it
abbrev pub IsAmissCase : List Row → FileId → Placed → Refusal → Type 0
IsAmissCase rows file p r =
    ((column : ℕ) × IsFirstLacking rows (refs_of_row p.row p.turned) column × (r ≡ Dangling file p.line column))
    ⊎ (All (IsAmongRows rows) (refs_of_row p.row p.turned) × IsSecond rows p.row × (r ≡ Duplicate file p.line))

-- such a case is the first that is so
pub from_case : (rows : List Row) (file : FileId) (p : Placed) (r : Refusal) → IsAmissCase rows file p r → IsAmissBeside rows file p r
from_case rows file p r (inl a) = inl a
from_case rows file p r (inr a) = inr (λ q w. none_first rows (refs_of_row p.row p.turned) w.0 a.0 w.1, inl (a.1, a.2))

-- and the first that is so is such a case
pub to_case : (rows : List Row) (file : FileId) (p : Placed) (r : Refusal) → IsAmissBeside rows file p r → IsAmissCase rows file p r
to_case rows file p r (inl a) = inl a
to_case rows file p r (inr (lacking, inl a)) =
    let there : All (IsAmongRows rows) (refs_of_row p.row p.turned) = elim (there_or_lacking rows (refs_of_row p.row p.turned)) [
      | inl all ↦ all
      | inr first ↦ absurd (lacking (Dangling file p.line first.0) (first.0, first.1, refl))
    ] in
    inr (there, a.0, a.1)
to_case rows file p r (inr (lacking, inr a)) = absurd a.1
