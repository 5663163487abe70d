-- Fields of a line that don't go together.
use Rattle.std.proofs.Common.{◌≡◌, ◌≢◌, ◌+◌, ◌⊎◌, ◌∙◌, ℕ, List, [], ◌∷◌, drop, get_or, refl, sym, subst, inl, inr, arith}
use Rattle.std.proofs.lemmas.Bool.{cases_eq}
use Rattle.std.proofs.lemmas.List.{get_or-drop}
use Rattle.snb_base.specs.Spellings.{SpellsId, last_id}
use Rattle.snb_schema.specs.declared.column.Column.{Column}
use Rattle.snb_schema.specs.declared.column.Column.TheVariants.{Date, IdList, OptionalId}
use Rattle.snb_schema.specs.declared.column.Value.{Value}
use Rattle.snb_schema.specs.declared.column.Value.TheVariants.{Digits, NoId}
use Rattle.snb_schema.specs.declared.op.InsertKind.{InsertKind}
use Rattle.snb_schema.specs.declared.op.InsertKind.TheVariants as kinds
use Rattle.snb_schema.specs.Columns.{Spells, StopsAfter, no_id}
use Rattle.snb_schema.specs.Nodes.{id_column}
use Rattle.snb_schema.specs.UpdateLines.{Clashes, field}
use Rattle.snb_schema.specs.InsertLines.{line_columns}
use Rattle.snb_streams.proofs.PlaceFacts.{stop_from}
use Rattle.snb_base.proofs.Laws.{both, is_text, number_found}

-- two texts are one id
abbrev pub OneId : List ℕ → List ℕ → Type 0
OneId x y = (id : ℕ) × SpellsId x id × SpellsId y id

-- two texts are no ids, or two
abbrev pub NoneOrBoth : List ℕ → List ℕ → Type 0
NoneOrBoth x y = ((x ≡ no_id) × (y ≡ no_id)) ⊎ ((post : ℕ) × (comment : ℕ) × SpellsId x post × SpellsId y comment)

-- two texts are one id, or they aren't
one_id : (x y : List ℕ) → OneId x y ⊎ ¬ OneId x y
one_id x y = elim (number_found x last_id) [
  | inr never ↦ inr (λ h. never h.0 h.1)
  | inl one ↦ elim (number_found y last_id) [
    | inr never ↦ inr (λ h. never h.0 h.2)
    | inl other ↦ elim (cases_eq other.0 one.0) [
      | inl same ↦ inl (one.0, one.1, subst (SpellsId y) same other.1)
      | inr differ ↦ inr (λ h. differ (other.1.value ∙ sym h.2.value ∙ h.1.value ∙ sym one.1.value))
    ]
  ]
]

-- two texts are no ids or two, or they aren't
none_or_both : (x y : List ℕ) → NoneOrBoth x y ⊎ ¬ NoneOrBoth x y
none_or_both x y = elim (both (is_text x no_id) (is_text y no_id)) [
  | inl none ↦ inl (inl none)
  | inr some ↦ elim (number_found x last_id) [
    | inr never ↦ inr (λ h. elim h [ inl none ↦ some none | inr two ↦ never two.0 two.2 ])
    | inl post ↦ elim (number_found y last_id) [
      | inr never ↦ inr (λ h. elim h [ inl none ↦ some none | inr two ↦ never two.1 two.3 ])
      | inl comment ↦ inl (inr (post.0, comment.0, post.1, comment.1))
    ]
  ]
]

-- fields clash, or they don't
pub clash_decided : (kind : InsertKind) (fs : List (List ℕ)) → ((column : ℕ) × Clashes kind fs column) ⊎ ((column : ℕ) → ¬ Clashes kind fs column)
clash_decided kinds.AddFriend fs = elim (one_id (field 3 fs) (field 4 fs)) [
  | inl is ↦ inl (5, (refl, is))
  | inr never ↦ inr (λ column h. never h.1)
]
clash_decided kinds.AddComment fs = elim (none_or_both (field 11 fs) (field 12 fs)) [
  | inl is ↦ inl (13, (refl, is))
  | inr never ↦ inr (λ column h. never h.1)
]
clash_decided kind fs = inr (λ column h. h)

-- a second field that spells nothing
second_bad : (c d : Column) (cs : List Column) (fs : List (List ℕ)) → StopsAfter (c ∷ d ∷ cs) fs 1 → (v : Value) → ¬ Spells d (get_or fs 1 []) v
second_bad c d cs (x ∷ y ∷ fs) s v h = s.1 v h
second_bad c d cs (x ∷ []) s v h = s.1
second_bad c d cs [] s v h = s

-- fields from a place on
place : (k i : ℕ) (fs : List (List ℕ)) → get_or (drop k fs) i [] ≡ get_or fs (k + i) []
place k i fs = get_or-drop k fs i []

-- the second of two fields that clash is in its grammar
pub clash_spelled : (kind : InsertKind) (fs : List (List ℕ)) (n column : ℕ) → StopsAfter (line_columns kind) fs n → Clashes kind fs column → column ≢ n + 1
clash_spelled kinds.AddFriend fs n column s h e =
    let five = h.0 in
    let bad = second_bad id_column id_column (Date ∷ []) (drop 3 fs) (stop_from 3 1 n (line_columns kinds.AddFriend) fs (omega arith) s) in
    bad (Digits h.1.0) (subst (λ (y : List ℕ). SpellsId y h.1.0) (sym (place 3 1 fs)) h.1.2)
clash_spelled kinds.AddComment fs n column s h e =
    let thirteen = h.0 in
    let bad = second_bad OptionalId OptionalId (IdList ∷ []) (drop 11 fs) (stop_from 11 1 n (line_columns kinds.AddComment) fs (omega arith) s) in
    elim h.1 [
      | inl none ↦ bad NoId (place 11 1 fs ∙ none.1)
      | inr both ↦ bad (Digits both.1) (subst (λ (y : List ℕ). SpellsId y both.1) (sym (place 11 1 fs)) both.3)
    ]
clash_spelled kind fs n column s h e = h

-- fields clash in one column at most
pub one_clash : (kind : InsertKind) (fs : List (List ℕ)) (a b : ℕ) → Clashes kind fs a → Clashes kind fs b → a ≡ b
one_clash kinds.AddFriend fs a b s t = s.0 ∙ sym t.0
one_clash kinds.AddComment fs a b s t = s.0 ∙ sym t.0
one_clash kind fs a b s t = absurd s
