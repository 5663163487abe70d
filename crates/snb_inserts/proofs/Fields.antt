-- What the fields of an insert's line say of its values: each is within its bounds, and the items of a list differ.
use Rattle.std.proofs.Common.{◌≡◌, ◌≢◌, ◌≤◌, ◌∙◌, [], ◌∷◌, ◌++◌, ℕ, nat_eq, List, Bool, All, Decides, length, refl, sym, subst, arith}
use Rattle.std.proofs.lemmas.Bool.Decides.{Decides-and, Decides-eqb, Decides-like}
use Rattle.std.proofs.lemmas.List.Elements.{All-head, All-tail, recursion_from_All}
use Rattle.std.proofs.lemmas.Slice.Eq.{bytes_eq-Decides}
use Rattle.std.specs.List.{AllByRecursion}
use Rattle.std.specs.Str.{bytes_eq}
use Rattle.snb_base.specs.Spellings.{Listed, SpellsId, SpellsPair, SpellsWord, pair_eq}
use Rattle.snb_schema.specs.declared.column.Column.{Column}
use Rattle.snb_schema.specs.declared.column.Column.TheVariants.{Number, Small, OptionalId, Date, Day, Words, Word, TextList, IdList, PairList}
use Rattle.snb_schema.specs.declared.column.Value.{Value}
use Rattle.snb_schema.specs.declared.column.Value.TheVariants.{Digits, SmallDigits, NoId, Letters, Texts, Ids, Pairs}
use Rattle.snb_schema.specs.declared.limits.TheConstants.{MAX_ID, MAX_YEAR}
use Rattle.snb_schema.specs.declared.op.Op.{Op}
use Rattle.snb_schema.specs.Columns.{Spells, SpellsAll}
use Rattle.snb_schema.specs.Lines.{fields}
use Rattle.snb_schema.specs.TableRows.{IsFieldText, IsInBounds}
use Rattle.snb_schema.specs.InsertLines.{addition_kind, beside_columns, beside_values, kind_of, line_columns, line_values, node_columns, node_values}
use Rattle.snb_schema.specs.Nodes.{Addition, NewPerson, addition}
use Rattle.snb_columns.proofs.Laws.{listed_all}
use Rattle.snb_columns.specs.Laws.{HasPlainFields}
use Rattle.snb_inserts.specs.Applying.{HasLine}
use Rattle.snb_inserts.proofs.Apart.{AreApart, ids_apart, once_apart}

-- a text that a word's field can hold
abbrev pub IsWordText : List ℕ → Type 0
IsWordText text = (text ≢ []) × IsFieldText text

-- an id and a year within their bounds
abbrev pub IsYearly : ℕ × ℕ → Type 0
IsYearly pair = (pair.0 ≤ MAX_ID) × (pair.1 ≤ MAX_YEAR)

-- the value is within its column's bounds, and of a list each item is, and no two are one; no id stands twice among pairs
abbrev pub IsProper : Column → Value → Type 0
IsProper OptionalId (Digits n) = n ≤ MAX_ID
IsProper OptionalId value = Unit {0}
IsProper TextList (Texts texts) = AllByRecursion IsWordText texts × AreApart (λ text. text) texts
IsProper TextList value = Unit {0}
IsProper IdList (Ids ids) = AllByRecursion (λ id. id ≤ MAX_ID) ids × AreApart (λ id. id) ids
IsProper IdList value = Unit {0}
IsProper PairList (Pairs pairs) = AllByRecursion IsYearly pairs × AreApart (λ pair. pair.0) pairs
IsProper PairList value = Unit {0}
IsProper column value = IsInBounds column value

-- and so is each value
abbrev pub AreProper : List Column → List Value → Type 0
AreProper [] [] = Unit {0}
AreProper (c ∷ cs) (v ∷ vs) = IsProper c v × AreProper cs vs
AreProper columns values = ⊥

listed_apart : {A : Type 0} (S : List ℕ → A → Type 0) (eq : A → A → Bool) → ((a b : A) → Decides (eq a b) (a ≡ b)) → (x : List ℕ) (items : List A) → Listed S eq x items → AreApart (λ a. a) items
listed_apart S eq decides x items (all, each, kept) = subst (AreApart (λ a. a)) (sym kept) (once_apart eq decides all)

pairs_decide : (p q : ℕ × ℕ) → Decides (pair_eq p q) (p ≡ q)
pairs_decide p q = Decides-like (pair_eq p q) (λ e i. (e.0 i, e.1 i)) (λ e. (λ i. (e i).0, λ i. (e i).1)) (Decides-and _ _ (Decides-eqb p.0 q.0) (Decides-eqb p.1 q.1))

word_text : (x word : List ℕ) → IsFieldText x → SpellsWord x word → IsWordText word
word_text x word f s = (λ e. s.0 (s.1 ∙ e), subst IsFieldText s.1 f)

proper : (c : Column) (x : List ℕ) (v : Value) → IsFieldText x → Spells c x v → IsProper c v
proper (Number most) x (Digits n) f s = s.small
proper (Small most) x (SmallDigits n) f s = s.small
proper Date x (Digits n) f s = s.0
proper Day x (Digits n) f s = s.0
proper Words x (Letters text) f s = subst IsFieldText s f
proper Word x (Letters text) f s = word_text x text f s
proper OptionalId x (Digits n) f s = s.small
proper OptionalId x NoId f s = tt
proper TextList x (Texts texts) f s = (recursion_from_All IsWordText texts (listed_all SpellsWord bytes_eq IsWordText word_text x texts f s), listed_apart SpellsWord bytes_eq bytes_eq-Decides x texts s)
proper IdList x (Ids ids) f s = (recursion_from_All (λ id. id ≤ MAX_ID) ids (listed_all SpellsId nat_eq (λ id. id ≤ MAX_ID) (λ y id g t. t.small) x ids f s), listed_apart SpellsId nat_eq Decides-eqb x ids s)
proper PairList x (Pairs pairs) f s = (
  recursion_from_All IsYearly pairs (listed_all SpellsPair pair_eq IsYearly (λ y pair g t. (t.3.small, t.4.small)) x pairs f s.0),
  ids_apart pairs s.1 (listed_apart SpellsPair pair_eq pairs_decide x pairs s.0),
)
proper c x v f s = absurd s

all_proper : (cs : List Column) (xs : List (List ℕ)) (vs : List Value) → All IsFieldText xs → SpellsAll cs xs vs → AreProper cs vs
all_proper [] [] [] f s = tt
all_proper (c ∷ cs) (x ∷ xs) (v ∷ vs) f s = (proper c x v (All-head IsFieldText x xs f) s.0, all_proper cs xs vs (All-tail IsFieldText x xs f) s.1)
all_proper cs xs vs f s = absurd s

-- values in two parts are so in each
proper_parts : (cs ds : List Column) (vs ws : List Value) → length cs ≡ length vs → AreProper (cs ++ ds) (vs ++ ws) → AreProper cs vs × AreProper ds ws
proper_parts [] ds [] ws long all = (tt, all)
proper_parts (c ∷ cs) ds (v ∷ vs) ws long all = let more = proper_parts cs ds vs ws (omega (arith, long)) all.1 in ((all.0, more.0), more.1)
proper_parts cs ds vs ws long all = absurd cc

-- a node has a value for each of its columns
node_long : (a : Addition) → length (node_columns (addition_kind a)) ≡ length (node_values a)
node_long (NewPerson person city languages emails tags study work) = refl
node_long a = refl

-- the values of an insert that has a line are so
pub op_proper : ((line : List ℕ) → HasPlainFields line) → (op : Op) → HasLine op → AreProper (node_columns (kind_of op)) (node_values (addition op)) × AreProper (beside_columns (kind_of op)) (beside_values (addition op))
op_proper plain op (line, t, t_d, is) =
    let own = plain line in
    let texts : All IsFieldText (fields line) = λ k d l. record { utf8 = own.texts is.text k d l; no_bar = own.no_bars k d l; one_line = own.no_ends is.one_line k d l } in
    proper_parts (node_columns (kind_of op)) (beside_columns (kind_of op)) (node_values (addition op)) (beside_values (addition op)) (node_long (addition op))
    (all_proper (line_columns (kind_of op)) (fields line) (line_values t t_d op) texts is.spelled).1.1.1
