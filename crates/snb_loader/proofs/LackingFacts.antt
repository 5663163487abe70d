-- The first of some references whose node isn't among rows.
use Rattle.std.proofs.Common.{◌≡◌, ◌∙◌, ◌++◌, ◌∷◌, [], ℕ, List, All, Option, Some, None, refl, sym, ap, subst, append_assoc}
use Rattle.std.proofs.lemmas.List.Elements.{All-append, All-head, All-nil, All-tail}
use Rattle.snb_schema.specs.declared.refusal.Missing.{Missing}
use Rattle.snb_schema.specs.declared.row.Row.{Row}
use Rattle.snb_schema.specs.declared.table.Kind.{Kind}
use Rattle.snb_schema.specs.References.{ref}
use Rattle.snb_schema.specs.RowKeys.{node_key}
use Rattle.snb_graph_model.specs.Graphs.{HasKey}
use Rattle.snb_loader.specs.Tables.{FindsLacking, IsFirstLacking, IsAmongRows}

-- one reference alone, whose node isn't among the rows
pub one_lacking : (g : List Row) (column : ℕ) (k : Kind) (n : ℕ) → ¬ HasKey g (node_key k n) → IsFirstLacking g ((column, ref k n) ∷ []) column
one_lacking g column k n none = record {
  before = [];
  ref = ref k n;
  after = [];
  splits = refl;
  there = All-nil (IsAmongRows g);
  lacking = none;
}

-- where the nodes of some references are there, the first that is lacking is that of those that follow
pub later_lacking : (g : List Row) (xs ys : List (ℕ × Missing)) (o : Option ℕ) → All (IsAmongRows g) xs → FindsLacking g ys o → FindsLacking g (xs ++ ys) o
later_lacking g xs ys None there all = All-append (IsAmongRows g) xs ys there all
later_lacking g xs ys (Some column) there first = record {
  before = xs ++ first.before;
  ref = first.ref;
  after = first.after;
  splits = append_assoc xs first.before ((column, first.ref) ∷ first.after) ∙ ap (λ (zs : List (ℕ × Missing)). xs ++ zs) first.splits;
  there = All-append (IsAmongRows g) xs first.before there first.there;
  lacking = first.lacking;
}

-- all before one that fails pass: only one element is that
one_split : {X : Type 0} (P : X → Type 0) (xs : List X) (x : X) (more ys : List X) (y : X) (rest : List X) → xs ++ x ∷ more ≡ ys ++ y ∷ rest → All P xs → ¬ P x → All P ys → ¬ P y → x ≡ y
one_split P [] x more [] y rest e a no_x b no_y = cc
one_split P [] x more (z ∷ ys) y rest e a no_x b no_y = let h : z ≡ x = cc in absurd (no_x (subst P h (All-head P z ys b)))
one_split P (w ∷ xs) x more [] y rest e a no_x b no_y = let h : w ≡ y = cc in absurd (no_y (subst P h (All-head P w xs a)))
one_split P (w ∷ xs) x more (z ∷ ys) y rest e a no_x b no_y =
    let t : xs ++ x ∷ more ≡ ys ++ y ∷ rest = cc in one_split P xs x more ys y rest t (All-tail P w xs a) no_x (All-tail P z ys b) no_y

-- the first column whose node is lacking is one
pub one_first : (g : List Row) (refs : List (ℕ × Missing)) (a b : ℕ) → IsFirstLacking g refs a → IsFirstLacking g refs b → a ≡ b
one_first g refs a b p q =
    ap (λ (z : ℕ × Missing). z.0) (one_split (IsAmongRows g) p.before (a, p.ref) p.after q.before (b, q.ref) q.after (p.splits ∙ sym q.splits) p.there p.lacking q.there q.lacking)

-- an element of a list of which each has a property has it
this_one : {X : Type 0} (P : X → Type 0) (xs : List X) (x : X) (more ys : List X) → xs ++ x ∷ more ≡ ys → All P ys → P x
this_one P [] x more ys e all = All-head P x more (subst (All P) (sym e) all)
this_one P (w ∷ xs) x more ys e all = this_one P xs x more (xs ++ x ∷ more) refl (All-tail P w (xs ++ x ∷ more) (subst (All P) (sym e) all))

-- none is lacking where all are there
pub none_first : (g : List Row) (refs : List (ℕ × Missing)) (column : ℕ) → All (IsAmongRows g) refs → ¬ IsFirstLacking g refs column
none_first g refs column all first = first.lacking (this_one (IsAmongRows g) first.before (column, first.ref) first.after refs first.splits all)
