-- Whether a row is held, by the row that has its key.
use Rattle.std.proofs.Common.{◌≡◌, ◌↔◌, ◌∙◌, ◌∷◌, ℕ, List, Bool, true, false, Option, Some, None, IsTrue, inl, inr, filter, refl, sym, ap, subst, nat_eq, arith}
use Rattle.std.proofs.lemmas.Bool.Decides.{nat_tests}
use Rattle.std.proofs.lemmas.List.Elements.{All-contains}
use Rattle.std.specs.List.{Contains}
use Rattle.std.specs.Borrow.{Bor}
use Rattle.std.specs.Option.{IfSome, IsSome, option_copied, unwrap_or}
use mathlib.Core.Bool.{false≢true}
use Rattle.snb_schema.specs.declared.row.Row.{Row}
use Rattle.snb_schema.specs.declared.row.Row.TheVariants as row
use Rattle.snb_schema.specs.declared.layout.Shape.TheVariants as shapes
use Rattle.snb_schema.specs.declared.table.Kind.{Kind}
use Rattle.snb_schema.specs.declared.table.Table.{Table}
use Rattle.snb_schema.specs.Layouts.{shape}
use Rattle.snb_schema.specs.RowKeys.{RowKey, node_key, row_key, slot}
use Rattle.snb_schema.specs.RowValues.{table_of}
use Rattle.snb_schema.specs.TableOrder.{same_table}
use Rattle.snb_schema.specs.TableRows.{IsTableRow}
use Rattle.snb_base.proofs.Laws.{contains_cases, contains_map, contains_there, in_filter, in_map}
use Rattle.snb_graph_model.proofs.Laws.{same_is}
use Rattle.snb_graph_rows.specs.declared.keys.WordKey.{WordKey}
use Rattle.snb_graph_rows.specs.Keyed.{key_table}
use Rattle.snb_graph_rows.specs.KeysApart.{word_name}
use Rattle.snb_graph_model.specs.Graphs.{IsGraph, HasKey, part, part_of, rows}
use Rattle.snb_graph_tables.specs.Words.{words_of}
use Rattle.snb_graph_tables.proofs.TableLemmas.{same_itself}

-- a graph that holds a row with the key of another holds the other exactly where the two are one
pub held_same : {X : Type 0} (g : List Row) (f : X → Row) (a b : X) (test : Bool) → ((x y : X) → f x ≡ f y → x ≡ y) → IsGraph g → Contains g (f a) → row_key (f a) ≡ row_key (f b) → (IsTrue test ↔ (a ≡ b)) → (IsTrue test ↔ Contains g (f b))
held_same g f a b test one graph held keyed same = (
  λ yes. subst (λ x. Contains g (f x)) (same.0 yes) held,
  λ has. same.1 (one a b (graph.apart (f a) (f b) held has (ap slot keyed))),
)

-- a graph in which no row has the key of a row doesn't hold it
pub none_keyed : (g : List Row) (r : Row) {k : RowKey} → row_key r ≡ k → (HasKey g k → false ≡ true) → (IsTrue false ↔ Contains g r)
none_keyed g r keyed none = (λ yes. absurd (false≢true yes), λ has. none (record { it = r; held = has; keyed = keyed }))

-- a node is held exactly where it is the one of its id
pub node_held : {X : Type 0} (kind : Kind) (f : X → Row) (id : X → ℕ) (g : List Row) (r : Row) (o : Option (Bor X)) (b : X) (test : Bool) → ((x y : X) → f x ≡ f y → x ≡ y) → ((x : X) → row_key (f x) ≡ node_key kind (id x)) →
    IsGraph g → r ≡ f b → IfSome (option_copied o) (λ n. (id n ≡ id b) × Contains g (f n)) → (IsSome o ↔ HasKey g (node_key kind (id b))) → (IsTrue test ↔ (option_copied o ≡ Some b)) → (IsTrue test ↔ Contains g r)
node_held kind f id g r None b test one keyed graph is found held same = (
  λ yes. absurd (let e = same.0 yes in cc),
  λ has. absurd (false≢true (held.1 (record { it = r; held = has; keyed = ap row_key is ∙ keyed b }))),
)
node_held {X} kind f id g r (Some a) b test one keyed graph is found held same =
    subst (λ x. IsTrue test ↔ Contains g x) (sym is)
    (held_same g f a.now b test one graph found.1 (keyed a.now ∙ ap (node_key kind) found.0 ∙ sym (keyed b)) (λ yes. ap (λ (o : Option X). unwrap_or o a.now) (same.0 yes), λ e. same.1 (ap Some e)))

-- ---- words

number_is : (a b : ℕ) → nat_eq a b ≡ true → a ≡ b
number_is a b e = grind (arith, nat_tests)

number_itself : (a : ℕ) → nat_eq a a ≡ true
number_itself a = grind (arith, nat_tests)

-- a row of a table of words is the word of its table, person and text
word_is : (r : Row) → part r ≡ 9 → IsTableRow r → r ≡ row.Word (table_of r) (row_key r).1 (row_key r).3
word_is (row.Word t person text) is fit = refl
word_is (row.Link t from to) is fit = absurd (let p : 8 ≡ 9 = ap part_of fit.shaped ∙ is in omega (arith, p))
word_is (row.Dated t from to date) is fit = absurd (let p : 8 ≡ 9 = ap part_of fit.shaped ∙ is in omega (arith, p))
word_is (row.Yeared t from to year) is fit = absurd (let p : 8 ≡ 9 = ap part_of fit.shaped ∙ is in omega (arith, p))
word_is (row.Place p) is fit = absurd (omega (arith, is))
word_is (row.TagClass p) is fit = absurd (omega (arith, is))
word_is (row.Tag p) is fit = absurd (omega (arith, is))
word_is (row.Organisation p) is fit = absurd (omega (arith, is))
word_is (row.Person p) is fit = absurd (omega (arith, is))
word_is (row.Forum p) is fit = absurd (omega (arith, is))
word_is (row.Post p) is fit = absurd (omega (arith, is))
word_is (row.Comment p) is fit = absurd (omega (arith, is))

-- a word is held exactly where its key is
pub word_keyed : (g : List Row) (k : WordKey) (test : Bool) → IsGraph g → part_of (shape k.table) ≡ 9 → (IsTrue test ↔ HasKey g (word_name k)) → (IsTrue test ↔ Contains g (row.Word k.table k.person k.text))
word_keyed g k test graph is same = (
  λ yes.
      let has = same.0 yes in
      let own = sym (key_table has.it) ∙ ap (λ (x : RowKey). x.0) has.keyed in
      let word = word_is has.it (ap (λ (u : Table). part_of (shape u)) own ∙ is) (All-contains IsTableRow g has.it graph.of_tables has.held) in
      subst (Contains g) (word ∙ (λ i. row.Word (own i) ((ap (λ (x : RowKey). x.1) has.keyed) i) ((ap (λ (x : RowKey). x.3) has.keyed) i))) has.held,
  λ has. same.1 (record { it = row.Word k.table k.person k.text; held = has; keyed = refl }),
)

-- a text is among the words of a person exactly where the word is held
words_held : (g : List Row) (t : Table) (person : ℕ) (text : List ℕ) → IsGraph g → shapes.Word ≡ shape t → Contains (words_of g t person) text ↔ Contains g (row.Word t person text)
words_held g t person text graph is = (
  λ c.
      let one = in_map (λ r. (row_key r).3) (filter (λ r. nat_eq (row_key r).1 person) (rows g t)) text c in
      let theirs = (in_filter (λ r. nat_eq (row_key r).1 person) (rows g t) one.0).0 one.1 in
      let own = (in_filter (λ r. same_table (table_of r) t) g one.0).0 theirs.0 in
      let same : table_of one.0 ≡ t = same_is (table_of one.0) t own.1 in
      let whose : (row_key one.0).1 ≡ person = number_is (row_key one.0).1 person theirs.1 in
      let word = word_is one.0 (ap (λ (u : Table). part_of (shape u)) same ∙ ap part_of (sym is)) (All-contains IsTableRow g one.0 graph.of_tables own.0) in
      subst (Contains g) (word ∙ (λ i. row.Word (same i) (whose i) (one.2 i))) own.0,
  λ c.
      contains_map (λ r. (row_key r).3) (filter (λ r. nat_eq (row_key r).1 person) (rows g t)) (row.Word t person text)
      ((in_filter (λ r. nat_eq (row_key r).1 person) (rows g t) (row.Word t person text)).1
      ((in_filter (λ r. same_table (table_of r) t) g (row.Word t person text)).1 (c, same_itself t), number_itself person)),
)

pub word_among : (g : List Row) (t : Table) (person : ℕ) (text : List ℕ) (texts : List (List ℕ)) (test : Bool) → IsGraph g → shapes.Word ≡ shape t → texts ≡ words_of g t person → (IsTrue test ↔ Contains texts text) → (IsTrue test ↔ Contains g (row.Word t person text))
word_among g t person text texts test graph is words among =
    let held = words_held g t person text graph is in (
      λ yes. held.0 (subst (λ ts. Contains ts text) words (among.0 yes)),
      λ has. among.1 (subst (λ ts. Contains ts text) (sym words) (held.1 has)),
    )

-- a word that isn't the text says nothing of whether the text is among the words that are left
pub text_passed : (all left rest : List (List ℕ)) (word text : List ℕ) → left ≡ word ∷ rest → (word ≡ text → ⊥) → (Contains all text ↔ Contains left text) → (Contains all text ↔ Contains rest text)
text_passed all left rest word text step differs so = (
  λ c. elim (contains_cases word rest text (subst (λ ws. Contains ws text) step (so.0 c))) [
    | inl e ↦ absurd (differs e)
    | inr d ↦ d
  ],
  λ c. so.1 (subst (λ ws. Contains ws text) (sym step) (contains_there word rest text c)),
)
