-- Where ids rise, each chain of comments' parents ends at a post.
use Rattle.std.proofs.Common.{◌≡◌, ◌<◌, ◌≤◌, ℕ, zero, suc, ◌⊎◌, inl, inr, List, [], ◌∷◌, refl, sym, ap, ◌∙◌, subst, arith}
use Rattle.std.specs.List.{Contains}
use Rattle.snb_schema.specs.declared.layout.KeyColumns.{KeyColumns}
use Rattle.snb_schema.specs.declared.layout.KeyColumns.TheVariants.{First, Second, FirstTwo}
use Rattle.snb_schema.specs.declared.layout.Shape.{Shape}
use Rattle.snb_schema.specs.declared.layout.Shape.TheVariants.{Dated, Yeared}
use Rattle.snb_schema.specs.declared.row.Row.{Row}
use Rattle.snb_schema.specs.declared.row.Row.TheVariants as row
use Rattle.snb_schema.specs.declared.table.Kind.TheVariants as kinds
use Rattle.snb_schema.specs.declared.table.Table.{Table}
use Rattle.snb_schema.specs.declared.table.Table.TheVariants as table
use Rattle.snb_schema.specs.Layouts.{key_columns, shape}
use Rattle.snb_schema.specs.RowKeys.{RowKey, node_key, row_key, sharing, slot}
use Rattle.snb_schema.specs.RowValues.{table_of}
use Rattle.snb_graph_rows.specs.declared.keys.EdgeKey.{EdgeKey}
use Rattle.snb_graph_rows.specs.Edges.{edge_of, edge_row, link_of}
use Rattle.snb_graph_rows.specs.Keyed.{key_table}
use Rattle.snb_graph_rows.specs.KeysApart.{edge_name}
use Rattle.snb_graph_rows.specs.Rows.{entry_row, rows_by}
use Rattle.snb_graph_integrity.specs.Chains.{AreRooted}
use Rattle.snb_graph_integrity.specs.Rising.{IsRising}
use Rattle.snb_graph_integrity.proofs.ChainLemmas.{LeadsFrom, link_ends}
use Rattle.snb_graph_integrity.proofs.SoundLemmas.{ends_held, link_from, required_filled}
use Rattle.snb_graph_model.proofs.Laws.{in_rows}
use Rattle.snb_graph_model.specs.Graphs.{HasKey, HasSlot, IsGraph, rows}
use Rattle.snb_graph_model.specs.Soundness.{HasNeededEdges, HoldsRefs, IsRooted}
use Rattle.snb_base.proofs.Laws.{contains_cases, contains_here, contains_there, none_in}

-- ---- the edges

-- the row of an edge is of its key's table
link_table : (columns : KeyColumns) (t : Table) (a b n : ℕ) → table_of (link_of columns t a b n) ≡ t
link_table First t a b n = refl
link_table Second t a b n = refl
link_table FirstTwo t a b n = refl

row_table : (s : Shape) (columns : KeyColumns) (t : Table) (a b n : ℕ) → table_of (edge_of s columns t a b n) ≡ t
row_table Dated columns t a b n = refl
row_table Yeared columns t a b n = refl
row_table s columns t a b n = link_table columns t a b n

-- of the replies to comments it is a link from the key's first id
reply_row : (k : EdgeKey) (n : ℕ) → table_of (edge_row (edge_name k) n) ≡ table.CommentReplyOfComment → edge_row (edge_name k) n ≡ row.Link table.CommentReplyOfComment k.first n
reply_row k n of =
    let is : k.table ≡ table.CommentReplyOfComment = sym (row_table (shape k.table) (key_columns k.table) k.table k.first k.second n) ∙ of in
    ap (λ t. edge_row (t, k.first, k.second, []) n) is

-- the rows of entries
abbrev pub rows_of : List (EdgeKey × ℕ) → List Row
rows_of = rows_by (entry_row edge_name edge_row)

-- each reply to a comment rises, or is left
pub record IsRisen (g : List Row) (left : List (EdgeKey × ℕ)) : Type 0 where
  pub own : (r : Row) → Contains (rows_of left) r → Contains (rows g table.CommentReplyOfComment) r
  pub rest : (comment parent : ℕ) → Contains g (row.Link table.CommentReplyOfComment comment parent) → (parent < comment) ⊎ Contains (rows_of left) (row.Link table.CommentReplyOfComment comment parent)

pub risen_begun : (g : List Row) (left : List (EdgeKey × ℕ)) → rows_of left ≡ rows g table.CommentReplyOfComment → IsRisen g left
risen_begun g left is = record {
  own = λ r c. subst (λ l. Contains l r) is c;
  rest = λ comment parent c. inr (subst (λ l. Contains l (row.Link table.CommentReplyOfComment comment parent)) (sym is) ((in_rows g table.CommentReplyOfComment (row.Link table.CommentReplyOfComment comment parent)).1 (c, refl)));
}

module _ (g : List Row) (left rest : List (EdgeKey × ℕ)) (key : EdgeKey) (parent : ℕ) (is : left ≡ (key, parent) ∷ rest) (risen : IsRisen g left) where
  -- the first edge that is left
  first : Contains g (edge_row (edge_name key) parent) × (table_of (edge_row (edge_name key) parent) ≡ table.CommentReplyOfComment)
  first =
      (in_rows g table.CommentReplyOfComment (edge_row (edge_name key) parent)).0
      (risen.own (edge_row (edge_name key) parent) (subst (λ l. Contains (rows_of l) (edge_row (edge_name key) parent)) (sym is) (contains_here (edge_row (edge_name key) parent) (rows_of rest))))

  pub risen_more : parent < key.first → IsRisen g rest
  risen_more low = record {
    own = λ r c. risen.own r (subst (λ l. Contains (rows_of l) r) (sym is) (contains_there (edge_row (edge_name key) parent) (rows_of rest) r c));
    rest = λ c p there. elim (risen.rest c p there) [
      | inl rises ↦ inl rises
      | inr at ↦ elim (contains_cases (edge_row (edge_name key) parent) (rows_of rest) (row.Link table.CommentReplyOfComment c p) (subst (λ l. Contains (rows_of l) (row.Link table.CommentReplyOfComment c p)) is at)) [
        | inl e ↦ let same = link_ends table.CommentReplyOfComment table.CommentReplyOfComment key.first parent c p (sym (reply_row key parent first.1) ∙ e) in inl (let a = same.0 in let b = same.1 in omega (arith, a, b, low))
        | inr later ↦ inr later
      ]
    ];
  }

  pub risen_not : key.first ≤ parent → ¬ IsRising g
  risen_not high rising = let low = rising key.first parent (subst (Contains g) (reply_row key parent first.1) first.0) in omega (arith, high, low)

pub risen_ended : (g : List Row) (left : List (EdgeKey × ℕ)) → left ≡ [] → IsRisen g left → IsRising g
risen_ended g left none risen c p there = elim (risen.rest c p there) [
  | inl rises ↦ rises
  | inr at ↦ absurd (none_in (row.Link table.CommentReplyOfComment c p) (subst (λ l. Contains (rows_of l) (row.Link table.CommentReplyOfComment c p)) none at))
]

-- ---- the chains

-- what fills a slot of replies is a reply to a post or to a comment
reply_tables : (u : Table) → sharing u ≡ table.CommentReplyOfPost → (u ≡ table.CommentReplyOfPost) ⊎ (u ≡ table.CommentReplyOfComment)
reply_tables table.CommentReplyOfPost e = inl refl
reply_tables table.CommentReplyOfComment e = inr refl
reply_tables u e = absurd cc

reply_there : (g : List Row) (id : ℕ) → IsGraph g → HasSlot g (slot (table.CommentReplyOfPost, id, 0, [])) → LeadsFrom g table.CommentReplyOfPost id ⊎ LeadsFrom g table.CommentReplyOfComment id
reply_there g id graph has = elim (reply_tables (row_key has.it).0 (ap (λ (k : RowKey). k.0) has.fills)) [
  | inl is ↦ inl (link_from g table.CommentReplyOfPost table.CommentReplyOfPost id graph refl refl has (sym (key_table has.it) ∙ is))
  | inr is ↦ inr (link_from g table.CommentReplyOfComment table.CommentReplyOfPost id graph refl refl has (sym (key_table has.it) ∙ is))
]

-- each comment has a parent, and where it is a comment it has a lower id, so that the chain ends at a post
pub rising_rooted : (g : List Row) → IsGraph g → HoldsRefs g → HasNeededEdges g → IsRising g → AreRooted g
rising_rooted g graph refs complete rising comment has = below (suc comment) comment (omega arith) has
  where
    below : (n c : ℕ) → c < n → HasKey g (node_key kinds.Comment c) → IsRooted g c
    below zero c low has = absurd (omega (arith, low))
    below (suc n) c low has = elim (reply_there g c graph (required_filled g complete table.Comment table.CommentReplyOfPost c (9, omega arith, refl) has)) [
      | inl post ↦ (zero, post)
      | inr reply ↦ (let lower = rising c reply.0 reply.1 in
          let ends = below n reply.0 (omega (arith, low, lower)) (ends_held g table.CommentReplyOfComment c reply.0 kinds.Comment kinds.Comment refs refl refl reply.1).1 in
          (suc ends.0, (reply.0, reply.1, ends.1)))
    ]
