-- The chain of a comment's parents.
use Rattle.std.proofs.Common.{◌≡◌, ℕ, zero, suc, ◌+◌, ◌≤◌, List, [], refl, ap, subst, inl, inr, arith}
use Rattle.std.specs.List.{Contains}
use Rattle.snb_schema.specs.declared.column.Value.TheVariants.{NoId}
use Rattle.snb_schema.specs.declared.nodes.Post.{Post}
use Rattle.snb_schema.specs.declared.row.Row.{Row}
use Rattle.snb_schema.specs.declared.row.Row.TheVariants as row
use Rattle.snb_schema.specs.declared.table.Kind.TheVariants as kinds
use Rattle.snb_schema.specs.declared.table.Table.TheVariants as table
use Rattle.snb_schema.specs.RowKeys.{node_key}
use Rattle.snb_schema.specs.RowValues.{table_of}
use Rattle.snb_graph_model.specs.Graphs.{HasKey, IsGraph}
use Rattle.snb_graph_model.specs.Messages.{IsRoot}
use Rattle.snb_graph_model.specs.Soundness.{EndsAfter, HoldsRefs, Sound}
use Rattle.snb_graph_integrity.specs.SoundLaws.{NumbersFit, RootsAreOfParents}
use Rattle.snb_read_lookups.proofs.Laws.{any}
use Rattle.snb_read_lookups.specs.Lookups.{IsCellNumber}
use Rattle.snb_short_reads.specs.Roots.{IsOnlyRoot}

-- the second id of a link
abbrev link_to : Row → ℕ
link_to (row.Link t from to) = to
link_to r = 0

-- a comment is at the chain, so many steps before its end
pub record IsAt (g : List Row) (comment done most at : ℕ) : Type 0 where
  pub left : ℕ
  pub chain : EndsAfter g left at
  pub short : suc (done + left) ≤ most
  pub held : HasKey g (node_key kinds.Comment at)
  pub same : (r : ℕ) → IsRoot g at r → IsRoot g comment r

-- of a comment that replies to a comment, the chain goes on there
pub chain_step : (g : List Row) → IsGraph g → (left at id : ℕ) → EndsAfter g left at → Contains g (row.Link table.CommentReplyOfComment at id) → (k : ℕ) × EndsAfter g k id × (left ≡ suc k)
chain_step g graph zero at id (post, c) d =
    let same = graph.apart (row.Link table.CommentReplyOfPost at post) (row.Link table.CommentReplyOfComment at id) c d refl in
    let both : table.CommentReplyOfPost ≡ table.CommentReplyOfComment = ap table_of same in
    absurd cc
chain_step g graph (suc n) at id (parent, c, rest) d =
    let same = graph.apart (row.Link table.CommentReplyOfComment at parent) (row.Link table.CommentReplyOfComment at id) c d refl in
    (n, subst (EndsAfter g n) (ap link_to same) rest, refl)

-- a chain has a first step
pub unended : (g : List Row) (n comment : ℕ) → EndsAfter g n comment → ¬ HasKey g (table.CommentReplyOfPost, comment, 0, []) → ¬ HasKey g (table.CommentReplyOfComment, comment, 0, []) → ⊥
unended g zero comment (post, c) a b = a (record { it = row.Link table.CommentReplyOfPost comment post; held = c; keyed = refl })
unended g (suc n) comment (parent, c, rest) a b = b (record { it = row.Link table.CommentReplyOfComment comment parent; held = c; keyed = refl })

-- the post to which the last comment of a chain replies is the root
pub found_root : (g : List Row) → IsGraph g → NumbersFit → HoldsRefs g → (comment done most at id : ℕ) → IsAt g comment done most at → Contains g (row.Link table.CommentReplyOfPost at id) → IsOnlyRoot g comment id
found_root g graph fit held comment done most at id is c = record {
  root = is.same id (inr (0, c));
  held = held (row.Link table.CommentReplyOfPost at id) c 1 any (omega arith);
  fits = fit g graph (row.Link table.CommentReplyOfPost at id) c 1 NoId (omega arith);
}

-- and of another comment the chain goes on
pub at_more : (g : List Row) → IsGraph g → Sound g → RootsAreOfParents → (comment done most at id : ℕ) → IsAt g comment done most at → Contains g (row.Link table.CommentReplyOfComment at id) → IsAt g comment (done + 1) most id
at_more g graph sound roots comment done most at id is c =
    let (k, rest, up) = chain_step g graph is.left at id is.chain c in
    record {
      left = k;
      chain = rest;
      short = omega (arith, is.short, up);
      held = sound.held (row.Link table.CommentReplyOfComment at id) c 1 any (omega arith);
      same = λ r h. is.same r ((roots g graph sound at id r (inr c)).1 h);
    }

-- a post is its own root
pub own_root : (g : List Row) → IsGraph g → NumbersFit → (id : ℕ) (q : Post) → (q.id ≡ id) × Contains g (row.Post q) → IsOnlyRoot g id id
own_root g graph fit id q (named, c) =
    let has : HasKey g (node_key kinds.Post id) = record { it = row.Post q; held = c; keyed = ap (node_key kinds.Post) named } in
    let number : IsCellNumber q.id = fit g graph (row.Post q) c 0 NoId (omega arith) in
    record { root = inl (has, refl); held = has; fits = subst IsCellNumber named number }
