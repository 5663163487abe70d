-- Laws of sound graphs: the roots of messages.
use Rattle.std.proofs.Common.{◌≡◌, ℕ, zero, suc, List, refl, sym, ap, subst, inl, inr}
use Rattle.std.specs.List.{Contains}
use Rattle.snb_schema.specs.declared.row.Row.{Row}
use Rattle.snb_schema.specs.declared.row.Row.TheVariants as row
use Rattle.snb_schema.specs.declared.table.Kind.TheVariants as kinds
use Rattle.snb_schema.specs.declared.table.Table.TheVariants as table
use Rattle.snb_schema.specs.RowKeys.{node_key}
use Rattle.snb_graph_integrity.specs.SoundLaws.{MessagesHaveOneRoot, RootsAreOfParents}
use Rattle.snb_graph_integrity.proofs.SoundLemmas.{ends_held, no_parent, one_kind, one_link, one_parent, replies_held}
use Rattle.snb_graph_model.specs.Graphs.{HasKey, IsGraph}
use Rattle.snb_graph_model.specs.Messages.{EndsAt, IsRoot, RepliesTo}
use Rattle.snb_graph_model.specs.Soundness.{EndsAfter, Sound}

-- a chain that comes to an end has a post there
pub chain_post : (g : List Row) (n comment : ℕ) → EndsAfter g n comment → (post : ℕ) × EndsAt g n comment post
chain_post g zero comment ends = ends
chain_post g (suc n) comment ends = let rest = chain_post g n ends.0 ends.2 in (rest.0, (ends.0, ends.1, rest.1))

-- the first comment of a chain is held
pub comment_held : (g : List Row) → Sound g → (n comment post : ℕ) → EndsAt g n comment post → HasKey g (node_key kinds.Comment comment)
comment_held g sound zero comment post ends = (replies_held g sound comment post (inl ends)).0
comment_held g sound (suc n) comment post ends = (replies_held g sound comment ends.0 (inr ends.1)).0

-- and so is the post at its end
post_held : (g : List Row) → Sound g → (n comment post : ℕ) → EndsAt g n comment post → HasKey g (node_key kinds.Post post)
post_held g sound zero comment post ends = (ends_held g table.CommentReplyOfPost comment post kinds.Comment kinds.Post sound.held refl refl ends).1
post_held g sound (suc n) comment post ends = post_held g sound n ends.0 post ends.2

-- a comment that replies to a post replies to no comment
not_both : (g : List Row) → IsGraph g → (comment post other : ℕ) → Contains g (row.Link table.CommentReplyOfPost comment post) → Contains g (row.Link table.CommentReplyOfComment comment other) → ⊥
not_both g graph comment post other a b = let same = (one_link g graph table.CommentReplyOfPost table.CommentReplyOfComment comment post comment other a b refl).0 in absurd cc

-- a comment's chain ends at one post, after so many comments
pub one_end : (g : List Row) → IsGraph g → (n k comment post other : ℕ) → EndsAt g n comment post → EndsAt g k comment other → (n ≡ k) × (post ≡ other)
one_end g graph zero zero comment post other a b = (refl, one_parent g graph comment post other (inl a) (inl b))
one_end g graph zero (suc k) comment post other a b = absurd (not_both g graph comment post b.0 a b.1)
one_end g graph (suc n) zero comment post other a b = absurd (not_both g graph comment other a.0 b a.1)
one_end g graph (suc n) (suc k) comment post other a b =
    let same = one_parent g graph comment a.0 b.0 (inr a.1) (inr b.1) in
    let rest = one_end g graph n k b.0 post other (subst (λ p. EndsAt g n p post) same a.2) b.2 in
    (ap suc rest.0, rest.1)

-- each message has one root
pub one_root : MessagesHaveOneRoot
one_root g graph sound message (inl post) = record {
  post = message;
  root = inl (post, refl);
  held = post;
  alone = λ other root. elim root [
    | inl own ↦ sym own.1
    | inr chain ↦ absurd (one_kind g graph message post (comment_held g sound chain.0 message other chain.1))
  ];
}
one_root g graph sound message (inr comment) =
    let rooted = sound.rooted message comment in
    let chain = chain_post g rooted.0 message rooted.1 in
    record {
      post = chain.0;
      root = inr (rooted.0, chain.1);
      held = post_held g sound rooted.0 message chain.0 chain.1;
      alone = λ other root. elim root [
        | inl own ↦ absurd (one_kind g graph message own.0 comment)
        | inr more ↦ (one_end g graph more.0 rooted.0 message other chain.0 more.1 chain.1).1
      ];
    }

-- the root of a comment is that of its parent
to_parent : (g : List Row) → IsGraph g → Sound g → (comment parent post : ℕ) → RepliesTo g comment parent → IsRoot g comment post → IsRoot g parent post
to_parent g graph sound comment parent post reply (inl own) = absurd (no_parent g graph sound comment parent own.0 reply)
to_parent g graph sound comment parent post reply (inr (zero, ends)) =
    let same = one_parent g graph comment parent post reply (inl ends) in
    inl (subst (λ p. HasKey g (node_key kinds.Post p)) (sym same) (post_held g sound zero comment post ends), same)
to_parent g graph sound comment parent post reply (inr (suc n, ends)) =
    inr (n, subst (λ p. EndsAt g n p post) (sym (one_parent g graph comment parent ends.0 reply (inr ends.1))) ends.2)

-- and that of the parent is the comment's
from_parent : (g : List Row) → IsGraph g → Sound g → (comment parent post : ℕ) → RepliesTo g comment parent → IsRoot g parent post → IsRoot g comment post
from_parent g graph sound comment parent post (inl reply) (inl own) = inr (zero, subst (λ p. Contains g (row.Link table.CommentReplyOfPost comment p)) own.1 reply)
from_parent g graph sound comment parent post (inr reply) (inr chain) = inr (suc chain.0, (parent, reply, chain.1))
from_parent g graph sound comment parent post (inl reply) (inr chain) =
    absurd (one_kind g graph parent (post_held g sound zero comment parent reply) (comment_held g sound chain.0 parent post chain.1))
from_parent g graph sound comment parent post (inr reply) (inl own) =
    absurd (one_kind g graph parent own.0 (ends_held g table.CommentReplyOfComment comment parent kinds.Comment kinds.Comment sound.held refl refl reply).1)

-- a comment has the root of its parent
pub parent_root : RootsAreOfParents
parent_root g graph sound comment parent post reply = (to_parent g graph sound comment parent post reply, from_parent g graph sound comment parent post reply)
