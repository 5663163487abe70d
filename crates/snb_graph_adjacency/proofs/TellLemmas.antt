-- What the walks over the rows give is what the rows tell of.
use Rattle.std.proofs.Common.{◌≡◌, ◌↔◌, ℕ, List, Option, Some, refl, sym, ap, ◌∙◌, subst, inl, inr}
use Rattle.std.specs.List.{Contains}
use Rattle.std.specs.Option.{unwrap_or}
use Rattle.snb_schema.specs.declared.row.Row.{Row}
use Rattle.snb_schema.specs.declared.row.Row.TheVariants as row
use Rattle.snb_schema.specs.declared.table.Kind.{Kind}
use Rattle.snb_schema.specs.declared.table.Kind.TheVariants as kinds
use Rattle.snb_schema.specs.declared.table.Table.TheVariants as table
use Rattle.snb_schema.specs.References.{from_kind}
use Rattle.snb_graph_model.proofs.Laws.{HasComment, HasPost, Replied, Sent, friend_here, friend_there, liker_here, liker_there, replied_here, replied_there, sent_here, sent_there, stay_here, stay_there}
use Rattle.snb_graph_model.specs.Graphs.{IsGraph}
use Rattle.snb_graph_model.specs.Messages.{RepliesTo}
use Rattle.snb_graph_adjacency.specs.declared.indexes.Indexes.{Indexes}
use Rattle.snb_graph_adjacency.specs.declared.link.Link.{Link}
use Rattle.snb_graph_adjacency.specs.declared.link.Walk.{Walk}
use Rattle.snb_graph_adjacency.specs.declared.link.Walk.TheVariants.{Friends, Messages, Replies, PostLikes, CommentLikes, Work, Study}
use Rattle.snb_graph_adjacency.specs.Kept.{HasLink, IsAlong, IsIndexed, along}
use Rattle.snb_graph_adjacency.specs.Links.{IsMessage, IsReply, Tells, message_of}
use Rattle.snb_graph_adjacency.specs.LinkDelta.{TellsLink}

-- ---- messages and replies

-- the node of a message's kind, id and date
post_node : (g : List Row) (id date : ℕ) (r : Row) → Contains g r → message_of r ≡ Some (kinds.Post, id, date) → HasPost g id date
post_node g id date (row.Post q) c e =
    let same : ◌≡◌ {A = Kind × ℕ × ℕ} (kinds.Post, q.id, q.creation_date) (kinds.Post, id, date) = cc in
    (q, c, ap (λ (x : Kind × ℕ × ℕ). x.1) same, ap (λ (x : Kind × ℕ × ℕ). x.2) same)
post_node g id date (row.Comment m) c e =
    let same : ◌≡◌ {A = Kind × ℕ × ℕ} (kinds.Comment, m.id, m.creation_date) (kinds.Post, id, date) = cc in
    let both : kinds.Comment ≡ kinds.Post = ap (λ (x : Kind × ℕ × ℕ). x.0) same in
    absurd cc
post_node g id date r c e = absurd cc

comment_node : (g : List Row) (id date : ℕ) (r : Row) → Contains g r → message_of r ≡ Some (kinds.Comment, id, date) → HasComment g id date
comment_node g id date (row.Comment m) c e =
    let same : ◌≡◌ {A = Kind × ℕ × ℕ} (kinds.Comment, m.id, m.creation_date) (kinds.Comment, id, date) = cc in
    (m, c, ap (λ (x : Kind × ℕ × ℕ). x.1) same, ap (λ (x : Kind × ℕ × ℕ). x.2) same)
comment_node g id date (row.Post q) c e =
    let same : ◌≡◌ {A = Kind × ℕ × ℕ} (kinds.Post, q.id, q.creation_date) (kinds.Comment, id, date) = cc in
    let both : kinds.Post ≡ kinds.Comment = ap (λ (x : Kind × ℕ × ℕ). x.0) same in
    absurd cc
comment_node g id date r c e = absurd cc

some_kind : (j k : Kind) → Some j ≡ Some k → j ≡ k
some_kind j k e = ap (λ (o : Option Kind). unwrap_or o j) e

message_sent : (g : List Row) (p id date : ℕ) → IsMessage g p id date → Sent g p id date
message_sent g p id date l = elim l.among [
  | inl e ↦ (let kind : l.kind ≡ kinds.Post = some_kind l.kind kinds.Post (sym l.from ∙ ap from_kind e) in
      inl (subst (λ t. Contains g (row.Link t id p)) e l.linked, post_node g id date l.node l.held (l.is ∙ ap (λ (j : Kind). Some (j, id, date)) kind)))
  | inr e ↦ (let kind : l.kind ≡ kinds.Comment = some_kind l.kind kinds.Comment (sym l.from ∙ ap from_kind e) in
      inr (subst (λ t. Contains g (row.Link t id p)) e l.linked, comment_node g id date l.node l.held (l.is ∙ ap (λ (j : Kind). Some (j, id, date)) kind)))
]

sent_message : (g : List Row) (p id date : ℕ) → Sent g p id date → IsMessage g p id date
sent_message g p id date (inl (link, (q, c, is, at))) = record {
  edge = table.PostHasCreatorPerson;
  among = inl refl;
  kind = kinds.Post;
  from = refl;
  node = row.Post q;
  linked = link;
  held = c;
  is = λ i. Some (kinds.Post, is i, at i);
}
sent_message g p id date (inr (link, (m, c, is, at))) = record {
  edge = table.CommentHasCreatorPerson;
  among = inr refl;
  kind = kinds.Comment;
  from = refl;
  node = row.Comment m;
  linked = link;
  held = c;
  is = λ i. Some (kinds.Comment, is i, at i);
}

reply_replied : (g : List Row) (m id date : ℕ) → IsReply g m id date → Replied g m id date
reply_replied g m id date l = elim l.among [
  | inl e ↦ (
    inl (subst (λ t. Contains g (row.Link t id m)) e l.linked),
    comment_node g id date l.node l.held (l.is ∙ ap (λ (j : Kind). Some (j, id, date)) (some_kind l.kind kinds.Comment (sym l.from ∙ ap from_kind e))),
  )
  | inr e ↦ (
    inr (subst (λ t. Contains g (row.Link t id m)) e l.linked),
    comment_node g id date l.node l.held (l.is ∙ ap (λ (j : Kind). Some (j, id, date)) (some_kind l.kind kinds.Comment (sym l.from ∙ ap from_kind e))),
  )
]

replied_reply : (g : List Row) (m id date : ℕ) → RepliesTo g id m → HasComment g id date → IsReply g m id date
replied_reply g m id date (inl link) (c, held, is, at) = record {
  edge = table.CommentReplyOfPost;
  among = inl refl;
  kind = kinds.Comment;
  from = refl;
  node = row.Comment c;
  linked = link;
  held = held;
  is = λ i. Some (kinds.Comment, is i, at i);
}
replied_reply g m id date (inr link) (c, held, is, at) = record {
  edge = table.CommentReplyOfComment;
  among = inr refl;
  kind = kinds.Comment;
  from = refl;
  node = row.Comment c;
  linked = link;
  held = held;
  is = λ i. Some (kinds.Comment, is i, at i);
}

-- ---- walks

told : (g : List Row) (w : Walk) (of id date : ℕ) → Contains (along g w of) (id, date) ↔ Tells g w of id date
told g Friends of id date = (friend_there g of id date, friend_here g of id date)
told g Messages of id date = (λ c. sent_message g of id date (sent_there g of id date c), λ l. sent_here g of id date (message_sent g of id date l))
told g Replies of id date = (λ c. (let r = replied_there g of id date c in replied_reply g of id date r.0 r.1), λ l. replied_here g of id date (reply_replied g of id date l))
told g PostLikes of id date = (liker_there g table.PersonLikesPost of id date, liker_here g table.PersonLikesPost of id date)
told g CommentLikes of id date = (liker_there g table.PersonLikesComment of id date, liker_here g table.PersonLikesComment of id date)
told g Work of id date = (stay_there g table.PersonWorkAtOrganisation of id date, stay_here g table.PersonWorkAtOrganisation of id date)
told g Study of id date = (stay_there g table.PersonStudyAtOrganisation of id date, stay_here g table.PersonStudyAtOrganisation of id date)

-- a walk gives a link exactly where the rows tell of it
pub along_tells : (g : List Row) (l : Link) → IsAlong g l ↔ TellsLink g l
along_tells g l = told g l.walk l.of l.id l.date

-- so the links are those that the rows tell of
pub links_told : (g : List Row) (s : Indexes) → IsIndexed g s → (l : Link) → HasLink s l ↔ TellsLink g l
links_told g s is l = (λ x. (along_tells g l).0 ((is.same l).0 x), λ x. (is.same l).1 ((along_tells g l).1 x))

pub told_indexed : (g : List Row) (s : Indexes) → IsGraph g → ((l : Link) → HasLink s l ↔ TellsLink g l) → IsIndexed g s
told_indexed g s graph same = record { graph = graph; same = λ l. (λ x. (along_tells g l).1 ((same l).0 x), λ x. (same l).1 ((along_tells g l).0 x)) }
