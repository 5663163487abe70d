-- What there is once in a graph: a person, a message, its date, its author and its root.
use Rattle.std.proofs.Common.{◌≡◌, ◌⊎◌, ℕ, zero, suc, ◌==◌, true, List, [], ◌∷◌, ◌++◌, Some, refl, sym, ap, ◌∙◌, subst, inl, inr}
use Rattle.std.proofs.lemmas.Bool.{eqb-true}
use Rattle.std.proofs.lemmas.List.Elements.{Contains-append_cases}
use Rattle.std.specs.List.{Contains}
use Rattle.snb_schema.specs.declared.nodes.Comment.{Comment}
use Rattle.snb_schema.specs.declared.nodes.Post.{Post}
use Rattle.snb_schema.specs.declared.person.Person.{Person}
use Rattle.snb_schema.specs.declared.row.Row.{Row}
use Rattle.snb_schema.specs.declared.row.Row.TheVariants as row
use Rattle.snb_schema.specs.declared.table.Kind.TheVariants as kinds
use Rattle.snb_schema.specs.declared.table.Table.TheVariants as table
use Rattle.snb_schema.specs.RowKeys.{node_key}
use Rattle.snb_graph_model.specs.Graphs.{IsGraph, rows}
use Rattle.snb_graph_model.specs.Messages.{HasMessage, IsRoot, Wrote}
use Rattle.snb_graph_model.specs.Soundness.{Sound}
use Rattle.snb_graph_integrity.specs.SoundLaws.{MessagesHaveOneAuthor, MessagesHaveOneRoot, RepliesAreHeld}
use Rattle.snb_graph_model.proofs.Laws.{comment_only, in_rows, person_only, person_row, post_only, sent_there}
use Rattle.snb_base.proofs.Laws.{given_by, in_one, one_only}
use Rattle.snb_graph_model.specs.Around.{authors, messages, persons, with_id}
use Rattle.snb_graph_model.specs.RowParts.{Message, comment_shown, message_in, person_in, post_shown}
use Rattle.snb_read_model.specs.ShortReads.{IsAuthor}
use Rattle.std.proofs.lemmas.Option.{cond_some}

-- ---- a person

pub one_person : (g : List Row) → IsGraph g → (id : ℕ) (p q : Person) → Contains (persons g id) p → Contains (persons g id) q → p ≡ q
one_person g graph id p q c d =
    let (r, there, gives) = given_by (person_in id) (rows g table.Person) p c in
    let (is, same) = person_row id r p gives in
    let held = subst (Contains g) is ((in_rows g table.Person r).0 there).0 in
    let only : persons g id ≡ p ∷ [] = subst (λ n. persons g n ≡ p ∷ []) same (person_only g p graph held) in
    in_one p q (subst (λ (l : List Person). Contains l q) only d)

-- ---- a message

-- the post or the comment that a message is
message_at : (id : ℕ) (r : Row) (m : Message) → message_in id r ≡ Some m
    → ((q : Post) × (r ≡ row.Post q) × (q.id ≡ id) × (post_shown q ≡ m)) ⊎ ((c : Comment) × (r ≡ row.Comment c) × (c.id ≡ id) × (comment_shown c ≡ m))
message_at id (row.Post q) m e =
    let (test, same) = cond_some (q.id == id) (post_shown q) m e in
    inl (q, refl, eqb-true q.id id test, same)
message_at id (row.Comment c) m e =
    let (test, same) = cond_some (c.id == id) (comment_shown c) m e in
    inr (c, refl, eqb-true c.id id test, same)
message_at id r m e = absurd cc

messages_held : (g : List Row) (r : Row) → Contains (rows g table.Post ++ rows g table.Comment) r → Contains g r
messages_held g r c = elim (Contains-append_cases (rows g table.Post) (rows g table.Comment) r c) [
  | inl d ↦ ((in_rows g table.Post r).0 d).0
  | inr d ↦ ((in_rows g table.Comment r).0 d).0
]

message_only : (g : List Row) → IsGraph g → (id : ℕ) (m : Message) → Contains (with_id g id) m → with_id g id ≡ m ∷ []
message_only g graph id m c =
    let (r, there, gives) = given_by (message_in id) (rows g table.Post ++ rows g table.Comment) m c in
    let held = messages_held g r there in
    elim (message_at id r m gives) [
      | inl (q, is, same, shown) ↦ subst (λ n. with_id g n ≡ m ∷ []) same (post_only g q graph (subst (Contains g) is held) ∙ ap (λ (x : Message). x ∷ []) shown)
      | inr (q, is, same, shown) ↦ subst (λ n. with_id g n ≡ m ∷ []) same (comment_only g q graph (subst (Contains g) is held) ∙ ap (λ (x : Message). x ∷ []) shown)
    ]

pub one_message : (g : List Row) → IsGraph g → (id : ℕ) (m n : Message) → Contains (with_id g id) m → Contains (with_id g id) n → m ≡ n
one_message g graph id m n c d = in_one m n (subst (λ (l : List Message). Contains l n) (message_only g graph id m c) d)

-- a person's message has the date of the message of that id
pub sent_date : (g : List Row) → IsGraph g → (p id date : ℕ) (m : Message) → Contains (messages g p) (id, date) → with_id g id ≡ m ∷ [] → m.date ≡ date
sent_date g graph p id date m c is = elim (sent_there g p id date c) [
  | inl (link, (q, held, same, at)) ↦ ap (λ (x : Message). x.date) (one_only (with_id g id) m (post_shown q) is (subst (λ n. with_id g n ≡ post_shown q ∷ []) same (post_only g q graph held))) ∙ at
  | inr (link, (q, held, same, at)) ↦ ap (λ (x : Message). x.date) (one_only (with_id g id) m (comment_shown q) is (subst (λ n. with_id g n ≡ comment_shown q ∷ []) same (comment_only g q graph held))) ∙ at
]

-- the person wrote the message that is theirs, and it is held
sender : (g : List Row) (p id date : ℕ) → Contains (messages g p) (id, date) → Wrote g p id × HasMessage g id
sender g p id date c = elim (sent_there g p id date c) [
  | inl (link, (q, held, same, at)) ↦ (inl link, inl (record { it = row.Post q; held = held; keyed = ap (node_key kinds.Post) same }))
  | inr (link, (q, held, same, at)) ↦ (inr link, inr (record { it = row.Comment q; held = held; keyed = ap (node_key kinds.Comment) same }))
]

-- a message is one person's
pub one_sender : MessagesHaveOneAuthor → (g : List Row) → IsGraph g → Sound g → (p q id date time : ℕ) → Contains (messages g p) (id, date) → Contains (messages g q) (id, time) → p ≡ q
one_sender law g graph sound p q id date time c d =
    let (wrote, held) = sender g p id date c in
    let (also, too) = sender g q id time d in
    let author = law g graph sound id held in
    author.alone p wrote ∙ sym (author.alone q also)

-- ---- the author and the root of a message

pub one_author : (g : List Row) (m : ℕ) (p q : Person) → IsAuthor g m p → IsAuthor g m q → p ≡ q
one_author g m p q a b =
    let ids : a.id ≡ b.id = one_only (authors g m) a.id b.id a.created b.created in
    one_only (persons g b.id) p q (subst (λ n. persons g n ≡ p ∷ []) ids a.held) b.held

root_held : RepliesAreHeld → (g : List Row) → Sound g → (m post : ℕ) → IsRoot g m post → HasMessage g m
root_held law g sound m post (inl (key, same)) = inl key
root_held law g sound m post (inr (zero, last)) = inr (law g sound m post (inl last)).0
root_held law g sound m post (inr (suc n, (parent, link, rest))) = inr (law g sound m parent (inr link)).0

pub one_root : MessagesHaveOneRoot → RepliesAreHeld → (g : List Row) → IsGraph g → Sound g → (m a b : ℕ) → IsRoot g m a → IsRoot g m b → a ≡ b
one_root roots replies g graph sound m a b from also =
    let root = roots g graph sound m (root_held replies g sound m a from) in
    root.alone a from ∙ sym (root.alone b also)
