-- What one row more makes of the links.
use Rattle.std.proofs.Common.{◌≡◌, ◌≢◌, ◌↔◌, ◌⊎◌, ◌<◌, ◌++◌, ◌∷◌, [], ℕ, Bool, true, false, ◌||◌, List, Option, Some, None, refl, sym, ap, ◌∙◌, subst, inl, inr, arith}
use Rattle.std.specs.Option.{unwrap_or, IfSome}
use Rattle.std.specs.List.{Contains}
use Rattle.std.specs.List.Sorted.{IsPermutation}
use Rattle.std.proofs.lemmas.List.Elements.{All-contains, Contains-append_left, Contains-append_right}
use Rattle.std.proofs.lemmas.List.Sorted.{IsPermutation-sym, Contains-permutation}
use denote.Enum.Bare.{same_true}
use mathlib.Core.Bool.{false≢true}
use Rattle.snb_schema.specs.contracts.table.Table.{the_type as the_table}
use Rattle.snb_schema.specs.declared.layout.KeyColumns.TheVariants.{First}
use Rattle.snb_schema.specs.declared.row.Row.{Row}
use Rattle.snb_schema.specs.declared.row.Row.TheVariants as row
use Rattle.snb_schema.specs.declared.table.Kind.{Kind}
use Rattle.snb_schema.specs.declared.table.Kind.TheVariants as kinds
use Rattle.snb_schema.specs.declared.table.Table.{Table}
use Rattle.snb_schema.specs.declared.table.Table.TheVariants as table
use Rattle.snb_schema.specs.Layouts.{key_columns}
use Rattle.snb_schema.specs.References.{from_kind}
use Rattle.snb_schema.specs.RowKeys.{edge_key, sharing, slot, slot_of}
use Rattle.snb_schema.specs.TableOrder.{same_table}
use Rattle.snb_schema.specs.TableRows.{IsTableRow}
use Rattle.snb_graph_tables.proofs.Laws.{contains_gained}
use Rattle.snb_graph_model.specs.Graphs.{HasSlot, IsGraph}
use Rattle.snb_graph_adjacency.specs.declared.link.Link.{Link}
use Rattle.snb_graph_adjacency.specs.declared.link.Walk.{Walk}
use Rattle.snb_graph_adjacency.specs.declared.link.Walk.TheVariants.{Friends, Messages, Replies, PostLikes, CommentLikes, Work, Study}
use Rattle.snb_graph_adjacency.specs.Concerns.{concerns}
use Rattle.snb_graph_adjacency.specs.Kept.{IsTold, SameEnds}
use Rattle.snb_graph_adjacency.specs.Links.{IsCreatorTable, IsFriendship, IsParentTable, LeadsTo, Tells, message_of}
use Rattle.snb_graph_adjacency.specs.LinkDelta.{IsAlone, IsDated, IsLed, IsLedNowhere, IsLinkDelta, IsLinkDeltaOf, IsUndated, TellsLink, link}
use Rattle.snb_graph_adjacency.proofs.LinkLemmas.{same_walk}
use Rattle.snb_base.proofs.Laws.{contains_here, none_some}
use Rattle.std.proofs.lemmas.Option.{same_Some}

-- ---- rows old and new

pub old_row : (old new : List Row) (r x : Row) → IsPermutation new (old ++ r ∷ []) → Contains old x → Contains new x
old_row old new r x p c = Contains-permutation (old ++ r ∷ []) new x (IsPermutation-sym _ _ p) (Contains-append_left old (r ∷ []) x c)

pub this_row : (old new : List Row) (r : Row) → IsPermutation new (old ++ r ∷ []) → Contains new r
this_row old new r p = Contains-permutation (old ++ r ∷ []) new r (IsPermutation-sym _ _ p) (Contains-append_right old (r ∷ []) r (contains_here r []))

-- a row along which a walk goes is an old one, where it doesn't go along the new one
unconcerned : (g new : List Row) (r x : Row) (w : Walk) → IsPermutation new (g ++ r ∷ []) → concerns w r ≡ false → concerns w x ≡ true → Contains new x → Contains g x
unconcerned g new r x w perm mute goes c =
    elim (contains_gained g new r x perm c) [ inl old ↦ old | inr e ↦ absurd (false≢true (sym mute ∙ ap (concerns w) e ∙ goes)) ]

creator_concerns : (t : Table) (a b : ℕ) → IsCreatorTable t → concerns Messages (row.Link t a b) ≡ true
creator_concerns t a b (inl e) = subst (λ u. concerns Messages (row.Link u a b) ≡ true) (sym e) refl
creator_concerns t a b (inr e) = subst (λ u. concerns Messages (row.Link u a b) ≡ true) (sym e) refl

parent_concerns : (t : Table) (a b : ℕ) → IsParentTable t → concerns Replies (row.Link t a b) ≡ true
parent_concerns t a b (inl e) = subst (λ u. concerns Replies (row.Link u a b) ≡ true) (sym e) refl
parent_concerns t a b (inr e) = subst (λ u. concerns Replies (row.Link u a b) ≡ true) (sym e) refl

message_concerns : (n : Row) (k : Kind) (id date : ℕ) → message_of n ≡ Some (k, id, date) → concerns Messages n ≡ true
message_concerns (row.Post x) k id date is = refl
message_concerns (row.Comment x) k id date is = refl
message_concerns n k id date is = absurd cc

pub parent_kind : (t : Table) (k : Kind) → IsParentTable t → from_kind t ≡ Some k → k ≡ kinds.Comment
parent_kind t k (inl e) is = sym (same_Some kinds.Comment k (ap from_kind (sym e) ∙ is))
parent_kind t k (inr e) is = sym (same_Some kinds.Comment k (ap from_kind (sym e) ∙ is))

reply_concerns : (n : Row) (k : Kind) (id date : ℕ) → k ≡ kinds.Comment → message_of n ≡ Some (k, id, date) → concerns Replies n ≡ true
reply_concerns (row.Comment x) k id date comment is = refl
reply_concerns (row.Post x) k id date comment is =
    let post = ap (λ (o : Option (Kind × ℕ × ℕ)). (unwrap_or o (k, id, date)).0) is ∙ comment in absurd (post_or_comment post)
  where
    post_or_comment : kinds.Post ≡ kinds.Comment → ⊥
    post_or_comment e = absurd cc
reply_concerns n k id date comment is = absurd cc

-- a walk that doesn't go along the new row tells nothing new
pub silent : (g new : List Row) (r : Row) (w : Walk) → IsPermutation new (g ++ r ∷ []) → concerns w r ≡ false → (of id date : ℕ) → Tells new w of id date → Tells g w of id date
silent g new r Friends perm mute of id date (inl c) = inl (unconcerned g new r _ Friends perm mute refl c)
silent g new r Friends perm mute of id date (inr c) = inr (unconcerned g new r _ Friends perm mute refl c)
silent g new r Messages perm mute of id date l = record {
  edge = l.edge;
  among = l.among;
  kind = l.kind;
  from = l.from;
  node = l.node;
  linked = unconcerned g new r _ Messages perm mute (creator_concerns l.edge id of l.among) l.linked;
  held = unconcerned g new r _ Messages perm mute (message_concerns l.node l.kind id date l.is) l.held;
  is = l.is;
}
silent g new r Replies perm mute of id date l = record {
  edge = l.edge;
  among = l.among;
  kind = l.kind;
  from = l.from;
  node = l.node;
  linked = unconcerned g new r _ Replies perm mute (parent_concerns l.edge id of l.among) l.linked;
  held = unconcerned g new r _ Replies perm mute (reply_concerns l.node l.kind id date (parent_kind l.edge l.kind l.among l.from) l.is) l.held;
  is = l.is;
}
silent g new r PostLikes perm mute of id date c = unconcerned g new r _ PostLikes perm mute refl c
silent g new r CommentLikes perm mute of id date c = unconcerned g new r _ CommentLikes perm mute refl c
silent g new r Work perm mute of id date c = unconcerned g new r _ Work perm mute refl c
silent g new r Study perm mute of id date c = unconcerned g new r _ Study perm mute refl c

leads_still : (F : Table → Type 0) (g new : List Row) (r : Row) → IsPermutation new (g ++ r ∷ []) → (of id date : ℕ) → LeadsTo F g of id date → LeadsTo F new of id date
leads_still F g new r perm of id date l = record {
  edge = l.edge;
  among = l.among;
  kind = l.kind;
  from = l.from;
  node = l.node;
  linked = old_row g new r _ perm l.linked;
  held = old_row g new r _ perm l.held;
  is = l.is;
}

-- what the rows tell they still tell with one more
pub still_tells : (g new : List Row) (r : Row) (w : Walk) → IsPermutation new (g ++ r ∷ []) → (of id date : ℕ) → Tells g w of id date → Tells new w of id date
still_tells g new r Friends perm of id date (inl c) = inl (old_row g new r _ perm c)
still_tells g new r Friends perm of id date (inr c) = inr (old_row g new r _ perm c)
still_tells g new r Messages perm of id date l = leads_still IsCreatorTable g new r perm of id date l
still_tells g new r Replies perm of id date l = leads_still IsParentTable g new r perm of id date l
still_tells g new r PostLikes perm of id date c = old_row g new r _ perm c
still_tells g new r CommentLikes perm of id date c = old_row g new r _ perm c
still_tells g new r Work perm of id date c = old_row g new r _ perm c
still_tells g new r Study perm of id date c = old_row g new r _ perm c

-- ---- edges from messages

-- tables of edges from messages, whose keys are the messages' ids, so that a message has one such edge
pub record IsFamily (F : Table → Type 0) : Type 0 where
  pub keyed : (t : Table) → F t → key_columns t ≡ First
  pub one : (t u : Table) (k : Kind) → F t → F u → from_kind t ≡ Some k → from_kind u ≡ Some k → sharing t ≡ sharing u

pub creators : IsFamily IsCreatorTable
creators = record { keyed = keyed; one = one }
  where
    keyed : (t : Table) → IsCreatorTable t → key_columns t ≡ First
    keyed t (inl e) = subst (λ u. key_columns u ≡ First) (sym e) refl
    keyed t (inr e) = subst (λ u. key_columns u ≡ First) (sym e) refl

    two_kinds : (t u : Table) (k : Kind) → t ≡ table.PostHasCreatorPerson → u ≡ table.CommentHasCreatorPerson → from_kind t ≡ Some k → from_kind u ≡ Some k → ⊥
    two_kinds t u k a b e f = let post = same_Some kinds.Post k (ap from_kind (sym a) ∙ e) in let comment = same_Some kinds.Comment k (ap from_kind (sym b) ∙ f) in apart (post ∙ sym comment)
      where
        apart : kinds.Post ≡ kinds.Comment → ⊥
        apart p = absurd cc

    one : (t u : Table) (k : Kind) → IsCreatorTable t → IsCreatorTable u → from_kind t ≡ Some k → from_kind u ≡ Some k → sharing t ≡ sharing u
    one t u k (inl a) (inl b) e f = ap sharing (a ∙ sym b)
    one t u k (inr a) (inr b) e f = ap sharing (a ∙ sym b)
    one t u k (inl a) (inr b) e f = absurd (two_kinds t u k a b e f)
    one t u k (inr a) (inl b) e f = absurd (two_kinds u t k b a f e)

pub parents : IsFamily IsParentTable
parents = record { keyed = keyed; one = λ t u k a b e f. shared t a ∙ sym (shared u b) }
  where
    keyed : (t : Table) → IsParentTable t → key_columns t ≡ First
    keyed t (inl e) = subst (λ u. key_columns u ≡ First) (sym e) refl
    keyed t (inr e) = subst (λ u. key_columns u ≡ First) (sym e) refl

    shared : (t : Table) → IsParentTable t → sharing t ≡ table.CommentReplyOfPost
    shared t (inl e) = ap sharing e
    shared t (inr e) = ap sharing e

-- the slot of a link of such a table, and of a message
first_slot : (t : Table) (id a : ℕ) → key_columns t ≡ First → slot_of (row.Link t id a) ≡ (sharing t, id, 0, [])
first_slot t id a e = ap (λ c. slot (edge_key c t id a)) e

link_slot : (F : Table → Type 0) → IsFamily F → (t u : Table) (k : Kind) (id a b : ℕ) → F t → F u → from_kind t ≡ Some k → from_kind u ≡ Some k → slot_of (row.Link t id a) ≡ slot_of (row.Link u id b)
link_slot F family t u k id a b ft fu kt ku =
    first_slot t id a (family.keyed t ft) ∙ ap (λ (s : Table). (s, id, 0, [])) (family.one t u k ft fu kt ku) ∙ sym (first_slot u id b (family.keyed u fu))

node_slot : (n : Row) (k : Kind) (id date : ℕ) → message_of n ≡ Some (k, id, date) → slot_of n ≡ (table.Post, id, 0, [])
node_slot (row.Post x) k id date is = ap (λ (o : Option (Kind × ℕ × ℕ)). (table.Post, (unwrap_or o (k, id, date)).1, 0, [])) is
node_slot (row.Comment x) k id date is = ap (λ (o : Option (Kind × ℕ × ℕ)). (table.Post, (unwrap_or o (k, id, date)).1, 0, [])) is
node_slot n k id date is = absurd cc

no_link : (t : Table) (a b : ℕ) (k : Kind) (id date : ℕ) (n : Row) → n ≡ row.Link t a b → message_of n ≡ Some (k, id, date) → ⊥
no_link t a b k id date n e is = let none = sym (ap message_of e) ∙ is in absurd cc

-- of two messages that are one, kind, id and date are the same
pub one_message : (n : Row) (k j : Kind) (id date id' date' : ℕ) → message_of n ≡ Some (k, id, date) → message_of n ≡ Some (j, id', date') → ◌≡◌ {A = Kind × ℕ × ℕ} (k, id, date) (j, id', date')
one_message n k j id date id' date' a b = same_Some (k, id, date) (j, id', date') (sym a ∙ b)

-- the ends of a link
abbrev link_table : Row → Table
link_table (row.Link t a b) = t
link_table r = table.Place

abbrev link_start : Row → ℕ
link_start (row.Link t a b) = a
link_start r = 0

abbrev link_end : Row → ℕ
link_end (row.Link t a b) = b
link_end r = 0

module _ (F : Table → Type 0) (family : IsFamily F) (g : List Row) (graph : IsGraph g) where
  -- messages of one id are one
  pub one_node : (n m : Row) (k j : Kind) (id id' date date' : ℕ) → Contains g n → Contains g m → id ≡ id' → message_of n ≡ Some (k, id, date) → message_of m ≡ Some (j, id', date') → n ≡ m
  one_node n m k j id id' date date' cn cm same a b =
      graph.apart n m cn cm (node_slot n k id date a ∙ ap (λ (i : ℕ). (table.Post, i, 0, [])) same ∙ sym (node_slot m j id' date' b))

  -- a new message that has an edge is one that the edge leads from
  pub node_found : (new : List Row) (r : Row) (t : Table) (k : Kind) (p id date : ℕ) → F t → from_kind t ≡ Some k → message_of r ≡ Some (k, id, date) → Contains g (row.Link t id p) → IsPermutation new (g ++ r ∷ []) →
      (of m d : ℕ) → LeadsTo F new of m d ↔ (LeadsTo F g of m d ⊎ ◌≡◌ {A = ℕ × ℕ × ℕ} (p, id, date) (of, m, d))
  node_found new r t k p id date ft kt message edge perm of m d = (
    λ l. by l (contains_gained g new r _ perm l.linked) (contains_gained g new r _ perm l.held),
    λ or. elim or [
      | inl was ↦ leads_still F g new r perm of m d was
      | inr e ↦ subst (λ (x : ℕ × ℕ × ℕ). LeadsTo F new x.0 x.1 x.2) e
          (record { edge = t; among = ft; kind = k; from = kt; node = r; linked = old_row g new r _ perm edge; held = this_row g new r perm; is = message })
    ],
  )
    where
      by : (l : LeadsTo F new of m d) → Contains g (row.Link l.edge m of) ⊎ (r ≡ row.Link l.edge m of) → Contains g l.node ⊎ (r ≡ l.node) → LeadsTo F g of m d ⊎ ◌≡◌ {A = ℕ × ℕ × ℕ} (p, id, date) (of, m, d)
      by l (inr e) held = absurd (no_link l.edge m of k id date r e message)
      by l (inl linked) (inl held) = inl (record { edge = l.edge; among = l.among; kind = l.kind; from = l.from; node = l.node; linked = linked; held = held; is = l.is })
      by l (inl linked) (inr e) =
          let same = one_message r k l.kind id date m d message (ap message_of e ∙ l.is) in
          let ids : id ≡ m = ap (λ (x : Kind × ℕ × ℕ). x.1) same in
          let dates : date ≡ d = ap (λ (x : Kind × ℕ × ℕ). x.2) same in
          let its_kind : from_kind l.edge ≡ Some k = l.from ∙ ap Some (sym (ap (λ (x : Kind × ℕ × ℕ). x.0) same)) in
          let here : Contains g (row.Link l.edge id of) = subst (λ i. Contains g (row.Link l.edge i of)) (sym ids) linked in
          let people : p ≡ of = ap link_end (graph.apart (row.Link t id p) (row.Link l.edge id of) edge here (link_slot F family t l.edge k id p of ft l.among kt its_kind)) in
          inr (λ i. (people i, ids i, dates i))

  -- a new message without such an edge
  pub node_none : (new : List Row) (r : Row) (k : Kind) (id date : ℕ) → message_of r ≡ Some (k, id, date) → ((t : Table) → F t → from_kind t ≡ Some k → (p : ℕ) → ¬ Contains g (row.Link t id p)) → IsPermutation new (g ++ r ∷ []) →
      (of m d : ℕ) → LeadsTo F new of m d → LeadsTo F g of m d
  node_none new r k id date message none perm of m d l = by (contains_gained g new r _ perm l.linked) (contains_gained g new r _ perm l.held)
    where
      by : Contains g (row.Link l.edge m of) ⊎ (r ≡ row.Link l.edge m of) → Contains g l.node ⊎ (r ≡ l.node) → LeadsTo F g of m d
      by (inr e) held = absurd (no_link l.edge m of k id date r e message)
      by (inl linked) (inl held) = record { edge = l.edge; among = l.among; kind = l.kind; from = l.from; node = l.node; linked = linked; held = held; is = l.is }
      by (inl linked) (inr e) =
          let same = one_message r k l.kind id date m d message (ap message_of e ∙ l.is) in
          let ids : id ≡ m = ap (λ (x : Kind × ℕ × ℕ). x.1) same in
          let its_kind : from_kind l.edge ≡ Some k = l.from ∙ ap Some (sym (ap (λ (x : Kind × ℕ × ℕ). x.0) same)) in
          absurd (none l.edge l.among its_kind of (subst (λ i. Contains g (row.Link l.edge i of)) (sym ids) linked))

  -- where a message's slot is free, no edge leads from it
  pub node_fresh : (r : Row) (k : Kind) (id date : ℕ) → message_of r ≡ Some (k, id, date) → ¬ HasSlot g (slot_of r) → (of d : ℕ) → ¬ LeadsTo F g of id d
  node_fresh r k id date message free of d l = free (record { it = l.node; held = l.held; fills = node_slot l.node l.kind id d l.is ∙ sym (node_slot r k id date message) })

  -- a new edge leads from the message that is held
  pub edge_found : (new : List Row) (n : Row) (t : Table) (k : Kind) (p id date : ℕ) → F t → from_kind t ≡ Some k → message_of n ≡ Some (k, id, date) → Contains g n → IsPermutation new (g ++ row.Link t id p ∷ []) →
      (of m d : ℕ) → LeadsTo F new of m d ↔ (LeadsTo F g of m d ⊎ ◌≡◌ {A = ℕ × ℕ × ℕ} (p, id, date) (of, m, d))
  edge_found new n t k p id date ft kt message held perm of m d = (
    λ l. by l (contains_gained g new (row.Link t id p) _ perm l.linked) (contains_gained g new (row.Link t id p) _ perm l.held),
    λ or. elim or [
      | inl was ↦ leads_still F g new (row.Link t id p) perm of m d was
      | inr e ↦ subst (λ (x : ℕ × ℕ × ℕ). LeadsTo F new x.0 x.1 x.2) e
          (record { edge = t; among = ft; kind = k; from = kt; node = n; linked = this_row g new (row.Link t id p) perm; held = old_row g new (row.Link t id p) _ perm held; is = message })
    ],
  )
    where
      by : (l : LeadsTo F new of m d) → Contains g (row.Link l.edge m of) ⊎ (row.Link t id p ≡ row.Link l.edge m of) → Contains g l.node ⊎ (row.Link t id p ≡ l.node) → LeadsTo F g of m d ⊎ ◌≡◌ {A = ℕ × ℕ × ℕ} (p, id, date) (of, m, d)
      by l linked (inr e) = absurd (no_link t id p l.kind m d l.node (sym e) l.is)
      by l (inl linked) (inl h) = inl (record { edge = l.edge; among = l.among; kind = l.kind; from = l.from; node = l.node; linked = linked; held = h; is = l.is })
      by l (inr e) (inl h) =
          let people : p ≡ of = ap link_end e in
          let ids : id ≡ m = ap link_start e in
          let nodes : n ≡ l.node = one_node n l.node k l.kind id m date d held h ids message l.is in
          let same = one_message n k l.kind id date m d message (ap message_of nodes ∙ l.is) in
          let dates : date ≡ d = ap (λ (x : Kind × ℕ × ℕ). x.2) same in
          inr (λ i. (people i, ids i, dates i))

  -- a new edge from a message that isn't held
  pub edge_none : (new : List Row) (t : Table) (k : Kind) (p id : ℕ) → from_kind t ≡ Some k → ((n : Row) (date : ℕ) → message_of n ≡ Some (k, id, date) → ¬ Contains g n) → IsPermutation new (g ++ row.Link t id p ∷ []) →
      (of m d : ℕ) → LeadsTo F new of m d → LeadsTo F g of m d
  edge_none new t k p id kt none perm of m d l = by (contains_gained g new (row.Link t id p) _ perm l.linked) (contains_gained g new (row.Link t id p) _ perm l.held)
    where
      by : Contains g (row.Link l.edge m of) ⊎ (row.Link t id p ≡ row.Link l.edge m of) → Contains g l.node ⊎ (row.Link t id p ≡ l.node) → LeadsTo F g of m d
      by linked (inr e) = absurd (no_link t id p l.kind m d l.node (sym e) l.is)
      by (inl linked) (inl h) = record { edge = l.edge; among = l.among; kind = l.kind; from = l.from; node = l.node; linked = linked; held = h; is = l.is }
      by (inr e) (inl h) =
          let its_kind : l.kind ≡ k = same_Some l.kind k (sym l.from ∙ ap from_kind (sym (ap link_table e)) ∙ kt) in
          let ids : m ≡ id = sym (ap link_start e) in
          absurd (none l.node d (l.is ∙ (λ i. Some (its_kind i, ids i, d))) h)

  -- where an edge's slot is free, it leads nowhere yet
  pub edge_fresh : (n : Row) (t : Table) (k : Kind) (p id date : ℕ) → F t → from_kind t ≡ Some k → message_of n ≡ Some (k, id, date) → Contains g n → ¬ HasSlot g (slot_of (row.Link t id p)) → (of d : ℕ) → ¬ LeadsTo F g of id d
  edge_fresh n t k p id date ft kt message held free of d l =
      let nodes : n ≡ l.node = one_node n l.node k l.kind id id date d held l.held refl message l.is in
      let same = one_message n k l.kind id date id d message (ap message_of nodes ∙ l.is) in
      let its_kind : from_kind l.edge ≡ Some k = l.from ∙ ap Some (sym (ap (λ (x : Kind × ℕ × ℕ). x.0) same)) in
      free (record { it = row.Link l.edge id of; held = l.linked; fills = sym (link_slot F family t l.edge k id p of ft l.among kt its_kind) })

-- ---- delta along a walk

-- the walk goes along edges from messages
pub record IsAlong (w : Walk) (F : Table → Type 0) : Type 0 where
  pub family : IsFamily F
  pub leads : (h : List Row) (of id date : ℕ) → Tells h w of id date → LeadsTo F h of id date
  pub tells : (h : List Row) (of id date : ℕ) → LeadsTo F h of id date → Tells h w of id date

pub along_messages : IsAlong Messages IsCreatorTable
along_messages = record { family = creators; leads = λ h of id date l. l; tells = λ h of id date l. l }

pub along_replies : IsAlong Replies IsParentTable
along_replies = record { family = parents; leads = λ h of id date l. l; tells = λ h of id date l. l }

-- one link more along a walk
found_delta : (g : List Row) (r : Row) (w : Walk) (p id date : ℕ) (o : Option Link) → o ≡ Some (link w p id date) →
    ((new : List Row) → IsPermutation new (g ++ r ∷ []) → (of m d : ℕ) → Tells new w of m d ↔ (Tells g w of m d ⊎ ◌≡◌ {A = ℕ × ℕ × ℕ} (p, id, date) (of, m, d))) →
    (¬ HasSlot g (slot_of r) → (d : ℕ) → ¬ Tells g w p id d) → IsLinkDeltaOf g r w o
found_delta g r w p id date o is says fresh = record {
  own = λ k e. sym (ap (λ (x : Link). x.walk) (same_Some (link w p id date) k (sym is ∙ e)));
  says = λ new perm of m d. (
    λ x. elim ((says new perm of m d).0 x) [ inl was ↦ inl was | inr e ↦ inr (is ∙ (λ i. Some (link w (ap (λ (y : ℕ × ℕ × ℕ). y.0) e i) (ap (λ (y : ℕ × ℕ × ℕ). y.1) e i) (ap (λ (y : ℕ × ℕ × ℕ). y.2) e i)))) ],
    λ or. (says new perm of m d).1 (elim or [
      | inl was ↦ inl was
      | inr e ↦ inr (ap (λ (x : Link). (x.of, x.id, x.date)) (same_Some (link w p id date) (link w of m d) (sym is ∙ e)))
    ]),
  );
  fresh = λ free k e d x.
      let same = same_Some (link w p id date) k (sym is ∙ e) in
      fresh free d (subst (λ (l : Link). Tells g w l.of l.id d) (sym same) x);
}

-- no link more along a walk
none_delta : (g : List Row) (r : Row) (w : Walk) (o : Option Link) → o ≡ None → ((new : List Row) → IsPermutation new (g ++ r ∷ []) → (of m d : ℕ) → Tells new w of m d → Tells g w of m d) → IsLinkDeltaOf g r w o
none_delta g r w o is says = record {
  own = λ k e. absurd (none_some o k is e);
  says = λ new perm of m d. (
    λ x. inl (says new perm of m d x),
    λ or. elim or [ inl was ↦ still_tells g new r w perm of m d was | inr e ↦ absurd (none_some o (link w of m d) is e) ],
  );
  fresh = λ free k e. absurd (none_some o k is e);
}

-- a walk that doesn't go along the row
pub silent_delta : (g : List Row) (r : Row) (w : Walk) → concerns w r ≡ false → IsLinkDeltaOf g r w None
silent_delta g r w mute = none_delta g r w None refl (λ new perm of m d x. silent g new r w perm mute of m d x)

-- a new message, along a walk of edges from messages
pub message_delta : (w : Walk) (F : Table → Type 0) → IsAlong w F → (g : List Row) → IsGraph g → (r : Row) (k : Kind) (id date : ℕ) → message_of r ≡ Some (k, id, date) →
    (to : Option ℕ) (o : Option Link) → IfSome to (IsLed F g k id) → (to ≡ None → IsLedNowhere F g k id) → IfSome to (λ n. o ≡ Some (link w n id date)) → (to ≡ None → o ≡ None) → IsLinkDeltaOf g r w o
message_delta w F along g graph r k id date message (Some n) o led nowhere some none =
    found_delta g r w n id date o some
    (λ new perm of m d.
    let found = node_found F along.family g graph new r led.0 k n id date led.1 led.2 message led.3 perm of m d in
    (λ x. elim (found.0 (along.leads new of m d x)) [ inl was ↦ inl (along.tells g of m d was) | inr e ↦ inr e ], λ or. along.tells new of m d (found.1 (elim or [ inl was ↦ inl (along.leads g of m d was) | inr e ↦ inr e ]))))
    (λ free d x. node_fresh F along.family g graph r k id date message free n d (along.leads g n id d x))
message_delta w F along g graph r k id date message None o led nowhere some none =
    none_delta g r w o (none refl) (λ new perm of m d x. along.tells g of m d (node_none F along.family g graph new r k id date message (nowhere refl) perm of m d (along.leads new of m d x)))

-- a new edge from a message
pub edge_delta : (w : Walk) (F : Table → Type 0) → IsAlong w F → (g : List Row) → IsGraph g → (t : Table) (k : Kind) (id p : ℕ) → F t → from_kind t ≡ Some k →
    (date : Option ℕ) (o : Option Link) → IfSome date (IsDated g k id) → (date ≡ None → IsUndated g k id) → IfSome date (λ n. o ≡ Some (link w p id n)) → (date ≡ None → o ≡ None) → IsLinkDeltaOf g (row.Link t id p) w o
edge_delta w F along g graph t k id p ft kt (Some n) o dated undated some none =
    found_delta g (row.Link t id p) w p id n o some
    (λ new perm of m d.
    let found = edge_found F along.family g graph new dated.0 t k p id n ft kt dated.2 dated.1 perm of m d in
    (λ x. elim (found.0 (along.leads new of m d x)) [ inl was ↦ inl (along.tells g of m d was) | inr e ↦ inr e ], λ or. along.tells new of m d (found.1 (elim or [ inl was ↦ inl (along.leads g of m d was) | inr e ↦ inr e ]))))
    (λ free d x. edge_fresh F along.family g graph dated.0 t k p id n ft kt dated.2 dated.1 free p d (along.leads g p id d x))
edge_delta w F along g graph t k id p ft kt None o dated undated some none =
    none_delta g (row.Link t id p) w o (none refl) (λ new perm of m d x. along.tells g of m d (edge_none F along.family g graph new t k p id kt (undated refl) perm of m d (along.leads new of m d x)))

-- ---- friendships and likes

-- the ends and the date of an edge, the other way round
abbrev turned : Row → ℕ × ℕ × ℕ
turned (row.Dated t a b d) = (b, a, d)
turned r = (0, 0, 0)

-- a new like
pub like_delta : (w : Walk) (t : Table) → ((h : List Row) (of id date : ℕ) → Tells h w of id date → Contains h (row.Dated t id of date)) → ((h : List Row) (of id date : ℕ) → Contains h (row.Dated t id of date) → Tells h w of id date) →
    (g : List Row) (a b d : ℕ) → IsLinkDeltaOf g (row.Dated t a b d) w (Some (link w b a d))
like_delta w t held tells g a b d =
    found_delta g (row.Dated t a b d) w b a d (Some (link w b a d)) refl
    (λ new perm of m e. (
      λ x. elim (contains_gained g new (row.Dated t a b d) _ perm (held new of m e x)) [ inl was ↦ inl (tells g of m e was) | inr same ↦ inr (ap turned same) ],
      λ or. elim or [
        | inl was ↦ still_tells g new (row.Dated t a b d) w perm of m e was
        | inr same ↦ tells new of m e (subst (λ (x : ℕ × ℕ × ℕ). Contains new (row.Dated t x.1 x.0 x.2)) same (this_row g new (row.Dated t a b d) perm))
      ],
    ))
    (λ free e x. free (record { it = row.Dated t a b e; held = held g b a e x; fills = refl }))

-- the ends and the year of an edge
abbrev yeared : Row → ℕ × ℕ × ℕ
yeared (row.Yeared t a b y) = (a, b, y)
yeared r = (0, 0, 0)

-- a new stay
pub stay_delta : (w : Walk) (t : Table) → ((h : List Row) (of id date : ℕ) → Tells h w of id date → Contains h (row.Yeared t of id date)) → ((h : List Row) (of id date : ℕ) → Contains h (row.Yeared t of id date) → Tells h w of id date) →
    (g : List Row) (a b y : ℕ) → IsLinkDeltaOf g (row.Yeared t a b y) w (Some (link w a b y))
stay_delta w t held tells g a b y =
    found_delta g (row.Yeared t a b y) w a b y (Some (link w a b y)) refl
    (λ new perm of m e. (
      λ x. elim (contains_gained g new (row.Yeared t a b y) _ perm (held new of m e x)) [ inl was ↦ inl (tells g of m e was) | inr same ↦ inr (ap yeared same) ],
      λ or. elim or [
        | inl was ↦ still_tells g new (row.Yeared t a b y) w perm of m e was
        | inr same ↦ tells new of m e (subst (λ (x : ℕ × ℕ × ℕ). Contains new (row.Yeared t x.0 x.1 x.2)) same (this_row g new (row.Yeared t a b y) perm))
      ],
    ))
    (λ free e x. free (record { it = row.Yeared t a b e; held = held g a b e x; fills = refl }))

-- two links are one where all they have is the same
link_same : (w : Walk) (of id date : ℕ) (l : Link) → w ≡ l.walk → ◌≡◌ {A = ℕ × ℕ × ℕ} (of, id, date) (l.of, l.id, l.date) → link w of id date ≡ l
link_same w of id date l walks e = λ i. record { walk = walks i; of = (e i).0; id = (e i).1; date = (e i).2 }

abbrev straight : Row → ℕ × ℕ × ℕ
straight (row.Dated t a b d) = (a, b, d)
straight r = (0, 0, 0)

-- a new friendship
pub friend_delta : (g : List Row) (a b d : ℕ) → IsGraph g → a < b → IsLinkDelta g (row.Dated table.PersonKnowsPerson a b d) (record { first = Some (link Friends a b d); second = Some (link Friends b a d) })
friend_delta g a b d graph less = record {
  says = λ new perm l. elim (same_walk l.walk Friends) [
    | inl e ↦ (
      λ x. by new perm l e (subst (λ w. Tells new w l.of l.id l.date) e x),
      λ or. subst (λ w. Tells new w l.of l.id l.date) (sym e) (elim or [
        | inl was ↦ still_tells g new r Friends perm l.of l.id l.date (subst (λ w. Tells g w l.of l.id l.date) e was)
        | inr told ↦ elim told [
          | inl one ↦ inl (subst (λ (k : Link). Contains new (row.Dated table.PersonKnowsPerson k.of k.id k.date)) (same_Some (link Friends a b d) l one) (this_row g new r perm))
          | inr two ↦ inr (subst (λ (k : Link). Contains new (row.Dated table.PersonKnowsPerson k.id k.of k.date)) (same_Some (link Friends b a d) l two) (this_row g new r perm))
        ]
      ]),
    )
    | inr other ↦ (
      λ x. inl (silent g new r l.walk perm (mute l.walk other) l.of l.id l.date x),
      λ or. elim or [
        | inl was ↦ still_tells g new r l.walk perm l.of l.id l.date was
        | inr told ↦ absurd (other (elim told [
          | inl one ↦ sym (ap (λ (k : Link). k.walk) (same_Some (link Friends a b d) l one))
          | inr two ↦ sym (ap (λ (k : Link). k.walk) (same_Some (link Friends b a d) l two))
        ]))
      ],
    )
  ];
  fresh = λ free k told l same x. elim told [
    | inl one ↦ free_ends free a b k l same (same_Some (link Friends a b d) k one) x (inl (refl, refl))
    | inr two ↦ free_ends free b a k l same (same_Some (link Friends b a d) k two) x (inr (refl, refl))
  ];
  apart = λ k l one two same.
      let first = same_Some (link Friends a b d) k one in
      let second = same_Some (link Friends b a d) l two in
      let ends : a ≡ b = ap (λ (x : Link). x.of) first ∙ same.1 ∙ sym (ap (λ (x : Link). x.of) second) in
      omega (arith, less, ends);
}
  where
    r : Row
    r = row.Dated table.PersonKnowsPerson a b d

    mute : (w : Walk) → w ≢ Friends → concerns w r ≡ false
    mute Friends other = absurd (other refl)
    mute Messages other = refl
    mute Replies other = refl
    mute PostLikes other = refl
    mute CommentLikes other = refl
    mute Work other = refl
    mute Study other = refl

    by : (new : List Row) → IsPermutation new (g ++ r ∷ []) → (l : Link) → l.walk ≡ Friends → IsFriendship new l.of l.id l.date → TellsLink g l ⊎ IsTold (record { first = Some (link Friends a b d); second = Some (link Friends b a d) }) l
    by new perm l e (inl c) =
        elim (contains_gained g new r _ perm c) [
          | inl was ↦ inl (subst (λ w. Tells g w l.of l.id l.date) (sym e) (inl was))
          | inr same ↦ inr (inl (ap Some (link_same Friends a b d l (sym e) (ap straight same))))
        ]
    by new perm l e (inr c) =
        elim (contains_gained g new r _ perm c) [
          | inl was ↦ inl (subst (λ w. Tells g w l.of l.id l.date) (sym e) (inr was))
          | inr same ↦ inr (inr (ap Some (link_same Friends b a d l (sym e) (ap turned same))))
        ]

    falls : (e : ℕ) → ¬ Contains g (row.Dated table.PersonKnowsPerson b a e)
    falls e c = let less_too : b < a = (All-contains IsTableRow g (row.Dated table.PersonKnowsPerson b a e) graph.of_tables c).in_order in omega (arith, less, less_too)

    stands : ¬ HasSlot g (slot_of r) → (e : ℕ) → ¬ Contains g (row.Dated table.PersonKnowsPerson a b e)
    stands free e c = free (record { it = row.Dated table.PersonKnowsPerson a b e; held = c; fills = refl })

    free_pair : ¬ HasSlot g (slot_of r) → (p q e : ℕ) → ((p ≡ a) × (q ≡ b)) ⊎ ((p ≡ b) × (q ≡ a)) → ¬ IsFriendship g p q e
    free_pair free p q e (inl is) (inl c) = stands free e (subst (λ n. Contains g (row.Dated table.PersonKnowsPerson n b e)) is.0 (subst (λ n. Contains g (row.Dated table.PersonKnowsPerson p n e)) is.1 c))
    free_pair free p q e (inl is) (inr c) = falls e (subst (λ n. Contains g (row.Dated table.PersonKnowsPerson n a e)) is.1 (subst (λ n. Contains g (row.Dated table.PersonKnowsPerson q n e)) is.0 c))
    free_pair free p q e (inr is) (inl c) = falls e (subst (λ n. Contains g (row.Dated table.PersonKnowsPerson n a e)) is.0 (subst (λ n. Contains g (row.Dated table.PersonKnowsPerson p n e)) is.1 c))
    free_pair free p q e (inr is) (inr c) = stands free e (subst (λ n. Contains g (row.Dated table.PersonKnowsPerson n b e)) is.1 (subst (λ n. Contains g (row.Dated table.PersonKnowsPerson q n e)) is.0 c))

    free_ends : ¬ HasSlot g (slot_of r) → (p q : ℕ) (k l : Link) → SameEnds k l → link Friends p q d ≡ k → TellsLink g l → ((p ≡ a) × (q ≡ b)) ⊎ ((p ≡ b) × (q ≡ a)) → ⊥
    free_ends free p q k l same is x ends =
        free_pair free p q l.date ends
        (subst (λ w. Tells g w p q l.date) (sym (ap (λ (y : Link). y.walk) is ∙ same.0))
        (subst (λ n. Tells g l.walk p n l.date) (sym (ap (λ (y : Link). y.id) is ∙ same.2)) (subst (λ n. Tells g l.walk n l.id l.date) (sym (ap (λ (y : Link). y.of) is ∙ same.1)) x)))

-- ---- delta of a row

-- the rows tell of a link with these ends
moved : (g : List Row) (k l : Link) (w : Walk) → SameEnds k l → k.walk ≡ w → TellsLink g l → Tells g w k.of k.id l.date
moved g k l w same own x =
    subst (λ v. Tells g v k.of k.id l.date) (sym same.0 ∙ own) (subst (λ n. Tells g l.walk n k.id l.date) (sym same.1) (subst (λ n. Tells g l.walk l.of n l.date) (sym same.2) x))

-- along two walks there is one link more or none, along the others none
pub two_delta : (g : List Row) (r : Row) (u v : Walk) (a b : Option Link) → u ≢ v → IsLinkDeltaOf g r u a → IsLinkDeltaOf g r v b → ((w : Walk) → w ≢ u → w ≢ v → concerns w r ≡ false) → IsLinkDelta g r (record { first = a; second = b })
two_delta g r u v a b differ one two mute = record {
  says = λ new perm l. elim (same_walk l.walk u) [
    | inl e ↦ (
      λ x. elim ((one.says new perm l.of l.id l.date).0 (subst (λ w. Tells new w l.of l.id l.date) e x)) [
        | inl was ↦ inl (subst (λ w. Tells g w l.of l.id l.date) (sym e) was)
        | inr told ↦ inr (inl (told ∙ ap Some (link_same u l.of l.id l.date l (sym e) refl)))
      ],
      λ or. subst (λ w. Tells new w l.of l.id l.date) (sym e) ((one.says new perm l.of l.id l.date).1 (elim or [
        | inl was ↦ inl (subst (λ w. Tells g w l.of l.id l.date) e was)
        | inr told ↦ inr (elim told [
          | inl first ↦ first ∙ ap Some (sym (link_same u l.of l.id l.date l (sym e) refl))
          | inr second ↦ absurd (differ (sym e ∙ two.own l second))
        ])
      ])),
    )
    | inr other ↦ elim (same_walk l.walk v) [
      | inl e ↦ (
        λ x. elim ((two.says new perm l.of l.id l.date).0 (subst (λ w. Tells new w l.of l.id l.date) e x)) [
          | inl was ↦ inl (subst (λ w. Tells g w l.of l.id l.date) (sym e) was)
          | inr told ↦ inr (inr (told ∙ ap Some (link_same v l.of l.id l.date l (sym e) refl)))
        ],
        λ or. subst (λ w. Tells new w l.of l.id l.date) (sym e) ((two.says new perm l.of l.id l.date).1 (elim or [
          | inl was ↦ inl (subst (λ w. Tells g w l.of l.id l.date) e was)
          | inr told ↦ inr (elim told [
            | inl first ↦ absurd (other (one.own l first))
            | inr second ↦ second ∙ ap Some (sym (link_same v l.of l.id l.date l (sym e) refl))
          ])
        ])),
      )
      | inr another ↦ (
        λ x. inl (silent g new r l.walk perm (mute l.walk other another) l.of l.id l.date x),
        λ or. elim or [
          | inl was ↦ still_tells g new r l.walk perm l.of l.id l.date was
          | inr told ↦ elim told [ inl first ↦ absurd (other (one.own l first)) | inr second ↦ absurd (another (two.own l second)) ]
        ],
      )
    ]
  ];
  fresh = λ free k told l same x. elim told [
    | inl first ↦ one.fresh free k first l.date (moved g k l u same (one.own k first) x)
    | inr second ↦ two.fresh free k second l.date (moved g k l v same (two.own k second) x)
  ];
  apart = λ k l first second same. differ (sym (one.own k first) ∙ same.0 ∙ two.own l second);
}

-- along one walk there is one link more or none, along the others none
pub one_delta : (g : List Row) (r : Row) (u v : Walk) (o : Option Link) → u ≢ v → IsLinkDeltaOf g r u o → ((w : Walk) → w ≢ u → concerns w r ≡ false) → IsLinkDelta g r (record { first = o; second = None })
one_delta g r u v o differ one mute = two_delta g r u v o None differ one (silent_delta g r v (mute v (λ e. differ (sym e)))) (λ w a b. mute w a)

-- no walk goes along the row
pub no_delta : (g : List Row) (r : Row) → ((w : Walk) → concerns w r ≡ false) → IsLinkDelta g r (record { first = None; second = None })
no_delta g r mute = one_delta g r Friends Messages None (λ e. absurd cc) (silent_delta g r Friends (mute Friends)) (λ w a. mute w)

-- ---- which walks go along a row

different : (t u : Table) → t ≢ u → same_table t u ≡ false
different t u other = by (same_table t u) refl
  where
    by : (b : Bool) → same_table t u ≡ b → same_table t u ≡ false
    by true e = absurd (other (same_true the_table tt t u e))
    by false e = e

neither : (a b : Bool) → a ≡ false → b ≡ false → a || b ≡ false
neither a b e f = ap (λ c. c || b) e ∙ f

pub creator_mute : (t : Table) (a b : ℕ) → IsCreatorTable t → (w : Walk) → w ≢ Messages → concerns w (row.Link t a b) ≡ false
creator_mute t a b (inl e) w other = subst (λ u. concerns w (row.Link u a b) ≡ false) (sym e) (by w other)
  where
    by : (w : Walk) → w ≢ Messages → concerns w (row.Link table.PostHasCreatorPerson a b) ≡ false
    by Messages other = absurd (other refl)
    by w other = refl
creator_mute t a b (inr e) w other = subst (λ u. concerns w (row.Link u a b) ≡ false) (sym e) (by w other)
  where
    by : (w : Walk) → w ≢ Messages → concerns w (row.Link table.CommentHasCreatorPerson a b) ≡ false
    by Messages other = absurd (other refl)
    by w other = refl

pub parent_mute : (t : Table) (a b : ℕ) → IsParentTable t → (w : Walk) → w ≢ Replies → concerns w (row.Link t a b) ≡ false
parent_mute t a b (inl e) w other = subst (λ u. concerns w (row.Link u a b) ≡ false) (sym e) (by w other)
  where
    by : (w : Walk) → w ≢ Replies → concerns w (row.Link table.CommentReplyOfPost a b) ≡ false
    by Replies other = absurd (other refl)
    by w other = refl
parent_mute t a b (inr e) w other = subst (λ u. concerns w (row.Link u a b) ≡ false) (sym e) (by w other)
  where
    by : (w : Walk) → w ≢ Replies → concerns w (row.Link table.CommentReplyOfComment a b) ≡ false
    by Replies other = absurd (other refl)
    by w other = refl

pub other_link : (t : Table) (a b : ℕ) → t ≢ table.PostHasCreatorPerson → t ≢ table.CommentHasCreatorPerson → t ≢ table.CommentReplyOfPost → t ≢ table.CommentReplyOfComment → (w : Walk) → concerns w (row.Link t a b) ≡ false
other_link t a b one two three four Friends = refl
other_link t a b one two three four Messages = neither _ _ (different t table.PostHasCreatorPerson one) (different t table.CommentHasCreatorPerson two)
other_link t a b one two three four Replies = neither _ _ (different t table.CommentReplyOfPost three) (different t table.CommentReplyOfComment four)
other_link t a b one two three four PostLikes = refl
other_link t a b one two three four CommentLikes = refl
other_link t a b one two three four Work = refl
other_link t a b one two three four Study = refl

pub other_dated : (t : Table) (a b d : ℕ) → t ≢ table.PersonKnowsPerson → t ≢ table.PersonLikesPost → t ≢ table.PersonLikesComment → (w : Walk) → concerns w (row.Dated t a b d) ≡ false
other_dated t a b d one two three Friends = different t table.PersonKnowsPerson one
other_dated t a b d one two three Messages = refl
other_dated t a b d one two three Replies = refl
other_dated t a b d one two three PostLikes = different t table.PersonLikesPost two
other_dated t a b d one two three CommentLikes = different t table.PersonLikesComment three
other_dated t a b d one two three Work = refl
other_dated t a b d one two three Study = refl

pub other_yeared : (t : Table) (a b y : ℕ) → t ≢ table.PersonWorkAtOrganisation → t ≢ table.PersonStudyAtOrganisation → (w : Walk) → concerns w (row.Yeared t a b y) ≡ false
other_yeared t a b y one two Work = different t table.PersonWorkAtOrganisation one
other_yeared t a b y one two Study = different t table.PersonStudyAtOrganisation two
other_yeared t a b y one two w = refl

pub work_mute : (a b y : ℕ) (w : Walk) → w ≢ Work → concerns w (row.Yeared table.PersonWorkAtOrganisation a b y) ≡ false
work_mute a b y Work other = absurd (other refl)
work_mute a b y w other = refl

pub study_mute : (a b y : ℕ) (w : Walk) → w ≢ Study → concerns w (row.Yeared table.PersonStudyAtOrganisation a b y) ≡ false
study_mute a b y Study other = absurd (other refl)
study_mute a b y w other = refl

pub post_like_mute : (a b d : ℕ) (w : Walk) → w ≢ PostLikes → concerns w (row.Dated table.PersonLikesPost a b d) ≡ false
post_like_mute a b d PostLikes other = absurd (other refl)
post_like_mute a b d w other = refl

pub comment_like_mute : (a b d : ℕ) (w : Walk) → w ≢ CommentLikes → concerns w (row.Dated table.PersonLikesComment a b d) ≡ false
comment_like_mute a b d CommentLikes other = absurd (other refl)
comment_like_mute a b d w other = refl

-- a message goes along with messages and replies alone, and a post with messages alone
pub message_mute : (r : Row) (k : Kind) (id date : ℕ) → message_of r ≡ Some (k, id, date) → (w : Walk) → w ≢ Messages → w ≢ Replies → concerns w r ≡ false
message_mute (row.Post x) k id date is Messages one two = absurd (one refl)
message_mute (row.Post x) k id date is w one two = refl
message_mute (row.Comment x) k id date is Messages one two = absurd (one refl)
message_mute (row.Comment x) k id date is Replies one two = absurd (two refl)
message_mute (row.Comment x) k id date is w one two = refl
message_mute r k id date is w one two = absurd cc

pub post_mute : (r : Row) (id date : ℕ) → message_of r ≡ Some (kinds.Post, id, date) → (w : Walk) → w ≢ Messages → concerns w r ≡ false
post_mute (row.Post x) id date is Messages one = absurd (one refl)
post_mute (row.Post x) id date is w one = refl
post_mute (row.Comment x) id date is w one = absurd (apart (ap (λ (o : Option (Kind × ℕ × ℕ)). (unwrap_or o (kinds.Post, id, date)).0) is))
  where
    apart : kinds.Comment ≡ kinds.Post → ⊥
    apart e = absurd cc
post_mute r id date is w one = absurd cc

-- the rows of the kinds that no walk goes along
pub other_row : (r : Row) → ((x : _) → r ≡ row.Post x → ⊥) → ((x : _) → r ≡ row.Comment x → ⊥) → ((t : _) (a b : _) → r ≡ row.Link t a b → ⊥) → ((t : _) (a b d : _) → r ≡ row.Dated t a b d → ⊥) → ((t : _) (a b y : _) → r ≡ row.Yeared t a b y → ⊥) → (w : Walk) → concerns w r ≡ false
other_row (row.Post x) one two three four five w = absurd (one x refl)
other_row (row.Comment x) one two three four five w = absurd (two x refl)
other_row (row.Link t a b) one two three four five w = absurd (three t a b refl)
other_row (row.Dated t a b d) one two three four five w = absurd (four t a b d refl)
other_row (row.Yeared t a b y) one two three four five w = absurd (five t a b y refl)
other_row r one two three four five w = refl

-- a message from which no edge leads makes no link
pub lone_message : (g : List Row) (r : Row) (k : Kind) (id date : ℕ) → IsGraph g → message_of r ≡ Some (k, id, date) → IsAlone g r → IsLinkDelta g r (record { first = None; second = None })
lone_message g r k id date graph is alone =
    two_delta g r Messages Replies None None (λ e. absurd cc)
    (message_delta Messages IsCreatorTable along_messages g graph r k id date is None None tt (λ e t among from to. alone k id date is t from to) tt (λ e. refl))
    (message_delta Replies IsParentTable along_replies g graph r k id date is None None tt (λ e t among from to. alone k id date is t from to) tt (λ e. refl))
    (message_mute r k id date is)
