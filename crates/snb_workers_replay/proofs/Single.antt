-- Facts on single inserts: the node that an insert adds has a row, the keys that its rows are named by are those that it takes, and one
-- that refers to what is awaited waits.
use Rattle.std.proofs.Common.{◌≡◌, ◌++◌, ◌∷◌, ◌∙◌, ℕ, max, min, List, [], map, Bool, true, false, Some, inl, inr, refl, sym, ap, subst}
use Rattle.std.specs.List.{All, Contains}
use Rattle.std.proofs.lemmas.List.Elements.{All-append, All-cons, All-contains, All-map, All-nil}
use Rattle.snb_schema.specs.declared.key.Key.{Key}
use Rattle.snb_schema.specs.declared.key.Key.TheVariants.{Node, Knows, LikesPost, LikesComment, Member}
use Rattle.snb_schema.specs.declared.op.Op.{Op}
use Rattle.snb_schema.specs.declared.op.Parent.{Parent}
use Rattle.snb_schema.specs.declared.op.Parent.TheVariants as parents
use Rattle.snb_schema.specs.declared.refusal.Missing.{Missing}
use Rattle.snb_schema.specs.declared.row.Row.{Row}
use Rattle.snb_schema.specs.declared.row.Row.TheVariants as row
use Rattle.snb_schema.specs.declared.table.Kind.TheVariants as kinds
use Rattle.snb_schema.specs.declared.table.Table.{Table}
use Rattle.snb_schema.specs.declared.table.Table.TheVariants as table
use Rattle.snb_schema.specs.Awaiting.{is_awaited, kind_waits}
use Rattle.snb_schema.specs.Awaiting.{waits as waits_op}
use Rattle.snb_schema.specs.InsertLines.{addition_kind}
use Rattle.snb_schema.specs.Inserts.{addition_edges, addition_keys, addition_row, keys_of, parent_row, rows_of}
use Rattle.snb_schema.specs.Nodes.{Addition, NewPerson, NewForum, NewPost, NewComment, NewPostLike, NewCommentLike, NewMember, NewFriends, addition}
use Rattle.snb_schema.specs.References.{added_node, addition_node, addition_refs, ref, refs_of}
use Rattle.snb_schema.specs.RowKeys.{RowKey, named_key, node_key, row_key}
use Rattle.snb_base.proofs.Laws.{contains_cases, contains_here, contains_there}
use Rattle.snb_graph_model.specs.Graphs.{HasKey, HoldsKey}

-- ---- lists put together

-- what holds of each element
record Each {X : Type 0} (P : X → Type 0) (xs : List X) : Type 0 where
  all : All P xs

module _ {X : Type 0} {P : X → Type 0} where
  none : Each P []
  none = record { all = All-nil P }

  one : {x : X} {xs : List X} → P x → Each P xs → Each P (x ∷ xs)
  one {x} {xs} is rest = record { all = All-cons P x xs is rest.all }

  made : {Y : Type 0} (f : Y → X) (ys : List Y) → ((y : Y) → P (f y)) → Each P (map f ys)
  made f ys is = record { all = All-map P f ys (λ k d lt. is _) }

  joined : {xs ys : List X} → Each P xs → Each P ys → Each P (xs ++ ys)
  joined {xs} {ys} first second = record { all = All-append P xs ys first.all second.all }

-- ---- the node that is added

-- the first row is that of a node
first_row : (r : Row) (rest : List Row) (own node : Missing) → row_key r ≡ node_key own.kind own.id → Some own ≡ Some node → HasKey (r ∷ rest) (node_key node.kind node.id)
first_row r rest own node keyed e =
    record { it = r; held = contains_here r rest; keyed = keyed ∙ ap (λ (n : Missing). node_key n.kind n.id) cc }

-- an insert that adds a node has a row of it
pub adds_node : (op : Op) (node : Missing) → added_node op ≡ Some node → HasKey (rows_of op) (node_key node.kind node.id)
adds_node op node e = by (addition op) e
  where
    by : (a : Addition) → addition_node a ≡ Some node → HasKey (addition_row a ∷ addition_edges a) (node_key node.kind node.id)
    by (NewPerson person city languages emails tags study work) e = first_row _ _ (ref kinds.Person person.id) node refl e
    by (NewForum forum moderator tags) e = first_row _ _ (ref kinds.Forum forum.id) node refl e
    by (NewPost post author forum country tags) e = first_row _ _ (ref kinds.Post post.id) node refl e
    by (NewComment comment author country parent tags) e = first_row _ _ (ref kinds.Comment comment.id) node refl e
    by a e = absurd cc

-- ---- the keys that are taken

-- some key names rows of the table
abbrev is_named : Table → Bool
is_named table.Place = true
is_named table.TagClass = true
is_named table.Tag = true
is_named table.Organisation = true
is_named table.Person = true
is_named table.Forum = true
is_named table.Post = true
is_named table.Comment = true
is_named table.PersonKnowsPerson = true
is_named table.PersonLikesPost = true
is_named table.PersonLikesComment = true
is_named table.ForumHasMemberPerson = true
is_named t = false

is_named_key : (key : Key) → is_named (named_key key).0 ≡ true
is_named_key (Node kinds.Place id) = refl
is_named_key (Node kinds.TagClass id) = refl
is_named_key (Node kinds.Tag id) = refl
is_named_key (Node kinds.Organisation id) = refl
is_named_key (Node kinds.Person id) = refl
is_named_key (Node kinds.Forum id) = refl
is_named_key (Node kinds.Post id) = refl
is_named_key (Node kinds.Comment id) = refl
is_named_key (Knows low high) = refl
is_named_key (LikesPost person post) = refl
is_named_key (LikesComment person comment) = refl
is_named_key (Member forum person) = refl

-- the key that a row's key is the name of
abbrev key_named : RowKey → Key
key_named (table.TagClass, id, other, text) = Node kinds.TagClass id
key_named (table.Tag, id, other, text) = Node kinds.Tag id
key_named (table.Organisation, id, other, text) = Node kinds.Organisation id
key_named (table.Person, id, other, text) = Node kinds.Person id
key_named (table.Forum, id, other, text) = Node kinds.Forum id
key_named (table.Post, id, other, text) = Node kinds.Post id
key_named (table.Comment, id, other, text) = Node kinds.Comment id
key_named (table.PersonKnowsPerson, id, other, text) = Knows id other
key_named (table.PersonLikesPost, id, other, text) = LikesPost id other
key_named (table.PersonLikesComment, id, other, text) = LikesComment id other
key_named (table.ForumHasMemberPerson, id, other, text) = Member id other
key_named (t, id, other, text) = Node kinds.Place id

named_back : (key : Key) → key_named (named_key key) ≡ key
named_back (Node kinds.Place id) = refl
named_back (Node kinds.TagClass id) = refl
named_back (Node kinds.Tag id) = refl
named_back (Node kinds.Organisation id) = refl
named_back (Node kinds.Person id) = refl
named_back (Node kinds.Forum id) = refl
named_back (Node kinds.Post id) = refl
named_back (Node kinds.Comment id) = refl
named_back (Knows low high) = refl
named_back (LikesPost person post) = refl
named_back (LikesComment person comment) = refl
named_back (Member forum person) = refl

-- no key names the row
abbrev IsUnnamed : Row → Type 0
IsUnnamed r = is_named (row_key r).0 ≡ false

parent_unnamed : (comment : ℕ) (parent : Parent) → IsUnnamed (parent_row comment parent)
parent_unnamed comment (parents.Post id) = refl
parent_unnamed comment (parents.Comment id) = refl

-- where no key names the others, a key that is held among the rows names the first
of_first : {r : Row} {rest : List Row} (own key : Key) → HoldsKey (r ∷ rest) key → row_key r ≡ named_key own → Each IsUnnamed rest → own ≡ key
of_first {r} {rest} own key h is others = elim (contains_cases r rest h.it h.held) [
  | inl e ↦ sym (named_back own) ∙ ap key_named (sym is ∙ ap row_key e ∙ h.keyed) ∙ named_back key
  | inr later ↦ (let none = All-contains IsUnnamed rest h.it others.all later in let some = ap (λ (k : RowKey). is_named k.0) h.keyed ∙ is_named_key key in absurd cc)
]

-- and is the first that is taken
takes : {r : Row} {rest : List Row} (own key : Key) (others : List Key) → HoldsKey (r ∷ rest) key → row_key r ≡ named_key own → Each IsUnnamed rest → Contains (own ∷ others) key
takes own key others h is unnamed = subst (Contains (own ∷ others)) (of_first own key h is unnamed) (contains_here own others)

-- a key that is held among the rows of what is added is one that the insert takes
added_own : (a : Addition) (key : Key) → HoldsKey (addition_row a ∷ addition_edges a) key → Contains (addition_keys a) key
added_own (NewPerson person city languages emails tags study work) key h =
    takes (Node kinds.Person person.id) key [] h refl
    (one refl
    (joined (joined (joined (joined
    (made (row.Word table.PersonEmailEmailAddress person.id) emails (λ x. refl))
    (made (row.Word table.PersonSpeaksLanguage person.id) languages (λ x. refl)))
    (made (row.Link table.PersonHasInterestTag person.id) tags (λ x. refl)))
    (made (λ s. row.Yeared table.PersonStudyAtOrganisation person.id s.0 s.1) study (λ x. refl)))
    (made (λ w. row.Yeared table.PersonWorkAtOrganisation person.id w.0 w.1) work (λ x. refl))))
added_own (NewPostLike person post date) key h = takes (LikesPost person post) key [] h refl none
added_own (NewCommentLike person comment date) key h = takes (LikesComment person comment) key [] h refl none
added_own (NewForum forum moderator tags) key h =
    takes (Node kinds.Forum forum.id) key [] h refl (one refl (made (row.Link table.ForumHasTagTag forum.id) tags (λ x. refl)))
added_own (NewMember person forum date) key h = takes (Member forum person) key [] h refl none
added_own (NewPost post author forum country tags) key h =
    takes (Node kinds.Post post.id) key (Node kinds.Comment post.id ∷ []) h refl (one refl (one refl (one refl (made (row.Link table.PostHasTagTag post.id) tags (λ x. refl)))))
added_own (NewComment comment author country parent tags) key h =
    contains_there (Node kinds.Post comment.id) (Node kinds.Comment comment.id ∷ []) key
    (takes (Node kinds.Comment comment.id) key [] h refl (one refl (one refl (one (parent_unnamed comment.id parent) (made (row.Link table.CommentHasTagTag comment.id) tags (λ x. refl))))))
added_own (NewFriends one_end other date) key h = takes (Knows (min one_end other) (max one_end other)) key [] h refl none

pub names_own : (op : Op) (key : Key) → HoldsKey (rows_of op) key → Contains (keys_of op) key
names_own op key h = added_own (addition op) key h

-- ---- what is awaited

-- nobody waits for the node
abbrev IsGiven : Missing → Type 0
IsGiven node = is_awaited node.kind ≡ false

-- where an insert refers to what is given, a reference to what is awaited isn't one of its
not_given : {refs : List Missing} (node : Missing) → Contains refs node → is_awaited node.kind ≡ true → Each IsGiven refs → ⊥
not_given {refs} node c e given = let none : is_awaited node.kind ≡ false = All-contains IsGiven refs node given.all c in cc

-- an insert that refers to what is awaited waits
pub waits_for : (op : Op) (node : Missing) → Contains (refs_of op) node → is_awaited node.kind ≡ true → waits_op op ≡ true
waits_for op node c e = by (addition op) c
  where
    by : (a : Addition) → Contains (addition_refs a) node → kind_waits (addition_kind a) ≡ true
    by (NewPerson person city languages emails tags study work) c =
        let given : Each IsGiven (addition_refs (NewPerson person city languages emails tags study work)) =
        one refl (joined (joined (made (ref kinds.Tag) tags (λ x. refl)) (made (λ s. ref kinds.Organisation s.0) study (λ x. refl))) (made (λ w. ref kinds.Organisation w.0) work (λ x. refl))) in
        absurd (not_given node c e given)
    by a c = refl
