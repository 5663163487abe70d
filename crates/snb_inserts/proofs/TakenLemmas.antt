-- Keys that are held, and slots that are filled.
use Rattle.std.proofs.Common.{◌≡◌, ◌↔◌, ◌⊎◌, ℕ, List, [], ◌∷◌, refl, sym, ap, subst, inl, inr, arith, min, max}
use Rattle.std.specs.List.{Contains}
use Rattle.snb_schema.specs.declared.key.Key.{Key}
use Rattle.snb_schema.specs.declared.key.Key.TheVariants.{Node, Knows, LikesPost, LikesComment, Member}
use Rattle.snb_schema.specs.Nodes.{Addition, NewPerson, NewForum, NewPost, NewComment, NewPostLike, NewCommentLike, NewMember, NewFriends}
use Rattle.snb_schema.specs.declared.row.Row.{Row}
use Rattle.snb_schema.specs.declared.table.Kind.TheVariants as kinds
use Rattle.snb_schema.specs.declared.table.Table.{Table}
use Rattle.snb_schema.specs.declared.table.Table.TheVariants as table
use Rattle.snb_inserts.proofs.Keys.{key_of}
use Rattle.snb_schema.specs.Inserts.{addition_keys, message_keys}
use Rattle.snb_schema.specs.RowKeys.{RowKey, named_key, row_key, sharing, slot}
use Rattle.snb_graph_model.specs.Graphs.{HasKey, HasSlot, HoldsKey}
use Rattle.snb_inserts.specs.Applying.{IsAnyHeld}
use Rattle.snb_base.proofs.Laws.{contains_cases, contains_here, contains_there}

-- ---- keys

-- of one key it is held
pub one_held : (g : List Row) (k : Key) → IsAnyHeld g (k ∷ []) ↔ HoldsKey g k
one_held g k = (λ any. elim (contains_cases k [] any.0 any.1) [ inl e ↦ subst (HoldsKey g) (sym e) any.2 | inr c ↦ absurd (none any.0 c) ], λ has. (k, contains_here k [], has))
  where
    none : (x : Key) → ¬ Contains [] x
    none x c = let l = c.1 in omega (arith, l)

-- and of two keys one of them
pub two_held : (g : List Row) (k j : Key) → IsAnyHeld g (k ∷ j ∷ []) ↔ (HoldsKey g k ⊎ HoldsKey g j)
two_held g k j = (
  λ any. elim (contains_cases k (j ∷ []) any.0 any.1) [ inl e ↦ inl (subst (HoldsKey g) (sym e) any.2) | inr c ↦ inr ((one_held g j).0 (any.0, c, any.2)) ],
  λ has. elim has [ inl h ↦ (k, contains_here k (j ∷ []), h) | inr h ↦ (j, contains_there k (j ∷ []) j (contains_here j []), h) ],
)

-- where the first of two keys isn't held, one of them is held exactly where the other is
pub other_held : (g : List Row) (k j : Key) → ¬ HoldsKey g k → HoldsKey g j ↔ IsAnyHeld g (k ∷ j ∷ [])
other_held g k j lacks = (λ h. (two_held g k j).1 (inr h), λ any. elim ((two_held g k j).0 any) [ inl h ↦ absurd (lacks h) | inr h ↦ h ])

-- ---- slots

-- the slot of the key is filled
abbrev pub IsKeyFilled : List Row → Key → Type 0
IsKeyFilled g key = HasSlot g (slot (named_key key))

person_alone : (t : Table) → sharing t ≡ table.Person → t ≡ table.Person
person_alone table.Person e = refl
person_alone t e = absurd cc

forum_alone : (t : Table) → sharing t ≡ table.Forum → t ≡ table.Forum
forum_alone table.Forum e = refl
forum_alone t e = absurd cc

knows_alone : (t : Table) → sharing t ≡ table.PersonKnowsPerson → t ≡ table.PersonKnowsPerson
knows_alone table.PersonKnowsPerson e = refl
knows_alone t e = absurd cc

post_likes_alone : (t : Table) → sharing t ≡ table.PersonLikesPost → t ≡ table.PersonLikesPost
post_likes_alone table.PersonLikesPost e = refl
post_likes_alone t e = absurd cc

comment_likes_alone : (t : Table) → sharing t ≡ table.PersonLikesComment → t ≡ table.PersonLikesComment
comment_likes_alone table.PersonLikesComment e = refl
comment_likes_alone t e = absurd cc

members_alone : (t : Table) → sharing t ≡ table.ForumHasMemberPerson → t ≡ table.ForumHasMemberPerson
members_alone table.ForumHasMemberPerson e = refl
members_alone t e = absurd cc

message_tables : (t : Table) → sharing t ≡ table.Post → (t ≡ table.Post) ⊎ (t ≡ table.Comment)
message_tables table.Post e = inl refl
message_tables table.Comment e = inr refl
message_tables t e = absurd cc

-- a row that fills a slot has a key of the table that it is of
has_key : (g : List Row) (u t : Table) (a b : ℕ) (x : List ℕ) (has : HasSlot g (sharing u, a, b, x)) → (row_key has.it).0 ≡ t → HasKey g (t, a, b, x)
has_key g u t a b x has is = record { it = has.it; held = has.held; keyed = λ i. (is i, (has.fills i).1, (has.fills i).2, (has.fills i).3) }

-- where no table shares its slots, a filled slot is a held key
alone_key : (g : List Row) (u : Table) (a b : ℕ) (x : List ℕ) → ((t : Table) → sharing t ≡ sharing u → t ≡ u) → HasSlot g (sharing u, a, b, x) → HasKey g (u, a, b, x)
alone_key g u a b x only has = has_key g u u a b x has (only (row_key has.it).0 (ap (λ (s : RowKey). s.0) has.fills))

-- a filled slot of a message is held as that of a post or of a comment
message_held : (g : List Row) (id : ℕ) → HasSlot g (table.Post, id, 0, []) → IsAnyHeld g (message_keys id)
message_held g id has =
    (two_held g (Node kinds.Post id) (Node kinds.Comment id)).1
    (elim (message_tables (row_key has.it).0 (ap (λ (s : RowKey). s.0) has.fills)) [
      | inl e ↦ inl (has_key g table.Post table.Post id 0 [] has e)
      | inr e ↦ inr (has_key g table.Post table.Comment id 0 [] has e)
    ])

-- where the slot of an insert's key is filled, a key that the insert takes is held
pub filled_taken : (g : List Row) (a : Addition) → IsKeyFilled g (key_of a) → IsAnyHeld g (addition_keys a)
filled_taken g (NewPerson person city languages emails tags study work) has =
    (one_held g (Node kinds.Person person.id)).1 (alone_key g table.Person person.id 0 [] person_alone has)
filled_taken g (NewPostLike person post date) has = (one_held g (LikesPost person post)).1 (alone_key g table.PersonLikesPost person post [] post_likes_alone has)
filled_taken g (NewCommentLike person comment date) has = (one_held g (LikesComment person comment)).1 (alone_key g table.PersonLikesComment person comment [] comment_likes_alone has)
filled_taken g (NewForum forum moderator tags) has = (one_held g (Node kinds.Forum forum.id)).1 (alone_key g table.Forum forum.id 0 [] forum_alone has)
filled_taken g (NewMember person forum date) has = (one_held g (Member forum person)).1 (alone_key g table.ForumHasMemberPerson forum person [] members_alone has)
filled_taken g (NewPost post author forum country tags) has = message_held g post.id has
filled_taken g (NewComment comment author country parent tags) has = message_held g comment.id has
filled_taken g (NewFriends one other date) has = (one_held g (Knows (min one other) (max one other))).1 (alone_key g table.PersonKnowsPerson (min one other) (max one other) [] knows_alone has)
