-- What the rows of an insert refer to is the node that it adds, or what it refers to itself: so a graph's references stay held.
use Rattle.std.proofs.Common.{◌≡◌, ◌⊎◌, ℕ, List, ◌++◌, Some, false, map, min, max, refl, sym, subst, inl, inr, arith}
use Rattle.std.proofs.lemmas.Bool.{cases_lt}
use Rattle.std.proofs.lemmas.List.Elements.{All-from_recursion, All-weaker, recursion_from_All}
use Rattle.std.specs.List.{AllByRecursion, Contains}
use Rattle.snb_schema.specs.Nodes.{Addition, NewPerson, NewForum, NewPost, NewComment, NewPostLike, NewCommentLike, NewMember, NewFriends, addition}
use Rattle.snb_schema.specs.declared.op.Parent.{Parent}
use Rattle.snb_schema.specs.declared.op.Parent.TheVariants as parents
use Rattle.snb_schema.specs.declared.row.Row.{Row}
use Rattle.snb_schema.specs.declared.row.Row.TheVariants as row
use Rattle.snb_schema.specs.declared.table.Kind.{Kind}
use Rattle.snb_schema.specs.declared.table.Kind.TheVariants as kinds
use Rattle.snb_schema.specs.declared.table.Table.{Table}
use Rattle.snb_schema.specs.declared.table.Table.TheVariants as table
use Rattle.snb_schema.specs.References.{addition_refs, edge_refs, end_ref, from_kind, parent_ref, ref, refs_of, refs_of_row, to_kind}
use Rattle.snb_schema.specs.RowKeys.{node_key}
use Rattle.snb_graph_model.proofs.Laws.{of_each}
use Rattle.snb_schema.specs.Inserts.{parent_row, rows_of}
use Rattle.snb_inserts.proofs.ListRows.{all_rows, links, stays, words}
use Rattle.snb_inserts.specs.Applying.{IsThere}
use Rattle.snb_inserts.specs.Laws.{HeldIsKept}
use Rattle.snb_inserts.proofs.Gained.{held_cases, key_kept, more_held, old_held}
use Rattle.snb_inserts.proofs.Lists.{each_both, each_given, each_mapped, each_parts}
use Rattle.snb_inserts.proofs.Owners.{IsHere}
use Rattle.snb_base.proofs.Laws.{min_is}

-- each node that a row refers to is held
abbrev IsMet : List Row → Row → Type 0
IsMet g r = AllByRecursion (IsHere g) (refs_of_row r false)

-- ---- edges from a node that is held

module _ (g : List Row) (t : Table) (from : ℕ) (a : Kind) (first : from_kind t ≡ Some a) (one : IsThere g (ref a from)) where
  both_met : (to : ℕ) (b : Kind) → to_kind t ≡ Some b → IsThere g (ref b to) → AllByRecursion (IsHere g) (edge_refs t from to false)
  both_met to b second other = subst (AllByRecursion (IsHere g)) (λ i. end_ref 1 (sym first i) from ++ end_ref 2 (sym second i) to) (one, (other, tt))

  links_met : (ends : List ℕ) (b : Kind) → to_kind t ≡ Some b → AllByRecursion (IsThere g) (map (ref b) ends) → AllByRecursion (IsMet g) (links t from ends)
  links_met ends b second others = each_mapped (IsThere g) (IsMet g) (ref b) (λ to. row.Link t from to) (λ to other. both_met to b second other) ends others

  stays_met : (ends : List (ℕ × ℕ)) (b : Kind) → to_kind t ≡ Some b → AllByRecursion (IsThere g) (map (λ s. ref b s.0) ends) → AllByRecursion (IsMet g) (stays t from ends)
  stays_met ends b second others = each_mapped (IsThere g) (IsMet g) (λ (s : ℕ × ℕ). ref b s.0) (λ to. row.Yeared t from to.0 to.1) (λ to other. both_met to.0 b second other) ends others

  words_met : (texts : List (List ℕ)) → AllByRecursion (IsMet g) (words t from texts)
  words_met texts = each_given (IsMet g) (λ text. row.Word t from text) (λ text. subst (λ o. AllByRecursion (IsHere g) (end_ref 1 o from)) (sym first) (one, tt)) texts

parent_met : (g : List Row) (comment : ℕ) (parent : Parent) → IsThere g (ref kinds.Comment comment) → IsThere g (parent_ref parent) → IsMet g (parent_row comment parent)
parent_met g comment (parents.Post post) one other = (one, (other, tt))
parent_met g comment (parents.Comment parent) one other = (one, (other, tt))

-- ---- the rows of an insert

higher_either : (one other : ℕ) → (max one other ≡ one) ⊎ (max one other ≡ other)
higher_either one other = elim (cases_lt one other) [ inl l ↦ inr (omega (arith, l)) | inr l ↦ inl (omega (arith, l)) ]

-- a person who is one of two that are held is held
either_there : (g : List Row) (k : Kind) (one other n : ℕ) → IsThere g (ref k one) → IsThere g (ref k other) → (n ≡ one) ⊎ (n ≡ other) → IsThere g (ref k n)
either_there g k one other n a b (inl e) = subst (λ m. IsThere g (ref k m)) (sym e) a
either_there g k one other n a b (inr e) = subst (λ m. IsThere g (ref k m)) (sym e) b

-- a graph that holds the rows of an insert, and what it refers to, holds what the rows refer to
rows_met : (g : List Row) (a : Addition) → AllByRecursion (IsThere g) (addition_refs a) → AllByRecursion (Contains g) (all_rows a) → AllByRecursion (IsMet g) (all_rows a)
rows_met g (NewPerson person city languages emails tags study work) refs holds =
    let new : IsThere g (ref kinds.Person person.id) = record { it = _; held = holds.0; keyed = refl } in
    let worked = each_parts (IsThere g) (map (ref kinds.Tag) tags ++ map (λ s. ref kinds.Organisation s.0) study) (map (λ w. ref kinds.Organisation w.0) work) refs.1 in
    let studied = each_parts (IsThere g) (map (ref kinds.Tag) tags) (map (λ s. ref kinds.Organisation s.0) study) worked.0 in (
      tt,
      (
        (new, (refs.0, tt)),
        each_both (IsMet g) _ (stays table.PersonWorkAtOrganisation person.id work)
            (each_both (IsMet g) _ (stays table.PersonStudyAtOrganisation person.id study)
            (each_both (IsMet g) _ (links table.PersonHasInterestTag person.id tags)
            (each_both (IsMet g) (words table.PersonEmailEmailAddress person.id emails) (words table.PersonSpeaksLanguage person.id languages)
            (words_met g table.PersonEmailEmailAddress person.id kinds.Person refl new emails) (words_met g table.PersonSpeaksLanguage person.id kinds.Person refl new languages))
            (links_met g table.PersonHasInterestTag person.id kinds.Person refl new tags kinds.Tag refl studied.0))
            (stays_met g table.PersonStudyAtOrganisation person.id kinds.Person refl new study kinds.Organisation refl studied.1))
            (stays_met g table.PersonWorkAtOrganisation person.id kinds.Person refl new work kinds.Organisation refl worked.1),
      ),
    )
rows_met g (NewPostLike person post date) refs holds = ((refs.0, (refs.1.0, tt)), tt)
rows_met g (NewCommentLike person comment date) refs holds = ((refs.0, (refs.1.0, tt)), tt)
rows_met g (NewForum forum moderator tags) refs holds =
    let new : IsThere g (ref kinds.Forum forum.id) = record { it = _; held = holds.0; keyed = refl } in
    (tt, ((new, (refs.0, tt)), links_met g table.ForumHasTagTag forum.id kinds.Forum refl new tags kinds.Tag refl refs.1))
rows_met g (NewMember person forum date) refs holds = ((refs.1.0, (refs.0, tt)), tt)
rows_met g (NewPost post author forum country tags) refs holds =
    let new : IsThere g (ref kinds.Post post.id) = record { it = _; held = holds.0; keyed = refl } in
    (tt, ((refs.1.0, (new, tt)), ((new, (refs.0, tt)), ((new, (refs.1.1.0, tt)), links_met g table.PostHasTagTag post.id kinds.Post refl new tags kinds.Tag refl refs.1.1.1))))
rows_met g (NewComment comment author country parent tags) refs holds =
    let new : IsThere g (ref kinds.Comment comment.id) = record { it = _; held = holds.0; keyed = refl } in
    (tt, ((new, (refs.0, tt)), ((new, (refs.1.0, tt)), (parent_met g comment.id parent new refs.1.1.0, links_met g table.CommentHasTagTag comment.id kinds.Comment refl new tags kinds.Tag refl refs.1.1.1))))
rows_met g (NewFriends one other date) refs holds =
    ((either_there g kinds.Person one other (min one other) refs.0 refs.1.0 (min_is one other), (either_there g kinds.Person one other (max one other) refs.0 refs.1.0 (higher_either one other), tt)), tt)

-- a graph whose references are held keeps them so with the rows of an insert that is welcome
pub held_kept : HeldIsKept
held_kept g now op held welcome gained r c =
    elim (held_cases g (rows_of op) now gained r c) [
      | inl old ↦ All-weaker (IsHere g) (IsHere now) (λ ref has. key_kept g now (old_held g (rows_of op) now gained) (node_key ref.1.kind ref.1.id) has) (refs_of_row r false) (held r old)
      | inr new ↦ All-from_recursion (IsHere now) (refs_of_row r false) (of_each (IsMet now) (rows_of op) (rows_met now (addition op) refs (more_held g (rows_of op) now gained)) r new)
    ]
  where
    refs : AllByRecursion (IsThere now) (refs_of op)
    refs = recursion_from_All (IsThere now) (refs_of op) (All-weaker (IsThere g) (IsThere now) (λ ref has. key_kept g now (old_held g (rows_of op) now gained) (node_key ref.kind ref.id) has) (refs_of op) welcome.0)
