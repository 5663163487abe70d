-- The rows of an insert bring the edges that their node must have, and a comment's chain of parents ends at a post: so a sound graph stays sound.
use Rattle.std.proofs.Common.{◌≡◌, ◌⊎◌, ℕ, zero, suc, List, [], Bool, true, false, not, map, min, max, refl, sym, ap, ◌∙◌, subst, inl, inr, arith}
use Rattle.std.proofs.lemmas.Bool.{false≢true}
use Rattle.std.proofs.lemmas.List.Elements.{All-weaker, recursion_from_All}
use Rattle.std.specs.List.{AllByRecursion, Contains, flat_map}
use Rattle.snb_schema.specs.declared.op.Op.{Op}
use Rattle.snb_schema.specs.Nodes.{Addition, NewPerson, NewForum, NewPost, NewComment, NewPostLike, NewCommentLike, NewMember, NewFriends, addition}
use Rattle.snb_schema.specs.declared.op.Parent.{Parent}
use Rattle.snb_schema.specs.declared.op.Parent.TheVariants as parents
use Rattle.snb_schema.specs.declared.refusal.Missing.{Missing}
use Rattle.snb_schema.specs.declared.row.Row.{Row}
use Rattle.snb_schema.specs.declared.row.Row.TheVariants as row
use Rattle.snb_schema.specs.declared.table.Kind.TheVariants as kinds
use Rattle.snb_schema.specs.declared.table.Table.{Table}
use Rattle.snb_schema.specs.declared.table.Table.TheVariants as table
use Rattle.snb_schema.specs.References.{addition_refs, parent_ref, refs_of}
use Rattle.snb_schema.specs.RowKeys.{RowKey, node_key, row_key, slot, slot_of}
use Rattle.snb_schema.specs.RowValues.{table_of}
use Rattle.snb_schema.specs.TableOrder.{all_tables, same_table}
use Rattle.snb_graph_integrity.proofs.Laws.{fills_decides, in_flat_map}
use Rattle.snb_graph_model.proofs.Laws.{of_each}
use Rattle.snb_graph_model.specs.Graphs.{HasGained, HasKey, HasSlot, fills, rows}
use Rattle.snb_schema.specs.Inserts.{parent_row, rows_of}
use Rattle.snb_inserts.proofs.ListRows.{all_rows, links, stays, words}
use Rattle.snb_graph_model.specs.Soundness.{HasNeededEdges, IsRooted, Need, Sound, edges_of, needs, needs_of}
use Rattle.snb_inserts.specs.Applying.{IsThere, IsWelcome}
use Rattle.snb_inserts.specs.Laws.{SoundIsKept}
use Rattle.snb_inserts.proofs.Gained.{held_cases, more_held, old_held, root_kept, slot_kept}
use Rattle.snb_inserts.proofs.Lists.{each_both, each_given, none_kept}
use Rattle.snb_inserts.proofs.Referring.{held_kept}
use Rattle.snb_base.proofs.Laws.{in_filter, in_flat, in_map}

-- the edges that a row must have are there, and where it is a comment, its chain of parents ends at a post
record IsSettled (g : List Row) (r : Row) : Type 0 where
  edges : AllByRecursion (λ edge. HasSlot g (slot (edge, (row_key r).1, 0, []))) (edges_of (row_key r).0)
  rooted : (comment : ℕ) → row_key r ≡ node_key kinds.Comment comment → IsRooted g comment

-- ---- rows

-- what isn't a comment has no chain
no_comment : (g : List Row) (key : RowKey) → same_table key.0 table.Comment ≡ false → (comment : ℕ) → key ≡ node_key kinds.Comment comment → IsRooted g comment
no_comment g key other comment is = absurd (false≢true (sym other ∙ ap (λ (k : RowKey). same_table k.0 table.Comment) is))

-- a row that is no node needs no edges
settled : (g : List Row) (r : Row) → edges_of (row_key r).0 ≡ [] → same_table (row_key r).0 table.Comment ≡ false → IsSettled g r
settled g r none other = record {
  edges = subst (AllByRecursion (λ edge. HasSlot g (slot (edge, (row_key r).1, 0, [])))) (sym none) tt;
  rooted = no_comment g (row_key r) other;
}

-- nor do rows of a list
each_settled : {X : Type 0} (g : List Row) (h : X → Row) → ((x : X) → edges_of (row_key (h x)).0 ≡ []) → ((x : X) → same_table (row_key (h x)).0 table.Comment ≡ false) → (xs : List X) → AllByRecursion (IsSettled g) (map h xs)
each_settled g h none other xs = each_given (IsSettled g) h (λ x. settled g (h x) (none x) (other x)) xs

-- a row fills its slot
filled : (g : List Row) (r : Row) → Contains g r → HasSlot g (slot_of r)
filled g r c = record { it = r; held = c; fills = refl }

parent_filled : (g : List Row) (comment : ℕ) (parent : Parent) → Contains g (parent_row comment parent) → HasSlot g (slot (table.CommentReplyOfPost, comment, 0, []))
parent_filled g comment (parents.Post post) c = filled g (row.Link table.CommentReplyOfPost comment post) c
parent_filled g comment (parents.Comment parent) c = filled g (row.Link table.CommentReplyOfComment comment parent) c

parent_settled : (g : List Row) (comment : ℕ) (parent : Parent) → IsSettled g (parent_row comment parent)
parent_settled g comment (parents.Post post) = settled g (row.Link table.CommentReplyOfPost comment post) refl refl
parent_settled g comment (parents.Comment parent) = settled g (row.Link table.CommentReplyOfComment comment parent) refl refl

-- a comment's chain of parents ends at a post where its parent is one, or has a chain that does
parent_rooted : (g : List Row) (comment : ℕ) (parent : Parent) → ((other : ℕ) → parent ≡ parents.Comment other → IsRooted g other) → Contains g (parent_row comment parent) → IsRooted g comment
parent_rooted g comment (parents.Post post) rooted c = (zero, (post, c))
parent_rooted g comment (parents.Comment parent) rooted c = let rest = rooted parent refl in (suc rest.0, (parent, c, rest.1))

-- ---- the rows of an insert

-- where a graph holds the rows of an insert, and the chain of a comment's parents to which it refers ends at a post, the rows are settled
rows_settled : (g : List Row) (a : Addition) → AllByRecursion (Contains g) (all_rows a) → AllByRecursion (λ ref. (comment : ℕ) → node_key ref.kind ref.id ≡ node_key kinds.Comment comment → IsRooted g comment) (addition_refs a) → AllByRecursion (IsSettled g) (all_rows a)
rows_settled g (NewPerson person city languages emails tags study work) holds rooted = (
  record { edges = (filled g _ holds.1.0, tt); rooted = no_comment g _ refl },
  (
    settled g (row.Link table.PersonIsLocatedInPlace person.id city) refl refl,
    each_both (IsSettled g) _ (stays table.PersonWorkAtOrganisation person.id work)
        (each_both (IsSettled g) _ (stays table.PersonStudyAtOrganisation person.id study)
        (each_both (IsSettled g) _ (links table.PersonHasInterestTag person.id tags)
        (each_both (IsSettled g) (words table.PersonEmailEmailAddress person.id emails) (words table.PersonSpeaksLanguage person.id languages)
        (each_settled g (λ text. row.Word table.PersonEmailEmailAddress person.id text) (λ text. refl) (λ text. refl) emails)
        (each_settled g (λ text. row.Word table.PersonSpeaksLanguage person.id text) (λ text. refl) (λ text. refl) languages))
        (each_settled g (λ to. row.Link table.PersonHasInterestTag person.id to) (λ to. refl) (λ to. refl) tags))
        (each_settled g (λ to. row.Yeared table.PersonStudyAtOrganisation person.id to.0 to.1) (λ to. refl) (λ to. refl) study))
        (each_settled g (λ to. row.Yeared table.PersonWorkAtOrganisation person.id to.0 to.1) (λ to. refl) (λ to. refl) work),
  ),
)
rows_settled g (NewPostLike person post date) holds rooted = (settled g (row.Dated table.PersonLikesPost person post date) refl refl, tt)
rows_settled g (NewCommentLike person comment date) holds rooted = (settled g (row.Dated table.PersonLikesComment person comment date) refl refl, tt)
rows_settled g (NewForum forum moderator tags) holds rooted = (
  record { edges = (filled g _ holds.1.0, tt); rooted = no_comment g _ refl },
  (
    settled g (row.Link table.ForumHasModeratorPerson forum.id moderator) refl refl,
    each_settled g (λ to. row.Link table.ForumHasTagTag forum.id to) (λ to. refl) (λ to. refl) tags,
  ),
)
rows_settled g (NewMember person forum date) holds rooted = (settled g (row.Dated table.ForumHasMemberPerson forum person date) refl refl, tt)
rows_settled g (NewPost post author forum country tags) holds rooted = (
  record { edges = (filled g _ holds.1.0, (filled g _ holds.1.1.0, (filled g _ holds.1.1.1.0, tt))); rooted = no_comment g _ refl },
  (
    settled g (row.Link table.ForumContainerOfPost forum post.id) refl refl,
    (
      settled g (row.Link table.PostHasCreatorPerson post.id author) refl refl,
      (
        settled g (row.Link table.PostIsLocatedInPlace post.id country) refl refl,
        each_settled g (λ to. row.Link table.PostHasTagTag post.id to) (λ to. refl) (λ to. refl) tags,
      ),
    ),
  ),
)
rows_settled g (NewComment comment author country parent tags) holds rooted = (
  record {
    edges = (filled g _ holds.1.0, (filled g _ holds.1.1.0, (parent_filled g comment.id parent holds.1.1.1.0, tt)));
    rooted = λ one is. subst (IsRooted g) (ap (λ (k : RowKey). k.1) is)
        (parent_rooted g comment.id parent (λ other e. rooted.1.1.0 other (ap (λ p. node_key (parent_ref p).kind (parent_ref p).id) e)) holds.1.1.1.0);
  },
  (
    settled g (row.Link table.CommentHasCreatorPerson comment.id author) refl refl,
    (
      settled g (row.Link table.CommentIsLocatedInPlace comment.id country) refl refl,
      (
        parent_settled g comment.id parent,
        each_settled g (λ to. row.Link table.CommentHasTagTag comment.id to) (λ to. refl) (λ to. refl) tags,
      ),
    ),
  ),
)
rows_settled g (NewFriends one other date) holds rooted = (settled g (row.Dated table.PersonKnowsPerson (min one other) (max one other) date) refl refl, tt)

-- ---- the graph

-- the slot of each edge that a node must have is filled
need_filled : (g : List Row) → HasNeededEdges g → (need : Need) → Contains (needs g) need → fills g (slot (need.2, need.1, 0, [])) ≡ true
need_filled g complete need c = by (fills g (slot (need.2, need.1, 0, []))) refl
  where
    by : (b : Bool) → fills g (slot (need.2, need.1, 0, [])) ≡ b → fills g (slot (need.2, need.1, 0, [])) ≡ true
    by true e = e
    by false e =
        let lacks = (in_filter (λ (x : Need). not (fills g (slot (x.2, x.1, 0, [])))) (needs g) need).1 (c, ap not e) in
        absurd (let none = subst (λ l. Contains l need) complete lacks in omega (arith, none.1))

module _ (g now : List Row) (op : Op) (sound : Sound g) (welcome : IsWelcome g op) (gained : HasGained g (rows_of op) now) where
  abbrev IsFromRooted : Missing → Type 0
  IsFromRooted ref = (comment : ℕ) → node_key ref.kind ref.id ≡ node_key kinds.Comment comment → IsRooted now comment

  all_settled : AllByRecursion (IsSettled now) (rows_of op)
  all_settled =
      rows_settled now (addition op) (more_held g (rows_of op) now gained)
      (recursion_from_All IsFromRooted (refs_of op) (All-weaker (IsThere g) IsFromRooted
      (λ ref has comment is. root_kept g now (old_held g (rows_of op) now gained) comment (sound.rooted comment (subst (HasKey g) is has))) (refs_of op) welcome.0))

  -- a need of a row from before was met, and one of a new row is
  row_filled : (t : Table) (r : Row) (need : Need) → Contains all_tables t → same_table (table_of r) t ≡ true → Contains (needs_of r) need → Contains g r ⊎ Contains (rows_of op) r → HasSlot now (slot (need.2, need.1, 0, []))
  row_filled t r need among of c (inl old) =
      slot_kept g now (old_held g (rows_of op) now gained) (slot (need.2, need.1, 0, []))
      ((fills_decides g (slot (need.2, need.1, 0, []))).0 (need_filled g sound.complete need
      (in_flat_map (λ u. flat_map needs_of (rows g u)) all_tables t need among
      (in_flat_map needs_of (rows g t) r need ((in_filter (λ x. same_table (table_of x) t) g r).1 (old, of)) c))))
  row_filled t r need among of c (inr new) =
      let edge = in_map (λ e. ((row_key r).0, (row_key r).1, e)) (edges_of (row_key r).0) need c in
      let own = of_each (IsSettled now) (rows_of op) all_settled r new in
      subst (λ (n : Need). HasSlot now (slot (n.2, n.1, 0, []))) edge.2 (of_each (λ e. HasSlot now (slot (e, (row_key r).1, 0, []))) (edges_of (row_key r).0) own.edges edge.0 edge.1)

  none_missing : HasNeededEdges now
  none_missing = none_kept (λ (need : Need). not (fills now (slot (need.2, need.1, 0, [])))) (needs now) (λ need c.
      let part = in_flat (λ t. flat_map needs_of (rows now t)) all_tables need c in
      let one = in_flat needs_of (rows now part.0) need part.2 in
      let held = (in_filter (λ x. same_table (table_of x) part.0) now one.0).0 one.1 in
      ap not ((fills_decides now (slot (need.2, need.1, 0, []))).1 (row_filled part.0 one.0 need part.1 held.1 one.2 (held_cases g (rows_of op) now gained one.0 held.0))))

  all_rooted : (comment : ℕ) → HasKey now (node_key kinds.Comment comment) → IsRooted now comment
  all_rooted comment has = elim (held_cases g (rows_of op) now gained has.it has.held) [
    | inl old ↦ root_kept g now (old_held g (rows_of op) now gained) comment (sound.rooted comment (record { it = has.it; held = old; keyed = has.keyed }))
    | inr new ↦ (of_each (IsSettled now) (rows_of op) all_settled has.it new).rooted comment has.keyed
  ]

-- a sound graph stays sound with the rows of an insert that is welcome
pub sound_kept : SoundIsKept
sound_kept g now op sound welcome gained = record {
  held = held_kept g now op sound.held welcome gained;
  complete = none_missing g now op sound welcome gained;
  rooted = all_rooted g now op sound welcome gained;
}
