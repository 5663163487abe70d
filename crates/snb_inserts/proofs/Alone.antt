-- No edge leads from a message that isn't held, where references are.
use Rattle.std.proofs.Common.{◌≡◌, ◌∙◌, ◌++◌, ◌∷◌, ℕ, List, All, Some, None, ap, inl, inr, refl, subst, sym}
use Rattle.std.proofs.lemmas.List.Elements.{All-head}
use Rattle.std.specs.List.{Contains}
use Rattle.snb_schema.specs.declared.key.Key.TheVariants.{Node}
use Rattle.snb_schema.specs.declared.row.Row.{Row}
use Rattle.snb_schema.specs.declared.row.Row.TheVariants as row
use Rattle.snb_schema.specs.declared.table.Kind.{Kind}
use Rattle.snb_schema.specs.declared.table.Kind.TheVariants as kinds
use Rattle.snb_schema.specs.declared.table.Table.{Table}
use Rattle.snb_schema.specs.Inserts.{addition_keys}
use Rattle.snb_schema.specs.Nodes.{Addition, NewPerson, NewForum, NewPost, NewComment, NewPostLike, NewCommentLike, NewMember, NewFriends, addition}
use Rattle.snb_schema.specs.References.{end_ref, from_kind, ref, to_kind}
use Rattle.snb_schema.specs.RowKeys.{node_key}
use Rattle.snb_graph.specs.Additions.{IsFirstAlone}
use Rattle.snb_graph_adjacency.specs.Links.{message_of}
use Rattle.snb_graph_model.specs.Graphs.{HasKey}
use Rattle.snb_graph_model.specs.Soundness.{HoldsRefs}
use Rattle.snb_inserts.specs.Applying.{IsAnyHeld}
use Rattle.snb_inserts.specs.Laws.{MessagesAreAlone}
use Rattle.snb_inserts.proofs.ListRows.{all_rows}
use Rattle.snb_inserts.proofs.Owners.{IsHere}
use Rattle.snb_inserts.proofs.TakenLemmas.{two_held}
use Rattle.snb_base.proofs.Laws.{first_same}
use Rattle.std.proofs.lemmas.Option.{same_Some}

-- the node from which an edge leads is held
from_here : (g : List Row) → HoldsRefs g → (t : Table) (k : Kind) (id to : ℕ) → from_kind t ≡ Some k → Contains g (row.Link t id to) → HasKey g (node_key k id)
from_here g held t k id to is c = All-head (IsHere g) (1, ref k id) (end_ref 2 (to_kind t) to) (subst (λ o. All (IsHere g) (end_ref 1 o id ++ end_ref 2 (to_kind t) to)) is (held (row.Link t id to) c))

-- the first of rows is a message that isn't held, or none
new_message : (g : List Row) (first : Row) (more : List Row) (k : Kind) (id date : ℕ) → HoldsRefs g → message_of first ≡ Some (k, id, date) → ¬ HasKey g (node_key k id) → IsFirstAlone g (first ∷ more)
new_message g first more k id date held is none r rest e j n d message t from to c =
    let same = same_Some (k, id, date) (j, n, d) (sym is ∙ ap message_of (first_same first r more rest e) ∙ message) in
    none (subst (λ (m : Kind × ℕ × ℕ). HasKey g (node_key m.0 m.1)) (sym same) (from_here g held t j n to from c))

no_message : (g : List Row) (first : Row) (more : List Row) → message_of first ≡ None → IsFirstAlone g (first ∷ more)
no_message g first more is r rest e j n d message t from to c = let same : None ≡ Some (j, n, d) = sym is ∙ ap message_of (first_same first r more rest e) ∙ message in absurd cc

-- none of what it adds is held
addition_alone : (g : List Row) (a : Addition) → HoldsRefs g → ¬ IsAnyHeld g (addition_keys a) → IsFirstAlone g (all_rows a)
addition_alone g (NewPost post author forum country tags) held free =
    new_message g _ _ kinds.Post post.id post.creation_date held refl (λ has. free ((two_held g (Node kinds.Post post.id) (Node kinds.Comment post.id)).1 (inl has)))
addition_alone g (NewComment comment author country parent tags) held free =
    new_message g _ _ kinds.Comment comment.id comment.creation_date held refl (λ has. free ((two_held g (Node kinds.Post comment.id) (Node kinds.Comment comment.id)).1 (inr has)))
addition_alone g (NewPerson person city languages emails tags study work) held free = no_message g _ _ refl
addition_alone g (NewPostLike person post date) held free = no_message g _ _ refl
addition_alone g (NewCommentLike person comment date) held free = no_message g _ _ refl
addition_alone g (NewForum forum moderator tags) held free = no_message g _ _ refl
addition_alone g (NewMember person forum date) held free = no_message g _ _ refl
addition_alone g (NewFriends one other date) held free = no_message g _ _ refl

pub messages_alone : MessagesAreAlone
messages_alone g op held welcome = addition_alone g (addition op) held welcome.1
