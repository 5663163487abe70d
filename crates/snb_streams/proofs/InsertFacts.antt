-- The insert that the fields of a line spell.
use Rattle.std.proofs.Common.{◌≡◌, ◌∙◌, ◌++◌, ℕ, Option, Some, None, List, [], ◌∷◌, drop, get_or, length, take, refl, sym, ap, subst, inl, inr, arith}
use Rattle.snb_base.specs.Spellings.{Num, SpellsId, last_id}
use Rattle.snb_schema.specs.declared.column.Column.TheVariants.{OptionalId}
use Rattle.snb_schema.specs.declared.column.Value.{Value}
use Rattle.snb_schema.specs.declared.column.Value.TheVariants.{Digits, Ids, NoId, Pairs, Texts}
use Rattle.snb_schema.specs.declared.op.Op.{Op}
use Rattle.snb_schema.specs.declared.op.Op.TheVariants.{LikePost}
use Rattle.snb_schema.specs.declared.op.InsertKind.{InsertKind}
use Rattle.snb_schema.specs.declared.op.InsertKind.TheVariants as kinds
use Rattle.snb_schema.specs.declared.op.Parent.{Parent}
use Rattle.snb_schema.specs.declared.op.Parent.TheVariants as parents
use Rattle.snb_schema.specs.Columns.{Spells, SpellsAll}
use Rattle.snb_schema.specs.Nodes.{Addition, NewComment, NewCommentLike, NewForum, NewFriends, NewMember, NewPerson, NewPost, NewPostLike, adding, addition, comment_by, comment_columns, forum_by, id_column, person_by, post_by}
use Rattle.std.specs.List.{Contains}
use Rattle.snb_schema.specs.UpdateLines.{AreTwo, Clashes, IsOfTwo, NamesInsert, field}
use Rattle.snb_streams.specs.Spelled.{SpellsInsert}
use Rattle.snb_streams.proofs.KindFacts.{third_names}
use Rattle.snb_schema.specs.InsertLines.{addition_kind, beside_columns, beside_values, insert_columns, kind_number, kind_of, line_columns, line_values, node_columns, node_values, op_values, parent_comment, parent_post}
use Rattle.snb_input_fields.specs.Reading.{optional_value}
use Rattle.snb_input_fields.proofs.Laws.{TypedRow, row_of, row_parts, row_values}
use Rattle.snb_columns.proofs.Laws.{number_some}
use Rattle.snb_streams.proofs.ClashFacts.{NoneOrBoth}
use Rattle.snb_streams.proofs.PlaceFacts.{spells_at}

-- what two texts spell where one is an id and the other none
abbrev OneParent : List ℕ → List ℕ → Parent → Type 0
OneParent x y parent = Spells OptionalId x (parent_post parent) × Spells OptionalId y (parent_comment parent)

-- these are not no ids, nor two
one_parent : (x y : List ℕ) (parent : Parent) → OneParent x y parent → ¬ NoneOrBoth x y
one_parent x y (parents.Post id) s (inl none) = number_some x id last_id s.0 none.0
one_parent x y (parents.Post id) s (inr both) = number_some y both.1 last_id both.3 s.1
one_parent x y (parents.Comment id) s (inl none) = number_some y id last_id s.1 none.1
one_parent x y (parents.Comment id) s (inr both) = number_some x both.0 last_id both.2 s.0

-- the values of a line with an insert that adds this
abbrev added_line : ℕ → ℕ → Addition → List Value
added_line t t_d a = Digits t ∷ Digits t_d ∷ Digits (kind_number (addition_kind a)) ∷ node_values a ++ beside_values a

apart : (fs : List (List ℕ)) (t t_d : ℕ) (a : Addition) → AreTwo a → SpellsAll (line_columns (addition_kind a)) fs (added_line t t_d a) → (c : ℕ) → ¬ Clashes (addition_kind a) fs c
apart fs t t_d (NewFriends one other date) two s c h =
    let vs = added_line t t_d (NewFriends one other date) in
    let a : SpellsId (field 3 fs) one = spells_at 3 id_column NoId (line_columns kinds.AddFriend) fs vs s (omega arith) in
    let b : SpellsId (field 4 fs) other = spells_at 4 id_column NoId (line_columns kinds.AddFriend) fs vs s (omega arith) in
    two (a.value ∙ sym h.1.1.value ∙ h.1.2.value ∙ sym b.value)
apart fs t t_d (NewComment comment author country parent tags) two s c h =
    let vs = added_line t t_d (NewComment comment author country parent tags) in
    one_parent (field 11 fs) (field 12 fs) parent (spells_at 11 id_column NoId (line_columns kinds.AddComment) fs vs s (omega arith), spells_at 12 id_column NoId (line_columns kinds.AddComment) fs vs s (omega arith)) h.1
apart fs t t_d a two s c h = h

-- the fields of an insert don't clash, where a friendship is of two
pub own_apart : (fs : List (List ℕ)) (t t_d : ℕ) (op : Op) → IsOfTwo op → SpellsAll (line_columns (kind_of op)) fs (line_values t t_d op) → (c : ℕ) → ¬ Clashes (kind_of op) fs c
own_apart fs t t_d op two s c h = apart fs t t_d (addition op) two s c h

-- the parent that has these values
abbrev parent_by : Value → Value → Parent
parent_by (Digits post) comment = parents.Post post
parent_by post (Digits comment) = parents.Comment comment
parent_by post comment = parents.Post 0

parent_kept : (x y : List ℕ) (post comment : Option ℕ) → Spells OptionalId x (optional_value post) → Spells OptionalId y (optional_value comment) → ¬ NoneOrBoth x y
    → (parent_post (parent_by (optional_value post) (optional_value comment)) ≡ optional_value post) × (parent_comment (parent_by (optional_value post) (optional_value comment)) ≡ optional_value comment)
parent_kept x y (Some post) None s t one = (refl, refl)
parent_kept x y None (Some comment) s t one = (refl, refl)
parent_kept x y (Some post) (Some comment) s t one = absurd (one (inr (post, comment, s, t)))
parent_kept x y None None s t one = absurd (one (inl (s, t)))

-- what an insert of this kind adds, of the values of its node and those beside them
abbrev added_by : InsertKind → List Value → List Value → Addition
added_by kinds.AddPerson node (Digits city ∷ Texts languages ∷ Texts emails ∷ Ids tags ∷ Pairs study ∷ Pairs work ∷ []) =
    NewPerson (person_by node) city languages emails tags study work
added_by kinds.LikePost node (Digits person ∷ Digits post ∷ Digits date ∷ []) = NewPostLike person post date
added_by kinds.LikeComment node (Digits person ∷ Digits comment ∷ Digits date ∷ []) = NewCommentLike person comment date
added_by kinds.AddForum node (Digits moderator ∷ Ids tags ∷ []) = NewForum (forum_by node) moderator tags
added_by kinds.AddMember node (Digits person ∷ Digits forum ∷ Digits date ∷ []) = NewMember person forum date
added_by kinds.AddPost node (Digits author ∷ Digits forum ∷ Digits country ∷ Ids tags ∷ []) = NewPost (post_by node) author forum country tags
added_by kinds.AddComment node (Digits author ∷ Digits country ∷ post ∷ comment ∷ Ids tags ∷ []) =
    NewComment (comment_by node) author country (parent_by post comment) tags
added_by kind node (Digits one ∷ Digits other ∷ Digits date ∷ []) = NewFriends one other date
added_by kind node beside = NewFriends 0 0 0

-- the insert of this kind that has these values
abbrev op_by : InsertKind → List Value → Op
op_by kind vs =
    let size = length (node_columns kind) in
    adding (added_by kind (take size vs) (drop size vs))

-- the insert of what the columns hold
abbrev pub op_of : (kind : InsertKind) → TypedRow (insert_columns kind) → Op
op_of kind row = op_by kind (row_values (insert_columns kind) row)

-- it is of this kind
op_kind : (kind : InsertKind) (row : TypedRow (insert_columns kind)) → kind_of (op_of kind row) ≡ kind
op_kind kinds.AddPerson row = refl
op_kind kind row = refl

-- a line's times, its number and what the columns of its insert hold, which don't clash
abbrev LineRow : InsertKind → Type 0
LineRow kind = TypedRow (line_columns kind)

op_kept : (kind : InsertKind) (fs : List (List ℕ)) (row : LineRow kind) → SpellsAll (line_columns kind) fs (row_values (line_columns kind) row) → ((c : ℕ) → ¬ Clashes kind fs c)
    → (op_values (op_of kind row.1.1.1) ≡ row_values (insert_columns kind) row.1.1.1) × IsOfTwo (op_of kind row.1.1.1)
op_kept kinds.AddComment fs row s never =
    let vs = row_values (line_columns kinds.AddComment) row in
    let parts = row_parts comment_columns (beside_columns kinds.AddComment) row.1.1.1 in
    let post = parts.1.1.1.0 in
    let comment = parts.1.1.1.1.0 in
    let kept = parent_kept (field 11 fs) (field 12 fs) post comment (spells_at 11 id_column NoId (line_columns kinds.AddComment) fs vs s (omega arith)) (spells_at 12 id_column NoId (line_columns kinds.AddComment) fs vs s (omega arith)) (λ two. never 13 (refl, two)) in
    (simp (kept.0, kept.1) refl, tt)
op_kept kinds.AddFriend fs (t, (t_d, (n, (one, (other, (date, none)))))) s never =
    let vs = row_values (line_columns kinds.AddFriend) (t, (t_d, (n, (one, (other, (date, none)))))) in
    let a : SpellsId (field 3 fs) one = spells_at 3 id_column NoId (line_columns kinds.AddFriend) fs vs s (omega arith) in
    let b : SpellsId (field 4 fs) other = spells_at 4 id_column NoId (line_columns kinds.AddFriend) fs vs s (omega arith) in
    (refl, λ same. never 5 (refl, (one, a, subst (SpellsId (field 4 fs)) (sym same) b)))
op_kept kind fs row s never = (refl, tt)

-- fields that spell values of all columns and don't clash spell an insert
pub op_spelled : (kind : InsertKind) (fs : List (List ℕ)) (vs : List Value) → Num (get_or fs 2 []) (kind_number kind) (kind_number kind) → SpellsAll (line_columns kind) fs vs → ((c : ℕ) → ¬ Clashes kind fs c)
    → (t : ℕ) × (t_d : ℕ) × (op : Op) × (kind_of op ≡ kind) × (vs ≡ line_values t t_d op) × IsOfTwo op
op_spelled kind fs vs third s never =
    let (row, is) = row_of (line_columns kind) fs vs s in
    let own : SpellsAll (line_columns kind) fs (row_values (line_columns kind) row) = subst (SpellsAll (line_columns kind) fs) is s in
    let kept = op_kept kind fs row own never in
    let of = op_kind kind row.1.1.1 in
    let number : Num (get_or fs 2 []) row.1.1.0 (kind_number kind) = spells_at 2 id_column NoId (line_columns kind) fs (row_values (line_columns kind) row) own (omega arith) in
    let same : row.1.1.0 ≡ kind_number (kind_of (op_of kind row.1.1.1)) = number.value ∙ sym third.value ∙ ap kind_number (sym of) in
    (row.0, row.1.0, op_of kind row.1.1.1, of, is ∙ (λ i. Digits row.0 ∷ Digits row.1.0 ∷ Digits (same i) ∷ sym kept.0 i), kept.1)

-- an insert is made again of its kind and values
added_again : (a : Addition) → op_by (addition_kind a) (node_values a ++ beside_values a) ≡ adding a
added_again (NewComment comment author country (parents.Post post) tags) = refl
added_again (NewComment comment author country (parents.Comment parent) tags) = refl
added_again a = refl

op_again : (op : Op) → adding (addition op) ≡ op
op_again (LikePost person post date) = refl
op_again op = refl

-- so two inserts of one kind and with the same values are one
pub one_op : (a b : Op) → kind_of a ≡ kind_of b → op_values a ≡ op_values b → a ≡ b
one_op a b kind values =
    sym (op_again a) ∙ sym (added_again (addition a)) ∙ (λ i. op_by (kind i) (values i)) ∙ added_again (addition b) ∙ op_again b

-- an insert of these kinds whose values the fields spell
pub spells_insert : (allowed : List InsertKind) (kind : InsertKind) (fs : List (List ℕ)) (t t_d : ℕ) (op : Op) → NamesInsert allowed fs kind → kind_of op ≡ kind → SpellsAll (line_columns kind) fs (line_values t t_d op) → IsOfTwo op → SpellsInsert allowed fs t t_d op
spells_insert allowed kind fs t t_d op names of s two = (
  subst (λ (k : InsertKind). Contains allowed k) (sym of) (third_names allowed fs kind names),
  subst (λ (k : InsertKind). SpellsAll (line_columns k) fs (line_values t t_d op)) (sym of) s,
  two,
)
