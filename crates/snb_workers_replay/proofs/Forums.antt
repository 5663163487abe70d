-- An update that adds a forum or a message stands in a forum lane, and one that adds a node that is awaited is a dependency.
use Rattle.std.proofs.Common.{◌≡◌, ◌∷◌, ◌++◌, ◌∙◌, ℕ, zero, suc, ◌<◌, ◌≤◌, List, [], length, map, get_or, true, Some, inl, inr, refl, ap, subst, arith}
use Rattle.std.specs.Prelude.{Contains, slice_get}
use Rattle.std.proofs.lemmas.Bool.{cases_lt}
use Rattle.std.proofs.lemmas.List.{get_or_append_left}
use Rattle.std.proofs.lemmas.List.Elements.{All-contains}
use Rattle.std.proofs.lemmas.Option.{same_Some}
use Rattle.snb_schema.specs.declared.op.Line.{Line}
use Rattle.snb_schema.specs.declared.op.Op.{Op}
use Rattle.snb_schema.specs.declared.op.InsertKind.TheVariants as inserts
use Rattle.snb_schema.specs.declared.refusal.Missing.{Missing}
use Rattle.snb_history.specs.declared.step.LaneKind.{LaneKind}
use Rattle.snb_history.specs.declared.step.LaneKind.TheVariants as lane_kinds
use Rattle.snb_schema.specs.declared.table.Kind.TheVariants as kinds
use Rattle.snb_schema.specs.Awaiting.{added_kind, adds_awaited, is_awaited, is_awaited_node}
use Rattle.snb_schema.specs.LineLanes.{LineLanes}
use Rattle.snb_schema.specs.References.{added_node, addition_node, ref}
use Rattle.snb_schema.specs.StreamLines.{AreOfStream, AreOfStreams}
use Rattle.snb_schema.specs.UpdateLines.{person_inserts}
use Rattle.snb_schema.specs.InsertLines.{addition_kind, kind_of}
use Rattle.snb_schema.specs.Nodes.{Addition, NewPerson, NewForum, NewPost, NewComment, NewPostLike, NewCommentLike, NewMember, NewFriends, addition}
use Rattle.snb_plan.specs.Closed.{is_in_lane}
use Rattle.snb_plan.specs.Merging.{kinds_of, lane_of, numbered_lanes}
use Rattle.snb_base.proofs.Laws.{at_contains, contains_cases, none_in}

-- ---- what an insert adds

-- whether the node that is added is awaited
awaited_one : (own node : Missing) → Some own ≡ Some node → is_awaited own.kind ≡ is_awaited node.kind
awaited_one own node e = ap (λ (n : Missing). is_awaited n.kind) (same_Some own node e)

-- an insert that adds what is awaited is a dependency
pub adds_for : (op : Op) (node : Missing) → added_node op ≡ Some node → is_awaited node.kind ≡ true → adds_awaited op ≡ true
adds_for op node e a = by (addition op) e
  where
    by : (x : Addition) → addition_node x ≡ Some node → is_awaited_node (added_kind (addition_kind x)) ≡ true
    by (NewPerson person city languages emails tags study work) e = refl
    by (NewForum forum moderator tags) e = awaited_one (ref kinds.Forum forum.id) node e ∙ a
    by (NewPost post author forum country tags) e = awaited_one (ref kinds.Post post.id) node e ∙ a
    by (NewComment comment author country parent tags) e = awaited_one (ref kinds.Comment comment.id) node e ∙ a
    by x e = absurd cc

-- an insert of a stream of persons adds no forum and no message
adds_none : (op : Op) (node : Missing) → Contains person_inserts (kind_of op) → added_node op ≡ Some node → is_in_lane node.kind ≡ true → ⊥
adds_none op node c e a = elim (contains_cases inserts.AddPerson (inserts.AddFriend ∷ []) (kind_of op) c) [
  | inl first ↦ by_kind (addition op) first e
  | inr rest ↦ elim (contains_cases inserts.AddFriend [] (kind_of op) rest) [ inl second ↦ by_other (addition op) second e | inr none ↦ none_in (kind_of op) none ]
]
  where
    by_kind : (x : Addition) → inserts.AddPerson ≡ addition_kind x → addition_node x ≡ Some node → ⊥
    by_kind (NewPerson person city languages emails tags study work) k q =
        (let z = ap (λ (n : Missing). is_in_lane n.kind) (same_Some (ref kinds.Person person.id) node q) in cc)
    by_kind x k q = absurd cc

    by_other : (x : Addition) → inserts.AddFriend ≡ addition_kind x → addition_node x ≡ Some node → ⊥
    by_other (NewFriends one other date) k q = cc
    by_other x k q = absurd cc

-- ---- lanes

-- a lane after those of persons, and before that of the reads, is a forum lane
forum_kind : (persons forums : List (List Line)) (rest : List LaneKind) (n : ℕ) → length persons ≤ n → n < length (persons ++ forums)
    → slice_get ((map (λ _. lane_kinds.Person) persons ++ map (λ _. lane_kinds.Forum) forums) ++ rest) n ≡ Some lane_kinds.Forum
forum_kind [] [] rest n le lt = absurd (omega arith)
forum_kind [] (x ∷ xs) rest zero le lt = refl
forum_kind [] (x ∷ xs) rest (suc n) le lt = forum_kind [] xs rest n (omega arith) (omega (arith, lt))
forum_kind (p ∷ ps) xs rest zero le lt = absurd (omega (arith, le))
forum_kind (p ∷ ps) xs rest (suc n) le lt = forum_kind ps xs rest n (omega (arith, le)) (omega (arith, lt))

-- a line of a lane of persons is one of the inserts of their streams
of_persons : (lanes : LineLanes) (lane place : ℕ) (line : Line) → AreOfStreams lanes → lane < length lanes.persons → slice_get (lane_of lanes lane) place ≡ Some line → Contains person_inserts (kind_of line.op)
of_persons lanes lane place line of lt here =
    let same : get_or (numbered_lanes lanes) lane [] ≡ get_or lanes.persons lane [] = get_or_append_left lanes.persons lanes.forums [] lane lt in
    let stream : AreOfStream person_inserts (get_or lanes.persons lane []) = of.persons lane [] lt in
    All-contains (λ (x : Line). Contains person_inserts (kind_of x.op)) (get_or lanes.persons lane []) line stream.of_kinds
    (subst (λ (lines : List Line). Contains lines line) same (at_contains (lane_of lanes lane) place line here))

-- the lane of a line that adds a forum or a message is a forum lane
pub in_forum_lane : (lanes : LineLanes) (lane place : ℕ) (line : Line) (node : Missing) → AreOfStreams lanes → lane < length (numbered_lanes lanes) → slice_get (lane_of lanes lane) place ≡ Some line
    → added_node line.op ≡ Some node → is_in_lane node.kind ≡ true → slice_get (kinds_of lanes) lane ≡ Some lane_kinds.Forum
in_forum_lane lanes lane place line node of within here adds kind = elim (cases_lt lane (length lanes.persons)) [
  | inl lt ↦ absurd (adds_none line.op node (of_persons lanes lane place line of lt here) adds kind)
  | inr le ↦ forum_kind lanes.persons lanes.forums (lane_kinds.Query ∷ []) lane le within
]
