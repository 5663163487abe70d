-- Whether updates are closed, as far as they have been looked at.
use Rattle.std.proofs.Common.{◌≡◌, ℕ, ◌+◌, ◌<◌, ◌≤◌, true, false, List, [], ◌∷◌, ◌++◌, length, map, take, drop, get_or, Some, None, ◌⊎◌, inl, inr, refl, sym, ap, ◌∙◌, subst, arith, length-take}
use Rattle.std.specs.List.{All, AllPairs, Contains}
use Rattle.std.proofs.lemmas.Bool.{cases_lt}
use Rattle.std.proofs.lemmas.List.{take-append-drop, take_more, take_all, get_or-take, get_or_default}
use Rattle.std.proofs.lemmas.List.Elements.{All-append, All-cons, All-nil, Contains-push, Contains-push_cases, Contains-append_left}
use Rattle.snb_base.proofs.Laws.{all_at, contains_here, contains_there, push_split, split_here}
use Rattle.snb_schema.specs.declared.key.Key.{Key}
use Rattle.snb_schema.specs.declared.key.Key.TheVariants.{Node}
use Rattle.snb_schema.specs.declared.op.Op.{Op}
use Rattle.snb_schema.specs.declared.refusal.Missing.{Missing}
use Rattle.snb_schema.specs.declared.refusal.Refusal.{Refusal}
use Rattle.snb_schema.specs.declared.table.Kind.TheVariants as kinds
use Rattle.snb_schema.specs.Awaiting.{is_awaited, kind_waits, waits}
use Rattle.snb_schema.specs.InsertLines.{addition_kind}
use Rattle.snb_schema.specs.Inserts.{addition_keys, keys_of, message_keys}
use Rattle.snb_schema.specs.Nodes.{Addition, NewPerson, NewForum, NewPost, NewComment, NewPostLike, NewCommentLike, NewMember, NewFriends, addition}
use Rattle.snb_schema.specs.References.{added_node, addition_node, addition_refs, ref, refs_of}
use Rattle.snb_plan.specs.declared.added.Added.{Added}
use Rattle.snb_plan.specs.declared.added.Mark.{Mark}
use Rattle.snb_plan.specs.Closed.{Update, IsClosed, IsClosedAt, IsFirstUnmet, IsFirstWrong, DependsTooLate, IsMet, IsTaken, IsWrong, IsWrongBy}
use Rattle.snb_plan.specs.Added.{mark_at, mark_of, HasMore, IsFine, IsMetBy, IsTakenBy}
use Rattle.snb_plan.proofs.CaseFacts.{IsWrongCase, from_case, to_case}
use Rattle.snb_plan.proofs.Slots.{among}

-- the updates are in order of t
abbrev pub Rises : List Update → Type 0
Rises all = AllPairs (λ u v. u.line.t ≤ v.line.t) all

-- the mark of an update
abbrev mark : Update → Mark
mark u = mark_of u.lane u.line

-- the updates so far are closed, the mark of each is kept at its keys, and nothing else is kept
pub record Stands (holds : Key → Type 0) (all before : List Update) (added : Added) : Type 0 where
  pub closed : (front : List Update) (v : Update) (rest : List Update) → front ++ v ∷ rest ≡ before → IsClosedAt holds all front v
  pub kept : (key : Key) (m : Mark) → mark_at added key ≡ Some m → (v : Update) × Contains before v × Contains (keys_of v.line.op) key × (m ≡ mark v)
  pub has : (v : Update) (key : Key) → Contains before v → Contains (keys_of v.line.op) key → mark_at added key ≡ Some (mark v)

-- ---- inserts

-- an update takes the key of the node that it adds
node_is_taken : (a : Addition) (node : Missing) → addition_node a ≡ Some node → Contains (addition_keys a) (Node node.kind node.id)
node_is_taken (NewPerson person city languages emails tags study work) node e =
    subst (λ (n : Missing). Contains (Node kinds.Person person.id ∷ []) (Node n.kind n.id)) (let same : ref kinds.Person person.id ≡ node = cc in same) (contains_here (Node kinds.Person person.id) [])
node_is_taken (NewForum forum moderator tags) node e =
    subst (λ (n : Missing). Contains (Node kinds.Forum forum.id ∷ []) (Node n.kind n.id)) (let same : ref kinds.Forum forum.id ≡ node = cc in same) (contains_here (Node kinds.Forum forum.id) [])
node_is_taken (NewPost post author forum country tags) node e =
    subst (λ (n : Missing). Contains (message_keys post.id) (Node n.kind n.id)) (let same : ref kinds.Post post.id ≡ node = cc in same)
    (contains_here (Node kinds.Post post.id) (Node kinds.Comment post.id ∷ []))
node_is_taken (NewComment comment author country parent tags) node e =
    subst (λ (n : Missing). Contains (message_keys comment.id) (Node n.kind n.id)) (let same : ref kinds.Comment comment.id ≡ node = cc in same)
    (contains_there (Node kinds.Post comment.id) (Node kinds.Comment comment.id ∷ []) (Node kinds.Comment comment.id) (contains_here (Node kinds.Comment comment.id) []))
node_is_taken (NewPostLike person post date) node e = absurd cc
node_is_taken a node e = absurd cc

-- the references are of kinds that aren't awaited
AreFree : List Missing → Type 0
AreFree refs = All (λ (n : Missing). is_awaited n.kind ≡ false) refs

free_map : {X : Type 0} (f : X → Missing) → ((x : X) → is_awaited (f x).kind ≡ false) → (xs : List X) → AreFree (map f xs)
unfolding AreFree
free_map f each [] = All-nil (λ (n : Missing). is_awaited n.kind ≡ false)
free_map f each (x ∷ xs) = All-cons (λ (n : Missing). is_awaited n.kind ≡ false) (f x) (map f xs) (each x) (free_map f each xs)

free_append : (xs ys : List Missing) → AreFree xs → AreFree ys → AreFree (xs ++ ys)
unfolding AreFree
free_append xs ys a b = All-append (λ (n : Missing). is_awaited n.kind ≡ false) xs ys a b

free_at : (refs : List Missing) (node : Missing) → AreFree refs → Contains refs node → is_awaited node.kind ≡ false
unfolding AreFree
free_at refs node free at = subst (λ (n : Missing). is_awaited n.kind ≡ false) at.2 (free at.0 node at.1)

free_cons : (node : Missing) (refs : List Missing) → is_awaited node.kind ≡ false → AreFree refs → AreFree (node ∷ refs)
unfolding AreFree
free_cons node refs one rest = All-cons (λ (n : Missing). is_awaited n.kind ≡ false) node refs one rest

-- an insert that refers to a node of an awaited kind waits
refers_waits : (a : Addition) (node : Missing) → Contains (addition_refs a) node → is_awaited node.kind ≡ true → kind_waits (addition_kind a) ≡ true
refers_waits (NewPerson person city languages emails tags study work) node at awaited =
    let tagged = free_append (map (ref kinds.Tag) tags) (map (λ s. ref kinds.Organisation s.0) study)
    (free_map (ref kinds.Tag) (λ _. refl) tags) (free_map (λ s. ref kinds.Organisation s.0) (λ _. refl) study) in
    let rest = free_append (map (ref kinds.Tag) tags ++ map (λ s. ref kinds.Organisation s.0) study) (map (λ w. ref kinds.Organisation w.0) work)
    tagged (free_map (λ w. ref kinds.Organisation w.0) (λ _. refl) work) in
    let free = free_at (addition_refs (NewPerson person city languages emails tags study work)) node
    (free_cons (ref kinds.Place city) (map (ref kinds.Tag) tags ++ map (λ s. ref kinds.Organisation s.0) study ++ map (λ w. ref kinds.Organisation w.0) work) refl rest) at in
    absurd (let same : true ≡ false = sym awaited ∙ free in cc)
refers_waits _ node at awaited = refl

-- ---- order

-- an update that is earlier than the one at a place stands before it
before_by_t : (all : List Update) (i : ℕ) (u v : Update) → Rises all → i < length all → u ≡ get_or all i u → Contains all v → v.line.t < u.line.t → Contains (take i all) v
before_by_t all i u v rises lt is at earlier =
    elim (cases_lt at.0 i) [
      | inl below ↦ (at.0, omega (arith, length-take i all), get_or-take i all at.0 v below ∙ at.2)
      | inr later ↦ absurd (elim (cases_lt i at.0) [
        | inl after ↦ (
            let there : v.line.t ≡ (get_or all at.0 u).line.t = ap (λ (z : Update). z.line.t) (sym at.2 ∙ get_or_default all at.0 v u at.1) in
            let here : u.line.t ≡ (get_or all i u).line.t = ap (λ (z : Update). z.line.t) is in
            let le = rises i at.0 u after at.1 in
            omega arith)
        | inr here ↦ (
            let place : at.0 ≡ i = omega arith in
            let same : v ≡ u = sym at.2 ∙ get_or_default all at.0 v u at.1 ∙ ap (λ (k : ℕ). get_or all k u) place ∙ sym is in
            let t : v.line.t ≡ u.line.t = ap (λ (z : Update). z.line.t) same in
            omega arith)
      ])
    ]

-- an update before a place is among all
among_all : (all : List Update) (i : ℕ) (v : Update) → Contains (take i all) v → Contains all v
among_all all i v at = subst (λ (zs : List Update). Contains zs v) (take-append-drop i all) (Contains-append_left (take i all) (drop i all) v at)

-- ---- by what is kept

-- whether a key is taken
taken_by : (holds : Key → Type 0) (all before : List Update) (added : Added) (u : Update) → Stands holds all before added → IsTaken holds before u → IsTakenBy holds added u
taken_by holds all before added u s (key, at, inl held) = (key, at, inl held)
taken_by holds all before added u s (key, at, inr v) = (key, at, inr (mark v.0, s.has v.0 key v.1 v.2))

by_taken : (holds : Key → Type 0) (all before : List Update) (added : Added) (u : Update) → Stands holds all before added → IsTakenBy holds added u → IsTaken holds before u
by_taken holds all before added u s (key, at, inl held) = (key, at, inl held)
by_taken holds all before added u s (key, at, inr m) = (let v = s.kept key m.0 m.1 in (key, at, inr (v.0, v.1, v.2)))

-- whether a node is met
by_met : (holds : Key → Type 0) (all : List Update) (i : ℕ) (u : Update) (node : Missing) (added : Added) → Stands holds all (take i all) added → IsMetBy holds added u node
    → IsMet holds all (take i all) u node
by_met holds all i u node added s (inl held) = inl held
by_met holds all i u node added s (inr (m, at, meets)) =
    let v = s.kept (Node node.kind node.id) m at in
    let node_of : added_node v.0.line.op ≡ Some node = ap (λ (x : Mark). x.node) (sym v.3) ∙ meets.0 in
    elim meets.1 [
      | inl timely ↦ inr (inl (timely.0, (v.0, among_all all i v.0 v.1, node_of, subst (λ (x : Mark). x.t ≤ u.line.t_d) v.3 timely.1)))
      | inr lane ↦ inr (inr (lane.0, (v.0, v.1, ap (λ (x : Mark). x.lane) (sym v.3) ∙ lane.1, node_of)))
    ]

met_by : (holds : Key → Type 0) (all : List Update) (i : ℕ) (u : Update) (node : Missing) (added : Added) → Rises all → i < length all → u ≡ get_or all i u
    → (is_awaited node.kind ≡ true → u.line.t_d < u.line.t) → Stands holds all (take i all) added → IsMet holds all (take i all) u node → IsMetBy holds added u node
met_by holds all i u node added rises lt is timely s (inl held) = inl held
met_by holds all i u node added rises lt is timely s (inr (inl (awaited, v))) =
    let below = timely awaited in
    let le = v.3 in
    let before = before_by_t all i u v.0 rises lt is v.1 (omega (arith, le, below)) in
    inr (mark v.0, s.has v.0 (Node node.kind node.id) before (node_is_taken (addition v.0.line.op) node v.2), (v.2, inl (awaited, le)))
met_by holds all i u node added rises lt is timely s (inr (inr (kind, v))) =
    inr (mark v.0, s.has v.0 (Node node.kind node.id) v.1 (node_is_taken (addition v.0.line.op) node v.3), (v.3, inr (kind, v.2)))

-- what isn't late is in time
timely_from : (u : Update) → (DependsTooLate u → ⊥) → waits u.line.op ≡ true → u.line.t_d < u.line.t
timely_from u not_late dependent = elim (cases_lt u.line.t_d u.line.t) [ inl lt ↦ lt | inr ge ↦ absurd (not_late (dependent, ge)) ]

-- at first nothing is kept
pub stands_none : (holds : Key → Type 0) (all : List Update) (added : Added) → ((key : Key) → mark_at added key ≡ None) → Stands holds all [] added
stands_none holds all added none = record {
  closed = nothing;
  kept = λ key m e. absurd (let n = none key in cc);
  has = λ v key at taken. absurd (let l = at.1 in omega arith);
}
  where
    nothing : (front : List Update) (v : Update) (rest : List Update) → front ++ v ∷ rest ≡ [] → IsClosedAt holds all front v
    nothing [] v rest q = absurd cc
    nothing (z ∷ front) v rest q = absurd cc

-- an update with which nothing is wrong is closed
fine_is_closed : (holds : Key → Type 0) (all : List Update) (i : ℕ) (u : Update) (added : Added) → Stands holds all (take i all) added → IsFine holds added u → IsClosedAt holds all (take i all) u
fine_is_closed holds all i u added s fine = record {
  timely = timely_from u fine.timely;
  new = λ taken. fine.new (taken_by holds all (take i all) added u s taken);
  met = λ k d lt. by_met holds all i u (get_or (refs_of u.line.op) k d) added s (fine.met k d lt);
}

some_same : (a b : Mark) → Some a ≡ Some b → a ≡ b
some_same a b e = cc

-- one update more, with which nothing is wrong
pub stands_next : (holds : Key → Type 0) (all : List Update) (i : ℕ) (u : Update) (old new : Added) → i < length all → u ≡ get_or all i u → Stands holds all (take i all) old → IsFine holds old u
    → HasMore old (keys_of u.line.op) (mark_of u.lane u.line) new → Stands holds all (take (i + 1) all) new
stands_next holds all i u old new lt is s fine added =
    subst (λ (vs : List Update). Stands holds all vs new) (ap (λ (v : Update). take i all ++ v ∷ []) is ∙ sym (take_more all i u lt))
    (record { closed = closed; kept = λ key m e. kept key m e (among (keys_of u.line.op) key); has = has })
  where
    closed : (front : List Update) (v : Update) (rest : List Update) → front ++ v ∷ rest ≡ take i all ++ u ∷ [] → IsClosedAt holds all front v
    closed front v rest splits = elim (push_split front v rest (take i all) u splits) [
      | inl here ↦
          subst (λ (z : Update). IsClosedAt holds all front z) (sym here.1)
          (subst (λ (zs : List Update). IsClosedAt holds all zs u) (sym here.0) (fine_is_closed holds all i u old s fine))
      | inr earlier ↦ s.closed front v earlier.0 earlier.1
    ]

    kept : (key : Key) (m : Mark) → mark_at new key ≡ Some m → Contains (keys_of u.line.op) key ⊎ (Contains (keys_of u.line.op) key → ⊥)
        → (v : Update) × Contains (take i all ++ u ∷ []) v × Contains (keys_of v.line.op) key × (m ≡ mark v)
    kept key m e (inl here) = (u, Contains-push (take i all) u, here, some_same m (mark u) (sym e ∙ added.here key here))
    kept key m e (inr other) =
        let v = s.kept key m (sym (added.others key other) ∙ e) in
        (v.0, Contains-append_left (take i all) (u ∷ []) v.0 v.1, v.2, v.3)

    has : (v : Update) (key : Key) → Contains (take i all ++ u ∷ []) v → Contains (keys_of v.line.op) key → mark_at new key ≡ Some (mark v)
    has v key at taken = elim (Contains-push_cases (take i all) u v at) [
      | inl earlier ↦ added.others key (λ again. fine.new (key, again, inr (mark v, s.has v key earlier taken))) ∙ s.has v key earlier taken
      | inr here ↦ subst (λ (z : Update). Contains (keys_of z.line.op) key → mark_at new key ≡ Some (mark z)) here (λ at_u. added.here key at_u) taken
    ]

-- after the last update all are closed
pub closed_all : (holds : Key → Type 0) (all : List Update) (i : ℕ) (added : Added) → length all ≤ i → Stands holds all (take i all) added → IsClosed holds all
closed_all holds all i added past s = record { each = λ before u after splits. s.closed before u after (splits ∙ sym (take_all i all past)) }

-- an element between others is one of the list
between : {X : Type 0} (front : List X) (x : X) (rest : List X) → Contains (front ++ x ∷ rest) x
between [] x rest = contains_here x rest
between (y ∷ front) x rest = contains_there y (front ++ x ∷ rest) x (between front x rest)

-- with an update that is closed nothing is wrong
not_so : (holds : Key → Type 0) (all before : List Update) (u : Update) (r : Refusal) → IsClosedAt holds all before u → IsWrongCase (IsTaken holds before) (IsMet holds all before) u r → ⊥
not_so holds all before u r closed (inl late) = (let lt = closed.timely late.0.0 in let ge = late.0.1 in omega arith)
not_so holds all before u r closed (inr (inl taken)) = closed.new taken.1
not_so holds all before u r closed (inr (inr unmet)) =
    let first : IsFirstUnmet (IsMet holds all before u) (refs_of u.line.op) unmet.2.0 = unmet.2.1 in
    first.unmet (all_at (IsMet holds all before u) first.front unmet.2.0 first.rest (subst (All (IsMet holds all before u)) (sym first.splits) closed.met))

pub not_wrong : (holds : Key → Type 0) (all before : List Update) (u : Update) (r : Refusal) → IsClosedAt holds all before u → IsWrong holds all before u r → ⊥
not_wrong holds all before u r closed wrong = not_so holds all before u r closed (to_case (IsTaken holds before) (IsMet holds all before) u r wrong)

-- what is wrong with an update by what is kept is wrong with it
pub first_wrong : (holds : Key → Type 0) (all : List Update) (i : ℕ) (u : Update) (added : Added) (r : Refusal) → Rises all → i < length all → u ≡ get_or all i u
    → Stands holds all (take i all) added → IsWrongBy (IsTakenBy holds added) (IsMetBy holds added) u r → IsFirstWrong holds all r
first_wrong holds all i u added r rises lt is s wrong = record {
  before = take i all;
  update = u;
  after = drop (i + 1) all;
  splits = split_here all i u lt is;
  wrong = from_case (IsTaken holds (take i all)) (IsMet holds all (take i all)) u r (by_cause (to_case (IsTakenBy holds added) (IsMetBy holds added) u r wrong));
  none_before = λ front v rest q splits w. not_wrong holds all front v q (s.closed front v rest splits) w;
}
  where
    by_cause : IsWrongCase (IsTakenBy holds added) (IsMetBy holds added) u r → IsWrongCase (IsTaken holds (take i all)) (IsMet holds all (take i all)) u r
    by_cause (inl late) = inl late
    by_cause (inr (inl taken)) = inr (inl (taken.0, by_taken holds all (take i all) added u s taken.1, taken.2))
    by_cause (inr (inr unmet)) =
        let node : Missing = unmet.2.0 in
        let first : IsFirstUnmet (IsMetBy holds added u) (refs_of u.line.op) node = unmet.2.1 in
        let at : Contains (refs_of u.line.op) node = subst (λ (refs : List Missing). Contains refs node) first.splits (between first.front node first.rest) in
        inr (inr (
          unmet.0,
          λ taken. unmet.1 (taken_by holds all (take i all) added u s taken),
          (
            node,
            record {
              front = first.front;
              rest = first.rest;
              splits = first.splits;
              before = λ k d l. by_met holds all i u (get_or first.front k d) added s (first.before k d l);
              unmet = λ met. first.unmet (met_by holds all i u node added rises lt is (λ awaited. timely_from u unmet.0 (refers_waits (addition u.line.op) node at awaited)) s met);
            },
            unmet.2.2,
          ),
        ))
