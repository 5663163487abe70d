-- The updates of a plan of the lanes are closed over the dataset.
use Rattle.std.proofs.Common.{◌≡◌, ◌∷◌, ◌++◌, ◌∙◌, ℕ, zero, suc, ◌+◌, ◌*◌, ◌%◌, ◌<◌, ◌≤◌, ◌⊎◌, Bool, true, false, List, [], get_or, Option, Some, inl, inr, refl, sym, ap, subst, arith}
use Rattle.std.specs.Prelude.{◌==◌, if◌then◌else◌, max, min, slice_get}
use Rattle.std.specs.List.{All, AllPairs, Contains}
use Rattle.std.proofs.lemmas.Bool.{cases_Bool, eq-eqb, eqb-true}
use Rattle.std.proofs.lemmas.List.Elements.{All-contains, All-from_recursion, Contains-append_cases, Contains-append_left, Contains-append_right}
use Rattle.std.proofs.lemmas.Option.{get_or_from_slice_get, same_Some, slice_get_within}
use Rattle.snb_base.proofs.Laws.{at_contains, contains_at, contains_cases, contains_here, given_by, gives, none_in}
use Rattle.snb_schema.specs.declared.key.Key.{Key}
use Rattle.snb_schema.specs.declared.key.Key.TheVariants.{Node, Knows, LikesPost, LikesComment, Member}
use Rattle.snb_schema.specs.declared.op.Line.{Line}
use Rattle.snb_schema.specs.declared.refusal.Missing.{Missing}
use Rattle.snb_schema.specs.declared.row.Row.{Row}
use Rattle.snb_schema.specs.declared.row.Row.TheVariants as row
use Rattle.snb_schema.specs.declared.table.Kind.{Kind}
use Rattle.snb_schema.specs.declared.table.Kind.TheVariants as kinds
use Rattle.snb_schema.specs.declared.table.Table.{Table}
use Rattle.snb_schema.specs.declared.table.Table.TheVariants as table
use Rattle.snb_schema.specs.Awaiting.{waits}
use Rattle.snb_schema.specs.Frequencies.{FrequencyTable}
use Rattle.snb_schema.specs.Inserts.{keys_of}
use Rattle.snb_schema.specs.QueryLists.{QueryLists}
use Rattle.snb_schema.specs.References.{added_node, ref, refs_of}
use Rattle.snb_schema.specs.RowKeys.{RowKey, named_key, row_key}
use Rattle.snb_history.specs.Schedule.{ComesBefore}
use Rattle.snb_graph_model.specs.Graphs.{HoldsKey}
use Rattle.snb_plan.specs.Closed.{IsClosed, IsClosedAt, IsMet, IsTaken, Update, is_in_lane}
use Rattle.snb_plan.specs.Plans.{IsPlan, IsRead, IsUpdate, Operation, Plan, first_t, update_from, update_operation, updates_in}
use Rattle.snb_plan.specs.Merging.{IsLineHere, PlacedLine, file_of, lane_of}
use Rattle.snb_trial.specs.Trial.{dataset, half, lane, lanes, trial_line}
use Rattle.snb_trial.proofs.Elements.{behind_it, before_it, given_in_order}
use Rattle.snb_trial.proofs.Numbered.{Rises}
use Rattle.snb_trial.proofs.Seven.{Comment, Forum, Friendship, IsLineIn, Like, Membership, Person, Post, Seven, at_t, entry_of, in_lanes, in_line, in_order, lane_is, lane_later, lane_number, later, line_in, of_lane}

-- ---- keys

-- the t of the update that takes the key of a message, by its id
abbrev message_t : ℕ → ℕ
message_t id = if id % 2 == 0 then 500 * id + 800 else 500 * id + 400

-- the t of the update that takes the key of a node
abbrev node_t : Kind → ℕ → ℕ
node_t kinds.Person id = 1000 * id
node_t kinds.Forum id = 1000 * id + 600
node_t kinds.Post id = message_t id
node_t kinds.Comment id = message_t id
node_t kind id = 0

-- the t of the update that takes a key
abbrev key_t : Key → ℕ
key_t (Node kind id) = node_t kind id
key_t (Knows low high) = 1000 * high + 500
key_t (LikesPost person post) = 500 * post + 950
key_t (LikesComment person comment) = 0
key_t (Member forum person) = 1000 * forum + 700

post_t : (i : ℕ) → message_t (2 * i) ≡ 1000 * i + 800
post_t i =
    let even : ((2 * i) % 2 == 0) ≡ true = eq-eqb ((2 * i) % 2) 0 (omega arith) in
    ap (λ (b : Bool). if b then 500 * (2 * i) + 800 else 500 * (2 * i) + 400) even ∙ (let e : 500 * (2 * i) + 800 ≡ 1000 * i + 800 = omega arith in e)

comment_t : (i : ℕ) → message_t (2 * i + 1) ≡ 1000 * i + 900
comment_t i =
    ap (λ (b : Bool). if b then 500 * (2 * i + 1) + 800 else 500 * (2 * i + 1) + 400) odd ∙ (let e : 500 * (2 * i + 1) + 400 ≡ 1000 * i + 900 = omega arith in e)
  where
    odd : ((2 * i + 1) % 2 == 0) ≡ false
    odd = elim (cases_Bool ((2 * i + 1) % 2 == 0)) [
      | inl same ↦ absurd (let e = eqb-true ((2 * i + 1) % 2) 0 same in omega (arith, e))
      | inr other ↦ other
    ]

-- the one key, or the two
only : (P : Key → Type 0) (k key : Key) → P k → Contains (k ∷ []) key → P key
only P k key p c = elim (contains_cases k [] key c) [ inl same ↦ subst P same p | inr none ↦ absurd (none_in key none) ]

both : (P : Key → Type 0) (k l key : Key) → P k → P l → Contains (k ∷ l ∷ []) key → P key
both P k l key p q c = elim (contains_cases k (l ∷ []) key c) [ inl same ↦ subst P same p | inr more ↦ only P l key q more ]

-- what holds of the keys of each of the seven
of_keys : (P : Key → Type 0) (i : ℕ)
    → P (Node kinds.Person i) → ((low : ℕ) → P (Knows low i)) → P (Node kinds.Forum i) → ((person : ℕ) → P (Member i person))
    → P (Node kinds.Post (2 * i)) → P (Node kinds.Comment (2 * i)) → P (Node kinds.Post (2 * i + 1)) → P (Node kinds.Comment (2 * i + 1))
    → ((person : ℕ) → P (LikesPost person (2 * i)))
    → (which : Seven) (key : Key) → Contains (keys_of (entry_of which i).op) key → P key
of_keys P i a b c d e f g h j Person key t = only P _ key a t
of_keys P i a b c d e f g h j Friendship key t =
    (let high : i ≡ max i (half i) = omega arith in only P (Knows (min i (half i)) (max i (half i))) key (subst (λ (k : ℕ). P (Knows (min i (half i)) k)) high (b (min i (half i)))) t)
of_keys P i a b c d e f g h j Forum key t = only P _ key c t
of_keys P i a b c d e f g h j Membership key t = only P _ key (d (half i)) t
of_keys P i a b c d e f g h j Post key t = both P _ _ key e f t
of_keys P i a b c d e f g h j Comment key t = both P _ _ key g h t
of_keys P i a b c d e f g h j Like key t = only P _ key (j (half i)) t

-- a table and an id of which the dataset has no key
abbrev IsFree : Table → ℕ → Type 0
IsFree table.Person id = 0 < id
IsFree table.Forum id = Unit {0}
IsFree table.Post id = Unit {0}
IsFree table.Comment id = Unit {0}
IsFree table.PersonKnowsPerson id = Unit {0}
IsFree table.PersonLikesPost id = Unit {0}
IsFree table.ForumHasMemberPerson id = Unit {0}
IsFree t id = ⊥

abbrev IsFreeKey : RowKey → Type 0
IsFreeKey k = IsFree k.0 k.1

keys_free : (which : Seven) (i : ℕ) (key : Key) → 1 ≤ i → Contains (keys_of (entry_of which i).op) key → IsFreeKey (named_key key)
keys_free which i key some c = of_keys (λ (k : Key). IsFreeKey (named_key k)) i some (λ low. tt) tt (λ person. tt) tt tt tt tt (λ person. tt) which key c

rows_not_free : (r : Row) → Contains dataset r → IsFreeKey (row_key r) → ⊥
rows_not_free r c =
    All-contains (λ (s : Row). IsFreeKey (row_key s) → ⊥) dataset r
    (All-from_recursion (λ (s : Row). IsFreeKey (row_key s) → ⊥) dataset
    (λ h. h, (λ h. h, (λ h. h, (λ h. h, (λ h. h, (λ h. omega (arith, h), (λ h. h, (λ h. h, (λ h. h, (λ h. h, tt)))))))))))
    c

not_held : (key : Key) → IsFreeKey (named_key key) → HoldsKey dataset key → ⊥
not_held key free h = rows_not_free h.it h.held (subst IsFreeKey (sym h.keyed) free)

keys_timed : (which : Seven) (i : ℕ) (key : Key) → Contains (keys_of (entry_of which i).op) key → key_t key ≡ (entry_of which i).t
keys_timed Person i key c = only (λ (k : Key). key_t k ≡ 1000 * i) _ key refl c
keys_timed Friendship i key c = only (λ (k : Key). key_t k ≡ 1000 * i + 500) (Knows (min i (half i)) (max i (half i))) key (omega arith) c
keys_timed Forum i key c = only (λ (k : Key). key_t k ≡ 1000 * i + 600) _ key refl c
keys_timed Membership i key c = only (λ (k : Key). key_t k ≡ 1000 * i + 700) _ key refl c
keys_timed Post i key c = both (λ (k : Key). key_t k ≡ 1000 * i + 800) _ _ key (post_t i) (post_t i) c
keys_timed Comment i key c = both (λ (k : Key). key_t k ≡ 1000 * i + 900) _ _ key (comment_t i) (comment_t i) c
keys_timed Like i key c = only (λ (k : Key). key_t k ≡ 1000 * i + 950) (LikesPost (half i) (2 * i)) key (omega arith) c

-- ---- nodes of the dataset

place_zero : HoldsKey dataset (Node kinds.Place 0)
place_zero = record { it = _; held = (0, omega arith, refl); keyed = refl }

place_one : HoldsKey dataset (Node kinds.Place 1)
place_one = record { it = get_or dataset 1 (get_or dataset 0 (row.Link table.PlaceIsPartOfPlace 0 1)); held = (1, omega arith, refl); keyed = refl }

person_zero : HoldsKey dataset (Node kinds.Person 0)
person_zero = record { it = get_or dataset 5 (row.Link table.PlaceIsPartOfPlace 0 1); held = (5, omega arith, refl); keyed = refl }

-- ---- times

pub waits_timely : (which : Seven) (i : ℕ) → waits (entry_of which i).op ≡ true → (entry_of which i).t_d < (entry_of which i).t
waits_timely Person i w = absurd cc
waits_timely Friendship i w = omega arith
waits_timely Forum i w = omega arith
waits_timely Membership i w = omega arith
waits_timely Post i w = omega arith
waits_timely Comment i w = omega arith
waits_timely Like i w = omega arith

-- lines of one t stand in one lane
line_t : (n l : ℕ) (x : Line) (in' : IsLineIn n l x) → (x.t ≡ 1000 * in'.i + later in'.which) × (later in'.which < 1000)
line_t n l x in' = (let t = at_t in'.which in'.i in (sym (ap (λ (y : Line). y.t) in'.is) ∙ t.0, t.1))

same_lane : (n l m : ℕ) (x y : Line) → IsLineIn n l x → IsLineIn n m y → x.t ≡ y.t → l ≡ m
same_lane n l m x y a b e =
    let s = line_t n l x a in
    let t = line_t n m y b in
    let s0 = s.0 in
    let s1 = s.1 in
    let t0 = t.0 in
    let t1 = t.1 in
    let same : a.i ≡ b.i = omega (arith, e, s0, s1, t0, t1) in
    let late : later a.which ≡ later b.which = omega (arith, e, s0, s1, t0, t1) in
    sym a.there ∙ (λ k. lane_later (late k) (same k)) ∙ b.there

-- ---- lines of the lanes

line_here : (n : ℕ) (p : PlacedLine) → IsLineHere (lanes n) p → IsLineIn n p.lane p.line
line_here n p is =
    let few : p.lane < 5 = is.in_lanes in
    line_in n p.lane p.line (subst (λ (xs : List Line). Contains xs p.line) (lane_is n p.lane few) (at_contains (lane_of (lanes n) p.lane) p.place p.line is.here))

-- of two lines in order the first has the smaller t
earlier : (n : ℕ) (p q : PlacedLine) → IsLineHere (lanes n) p → IsLineHere (lanes n) q
    → (p.line.t < q.line.t) ⊎ ((p.line.t ≡ q.line.t) × ((p.lane < q.lane) ⊎ ((p.lane ≡ q.lane) × (p.place < q.place))))
    → p.line.t < q.line.t
earlier n p q a b (inl lt) = lt
earlier n p q a b (inr (t, inl lt)) = absurd (let e = same_lane n p.lane q.lane p.line q.line (line_here n p a) (line_here n q b) t in omega (arith, e, lt))
earlier n p q a b (inr (t, inr (same, lt))) =
    let few : q.lane < 5 = b.in_lanes in
    let rise = subst (AllPairs Rises) (sym (lane_is n q.lane few)) (in_order q.lane n) in
    let there : slice_get (lane_of (lanes n) q.lane) p.place ≡ Some p.line = subst (λ (l : ℕ). slice_get (lane_of (lanes n) l) p.place ≡ Some p.line) same a.here in
    let less = rise p.place q.place p.line lt (slice_get_within (lane_of (lanes n) q.lane) q.place q.line b.here) in
    subst (λ (x : Line). x.t < q.line.t) (get_or_from_slice_get (lane_of (lanes n) q.lane) p.place p.line p.line there)
    (subst (λ (x : Line). (get_or (lane_of (lanes n) q.lane) p.place p.line).t < x.t) (get_or_from_slice_get (lane_of (lanes n) q.lane) q.place q.line p.line b.here) less)

-- ---- updates

abbrev update_of : Operation → Option Update
update_of o = update_from o.step o.work o.source

abbrev of_line : ℕ → PlacedLine → Update
of_line n p = record { lane = p.lane; file = file_of (lanes n) p.lane; line = p.line }

abbrev SoonerUpdate : Update → Update → Type 0
SoonerUpdate v w = v.line.t < w.line.t

module _ (n : ℕ) (asked : QueryLists) (frequencies : FrequencyTable) (ratio : ℕ) (plan : Plan) (is_plan : IsPlan (lanes n) asked frequencies ratio plan) where
  abbrev as_planned : PlacedLine → Operation
  as_planned p = update_operation (lanes n) ratio (first_t plan.operations) p

  -- an operation that is the update of a line
  record IsFrom (o : Operation) (v : Update) : Type 0 where
    line : PlacedLine
    of : IsLineHere (lanes n) line
    is : o ≡ as_planned line
    update : of_line n line ≡ v

  from_op : (o : Operation) (v : Update) → Contains plan.operations o → update_of o ≡ Some v → IsFrom o v
  from_op o v c e = by ((is_plan.numbered.those o).0 c)
    where
      by : IsUpdate (lanes n) ratio (first_t plan.operations) is_plan.updates o ⊎ IsRead (lanes n) asked ratio (first_t plan.operations) is_plan.updates is_plan.reads o → IsFrom o v
      by (inl (p, at, same)) = record { line = p; of = (is_plan.are_updates.those p).0 at; is = same; update = same_Some (of_line n p) v (sym (ap update_of same) ∙ e) }
      by (inr r) = absurd (let none = ap update_of r.is in let joined = sym none ∙ e in cc)

  -- the updates of a plan have rising t
  kept : (x z : Operation) (v w : Update) → Contains plan.operations x → Contains plan.operations z → ComesBefore x.step z.step → update_of x ≡ Some v → update_of z ≡ Some w → SoonerUpdate v w
  kept x z v w cx cz before ex ez =
      let a = from_op x v cx ex in
      let b = from_op z w cz ez in
      let steps : ComesBefore (as_planned a.line).step (as_planned b.line).step =
      subst (λ (o : Operation). ComesBefore o.step (as_planned b.line).step) a.is (subst (λ (o : Operation). ComesBefore x.step o.step) b.is before) in
      let less = earlier n a.line b.line a.of b.of steps in
      subst (λ (u : Update). u.line.t < w.line.t) a.update (subst (λ (u : Update). a.line.line.t < u.line.t) b.update less)

  updates_rise : AllPairs SoonerUpdate (updates_in plan)
  updates_rise = given_in_order update_of (λ (x z : Operation). ComesBefore x.step z.step) SoonerUpdate plan.operations kept is_plan.numbered.ordered

  -- an update of the plan is one of the seven
  ours : (u : Update) → Contains (updates_in plan) u → IsLineIn n u.lane u.line
  ours u c =
      let g = given_by update_of plan.operations u c in
      let f = from_op g.0 u g.1 g.2 in
      subst (λ (v : Update). IsLineIn n v.lane v.line) f.update (line_here n f.line f.of)

  -- and each of the seven is one of the plan
  record IsPresent (which : Seven) (i : ℕ) (v : Update) : Type 0 where
    at : Contains (updates_in plan) v
    lane : lane_number which i ≡ v.lane
    number : ℕ
    line : trial_line (number, entry_of which i) ≡ v.line

  present : (which : Seven) (i : ℕ) → 1 ≤ i → i ≤ n → (v : Update) × IsPresent which i v
  present which i some few =
      let l = lane_number which i in
      let there = in_line n i which some few in
      let x : Line = trial_line (there.0, entry_of which i) in
      let place = contains_at (lane (of_lane l) n) x there.1 in
      let p : PlacedLine = record { lane = l; place = place.0; line = x } in
      let in_five : l < 5 = in_lanes which i in
      let of : IsLineHere (lanes n) p = record { in_lanes = in_five; here = subst (λ (xs : List Line). slice_get xs place.0 ≡ Some x) (sym (lane_is n l in_five)) place.1 } in
      let o : Contains plan.operations (as_planned p) = (is_plan.numbered.those (as_planned p)).1 (inl (p, (is_plan.are_updates.those p).1 of, refl)) in (
        of_line n p,
        record { at = gives update_of plan.operations (as_planned p) (of_line n p) o refl; lane = refl; number = there.0; line = refl },
      )

  module _ (before : List Update) (u : Update) (after : List Update) (split : before ++ u ∷ after ≡ updates_in plan) where
    rise : AllPairs SoonerUpdate (before ++ u ∷ after)
    rise = subst (AllPairs SoonerUpdate) (sym split) updates_rise

    -- what is before has a smaller t, and what has a smaller t is before
    smaller : (v : Update) → Contains before v → v.line.t < u.line.t
    smaller v c = before_it SoonerUpdate before u after rise v c

    is_before : (v : Update) → Contains (updates_in plan) v → v.line.t < u.line.t → Contains before v
    is_before v c lt =
        elim (Contains-append_cases before (u ∷ after) v (subst (λ (vs : List Update). Contains vs v) (sym split) c)) [
          | inl front ↦ front
          | inr rest ↦ elim (contains_cases u after v rest) [
            | inl same ↦ absurd (let e = ap (λ (w : Update). w.line.t) same in omega (arith, lt, e))
            | inr back ↦ absurd (let later = behind_it SoonerUpdate before u after rise v back in omega (arith, lt, later))
          ]
        ]

    in_all : (v : Update) → Contains before v → Contains (updates_in plan) v
    in_all v c = subst (λ (vs : List Update). Contains vs v) split (Contains-append_left before (u ∷ after) v c)

    here : IsLineIn n u.lane u.line
    here = ours u (subst (λ (vs : List Update). Contains vs u) split (Contains-append_right before (u ∷ after) u (contains_here u after)))

    -- ---- its keys are new

    key_at : (v : Update) (key : Key) → IsLineIn n v.lane v.line → Contains (keys_of v.line.op) key → key_t key ≡ v.line.t
    key_at v key is c =
        subst (λ (x : Line). key_t key ≡ x.t) is.is (keys_timed is.which is.i key (subst (λ (x : Line). Contains (keys_of x.op) key) (sym is.is) c))

    new : ¬ IsTaken (HoldsKey dataset) before u
    new (key, c, inl held) = not_held key (keys_free here.which here.i key here.some (subst (λ (x : Line). Contains (keys_of x.op) key) (sym here.is) c)) held
    new (key, c, inr (v, at, d)) =
        let one = key_at u key here c in
        let other = key_at v key (ours v (in_all v at)) d in
        let less = smaller v at in
        omega (arith, one, other, less)

    -- ---- what it refers to is met

    abbrev Met : Missing → Type 0
    Met node = IsMet (HoldsKey dataset) (updates_in plan) before u node

    person_met : (p i : ℕ) → u.line.t_d ≡ 1000 * i → p ≤ i → i ≤ n → Met (ref kinds.Person p)
    person_met zero i e le few = inl person_zero
    person_met (suc p) i e le few =
        let v = present Person (suc p) (omega arith) (omega (arith, le, few)) in
        let t = ap (λ (x : Line). x.t) v.1.line in
        inr (inl (refl, (v.0, v.1.at, sym (ap (λ (x : Line). added_node x.op) v.1.line), omega (arith, t, e, le))))

    in_lane_met : (which : Seven) (i : ℕ) (node : Missing) → is_in_lane node.kind ≡ true → added_node (entry_of which i).op ≡ Some node → 1 ≤ i → i ≤ n
        → lane_number which i ≡ u.lane → (entry_of which i).t < u.line.t → Met node
    in_lane_met which i node kind adds some few same less =
        let v = present which i some few in
        let t = ap (λ (x : Line). x.t) v.1.line in
        inr (inr (kind, (v.0, is_before v.0 v.1.at (omega (arith, t, less)), sym v.1.lane ∙ same, sym (ap (λ (x : Line). added_node x.op) v.1.line) ∙ adds)))

    met_of : (which : Seven) (i : ℕ) → 1 ≤ i → i ≤ n → lane_number which i ≡ u.lane → (entry_of which i).t ≡ u.line.t → u.line.t_d ≡ (entry_of which i).t_d → All Met (refs_of (entry_of which i).op)
    met_of Person i some few l t e = All-from_recursion Met (ref kinds.Place 0 ∷ []) (inl place_zero, tt)
    met_of Friendship i some few l t e =
        All-from_recursion Met (ref kinds.Person i ∷ ref kinds.Person (half i) ∷ []) (person_met i i e (omega arith) few, (person_met (half i) i e (omega arith) few, tt))
    met_of Forum i some few l t e = All-from_recursion Met (ref kinds.Person i ∷ []) (person_met i i e (omega arith) few, tt)
    met_of Membership i some few l t e =
        All-from_recursion Met (ref kinds.Person (half i) ∷ ref kinds.Forum i ∷ [])
        (person_met (half i) i e (omega arith) few, (in_lane_met Forum i (ref kinds.Forum i) refl refl some few l (omega (arith, t)), tt))
    met_of Post i some few l t e =
        All-from_recursion Met (ref kinds.Person i ∷ ref kinds.Forum i ∷ ref kinds.Place 1 ∷ [])
        (person_met i i e (omega arith) few, (in_lane_met Forum i (ref kinds.Forum i) refl refl some few l (omega (arith, t)), (inl place_one, tt)))
    met_of Comment i some few l t e =
        All-from_recursion Met (ref kinds.Person (half i) ∷ ref kinds.Place 1 ∷ ref kinds.Post (2 * i) ∷ [])
        (person_met (half i) i e (omega arith) few, (inl place_one, (in_lane_met Post i (ref kinds.Post (2 * i)) refl refl some few l (omega (arith, t)), tt)))
    met_of Like i some few l t e =
        All-from_recursion Met (ref kinds.Person (half i) ∷ ref kinds.Post (2 * i) ∷ [])
        (person_met (half i) i e (omega arith) few, (in_lane_met Post i (ref kinds.Post (2 * i)) refl refl some few l (omega (arith, t)), tt))

    closed_at : IsClosedAt (HoldsKey dataset) (updates_in plan) before u
    closed_at = record {
      timely = subst (λ (x : Line). waits x.op ≡ true → x.t_d < x.t) here.is (waits_timely here.which here.i);
      new = new;
      met = subst (λ (x : Line). All Met (refs_of x.op)) here.is
          (met_of here.which here.i here.some here.few here.there (ap (λ (x : Line). x.t) here.is) (sym (ap (λ (x : Line). x.t_d) here.is)));
    }

  pub closed : IsClosed (HoldsKey dataset) (updates_in plan)
  closed = record { each = closed_at }
