-- A search from both ends of a walk.
use Rattle.std.proofs.Common.{◌≡◌, ◌↔◌, ◌⊎◌, ℕ, suc, ◌+◌, ◌-◌, ◌<◌, ◌≤◌, ◌==◌, Bool, true, false, not, cond, nat_eq, List, [], ◌∷◌, ◌++◌, length, min, Option, Some, None, refl, sym, ap, ◌∙◌, inl, inr, arith}
use Rattle.std.proofs.lemmas.Bool.{cases_lt, eqb-false, eqb-true, ne_eqb}
use Rattle.std.proofs.lemmas.List.Elements.{All-contains, All-cons, All-nil, All-push, Contains-append_left, Contains-push}
use Rattle.std.specs.HashMap.{HashMap, get, hash_map_len}
use Rattle.std.specs.List.{All, Contains}
use Rattle.std.specs.Map.{lookup}
use Rattle.std.specs.Option.{is_some}
use Rattle.snb_schema.specs.declared.row.Row.{Row}
use Rattle.snb_graph_model.specs.Around.{is_friend}
use Rattle.snb_read_model.specs.Distance.{IsDistance, IsPerson, FriendPath}
use Rattle.snb_reach.proofs.LevelLemmas.{one_key}
use Rattle.snb_reach.proofs.WalkLemmas.{last_step, no_step, walk_cut, walk_end, walk_joined, walk_turned}
use Rattle.snb_reach.specs.declared.sides.End.{End}
use Rattle.snb_reach.specs.Sides.{HasGrown, HasMarked, IsMeeting, IsSide, KeepsMark, SameOthers}

some_not_none : {X : Type 0} (o : Option X) (x : X) → o ≡ Some x → o ≡ None → ⊥
some_not_none o x e f = let clash : Some x ≡ None = sym e ∙ f in cc

-- nobody has both marks
pub two_marks : (o : Option Bool) (mark : Bool) → o ≡ Some mark → o ≡ Some (not mark) → ⊥
two_marks o true e f = let clash : Some true ≡ Some false = sym e ∙ f in cc
two_marks o false e f = let clash : Some false ≡ Some true = sym e ∙ f in cc

-- a mark is one's own, or the other
pub other_mark : (o : Option Bool) (mark by : Bool) → o ≡ Some by → (by ≡ mark) ⊎ (o ≡ Some (not mark))
other_mark o true true e = inl refl
other_mark o true false e = inr e
other_mark o false true e = inr e
other_mark o false false e = inl refl

-- what meeting somebody answers
pub met_other : (q : ℕ) (mark : Bool) (met met' : ℕ → Option Bool) (next next' : List ℕ) (other : Bool) → other ≡ true → HasMarked q mark met next other met' next' → met q ≡ Some (not mark)
met_other q mark met met' next next' true e h = h
met_other q mark met met' next next' false e h = cc

module _ (g : List Row) (start : ℕ) (mark : Bool) where
  module _ (level : ℕ) (met : ℕ → Option Bool) (next : List ℕ) (side : IsSide g start mark level level met next) where
    -- a friend of the level before is met
    pub marked : (p q m : ℕ) (met' : ℕ → Option Bool) (next' : List ℕ) → level ≡ suc m → FriendPath g start p m → is_friend g p q ≡ true → IsPerson g q
        → HasMarked q mark met next false met' next' → IsSide g start mark level level met' next' × KeepsMark mark met met' × SameOthers mark met met' × (met' q ≡ Some mark)
    marked p q m met' next' up walk knows is (inl (here, same, still)) = (
      record {
        reached = λ r e. rw still (side.reached r (sym (same r) ∙ e));
        near = λ r n w low. same r ∙ side.near r n w low;
        ends = rw still side.ends;
      },
      λ r e. same r ∙ e,
      λ r. (λ e. sym (same r) ∙ e, λ e. same r ∙ e),
      same q ∙ here,
    )
    marked p q m met' next' up walk knows is (inr (none, puts, more)) = (
      record {
        reached = λ r e. rw more (by_test r (q == r) refl (sym (puts r) ∙ e));
        near = λ r n w low. puts r ∙ kept r (q == r) refl (side.near r n w low);
        ends = rw more (All-push (λ r. FriendPath g start r level) next q side.ends there);
      },
      λ r e. puts r ∙ kept r (q == r) refl e,
      λ r. (λ e. others r (q == r) refl (sym (puts r) ∙ e), λ e. puts r ∙ others_back r (q == r) refl e),
      puts q ∙ own (q == q) refl,
    )
      where
        there : FriendPath g start q level
        there = rw up (FriendPath.step start p q m walk knows is)

        by_test : (r : ℕ) (b : Bool) → (q == r) ≡ b → cond b (Some mark) (met r) ≡ Some mark → ((n : ℕ) × FriendPath g start r n × (n < level)) ⊎ Contains (next ++ q ∷ []) r
        by_test r true same e = inr (rw (← eqb-true q r same) (Contains-push next q))
        by_test r false same e = elim (side.reached r e) [ inl h ↦ inl h | inr c ↦ inr (Contains-append_left next (q ∷ []) r c) ]

        kept : (r : ℕ) (b : Bool) → (q == r) ≡ b → met r ≡ Some mark → cond b (Some mark) (met r) ≡ Some mark
        kept r true same e = refl
        kept r false same e = e

        own : (b : Bool) → (q == q) ≡ b → cond b (Some mark) (met q) ≡ Some mark
        own true same = refl
        own false same = absurd (eqb-false q q same refl)

        others : (r : ℕ) (b : Bool) → (q == r) ≡ b → cond b (Some mark) (met r) ≡ Some (not mark) → met r ≡ Some (not mark)
        others r true same e = absurd (two_marks (Some mark) mark refl e)
        others r false same e = e

        others_back : (r : ℕ) (b : Bool) → (q == r) ≡ b → met r ≡ Some (not mark) → cond b (Some mark) (met r) ≡ Some (not mark)
        others_back r true same e = absurd (some_not_none (met q) (not mark) (let one : q ≡ r = eqb-true q r same in rw one e) none)
        others_back r false same e = e

  -- a level begins
  pub begins : (level m : ℕ) (met : ℕ → Option Bool) (last : List ℕ) → level ≡ suc m → IsSide g start mark m level met last → IsSide g start mark level level met []
  begins level m met last up side = record {
    reached = λ q e. elim (side.reached q e) [
      | inl (n, w, low) ↦ inl (n, w, omega arith)
      | inr c ↦ inl (m, All-contains (λ q. FriendPath g start q m) last q side.ends c, omega arith)
    ];
    near = side.near;
    ends = All-nil (λ q. FriendPath g start q level);
  }

  -- and ends, where all friends of the level before are met
  pub ends_level : (level m : ℕ) (met met' : ℕ → Option Bool) (last next : List ℕ) → level ≡ suc m → IsSide g start mark m level met last → IsSide g start mark level level met' next
      → All (λ p. (q : ℕ) → is_friend g p q ≡ true → met' q ≡ Some mark) last → IsSide g start mark level (level + 1) met' next
  ends_level level m met met' last next up before side all = record { reached = side.reached; near = near; ends = side.ends }
    where
      near : (q n : ℕ) → FriendPath g start q n → n < level + 1 → met' q ≡ Some mark
      near q n w low = elim (cases_lt n level) as (λ _. met' q ≡ Some mark) [
        | inl less ↦ side.near q n w less
        | inr more ↦ (let same : n ≡ suc m = omega arith in
            let (b, v, knows) = last_step g start q n w m same in
            elim (before.reached b (before.near b m v (omega arith))) as (λ _. met' q ≡ Some mark) [
              | inl (k, u, short) ↦ side.near q (suc k) (FriendPath.step start b q k u knows (walk_end g start q n w)) (omega arith)
              | inr c ↦ All-contains (λ p. (q : ℕ) → is_friend g p q ≡ true → met' q ≡ Some mark) last b all c q knows
            ])
      ]

  -- where nobody is the last, all who can be reached are met
  pub all_reached : (level : ℕ) (met : ℕ → Option Bool) (last : List ℕ) → last ≡ [] → IsSide g start mark level (level + 1) met last → (q n : ℕ) → FriendPath g start q n → met q ≡ Some mark
  all_reached level met last none side _ _ (FriendPath.stay _ is) = side.near start 0 (FriendPath.stay start is) (omega arith)
  all_reached level met last none side _ _ (FriendPath.step _ b q n w knows is) = elim (side.reached b (all_reached level met last none side b n w)) as (λ _. met q ≡ Some mark) [
    | inl (k, u, short) ↦ side.near q (suc k) (FriendPath.step start b q k u knows is) (omega arith)
    | inr c ↦ (let there : Contains [] b = rw none at c in absurd (omega (arith, there.1)))
  ]

  -- at first the start alone is met
  pub first_side : (met : ℕ → Option Bool) (last : List ℕ) → IsPerson g start → ((q : ℕ) → met q ≡ Some mark → q ≡ start) → met start ≡ Some mark → last ≡ start ∷ []
      → IsSide g start mark 0 1 met last
  first_side met last is one here only = record {
    reached = λ q e. inr (let same = one q e in rw (only, same) (0, omega arith, refl));
    near = λ q n w low. (let none : n ≡ 0 = omega arith in let same = no_step g start q n w none in rw same here);
    ends = rw only (All-cons (λ q. FriendPath g start q 0) start [] (FriendPath.stay start is) (All-nil (λ q. FriendPath g start q 0)));
  }

-- two searches, each of which has come so far
module _ (g : List Row) (a b : ℕ) (mark : Bool) (i j : ℕ) (met : ℕ → Option Bool) (mine theirs : List ℕ)
    (near : IsSide g a mark i (i + 1) met mine) (far : IsSide g b (not mark) j (j + 1) met theirs) where
  -- nobody is met from both ends, so no walk is as short as both levels together
  pub far_apart : IsPerson g b → (n : ℕ) → FriendPath g a b n → i + j < n
  far_apart held n w = elim (cases_lt (i + j) n) as (λ _. i + j < n) [
    | inl more ↦ more
    | inr low ↦ elim (cases_lt i n) as (λ _. i + j < n) [
      | inl long ↦ (let (r, v, u) = walk_cut g a b n i (omega arith) w in
          absurd (two_marks (met r) mark (near.near r i v (omega arith)) (far.near r (n - i) (walk_turned g r b (n - i) u) (omega arith))))
      | inr short ↦ absurd (two_marks (met b) mark (near.near b n w (omega arith)) (far.near b 0 (FriendPath.stay b held) (omega arith)))
    ]
  ]

  -- a step that meets somebody met from the other end finds the distance
  pub meeting_distance : (level : ℕ) → level ≡ i + 1 → IsPerson g b → IsMeeting g a mark level met → IsDistance g a b (level + j)
  meeting_distance level up held meeting = by_side (far.reached meeting.person meeting.other)
    where
      through : (k : ℕ) → k ≤ j → FriendPath g b meeting.person k → IsDistance g a b (level + j)
      through k low u =
          let whole = walk_joined g a meeting.person b level k meeting.walk (walk_turned g b meeting.person k u) in
          let apart = far_apart held (level + k) whole in
          let same : level + k ≡ level + j = omega arith in
          record { walk = rw (← same) whole; least = λ n w. (let above = far_apart held n w in omega arith) }

      by_side : ((k : ℕ) × FriendPath g b meeting.person k × (k < j)) ⊎ Contains theirs meeting.person → IsDistance g a b (level + j)
      by_side (inl (k, u, low)) = through k (omega arith) u
      by_side (inr c) = through j (omega arith) (All-contains (λ q. FriendPath g b q j) theirs meeting.person far.ends c)

  -- where one of them has nobody left, there is no walk
  pub no_walk_near : IsPerson g b → mine ≡ [] → (n : ℕ) → ¬ FriendPath g a b n
  no_walk_near held none n w = two_marks (met b) mark (all_reached g a mark i met mine none near b n w) (far.near b 0 (FriendPath.stay b held) (omega arith))

  pub no_walk_far : IsPerson g a → theirs ≡ [] → (n : ℕ) → ¬ FriendPath g a b n
  no_walk_far held none n w = two_marks (met a) mark (near.near a 0 (FriendPath.stay a held) (omega arith)) (all_reached g b (not mark) j met theirs none far a n (walk_turned g a b n w))

not_not : (b : Bool) → b ≡ not (not b)
not_not true = refl
not_not false = refl

-- a search from both ends: where each begins, its level, its mark and its last persons
pub record IsSearch (g : List Row) (from to a i : ℕ) (mark : Bool) (mine : List ℕ) (b j : ℕ) (other : Bool) (theirs : List ℕ) (met : ℕ → Option Bool) : Type 0 where
  pub marks : other ≡ not mark
  pub here : IsPerson g a
  pub there : IsPerson g b
  pub near : IsSide g a mark i (i + 1) met mine
  pub far : IsSide g b (not mark) j (j + 1) met theirs
  pub walks : (n : ℕ) → FriendPath g a b n ↔ FriendPath g from to n

module _ (g : List Row) (from to a i : ℕ) (mark : Bool) (mine : List ℕ) (b j : ℕ) (other : Bool) (theirs : List ℕ) (met : ℕ → Option Bool)
    (search_is : IsSearch g from to a i mark mine b j other theirs met) where
  -- either end may be the first
  pub search_turned : IsSearch g from to b j other theirs a i mark mine met
  search_turned = record {
    marks = rw search_is.marks (not_not mark);
    here = search_is.there;
    there = search_is.here;
    near = rw search_is.marks search_is.far;
    far = rw (search_is.marks, ← not_not mark) search_is.near;
    walks = λ n. (λ w. (search_is.walks n).0 (walk_turned g b a n w), λ w. walk_turned g a b n ((search_is.walks n).1 w));
  }

  -- the first takes a step
  pub search_grown : (level : ℕ) (met' : ℕ → Option Bool) (next : List ℕ) → level ≡ i + 1 → HasGrown g a mark level met met' next → IsSearch g from to a level mark next b j other theirs met'
  search_grown level met' next up grown = record {
    marks = search_is.marks;
    here = search_is.here;
    there = search_is.there;
    near = grown.side;
    far = record {
      reached = λ q e. search_is.far.reached q ((grown.others q).0 e);
      near = λ q n w low. (grown.others q).1 (search_is.far.near q n w low);
      ends = search_is.far.ends;
    };
    walks = search_is.walks;
  }

  -- or meets somebody met from the other end
  pub search_meets : (level : ℕ) → level ≡ i + 1 → IsMeeting g a mark level met → IsDistance g from to (level + j)
  search_meets level up meeting =
      let d = meeting_distance g a b mark i j met mine theirs search_is.near search_is.far level up search_is.there meeting in
      record { walk = (search_is.walks (level + j)).0 d.walk; least = λ n w. d.least n ((search_is.walks n).1 w) }

  -- or one of them has nobody left
  pub search_ends : (mine ≡ []) ⊎ (theirs ≡ []) → (n : ℕ) → ¬ FriendPath g from to n
  search_ends (inl none) n w = no_walk_near g a b mark i j met mine theirs search_is.near search_is.far search_is.there none n ((search_is.walks n).1 w)
  search_ends (inr none) n w = no_walk_far g a b mark i j met mine theirs search_is.near search_is.far search_is.here none n ((search_is.walks n).1 w)

-- at first the two persons alone are met
pub search_begins : (g : List Row) (from to : ℕ) (met : ℕ → Option Bool) (mine theirs : List ℕ) → ¬ (from ≡ to) → IsPerson g from → IsPerson g to
    → ((q : ℕ) → met q ≡ cond (to == q) (Some false) (cond (from == q) (Some true) None)) → mine ≡ from ∷ [] → theirs ≡ to ∷ []
    → IsSearch g from to from 0 true mine to 0 false theirs met
search_begins g from to met mine theirs apart here there puts is are = record {
  marks = refl;
  here = here;
  there = there;
  near = first_side g from true met mine here (λ q e. first_of_two q (to == q) (from == q) refl (sym (puts q) ∙ e)) (puts from ∙ first_here (to == from) (from == from) refl refl) is;
  far = first_side g to false met theirs there (λ q e. second_of_two q (to == q) (from == q) refl (sym (puts q) ∙ e)) (puts to ∙ second_here (to == to) refl) are;
  walks = λ n. (λ w. w, λ w. w);
}
  where
    first_of_two : (q : ℕ) (t f : Bool) → (from == q) ≡ f → ◌≡◌ {A = Option Bool} (cond t (Some false) (cond f (Some true) None)) (Some true) → q ≡ from
    first_of_two q true f at e = cc
    first_of_two q false true at e = sym (eqb-true from q at)
    first_of_two q false false at e = cc

    second_of_two : (q : ℕ) (t f : Bool) → (to == q) ≡ t → ◌≡◌ {A = Option Bool} (cond t (Some false) (cond f (Some true) None)) (Some false) → q ≡ to
    second_of_two q true f at e = sym (eqb-true to q at)
    second_of_two q false true at e = cc
    second_of_two q false false at e = cc

    first_here : (t f : Bool) → (to == from) ≡ t → (from == from) ≡ f → ◌≡◌ {A = Option Bool} (cond t (Some false) (cond f (Some true) None)) (Some true)
    first_here true f at same = absurd (apart (sym (eqb-true to from at)))
    first_here false true at same = refl
    first_here false false at same = absurd (eqb-false from from same refl)

    second_here : (t : Bool) → (to == to) ≡ t → ◌≡◌ {A = Option Bool} (cond t (Some false) (cond (from == to) (Some true) None)) (Some false)
    second_here true same = refl
    second_here false same = absurd (eqb-false to to same refl)

-- the same, as the ends of a search that has met both have it
pub search_starts : (g : List Row) (from to : ℕ) (met : ℕ → Option Bool) (a i : ℕ) (mark : Bool) (mine : List ℕ) (b j : ℕ) (other : Bool) (theirs : List ℕ) → ¬ (from ≡ to) → IsPerson g from → IsPerson g to
    → ((q : ℕ) → met q ≡ cond (to == q) (Some false) (cond (from == q) (Some true) None)) → (a ≡ from) × (mark ≡ true) × (i ≡ 0) × (mine ≡ from ∷ []) → (b ≡ to) × (other ≡ false) × (j ≡ 0) × (theirs ≡ to ∷ [])
    → IsSearch g from to a i mark mine b j other theirs met
search_starts g from to met a i mark mine b j other theirs apart here there puts (e, f, h, k) (e', f', h', k') = rw (e, f, h, e', f', h') (search_begins g from to met mine theirs apart here there puts k k')

-- a map with two keys
module _ {S : Type 0} (m n o : HashMap ℕ Bool S) (a b : ℕ) (empty : m.entries ≡ []) (puts : (q : ℕ) → get nat_eq n q ≡ cond (nat_eq a q) (Some true) (get nat_eq m q)) where
  pub two_keys : ((q : ℕ) → get nat_eq o q ≡ cond (nat_eq b q) (Some false) (get nat_eq n q)) → (q : ℕ) → get nat_eq o q ≡ cond (b == q) (Some false) (cond (a == q) (Some true) None)
  two_keys puts' q = puts' q ∙ ap (λ (v : Option Bool). cond (b == q) (Some false) v) (one_key m n a true empty puts q)

  pub two_len : (old old' : Option Bool) → ¬ (a ≡ b) → old ≡ get nat_eq m a → hash_map_len n ≡ hash_map_len m + cond (is_some old) 0 1 → old' ≡ get nat_eq n b → hash_map_len o ≡ hash_map_len n + cond (is_some old') 0 1
      → 2 ≤ hash_map_len o
  two_len old old' apart was more was' more' =
      let none : old ≡ None = was ∙ ap (λ (es : List (ℕ × Bool)). lookup (nat_eq a) es) empty in
      let none' : old' ≡ None = was' ∙ one_key m n a true empty puts b ∙ ap (λ (t : Bool). cond t (Some true) None) (ne_eqb a b apart) in
      let one = rw none at more in
      let two = rw none' at more' in
      omega (arith, one, two)

-- a search with persons to go on from at both ends
pub record IsReady (g : List Row) (from to : ℕ) (near far : End) (met : ℕ → Option Bool) (count : ℕ) : Type 0 where
  pub search_is : IsSearch g from to near.start near.level near.mark near.last.items far.start far.level far.mark far.last.items met
  pub small : near.level + far.level + 2 ≤ count

-- whichever end is put first
pub ready : (g : List Row) (from to : ℕ) (near far near' far' : End) (met : ℕ → Option Bool) (count : ℕ) → ((near' ≡ near) × (far' ≡ far)) ⊎ ((near' ≡ far) × (far' ≡ near))
    → IsSearch g from to near.start near.level near.mark near.last.items far.start far.level far.mark far.last.items met
    → near.level + far.level + min 1 (length near.last.items) + min 1 (length far.last.items) ≤ count → 0 < length near.last.items → 0 < length far.last.items → IsReady g from to near' far' met count
ready g from to near far near' far' met count (inl (e, f)) search_is low some others = rw (e, f) (record { search_is = search_is; small = omega (arith, low, some, others) })
ready g from to near far near' far' met count (inr (e, f)) search_is low some others =
    rw (e, f) (record { search_is = search_turned g from to _ _ _ _ _ _ _ _ met search_is; small = omega (arith, low, some, others) })
