-- The seven updates of each i, and where they stand.
use Rattle.std.proofs.Common.{◌≡◌, ◌∷◌, ◌∙◌, ℕ, zero, suc, ◌+◌, ◌*◌, ◌%◌, ◌<◌, ◌≤◌, Bool, true, false, List, [], inl, inr, refl, sym, ap, subst, arith}
use Rattle.std.specs.Prelude.{◌++◌, ◌==◌, if◌then◌else◌, slice_index_or}
use Rattle.std.specs.List.{AllPairs, Contains, flat_map, range_with_len}
use Rattle.std.proofs.lemmas.Bool.{cases_Bool, cases_eq, eq-eqb, eqb-true, false≢true}
use Rattle.std.proofs.lemmas.List.Elements.{All-from_recursion}
use Rattle.std.proofs.lemmas.List.Kept.{AllPairs-cons}
use Rattle.snb_base.proofs.Laws.{contains_cases, contains_here, none_in, pairs_none}
use Rattle.snb_schema.specs.declared.op.Line.{Line}
use Rattle.snb_trial.specs.Trial.{TrialInsert, comment, forum, forum_lane, friendship, lane, lanes, like, trial_line, membership, person, person_lane, post}
use Rattle.snb_trial.proofs.Numbered.{AreTimed, Rises, Sooner, entry_line, lane_rises, line_entry}
use Rattle.snb_trial.proofs.Elements.{from_range, to_range}

-- which of the seven
pub data Seven : Type 0 where
  Person : Seven
  Friendship : Seven
  Forum : Seven
  Membership : Seven
  Post : Seven
  Comment : Seven
  Like : Seven

abbrev pub entry_of : Seven → ℕ → TrialInsert
entry_of Person i = person i
entry_of Friendship i = friendship i
entry_of Forum i = forum i
entry_of Membership i = membership i
entry_of Post i = post i
entry_of Comment i = comment i
entry_of Like i = like i

-- how much later than 1000 i
abbrev pub later : Seven → ℕ
later Person = 0
later Friendship = 500
later Forum = 600
later Membership = 700
later Post = 800
later Comment = 900
later Like = 950

-- the number of its lane, by how much later it is
abbrev pub lane_later : ℕ → ℕ → ℕ
lane_later late i = if late == 0 then i % 2 else if late == 500 then (i + 1) % 2 else suc (suc (i % 3))

abbrev pub lane_number : Seven → ℕ → ℕ
lane_number which i = lane_later (later which) i

pub at_t : (which : Seven) (i : ℕ) → ((entry_of which i).t ≡ 1000 * i + later which) × (later which < 1000)
at_t Person i = (omega arith, omega arith)
at_t Friendship i = (refl, omega arith)
at_t Forum i = (refl, omega arith)
at_t Membership i = (refl, omega arith)
at_t Post i = (refl, omega arith)
at_t Comment i = (refl, omega arith)
at_t Like i = (refl, omega arith)

pub in_lanes : (which : Seven) (i : ℕ) → lane_number which i < 5
in_lanes Person i = omega arith
in_lanes Friendship i = omega arith
in_lanes Forum i = omega arith
in_lanes Membership i = omega arith
in_lanes Post i = omega arith
in_lanes Comment i = omega arith
in_lanes Like i = omega arith

-- what the lane of a number has of an i
abbrev pub of_lane : ℕ → ℕ → List TrialInsert
of_lane zero = person_lane 0
of_lane (suc zero) = person_lane 1
of_lane (suc (suc k)) = forum_lane k

-- ---- what a lane has of an i is some of the seven

-- the update is one of the seven of i, which stands in this lane
pub record IsOneOf (l i : ℕ) (e : TrialInsert) : Type 0 where
  pub which : Seven
  pub is : entry_of which i ≡ e
  pub there : lane_number which i ≡ l

next_lane : (k i : ℕ) → k < 2 → (i % 2 == k) ≡ false → (i + 1) % 2 ≡ k
next_lane k i lt q = elim (cases_eq (i % 2) k) [
  | inl same ↦ absurd (false≢true (sym q ∙ eq-eqb (i % 2) k same))
  | inr differ ↦ omega (arith, lt, differ)
]

person_of : (k i : ℕ) (e : TrialInsert) → k < 2 → Contains (person_lane k i) e → IsOneOf k i e
person_of k i e lt c = by (i % 2 == k) refl c
  where
    by : (b : Bool) → (i % 2 == k) ≡ b → Contains ((if b then person i else friendship i) ∷ []) e → IsOneOf k i e
    by true q d =
        elim (contains_cases (person i) [] e d) [
          | inl same ↦ record { which = Person; is = same; there = eqb-true (i % 2) k q }
          | inr none ↦ absurd (none_in e none)
        ]
    by false q d =
        elim (contains_cases (friendship i) [] e d) [
          | inl same ↦ record { which = Friendship; is = same; there = next_lane k i lt q }
          | inr none ↦ absurd (none_in e none)
        ]

forum_of : (k i : ℕ) (e : TrialInsert) → Contains (forum_lane k i) e → IsOneOf (suc (suc k)) i e
forum_of k i e c = by (i % 3 == k) refl c
  where
    by : (b : Bool) → (i % 3 == k) ≡ b → Contains (if b then forum i ∷ membership i ∷ post i ∷ comment i ∷ like i ∷ [] else []) e → IsOneOf (suc (suc k)) i e
    by false q d = absurd (none_in e d)
    by true q d =
        let there : suc (suc (i % 3)) ≡ suc (suc k) = ap (λ (n : ℕ). suc (suc n)) (eqb-true (i % 3) k q) in
        elim (contains_cases (forum i) (membership i ∷ post i ∷ comment i ∷ like i ∷ []) e d) [
          | inl same ↦ record { which = Forum; is = same; there = there }
          | inr d ↦ elim (contains_cases (membership i) (post i ∷ comment i ∷ like i ∷ []) e d) [
            | inl same ↦ record { which = Membership; is = same; there = there }
            | inr d ↦ elim (contains_cases (post i) (comment i ∷ like i ∷ []) e d) [
              | inl same ↦ record { which = Post; is = same; there = there }
              | inr d ↦ elim (contains_cases (comment i) (like i ∷ []) e d) [
                | inl same ↦ record { which = Comment; is = same; there = there }
                | inr d ↦ elim (contains_cases (like i) [] e d) [
                  | inl same ↦ record { which = Like; is = same; there = there }
                  | inr none ↦ absurd (none_in e none)
                ]
              ]
            ]
          ]
        ]

pub one_of : (l i : ℕ) (e : TrialInsert) → Contains (of_lane l i) e → IsOneOf l i e
one_of zero i e c = person_of 0 i e (omega arith) c
one_of (suc zero) i e c = person_of 1 i e (omega arith) c
one_of (suc (suc k)) i e c = forum_of k i e c

-- ---- and each of the seven stands in its lane

person_here : (k i : ℕ) → i % 2 ≡ k → Contains (person_lane k i) (person i)
person_here k i e = subst (λ (b : Bool). Contains ((if b then person i else friendship i) ∷ []) (person i)) (sym (eq-eqb (i % 2) k e)) (contains_here (person i) [])

friend_here : (k i : ℕ) → (i + 1) % 2 ≡ k → Contains (person_lane k i) (friendship i)
friend_here k i e = subst (λ (b : Bool). Contains ((if b then person i else friendship i) ∷ []) (friendship i)) (sym other) (contains_here (friendship i) [])
  where
    other : (i % 2 == k) ≡ false
    other = elim (cases_Bool (i % 2 == k)) [
      | inl same ↦ absurd (let q = eqb-true (i % 2) k same in omega (arith, q, e))
      | inr miss ↦ miss
    ]

forums_here : (i : ℕ) (e : TrialInsert) → Contains (forum i ∷ membership i ∷ post i ∷ comment i ∷ like i ∷ []) e → Contains (forum_lane (i % 3) i) e
forums_here i e c =
    subst (λ (b : Bool). Contains (if b then forum i ∷ membership i ∷ post i ∷ comment i ∷ like i ∷ [] else []) e) (sym (eq-eqb (i % 3) (i % 3) refl)) c

persons_here : (e : TrialInsert) (i l : ℕ) → l < 2 → ((k : ℕ) → l ≡ k → Contains (person_lane k i) e) → Contains (of_lane l i) e
persons_here e i zero lt here = here 0 refl
persons_here e i (suc zero) lt here = here 1 refl
persons_here e i (suc (suc l)) lt here = absurd (omega (arith, lt))

pub one_here : (which : Seven) (i : ℕ) → Contains (of_lane (lane_number which i) i) (entry_of which i)
one_here Person i = persons_here (person i) i (i % 2) (omega arith) (λ k e. person_here k i e)
one_here Friendship i = persons_here (friendship i) i ((i + 1) % 2) (omega arith) (λ k e. friend_here k i e)
one_here Forum i = forums_here i (forum i) (0, omega arith, refl)
one_here Membership i = forums_here i (membership i) (1, omega arith, refl)
one_here Post i = forums_here i (post i) (2, omega arith, refl)
one_here Comment i = forums_here i (comment i) (3, omega arith, refl)
one_here Like i = forums_here i (like i) (4, omega arith, refl)

-- ---- in order

single : (e : TrialInsert) → AllPairs Sooner (e ∷ [])
single e i j d below lt = absurd (omega (arith, below, lt))

five_rise : (i : ℕ) → AllPairs Sooner (forum i ∷ membership i ∷ post i ∷ comment i ∷ like i ∷ [])
five_rise i =
    AllPairs-cons Sooner (forum i) (membership i ∷ post i ∷ comment i ∷ like i ∷ []) (All-from_recursion (Sooner (forum i)) (membership i ∷ post i ∷ comment i ∷ like i ∷ []) (omega arith, (omega arith, (omega arith, (omega arith, tt)))))
    (AllPairs-cons Sooner (membership i) (post i ∷ comment i ∷ like i ∷ []) (All-from_recursion (Sooner (membership i)) (post i ∷ comment i ∷ like i ∷ []) (omega arith, (omega arith, (omega arith, tt))))
    (AllPairs-cons Sooner (post i) (comment i ∷ like i ∷ []) (All-from_recursion (Sooner (post i)) (comment i ∷ like i ∷ []) (omega arith, (omega arith, tt)))
    (AllPairs-cons Sooner (comment i) (like i ∷ []) (All-from_recursion (Sooner (comment i)) (like i ∷ []) (omega arith, tt)) (single (like i)))))

lane_in_order : (l i : ℕ) → AllPairs Sooner (of_lane l i)
lane_in_order zero i = single _
lane_in_order (suc zero) i = single _
lane_in_order (suc (suc k)) i = by (i % 3 == k)
  where
    by : (b : Bool) → AllPairs Sooner (if b then forum i ∷ membership i ∷ post i ∷ comment i ∷ like i ∷ [] else [])
    by true = five_rise i
    by false = pairs_none Sooner

lane_timed : (l : ℕ) → AreTimed (of_lane l)
lane_timed l = record {
  rise = lane_in_order l;
  within = λ i e c.
      let one = one_of l i e c in
      let t = at_t one.which i in
      let at : (entry_of one.which i).t ≡ e.t = ap (λ (x : TrialInsert). x.t) one.is in
      let same = t.0 in
      let less = t.1 in
      (omega (arith, at, same), omega (arith, at, same, less));
}

pub in_order : (l n : ℕ) → AllPairs Rises (lane (of_lane l) n)
in_order l n = lane_rises (of_lane l) n (lane_timed l)

-- ---- lines

-- the line is one of the seven of an i from 1 to n, and stands in this lane
pub record IsLineIn (n l : ℕ) (x : Line) : Type 0 where
  pub which : Seven
  pub i : ℕ
  pub number : ℕ
  pub some : 1 ≤ i
  pub few : i ≤ n
  pub is : trial_line (number, entry_of which i) ≡ x
  pub there : lane_number which i ≡ l

pub line_in : (n l : ℕ) (x : Line) → Contains (lane (of_lane l) n) x → IsLineIn n l x
line_in n l x c =
    let w = line_entry 1 (flat_map (of_lane l) (range_with_len 1 n)) x c in
    let r = from_range (of_lane l) 1 n w.0 w.2 in
    let one = one_of l r.0 w.0 r.3 in
    let high = r.2 in
    record {
      which = one.which;
      i = r.0;
      number = w.1;
      some = r.1;
      few = omega (arith, high);
      is = ap (λ (e : TrialInsert). trial_line (w.1, e)) one.is ∙ w.3;
      there = one.there;
    }

pub in_line : (n i : ℕ) (which : Seven) → 1 ≤ i → i ≤ n → (number : ℕ) × Contains (lane (of_lane (lane_number which i)) n) (trial_line (number, entry_of which i))
in_line n i which some few =
    entry_line 1 (flat_map (of_lane (lane_number which i)) (range_with_len 1 n)) (entry_of which i)
    (to_range (of_lane (lane_number which i)) 1 n i (entry_of which i) some (omega (arith, few)) (one_here which i))

-- the lane of a number
pub lane_is : (n l : ℕ) → l < 5 → slice_index_or ((lanes n).persons ++ (lanes n).forums) l [] ≡ lane (of_lane l) n
lane_is n zero lt = refl
lane_is n (suc zero) lt = refl
lane_is n (suc (suc zero)) lt = refl
lane_is n (suc (suc (suc zero))) lt = refl
lane_is n (suc (suc (suc (suc zero)))) lt = refl
lane_is n (suc (suc (suc (suc (suc l))))) lt = absurd (omega (arith, lt))
