-- Marking step by step.
use Rattle.std.proofs.Common.{◌≡◌, ◌↔◌, ℕ, zero, suc, ◌⊎◌, List, [], ◌∷◌, ◌++◌, length, refl, sym, ap, ◌∙◌, subst, inl, inr, arith}
use Rattle.std.specs.List.{Contains}
use Rattle.std.proofs.lemmas.List.Elements.{Contains-append_cases, Contains-append_left, Contains-append_right}
use Rattle.snb_graph_rows.specs.Pairs.{HasPair, HasAdded, ArePairsOf}
use Rattle.snb_graph_integrity.specs.Marks.{ReachedIn, IsReached, IsMarked, AreReached, IsMarking, HasChildren}
use Rattle.snb_base.proofs.Laws.{contains_cases, contains_here, contains_there}

-- an element of a list with one more at its end
pub last_cases : (xs : List ℕ) (y x : ℕ) → Contains (xs ++ y ∷ []) x → Contains xs x ⊎ (y ≡ x)
last_cases xs y x c =
    elim (Contains-append_cases xs (y ∷ []) x c) [
      | inl h ↦ inl h
      | inr h ↦ elim (contains_cases y [] x h) [ inl e ↦ inr e | inr n ↦ absurd (omega (arith, n.1)) ]
    ]

-- in the end all that is reached is marked
pub marking_ended : (es : List ((ℕ × ℕ) × ℕ)) (roots : List ℕ) (marks : List ((ℕ × ℕ) × ℕ)) → IsMarking es roots marks [] → AreReached es roots marks
marking_ended es roots marks is c = (λ m. is.reached c (inl m), λ r. by r.0 c r.1)
  where
    settled : (c : ℕ) → IsMarked marks c ⊎ Contains [] c → IsMarked marks c
    settled c (inl m) = m
    settled c (inr h) = absurd (omega (arith, h.1))

    by : (n c : ℕ) → ReachedIn es roots n c → IsMarked marks c
    by zero c r = settled c (is.begun c r)
    by (suc n) c r = settled c (is.closed r.0 c r.1 (by n r.0 r.3) r.2)

-- an id that is marked already
pub marking_passed : (es : List ((ℕ × ℕ) × ℕ)) (roots : List ℕ) (marks : List ((ℕ × ℕ) × ℕ)) (ahead : List ℕ) (id : ℕ) → IsMarked marks id → IsMarking es roots marks (ahead ++ id ∷ []) → IsMarking es roots marks ahead
marking_passed es roots marks ahead id marked is = record {
  reached = λ c or. is.reached c (elim or [ inl m ↦ inl m | inr h ↦ inr (Contains-append_left ahead (id ∷ []) c h) ]);
  begun = λ c h. less c (is.begun c h);
  closed = λ p c d m h. less c (is.closed p c d m h);
}
  where
    less : (c : ℕ) → IsMarked marks c ⊎ Contains (ahead ++ id ∷ []) c → IsMarked marks c ⊎ Contains ahead c
    less c (inl m) = inl m
    less c (inr h) = elim (last_cases ahead id c h) [ inl t ↦ inr t | inr e ↦ inl (subst (IsMarked marks) e marked) ]

-- an id that is marked now
pub marking_more : (es : List ((ℕ × ℕ) × ℕ)) (roots : List ℕ) (marks more : List ((ℕ × ℕ) × ℕ)) (ahead next : List ℕ) (id : ℕ) → HasAdded marks id 0 0 more → HasChildren es id ahead next → IsMarking es roots marks (ahead ++ id ∷ []) → IsMarking es roots more next
marking_more es roots marks more ahead next id added children is = record {
  reached = λ c or. elim or [
    | inl m ↦ elim ((added ((c, 0), m.0)).0 m.1) [ inl o ↦ is.reached c (inl (m.0, o)) | inr e ↦ subst (IsReached es roots) (ap (λ (x : (ℕ × ℕ) × ℕ). x.0.0) e) here ]
    | inr h ↦ elim ((children c).0 h) [ inl t ↦ is.reached c (inr (Contains-append_left ahead (id ∷ []) c t)) | inr pair ↦ (suc here.0, (id, pair.0, pair.1, here.1)) ]
  ];
  begun = λ c h. now c (is.begun c h);
  closed = λ p c d m h. elim ((added ((p, 0), m.0)).0 m.1) [
    | inl o ↦ now c (is.closed p c d (m.0, o) h)
    | inr e ↦ inr ((children c).1 (inr (d, subst (λ q. HasPair es q c d) (sym (ap (λ (x : (ℕ × ℕ) × ℕ). x.0.0) e)) h)))
  ];
}
  where
    here : IsReached es roots id
    here = is.reached id (inr (Contains-append_right ahead (id ∷ []) id (contains_here id [])))

    now : (c : ℕ) → IsMarked marks c ⊎ Contains (ahead ++ id ∷ []) c → IsMarked more c ⊎ Contains next c
    now c (inl m) = inl (m.0, (added ((c, 0), m.0)).1 (inl m.1))
    now c (inr h) = elim (last_cases ahead id c h) [
      | inl t ↦ inr ((children c).1 (inl t))
      | inr e ↦ inl (0, (added ((c, 0), 0)).1 (inr (λ i. ((e i, 0), 0))))
    ]

-- ---- the ids of an id's pairs

-- an id is among those of some pairs
abbrev pub IsAmong : List ((ℕ × ℕ) × ℕ) → ℕ → Type 0
IsAmong ps c = (e : (ℕ × ℕ) × ℕ) × Contains ps e × (e.0.1 ≡ c)

-- what is in the list or is still to come
abbrev pub IsPushing : List ((ℕ × ℕ) × ℕ) → List ℕ → List ((ℕ × ℕ) × ℕ) → List ℕ → Type 0
IsPushing all old left now = (c : ℕ) → (Contains now c ⊎ IsAmong left c) ↔ (Contains old c ⊎ IsAmong all c)

pub pushing_more : (all : List ((ℕ × ℕ) × ℕ)) (old : List ℕ) (left : List ((ℕ × ℕ) × ℕ)) (now : List ℕ) (e : (ℕ × ℕ) × ℕ) (rest : List ((ℕ × ℕ) × ℕ)) → left ≡ e ∷ rest → IsPushing all old left now → IsPushing all old rest (now ++ e.0.1 ∷ [])
pushing_more all old left now e rest is pushing c = (
  λ or. (pushing c).0 (elim or [
    | inl h ↦ elim (last_cases now e.0.1 c h) [ inl t ↦ inl t | inr same ↦ inr (e, subst (λ l. Contains l e) (sym is) (contains_here e rest), same) ]
    | inr a ↦ inr (a.0, subst (λ l. Contains l a.0) (sym is) (contains_there e rest a.0 a.1), a.2)
  ]),
  λ h. elim ((pushing c).1 h) [
    | inl t ↦ inl (Contains-append_left now (e.0.1 ∷ []) c t)
    | inr a ↦ elim (contains_cases e rest a.0 (subst (λ l. Contains l a.0) is a.1)) [
      | inl same ↦ inl (subst (Contains (now ++ e.0.1 ∷ [])) (ap (λ (x : (ℕ × ℕ) × ℕ). x.0.1) same ∙ a.2) (Contains-append_right now (e.0.1 ∷ []) e.0.1 (contains_here e.0.1 [])))
      | inr later ↦ inr (a.0, later, a.2)
    ]
  ],
)

pub pushing_ended : (es : List ((ℕ × ℕ) × ℕ)) (of : ℕ) (all : List ((ℕ × ℕ) × ℕ)) (old : List ℕ) (left : List ((ℕ × ℕ) × ℕ)) (now : List ℕ) → left ≡ [] → ArePairsOf es of all → IsPushing all old left now → HasChildren es of old now
pushing_ended es of all old left now none pairs pushing c = (
  λ h. elim ((pushing c).0 (inl h)) [
    | inl t ↦ inl t
    | inr a ↦ let p = (pairs.same a.0).0 a.1 in inr (a.0.1, subst (Contains es) (λ i. ((p.1 i, a.2 i), a.0.1)) p.0)
  ],
  λ or. elim ((pushing c).1 (elim or [ inl t ↦ inl t | inr pair ↦ inr (((of, c), pair.0), (pairs.same ((of, c), pair.0)).1 (pair.1, refl), refl) ])) [
    | inl t ↦ t
    | inr a ↦ absurd (let c = subst (λ l. Contains l a.0) none a.1 in omega (arith, c.1))
  ],
)

pub none_left : (xs : List ℕ) → length xs ≡ 0 → xs ≡ []
none_left [] e = refl
none_left (x ∷ xs) e = absurd (omega (arith, e))
