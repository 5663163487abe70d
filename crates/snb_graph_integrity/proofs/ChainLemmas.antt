-- The chains of comments' parents, as marks reach them.
use Rattle.std.proofs.Common.{◌≡◌, ◌↔◌, ◌≤◌, ℕ, zero, suc, ◌⊎◌, inl, inr, List, [], ◌∷◌, ◌++◌, Bool, false, IsTrue, refl, sym, ap, ◌∙◌, subst, arith}
use Rattle.std.proofs.lemmas.List.Elements.{All-head, All-rest, Contains-append_left, Contains-append_right}
use Rattle.std.specs.List.{All, Contains}
use Rattle.std.specs.List.Sorted.{IsStrictlySortedBy}
use Rattle.std.specs.Ordering.{nat_cmp, ordering_then}
use Rattle.std.specs.declared.cmp.Ordering.TheVariants.{Less}
use Rattle.snb_schema.specs.declared.layout.Shape.TheVariants as shapes
use Rattle.snb_schema.specs.declared.row.Row.{Row}
use Rattle.snb_schema.specs.declared.row.Row.TheVariants as row
use Rattle.snb_schema.specs.declared.table.Kind.TheVariants as kinds
use Rattle.snb_schema.specs.declared.table.Table.{Table}
use Rattle.snb_schema.specs.declared.table.Table.TheVariants as table
use Rattle.snb_schema.specs.Layouts.{shape}
use Rattle.snb_schema.specs.RowKeys.{RowKey, node_key, row_key}
use Rattle.snb_schema.specs.RowValues.{row_shape, table_of}
use Rattle.snb_schema.specs.TableRows.{IsTableRow}
use Rattle.snb_graph_rows.specs.Keyed.{key_table}
use Rattle.snb_graph_rows.specs.Pairs.{HasAdded, HasPair}
use Rattle.snb_graph_integrity.specs.Chains.{AreReplies, AreRooted, AreRoots, MarksRooted}
use Rattle.snb_graph_integrity.specs.Marks.{AreReached, ReachedIn}
use Rattle.snb_graph_integrity.proofs.MarkLemmas.{last_cases}
use Rattle.snb_graph_integrity.proofs.RowLemmas.{IsOf, among_rows, are_of, below_rest, from_rows, not_again, rest_rises, rows_rise}
use Rattle.snb_graph_model.specs.Graphs.{HasKey, IsGraph, key_order, part, part_of, row_order, rows}
use Rattle.snb_graph_model.specs.Soundness.{IsCycle, EndsAfter, IsRooted}
use Rattle.snb_base.proofs.Laws.{contains_cases, contains_here, contains_there}

-- ---- links

-- a link of a table leads from here
abbrev pub LeadsFrom : List Row → Table → ℕ → Type 0
LeadsFrom g t from = (to : ℕ) × Contains g (row.Link t from to)

link_first : Row → ℕ
link_first (row.Link t from to) = from
link_first r = 0

link_second : Row → ℕ
link_second (row.Link t from to) = to
link_second r = 0

pub link_ends : (t u : Table) (a b c d : ℕ) → row.Link t a b ≡ row.Link u c d → (a ≡ c) × (b ≡ d)
unfolding link_first link_second
link_ends t u a b c d e = (ap link_first e, ap link_second e)

-- a row of a table of links is a link
is_link : (r : Row) (t : Table) → table_of r ≡ t → shape t ≡ shapes.Link → IsTableRow r → row_shape r ≡ shapes.Link
is_link r t of is fit = fit.shaped ∙ ap shape of ∙ is

-- and so is the first of those that are left
pub link_shape : (g : List Row) (t : Table) (left rest : List Row) (r : Row) → left ≡ r ∷ rest → All (IsOf g t) left → shape t ≡ shapes.Link → row_shape r ≡ shapes.Link
link_shape g t left rest r is of links = let own = All-head (IsOf g t) r rest (subst (All (IsOf g t)) is of) in is_link r t own.of links own.fit

-- what a test denies isn't so
pub not_so : {P : Type 0} (test : Bool) → test ≡ false → (IsTrue test ↔ P) → ¬ P
not_so test denied same p = let yes = same.1 p in absurd cc

-- ---- the roots

-- the first link that is left
first_link : (g : List Row) (t : Table) (left rest : List Row) (r : Row) (from to : ℕ) → left ≡ r ∷ rest → r ≡ row.Link (table_of r) from to → All (IsOf g t) left → left ≡ row.Link t from to ∷ rest
first_link g t left rest r from to is link of = is ∙ ap (λ x. x ∷ rest) (link ∙ ap (λ u. row.Link u from to) (All-head (IsOf g t) r rest (subst (All (IsOf g t)) is of)).of)

-- the ids taken and those of the links that are left are the ids of all
pub record IsTaking (g : List Row) (t : Table) (ids : List ℕ) (left : List Row) : Type 0 where
  pub of : All (IsOf g t) left
  pub same : (c : ℕ) → (Contains ids c ⊎ LeadsFrom left t c) ↔ LeadsFrom g t c

pub taking_begun : (g : List Row) (t : Table) (left : List Row) → IsGraph g → left ≡ rows g t → IsTaking g t [] left
taking_begun g t left graph is = record {
  of = subst (All (IsOf g t)) (sym is) (are_of g t graph);
  same = λ c. (
    λ or. elim or [ inl h ↦ absurd (omega (arith, h.1)) | inr f ↦ (f.0, from_rows g t (row.Link t c f.0) (subst (λ l. Contains l (row.Link t c f.0)) is f.1)) ],
    λ f. inr (f.0, subst (λ l. Contains l (row.Link t c f.0)) (sym is) (among_rows g t (row.Link t c f.0) refl f.1)),
  );
}

pub taking_more : (g : List Row) (t : Table) (ids : List ℕ) (left rest : List Row) (r : Row) (from to : ℕ) → left ≡ r ∷ rest → r ≡ row.Link (table_of r) from to → IsTaking g t ids left → IsTaking g t (ids ++ from ∷ []) rest
taking_more g t ids left rest r from to is link taking = record {
  of = All-rest (IsOf g t) r rest left is taking.of;
  same = λ c. (
    λ or. (taking.same c).0 (elim or [
      | inl h ↦ elim (last_cases ids from c h) [ inl old ↦ inl old | inr e ↦ inr (to, subst (λ l. Contains l (row.Link t c to)) (sym here) (subst (λ n. Contains (row.Link t from to ∷ rest) (row.Link t n to)) e (contains_here (row.Link t from to) rest))) ]
      | inr f ↦ inr (f.0, subst (λ l. Contains l (row.Link t c f.0)) (sym is) (contains_there r rest (row.Link t c f.0) f.1))
    ]),
    λ f. elim ((taking.same c).1 f) [
      | inl old ↦ inl (Contains-append_left ids (from ∷ []) c old)
      | inr l ↦ elim (contains_cases (row.Link t from to) rest (row.Link t c l.0) (subst (λ s. Contains s (row.Link t c l.0)) here l.1)) [
        | inl e ↦ inl (subst (Contains (ids ++ from ∷ [])) (link_ends t t from to c l.0 e).0 (Contains-append_right ids (from ∷ []) from (contains_here from [])))
        | inr later ↦ inr (l.0, later)
      ]
    ],
  );
}
  where
    here : left ≡ row.Link t from to ∷ rest
    here = first_link g t left rest r from to is link taking.of

pub taking_ended : (g : List Row) (t : Table) (ids : List ℕ) (left : List Row) → left ≡ [] → IsTaking g t ids left → (c : ℕ) → Contains ids c ↔ LeadsFrom g t c
taking_ended g t ids left none taking c = (
  λ h. (taking.same c).0 (inl h),
  λ f. elim ((taking.same c).1 f) [ inl h ↦ h | inr l ↦ absurd (let e = subst (λ s. Contains s (row.Link t c l.0)) none l.1 in omega (arith, e.1)) ],
)

-- ---- the pairs

-- a pair is kept
abbrev pub IsPaired : List ((ℕ × ℕ) × ℕ) → ℕ → ℕ → Type 0
IsPaired es p c = (d : ℕ) × HasPair es p c d

-- the pairs kept and the links that are left are all, and no link is in both
pub record IsPairing (g : List Row) (t : Table) (es : List ((ℕ × ℕ) × ℕ)) (left : List Row) : Type 0 where
  pub of : All (IsOf g t) left
  pub rises : IsStrictlySortedBy row_order left
  pub apart : (p c : ℕ) → IsPaired es p c → ¬ Contains left (row.Link t c p)
  pub same : (p c : ℕ) → (IsPaired es p c ⊎ Contains left (row.Link t c p)) ↔ Contains g (row.Link t c p)

pub pairing_begun : (g : List Row) (t : Table) (left : List Row) → IsGraph g → left ≡ rows g t → IsPairing g t [] left
pairing_begun g t left graph is = record {
  of = subst (All (IsOf g t)) (sym is) (are_of g t graph);
  rises = subst (IsStrictlySortedBy row_order) (sym is) (rows_rise g t graph);
  apart = λ p c pair. absurd (omega (arith, pair.1.1));
  same = λ p c. (
    λ or. elim or [ inl pair ↦ absurd (omega (arith, pair.1.1)) | inr h ↦ from_rows g t (row.Link t c p) (subst (λ l. Contains l (row.Link t c p)) is h) ],
    λ h. inr (subst (λ l. Contains l (row.Link t c p)) (sym is) (among_rows g t (row.Link t c p) refl h)),
  );
}

pub pairing_new : (g : List Row) (t : Table) (es : List ((ℕ × ℕ) × ℕ)) (left rest : List Row) (r : Row) (from to : ℕ) → left ≡ r ∷ rest → r ≡ row.Link (table_of r) from to → IsPairing g t es left → (d : ℕ) → ¬ HasPair es to from d
pairing_new g t es left rest r from to is link pairing d pair =
    pairing.apart to from (d, pair) (subst (λ l. Contains l (row.Link t from to)) (sym (first_link g t left rest r from to is link pairing.of)) (contains_here (row.Link t from to) rest))

pub pairing_more : (g : List Row) (t : Table) (es more : List ((ℕ × ℕ) × ℕ)) (left rest : List Row) (r : Row) (from to : ℕ) → left ≡ r ∷ rest → r ≡ row.Link (table_of r) from to → HasAdded es to from 0 more → IsPairing g t es left → IsPairing g t more rest
pairing_more g t es more left rest r from to is link added pairing = record {
  of = All-rest (IsOf g t) r rest left is pairing.of;
  rises = rest_rises (row.Link t from to) rest rises;
  apart = λ p c pair h. elim (added_cases p c pair) [
    | inl old ↦ pairing.apart p c old (later p c h)
    | inr e ↦ not_again (row.Link t from to) rest rises (subst (Contains rest) (λ i. row.Link t (sym e.1 i) (sym e.0 i)) h)
  ];
  same = λ p c. (
    λ or. (pairing.same p c).0 (elim or [
      | inl pair ↦ elim (added_cases p c pair) [
        | inl old ↦ inl old
        | inr e ↦ inr (subst (λ l. Contains l (row.Link t c p)) (sym here) (subst (Contains (row.Link t from to ∷ rest)) (λ i. row.Link t (e.1 i) (e.0 i)) (contains_here (row.Link t from to) rest)))
      ]
      | inr h ↦ inr (later p c h)
    ]),
    λ h. elim ((pairing.same p c).1 h) [
      | inl old ↦ inl (old.0, (added ((p, c), old.0)).1 (inl old.1))
      | inr l ↦ elim (contains_cases (row.Link t from to) rest (row.Link t c p) (subst (λ s. Contains s (row.Link t c p)) here l)) [
        | inl e ↦ let ends = link_ends t t from to c p e in inl (0, (added ((p, c), 0)).1 (inr (λ i. ((ends.1 i, ends.0 i), 0))))
        | inr after ↦ inr after
      ]
    ],
  );
}
  where
    here : left ≡ row.Link t from to ∷ rest
    here = first_link g t left rest r from to is link pairing.of

    rises : IsStrictlySortedBy row_order (row.Link t from to ∷ rest)
    rises = subst (IsStrictlySortedBy row_order) here pairing.rises

    later : (p c : ℕ) → Contains rest (row.Link t c p) → Contains left (row.Link t c p)
    later p c h = subst (λ l. Contains l (row.Link t c p)) (sym is) (contains_there r rest (row.Link t c p) h)

    added_cases : (p c : ℕ) → IsPaired more p c → IsPaired es p c ⊎ ((to ≡ p) × (from ≡ c))
    added_cases p c pair = elim ((added ((p, c), pair.0)).0 pair.1) [
      | inl old ↦ inl (pair.0, old)
      | inr e ↦ inr (ap (λ (x : (ℕ × ℕ) × ℕ). x.0.0) e, ap (λ (x : (ℕ × ℕ) × ℕ). x.0.1) e)
    ]

pub pairing_ended : (g : List Row) (t : Table) (es : List ((ℕ × ℕ) × ℕ)) (left : List Row) → left ≡ [] → IsPairing g t es left → (p c : ℕ) → IsPaired es p c ↔ Contains g (row.Link t c p)
pairing_ended g t es left none pairing p c = (
  λ pair. (pairing.same p c).0 (inl pair),
  λ h. elim ((pairing.same p c).1 h) [ inl pair ↦ pair | inr l ↦ absurd (let e = subst (λ s. Contains s (row.Link t c p)) none l in omega (arith, e.1)) ],
)

-- ---- what is reached

-- what is reached from comments on posts by replies has a chain that ends at a post
module _ (g : List Row) (es : List ((ℕ × ℕ) × ℕ)) (ids : List ℕ) (replies : AreReplies g es) (roots : AreRoots g ids) where
  reached_ends : (n c : ℕ) → ReachedIn es ids n c → EndsAfter g n c
  reached_ends zero c r = (roots c).0 r
  reached_ends (suc n) c r = (r.0, (replies r.0 c).0 (r.1, r.2), reached_ends n r.0 r.3)

  ends_reached : (n c : ℕ) → EndsAfter g n c → ReachedIn es ids n c
  ends_reached zero c e = (roots c).1 e
  ends_reached (suc n) c e = let pair = (replies e.0 c).1 e.1 in (e.0, pair.0, pair.1, ends_reached n e.0 e.2)

  pub marks_rooted : (marks : List ((ℕ × ℕ) × ℕ)) → AreReached es ids marks → MarksRooted g marks
  marks_rooted marks reached c = (
    λ m. let r = (reached c).0 m in (r.0, reached_ends r.0 c r.1),
    λ e. (reached c).1 (e.0, ends_reached e.0 c e.1),
  )

-- ---- the least comment that isn't marked

-- each comment's chain ends at a post, or the comment is left
pub record IsChecking (g : List Row) (left : List Row) : Type 0 where
  pub of : All (IsOf g table.Comment) left
  pub rises : IsStrictlySortedBy row_order left
  pub rest : (c : ℕ) → HasKey g (node_key kinds.Comment c) → IsRooted g c ⊎ HasKey left (node_key kinds.Comment c)

pub checking_begun : (g left : List Row) → IsGraph g → left ≡ rows g table.Comment → IsChecking g left
checking_begun g left graph is = record {
  of = subst (All (IsOf g table.Comment)) (sym is) (are_of g table.Comment graph);
  rises = subst (IsStrictlySortedBy row_order) (sym is) (rows_rise g table.Comment graph);
  rest = λ c has. inr (record {
    it = has.it;
    held = subst (λ l. Contains l has.it) (sym is) (among_rows g table.Comment has.it (sym (key_table has.it) ∙ ap (λ (k : RowKey). k.0) has.keyed) has.held);
    keyed = has.keyed;
  });
}

left_cases : (left rest : List Row) (r : Row) (k : RowKey) → left ≡ r ∷ rest → HasKey left k → (row_key r ≡ k) ⊎ HasKey rest k
left_cases left rest r k is has = elim (contains_cases r rest has.it (subst (λ l. Contains l has.it) is has.held)) [
  | inl e ↦ inl (ap row_key e ∙ has.keyed)
  | inr h ↦ inr (record { it = has.it; held = h; keyed = has.keyed })
]

pub checking_more : (g left rest : List Row) (r : Row) (id : ℕ) → left ≡ r ∷ rest → id ≡ (row_key r).1 → IsRooted g id → IsChecking g left → IsChecking g rest
checking_more g left rest r id is same rooted checking = record {
  of = All-rest (IsOf g table.Comment) r rest left is checking.of;
  rises = rest_rises r rest (subst (IsStrictlySortedBy row_order) is checking.rises);
  rest = λ c has. elim (checking.rest c has) [
    | inl ends ↦ inl ends
    | inr later ↦ elim (left_cases left rest r (node_key kinds.Comment c) is later) [
      | inl e ↦ inl (subst (IsRooted g) (same ∙ ap (λ (k : RowKey). k.1) e) rooted)
      | inr after ↦ inr after
    ]
  ];
}

pub checking_ended : (g left : List Row) → left ≡ [] → IsChecking g left → AreRooted g
checking_ended g left none checking c has = elim (checking.rest c has) [
  | inl ends ↦ ends
  | inr later ↦ absurd (let e = subst (λ l. Contains l later.it) none later.held in omega (arith, e.1))
]

-- the key of a comment
comment_key : (r : Row) → table_of r ≡ table.Comment → IsTableRow r → row_key r ≡ node_key kinds.Comment (row_key r).1
comment_key (row.Comment x) of fit = refl
comment_key (row.Link t from to) of fit = let e = fit.shaped ∙ ap shape of in absurd cc
comment_key (row.Dated t from to date) of fit = let e = fit.shaped ∙ ap shape of in absurd cc
comment_key (row.Yeared t from to year) of fit = let e = fit.shaped ∙ ap shape of in absurd cc
comment_key (row.Word t person text) of fit = let e = fit.shaped ∙ ap shape of in absurd cc
comment_key r of fit = absurd cc

-- of comments the order is that of their ids
in_order : (r s : Row) (a b : ℕ) → row_key r ≡ node_key kinds.Comment a → row_key s ≡ node_key kinds.Comment b → row_order r s ≡ Less → a ≤ b
in_order r s a b kr ks less = rises (sym (by_keys r s a b kr ks) ∙ less)
  where
    by_keys : (r s : Row) (a b : ℕ) → row_key r ≡ node_key kinds.Comment a → row_key s ≡ node_key kinds.Comment b → row_order r s ≡ ordering_then (nat_cmp a b) (nat_cmp 0 0)
    by_keys r s a b kr ks =
        let pr : part r ≡ 7 = ap (λ t. part_of (shape t)) (sym (key_table r) ∙ ap (λ (k : RowKey). k.0) kr) in
        let ps : part s ≡ 7 = ap (λ t. part_of (shape t)) (sym (key_table s) ∙ ap (λ (k : RowKey). k.0) ks) in
        λ i. ordering_then (nat_cmp (pr i) (ps i)) (key_order (kr i) (ks i))

    rises : ordering_then (nat_cmp a b) (nat_cmp 0 0) ≡ Less → a ≤ b
    rises e = grind (arith, e)

pub checking_found : (g left rest : List Row) (r : Row) (id : ℕ) → left ≡ r ∷ rest → id ≡ (row_key r).1 → ¬ IsRooted g id → IsChecking g left → IsCycle g id
checking_found g left rest r id is same loose checking = record {
  held = record { it = r; held = own.held; keyed = key };
  loose = loose;
  least = λ other has free. elim (checking.rest other has) [
    | inl ends ↦ absurd (free ends)
    | inr later ↦ elim (left_cases left rest r (node_key kinds.Comment other) is later) [
      | inl e ↦ let one : id ≡ other = same ∙ ap (λ (k : RowKey). k.1) e in omega (arith, one)
      | inr after ↦ in_order r after.it id other key after.keyed (below_rest r rest (subst (IsStrictlySortedBy row_order) is checking.rises) after.it after.held)
    ]
  ];
}
  where
    own : IsOf g table.Comment r
    own = All-head (IsOf g table.Comment) r rest (subst (All (IsOf g table.Comment)) is checking.of)

    key : row_key r ≡ node_key kinds.Comment id
    key = comment_key r own.of own.fit ∙ ap (node_key kinds.Comment) (sym same)
