-- Things of which the nearer ones are enough.
use Rattle.std.proofs.Common.{◌≡◌, ℕ, ◌+◌, ◌-◌, ◌<◌, ◌≤◌, nat_le, not, Bool, true, false, cond, List, [], ◌∷◌, ◌++◌, length, get_or, inl, inr, refl, sym, ap, ◌∙◌, subst, arith}
use Rattle.std.proofs.lemmas.Bool.{cases_lt, leb-false, leb-true, le-leb, not-true}
use Rattle.std.proofs.lemmas.Bool.Decides.{nat_tests}
use Rattle.std.proofs.lemmas.List.{get_or-append_right, get_or_append_left, length-append, take-append-le}
use Rattle.std.proofs.lemmas.List.Elements.{Contains-get_or}
use Rattle.std.proofs.lemmas.List.Kept.{AllPairs-filter}
use Rattle.std.proofs.lemmas.List.Sorted.{Contains-permutation, IsPermutation-append, IsPermutation-filter_both, IsPermutation-sym, length_permutation}
use Rattle.std.specs.Cmp.{IsTotalOrder}
use Rattle.std.specs.List.{AllZip, Contains, filter}
use Rattle.std.specs.List.Sorted.{IsPermutation, IsSorted}
use Rattle.std.specs.Ordering.{is_lt, nat_cmp, ordering_then}
use Rattle.std.specs.declared.cmp.Ordering.{Ordering}
use Rattle.std.specs.declared.cmp.Ordering.TheVariants.{Greater}
use Rattle.snb_schema.specs.declared.row.Row.{Row}
use Rattle.snb_graph_integrity.specs.SoundLaws.{RequiredEdgesAreThere}
use Rattle.snb_graph_model.specs.Graphs.{IsGraph}
use Rattle.snb_graph_model.specs.Soundness.{Sound}
use Rattle.snb_read_order.specs.Laws.{SomeFirst}
use Rattle.snb_read_order.proofs.Laws.{number_cmp, zip_length}
use Rattle.snb_read_model.specs.Cells.{ByteCell, cell_cmp, number_cell}
use Rattle.snb_read_model.specs.ComplexReads.{Ic1Answer, IsNamesake, Stay, is_named}
use Rattle.snb_read_model.specs.Distance.{IsWithin}
use Rattle.snb_read_model.specs.Order.{ReadAnswers, FirstRows, SortedAndCut, Rising, Way, AllRows, by}
use Rattle.snb_read_laws.proofs.Laws.{by_total, near_held, one_within, some_namesake, some_within, some_zip}
use Rattle.snb_read_lookups.proofs.Laws.{answers_moved}
use Rattle.snb_base.proofs.Laws.{contains_cases, contains_here, contains_there, in_filter, none_in}

-- ---- the first of things that come before others

module _ {X : Type 0} (R : X → X → Ordering) where
  sorted_append : (xs ys : List X) → IsSorted R xs → IsSorted R ys → ((x y : X) → Contains xs x → Contains ys y → is_lt (R y x) ≡ false) → IsSorted R (xs ++ ys)
  sorted_append xs ys up more apart k d low high =
      let long = length-append xs ys in
      elim (cases_lt (k + 1) (length xs)) as (λ _. is_lt (R (get_or (xs ++ ys) (k + 1) d) (get_or (xs ++ ys) k d)) ≡ false) [
        | inl inside ↦ rw (get_or_append_left xs ys d (k + 1) inside, get_or_append_left xs ys d k (omega (arith, inside))) (up k d low inside)
        | inr beyond ↦ elim (cases_lt k (length xs)) as (λ _. is_lt (R (get_or (xs ++ ys) (k + 1) d) (get_or (xs ++ ys) k d)) ≡ false) [
          | inl edge ↦ rw (get_or-append_right xs ys (length xs) (k + 1) d refl beyond, get_or_append_left xs ys d k edge)
              (apart (get_or xs k d) (get_or ys (k + 1 - length xs) d) (Contains-get_or xs k d edge) (Contains-get_or ys (k + 1 - length xs) d (omega (arith, high, long, beyond))))
          | inr past ↦ (let next : k + 1 - length xs ≡ k - length xs + 1 = omega (arith, past) in
              rw (get_or-append_right xs ys (length xs) (k + 1) d refl beyond, get_or-append_right xs ys (length xs) k d refl past, next) (more (k - length xs) d (omega arith) (omega (arith, high, long, past))))
        ]
      ]

  first_more : SomeFirst X → IsTotalOrder R → (n : ℕ) (part rest answer : List X) → n ≤ length part → ((x y : X) → Contains part x → Contains rest y → is_lt (R y x) ≡ false)
      → SortedAndCut R (FirstRows n) part answer → SortedAndCut R (FirstRows n) (part ++ rest) answer
  first_more some total n part rest answer enough apart first =
      let (sorted, more) = some R AllRows rest total in
      let long = length_permutation part first.sorted first.same in
      record {
        sorted = first.sorted ++ more.sorted;
        same = IsPermutation-append part first.sorted rest more.sorted first.same more.same;
        ordered = sorted_append first.sorted more.sorted first.ordered more.ordered (λ x y c d.
            apart x y (Contains-permutation first.sorted part x (IsPermutation-sym part first.sorted first.same) c) (Contains-permutation more.sorted rest y (IsPermutation-sym rest more.sorted more.same) d));
        kept = first.kept ∙ sym (take-append-le n first.sorted more.sorted (omega (arith, enough, long)));
      }

module _ {X Y : Type 0} (R : X → Y → Type 0) where
  zip_back : (xs : List X) (ys : List Y) (y : Y) → AllZip R xs ys → Contains ys y → (x : X) × Contains xs x × R x y
  zip_back [] [] y z c = absurd (none_in y c)
  zip_back [] (w ∷ ys) y z c = absurd z
  zip_back (x ∷ xs) [] y z c = absurd z
  zip_back (x ∷ xs) (w ∷ ys) y z c = elim (contains_cases w ys y c) [
    | inl e ↦ (x, contains_here x xs, subst (R x) e z.0)
    | inr d ↦ (let (v, there, r) = zip_back xs ys y z.1 d in (v, contains_there x xs v there, r))
  ]

  zip_append : (xs us : List X) (ys vs : List Y) → AllZip R xs ys → AllZip R us vs → AllZip R (xs ++ us) (ys ++ vs)
  zip_append [] us [] vs z w = w
  zip_append [] us (y ∷ ys) vs z w = absurd z
  zip_append (x ∷ xs) us [] vs z w = absurd z
  zip_append (x ∷ xs) us (y ∷ ys) vs z w = (z.0, zip_append xs us ys vs z.1 w)

module _ {X : Type 0} (Shows : X → List ByteCell → Type 0) (order : List Way) where
  -- where the others come after, and those that come before are enough, these give the answer
  pub answers_more : SomeFirst (List ByteCell) → (n : ℕ) (part rest : List X) (answer : List (List ByteCell)) → n ≤ length part → ((y : X) → Contains rest y → (b : List ByteCell) × Shows y b)
      → ((x y : X) (a b : List ByteCell) → Contains part x → Contains rest y → Shows x a → Shows y b → is_lt (by order b a) ≡ false) → ReadAnswers part Shows order (FirstRows n) answer
      → ReadAnswers (part ++ rest) Shows order (FirstRows n) answer
  answers_more some n part rest answer enough each apart is =
      let (more, z) = some_zip Shows rest each in
      let long = zip_length Shows part is.rows is.shown in
      record {
        rows = is.rows ++ more;
        shown = zip_append Shows part rest is.rows more is.shown z;
        first = first_more (by order) some (by_total order) n is.rows more answer (omega (arith, enough, long)) (λ a b c d.
            let (x, there, shows) = zip_back Shows part is.rows a is.shown c in
            let (y, here, tells) = zip_back Shows rest more b z d in
            apart x y a b there here shows tells) is.first;
      }

-- ---- persons of a first name

filter_comm : {X : Type 0} (p q : X → Bool) (xs : List X) → filter p (filter q xs) ≡ filter q (filter p xs)
filter_comm p q [] = refl
filter_comm {X} p q (x ∷ xs) = both (p x) refl (q x) refl (filter_comm p q xs)
  where
    both : (b : Bool) → p x ≡ b → (d : Bool) → q x ≡ d → filter p (filter q xs) ≡ filter q (filter p xs) → filter p (cond d (x ∷ filter q xs) (filter q xs)) ≡ filter q (cond b (x ∷ filter p xs) (filter p xs))
    both true e true f rest = rw (e, f) (ap (λ (l : List X). x ∷ l) rest)
    both true e false f rest = rw f rest
    both false e true f rest = rw e rest
    both false e false f rest = rest

later : (m n : ℕ) (o : Ordering) → n < m → is_lt (ordering_then (cell_cmp (number_cell m) (number_cell n)) o) ≡ false
later m n o low = let falls : nat_cmp m n ≡ Greater = grind (arith, nat_tests) in ap (λ (r : Ordering). is_lt (ordering_then r o)) (number_cmp m n ∙ falls)

module _ (g : List Row) (graph : IsGraph g) (sound : Sound g) (required : RequiredEdgesAreThere) (texts : SomeFirst (List ℕ)) (stays : SomeFirst Stay) (cells : SomeFirst (List ByteCell)) (person : ℕ) (name : List ℕ) where
  -- those close are those within two steps
  close_within : (all : List (ℕ × ℕ)) → IsWithin g person 3 all → IsWithin g person 2 (filter (λ n. nat_le n.1 2) all)
  close_within all within = record {
    rises = AllPairs-filter (λ x y. x.0 < y.0) (λ n. nat_le n.1 2) all within.rises;
    exact = λ p n. (
      λ c. (let (held, low) = (in_filter (λ (n : ℕ × ℕ). nat_le n.1 2) all (p, n)).0 c in
          let (at, above, high) = (within.exact p n).0 held in
          (at, above, leb-true n 2 low)),
      λ (at, above, low). (in_filter (λ (n : ℕ × ℕ). nat_le n.1 2) all (p, n)).1 ((within.exact p n).1 (at, above, omega (arith, low)), le-leb n 2 low),
    );
  }

  -- where those within two steps are enough, they give the answer
  pub near_first : (near : List (ℕ × ℕ)) (answer : List (List ByteCell)) → IsWithin g person 2 near → 20 ≤ length (filter (is_named g name) near)
      → ReadAnswers (filter (is_named g name) near) (IsNamesake g) (Rising 3 ∷ Rising 2 ∷ Rising 1 ∷ []) (FirstRows 20) answer → Ic1Answer g person name answer
  near_first near answer within enough is =
      let (all, whole) = some_within g person 3 in
      let named = filter (is_named g name) all in
      let rest = filter (λ (n : ℕ × ℕ). not (nat_le n.1 2)) named in
      let part : filter (λ (n : ℕ × ℕ). nat_le n.1 2) named ≡ filter (is_named g name) near =
      filter_comm (λ (n : ℕ × ℕ). nat_le n.1 2) (is_named g name) all ∙ ap (filter (is_named g name)) (one_within g person 2 _ near (close_within all whole) within) in
      let moves = IsPermutation-filter_both (λ (n : ℕ × ℕ). nat_le n.1 2) (λ (n : ℕ × ℕ). not (nat_le n.1 2)) (λ n. refl) named in
      record {
        near = all;
        within = whole;
        answers = answers_moved (IsNamesake g) (Rising 3 ∷ Rising 2 ∷ Rising 1 ∷ []) (FirstRows 20) named (filter (is_named g name) near ++ rest) answer (subst (λ l. IsPermutation named (l ++ rest)) part moves)
            (answers_more (IsNamesake g) (Rising 3 ∷ Rising 2 ∷ Rising 1 ∷ []) cells 20 (filter (is_named g name) near) rest answer enough
            (λ n c. some_namesake g graph sound required texts stays n
            (near_held g person 3 all whole n ((in_filter (is_named g name) all n).0 ((in_filter (λ (n : ℕ × ℕ). not (nat_le n.1 2)) named n).0 c).0).0))
            (λ x y a b c d shows tells.
            let low = ((within.exact x.0 x.1).0 ((in_filter (is_named g name) near x).0 c).0).2 in
            let high = leb-false y.1 2 (not-true (nat_le y.1 2) ((in_filter (λ (n : ℕ × ℕ). not (nat_le n.1 2)) named y).0 d).1) in
            rw (shows.is, tells.is) (later y.1 x.1 _ (omega (arith, low, high)))) is);
      }
