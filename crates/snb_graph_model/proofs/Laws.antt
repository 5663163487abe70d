-- What other crates may cite of this one: results that are told, tables and rows in their orders, that lists in order with the same
-- elements are equal, what filters of a list hold, lists without repeats, and the filters of a graph, told by its rows.
use Rattle.std.proofs.Common.{◌≡◌, ◌↔◌, ℕ, ◌<◌, ◌⊎◌, List, [], ◌∷◌, refl, sym, ap, ◌∙◌, subst, inl, inr, arith, true, false, Result, Ok, Err, OnOk, OnErr, ◌==◌, Bool, cond, ◌++◌, Option, Some, None}
use Rattle.std.specs.declared.cmp.Ordering.{Ordering}
use Rattle.std.specs.declared.cmp.Ordering.TheVariants.{Less}
use Rattle.std.specs.Ordering.{ordering_reverse, is_lt, nat_cmp}
use Rattle.std.specs.Cmp.{IsTotalOrder, nat_cmp_total, then_total, on_total}
use Rattle.std.specs.Cmp.Lexicographic.{nat_list_cmp_total}
use Rattle.std.specs.List.{Contains, AllByRecursion, cons_option, filter, filter_map}
use Rattle.std.specs.List.Sorted.{IsStrictlySortedBy, IsPermutation}
use Rattle.std.specs.Result.{is_err}
use Rattle.std.proofs.lemmas.Bool.{eq-eqb, eqb-true}
use Rattle.std.proofs.lemmas.List.Elements.{Contains-append_cases, All-contains, Contains-append_left, Contains-append_right, filter_map-append}
use Rattle.std.proofs.lemmas.List.Sorted.{IsPermutation-append_comm, IsPermutation-append_left, IsPermutation-cons, IsPermutation-refl, IsPermutation-sym, IsPermutation-trans}
use Rattle.std.proofs.lemmas.Cmp.{tied_itself}
use Rattle.std.specs.Map.{keys_of}
use denote.Enum.Bare.{same_true, true_same}
use mathlib.Core.Bool.{false≢true}
use Rattle.snb_base.proofs.Laws.{any_of, contains_cases, contains_here, contains_there, from_any, given_by, gives, in_filter, none_in}
use Rattle.snb_schema.specs.contracts.table.Table.{the_type as the_table}
use Rattle.snb_schema.specs.contracts.table.TableOrd.TheImpl.Laws.{total-law}
use Rattle.snb_schema.specs.declared.table.Table.{Table}
use Rattle.snb_schema.specs.RowKeys.{edge_key, node_key, row_key, RowKey, sharing, slot, slot_of}
use Rattle.snb_schema.specs.TableOrder.{same_table, table_order}
use Rattle.snb_schema.specs.declared.layout.KeyColumns.TheVariants.{First}
use Rattle.snb_schema.specs.declared.nodes.Comment.{Comment}
use Rattle.snb_schema.specs.declared.nodes.Forum.{Forum}
use Rattle.snb_schema.specs.declared.nodes.Post.{Post}
use Rattle.snb_schema.specs.declared.person.Person.{Person}
use Rattle.snb_schema.specs.declared.row.Row.{Row}
use Rattle.snb_schema.specs.declared.row.Row.TheVariants as row
use Rattle.snb_schema.specs.declared.table.Kind.TheVariants as kinds
use Rattle.snb_schema.specs.declared.table.Table.TheVariants as table
use Rattle.snb_schema.specs.Layouts.{key_columns}
use Rattle.snb_schema.specs.RowValues.{table_of}
use Rattle.snb_schema.specs.TableRows.{IsTableRow}
use Rattle.snb_graph_model.specs.Graphs.{key_order, part, row_order, HasKey, IsGraph, rows}
use Rattle.snb_graph_model.specs.Around.{authors, comments, containers, ends, forums, friends, is_friend, likes, likes_in, message_of, messages, parents, persons, replies, reply_of, with_id}
use Rattle.snb_graph_model.specs.RowParts.{comment_shown, end_in, forum_in, friend_in, has, liker_in, Message, message_in, organisation_in, person_in, place_in, post_shown, start_in, stay_in}
use Rattle.snb_graph_model.specs.Messages.{HasMessage, RepliesTo}
use Rattle.std.proofs.lemmas.Option.{cond_some}
use Rattle.snb_schema.specs.declared.nodes.Organisation.{Organisation}
use Rattle.snb_schema.specs.declared.nodes.Place.{Place}

-- ---- results that are told

-- what holds of an error, where the result is one
pub err_of : {T E P : Type 0} (r : Result T E) → true ≡ is_err r → OnErr r P → P
err_of (Ok x) e p = absurd (false≢true (sym e))
err_of (Err x) e p = p

-- and where it is none
pub ok_of : {T E P : Type 0} (r : Result T E) → false ≡ is_err r → OnOk r P → P
ok_of (Ok x) e p = p
ok_of (Err x) e p = absurd (false≢true e)

-- ---- tables and rows

-- tables of which the test says that they are one
pub same_is : (t u : Table) → same_table t u ≡ true → t ≡ u
same_is t u e = same_true the_table tt t u e

table_total : IsTotalOrder table_order
table_total = total-law

-- the order of keys is total
pub key_total : IsTotalOrder key_order
key_total =
    then_total (on_total (λ (k : RowKey). k.0) table_total)
    (then_total (on_total (λ (k : RowKey). k.1) nat_cmp_total) (then_total (on_total (λ (k : RowKey). k.2) nat_cmp_total) (on_total (λ (k : RowKey). k.3) nat_list_cmp_total)))

-- the order of rows is total
pub row_total : IsTotalOrder row_order
row_total = then_total (on_total part nat_cmp_total) (on_total row_key key_total)

-- ---- lists in order

-- what holds of each row, one after another, holds of those that are held
pub of_each : {X : Type 0} (P : X → Type 0) (ys : List X) → AllByRecursion P ys → (z : X) → Contains ys z → P z
of_each P [] all z c = absurd (omega (arith, c.1))
of_each P (y ∷ ys) all z c = elim (contains_cases y ys z c) [ inl e ↦ subst P e all.0 | inr d ↦ of_each P ys all.1 z d ]

module _ {X : Type 0} (R : X → X → Ordering) (total : IsTotalOrder R) where
  each : (x : X) (ys : List X) → AllByRecursion (λ y. R x y ≡ Less) ys → (z : X) → Contains ys z → R x z ≡ Less
  each x ys all z c = of_each (λ y. R x y ≡ Less) ys all z c

  not_both : (x y : X) → R x y ≡ Less → R y x ≡ Less → ⊥
  not_both x y a b = false≢true (ap is_lt (sym (total.antisymm x y ∙ ap ordering_reverse b) ∙ a))

  not_self : (x : X) → R x x ≡ Less → ⊥
  not_self x a = not_both x x a a

  heads : (x y : X) (xs ys : List X) → AllByRecursion (λ z. R x z ≡ Less) xs → AllByRecursion (λ z. R y z ≡ Less) ys → Contains (y ∷ ys) x → Contains (x ∷ xs) y → x ≡ y
  heads x y xs ys above_x above_y cx cy =
      elim (contains_cases y ys x cx) [
        | inl e ↦ sym e
        | inr d ↦ elim (contains_cases x xs y cy) [ inl e ↦ e | inr f ↦ absurd (not_both x y (each x xs above_x y f) (each y ys above_y x d)) ]
      ]

  tail : (x y : X) (xs ys : List X) → x ≡ y → AllByRecursion (λ z. R x z ≡ Less) xs → ((z : X) → Contains (x ∷ xs) z → Contains (y ∷ ys) z) → (z : X) → Contains xs z → Contains ys z
  tail x y xs ys same above all z c =
      elim (contains_cases y ys z (all z (contains_there x xs z c))) [
        | inl e ↦ absurd (not_self x (subst (λ w. R x w ≡ Less) (sym (same ∙ e)) (each x xs above z c)))
        | inr d ↦ d
      ]

  pub same_list : (xs ys : List X) → IsStrictlySortedBy R xs → IsStrictlySortedBy R ys → ((z : X) → Contains xs z ↔ Contains ys z) → xs ≡ ys
  unfolding IsStrictlySortedBy
  same_list [] [] a b same = refl
  same_list [] (y ∷ ys) a b same = absurd (let c = (same y).1 (contains_here y ys) in omega (arith, c.1))
  same_list (x ∷ xs) [] a b same = absurd (let c = (same x).0 (contains_here x xs) in omega (arith, c.1))
  same_list (x ∷ xs) (y ∷ ys) a b same =
      let head = heads x y xs ys a.0 b.0 ((same x).0 (contains_here x xs)) ((same y).1 (contains_here y ys)) in
      let rest = same_list xs ys a.1 b.1 (λ z. (tail x y xs ys head a.0 (λ w. (same w).0) z, tail y x ys xs (sym head) b.0 (λ w. (same w).1) z)) in
      λ i. head i ∷ rest i

-- ---- filters of lists, and lists without repeats

-- a number is in a list exactly where the test says so
pub has_from : (n : ℕ) (ns : List ℕ) → Contains ns n → has n ns ≡ true
has_from n ns c = any_of (λ m. m == n) ns n c (eq-eqb n n refl)

pub from_has : (n : ℕ) (ns : List ℕ) → has n ns ≡ true → Contains ns n
from_has n ns e = let (m, c, is) = from_any (λ m. m == n) ns e in subst (Contains ns) (eqb-true m n is) c

-- no element stands twice
abbrev pub IsApart : {X : Type 0} → List X → Type 0
IsApart [] = Unit {0}
IsApart (x ∷ xs) = (¬ Contains xs x) × IsApart xs

pub apart_filter : {X : Type 0} (p : X → Bool) (xs : List X) → IsApart xs → IsApart (filter p xs)
apart_filter p [] a = tt
apart_filter p (x ∷ xs) a = by (p x) (apart_filter p xs a.1)
  where
    by : (b : Bool) → IsApart (filter p xs) → IsApart (cond b (x ∷ filter p xs) (filter p xs))
    by true rest = (λ c. a.0 ((in_filter p xs x).0 c).0, rest)
    by false rest = rest

-- where no two elements give the same, what they give is apart
pub apart_chosen : {X Y : Type 0} (f : X → Option Y) (xs : List X) → IsApart xs → ((x z : X) (y : Y) → Contains xs x → Contains xs z → f x ≡ Some y → f z ≡ Some y → x ≡ z) → IsApart (filter_map f xs)
apart_chosen f [] a one = tt
apart_chosen {X} {Y} f (x ∷ xs) a one = by (f x) refl (apart_chosen f xs a.1 (λ w z y c d. one w z y (contains_there x xs w c) (contains_there x xs z d)))
  where
    by : (o : Option Y) → f x ≡ o → IsApart (filter_map f xs) → IsApart (cons_option o (filter_map f xs))
    by None is rest = rest
    by (Some y) is rest = (
      λ c. (let (z, there, gives) = given_by f xs y c in
          a.0 (subst (Contains xs) (sym (one x z y (contains_here x xs) (contains_there x xs z there) is gives)) there)),
      rest,
    )

pub apart_append : {X : Type 0} (xs ys : List X) → IsApart xs → IsApart ys → ((x : X) → Contains xs x → Contains ys x → ⊥) → IsApart (xs ++ ys)
apart_append [] ys a b never = b
apart_append (x ∷ xs) ys a b never = (
  λ c. elim (Contains-append_cases xs ys x c) [ inl d ↦ a.0 d | inr d ↦ never x (contains_here x xs) d ],
  apart_append xs ys a.1 b (λ z c d. never z (contains_there x xs z c) d),
)

-- what a list holds besides one of its elements
record Without {X : Type 0} (ys : List X) (x : X) : Type 0 where
  rest : List X
  moves : IsPermutation ys (x ∷ rest)
  apart : IsApart rest
  gone : ¬ Contains rest x
  among : (z : X) → Contains rest z → Contains ys z
  other : (z : X) → Contains ys z → (x ≡ z) ⊎ Contains rest z

without : {X : Type 0} (ys : List X) (x : X) → IsApart ys → Contains ys x → Without ys x
without [] x a c = absurd (none_in x c)
without {X} (y ∷ ys) x a c = elim (contains_cases y ys x c) [
  | inl e ↦ subst (λ (z : X). Without (y ∷ ys) z) e (record {
    rest = ys;
    moves = IsPermutation-refl (y ∷ ys);
    apart = a.1;
    gone = a.0;
    among = λ z d. contains_there y ys z d;
    other = λ z d. contains_cases y ys z d;
  })
  | inr later ↦ (let w = without ys x a.1 later in
      record {
        rest = y ∷ w.rest;
        moves = IsPermutation-trans _ _ _ (IsPermutation-cons y ys (x ∷ w.rest) w.moves) (IsPermutation-append_left w.rest (y ∷ x ∷ []) (x ∷ y ∷ []) (IsPermutation-append_comm (y ∷ []) (x ∷ [])));
        apart = (λ d. a.0 (w.among y d), w.apart);
        gone = λ d. elim (contains_cases y w.rest x d) [ inl e ↦ a.0 (subst (Contains ys) (sym e) later) | inr f ↦ w.gone f ];
        among = λ z d. elim (contains_cases y w.rest z d) [ inl e ↦ subst (λ (v : X). Contains (y ∷ ys) v) e (contains_here y ys) | inr f ↦ contains_there y ys z (w.among z f) ];
        other = λ z d. elim (contains_cases y ys z d) [
          | inl e ↦ inr (subst (λ (v : X). Contains (y ∷ w.rest) v) e (contains_here y w.rest))
          | inr f ↦ elim (w.other z f) [ inl e ↦ inl e | inr g ↦ inr (contains_there y w.rest z g) ]
        ];
      })
]

-- two lists of the same elements, each once, are one in another order
pub same_moved : {X : Type 0} (xs ys : List X) → IsApart xs → IsApart ys → ((z : X) → Contains xs z ↔ Contains ys z) → IsPermutation xs ys
same_moved [] [] a b same = IsPermutation-refl []
same_moved [] (y ∷ ys) a b same = absurd (none_in y ((same y).1 (contains_here y ys)))
same_moved {X} (x ∷ xs) ys a b same =
    let w = without ys x b ((same x).0 (contains_here x xs)) in
    let rest = same_moved xs w.rest a.1 w.apart (λ z. (
      λ c. elim (w.other z ((same z).0 (contains_there x xs z c))) [ inl e ↦ absurd (a.0 (subst (Contains xs) (sym e) c)) | inr d ↦ d ],
      λ d. elim (contains_cases x xs z ((same z).1 (w.among z d))) [ inl e ↦ absurd (w.gone (subst (Contains w.rest) (sym e) d)) | inr c ↦ c ],
    )) in
    IsPermutation-trans _ _ _ (IsPermutation-cons x xs w.rest rest) (IsPermutation-sym ys (x ∷ w.rest) w.moves)

-- a list of one element, and one of none
pub only_one : {X : Type 0} (xs : List X) (x : X) → IsApart xs → Contains xs x → ((z : X) → Contains xs z → z ≡ x) → xs ≡ x ∷ []
only_one [] x a c one = absurd (none_in x c)
only_one {X} (y ∷ []) x a c one = ap (λ (z : X). z ∷ []) (one y (contains_here y []))
only_one (y ∷ z ∷ zs) x a c one =
    let first = one y (contains_here y (z ∷ zs)) in
    let second = one z (contains_there y (z ∷ zs) z (contains_here z zs)) in
    absurd (a.0 (subst (Contains (z ∷ zs)) (second ∙ sym first) (contains_here z zs)))

pub none_of : {X : Type 0} (xs : List X) → ((z : X) → Contains xs z → ⊥) → xs ≡ []
none_of [] never = refl
none_of (x ∷ xs) never = absurd (never x (contains_here x xs))

-- ---- rows of a graph

-- the rows of a table are those of the graph that are of it
pub in_rows : (g : List Row) (t : Table) (r : Row) → Contains (rows g t) r ↔ (Contains g r × (table_of r ≡ t))
in_rows g t r =
    let kept = in_filter (λ (x : Row). same_table (table_of x) t) g r in
    (λ c. ((kept.0 c).0, same_is (table_of r) t (kept.0 c).1), λ c. kept.1 (c.0, true_same the_table (table_of r) t c.1))

-- no row of a graph stands twice
sorted_apart : (xs : List Row) → IsStrictlySortedBy row_order xs → IsApart xs
unfolding IsStrictlySortedBy
sorted_apart [] s = tt
sorted_apart (x ∷ xs) s = (λ c. not_above xs s.0 c, sorted_apart xs s.1)
  where
    not_above : (ys : List Row) → AllByRecursion (λ y. row_order x y ≡ Less) ys → Contains ys x → ⊥
    not_above [] all c = omega (arith, c.1)
    not_above (y ∷ ys) all c = elim (contains_cases y ys x c) [
      | inl e ↦ (let l : row_order x x ≡ Less = subst (λ (z : Row). row_order x z ≡ Less) e all.0 in
          let t = tied_itself row_total x in cc)
      | inr later ↦ not_above ys all.1 later
    ]

pub rows_apart : (g : List Row) (t : Table) → IsGraph g → IsApart (rows g t)
rows_apart g t graph = apart_filter (λ (x : Row). same_table (table_of x) t) g (sorted_apart g graph.rises)

-- where what is chosen fills one slot, it is one
pub one_chosen : {Y : Type 0} (g : List Row) → IsGraph g → (f : Row → Option Y) (xs : List Row) (s : RowKey) → IsApart xs → ((r : Row) → Contains xs r → Contains g r)
    → ((r : Row) (y : Y) → Contains xs r → f r ≡ Some y → slot_of r ≡ s) → (r : Row) (y : Y) → Contains xs r → f r ≡ Some y → filter_map f xs ≡ y ∷ []
one_chosen {Y} g graph f xs s apart held fills r y c e =
    only_one (filter_map f xs) y (apart_chosen f xs apart (λ w z v cw cz ew ez. same w z cw cz (fills w v cw ew ∙ sym (fills z v cz ez)))) (gives f xs r y c e)
    (λ z d. (let (q, there, gives) = given_by f xs z d in
    let rows_same : q ≡ r = same q r there c (fills q z there gives ∙ sym (fills r y c e)) in
    some_is z y (sym gives ∙ ap f rows_same ∙ e)))
  where
    same : (w z : Row) → Contains xs w → Contains xs z → slot_of w ≡ slot_of z → w ≡ z
    same w z cw cz e = graph.apart w z (held w cw) (held z cz) e

    some_is : (a b : Y) → Some a ≡ Some b → a ≡ b
    some_is a b h = cc

-- ---- friends

friend_row : (p q d : ℕ) (r : Row) → friend_in p r ≡ Some (q, d) → (r ≡ row.Dated (table_of r) p q d) ⊎ (r ≡ row.Dated (table_of r) q p d)
friend_row p q d (row.Dated t low high date) e = by (low == p) refl e
  where
    by : (b : Bool) → (low == p) ≡ b → ◌≡◌ {A = Option (ℕ × ℕ)} (cond b (Some (high, date)) (cond (high == p) (Some (low, date)) None)) (Some (q, d)) → (row.Dated t low high date ≡ row.Dated t p q d) ⊎ (row.Dated t low high date ≡ row.Dated t q p d)
    by true l h =
        let one = eqb-true low p l in
        let pair : ◌≡◌ {A = ℕ × ℕ} (high, date) (q, d) = cc in
        inl (λ i. row.Dated t (one i) ((pair i).0) ((pair i).1))
    by false l h = again (high == p) refl h
      where
        again : (b : Bool) → (high == p) ≡ b → ◌≡◌ {A = Option (ℕ × ℕ)} (cond b (Some (low, date)) None) (Some (q, d)) → (row.Dated t low high date ≡ row.Dated t p q d) ⊎ (row.Dated t low high date ≡ row.Dated t q p d)
        again true k i =
            let one = eqb-true high p k in
            let pair : ◌≡◌ {A = ℕ × ℕ} (low, date) (q, d) = cc in
            inr (λ j. row.Dated t ((pair j).0) (one j) ((pair j).1))
        again false k i = absurd cc
friend_row p q d r e = absurd cc

-- a friendship, with the lower or the higher id first
abbrev pub Friendship : List Row → ℕ → ℕ → ℕ → Type 0
Friendship g p q d = Contains g (row.Dated table.PersonKnowsPerson p q d) ⊎ Contains g (row.Dated table.PersonKnowsPerson q p d)

pub friend_there : (g : List Row) (p q d : ℕ) → Contains (friends g p) (q, d) → Friendship g p q d
friend_there g p q d c =
    let (r, there, gives) = given_by (friend_in p) (rows g table.PersonKnowsPerson) (q, d) c in
    let (held, of) = (in_rows g table.PersonKnowsPerson r).0 there in
    elim (friend_row p q d r gives) [
      | inl e ↦ inl (subst (Contains g) (e ∙ ap (λ t. row.Dated t p q d) of) held)
      | inr e ↦ inr (subst (Contains g) (e ∙ ap (λ t. row.Dated t q p d) of) held)
    ]

pub friend_here : (g : List Row) (p q d : ℕ) → Friendship g p q d → Contains (friends g p) (q, d)
friend_here g p q d (inl c) = gives (friend_in p) (rows g table.PersonKnowsPerson) _ (q, d) ((in_rows g table.PersonKnowsPerson _).1 (c, refl)) (rw (eq-eqb p p refl) refl)
friend_here g p q d (inr c) = gives (friend_in p) (rows g table.PersonKnowsPerson) _ (q, d) ((in_rows g table.PersonKnowsPerson _).1 (c, refl)) (by (q == p) refl)
  where
    by : (b : Bool) → (q == p) ≡ b → ◌≡◌ {A = Option (ℕ × ℕ)} (cond b (Some (p, d)) (cond (p == p) (Some (q, d)) None)) (Some (q, d))
    by true e = (let one = eqb-true q p e in cc)
    by false e = rw (eq-eqb p p refl) refl

-- whether two are friends
pub friend_told : (g : List Row) (p q : ℕ) → is_friend g p q ≡ true → (d : ℕ) × Friendship g p q d
friend_told g p q e =
    let (f, c, is) = from_any (λ (f : ℕ × ℕ). f.0 == q) (friends g p) e in
    (f.1, friend_there g p q f.1 (subst (λ n. Contains (friends g p) (n, f.1)) (eqb-true f.0 q is) c))

pub friend_tells : (g : List Row) (p q d : ℕ) → Friendship g p q d → is_friend g p q ≡ true
friend_tells g p q d f = any_of (λ (f : ℕ × ℕ). f.0 == q) (friends g p) (q, d) (friend_here g p q d f) (eq-eqb q q refl)

-- a friendship has the lower id first
pub friendship_rises : (g : List Row) (a b d : ℕ) → IsGraph g → Contains g (row.Dated table.PersonKnowsPerson a b d) → a < b
friendship_rises g a b d graph c = (All-contains IsTableRow g _ graph.of_tables c).in_order

-- no friend of a person stands twice
pub friends_apart : (g : List Row) (p : ℕ) → IsGraph g → IsApart (friends g p)
friends_apart g p graph = apart_chosen (friend_in p) (rows g table.PersonKnowsPerson) (rows_apart g table.PersonKnowsPerson graph) one
  where
    one : (r s : Row) (y : ℕ × ℕ) → Contains (rows g table.PersonKnowsPerson) r → Contains (rows g table.PersonKnowsPerson) s → friend_in p r ≡ Some y → friend_in p s ≡ Some y → r ≡ s
    one r s y cr cs er es =
        let (held, of) = (in_rows g table.PersonKnowsPerson r).0 cr in
        let (also, too) = (in_rows g table.PersonKnowsPerson s).0 cs in
        elim (friend_row p y.0 y.1 r er) [
          | inl a ↦ (let first = a ∙ ap (λ t. row.Dated t p y.0 y.1) of in
              elim (friend_row p y.0 y.1 s es) [
                | inl b ↦ first ∙ sym (b ∙ ap (λ t. row.Dated t p y.0 y.1) too)
                | inr b ↦ (let second = b ∙ ap (λ t. row.Dated t y.0 p y.1) too in
                    let up = friendship_rises g p y.0 y.1 graph (subst (Contains g) first held) in
                    let down = friendship_rises g y.0 p y.1 graph (subst (Contains g) second also) in
                    absurd (omega (arith, up, down)))
              ])
          | inr a ↦ (let first = a ∙ ap (λ t. row.Dated t y.0 p y.1) of in
              elim (friend_row p y.0 y.1 s es) [
                | inl b ↦ (let second = b ∙ ap (λ t. row.Dated t p y.0 y.1) too in
                    let up = friendship_rises g p y.0 y.1 graph (subst (Contains g) second also) in
                    let down = friendship_rises g y.0 p y.1 graph (subst (Contains g) first held) in
                    absurd (omega (arith, up, down)))
                | inr b ↦ first ∙ sym (b ∙ ap (λ t. row.Dated t y.0 p y.1) too)
              ])
        ]

-- ---- nodes

pub person_row : (id : ℕ) (r : Row) (p : Person) → person_in id r ≡ Some p → (r ≡ row.Person p) × (p.id ≡ id)
person_row id (row.Person q) p e =
    let (test, same) = cond_some (q.id == id) q p e in
    (ap row.Person same, ap (λ (x : Person). x.id) (sym same) ∙ eqb-true q.id id test)
person_row id r p e = absurd cc

pub person_only : (g : List Row) (p : Person) → IsGraph g → Contains g (row.Person p) → persons g p.id ≡ p ∷ []
person_only g p graph c =
    one_chosen g graph (person_in p.id) (rows g table.Person) (slot (node_key kinds.Person p.id)) (rows_apart g table.Person graph) (λ r d. ((in_rows g table.Person r).0 d).0)
    (λ r y d e. (let (is, id) = person_row p.id r y e in ap slot_of is ∙ ap (λ n. slot (node_key kinds.Person n)) id)) (row.Person p) p ((in_rows g table.Person _).1 (c, refl)) (rw (eq-eqb p.id p.id refl) refl)

-- a person has the id under which it is
pub person_named : (g : List Row) (id : ℕ) (p : Person) → persons g id ≡ p ∷ [] → p.id ≡ id
person_named g id p is =
    let (r, there, gives) = given_by (person_in id) (rows g table.Person) p (subst (λ ps. Contains ps p) (sym is) (0, omega arith, refl)) in
    (person_row id r p gives).1

pub no_person : (g : List Row) (id : ℕ) → ¬ HasKey g (node_key kinds.Person id) → persons g id ≡ []
no_person g id none = none_of (persons g id) (λ p c.
    let (r, there, gives) = given_by (person_in id) (rows g table.Person) p c in
    let (is, same) = person_row id r p gives in
    none (record { it = r; held = ((in_rows g table.Person r).0 there).0; keyed = ap row_key is ∙ ap (node_key kinds.Person) same }))

forum_row : (id : ℕ) (r : Row) (f : Forum) → forum_in id r ≡ Some f → (r ≡ row.Forum f) × (f.id ≡ id)
forum_row id (row.Forum q) f e =
    let (test, same) = cond_some (q.id == id) q f e in
    (ap row.Forum same, ap (λ (x : Forum). x.id) (sym same) ∙ eqb-true q.id id test)
forum_row id r f e = absurd cc

pub forum_only : (g : List Row) (f : Forum) → IsGraph g → Contains g (row.Forum f) → forums g f.id ≡ f ∷ []
forum_only g f graph c =
    one_chosen g graph (forum_in f.id) (rows g table.Forum) (slot (node_key kinds.Forum f.id)) (rows_apart g table.Forum graph) (λ r d. ((in_rows g table.Forum r).0 d).0)
    (λ r y d e. (let (is, id) = forum_row f.id r y e in ap slot_of is ∙ ap (λ n. slot (node_key kinds.Forum n)) id)) (row.Forum f) f ((in_rows g table.Forum _).1 (c, refl)) (rw (eq-eqb f.id f.id refl) refl)

-- a row that shows a message
message_row : (id : ℕ) (r : Row) (m : Message) → message_in id r ≡ Some m → ((q : Post) × (r ≡ row.Post q) × (q.id ≡ id)) ⊎ ((c : Comment) × (r ≡ row.Comment c) × (c.id ≡ id))
message_row id (row.Post q) m e = inl (q, refl, eqb-true q.id id (cond_some (q.id == id) _ m e).0)
message_row id (row.Comment c) m e = inr (c, refl, eqb-true c.id id (cond_some (c.id == id) _ m e).0)
message_row id r m e = absurd cc

message_slot : (id : ℕ) (r : Row) (m : Message) → message_in id r ≡ Some m → slot_of r ≡ slot (node_key kinds.Post id)
message_slot id r m e = elim (message_row id r m e) [
  | inl (q, is, same) ↦ ap slot_of is ∙ ap (λ n. slot (node_key kinds.Post n)) same
  | inr (c, is, same) ↦ ap slot_of is ∙ ap (λ n. slot (node_key kinds.Comment n)) same
]

-- a post or a comment
abbrev Messages : List Row → List Row
Messages g = rows g table.Post ++ rows g table.Comment

messages_held : (g : List Row) (r : Row) → Contains (Messages g) r → Contains g r
messages_held g r c = elim (Contains-append_cases (rows g table.Post) (rows g table.Comment) r c) [
  | inl d ↦ ((in_rows g table.Post r).0 d).0
  | inr d ↦ ((in_rows g table.Comment r).0 d).0
]

apart_rows : (g : List Row) → IsGraph g → IsApart (Messages g)
apart_rows g graph =
    apart_append (rows g table.Post) (rows g table.Comment) (rows_apart g table.Post graph) (rows_apart g table.Comment graph)
    (λ r c d. (let both : table.Post ≡ table.Comment = sym ((in_rows g table.Post r).0 c).1 ∙ ((in_rows g table.Comment r).0 d).1 in absurd cc))

pub post_only : (g : List Row) (q : Post) → IsGraph g → Contains g (row.Post q) → with_id g q.id ≡ post_shown q ∷ []
post_only g q graph c =
    one_chosen g graph (message_in q.id) (Messages g) _ (apart_rows g graph) (messages_held g) (λ r y d e. message_slot q.id r y e) (row.Post q) (post_shown q)
    (Contains-append_left (rows g table.Post) (rows g table.Comment) _ ((in_rows g table.Post _).1 (c, refl))) (rw (eq-eqb q.id q.id refl) refl)

pub comment_only : (g : List Row) (m : Comment) → IsGraph g → Contains g (row.Comment m) → with_id g m.id ≡ comment_shown m ∷ []
comment_only g m graph c =
    one_chosen g graph (message_in m.id) (Messages g) _ (apart_rows g graph) (messages_held g) (λ r y d e. message_slot m.id r y e) (row.Comment m) (comment_shown m)
    (Contains-append_right (rows g table.Post) (rows g table.Comment) _ ((in_rows g table.Comment _).1 (c, refl))) (rw (eq-eqb m.id m.id refl) refl)

pub no_message : (g : List Row) (id : ℕ) → ¬ HasMessage g id → with_id g id ≡ []
no_message g id none = none_of (with_id g id) (λ m c.
    let (r, there, gives) = given_by (message_in id) (Messages g) m c in
    let held = messages_held g r there in
    elim (message_row id r m gives) [
      | inl (q, is, same) ↦ none (inl (record { it = r; held = held; keyed = ap row_key is ∙ ap (node_key kinds.Post) same }))
      | inr (q, is, same) ↦ none (inr (record { it = r; held = held; keyed = ap row_key is ∙ ap (node_key kinds.Comment) same }))
    ])

pub comment_alone : (g : List Row) (m : Comment) → IsGraph g → Contains g (row.Comment m) → comments g m.id ≡ comment_shown m ∷ []
comment_alone g m graph c =
    one_chosen g graph (message_in m.id) (rows g table.Comment) _ (rows_apart g table.Comment graph) (λ r d. ((in_rows g table.Comment r).0 d).0) (λ r y d e. message_slot m.id r y e) (row.Comment m) (comment_shown m)
    ((in_rows g table.Comment _).1 (c, refl)) (rw (eq-eqb m.id m.id refl) refl)

-- ---- edges

end_row : (from to : ℕ) (r : Row) → end_in from r ≡ Some to → r ≡ row.Link (table_of r) from to
end_row from to (row.Link t a b) e =
    let (test, same) = cond_some (a == from) b to e in
    λ i. row.Link t (eqb-true a from test i) (same i)
end_row from to r e = absurd cc

start_row : (to from : ℕ) (r : Row) → start_in to r ≡ Some from → r ≡ row.Link (table_of r) from to
start_row to from (row.Link t a b) e =
    let (test, same) = cond_some (b == to) a from e in
    λ i. row.Link t (same i) (eqb-true b to test i)
start_row to from r e = absurd cc

pub end_there : (g : List Row) (t : Table) (from to : ℕ) → Contains (ends g t from) to → Contains g (row.Link t from to)
end_there g t from to c =
    let (r, there, gives) = given_by (end_in from) (rows g t) to c in
    let (held, of) = (in_rows g t r).0 there in
    subst (Contains g) (end_row from to r gives ∙ ap (λ u. row.Link u from to) of) held

pub end_here : (g : List Row) (t : Table) (from to : ℕ) → Contains g (row.Link t from to) → Contains (ends g t from) to
end_here g t from to c = gives (end_in from) (rows g t) _ to ((in_rows g t _).1 (c, refl)) (rw (eq-eqb from from refl) refl)

-- in a table whose key is the first id
pub end_only : (g : List Row) (t : Table) (from to : ℕ) → IsGraph g → key_columns t ≡ First → Contains g (row.Link t from to) → ends g t from ≡ to ∷ []
end_only g t from to graph key c =
    one_chosen g graph (end_in from) (rows g t) (slot (t, from, 0, [])) (rows_apart g t graph) (λ r d. ((in_rows g t r).0 d).0)
    (λ r y d e. ap slot_of (end_row from y r e ∙ ap (λ u. row.Link u from y) ((in_rows g t r).0 d).1) ∙ ap (λ k. slot (edge_key k t from y)) key) (row.Link t from to) to
    ((in_rows g t _).1 (c, refl)) (rw (eq-eqb from from refl) refl)

pub container_only : (g : List Row) (forum post : ℕ) → IsGraph g → Contains g (row.Link table.ForumContainerOfPost forum post) → containers g post ≡ forum ∷ []
container_only g forum post graph c =
    one_chosen g graph (start_in post) (rows g table.ForumContainerOfPost) (slot (table.ForumContainerOfPost, post, 0, [])) (rows_apart g table.ForumContainerOfPost graph)
    (λ r d. ((in_rows g table.ForumContainerOfPost r).0 d).0)
    (λ r y d e. ap slot_of (start_row post y r e ∙ ap (λ u. row.Link u y post) ((in_rows g table.ForumContainerOfPost r).0 d).1)) (row.Link table.ForumContainerOfPost forum post) forum
    ((in_rows g table.ForumContainerOfPost _).1 (c, refl)) (rw (eq-eqb post post refl) refl)

-- who created a post, and who a comment
pub post_author : (g : List Row) (m a : ℕ) → IsGraph g → Contains g (row.Link table.PostHasCreatorPerson m a) → ((b : ℕ) → ¬ Contains g (row.Link table.CommentHasCreatorPerson m b)) → authors g m ≡ a ∷ []
post_author g m a graph c never =
    let first = end_only g table.PostHasCreatorPerson m a graph refl c in
    let second = none_of (ends g table.CommentHasCreatorPerson m) (λ b d. never b (end_there g table.CommentHasCreatorPerson m b d)) in
    rw (first, second) refl

pub comment_author : (g : List Row) (m a : ℕ) → IsGraph g → Contains g (row.Link table.CommentHasCreatorPerson m a) → ((b : ℕ) → ¬ Contains g (row.Link table.PostHasCreatorPerson m b)) → authors g m ≡ a ∷ []
comment_author g m a graph c never =
    let first = none_of (ends g table.PostHasCreatorPerson m) (λ b d. never b (end_there g table.PostHasCreatorPerson m b d)) in
    let second = end_only g table.CommentHasCreatorPerson m a graph refl c in
    rw (first, second) refl

-- ---- a person's messages, and replies to a message

-- a post of this id and date is held, or a comment
abbrev pub HasPost : List Row → ℕ → ℕ → Type 0
HasPost g id date = (q : Post) × Contains g (row.Post q) × (q.id ≡ id) × (q.creation_date ≡ date)

abbrev pub HasComment : List Row → ℕ → ℕ → Type 0
HasComment g id date = (m : Comment) × Contains g (row.Comment m) × (m.id ≡ id) × (m.creation_date ≡ date)

-- the person created a message of this id and date
abbrev pub Sent : List Row → ℕ → ℕ → ℕ → Type 0
Sent g p id date =
    (Contains g (row.Link table.PostHasCreatorPerson id p) × HasPost g id date)
    ⊎ (Contains g (row.Link table.CommentHasCreatorPerson id p) × HasComment g id date)

pair_is : (a b : ℕ) (y : ℕ × ℕ) → ◌≡◌ {A = ℕ × ℕ} (a, b) y → (a ≡ y.0) × (b ≡ y.1)
pair_is a b y e = (ap (λ (x : ℕ × ℕ). x.0) e, ap (λ (x : ℕ × ℕ). x.1) e)

sent_row : (g : List Row) (p id date : ℕ) (r : Row) → Contains g r → message_of g p r ≡ Some (id, date) → Sent g p id date
sent_row g p id date (row.Post q) c e =
    let (test, same) = cond_some (has p (ends g table.PostHasCreatorPerson q.id)) (q.id, q.creation_date) (id, date) e in
    let (is, at) = pair_is q.id q.creation_date (id, date) same in
    inl (subst (λ n. Contains g (row.Link table.PostHasCreatorPerson n p)) is (end_there g table.PostHasCreatorPerson q.id p (from_has p _ test)), (q, c, is, at))
sent_row g p id date (row.Comment m) c e =
    let (test, same) = cond_some (has p (ends g table.CommentHasCreatorPerson m.id)) (m.id, m.creation_date) (id, date) e in
    let (is, at) = pair_is m.id m.creation_date (id, date) same in
    inr (subst (λ n. Contains g (row.Link table.CommentHasCreatorPerson n p)) is (end_there g table.CommentHasCreatorPerson m.id p (from_has p _ test)), (m, c, is, at))
sent_row g p id date r c e = absurd cc

pub sent_there : (g : List Row) (p id date : ℕ) → Contains (messages g p) (id, date) → Sent g p id date
sent_there g p id date c =
    let (r, there, gives) = given_by (message_of g p) (Messages g) (id, date) c in
    sent_row g p id date r (messages_held g r there) gives

pub sent_here : (g : List Row) (p id date : ℕ) → Sent g p id date → Contains (messages g p) (id, date)
sent_here g p id date (inl (link, (q, c, is, at))) =
    gives (message_of g p) (Messages g) (row.Post q) (id, date) (Contains-append_left (rows g table.Post) (rows g table.Comment) _ ((in_rows g table.Post _).1 (c, refl)))
    (rw (has_from p (ends g table.PostHasCreatorPerson q.id) (end_here g table.PostHasCreatorPerson q.id p (subst (λ n. Contains g (row.Link table.PostHasCreatorPerson n p)) (sym is) link))) (λ i. Some (is i, at i)))
sent_here g p id date (inr (link, (m, c, is, at))) =
    gives (message_of g p) (Messages g) (row.Comment m) (id, date) (Contains-append_right (rows g table.Post) (rows g table.Comment) _ ((in_rows g table.Comment _).1 (c, refl)))
    (rw (has_from p (ends g table.CommentHasCreatorPerson m.id) (end_here g table.CommentHasCreatorPerson m.id p (subst (λ n. Contains g (row.Link table.CommentHasCreatorPerson n p)) (sym is) link))) (λ i. Some (is i, at i)))

-- messages fill slots of their own
sent_slot : (g : List Row) (p : ℕ) (r : Row) (y : ℕ × ℕ) → message_of g p r ≡ Some y → slot_of r ≡ slot (node_key kinds.Post y.0)
sent_slot g p (row.Post q) y e =
    let (test, same) = cond_some (has p (ends g table.PostHasCreatorPerson q.id)) (q.id, q.creation_date) y e in
    ap (λ (x : ℕ × ℕ). slot (node_key kinds.Post x.0)) same
sent_slot g p (row.Comment m) y e =
    let (test, same) = cond_some (has p (ends g table.CommentHasCreatorPerson m.id)) (m.id, m.creation_date) y e in
    ap (λ (x : ℕ × ℕ). slot (node_key kinds.Post x.0)) same
sent_slot g p r y e = absurd cc

pub messages_apart : (g : List Row) (p : ℕ) → IsGraph g → IsApart (messages g p)
messages_apart g p graph =
    apart_chosen (message_of g p) (Messages g) (apart_rows g graph)
    (λ r s y cr cs er es. graph.apart r s (messages_held g r cr) (messages_held g s cs) (sent_slot g p r y er ∙ sym (sent_slot g p s y es)))

-- the comment of this id and date replies to the message
abbrev pub Replied : List Row → ℕ → ℕ → ℕ → Type 0
Replied g m id date = RepliesTo g id m × HasComment g id date

parent_there : (g : List Row) (c m : ℕ) → Contains (parents g c) m → RepliesTo g c m
parent_there g c m d = elim (Contains-append_cases (ends g table.CommentReplyOfPost c) (ends g table.CommentReplyOfComment c) m d) [
  | inl e ↦ inl (end_there g table.CommentReplyOfPost c m e)
  | inr e ↦ inr (end_there g table.CommentReplyOfComment c m e)
]

parent_here : (g : List Row) (c m : ℕ) → RepliesTo g c m → Contains (parents g c) m
parent_here g c m (inl e) = Contains-append_left (ends g table.CommentReplyOfPost c) _ m (end_here g table.CommentReplyOfPost c m e)
parent_here g c m (inr e) = Contains-append_right (ends g table.CommentReplyOfPost c) _ m (end_here g table.CommentReplyOfComment c m e)

replied_row : (g : List Row) (m id date : ℕ) (r : Row) → Contains g r → reply_of g m r ≡ Some (id, date) → Replied g m id date
replied_row g m id date (row.Comment c) held e =
    let (test, same) = cond_some (has m (parents g c.id)) (c.id, c.creation_date) (id, date) e in
    let (is, at) = pair_is c.id c.creation_date (id, date) same in
    (subst (λ n. RepliesTo g n m) is (parent_there g c.id m (from_has m _ test)), (c, held, is, at))
replied_row g m id date r held e = absurd cc

pub replied_there : (g : List Row) (m id date : ℕ) → Contains (replies g m) (id, date) → Replied g m id date
replied_there g m id date c =
    let (r, there, gives) = given_by (reply_of g m) (rows g table.Comment) (id, date) c in
    replied_row g m id date r ((in_rows g table.Comment r).0 there).0 gives

pub replied_here : (g : List Row) (m id date : ℕ) → Replied g m id date → Contains (replies g m) (id, date)
replied_here g m id date (link, (c, held, is, at)) =
    gives (reply_of g m) (rows g table.Comment) (row.Comment c) (id, date) ((in_rows g table.Comment _).1 (held, refl))
    (rw (has_from m (parents g c.id) (parent_here g c.id m (subst (λ n. RepliesTo g n m) (sym is) link))) (λ i. Some (is i, at i)))

replied_slot : (g : List Row) (m : ℕ) (r : Row) (y : ℕ × ℕ) → reply_of g m r ≡ Some y → slot_of r ≡ slot (node_key kinds.Post y.0)
replied_slot g m (row.Comment c) y e =
    let (test, same) = cond_some (has m (parents g c.id)) (c.id, c.creation_date) y e in
    ap (λ (x : ℕ × ℕ). slot (node_key kinds.Post x.0)) same
replied_slot g m r y e = absurd cc

pub replies_apart : (g : List Row) (m : ℕ) → IsGraph g → IsApart (replies g m)
replies_apart g m graph =
    apart_chosen (reply_of g m) (rows g table.Comment) (rows_apart g table.Comment graph)
    (λ r s y cr cs er es. graph.apart r s ((in_rows g table.Comment r).0 cr).0 ((in_rows g table.Comment s).0 cs).0 (replied_slot g m r y er ∙ sym (replied_slot g m s y es)))

-- ---- likes

-- the person likes the message from this date on
abbrev pub Liked : List Row → ℕ → ℕ → ℕ → Type 0
Liked g m p d = Contains g (row.Dated table.PersonLikesPost p m d) ⊎ Contains g (row.Dated table.PersonLikesComment p m d)

liker_row : (m : ℕ) (r : Row) (y : ℕ × ℕ) → liker_in m r ≡ Some y → r ≡ row.Dated (table_of r) y.0 m y.1
liker_row m (row.Dated t from to date) y e =
    let (test, same) = cond_some (to == m) (from, date) y e in
    λ i. row.Dated t ((same i).0) (eqb-true to m test i) ((same i).1)
liker_row m r y e = absurd cc

-- a like in one table
pub liker_there : (g : List Row) (t : Table) (m p d : ℕ) → Contains (likes_in g t m) (p, d) → Contains g (row.Dated t p m d)
liker_there g t m p d c =
    let (r, there, gives) = given_by (liker_in m) (rows g t) (p, d) c in
    let (held, of) = (in_rows g t r).0 there in
    subst (Contains g) (liker_row m r (p, d) gives ∙ ap (λ u. row.Dated u p m d) of) held

pub liker_here : (g : List Row) (t : Table) (m p d : ℕ) → Contains g (row.Dated t p m d) → Contains (likes_in g t m) (p, d)
liker_here g t m p d c = gives (liker_in m) (rows g t) (row.Dated t p m d) (p, d) ((in_rows g t _).1 (c, refl)) (rw (eq-eqb m m refl) refl)

pub likers_apart : (g : List Row) (t : Table) (m : ℕ) → IsGraph g → IsApart (likes_in g t m)
likers_apart g t m graph =
    apart_chosen (liker_in m) (rows g t) (rows_apart g t graph)
    (λ r s y c d e h. liker_row m r y e ∙ ap (λ u. row.Dated u y.0 m y.1) (((in_rows g t r).0 c).1 ∙ sym ((in_rows g t s).0 d).1) ∙ sym (liker_row m s y h))

-- the likes of a message are those in both tables
pub likes_split : (g : List Row) (m : ℕ) → likes g m ≡ likes_in g table.PersonLikesPost m ++ likes_in g table.PersonLikesComment m
likes_split g m = filter_map-append (liker_in m) (rows g table.PersonLikesPost) (rows g table.PersonLikesComment)

pub like_there : (g : List Row) (m p d : ℕ) → Contains (likes g m) (p, d) → Liked g m p d
like_there g m p d c = elim (Contains-append_cases (likes_in g table.PersonLikesPost m) (likes_in g table.PersonLikesComment m) (p, d) (subst (λ l. Contains l (p, d)) (likes_split g m) c)) [
  | inl a ↦ inl (liker_there g table.PersonLikesPost m p d a)
  | inr a ↦ inr (liker_there g table.PersonLikesComment m p d a)
]

-- ---- stays

pub stay_row : (p : ℕ) (r : Row) (y : ℕ × ℕ) → stay_in p r ≡ Some y → r ≡ row.Yeared (table_of r) p y.0 y.1
stay_row p (row.Yeared t from to year) y e =
    let (test, same) = cond_some (from == p) (to, year) y e in
    λ i. row.Yeared t (eqb-true from p test i) ((same i).0) ((same i).1)
stay_row p r y e = absurd cc

pub stay_there : (g : List Row) (t : Table) (p id year : ℕ) → Contains (filter_map (stay_in p) (rows g t)) (id, year) → Contains g (row.Yeared t p id year)
stay_there g t p id year c =
    let (r, there, gives) = given_by (stay_in p) (rows g t) (id, year) c in
    let (held, of) = (in_rows g t r).0 there in
    subst (Contains g) (stay_row p r (id, year) gives ∙ ap (λ u. row.Yeared u p id year) of) held

pub stay_here : (g : List Row) (t : Table) (p id year : ℕ) → Contains g (row.Yeared t p id year) → Contains (filter_map (stay_in p) (rows g t)) (id, year)
stay_here g t p id year c = gives (stay_in p) (rows g t) (row.Yeared t p id year) (id, year) ((in_rows g t _).1 (c, refl)) (rw (eq-eqb p p refl) refl)

-- ---- walks

-- pairs by rising id
pub rising_apart : (pairs : List (ℕ × ℕ)) → IsStrictlySortedBy nat_cmp (keys_of pairs) → IsApart pairs
unfolding IsStrictlySortedBy
rising_apart [] s = tt
rising_apart (x ∷ xs) s = (λ c. not_above xs s.0 c, rising_apart xs s.1)
  where
    not_above : (ys : List (ℕ × ℕ)) → AllByRecursion (λ k. nat_cmp x.0 k ≡ Less) (keys_of ys) → Contains ys x → ⊥
    not_above [] all c = omega (arith, c.1)
    not_above (y ∷ ys) all c = elim (contains_cases y ys x c) [
      | inl e ↦ (let l : nat_cmp x.0 x.0 ≡ Less = subst (λ (z : ℕ × ℕ). nat_cmp x.0 z.0 ≡ Less) e all.0 in
          let t = tied_itself nat_cmp_total x.0 in cc)
      | inr later ↦ not_above ys all.1 later
    ]

-- pairs by rising id of the same elements as a list without repeats are that list in another order
pub walk_moved : (all pairs : List (ℕ × ℕ)) → IsApart all → IsStrictlySortedBy nat_cmp (keys_of pairs) → ((id date : ℕ) → Contains all (id, date) ↔ Contains pairs (id, date)) → IsPermutation all pairs
walk_moved all pairs apart rises same = same_moved all pairs apart (rising_apart pairs rises) (λ z. same z.0 z.1)

pub city_alone : (u : Table) → sharing u ≡ table.PersonIsLocatedInPlace → u ≡ table.PersonIsLocatedInPlace
city_alone table.PersonIsLocatedInPlace e = refl
city_alone u e = absurd cc

pub container_alone : (u : Table) → sharing u ≡ table.ForumContainerOfPost → u ≡ table.ForumContainerOfPost
container_alone table.ForumContainerOfPost e = refl
container_alone u e = absurd cc

pub moderator_alone : (u : Table) → sharing u ≡ table.ForumHasModeratorPerson → u ≡ table.ForumHasModeratorPerson
moderator_alone table.ForumHasModeratorPerson e = refl
moderator_alone u e = absurd cc

pub organisation_row : (id : ℕ) (r : Row) (o : Organisation) → organisation_in id r ≡ Some o → (r ≡ row.Organisation o) × (o.id ≡ id)
organisation_row id (row.Organisation q) o e =
    let (test, same) = cond_some (q.id == id) q o e in
    (ap row.Organisation same, ap (λ (x : Organisation). x.id) (sym same) ∙ eqb-true q.id id test)
organisation_row id r o e = absurd cc

pub place_row : (id : ℕ) (r : Row) (p : Place) → place_in id r ≡ Some p → (r ≡ row.Place p) × (p.id ≡ id)
place_row id (row.Place q) p e =
    let (test, same) = cond_some (q.id == id) q p e in
    (ap row.Place same, ap (λ (x : Place). x.id) (sym same) ∙ eqb-true q.id id test)
place_row id r p e = absurd cc
