-- Persons of a first name, side by side with what they show.
use Rattle.std.proofs.Common.{◌≡◌, ℕ, ◌+◌, ◌<◌, ◌≤◌, Bool, true, false, cond, List, [], ◌∷◌, ◌++◌, length, get_or, map, take, refl, sym, ap, ◌∙◌, subst, arith, append_assoc}
use Rattle.std.proofs.lemmas.Cmp.{nat_cmp_total, on_total, then_total}
use Rattle.std.proofs.lemmas.List.{append-nil, map_push, take_all, take_more}
use Rattle.std.proofs.lemmas.List.Elements.{All-contains_itself, All-head, All-push, All-tail, All-weaker}
use Rattle.std.proofs.lemmas.List.Sorted.{IsPermutation-refl}
use Rattle.std.specs.Cmp.{IsTotalOrder}
use Rattle.std.specs.Cmp.Lexicographic.{nat_list_cmp_total, slice_cmp}
use Rattle.std.specs.List.{All, AllZip, Contains, filter}
use Rattle.std.specs.Ordering.{is_lt, nat_cmp, on, ordering_then, then_cmp}
use Rattle.std.specs.Str.{bytes_eq}
use Rattle.std.specs.declared.cmp.Ordering.{Ordering}
use Rattle.std.specs.declared.cmp.Ordering.TheVariants.{Equal}
use Rattle.snb_schema.specs.declared.person.Person.{Person}
use Rattle.snb_schema.specs.declared.row.Row.{Row}
use Rattle.snb_schema.specs.declared.row.Row.TheVariants as row
use Rattle.snb_schema.specs.declared.table.Kind.TheVariants as kinds
use Rattle.snb_schema.specs.declared.table.Table.TheVariants as table
use Rattle.snb_schema.specs.RowKeys.{node_key}
use Rattle.snb_graph_integrity.specs.SoundLaws.{RequiredEdgesAreThere}
use Rattle.snb_graph_model.specs.Graphs.{HasKey, IsGraph}
use Rattle.snb_graph_model.specs.Soundness.{HoldsRefs, Sound}
use Rattle.snb_read_order.specs.Laws.{SomeFirst}
use Rattle.snb_read_order.proofs.Laws.{answers_from, answers_mapped, chosen, number_cmp, then_assoc, zip_push, zip_with}
use Rattle.snb_graph_model.proofs.Laws.{city_alone, end_only, end_there}
use Rattle.snb_read_model.specs.declared.cell.Cell.TheVariants as cell
use Rattle.snb_read_model.specs.Cells.{ByteCell, cell_cmp, number_cell}
use Rattle.snb_graph_model.specs.Around.{ends, persons, study, words, work}
use Rattle.snb_read_model.specs.ComplexReads.{AreStays, IsNamesake, IsStay, Stay, is_named, stay_cmp}
use Rattle.snb_read_model.specs.Distance.{IsPerson, IsWithin}
use Rattle.snb_read_model.specs.Order.{ReadAnswers, FirstRows, SortedAndCut, Rising, AllRows, by}
use Rattle.snb_read_lookups.proofs.Laws.{any, edge_key_held, filter_push, walk_held}
use Rattle.snb_complex_persons.proofs.Columns.{any_one, words_cmp}
use Rattle.snb_complex_persons.proofs.StayLemmas.{is_somewhere, link_at, place_at, study_found, work_found}
use Rattle.snb_complex_persons.specs.Stays.{IsStayFound}
use Rattle.snb_complex_persons.specs.Namesakes.{AreNamesakes, IsNamesakeFound, IsNearFound, Namesake, namesake_of}
use Rattle.snb_base.proofs.Laws.{one_only, then_last}
use Rattle.snb_read_laws.proofs.Laws.{stay_total}

-- ---- orders

-- distances rising, last names rising, ids rising
abbrev pub namesakes_first : Namesake → Namesake → Ordering
namesakes_first = then_cmp (then_cmp (on (λ (k : Namesake). k.1) nat_cmp) (on (λ (k : Namesake). k.0.now.last_name) (slice_cmp nat_cmp))) (on (λ (k : Namesake). k.0.now.id) nat_cmp)

pub namesakes_total : IsTotalOrder namesakes_first
namesakes_total = then_total (then_total (on_total (λ (k : Namesake). k.1) nat_cmp_total) (on_total (λ (k : Namesake). k.0.now.last_name) nat_list_cmp_total)) (on_total (λ (k : Namesake). k.0.now.id) nat_cmp_total)

-- ---- the persons near

pub near_is : (g : List Row) (start steps : ℕ) → steps ≤ 3 → (near : List (ℕ × ℕ)) → IsWithin g start steps near → All (IsNearFound g) near
near_is g start steps few near is = All-weaker (Contains near) (IsNearFound g) (λ n c. (let far = (is.exact n.0 n.1).0 c in let low = far.2 in
    record { held = walk_held g start n.0 n.1 far.0.walk; fits = omega (arith, low, few) })) near (All-contains_itself near)

pub named_is : (g : List Row) (name : List ℕ) (n : ℕ × ℕ) (p : Person) → persons g n.0 ≡ p ∷ [] → is_named g name n ≡ bytes_eq p.first_name name
named_is g name n p only = any_one (λ (p : Person). bytes_eq p.first_name name) (persons g n.0) p only

module _ (g : List Row) (name : List ℕ) (near : List (ℕ × ℕ)) (i : ℕ) (d : ℕ × ℕ) (found : List Namesake) (small : i < length near) where
  after : (b : Bool) → is_named g name (get_or near i d) ≡ b → filter (is_named g name) (take (i + 1) near) ≡ filter (is_named g name) (take i near) ++ cond b (get_or near i d ∷ []) []
  after b e = ap (filter (is_named g name)) (take_more near i d small) ∙ filter_push (is_named g name) (take i near) (get_or near i d) b e

  pub named_over : is_named g name (get_or near i d) ≡ false → AreNamesakes g (filter (is_named g name) (take i near)) found → AreNamesakes g (filter (is_named g name) (take (i + 1) near)) found
  named_over e are = subst (λ l. AreNamesakes g l found) (sym (append-nil (filter (is_named g name) (take i near))) ∙ sym (after false e)) are

  pub named_next : (k : Namesake) (new : List Namesake) → is_named g name (get_or near i d) ≡ true → new ≡ found ++ k ∷ [] → namesake_of k ≡ get_or near i d → IsNamesakeFound g k
      → AreNamesakes g (filter (is_named g name) (take i near)) found → AreNamesakes g (filter (is_named g name) (take (i + 1) near)) new
  named_next k new e push shows it are = record {
    same = ap (map namesake_of) push ∙ map_push namesake_of found k ∙ (λ j. are.same j ++ shows j ∷ []) ∙ sym (after true e);
    each = subst (All (IsNamesakeFound g)) (sym push) (All-push (IsNamesakeFound g) found k are.each it);
  }

pub named_all : (g : List Row) (name : List ℕ) (near : List (ℕ × ℕ)) (i : ℕ) (found : List Namesake) → length near ≤ i → AreNamesakes g (filter (is_named g name) (take i near)) found → AreNamesakes g (filter (is_named g name) near) found
named_all g name near i found high are = subst (λ l. AreNamesakes g (filter (is_named g name) l) found) (take_all i near high) are

-- ---- stays

-- what is named so far, and what the walk has still to give, are all
pub record IsNaming (g : List Row) (all left : List (ℕ × ℕ)) (named : List Stay) : Type 0 where
  pub done : List (ℕ × ℕ)
  pub same : done ++ left ≡ all
  pub each : AllZip (IsStay g) done named
  pub found : All (IsStayFound g) left

pub naming_begins : (g : List Row) (all left : List (ℕ × ℕ)) (named : List Stay) → left ≡ all → named ≡ [] → All (IsStayFound g) all → IsNaming g all left named
naming_begins g all left named is none found = record {
  done = [];
  same = is;
  each = subst (AllZip (IsStay g) []) (sym none) tt;
  found = subst (All (IsStayFound g)) (sym is) found;
}

pub naming_head : (g : List Row) (all left rest : List (ℕ × ℕ)) (named : List Stay) (s : ℕ × ℕ) → left ≡ s ∷ rest → IsNaming g all left named → IsStayFound g s
naming_head g all left rest named s is naming = All-head (IsStayFound g) s rest (subst (All (IsStayFound g)) is naming.found)

pub naming_next : (g : List Row) (all left rest : List (ℕ × ℕ)) (named new : List Stay) (s : ℕ × ℕ) (t : Stay) → left ≡ s ∷ rest → IsStay g s t → new ≡ named ++ t ∷ [] → IsNaming g all left named → IsNaming g all rest new
naming_next g all left rest named new s t is stay push naming = record {
  done = naming.done ++ s ∷ [];
  same = append_assoc naming.done (s ∷ []) rest ∙ ap (λ l. naming.done ++ l) (sym is) ∙ naming.same;
  each = subst (AllZip (IsStay g) (naming.done ++ s ∷ [])) (sym push) (zip_push (IsStay g) naming.done named s t naming.each stay);
  found = All-tail (IsStayFound g) s rest (subst (All (IsStayFound g)) is naming.found);
}

pub naming_done : (g : List Row) (all left : List (ℕ × ℕ)) (named shown : List Stay) → left ≡ [] → SortedAndCut stay_cmp AllRows named shown → IsNaming g all left named → AreStays g all shown
naming_done g all left named shown none first naming = record {
  named = named;
  each = subst (λ l. AllZip (IsStay g) l named) (sym (append-nil naming.done) ∙ ap (λ l. naming.done ++ l) (sym none) ∙ naming.same) naming.each;
  first = first;
}

-- ---- rows

pub city_place : (g : List Row) → HoldsRefs g → (p c : ℕ) → ends g table.PersonIsLocatedInPlace p ≡ c ∷ [] → HasKey g (node_key kinds.Place c)
city_place g held p c only =
    let link = end_there g table.PersonIsLocatedInPlace p c (subst (λ l. Contains l c) (sym only) (0, omega arith, refl)) in
    held (row.Link table.PersonIsLocatedInPlace p c) link 1 any (omega arith)

module _ (g : List Row) (graph : IsGraph g) (sound : Sound g) (required : RequiredEdgesAreThere) where
  stays_named : (xs : List (ℕ × ℕ)) → All (IsStayFound g) xs → (named : List Stay) × AllZip (IsStay g) xs named
  stays_named [] all = ([], tt)
  stays_named (s ∷ xs) all =
      let (named, zip) = stays_named xs (All-tail (IsStayFound g) s xs all) in
      let (o, p, at) = is_somewhere g graph required sound s.0 (All-head (IsStayFound g) s xs all).held in
      ((o.name, s.1, p.name) ∷ named, (record { organisation = o; place = p; at = at; is = refl }, zip))

  are_stays : SomeFirst Stay → (xs : List (ℕ × ℕ)) → All (IsStayFound g) xs → (shown : List Stay) × AreStays g xs shown
  are_stays some xs all =
      let (named, zip) = stays_named xs all in
      let (shown, first) = some stay_cmp AllRows named stay_total in
      (shown, record { named = named; each = zip; first = first })

  -- the edge that leads to a person's city
  pub home : (p : ℕ) → IsPerson g p → (c : ℕ) × Contains g (row.Link table.PersonIsLocatedInPlace p c)
  home p h =
      link_at g graph table.PersonIsLocatedInPlace p refl refl
      (edge_key_held g graph table.PersonIsLocatedInPlace p refl city_alone (required g graph sound table.Person table.PersonIsLocatedInPlace (2, omega arith, refl) p h))

  lives : (p : ℕ) → IsPerson g p → (c : ℕ) × (ends g table.PersonIsLocatedInPlace p ≡ c ∷ [])
  lives p h = let (c, link) = home p h in (c, end_only g table.PersonIsLocatedInPlace p c graph refl link)

  abbrev Shown : Namesake → List ByteCell → Type 0
  Shown k a = IsNamesake g (namesake_of k) a × IsNamesakeFound g k

  person_is : (k : Namesake) (a : List ByteCell) (s : Shown k a) → s.0.person.last_name ≡ k.0.now.last_name
  person_is k a (r, f) = ap (λ (p : Person). p.last_name) (one_only (persons g k.0.now.id) r.person k.0.now r.held f.person.only)

  namesake_agree : (x y : Namesake) (a b : List ByteCell) → Shown x a → Shown y b → is_lt (by (Rising 3 ∷ Rising 2 ∷ Rising 1 ∷ []) a b) ≡ is_lt (namesakes_first x y)
  namesake_agree x y a b r s =
      let first = person_is x a r in
      let second = person_is y b s in
      rw (r.0.is, s.0.is, first, second) (ap is_lt (columns x.1 y.1 x.0.now.id y.0.now.id x.0.now.last_name y.0.now.last_name))
    where
      columns : (m m' n n' : ℕ) (t t' : List ℕ) → ordering_then (cell_cmp (number_cell m) (number_cell m')) (ordering_then (cell_cmp (cell.Words t) (cell.Words t')) (ordering_then (cell_cmp (number_cell n) (number_cell n')) Equal))
          ≡ ordering_then (ordering_then (nat_cmp m m') (slice_cmp nat_cmp t t')) (nat_cmp n n')
      columns m m' n n' t t' =
          ap (λ o. ordering_then o (ordering_then (cell_cmp (cell.Words t) (cell.Words t')) (ordering_then (cell_cmp (number_cell n) (number_cell n')) Equal))) (number_cmp m m')
          ∙ ap (λ o. ordering_then (nat_cmp m m') (ordering_then o (ordering_then (cell_cmp (number_cell n) (number_cell n')) Equal))) (words_cmp t t')
          ∙ ap (λ o. ordering_then (nat_cmp m m') (ordering_then (slice_cmp nat_cmp t t') o)) (then_last (cell_cmp (number_cell n) (number_cell n')) ∙ number_cmp n n')
          ∙ then_assoc (nat_cmp m m') (slice_cmp nat_cmp t t') (nat_cmp n n')

  module _ (texts : SomeFirst (List ℕ)) (some : SomeFirst Stay) where
    -- each person has a row
    namesake_any : (k : Namesake) → IsNamesakeFound g k → (a : List ByteCell) × Shown k a
    namesake_any k f =
        let id = k.0.now.id in
        let (c, home) = lives id f.held in
        let (p, there) = place_at g graph c (city_place g sound.held id c home) in
        let (emails, mails) = texts (slice_cmp nat_cmp) AllRows (words g table.PersonEmailEmailAddress id) nat_list_cmp_total in
        let (languages, speaks) = texts (slice_cmp nat_cmp) AllRows (words g table.PersonSpeaksLanguage id) nat_list_cmp_total in
        let (universities, studied) = are_stays some (study g id) (study_found g graph sound.held id) in
        let (companies, worked) = are_stays some (work g id) (work_found g graph sound.held id) in (
          _,
          (
            record {
              person = k.0.now;
              held = f.person.only;
              city = c;
              lives = home;
              place = p;
              there = there;
              emails = emails;
              mails = mails;
              languages = languages;
              speaks = speaks;
              universities = universities;
              studied = studied;
              companies = companies;
              worked = worked;
              is = refl;
            },
            f,
          ),
        )

    -- the rows of the first persons are the answer
    pub namesake_answers : (found first : List Namesake) (answer : List (List ByteCell)) → All (IsNamesakeFound g) found → SortedAndCut namesakes_first (FirstRows 20) found first → AllZip (λ k a. IsNamesake g (namesake_of k) a) first answer
        → ReadAnswers (map namesake_of found) (IsNamesake g) (Rising 3 ∷ Rising 2 ∷ Rising 1 ∷ []) (FirstRows 20) answer
    namesake_answers found first answer all taken z =
        answers_mapped namesake_of Shown (IsNamesake g) (λ k a s. s.0) (map namesake_of found) found (Rising 3 ∷ Rising 2 ∷ Rising 1 ∷ []) (FirstRows 20) answer (IsPermutation-refl (map namesake_of found))
        (answers_from Shown namesakes_first (Rising 3 ∷ Rising 2 ∷ Rising 1 ∷ []) namesake_agree (FirstRows 20) found found first answer (IsPermutation-refl found) taken
        (All-weaker (IsNamesakeFound g) (λ k. (a : List ByteCell) × Shown k a) namesake_any found all)
        (zip_with (λ k a. IsNamesake g (namesake_of k) a) (IsNamesakeFound g) first answer (chosen (IsNamesakeFound g) namesakes_first (FirstRows 20) found first all taken) z))
