-- Organisations and places, and the stays and words of persons.
use Rattle.std.proofs.Common.{◌≡◌, ℕ, ◌==◌, ◌≤◌, Bool, true, false, cond, nat_eq, List, [], ◌∷◌, map, Some, None, refl, sym, ap, ◌∙◌, subst, arith}
use Rattle.std.proofs.lemmas.Bool.{eq-eqb}
use Rattle.std.proofs.lemmas.List.Elements.{All-contains, All-contains_itself, All-head, All-tail, All-weaker}
use Rattle.std.specs.List.{All, Contains, cons_option, filter, filter_map}
use Rattle.snb_schema.specs.declared.layout.KeyColumns.TheVariants.{First}
use Rattle.snb_schema.specs.declared.layout.Shape.TheVariants as shapes
use Rattle.snb_schema.specs.declared.nodes.Organisation.{Organisation}
use Rattle.snb_schema.specs.declared.nodes.Place.{Place}
use Rattle.snb_schema.specs.declared.row.Row.{Row}
use Rattle.snb_schema.specs.declared.row.Row.TheVariants as row
use Rattle.snb_schema.specs.declared.table.Kind.TheVariants as kinds
use Rattle.snb_schema.specs.declared.table.Table.{Table}
use Rattle.snb_schema.specs.declared.table.Table.TheVariants as table
use Rattle.snb_schema.specs.Layouts.{key_columns, shape}
use Rattle.snb_schema.specs.RowKeys.{RowKey, edge_key, node_key, row_key, sharing, slot, slot_of}
use Rattle.snb_schema.specs.RowValues.{row_shape, table_of}
use Rattle.snb_schema.specs.TableRows.{IsTableRow}
use Rattle.snb_graph_rows.specs.Keyed.{key_table}
use Rattle.snb_graph_tables.specs.Words.{words_of}
use Rattle.snb_graph_integrity.specs.SoundLaws.{RequiredEdgesAreThere}
use Rattle.snb_graph_model.specs.Graphs.{HasKey, IsGraph, rows}
use Rattle.snb_graph_model.specs.Soundness.{HoldsRefs, Sound}
use Rattle.snb_graph_model.proofs.Laws.{end_only, in_rows, one_chosen, organisation_row, place_row, rows_apart, stay_there}
use Rattle.snb_graph_model.specs.Around.{ends, organisations, places, study, words, work}
use Rattle.snb_graph_model.specs.RowParts.{organisation_in, place_in, word_in}
use Rattle.snb_read_model.specs.ComplexReads.{HasItsPlace}
use Rattle.snb_read_lookups.proofs.Laws.{any, edge_key_held}
use Rattle.snb_complex_persons.specs.Stays.{IsStayFound}

-- ---- organisations and places

module _ (g : List Row) (graph : IsGraph g) where
  organisation_alone : (o : Organisation) → Contains g (row.Organisation o) → organisations g o.id ≡ o ∷ []
  organisation_alone o c =
      one_chosen g graph (organisation_in o.id) (rows g table.Organisation) (slot (node_key kinds.Organisation o.id)) (rows_apart g table.Organisation graph) (λ r d. ((in_rows g table.Organisation r).0 d).0)
      (λ r y d e. (let (is, id) = organisation_row o.id r y e in ap slot_of is ∙ ap (λ n. slot (node_key kinds.Organisation n)) id)) (row.Organisation o) o
      ((in_rows g table.Organisation _).1 (c, refl)) (rw (eq-eqb o.id o.id refl) refl)

  place_alone : (p : Place) → Contains g (row.Place p) → places g p.id ≡ p ∷ []
  place_alone p c =
      one_chosen g graph (place_in p.id) (rows g table.Place) (slot (node_key kinds.Place p.id)) (rows_apart g table.Place graph) (λ r d. ((in_rows g table.Place r).0 d).0)
      (λ r y d e. (let (is, id) = place_row p.id r y e in ap slot_of is ∙ ap (λ n. slot (node_key kinds.Place n)) id)) (row.Place p) p
      ((in_rows g table.Place _).1 (c, refl)) (rw (eq-eqb p.id p.id refl) refl)

  pub organisation_only : (id : ℕ) (o : Organisation) → (o.id ≡ id) × Contains g (row.Organisation o) → organisations g id ≡ o ∷ []
  organisation_only id o (named, c) = subst (λ n. organisations g n ≡ o ∷ []) named (organisation_alone o c)

  pub place_only : (id : ℕ) (p : Place) → (p.id ≡ id) × Contains g (row.Place p) → places g id ≡ p ∷ []
  place_only id p (named, c) = subst (λ n. places g n ≡ p ∷ []) named (place_alone p c)

  fit_of : (r : Row) → Contains g r → IsTableRow r
  fit_of r c = All-contains IsTableRow g r graph.of_tables c

  shape_at : (t : Table) (id : ℕ) (h : HasKey g (t, id, 0, [])) → row_shape h.it ≡ shape t
  shape_at t id h = (fit_of h.it h.held).shaped ∙ ap shape (sym (key_table h.it) ∙ ap (λ (k : RowKey). k.0) h.keyed)

  as_organisation : (r : Row) → row_shape r ≡ shapes.Organisation → (o : Organisation) × (r ≡ row.Organisation o)
  as_organisation (row.Organisation o) e = (o, refl)
  as_organisation r e = absurd cc

  as_place : (r : Row) → row_shape r ≡ shapes.Place → (p : Place) × (r ≡ row.Place p)
  as_place (row.Place p) e = (p, refl)
  as_place r e = absurd cc

  pub as_link : (r : Row) → row_shape r ≡ shapes.Link → (from : ℕ) × (to : ℕ) × (r ≡ row.Link (table_of r) from to)
  as_link (row.Link t from to) e = (from, to, refl)
  as_link r e = absurd cc

  pub organisation_at : (id : ℕ) → HasKey g (node_key kinds.Organisation id) → (o : Organisation) × (organisations g id ≡ o ∷ [])
  organisation_at id h =
      let (o, is) = as_organisation h.it (shape_at table.Organisation id h) in
      let named : o.id ≡ id = ap (λ (r : Row). (row_key r).1) (sym is) ∙ ap (λ (k : RowKey). k.1) h.keyed in
      (o, organisation_only id o (named, subst (Contains g) is h.held))

  pub place_at : (id : ℕ) → HasKey g (node_key kinds.Place id) → (p : Place) × (places g id ≡ p ∷ [])
  place_at id h =
      let (p, is) = as_place h.it (shape_at table.Place id h) in
      let named : p.id ≡ id = ap (λ (r : Row). (row_key r).1) (sym is) ∙ ap (λ (k : RowKey). k.1) h.keyed in
      (p, place_only id p (named, subst (Contains g) is h.held))

  -- an edge by its key, in a table whose key is the first id
  pub link_at : (t : Table) (id : ℕ) → shape t ≡ shapes.Link → key_columns t ≡ First → HasKey g (t, id, 0, []) → (to : ℕ) × Contains g (row.Link t id to)
  link_at t id of key h =
      let (from, to, is) = as_link h.it (shape_at t id h ∙ of) in
      let table_is : table_of h.it ≡ t = sym (key_table h.it) ∙ ap (λ (k : RowKey). k.0) h.keyed in
      let same : h.it ≡ row.Link t from to = is ∙ ap (λ u. row.Link u from to) table_is in
      let first : from ≡ id = ap (λ (k : RowKey). k.1) (ap (λ k. edge_key k t from to) (sym key) ∙ ap row_key (sym same) ∙ h.keyed) in
      (to, subst (Contains g) (same ∙ ap (λ n. row.Link t n to) first) h.held)

  -- the place in which an organisation stands
  pub site_key : RequiredEdgesAreThere → Sound g → (id : ℕ) → HasKey g (node_key kinds.Organisation id) → HasKey g (table.OrganisationIsLocatedInPlace, id, 0, [])
  site_key required sound id h =
      edge_key_held g graph table.OrganisationIsLocatedInPlace id refl sites (required g graph sound table.Organisation table.OrganisationIsLocatedInPlace (1, omega arith, refl) id h)
    where
      sites : (u : Table) → sharing u ≡ table.OrganisationIsLocatedInPlace → u ≡ table.OrganisationIsLocatedInPlace
      sites table.OrganisationIsLocatedInPlace e = refl
      sites u e = absurd cc

  pub site_held : HoldsRefs g → (id there : ℕ) → Contains g (row.Link table.OrganisationIsLocatedInPlace id there) → HasKey g (node_key kinds.Place there)
  site_held held id there c = held (row.Link table.OrganisationIsLocatedInPlace id there) c 1 any (omega arith)

  pub site_only : (id there : ℕ) → Contains g (row.Link table.OrganisationIsLocatedInPlace id there) → ends g table.OrganisationIsLocatedInPlace id ≡ there ∷ []
  site_only id there c = end_only g table.OrganisationIsLocatedInPlace id there graph refl c

  -- an organisation that is held stands somewhere
  pub is_somewhere : RequiredEdgesAreThere → Sound g → (id : ℕ) → HasKey g (node_key kinds.Organisation id) → (o : Organisation) × (p : Place) × HasItsPlace g id o p
  is_somewhere required sound id h =
      let (o, is) = organisation_at id h in
      let (there, c) = link_at table.OrganisationIsLocatedInPlace id refl refl (site_key required sound id h) in
      let (p, at) = place_at there (site_held sound.held id there c) in
      (o, p, record { organisation = is; place = there; located = site_only id there c; held = at })

-- ---- words and stays

words_by : (p : ℕ) (xs : List Row) → All (λ r. row_shape r ≡ shapes.Word) xs → map (λ r. (row_key r).3) (filter (λ r. nat_eq (row_key r).1 p) xs) ≡ filter_map (word_in p) xs
words_by p [] all = refl
words_by p (x ∷ xs) all = one x (All-head (λ r. row_shape r ≡ shapes.Word) x xs all) (words_by p xs (All-tail (λ r. row_shape r ≡ shapes.Word) x xs all))
  where
    one : (r : Row) → row_shape r ≡ shapes.Word → map (λ r. (row_key r).3) (filter (λ r. nat_eq (row_key r).1 p) xs) ≡ filter_map (word_in p) xs
        → map (λ r. (row_key r).3) (filter (λ r. nat_eq (row_key r).1 p) (r ∷ xs)) ≡ filter_map (word_in p) (r ∷ xs)
    one (row.Word t from text) e h = by (from == p)
      where
        by : (b : Bool) → map (λ r. (row_key r).3) (cond b (row.Word t from text ∷ filter (λ r. nat_eq (row_key r).1 p) xs) (filter (λ r. nat_eq (row_key r).1 p) xs))
            ≡ cons_option (cond b (Some text) None) (filter_map (word_in p) xs)
        by true = ap (λ l. text ∷ l) h
        by false = h
    one r e h = absurd cc

module _ (g : List Row) (graph : IsGraph g) where
  shaped : (t : Table) → All (λ r. row_shape r ≡ shape t) (rows g t)
  shaped t =
      All-weaker (Contains (rows g t)) (λ r. row_shape r ≡ shape t) (λ r c. (let (held, of) = (in_rows g t r).0 c in (All-contains IsTableRow g r graph.of_tables held).shaped ∙ ap shape of))
      (rows g t) (All-contains_itself (rows g t))

  -- the walks over words give those of the person
  pub emails_are : (p : ℕ) → words_of g table.PersonEmailEmailAddress p ≡ words g table.PersonEmailEmailAddress p
  emails_are p = words_by p (rows g table.PersonEmailEmailAddress) (shaped table.PersonEmailEmailAddress)

  pub languages_are : (p : ℕ) → words_of g table.PersonSpeaksLanguage p ≡ words g table.PersonSpeaksLanguage p
  languages_are p = words_by p (rows g table.PersonSpeaksLanguage) (shaped table.PersonSpeaksLanguage)

  -- the organisations of stays are held
  pub work_found : HoldsRefs g → (p : ℕ) → All (IsStayFound g) (work g p)
  work_found held p = All-weaker (Contains (work g p)) (IsStayFound g) (λ s c. (let there = stay_there g table.PersonWorkAtOrganisation p s.0 s.1 c in
      let fit = All-contains IsTableRow g (row.Yeared table.PersonWorkAtOrganisation p s.0 s.1) graph.of_tables there in
      let low : s.1 ≤ 9999 = fit.within.1.1.0 in
      record { held = held (row.Yeared table.PersonWorkAtOrganisation p s.0 s.1) there 1 any (omega arith); fits = omega (arith, low) })) (work g p) (All-contains_itself (work g p))

  pub study_found : HoldsRefs g → (p : ℕ) → All (IsStayFound g) (study g p)
  study_found held p = All-weaker (Contains (study g p)) (IsStayFound g) (λ s c. (let there = stay_there g table.PersonStudyAtOrganisation p s.0 s.1 c in
      let fit = All-contains IsTableRow g (row.Yeared table.PersonStudyAtOrganisation p s.0 s.1) graph.of_tables there in
      let low : s.1 ≤ 9999 = fit.within.1.1.0 in
      record { held = held (row.Yeared table.PersonStudyAtOrganisation p s.0 s.1) there 1 any (omega arith); fits = omega (arith, low) })) (study g p) (All-contains_itself (study g p))
