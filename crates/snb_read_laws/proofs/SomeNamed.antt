-- The complex reads of those near have an answer: IC1, IC9 and IC11.
use Rattle.std.proofs.Common.{◌≡◌, ℕ, ◌&&◌, nat_lt, List, [], ◌∷◌, filter, map, refl, ap, ◌∙◌, subst, arith}
use Rattle.std.proofs.lemmas.Cmp.{nat_list_cmp_total}
use Rattle.std.specs.Cmp.Lexicographic.{slice_cmp}
use Rattle.std.specs.List.{Contains, filter_map}
use Rattle.std.specs.Ordering.{nat_cmp}
use Rattle.snb_schema.specs.declared.nodes.Place.{Place}
use Rattle.snb_schema.specs.declared.row.Row.{Row}
use Rattle.snb_schema.specs.declared.row.Row.TheVariants as row
use Rattle.snb_schema.specs.declared.table.Kind.TheVariants as kinds
use Rattle.snb_schema.specs.declared.table.Table.{Table}
use Rattle.snb_schema.specs.declared.table.Table.TheVariants as table
use Rattle.snb_schema.specs.RowKeys.{node_key}
use Rattle.snb_graph_integrity.specs.SoundLaws.{RequiredEdgesAreThere}
use Rattle.snb_graph_model.specs.Graphs.{HasKey, IsGraph, rows}
use Rattle.snb_graph_model.specs.Soundness.{Sound}
use Rattle.snb_read_order.specs.Laws.{SomeFirst}
use Rattle.snb_graph_model.proofs.Laws.{end_only, in_rows, stay_row}
use Rattle.snb_read_model.specs.Cells.{ByteCell}
use Rattle.snb_graph_model.specs.Around.{ends, places, study, words, work}
use Rattle.snb_graph_model.specs.RowParts.{stay_in}
use Rattle.snb_read_model.specs.ComplexReads.{AreStays, Ic1Answer, Ic11Answer, IsJob, IsNamesake, IsStay, Stay, is_in, is_named, jobs, stay_cmp}
use Rattle.snb_read_model.specs.MessageReads.{Ic9Answer}
use Rattle.snb_read_model.specs.Distance.{IsPerson}
use Rattle.snb_read_model.specs.Order.{Falling, FirstRows, Rising, AllRows}
use Rattle.snb_read_laws.proofs.Lookups.{any, link_at, organisation_at, person_at, place_at, sites}
use Rattle.snb_read_laws.proofs.Near.{near_held, some_within}
use Rattle.snb_read_laws.proofs.SomeAnswers.{some_answers, some_zip}
use Rattle.snb_read_laws.proofs.Ties.{stay_total}
use Rattle.snb_read_laws.proofs.SomeSent.{some_latest}
use Rattle.snb_read_laws.proofs.SomeShort.{city_only, lives}
use Rattle.snb_base.proofs.Laws.{given_by, in_filter, in_flat, in_map}

module _ (g : List Row) (graph : IsGraph g) (sound : Sound g) where
  stay_there : (t : Table) (p : ℕ) (s : ℕ × ℕ) → Contains (filter_map (stay_in p) (rows g t)) s → Contains g (row.Yeared t p s.0 s.1)
  stay_there t p s c =
      let (r, there, gives) = given_by (stay_in p) (rows g t) s c in
      let (held, of) = (in_rows g t r).0 there in
      subst (Contains g) (stay_row p r s gives ∙ ap (λ u. row.Yeared u p s.0 s.1) of) held

  -- the organisations of stays are held
  work_held : (p : ℕ) (s : ℕ × ℕ) → Contains (work g p) s → HasKey g (node_key kinds.Organisation s.0)
  work_held p s c = sound.held (row.Yeared table.PersonWorkAtOrganisation p s.0 s.1) (stay_there table.PersonWorkAtOrganisation p s c) 1 any (omega arith)

  study_held : (p : ℕ) (s : ℕ × ℕ) → Contains (study g p) s → HasKey g (node_key kinds.Organisation s.0)
  study_held p s c = sound.held (row.Yeared table.PersonStudyAtOrganisation p s.0 s.1) (stay_there table.PersonStudyAtOrganisation p s c) 1 any (omega arith)

  module _ (required : RequiredEdgesAreThere) where
    -- an organisation that is held stands somewhere, so a stay has a name
    some_stay : (s : ℕ × ℕ) → HasKey g (node_key kinds.Organisation s.0) → (stay : Stay) × IsStay g s stay
    some_stay s h =
        let (o, is) = organisation_at g graph s.0 h in
        let (place, link) = link_at g graph table.OrganisationIsLocatedInPlace s.0 refl sites refl refl (required g graph sound table.Organisation table.OrganisationIsLocatedInPlace (1, omega arith, refl) s.0 h) in
        let (p, held) = place_at g graph place (sound.held (row.Link table.OrganisationIsLocatedInPlace s.0 place) link 1 any (omega arith)) in (
          _,
          record {
            organisation = o;
            place = p;
            at = record { organisation = is; place = place; located = end_only g table.OrganisationIsLocatedInPlace s.0 place graph refl link; held = held };
            is = refl;
          },
        )

    some_stays : SomeFirst Stay → (stays : List (ℕ × ℕ)) → ((s : ℕ × ℕ) → Contains stays s → HasKey g (node_key kinds.Organisation s.0)) → (shown : List Stay) × AreStays g stays shown
    some_stays some stays all =
        let (named, zip) = some_zip (IsStay g) stays (λ s c. some_stay s (all s c)) in
        let (shown, first) = some stay_cmp AllRows named stay_total in
        (shown, record { named = named; each = zip; first = first })

    -- where a person lives
    some_home : (p : ℕ) → IsPerson g p → (city : ℕ) × (place : Place) × (ends g table.PersonIsLocatedInPlace p ≡ city ∷ []) × (places g city ≡ place ∷ [])
    some_home p h =
        let (city, link) = lives g graph sound required p h in
        let (place, there) = place_at g graph city (sound.held (row.Link table.PersonIsLocatedInPlace p city) link 1 any (omega arith)) in
        (city, place, city_only g graph sound p city link, there)

    pub some_namesake : SomeFirst (List ℕ) → SomeFirst Stay → (n : ℕ × ℕ) → IsPerson g n.0 → (row : List ByteCell) × IsNamesake g n row
    some_namesake texts some n h =
        let (p, is, named) = person_at g graph n.0 h in
        let (city, place, home, there) = some_home n.0 h in
        let (emails, mails) = texts (slice_cmp nat_cmp) AllRows (words g table.PersonEmailEmailAddress n.0) nat_list_cmp_total in
        let (languages, speaks) = texts (slice_cmp nat_cmp) AllRows (words g table.PersonSpeaksLanguage n.0) nat_list_cmp_total in
        let (universities, studied) = some_stays some (study g n.0) (study_held n.0) in
        let (companies, worked) = some_stays some (work g n.0) (work_held n.0) in (
          _,
          record {
            person = p;
            held = is;
            city = city;
            lives = home;
            place = place;
            there = there;
            emails = emails;
            mails = mails;
            languages = languages;
            speaks = speaks;
            universities = universities;
            studied = studied;
            companies = companies;
            worked = worked;
            is = refl;
          },
        )

  -- whoever works and what they work at are held
  job_held : (country : List ℕ) (year : ℕ) (ps : List (ℕ × ℕ)) (j : ℕ × ℕ × ℕ) → ((p : ℕ × ℕ) → Contains ps p → IsPerson g p.0) → Contains (jobs g country year ps) j
      → IsPerson g j.0 × HasKey g (node_key kinds.Organisation j.1)
  job_held country year ps j all c =
      let (p, there, d) = in_flat (λ (p : ℕ × ℕ). map {A = ℕ × ℕ} {B = ℕ × ℕ × ℕ} (λ w. (p.0, w.0, w.1)) (filter (λ (w : ℕ × ℕ). nat_lt w.1 year && is_in g country w.0) (work g p.0))) ps j c in
      let (w, kept, is) = in_map {X = ℕ × ℕ} {Y = ℕ × ℕ × ℕ} (λ w. (p.0, w.0, w.1)) (filter (λ (w : ℕ × ℕ). nat_lt w.1 year && is_in g country w.0) (work g p.0)) j d in
      subst (λ (z : ℕ × ℕ × ℕ). IsPerson g z.0 × HasKey g (node_key kinds.Organisation z.1)) is
      (all p there, work_held p.0 w ((in_filter (λ (w : ℕ × ℕ). nat_lt w.1 year && is_in g country w.0) (work g p.0) w).0 kept).0)

  module _ (some : SomeFirst (List ByteCell)) where
    pub some_ic1 : RequiredEdgesAreThere → SomeFirst (List ℕ) → SomeFirst Stay → (person : ℕ) (first_name : List ℕ) → (answer : List (List ByteCell)) × Ic1Answer g person first_name answer
    some_ic1 required texts stays person first_name =
        let (near, within) = some_within g person 3 in
        let (answer, answers) = some_answers some (filter (is_named g first_name) near) (IsNamesake g) (Rising 3 ∷ Rising 2 ∷ Rising 1 ∷ []) (FirstRows 20) (λ n c.
        some_namesake required texts stays n (near_held g person 3 near within n ((in_filter (is_named g first_name) near n).0 c).0)) in
        (answer, record { near = near; within = within; answers = answers })

    pub some_ic9 : (person max_date : ℕ) → (answer : List (List ByteCell)) × Ic9Answer g person max_date answer
    some_ic9 person max_date =
        let (near, within) = some_within g person 2 in
        let (answer, answers) = some_latest g graph sound some (λ date. nat_lt date max_date) near (near_held g person 2 near within) in
        (answer, record { near = near; within = within; answers = answers })

    pub some_ic11 : (person : ℕ) (country : List ℕ) (year : ℕ) → (answer : List (List ByteCell)) × Ic11Answer g person country year answer
    some_ic11 person country year =
        let (near, within) = some_within g person 2 in
        let (answer, answers) = some_answers some (jobs g country year near) (IsJob g) (Rising 5 ∷ Rising 1 ∷ Falling 4 ∷ []) (FirstRows 10) (λ j c.
        (let (who, at) = job_held country year near j (near_held g person 2 near within) c in
        let (p, is, named) = person_at g graph j.0 who in
        let (o, here) = organisation_at g graph j.1 at in
        (_, record { person = p; held = is; organisation = o; at = here; is = refl }))) in
        (answer, record { near = near; within = within; answers = answers })
