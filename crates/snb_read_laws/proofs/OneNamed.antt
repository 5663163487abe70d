-- The complex reads of persons have one answer: IC1 and IC11.
use Rattle.std.proofs.Common.{◌≡◌, ◌∙◌, ℕ, List, [], ◌∷◌, ap, filter, subst, sym}
use Rattle.snb_schema.specs.declared.row.Row.{Row}
use Rattle.snb_schema.specs.declared.table.Table.TheVariants as table
use Rattle.snb_read_order.specs.Laws.{OneFirst}
use Rattle.snb_read_model.specs.declared.cell.Cell.TheVariants as cell
use Rattle.snb_graph_model.specs.Around.{ends, organisations, persons, places, study, words, work}
use Rattle.snb_read_model.specs.Cells.{ByteCell, column, number_cell}
use Rattle.snb_read_model.specs.ComplexReads.{AreStays, Ic1Answer, Ic11Answer, IsJob, IsNamesake, IsStay, Stay, is_named, jobs, stay_cmp}
use Rattle.snb_read_model.specs.Order.{ReadAnswers, Falling, FirstRows, SortedAndCut, Rising, AllRows}
use Rattle.snb_read_laws.proofs.OneAnswers.{one_answers, one_stays, one_texts, same_zip}
use Rattle.snb_read_laws.proofs.OneWithin.{one_within}
use Rattle.snb_read_laws.proofs.Ties.{falling_words, rising, three_ties}
use Rattle.snb_base.proofs.Laws.{one_only}

module _ (g : List Row) where
  one_stay : (s : ℕ × ℕ) (a b : Stay) → IsStay g s a → IsStay g s b → a ≡ b
  one_stay s a b r t =
      let organisation : r.organisation ≡ t.organisation = one_only (organisations g s.0) r.organisation t.organisation r.at.organisation t.at.organisation in
      let at : r.at.place ≡ t.at.place = one_only (ends g table.OrganisationIsLocatedInPlace s.0) r.at.place t.at.place r.at.located t.at.located in
      let place : r.place ≡ t.place = one_only (places g t.at.place) r.place t.place (subst (λ n. places g n ≡ r.place ∷ []) at r.at.held) t.at.held in
      r.is ∙ (λ i. ((organisation i).name, s.1, (place i).name)) ∙ sym t.is

  all_stays : OneFirst Stay → (stays : List (ℕ × ℕ)) (a b : List Stay) → AreStays g stays a → AreStays g stays b → a ≡ b
  all_stays first stays a b r t =
      let named : r.named ≡ t.named = same_zip (IsStay g) one_stay stays r.named t.named r.each t.each in
      one_stays first AllRows t.named a b (subst (λ (l : List Stay). SortedAndCut stay_cmp AllRows l a) named r.first) t.first

module _ (first : OneFirst (List ByteCell)) (g : List Row) where
  module _ (texts : OneFirst (List ℕ)) (stays : OneFirst Stay) where
    one_namesake : (n : ℕ × ℕ) (a b : List ByteCell) → IsNamesake g n a → IsNamesake g n b → a ≡ b
    one_namesake n a b r s =
        let person : r.person ≡ s.person = one_only (persons g n.0) r.person s.person r.held s.held in
        let city : r.city ≡ s.city = one_only (ends g table.PersonIsLocatedInPlace n.0) r.city s.city r.lives s.lives in
        let place : r.place ≡ s.place = one_only (places g s.city) r.place s.place (subst (λ m. places g m ≡ r.place ∷ []) city r.there) s.there in
        let emails : r.emails ≡ s.emails = one_texts texts AllRows (words g table.PersonEmailEmailAddress n.0) r.emails s.emails r.mails s.mails in
        let languages : r.languages ≡ s.languages = one_texts texts AllRows (words g table.PersonSpeaksLanguage n.0) r.languages s.languages r.speaks s.speaks in
        let universities : r.universities ≡ s.universities = all_stays g stays (study g n.0) r.universities s.universities r.studied s.studied in
        let companies : r.companies ≡ s.companies = all_stays g stays (work g n.0) r.companies s.companies r.worked s.worked in
        r.is ∙ (λ i. number_cell n.0 ∷ cell.Words ((person i).last_name) ∷ number_cell n.1 ∷ number_cell ((person i).birthday) ∷ number_cell ((person i).creation_date)
        ∷ cell.Words ((person i).gender) ∷ cell.Words ((person i).browser_used) ∷ cell.Words ((person i).location_ip) ∷ cell.List (emails i) ∷ cell.List (languages i)
        ∷ cell.Words ((place i).name) ∷ cell.Stays (universities i) ∷ cell.Stays (companies i) ∷ []) ∙ sym s.is

    one_namesakes : (counted : List (ℕ × ℕ)) (a b : List (List ByteCell)) → ReadAnswers counted (IsNamesake g) (Rising 3 ∷ Rising 2 ∷ Rising 1 ∷ []) (FirstRows 20) a
        → ReadAnswers counted (IsNamesake g) (Rising 3 ∷ Rising 2 ∷ Rising 1 ∷ []) (FirstRows 20) b → a ≡ b
    one_namesakes counted = one_answers first counted (IsNamesake g) (Rising 3 ∷ Rising 2 ∷ Rising 1 ∷ []) (FirstRows 20) one_namesake
        (λ x y a b c d r s e.
        (let (distances, names, ids) = three_ties (Rising 3) (Rising 2) (Rising 1) a b e in
        let distance = rising 3 a b x.1 y.1 (ap (column 3) r.is) (ap (column 3) s.is) distances in
        let id = rising 1 a b x.0 y.0 (ap (column 1) r.is) (ap (column 1) s.is) ids in
        let same : x ≡ y = λ i. (id i, distance i) in
        one_namesake y a b (subst (λ (z : ℕ × ℕ). IsNamesake g z a) same r) s))

    pub one_ic1 : (person : ℕ) (first_name : List ℕ) (a b : List (List ByteCell)) → Ic1Answer g person first_name a → Ic1Answer g person first_name b → a ≡ b
    one_ic1 person first_name a b f h =
        let near = one_within g person 3 f.near h.near f.within h.within in
        one_namesakes (filter (is_named g first_name) h.near) a b
        (subst (λ (ps : List (ℕ × ℕ)). ReadAnswers (filter (is_named g first_name) ps) (IsNamesake g) (Rising 3 ∷ Rising 2 ∷ Rising 1 ∷ []) (FirstRows 20) a) near f.answers) h.answers

  one_job : (j : ℕ × ℕ × ℕ) (a b : List ByteCell) → IsJob g j a → IsJob g j b → a ≡ b
  one_job j a b r s =
      let person : r.person ≡ s.person = one_only (persons g j.0) r.person s.person r.held s.held in
      let organisation : r.organisation ≡ s.organisation = one_only (organisations g j.1) r.organisation s.organisation r.at s.at in
      r.is ∙ (λ i. number_cell j.0 ∷ cell.Words ((person i).first_name) ∷ cell.Words ((person i).last_name) ∷ cell.Words ((organisation i).name) ∷ number_cell j.2 ∷ []) ∙ sym s.is

  -- the year, the person's id and the organisation's name are all that a row shows, with the person's names
  one_jobs : (counted : List (ℕ × ℕ × ℕ)) (a b : List (List ByteCell)) → ReadAnswers counted (IsJob g) (Rising 5 ∷ Rising 1 ∷ Falling 4 ∷ []) (FirstRows 10) a
      → ReadAnswers counted (IsJob g) (Rising 5 ∷ Rising 1 ∷ Falling 4 ∷ []) (FirstRows 10) b → a ≡ b
  one_jobs counted = one_answers first counted (IsJob g) (Rising 5 ∷ Rising 1 ∷ Falling 4 ∷ []) (FirstRows 10) one_job
      (λ x y a b c d r s e.
      (let (years, ids, names) = three_ties (Rising 5) (Rising 1) (Falling 4) a b e in
      let year = rising 5 a b x.2 y.2 (ap (column 5) r.is) (ap (column 5) s.is) years in
      let id = rising 1 a b x.0 y.0 (ap (column 1) r.is) (ap (column 1) s.is) ids in
      let name = falling_words 4 a b r.organisation.name s.organisation.name (ap (column 4) r.is) (ap (column 4) s.is) names in
      let person : r.person ≡ s.person = one_only (persons g y.0) r.person s.person (subst (λ n. persons g n ≡ r.person ∷ []) id r.held) s.held in
      r.is ∙ (λ i. number_cell (id i) ∷ cell.Words ((person i).first_name) ∷ cell.Words ((person i).last_name) ∷ cell.Words (name i) ∷ number_cell (year i) ∷ []) ∙ sym s.is))

  pub one_ic11 : (person : ℕ) (country : List ℕ) (year : ℕ) (a b : List (List ByteCell)) → Ic11Answer g person country year a → Ic11Answer g person country year b → a ≡ b
  one_ic11 person country year a b f h =
      let near = one_within g person 2 f.near h.near f.within h.within in
      one_jobs (jobs g country year h.near) a b
      (subst (λ (ps : List (ℕ × ℕ)). ReadAnswers (jobs g country year ps) (IsJob g) (Rising 5 ∷ Rising 1 ∷ Falling 4 ∷ []) (FirstRows 10) a) near f.answers) h.answers
