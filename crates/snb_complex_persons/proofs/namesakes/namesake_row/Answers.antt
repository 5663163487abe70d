use Rattle.std.proofs.Common.{rules, sym, subst, ◌∙◌}
use Rattle.std.specs.Cmp.Lexicographic.{slice_cmp}
use Rattle.std.specs.List.{All}
use Rattle.std.specs.Ordering.{nat_cmp}
use Rattle.snb_read_model.specs.ComplexReads.{AreStays}
use Rattle.snb_read_model.specs.Order.{SortedAndCut, AllRows}
use Rattle.snb_complex_persons.proofs.NamesakeLemmas.{city_place}
use Rattle.snb_complex_persons.proofs.StayLemmas.{emails_are, languages_are, study_found, work_found}
use Rattle.snb_complex_persons.specs.Stays.{IsStayFound}
use Rattle.snb_complex_persons.proofs.namesakes.namesake_row.Goals as goal

pub place-home-requires : goal.place-home-requires
place-home-requires c = record { held = city_place c.args.graph.now c.requires.sound.held _ c.city.result c.city.ensures.only }

pub stays-requires-clause-found : goal.stays-requires-clause-found
stays-requires-clause-found c =
    let g = c.args.graph.now in
    subst (All (IsStayFound g)) (sym c.study.ensures) (study_found g c.known.ensures c.requires.sound.held c.args.one.now.0.now.id)

pub stays-requires-2-clause-found : goal.stays-requires-2-clause-found
stays-requires-2-clause-found c =
    let g = c.args.graph.now in
    subst (All (IsStayFound g)) (sym c.work.ensures) (work_found g c.known.ensures c.requires.sound.held c.args.one.now.0.now.id)

pub returns : goal.returns
returns c =
    let g = c.args.graph.now in
    let id = c.args.one.now.0.now.id in
    record {
      person = c.args.one.now.0.now;
      held = c.requires.found.person.only;
      city = c.city.result;
      lives = c.city.ensures.only;
      place = c.place-home.result.now;
      there = c.place-home.ensures;
      emails = c.in_ok-emails.emails;
      mails = subst (λ l. SortedAndCut (slice_cmp nat_cmp) AllRows l c.in_ok-emails.emails) (c.words.ensures ∙ emails_are g c.known.ensures id) c.in_ok-emails.ensures;
      languages = c.in_ok-languages.languages;
      speaks = subst (λ l. SortedAndCut (slice_cmp nat_cmp) AllRows l c.in_ok-languages.languages) (c.words-2.ensures ∙ languages_are g c.known.ensures id) c.in_ok-languages.ensures;
      universities = c.in_ok-universities.universities;
      studied = subst (λ l. AreStays g l c.in_ok-universities.universities) c.study.ensures c.in_ok-universities.ensures;
      companies = c.in_ok-companies.companies;
      worked = subst (λ l. AreStays g l c.in_ok-companies.companies) c.work.ensures c.in_ok-companies.ensures;
      is = search rules;
    }
