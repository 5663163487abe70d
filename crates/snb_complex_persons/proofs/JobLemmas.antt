-- Work rows, side by side with what they show.
use Rattle.std.proofs.Common.{◌≡◌, ℕ, ◌+◌, ◌<◌, ◌≤◌, ◌&&◌, nat_eq, nat_lt, Bool, true, false, cond, Option, Some, None, List, [], ◌∷◌, ◌++◌, length, get_or, map, take, refl, sym, ap, ◌∙◌, subst, append_assoc}
use Rattle.std.proofs.lemmas.Bool.{eqb-true}
use Rattle.std.proofs.lemmas.Cmp.{back_total, nat_cmp_total, on_total, then_total}
use Rattle.std.proofs.lemmas.List.{append-nil, map_push, take_all, take_more}
use Rattle.std.proofs.lemmas.List.Elements.{All-head, All-nil, All-push, All-tail, All-weaker}
use Rattle.std.proofs.lemmas.List.Sorted.{IsPermutation-refl}
use Rattle.std.specs.Cmp.{IsTotalOrder}
use Rattle.std.specs.Cmp.Lexicographic.{nat_list_cmp_total, slice_cmp}
use Rattle.std.specs.HashMap.{HashMap, get}
use Rattle.std.specs.List.{All, AllZip, filter, flat_map, list_any}
use Rattle.std.specs.Map.{lookup}
use Rattle.std.specs.Ordering.{flip_args, is_lt, nat_cmp, on, ordering_then, then_cmp}
use Rattle.std.specs.Str.{bytes_eq}
use Rattle.std.specs.declared.cmp.Ordering.{Ordering}
use Rattle.std.specs.declared.cmp.Ordering.TheVariants.{Equal}
use Rattle.snb_schema.specs.declared.nodes.Organisation.{Organisation}
use Rattle.snb_schema.specs.declared.nodes.Place.{Place}
use Rattle.snb_schema.specs.declared.row.Row.{Row}
use Rattle.snb_schema.specs.declared.table.Table.TheVariants as table
use Rattle.snb_graph_integrity.specs.SoundLaws.{NumbersFit}
use Rattle.snb_graph_model.specs.Graphs.{IsGraph}
use Rattle.snb_read_order.proofs.Laws.{answers_from, answers_mapped, chosen, number_cmp, then_assoc, zip_with}
use Rattle.snb_read_model.specs.declared.cell.Cell.TheVariants as cell
use Rattle.snb_read_model.specs.Cells.{ByteCell, cell_cmp, number_cell}
use Rattle.snb_graph_model.specs.Around.{ends, organisations, places, work}
use Rattle.snb_read_model.specs.ComplexReads.{HasItsPlace, IsJob, is_in}
use Rattle.snb_read_model.specs.Order.{ReadAnswers, Falling, FirstRows, SortedAndCut, Rising, by}
use Rattle.snb_read_lookups.proofs.Laws.{found_person, joined_push, person_at}
use Rattle.snb_complex_persons.proofs.Columns.{any_one, words_cmp}
use Rattle.snb_complex_persons.specs.Stays.{IsStayFound}
use Rattle.snb_complex_persons.specs.Jobs.{AreJobs, AreSeen, IsJobFound, Job, job_of, jobs_by}
use Rattle.snb_base.proofs.Laws.{one_only, then_last}

-- years rising, persons rising, names falling
abbrev pub jobs_first : Job → Job → Ordering
jobs_first = then_cmp (then_cmp (on (λ (j : Job). j.0.2) nat_cmp) (on (λ (j : Job). j.0.0) nat_cmp)) (flip_args (on (λ (j : Job). j.1.now) (slice_cmp nat_cmp)))

pub jobs_total : IsTotalOrder jobs_first
jobs_total = then_total (then_total (on_total (λ (j : Job). j.0.2) nat_cmp_total) (on_total (λ (j : Job). j.0.0) nat_cmp_total)) (back_total (on_total (λ (j : Job). j.1.now) nat_list_cmp_total))

-- ---- whether an organisation is in the country

pub in_country : (g : List Row) (country name : List ℕ) (id : ℕ) (o : Organisation) (p : Place) (there : Bool) → HasItsPlace g id o p → name ≡ p.name → there ≡ bytes_eq name country → there ≡ is_in g country id
in_country g country name id o p there at named is =
    is ∙ ap (λ n. bytes_eq n country) named
    ∙ sym (any_one (λ place. list_any (λ p. bytes_eq p.name country) (places g place)) (ends g table.OrganisationIsLocatedInPlace id) at.place at.located
    ∙ any_one (λ (p : Place). bytes_eq p.name country) (places g at.place) p at.held)

-- a map without keys remembers nothing
pub none_seen : {S : Type 0} (g : List Row) (country : List ℕ) (seen : HashMap ℕ Bool S) → seen.entries ≡ [] → AreSeen g country (get nat_eq seen)
none_seen g country seen empty o b e =
    let none : get nat_eq seen o ≡ None = ap (λ (es : List (ℕ × Bool)). lookup (nat_eq o) es) empty in
    cc

-- one organisation more is remembered
pub more_seen : (g : List Row) (country : List ℕ) (id : ℕ) (there : Bool) (seen new : ℕ → Option Bool) → ((q : ℕ) → new q ≡ cond (nat_eq id q) (Some there) (seen q)) → there ≡ is_in g country id
    → AreSeen g country seen → AreSeen g country new
more_seen g country id there seen new puts is were o b e = by (nat_eq id o) refl (sym (puts o) ∙ e)
  where
    by : (c : Bool) → nat_eq id o ≡ c → cond c (Some there) (seen o) ≡ Some b → b ≡ is_in g country o
    by true same e =
        let this : id ≡ o = eqb-true id o same in
        let told : there ≡ b = cc in
        rw (← this, ← told) is
    by false differ e = were o b e

-- what the walk gives next is found, and so is what is left
pub next_stay : (g : List Row) (left rest : List (ℕ × ℕ)) (w : ℕ × ℕ) → left ≡ w ∷ rest → All (IsStayFound g) left → IsStayFound g w × All (IsStayFound g) rest
next_stay g left rest w is all =
    let each = subst (All (IsStayFound g)) is all in
    (All-head (IsStayFound g) w rest each, All-tail (IsStayFound g) w rest each)

-- ---- the loop over a person's work rows

-- what is found so far, and what passes of what the walk has still to give, are all
pub record IsAddingJobs (g : List Row) (country : List ℕ) (year person : ℕ) (all : List (ℕ × ℕ × ℕ)) (left : List (ℕ × ℕ)) (found : List Job) : Type 0 where
  pub done : List (ℕ × ℕ × ℕ)
  pub are : AreJobs g done found
  pub same : done ++ map (λ w. (person, w.0, w.1)) (filter (λ w. nat_lt w.1 year && is_in g country w.0) left) ≡ all

module _ (g : List Row) (country : List ℕ) (year person : ℕ) where
  abbrev Passes : ℕ × ℕ → Bool
  Passes w = nat_lt w.1 year && is_in g country w.0

  abbrev Of : ℕ × ℕ → ℕ × ℕ × ℕ
  Of w = (person, w.0, w.1)

  passing : (left rest : List (ℕ × ℕ)) (w : ℕ × ℕ) (b : Bool) → left ≡ w ∷ rest → Passes w ≡ b → map Of (filter Passes left) ≡ map Of (cond b (w ∷ filter Passes rest) (filter Passes rest))
  passing left rest w b is e = ap (λ l. map Of (filter Passes l)) is ∙ ap (λ c. map Of (cond c (w ∷ filter Passes rest) (filter Passes rest))) e

  pub job_over : (all : List (ℕ × ℕ × ℕ)) (left rest : List (ℕ × ℕ)) (w : ℕ × ℕ) (found : List Job) → left ≡ w ∷ rest → Passes w ≡ false → IsAddingJobs g country year person all left found
      → IsAddingJobs g country year person all rest found
  job_over all left rest w found is e adding = record {
    done = adding.done;
    are = adding.are;
    same = ap (λ l. adding.done ++ l) (sym (passing left rest w false is e)) ∙ adding.same;
  }

  pub job_next : (all : List (ℕ × ℕ × ℕ)) (left rest : List (ℕ × ℕ)) (w : ℕ × ℕ) (found new : List Job) (j : Job) → left ≡ w ∷ rest → Passes w ≡ true → new ≡ found ++ j ∷ [] → job_of j ≡ Of w → IsJobFound g j
      → IsAddingJobs g country year person all left found → IsAddingJobs g country year person all rest new
  job_next all left rest w found new j is e push shows it adding = record {
    done = adding.done ++ Of w ∷ [];
    are = record {
      same = ap (map job_of) push ∙ map_push job_of found j ∙ (λ i. adding.are.same i ++ shows i ∷ []);
      each = subst (All (IsJobFound g)) (sym push) (All-push (IsJobFound g) found j adding.are.each it);
    };
    same = append_assoc adding.done (Of w ∷ []) (map Of (filter Passes rest)) ∙ ap (λ l. adding.done ++ l) (sym (passing left rest w true is e)) ∙ adding.same;
  }

  pub jobs_begin : (walk : List (ℕ × ℕ)) (all : List (ℕ × ℕ × ℕ)) (found : List Job) → walk ≡ work g person → AreJobs g all found → IsAddingJobs g country year person (all ++ jobs_by g country year person) walk found
  jobs_begin walk all found is are = record { done = all; are = are; same = ap (λ l. all ++ map Of (filter Passes l)) is }

  pub jobs_done : (all : List (ℕ × ℕ × ℕ)) (left : List (ℕ × ℕ)) (found : List Job) → left ≡ [] → IsAddingJobs g country year person all left found → AreJobs g all found
  jobs_done all left found none adding =
      subst (λ l. AreJobs g l found) (sym (append-nil adding.done) ∙ ap (λ l. adding.done ++ map Of (filter Passes l)) (sym none) ∙ adding.same) adding.are

-- ---- the loop over persons

pub jobs_none : (g : List Row) (found : List Job) → found ≡ [] → AreJobs g [] found
jobs_none g found none = subst (AreJobs g []) (sym none) (record { same = refl; each = All-nil (IsJobFound g) })

pub jobs_more : (g : List Row) (f : ℕ × ℕ → List (ℕ × ℕ × ℕ)) (items : List (ℕ × ℕ)) (i : ℕ) (d : ℕ × ℕ) (new : List Job) → i < length items
    → AreJobs g (flat_map f (take i items) ++ f (get_or items i d)) new → AreJobs g (flat_map f (take (i + 1) items)) new
jobs_more g f items i d new small are =
    subst (λ l. AreJobs g l new) (sym (ap (flat_map f) (take_more items i d small) ∙ joined_push f (take i items) (get_or items i d))) are

pub jobs_all : (g : List Row) (f : ℕ × ℕ → List (ℕ × ℕ × ℕ)) (all items : List (ℕ × ℕ)) (i : ℕ) (found : List Job) → items ≡ all → length items ≤ i
    → AreJobs g (flat_map f (take i items)) found → AreJobs g (flat_map f all) found
jobs_all g f all items i found is high are = subst (λ l. AreJobs g l found) (ap (flat_map f) (take_all i items high ∙ is)) are

-- ---- rows

module _ (g : List Row) (graph : IsGraph g) (fit : NumbersFit) where
  abbrev Shown : Job → List ByteCell → Type 0
  Shown j a = IsJob g (job_of j) a × IsJobFound g j

  name_is : (j : Job) (a : List ByteCell) (s : Shown j a) → s.0.organisation.name ≡ j.1.now
  name_is j a (r, f) = ap (λ (o : Organisation). o.name) (one_only (organisations g j.0.1) r.organisation f.organisation r.at f.at) ∙ sym f.named

  job_agree : (x y : Job) (a b : List ByteCell) → Shown x a → Shown y b → is_lt (by (Rising 5 ∷ Rising 1 ∷ Falling 4 ∷ []) a b) ≡ is_lt (jobs_first x y)
  job_agree x y a b r s =
      let first = name_is x a r in
      let second = name_is y b s in
      rw (r.0.is, s.0.is, first, second) (ap is_lt (columns x.0.2 y.0.2 x.0.0 y.0.0 x.1.now y.1.now))
    where
      columns : (m m' n n' : ℕ) (t t' : List ℕ) → ordering_then (cell_cmp (number_cell m) (number_cell m')) (ordering_then (cell_cmp (number_cell n) (number_cell n')) (ordering_then (cell_cmp (cell.Words t') (cell.Words t)) Equal))
          ≡ ordering_then (ordering_then (nat_cmp m m') (nat_cmp n n')) (slice_cmp nat_cmp t' t)
      columns m m' n n' t t' =
          ap (λ o. ordering_then o (ordering_then (cell_cmp (number_cell n) (number_cell n')) (ordering_then (cell_cmp (cell.Words t') (cell.Words t)) Equal))) (number_cmp m m')
          ∙ ap (λ o. ordering_then (nat_cmp m m') (ordering_then o (ordering_then (cell_cmp (cell.Words t') (cell.Words t)) Equal))) (number_cmp n n')
          ∙ ap (λ o. ordering_then (nat_cmp m m') (ordering_then (nat_cmp n n') o)) (then_last (cell_cmp (cell.Words t') (cell.Words t)) ∙ words_cmp t' t)
          ∙ then_assoc (nat_cmp m m') (nat_cmp n n') (slice_cmp nat_cmp t' t)

  -- each work row has a row
  job_any : (j : Job) → IsJobFound g j → (a : List ByteCell) × Shown j a
  job_any j f =
      let (p, c, named) = person_at g graph j.0.0 f.person in
      (_, (record { person = p; held = (found_person g graph fit j.0.0 p (named, c)).only; organisation = f.organisation; at = f.at; is = refl }, f))

  -- the rows of the first work rows are the answer
  pub job_answers : (found first : List Job) (answer : List (List ByteCell)) → All (IsJobFound g) found → SortedAndCut jobs_first (FirstRows 10) found first → AllZip (λ j a. IsJob g (job_of j) a) first answer
      → ReadAnswers (map job_of found) (IsJob g) (Rising 5 ∷ Rising 1 ∷ Falling 4 ∷ []) (FirstRows 10) answer
  job_answers found first answer all taken z =
      answers_mapped job_of Shown (IsJob g) (λ j a s. s.0) (map job_of found) found (Rising 5 ∷ Rising 1 ∷ Falling 4 ∷ []) (FirstRows 10) answer (IsPermutation-refl (map job_of found))
      (answers_from Shown jobs_first (Rising 5 ∷ Rising 1 ∷ Falling 4 ∷ []) job_agree (FirstRows 10) found found first answer (IsPermutation-refl found) taken
      (All-weaker (IsJobFound g) (λ j. (a : List ByteCell) × Shown j a) job_any found all)
      (zip_with (λ j a. IsJob g (job_of j) a) (IsJobFound g) first answer (chosen (IsJobFound g) jobs_first (FirstRows 10) found first all taken) z))
