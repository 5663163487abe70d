-- The dataset is a sound graph.
use Rattle.std.proofs.Common.{◌≡◌, ◌∷◌, ℕ, zero, suc, ◌+◌, ◌<◌, ◌≤◌, List, [], false, get_or, refl, sym, ap, subst, arith}
use Rattle.std.specs.Prelude.{codes}
use Rattle.std.specs.List.{All, AllByRecursion, AllPairs}
use Rattle.std.specs.List.Sorted.{IsStrictlySortedBy}
use Rattle.std.proofs.lemmas.List.Elements.{All-from_recursion, All-nil}
use Rattle.std.proofs.lemmas.List.Sorted.{Contains-permutation, IsPermutation-sym}
use Rattle.std.proofs.lemmas.Str.{IsUtf8-from_ascii}
use Rattle.snb_schema.specs.declared.row.Row.{Row}
use Rattle.snb_schema.specs.declared.row.Row.TheVariants as row
use Rattle.snb_schema.specs.declared.table.Kind.TheVariants as kinds
use Rattle.snb_schema.specs.declared.table.Table.{Table}
use Rattle.snb_schema.specs.declared.table.Table.TheVariants as table
use Rattle.snb_schema.specs.References.{refs_of_row}
use Rattle.snb_schema.specs.RowKeys.{RowKey, node_key, row_key, slot_of}
use Rattle.snb_schema.specs.TableRows.{IsFieldText, IsTableRow}
use Rattle.snb_graph_model.specs.Graphs.{HasGained, HasKey, row_order}
use Rattle.snb_graph_model.specs.Soundness.{Sound}
use Rattle.snb_graph_model.proofs.Laws.{of_each, row_total, same_list}
use Rattle.snb_graph.specs.Additions.{HasClash}
use Rattle.snb_trial.specs.Trial.{dataset}
use Rattle.snb_trial.proofs.Elements.{before_it}
use Rattle.snb_trial.proofs.Spelled.{address, letter}

-- ---- each is a row of its table

word : IsFieldText (codes "city")
word = record { utf8 = IsUtf8-from_ascii (codes "city") (grind arith); no_bar = grind arith; one_line = grind arith }

country : IsFieldText (codes "country")
country = record { utf8 = IsUtf8-from_ascii (codes "country") (grind arith); no_bar = grind arith; one_line = grind arith }

company : IsFieldText (codes "company")
company = record { utf8 = IsUtf8-from_ascii (codes "company") (grind arith); no_bar = grind arith; one_line = grind arith }

plain : (b : ℕ) → 48 ≤ b → b < 123 → IsFieldText (b ∷ [])
plain b low high = letter b (omega (arith, high)) (omega (arith, high)) (omega (arith, low))

pub rows_fit : All IsTableRow dataset
rows_fit = All-from_recursion IsTableRow dataset (
  record { shaped = refl; in_order = tt; within = (omega arith, (plain 97 (omega arith) (omega arith), (plain 117 (omega arith) (omega arith), (word, tt)))) },
  (
    record { shaped = refl; in_order = tt; within = (omega arith, (plain 98 (omega arith) (omega arith), (plain 117 (omega arith) (omega arith), (country, tt)))) },
    (
      record { shaped = refl; in_order = tt; within = (omega arith, (plain 120 (omega arith) (omega arith), (plain 117 (omega arith) (omega arith), tt))) },
      (
        record { shaped = refl; in_order = tt; within = (omega arith, (plain 120 (omega arith) (omega arith), (plain 117 (omega arith) (omega arith), tt))) },
        (
          record { shaped = refl; in_order = tt; within = (omega arith, (company, (plain 111 (omega arith) (omega arith), (plain 117 (omega arith) (omega arith), tt)))) },
          (
            record {
              shaped = refl;
              in_order = tt;
              within = (omega arith, (plain 70 (omega arith) (omega arith), (plain 76 (omega arith) (omega arith), (plain 103 (omega arith) (omega arith), (omega arith, (omega arith, (address, (plain 98 (omega arith) (omega arith), tt))))))));
            },
            (
              record { shaped = refl; in_order = tt; within = (omega arith, (omega arith, tt)) },
              (
                record { shaped = refl; in_order = tt; within = (omega arith, (omega arith, tt)) },
                (
                  record { shaped = refl; in_order = tt; within = (omega arith, (omega arith, tt)) },
                  (record { shaped = refl; in_order = tt; within = (omega arith, (omega arith, tt)) }, tt),
                ),
              ),
            ),
          ),
        ),
      ),
    ),
  ),
)

-- ---- no two fill one slot

-- a number that rises along the slots of the rows
abbrev mark_of : Table → ℕ
mark_of table.Place = 0
mark_of table.TagClass = 2
mark_of table.Tag = 3
mark_of table.Organisation = 4
mark_of table.Person = 5
mark_of table.PlaceIsPartOfPlace = 6
mark_of table.TagHasTypeTagClass = 7
mark_of table.OrganisationIsLocatedInPlace = 8
mark_of t = 9

abbrev mark : Row → ℕ
mark r = mark_of (slot_of r).0 + (slot_of r).1

-- the mark of a row is its place
marks : (k : ℕ) (d : Row) → k < 10 → mark (get_or dataset k d) ≡ k
marks zero d lt = refl
marks (suc zero) d lt = refl
marks (suc (suc zero)) d lt = refl
marks (suc (suc (suc zero))) d lt = refl
marks (suc (suc (suc (suc zero)))) d lt = refl
marks (suc (suc (suc (suc (suc zero))))) d lt = refl
marks (suc (suc (suc (suc (suc (suc zero)))))) d lt = refl
marks (suc (suc (suc (suc (suc (suc (suc zero))))))) d lt = refl
marks (suc (suc (suc (suc (suc (suc (suc (suc zero)))))))) d lt = refl
marks (suc (suc (suc (suc (suc (suc (suc (suc (suc zero))))))))) d lt = refl
marks (suc (suc (suc (suc (suc (suc (suc (suc (suc (suc k)))))))))) d lt = absurd (omega (arith, lt))

-- of two rows in order the first has the smaller mark
apart : AllPairs (λ (r s : Row). mark r < mark s) dataset
apart i j d below lt =
    let one = marks i d (omega (arith, below, lt)) in
    let other = marks j d (omega (arith, lt)) in
    omega (arith, one, other, below)

none_clash : ¬ HasClash [] dataset
none_clash c =
    let less = before_it (λ (r s : Row). mark r < mark s) c.before c.one c.after (subst (AllPairs (λ (r s : Row). mark r < mark s)) (sym c.splits) apart) c.filled.it c.filled.held in
    let same = ap (λ (k : RowKey). mark_of k.0 + k.1) c.filled.fills in
    omega (arith, less, same)

-- ---- the graph

sorted : IsStrictlySortedBy row_order dataset
unfolding IsStrictlySortedBy
sorted = (
  (refl, (refl, (refl, (refl, (refl, (refl, (refl, (refl, (refl, tt))))))))),
  (
    (refl, (refl, (refl, (refl, (refl, (refl, (refl, (refl, tt)))))))),
    (
      (refl, (refl, (refl, (refl, (refl, (refl, (refl, tt))))))),
      (
        (refl, (refl, (refl, (refl, (refl, (refl, tt)))))),
        (
          (refl, (refl, (refl, (refl, (refl, tt))))),
          (
            (refl, (refl, (refl, (refl, tt)))),
            (
              (refl, (refl, (refl, tt))),
              (
                (refl, (refl, tt)),
                (
                  (refl, tt),
                  (tt, tt),
                ),
              ),
            ),
          ),
        ),
      ),
    ),
  ),
)

-- the graph that gained the rows is the dataset
gained : (g : List Row) → HasGained [] dataset g → g ≡ dataset
gained g h =
    same_list row_order row_total g dataset h.graph.rises sorted
    (λ r. (Contains-permutation g dataset r h.rows, Contains-permutation dataset g r (IsPermutation-sym g dataset h.rows)))

-- the same of rows that are the dataset's, and of a graph that was empty
pub gained_all : (old more g : List Row) → old ≡ [] → more ≡ dataset → HasGained old more g → g ≡ dataset
gained_all old more g none is h = gained g (subst (λ (rows : List Row). HasGained [] rows g) is (subst (λ (rows : List Row). HasGained rows more g) none h))

pub all_new : (old more : List Row) → old ≡ [] → more ≡ dataset → ¬ HasClash old more
all_new old more none is h = none_clash (subst (HasClash []) is (subst (λ (rows : List Row). HasClash rows more) none h))

-- ---- it is sound

place_zero : HasKey dataset (node_key kinds.Place 0)
place_zero = record { it = _; held = (0, omega arith, refl); keyed = refl }

place_one : HasKey dataset (node_key kinds.Place 1)
place_one = record { it = get_or dataset 1 (row.Link table.PlaceIsPartOfPlace 0 1); held = (1, omega arith, refl); keyed = refl }

class_zero : HasKey dataset (node_key kinds.TagClass 0)
class_zero = record { it = get_or dataset 2 (row.Link table.PlaceIsPartOfPlace 0 1); held = (2, omega arith, refl); keyed = refl }

tag_zero : HasKey dataset (node_key kinds.Tag 0)
tag_zero = record { it = get_or dataset 3 (row.Link table.PlaceIsPartOfPlace 0 1); held = (3, omega arith, refl); keyed = refl }

company_zero : HasKey dataset (node_key kinds.Organisation 0)
company_zero = record { it = get_or dataset 4 (row.Link table.PlaceIsPartOfPlace 0 1); held = (4, omega arith, refl); keyed = refl }

person_zero : HasKey dataset (node_key kinds.Person 0)
person_zero = record { it = get_or dataset 5 (row.Link table.PlaceIsPartOfPlace 0 1); held = (5, omega arith, refl); keyed = refl }

-- the nodes that a row refers to are held
abbrev RefersToHeld : Row → Type 0
RefersToHeld r = All (λ ref. HasKey dataset (node_key ref.1.kind ref.1.id)) (refs_of_row r false)

ends_held : (r : Row) → AllByRecursion (λ ref. HasKey dataset (node_key ref.1.kind ref.1.id)) (refs_of_row r false) → RefersToHeld r
ends_held r h = All-from_recursion (λ ref. HasKey dataset (node_key ref.1.kind ref.1.id)) (refs_of_row r false) h

pub sound : Sound dataset
sound = record {
  held = of_each RefersToHeld dataset (
    All-nil _,
    (
      All-nil _,
      (
        All-nil _,
        (
          All-nil _,
          (
            All-nil _,
            (
              All-nil _,
              (
                ends_held (row.Link table.PlaceIsPartOfPlace 0 1) (place_zero, (place_one, tt)),
                (
                  ends_held (row.Link table.TagHasTypeTagClass 0 0) (tag_zero, (class_zero, tt)),
                  (
                    ends_held (row.Link table.OrganisationIsLocatedInPlace 0 1) (company_zero, (place_one, tt)),
                    (ends_held (row.Link table.PersonIsLocatedInPlace 0 0) (person_zero, (place_zero, tt)), tt),
                  ),
                ),
              ),
            ),
          ),
        ),
      ),
    ),
  );
  complete = refl;
  rooted = λ comment h. absurd (of_each (λ (r : Row). (row_key r).0 ≡ table.Comment → ⊥) dataset
      (λ e. cc, (λ e. cc, (λ e. cc, (λ e. cc, (λ e. cc, (λ e. cc, (λ e. cc, (λ e. cc, (λ e. cc, (λ e. cc, tt))))))))))
      h.it h.held (ap (λ (k : RowKey). k.0) h.keyed));
}
