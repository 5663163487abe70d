-- What other crates may cite of this one: facts about checks one after the other, and about what is read of one folder.
use Rattle.std.proofs.Common.{◌≡◌, ◌≤◌, ◌∙◌, ◌⊎◌, ℕ, List, [], ◌∷◌, ◌++◌, Option, None, map, sym, ap, subst, inl, inr, arith, rules}
use Rattle.snb_base.specs.Shelf.{Files}
use Rattle.snb_schema.specs.declared.refusal.Refusal.{Refusal}
use Rattle.snb_schema.specs.declared.row.Row.{Row}
use Rattle.snb_schema.specs.Frequencies.{FrequencyTable}
use Rattle.snb_schema.specs.LineLanes.{LineLanes}
use Rattle.snb_schema.specs.QueryLists.{QueryLists}
use Rattle.snb_streams.specs.Parameters.{params_file}
use Rattle.snb_input_files.specs.declared.series.Series.{Series}
use Rattle.snb_base.specs.FirstOf.{FirstOf, NoneOf}
use Rattle.snb_input_files.specs.Laws.{AreBelow, AreFrom, Joined}
use Rattle.snb_input_files.specs.Places.{FilesSay}
use Rattle.snb_input_files.specs.Walk.{Before, Held, Look, after_walk, looks_from, series_looks, stage_looks, walk_checks}
use Rattle.snb_loader.specs.Order.{forum_series, person_series, table_series, params_series}
use Rattle.snb_loader.specs.Dataset.{IsDataset, IsUnsound, after_tables, dataset_checks}
use Rattle.snb_loader.specs.Lanes.{AreLanes, after_lanes, after_persons, lane_checks, next_stage, stream_format}
use Rattle.snb_loader.specs.Laws.{RefuseOnce}
use Rattle.snb_loader.specs.Params.{AreParams, after_params, asked, params_checks, params_format, params_stage}
use Rattle.snb_loader.specs.Tables.{table_format}

-- ---- checks, and then more checks

-- where one refuses, it is one of the first, or none of these refuses
pub first_cases : (cs ds : List {1} (Refusal → Type 0)) (r : Refusal) → FirstOf (cs ++ ds) r → FirstOf cs r ⊎ (NoneOf cs × FirstOf ds r)
first_cases [] ds r p = inr (tt, p)
first_cases (A ∷ cs) ds r (inl p) = inl (inl p)
first_cases (A ∷ cs) ds r (inr p) = elim (first_cases cs ds r p.1) [
  | inl a ↦ inl (inr (p.0, a))
  | inr b ↦ inr ((p.0, b.0), b.1)
]

-- where none refuses, none of the first does, nor of the last
pub none_cases : (cs ds : List {1} (Refusal → Type 0)) → NoneOf (cs ++ ds) → NoneOf cs × NoneOf ds
none_cases [] ds p = (tt, p)
none_cases (A ∷ cs) ds p = (let h = none_cases cs ds p.1 in ((p.0, h.0), h.1))

-- checks that give one refusal at most do so one list after the other
pub once_append : (cs ds : List {1} (Refusal → Type 0)) → RefuseOnce cs → RefuseOnce ds → RefuseOnce (cs ++ ds)
once_append cs ds a b = record {
  one = λ r q p s. one_of r q (first_cases cs ds r p) (first_cases cs ds q s);
  or_not = λ r p none. not_none r (first_cases cs ds r p) (none_cases cs ds none);
}
  where
    one_of : (r q : Refusal) → FirstOf cs r ⊎ (NoneOf cs × FirstOf ds r) → FirstOf cs q ⊎ (NoneOf cs × FirstOf ds q) → r ≡ q
    one_of r q (inl p) (inl s) = a.one r q p s
    one_of r q (inl p) (inr s) = absurd (a.or_not r p s.0)
    one_of r q (inr p) (inl s) = absurd (a.or_not q s p.0)
    one_of r q (inr p) (inr s) = b.one r q p.1 s.1

    not_none : (r : Refusal) → FirstOf cs r ⊎ (NoneOf cs × FirstOf ds r) → ¬ (NoneOf cs × NoneOf ds)
    not_none r (inl p) none = a.or_not r p none.0
    not_none r (inr p) none = b.or_not r p.1 none.1

-- one check that gives one refusal at most
pub once_single : (A : Refusal → Type 0) → ((r q : Refusal) → A r → A q → r ≡ q) → RefuseOnce (A ∷ [])
once_single A one = record {
  one = λ r q p s. one_of r q p s;
  or_not = λ r p none. not_none r p none;
}
  where
    one_of : (r q : Refusal) → FirstOf (A ∷ []) r → FirstOf (A ∷ []) q → r ≡ q
    one_of r q (inl p) (inl s) = one r q p s
    one_of r q (inl p) (inr s) = absurd s.1
    one_of r q (inr p) s = absurd p.1

    not_none : (r : Refusal) → FirstOf (A ∷ []) r → ¬ NoneOf (A ∷ [])
    not_none r (inl p) none = none.0 r p
    not_none r (inr p) none = p.1

-- ---- what two reads of one folder found, as files of one folder

-- both have the same files of tables: they are refused alike, as much is read, and they are the same dataset
pub record SameDataset (a b : Held) : Type 1 where
  pub checks : (at : Before) → dataset_checks at a ≡ dataset_checks at b
  pub after : (at : Before) → after_tables at a ≡ after_tables at b
  pub is : (at : Before) (g : List Row) → IsDataset at a g → IsDataset at b g

-- the same of the streams
pub record SameLanes (a b : Held) : Type 1 where
  pub checks : (at : Before) → lane_checks at a ≡ lane_checks at b
  pub after : (at : Before) → after_lanes at a ≡ after_lanes at b
  pub are : (at : Before) (lanes : LineLanes) → AreLanes at a lanes → AreLanes at b lanes

-- the same of the parameter files
pub record SameParams (table : FrequencyTable) (a b : Held) : Type 1 where
  pub checks : (at : Before) → params_checks at a table ≡ params_checks at b table
  pub after : (at : Before) → after_params at a table ≡ after_params at b table
  pub are : (at : Before) (lists : QueryLists) → AreParams at a table lists → AreParams at b table lists

same_dataset : (a b : Held) → stage_looks a table_series ≡ stage_looks b table_series → SameDataset a b
same_dataset a b e = record {
  checks = λ at. checks at;
  after = λ at. after at;
  is = λ at g d. record {
    clean = subst (λ (cs : List {1} (Refusal → Type 0)). NoneOf cs) (checks at) d.clean;
    rows = d.rows;
    said = subst (λ (z : Before). FilesSay table_format z.past d.rows) (after at) d.said;
    heard = d.heard;
    sound = d.sound;
  };
}
  where
    checks : (at : Before) → dataset_checks at a ≡ dataset_checks at b
    checks at i = walk_checks table_format at (e i) ++ IsUnsound (after_walk table_format at (e i)).past ∷ []

    after : (at : Before) → after_tables at a ≡ after_tables at b
    after at = ap (λ (ls : List Look). after_walk table_format at ls) e

same_lanes : (a b : Held) → stage_looks a person_series ≡ stage_looks b person_series → stage_looks a forum_series ≡ stage_looks b forum_series → SameLanes a b
same_lanes a b e f = record {
  checks = λ at. checks at;
  after = λ at. after at;
  are = λ at lanes k. record {
    clean = subst (λ (cs : List {1} (Refusal → Type 0)). NoneOf cs) (checks at) k.clean;
    persons = subst (λ (z : Before). FilesSay stream_format z.past lanes.persons) (persons at) k.persons;
    forums = subst (λ (z : Before). FilesSay stream_format z.past lanes.forums) (after at) k.forums;
  };
}
  where
    persons : (at : Before) → after_persons at a ≡ after_persons at b
    persons at = ap (λ (ls : List Look). after_walk stream_format at ls) e

    checks : (at : Before) → lane_checks at a ≡ lane_checks at b
    checks at i = walk_checks stream_format at (e i) ++ walk_checks stream_format (next_stage (persons at i)) (f i)

    after : (at : Before) → after_lanes at a ≡ after_lanes at b
    after at i = after_walk stream_format (next_stage (persons at i)) (f i)

same_params : (table : FrequencyTable) (a b : Held) → stage_looks a (params_stage table) ≡ stage_looks b (params_stage table) → ((q : ℕ) → a (params_file q) ≡ b (params_file q)) → SameParams table a b
same_params table a b e file = record {
  checks = λ at i. walk_checks params_format at (e i);
  after = λ at. ap (λ (ls : List Look). after_walk params_format at ls) e;
  are = λ at lists k. record {
    clean = subst (λ (ls : List Look). NoneOf (walk_checks params_format at ls)) e k.clean;
    said = λ q l. (let h = k.said q l in (h.0, sym (file q) ∙ h.1, h.2));
    others = k.others;
  };
}

-- the file that is looked for first
abbrev first_held : List Look → Option (List ℕ)
first_held [] = None
first_held (l ∷ ls) = l.held

same_file : (a b : Held) (q : ℕ) → stage_looks a (params_series q ∷ []) ≡ stage_looks b (params_series q ∷ []) → a (params_file q) ≡ b (params_file q)
unfolding series_looks looks_from
same_file a b q e = ap first_held e

below_more : (n m : ℕ) (stage : List Series) → n ≤ m → AreBelow n stage → AreBelow m stage
below_more n m [] le h = tt
below_more n m (s ∷ ss) le h = (let first = h.0 in omega (arith, le, first), below_more n m ss le h.1)

tables_below : AreBelow 33 table_series
tables_below = search rules

params_are_from : (n : ℕ) (qs : List ℕ) → n ≤ 35 → AreFrom n (map params_series qs)
params_are_from n [] le = tt
params_are_from n (q ∷ qs) le = (omega (arith, le), params_are_from n qs le)

module _ (contents : Option Files) (folder : List ℕ) (first second held : Held) (n : ℕ) (join : Joined contents folder first second n held) where
  -- the files below a number are those of the first read
  pub dataset_below : 33 ≤ n → SameDataset first held
  dataset_below le = same_dataset first held (sym (join.below table_series (below_more 33 n table_series le tables_below)))

  pub lanes_below : 35 ≤ n → SameLanes first held
  lanes_below le = same_lanes first held (sym (join.below person_series (omega (arith, le), tt))) (sym (join.below forum_series (omega (arith, le), tt)))

  -- those from it on are those of the second
  pub lanes_from : n ≤ 33 → SameLanes second held
  lanes_from le = same_lanes second held (sym (join.from person_series (le, tt))) (sym (join.from forum_series (omega (arith, le), tt)))

  pub params_from : (table : FrequencyTable) → n ≤ 35 → SameParams table second held
  params_from table le =
      same_params table second held (sym (join.from (params_stage table) (params_are_from n (asked table) le)))
      (λ q. same_file second held q (sym (join.from (params_series q ∷ []) (params_are_from n (q ∷ []) le))))
