-- The smallest plan over a sound graph, and a history of it.
use Rattle.std.proofs.Common.{◌≡◌, ◌∙◌, ℕ, zero, suc, ◌+◌, ◌<◌, ◌≤◌, ◌⊎◌, List, [], ◌∷◌, ◌++◌, true, false, Some, inl, inr, refl, sym, ap, subst, arith}
use Rattle.std.specs.Prelude.{All, Contains, codes, slice_get}
use Rattle.std.specs.List.Sorted.{IsStrictlySortedBy}
use Rattle.std.proofs.lemmas.List.Elements.{All-cons, All-nil}
use Rattle.std.proofs.lemmas.Option.{same_Some}
use Rattle.std.proofs.lemmas.Str.{IsUtf8-from_ascii, IsUtf8-nil}
use Rattle.snb_base.specs.Spellings.{Num}
use Rattle.snb_base.proofs.Laws.{contains_here, in_one, none_in}
use Rattle.snb_history.specs.declared.event.Event.TheVariants.{Start, Finish}
use Rattle.snb_schema.proofs.Laws.{each_same}
use Rattle.snb_schema.specs.QueryPlaces.{place_of, values_of}
use Rattle.snb_schema.specs.declared.op.Line.{Line}
use Rattle.snb_schema.specs.declared.row.Row.{Row}
use Rattle.snb_schema.specs.declared.table.Kind.TheVariants as kinds
use Rattle.snb_schema.specs.declared.table.Table.TheVariants as table
use Rattle.snb_schema.specs.declared.key.Key.{Key}
use Rattle.snb_schema.specs.declared.key.Key.TheVariants.{Node}
use Rattle.snb_schema.specs.Frequencies.{FrequencyTable, frequency_at}
use Rattle.snb_history.specs.History.{finished}
use Rattle.snb_schema.specs.QueryLists.{QueryLists}
use Rattle.snb_schema.specs.References.{ref, refs_of_row}
use Rattle.snb_schema.specs.RowKeys.{RowKey, named_key, node_key, row_key}
use Rattle.snb_history.specs.Rules.{Fits, IsComplete, IsLegal, Obeys, Rule, V1, V2, V3, V4, V5, V6, V7, V8, V9}
use Rattle.snb_history.specs.Schedule.{IsOperation}
use Rattle.snb_schema.specs.StreamLines.{AreOfStream, IsOfLine}
use Rattle.snb_schema.specs.TableRows.{IsFieldText, IsTableRow}
use Rattle.snb_schema.specs.UpdateLines.{person_inserts}
use Rattle.snb_schema.specs.InsertLines.{kind_of}
use Rattle.snb_history.proofs.Laws.{IsLegal-nil, IsLegal-push}
use Rattle.snb_graph_model.specs.Graphs.{HasKey, HoldsKey, IsGraph}
use Rattle.snb_graph_model.specs.Soundness.{Sound}
use Rattle.snb_plan.specs.Closed.{IsClosed, IsClosedAt, IsMet, Update}
use Rattle.snb_plan.specs.Plans.{IsPlan, IsRead, IsUpdate, Operation, schedule_of, update_operation, updates_in}
use Rattle.snb_plan.specs.Merging.{IsLineHere, PlacedLine, file_of, lane_of}
use Rattle.snb_workers_replay.specs.Laws.{IsReplayed}
use Rattle.snb_workers_replay.specs.Worked.{city, newcomer, one_insert, one_lane, one_turn, only}

-- ---- the graph

name_fits : IsFieldText (codes "Townville")
name_fits = record { utf8 = IsUtf8-from_ascii (codes "Townville") (grind arith); no_bar = grind arith; one_line = grind arith }

none_fits : IsFieldText []
none_fits = record { utf8 = IsUtf8-nil; no_bar = All-nil _; one_line = All-nil _ }

kind_fits : IsFieldText (codes "city")
kind_fits = record { utf8 = IsUtf8-from_ascii (codes "city") (grind arith); no_bar = grind arith; one_line = grind arith }

city_fits : IsTableRow city
city_fits = record {
  shaped = refl;
  in_order = tt;
  within = (omega arith, (name_fits, (none_fits, (kind_fits, tt))));
}

pub graph : IsGraph (city ∷ [])
unfolding IsStrictlySortedBy
graph = record {
  rises = (tt, tt);
  apart = λ r s cr cs same. sym (in_one city r cr) ∙ in_one city s cs;
  of_tables = All-cons IsTableRow city [] city_fits (All-nil IsTableRow);
}

-- the city is no person and no comment
no_other : (k : RowKey) → HasKey (city ∷ []) k → table.Place ≡ k.0
no_other k h = ap (λ (r : Row). (row_key r).0) (in_one city h.it h.held) ∙ ap (λ (x : RowKey). x.0) h.keyed

pub sound : Sound (city ∷ [])
sound = record {
  held = λ r c. subst (λ (x : Row). All (λ ref. HasKey (city ∷ []) (node_key ref.1.kind ref.1.id)) (refs_of_row x false)) (in_one city r c) (All-nil _);
  complete = refl;
  rooted = λ comment h. absurd (let e = no_other (table.Comment, comment, 0, []) h in cc);
}

-- ---- the lines

digit : (d n most : ℕ) → d < 10 → n ≡ d → d ≤ most → Num ((48 + d) ∷ []) n most
digit d n most lt same le = record { digits = (omega (arith, lt), tt); some = omega arith; few = omega arith; no_lead = λ e. refl; value = omega (arith, same); small = omega (arith, same, le) }

is_line : IsOfLine newcomer
is_line = (
  codes "2|0|1|5||||0|2|||0|||||",
  record {
    text = IsUtf8-from_ascii (codes "2|0|1|5||||0|2|||0|||||") (grind arith);
    unmarked = refl;
    one_line = grind arith;
    spelled = (digit 2 2 _ (omega arith) refl (omega arith), (digit 0 0 _ (omega arith) refl (omega arith), (digit 1 1 _ (omega arith) refl (omega arith), (digit 5 5 _ (omega arith) refl (omega arith), (refl, (refl, (refl, ((omega arith, inr (digit 0 0 _ (omega arith) refl (omega arith))), ((omega arith, inr (digit 2 2 _ (omega arith) refl (omega arith))), (refl, (refl, (digit 0 0 _ (omega arith) refl (omega arith), (([], tt, refl), (([], tt, refl), (([], tt, refl), ((([], tt, refl), λ p q cp cq e. absurd (none_in p cp)), ((([], tt, refl), λ p q cp cq e. absurd (none_in p cp)), tt)))))))))))))))));
    of_two = tt;
  },
)

lane_fits : AreOfStream person_inserts (newcomer ∷ [])
lane_fits = record {
  of_lines = All-cons IsOfLine newcomer [] is_line (All-nil IsOfLine);
  of_kinds = All-cons (λ (x : Line). Contains person_inserts (kind_of x.op)) newcomer [] (0, omega arith, refl) (All-nil _);
  rises = λ i j d below lt. absurd (omega arith);
}

-- ---- the plan

-- one line stands in the lanes
these : (lane place : ℕ) (line : Line) → lane < 1 → slice_get (lane_of one_lane lane) place ≡ Some line → ◌≡◌ {A = PlacedLine} only (record { lane = lane; place = place; line = line })
these zero zero line lt e = ap (λ (x : Line). let p : PlacedLine = record { lane = 0; place = 0; line = x } in p) (same_Some newcomer line e)
these zero (suc k) line lt e = absurd cc
these (suc n) place line lt e = absurd (omega arith)

abbrev none : FrequencyTable
none = values_of 7 [] 0

abbrev no_lists : QueryLists
no_lists = values_of 7 [] []

-- no query has a frequency
unasked : (t : FrequencyTable) (q : ℕ) → t ≡ none → frequency_at t q ≡ 0
unasked t q e = ap (λ (table : FrequencyTable). frequency_at table q) e ∙ each_same 7 0 (place_of q)

is_plan : IsPlan one_lane no_lists none 1000000 one_insert
is_plan = record {
  updates = only ∷ [];
  reads = [];
  are_updates = record {
    ordered = λ i j d below lt. absurd (omega arith);
    those = λ p. (
      λ c. subst (IsLineHere one_lane) (in_one only p c) (record { in_lanes = omega arith; here = refl }),
      λ is. subst (Contains (only ∷ [])) (these p.lane p.place p.line is.in_lanes is.here) (contains_here only []),
    );
  };
  are_reads = record {
    ordered = λ i j d below lt. absurd (omega arith);
    those = λ i. (λ c. absurd (none_in i c), λ is. absurd (let some = is.frequent in let no = unasked none i.query refl in omega (arith, some, no)));
  };
  lane_kinds = refl;
  numbered = record {
    ordered = λ i j d below lt. absurd (omega arith);
    those = λ o. (λ c. inl (only, contains_here only [], sym (in_one _ o c)), to o);
  };
}
  where
    to : (o : Operation) → IsUpdate one_lane 1000000 2 (only ∷ []) o ⊎ IsRead one_lane no_lists 1000000 2 (only ∷ []) [] o → Contains one_insert.operations o
    to o (inl (p, c, same)) =
        subst (Contains one_insert.operations) (sym (same ∙ ap (update_operation one_lane 1000000 2) (sym (in_one only p c)))) (contains_here (update_operation one_lane 1000000 2 only) [])
    to o (inr r) = absurd (let e = r.here in cc)

abbrev update : Update
update = record { lane = 0; file = file_of one_lane 0; line = newcomer }

closed_at : IsClosedAt (HoldsKey (city ∷ [])) (update ∷ []) [] update
closed_at = record {
  timely = λ waits. absurd cc;
  new = λ taken. elim taken.2 [
    | inl held ↦ absurd (let e = no_other (named_key taken.0) held in let key = in_one (Node kinds.Person 5) taken.0 taken.1 in let p : table.Person ≡ (named_key taken.0).0 = ap (λ (k : Key). (named_key k).0) key in cc)
    | inr before ↦ absurd (none_in before.0 before.1)
  ];
  met = All-cons (IsMet (HoldsKey (city ∷ [])) (update ∷ []) [] update) (ref kinds.Place 0) [] (inl there) (All-nil _);
}
  where
    there : HoldsKey (city ∷ []) (Node kinds.Place 0)
    there = record { it = city; held = contains_here city []; keyed = refl }

closed : IsClosed (HoldsKey (city ∷ [])) (updates_in one_insert)
closed = record { each = by }
  where
    by : (before : List Update) (u : Update) (after : List Update) → before ++ u ∷ after ≡ updates_in one_insert → IsClosedAt (HoldsKey (city ∷ [])) (updates_in one_insert) before u
    by [] u after e = subst (IsClosedAt (HoldsKey (city ∷ [])) (update ∷ []) []) (sym (let q : u ≡ update = cc in q)) closed_at
    by (x ∷ []) u after e = absurd cc
    by (x ∷ y ∷ before) u after e = absurd cc

pub replayed : IsReplayed (city ∷ []) one_insert
replayed = record {
  of_streams = record {
    lanes = one_lane;
    lists = no_lists;
    frequencies = none;
    ratio = 1000000;
    is_plan = is_plan;
    streams = record { persons = All-cons (AreOfStream person_inserts) (newcomer ∷ []) [] lane_fits (All-nil _); forums = All-nil _ };
  };
  closed = closed;
}

-- ---- the history

starts : Fits (schedule_of one_insert) 1 [] (Start 0 0 0)
starts = record { obeys = by }
  where
    by : (r : Rule) → Obeys (schedule_of one_insert) 1 [] (Start 0 0 0) r
    by V1 = (omega arith, record { known = omega arith; running = refl })
    by V2 = record { fresh = refl; led = λ j before. absurd (omega (arith, before.0)) }
    by V3 = λ forum j before. absurd (omega (arith, before.0))
    by V4 = omega arith
    by V5 = λ waits. absurd cc
    by V6 = refl
    by V7 = tt
    by V8 = tt
    by V9 = omega arith

finishes : Fits (schedule_of one_insert) 1 (Start 0 0 0 ∷ []) (Finish 0 0 0 0)
finishes = record { obeys = by }
  where
    by : (r : Rule) → Obeys (schedule_of one_insert) 1 (Start 0 0 0 ∷ []) (Finish 0 0 0 0) r
    by V1 = (omega arith, record { known = omega arith; running = refl })
    by V2 = tt
    by V3 = tt
    by V4 = tt
    by V5 = tt
    by V6 = tt
    by V7 = refl
    by V8 = record { of_read = λ read. absurd cc; of_insert = λ insert. refl }
    by V9 = omega arith

pub legal : IsLegal (schedule_of one_insert) 1 one_turn
legal = IsLegal-push _ 1 (Start 0 0 0 ∷ []) (Finish 0 0 0 0) (IsLegal-push _ 1 [] (Start 0 0 0) (IsLegal-nil (schedule_of one_insert) 1) starts (omega arith)) finishes (omega arith)

pub complete : IsComplete (schedule_of one_insert) one_turn
complete = record { all_finished = all; none_halted = λ w. refl }
  where
    all : (k : ℕ) → IsOperation (schedule_of one_insert) k → finished one_turn k ≡ true
    all zero within = refl
    all (suc k) within = absurd (omega arith)
