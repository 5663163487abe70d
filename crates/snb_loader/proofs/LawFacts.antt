-- What a folder is refused for is one thing, and so is what is read of it.
use Rattle.std.proofs.Common.{◌≡◌, ◌∙◌, ◌<◌, ℕ, zero, suc, List, [], ◌∷◌, Some, refl, sym, ap, subst, arith}
use Rattle.snb_schema.specs.declared.query.Query.{Query}
use Rattle.snb_schema.specs.declared.refusal.Refusal.{Refusal}
use Rattle.snb_schema.specs.declared.refusal.Refusal.TheVariants.{Lacks, Cycle}
use Rattle.snb_schema.specs.declared.row.Placed.{Placed}
use Rattle.snb_schema.specs.declared.row.Row.{Row}
use Rattle.snb_schema.specs.Frequencies.{frequency_at}
use Rattle.snb_schema.specs.QueryLists.{list_of}
use Rattle.snb_streams.specs.Parameters.{params_file}
use Rattle.snb_input_files.specs.declared.series.Series.{Series}
use Rattle.snb_input_files.specs.Format.{Format}
use Rattle.snb_input_files.specs.Laws.{OneRefusal, OneSaying, RefusedOrNot}
use Rattle.snb_input_files.specs.Places.{FileSays, ReadFile}
use Rattle.snb_input_files.specs.Walk.{Before, Held, stage_checks}
use Rattle.snb_graph_model.specs.Laws.{GraphsAreTheirRows}
use Rattle.snb_graph_model.specs.Soundness.{Need, missing}
use Rattle.snb_loader.specs.Order.{forum_series, person_series, table_series}
use Rattle.snb_loader.specs.Dataset.{IsRefusedGraph, IsUnsound, after_tables}
use Rattle.snb_loader.specs.Dataset.IsRefusedGraph.{lacks, cycle}
use Rattle.snb_loader.specs.Lanes.{after_lanes, after_persons, next_stage, stream_format}
use Rattle.snb_loader.specs.Laws.{DatasetIsOne, DatasetRefusesOnce, LanesAreOne, LanesRefuseOnce, ParamsAreOne, ParamsRefuseOnce, RefuseOnce}
use Rattle.snb_loader.specs.Params.{IsListSaid, params_format, params_stage}
use Rattle.snb_loader.specs.Tables.{IsHeard, table_format}
use Rattle.snb_loader.proofs.Laws.{once_append, once_single}
use Rattle.snb_schema.proofs.Laws.{same_values}
use Rattle.snb_base.proofs.Laws.{first_same}

none_first : {X : Type 0} (x : X) (xs ys : List X) → ys ≡ x ∷ xs → ys ≡ [] → ⊥
none_first x xs ys e f = absurd cc

-- a stage gives one refusal at most
stage_once : {K T : Type 0} (g : Format K T) → OneRefusal g → RefusedOrNot g → (at : Before) (held : Held) (stage : List Series) → RefuseOnce (stage_checks g at held stage)
stage_once g one or_not at held stage = record { one = one at held stage; or_not = or_not at held stage }

-- a graph is refused in one way
one_graph : (g : List Row) (r q : Refusal) → IsRefusedGraph g r → IsRefusedGraph g q → r ≡ q
one_graph g r q (lacks node id edge a) (lacks other n way b) =
    ap (λ (need : Need). Lacks need.0 need.1 need.2) (first_same {X = Need} (node, id, edge) (other, n, way) a.others b.others (sym a.first ∙ b.first))
one_graph g r q (lacks node id edge a) (cycle comment complete b) = absurd (none_first {X = Need} (node, id, edge) a.others (missing g) a.first complete)
one_graph g r q (cycle comment complete a) (lacks node id edge b) = absurd (none_first {X = Need} (node, id, edge) b.others (missing g) b.first complete)
one_graph g r q (cycle comment complete a) (cycle other full b) =
    let up = a.least other b.held b.loose in
    let down = b.least comment a.held a.loose in
    ap Cycle (omega (arith, up, down))

module _ (one : OneSaying table_format) (apart : GraphsAreTheirRows) where
  -- the same lines give one graph
  same_graph : (rows other : List (List Placed)) (g h : List Row) → rows ≡ other → IsHeard g rows [] → IsHeard h other [] → g ≡ h
  same_graph rows other g h e a c =
      let b = subst (λ (rs : List (List Placed)). IsHeard h rs []) (sym e) c in
      apart g h a.graph b.graph (λ r. (λ x. (b.same r).1 ((a.same r).0 x), λ x. (a.same r).1 ((b.same r).0 x)))

  one_unsound : (ss : List ReadFile) (r q : Refusal) → IsUnsound ss r → IsUnsound ss q → r ≡ q
  one_unsound ss r q u v =
      let e = same_graph u.rows v.rows u.graph v.graph (one ss u.rows v.rows u.said v.said) u.heard v.heard in
      one_graph u.graph r q u.refused (subst (λ (g : List Row). IsRefusedGraph g q) (sym e) v.refused)

  pub dataset_once : OneRefusal table_format → RefusedOrNot table_format → DatasetRefusesOnce
  dataset_once refusal or_not at held =
      once_append (stage_checks table_format at held table_series) (IsUnsound (after_tables at held).past ∷ [])
      (stage_once table_format refusal or_not at held table_series)
      (once_single (IsUnsound (after_tables at held).past) (one_unsound (after_tables at held).past))

  pub dataset_one : DatasetIsOne
  dataset_one at held g h a b = same_graph a.rows b.rows g h (one (after_tables at held).past a.rows b.rows a.said b.said) a.heard b.heard

module _ (one : OneSaying stream_format) where
  pub lanes_one : LanesAreOne
  lanes_one at held a b p q =
      let persons = one (after_persons at held).past a.persons b.persons p.persons q.persons in
      let forums = one (after_lanes at held).past a.forums b.forums p.forums q.forums in
      λ i. record { persons = persons i; forums = forums i }

module _ (refusal : OneRefusal stream_format) (or_not : RefusedOrNot stream_format) where
  pub lanes_once : LanesRefuseOnce
  lanes_once at held =
      once_append (stage_checks stream_format at held person_series) (stage_checks stream_format (next_stage (after_persons at held)) held forum_series)
      (stage_once stream_format refusal or_not at held person_series)
      (stage_once stream_format refusal or_not (next_stage (after_persons at held)) held forum_series)

pub params_once : OneRefusal params_format → RefusedOrNot params_format → ParamsRefuseOnce
params_once refusal or_not at held table = stage_once params_format refusal or_not at held (params_stage table)

module _ (one : OneSaying params_format) where
  -- a parameter file says one list
  one_said : (held : Held) (q : ℕ) (xs ys : List Query) → IsListSaid held q xs → IsListSaid held q ys → xs ≡ ys
  one_said held q xs ys a b =
      let bytes : b.0 ≡ a.0 = cc_some a.0 b.0 (sym a.1 ∙ b.1) in
      first_same xs ys [] [] (one (source a.0 ∷ []) (xs ∷ []) (ys ∷ []) (a.2, tt) (subst (λ (z : List ℕ). FileSays params_format (source z) ys) bytes b.2, tt))
    where
      source : List ℕ → ReadFile
      source bytes = record { file = params_file q; bytes = bytes }

      cc_some : (x y : List ℕ) → Some x ≡ Some y → y ≡ x
      cc_some x y e = cc

  pub params_one : ParamsAreOne
  params_one at held table a b p q = same_values [] a b same
    where
      by_frequency : (query n : ℕ) → frequency_at table query ≡ n → list_of a query ≡ list_of b query
      by_frequency query zero e = p.others query e ∙ sym (q.others query e)
      by_frequency query (suc n) e = (let asked : 0 < frequency_at table query = omega (arith, e) in one_said held query (list_of a query) (list_of b query) (p.said query asked) (q.said query asked))

      same : (query : ℕ) → list_of a query ≡ list_of b query
      same query = by_frequency query (frequency_at table query) refl
