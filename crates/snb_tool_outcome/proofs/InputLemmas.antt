-- Facts on what is read of a folder, and on what it is refused for.
use Rattle.std.proofs.Common.{◌≡◌, ℕ, false, ◌<◌, ◌≤◌, List, [], ◌∷◌, ◌++◌, Option, Result, Ok, Err, refl, inl, inr, sym, subst, ap, ◌∙◌, arith}
use Rattle.std.specs.Result.{IfOk, IsErrAnd}
use Rattle.snb_base.specs.Shelf.{Files}
use Rattle.snb_input_files.specs.declared.load.Load.{Load}
use Rattle.snb_input_files.specs.declared.load.Load.TheVariants.{Refused, ReadFault, Memory}
use Rattle.snb_input_files.specs.declared.load.Used.{Used}
use Rattle.snb_base.specs.FirstOf.{FirstOf}
use Rattle.snb_input_files.specs.Laws.{StagesJoin}
use Rattle.snb_input_files.specs.Loading.{is_read_fault}
use Rattle.snb_input_files.specs.Stages.{before}
use Rattle.snb_input_files.specs.Walk.{Before, Held, IsHeldTold}
use Rattle.snb_input_files.proofs.Laws.{first_anyway, first_later, none_append}
use Rattle.snb_loader.specs.Dataset.{IsDataset, IsDatasetAnswer, after_tables, dataset_checks}
use Rattle.snb_loader.specs.Lanes.{AreLanes, IsLanesAnswer, after_lanes, lane_checks, next_stage}
use Rattle.snb_loader.specs.Laws.{DatasetIsOne, LanesAreOne, ParamsAreOne}
use Rattle.snb_loader.specs.Params.{AreParams, IsParamsAnswer, params_checks}
use Rattle.snb_loader.proofs.Laws.{SameLanes, SameParams, dataset_below, lanes_below, lanes_from, params_from}
use Rattle.snb_plan.specs.Closed.{IsClosed, IsFirstWrong}
use Rattle.snb_plan.specs.PlanLaws.{PlanIsOne}
use Rattle.snb_schema.specs.declared.fault.PlanFault.{PlanFault}
use Rattle.snb_schema.specs.declared.fault.PlanFault.TheVariants as plan_faults
use Rattle.snb_plan.specs.Plans.{IsPlan, Plan, updates_in}
use Rattle.snb_plan.specs.Tasks.{OnRefused}
use Rattle.snb_plan.specs.Merging.{read_count}
use Rattle.snb_plan.proofs.Laws.{closed_is_one}
use Rattle.snb_schema.specs.declared.limits.TheConstants.{MAX_READS}
use Rattle.snb_schema.specs.declared.refusal.Counted.TheVariants.{Reads}
use Rattle.snb_schema.specs.declared.refusal.Refusal.{Refusal}
use Rattle.snb_schema.specs.declared.refusal.Refusal.TheVariants.{TooMany}
use Rattle.snb_schema.specs.declared.row.Row.{Row}
use Rattle.snb_schema.specs.Frequencies.{FrequencyTable}
use Rattle.snb_schema.specs.LineLanes.{LineLanes, update_count}
use Rattle.snb_schema.specs.QueryLists.{QueryLists}
use Rattle.snb_graph_model.specs.Graphs.{HoldsKey}
use Rattle.snb_graph_model.specs.Soundness.{Sound}
use Rattle.snb_tool_outcome.specs.declared.input.Input.{Input}
use Rattle.snb_input_files.specs.Loading.{load_for_plan}
use Rattle.snb_tool_outcome.specs.PlanEndings.{IsInputAnswer, IsMade, IsMadeAnswer, IsOpen}
use Rattle.snb_tool_outcome.specs.Inputs.{ArePlanned, AreTooMany, IsNotClosed, after_dataset, after_streams, at_first}

-- what is so of a fault is so of the answer that passes it on
pub passed : {A : Type 0} (P : Result A Load → Type 0) (answer : Result A Load) (load : Load) → IsErrAnd answer (λ e. e ≡ load) → P (Err load) → P answer
passed P (Ok a) load same h = absurd same
passed P (Err other) load same h = subst (λ (l : Load). P (Err l)) (sym same) h

-- what is read of the files of one folder is one thing
pub record AreOne : Type 0 where
  pub dataset : DatasetIsOne
  pub lanes : LanesAreOne
  pub params : ParamsAreOne
  pub plan : PlanIsOne

-- the checks that come after the files
abbrev pub last_checks : ℕ → FrequencyTable → Held → List {1} (Refusal → Type 0)
last_checks ratio table held = AreTooMany held table ∷ IsNotClosed held ratio table ∷ []

-- the checks from the parameter files on, and from the streams on
abbrev pub param_tail : ℕ → FrequencyTable → Held → List {1} (Refusal → Type 0)
param_tail ratio table held = params_checks (after_streams held) held table ++ last_checks ratio table held

abbrev pub lane_tail : ℕ → FrequencyTable → Held → List {1} (Refusal → Type 0)
lane_tail ratio table held = lane_checks (after_dataset held) held ++ param_tail ratio table held

module _ (one : AreOne) (ratio : ℕ) (table : FrequencyTable) (held : Held) where
  -- files have one plan at most
  pub planned_one : (p q : Plan) → ArePlanned held ratio table p → ArePlanned held ratio table q → p ≡ q
  planned_one p q a b =
      let lanes : b.lanes ≡ a.lanes = one.lanes (after_dataset held) held b.lanes a.lanes b.streams a.streams in
      let lists : b.lists ≡ a.lists = one.params (after_streams held) held table b.lists a.lists b.params a.params in
      one.plan a.lanes a.lists table ratio p q a.is_plan
      (subst (λ (xs : QueryLists). IsPlan a.lanes xs table ratio q) lists (subst (λ (ls : LineLanes). IsPlan ls b.lists table ratio q) lanes b.is_plan))

  -- where there aren't too many reads, they aren't refused so
  too_many_not : (lanes : LineLanes) → AreLanes (after_dataset held) held lanes → read_count table (update_count lanes) ≤ MAX_READS → (r : Refusal) → ¬ AreTooMany held table r
  too_many_not lanes streams few r a =
      let many : MAX_READS < read_count table (update_count lanes) =
      subst (λ (ls : LineLanes). MAX_READS < read_count table (update_count ls)) (one.lanes (after_dataset held) held a.lanes lanes a.streams streams) a.many in
      omega (arith, many, few)

  -- what isn't closed, of this dataset and this plan
  pub wrong_of : (graph : List Row) (plan : Plan) (r : Refusal) → IsDataset at_first held graph → ArePlanned held ratio table plan → IsNotClosed held ratio table r
      → IsFirstWrong (HoldsKey graph) (updates_in plan) r
  wrong_of graph plan r dataset planned a =
      subst (λ (g : List Row). IsFirstWrong (HoldsKey g) (updates_in plan) r) (one.dataset at_first held a.graph graph a.dataset dataset)
      (subst (λ (p : Plan). IsFirstWrong (HoldsKey a.graph) (updates_in p) r) (planned_one a.plan plan a.planned planned) a.wrong)

  -- and closed updates aren't
  closed_not : (graph : List Row) (plan : Plan) → IsDataset at_first held graph → ArePlanned held ratio table plan → IsClosed (HoldsKey graph) (updates_in plan)
      → (r : Refusal) → ¬ IsNotClosed held ratio table r
  closed_not graph plan dataset planned closed r a = (closed_is_one (HoldsKey graph) (updates_in plan) r (wrong_of graph plan r dataset planned a)).1 closed

-- ---- what was read of one folder

-- nothing was read before
abbrev pub nothing_used : Used
nothing_used = record { bytes = 0; rows = 0 }

-- the streams begin where the tables end
start_is : (used : Used) (held : Held) → used.bytes ≡ (after_tables at_first held).bytes → used.rows ≡ (after_tables at_first held).rows → before used ≡ after_dataset held
start_is used held b r i = record { bytes = b i; rows = r i; past = [] }

-- and the parameter files where the streams end
next_is : (used later : Used) (held : Held) → later.bytes ≡ (after_lanes (before used) held).bytes → later.rows ≡ (after_lanes (before used) held).rows → before later ≡ next_stage (after_lanes (before used) held)
next_is used later held b r i = record { bytes = b i; rows = r i; past = [] }

-- checks that are the same refuse alike
first_by : (cs ds : List {1} (Refusal → Type 0)) (r : Refusal) → cs ≡ ds → FirstOf cs r → FirstOf ds r
first_by cs ds r e h = subst (λ (xs : List {1} (Refusal → Type 0)). FirstOf xs r) e h

module _ (stages : StagesJoin) (contents : Option Files) (folder : List ℕ) where
  -- a dataset and something that was read after it are of one folder
  record Both (used : Used) (graph : List Row) (second : Held) : Type 1 where
    pub held : Held
    pub told : IsHeldTold contents folder held
    pub dataset : IsDataset at_first held graph
    pub start : before used ≡ after_dataset held
    pub lanes : SameLanes second held

  both : (used : Used) (graph : List Row) (second : Held) → IsDatasetAnswer contents folder nothing_used used (Ok graph) → IsHeldTold contents folder second → Both used graph second
  both used graph second d told =
      let j = stages contents folder d.0 second 33 d.1 told in
      let same = dataset_below contents folder d.0 second j.0 33 j.1 (omega arith) in
      record {
        held = j.0;
        told = j.1.told;
        dataset = same.is at_first graph d.2;
        start = start_is used d.0 d.3 d.4 ∙ ap next_stage (same.after at_first);
        lanes = lanes_from contents folder d.0 second j.0 33 j.1 (omega arith);
      }

  -- a dataset and streams are of one folder
  record ReadTwo (used : Used) (graph : List Row) (lanes : LineLanes) : Type 0 where
    pub held : Held
    pub told : IsHeldTold contents folder held
    pub dataset : IsDataset at_first held graph
    pub streams : AreLanes (after_dataset held) held lanes
    pub start : before used ≡ after_streams held

  read_two : (used later : Used) (graph : List Row) (lanes : LineLanes) → IsDatasetAnswer contents folder nothing_used used (Ok graph) → IsLanesAnswer contents folder used later (Ok lanes)
      → ReadTwo later graph lanes
  read_two used later graph lanes d h =
      let b = both used graph h.0 d h.1 in
      record {
        held = b.held;
        told = b.told;
        dataset = b.dataset;
        streams = subst (λ (at : Before). AreLanes at b.held lanes) b.start (b.lanes.are (before used) lanes h.2);
        start = next_is used later h.0 h.3 h.4 ∙ ap next_stage (b.lanes.after (before used)) ∙ (λ i. next_stage (after_lanes (b.start i) b.held));
      }

  -- and something that was read after them
  record ReadThree (used : Used) (graph : List Row) (lanes : LineLanes) (table : FrequencyTable) (third : Held) : Type 1 where
    pub held : Held
    pub told : IsHeldTold contents folder held
    pub dataset : IsDataset at_first held graph
    pub streams : AreLanes (after_dataset held) held lanes
    pub start : before used ≡ after_streams held
    pub params : SameParams table third held

  read_three : (used : Used) (graph : List Row) (lanes : LineLanes) (table : FrequencyTable) (third : Held) → ReadTwo used graph lanes → IsHeldTold contents folder third
      → ReadThree used graph lanes table third
  read_three used graph lanes table third two told =
      let j = stages contents folder two.held third 35 two.told told in
      let same = dataset_below contents folder two.held third j.0 35 j.1 (omega arith) in
      let alike = lanes_below contents folder two.held third j.0 35 j.1 (omega arith) in
      let dataset : after_dataset two.held ≡ after_dataset j.0 = ap next_stage (same.after at_first) in
      record {
        held = j.0;
        told = j.1.told;
        dataset = same.is at_first graph two.dataset;
        streams = subst (λ (at : Before). AreLanes at j.0 lanes) dataset (alike.are (after_dataset two.held) lanes two.streams);
        start = two.start ∙ ap next_stage (alike.after (after_dataset two.held)) ∙ (λ i. next_stage (after_lanes (dataset i) j.0));
        params = params_from contents folder two.held third j.0 35 j.1 table (omega arith);
      }

  module _ (ratio : ℕ) (table : FrequencyTable) where
    pub input_no_dataset : (used : Used) (load : Load) → IsDatasetAnswer contents folder nothing_used used (Err load) → IsInputAnswer contents folder ratio table (Err load)
    input_no_dataset used (Refused r) h = (h.0, h.1, first_anyway (dataset_checks at_first h.0) (lane_tail ratio table h.0) r h.2)
    input_no_dataset used ReadFault h = tt
    input_no_dataset used Memory h = tt

    pub input_no_lanes : (used later : Used) (graph : List Row) (load : Load) → IsDatasetAnswer contents folder nothing_used used (Ok graph) → IsLanesAnswer contents folder used later (Err load)
        → IsInputAnswer contents folder ratio table (Err load)
    input_no_lanes used later graph (Refused r) d h =
        let b = both used graph h.0 d h.1 in (
          b.held,
          b.told,
          first_later (dataset_checks at_first b.held) (lane_tail ratio table b.held) r b.dataset.clean
              (first_anyway (lane_checks (after_dataset b.held) b.held) (param_tail ratio table b.held) r
              (first_by (lane_checks (before used) h.0) (lane_checks (after_dataset b.held) b.held) r (b.lanes.checks (before used) ∙ (λ i. lane_checks (b.start i) b.held)) h.2)),
        )
    input_no_lanes used later graph ReadFault d h = tt
    input_no_lanes used later graph Memory d h = tt

    pub input_no_params : (used later last : Used) (graph : List Row) (lanes : LineLanes) (load : Load) → IsDatasetAnswer contents folder nothing_used used (Ok graph)
        → IsLanesAnswer contents folder used later (Ok lanes) → IsParamsAnswer contents folder table later last (Err load) → IsInputAnswer contents folder ratio table (Err load)
    input_no_params used later last graph lanes (Refused r) d l h =
        let b = read_three later graph lanes table h.0 (read_two used later graph lanes d l) h.1 in (
          b.held,
          b.told,
          first_later (dataset_checks at_first b.held) (lane_tail ratio table b.held) r b.dataset.clean
              (first_later (lane_checks (after_dataset b.held) b.held) (param_tail ratio table b.held) r b.streams.clean
              (first_anyway (params_checks (after_streams b.held) b.held table) (last_checks ratio table b.held) r
              (first_by (params_checks (before later) h.0 table) (params_checks (after_streams b.held) b.held table) r
              (b.params.checks (before later) ∙ (λ i. params_checks (b.start i) b.held table)) h.2))),
        )
    input_no_params used later last graph lanes ReadFault d l h = tt
    input_no_params used later last graph lanes Memory d l h = tt

    -- what all three reads found, as files of one folder
    record ReadAll (graph : List Row) (lanes : LineLanes) (lists : QueryLists) : Type 0 where
      pub held : Held
      pub told : IsHeldTold contents folder held
      pub dataset : IsDataset at_first held graph
      pub streams : AreLanes (after_dataset held) held lanes
      pub params : AreParams (after_streams held) held table lists

    read_all : (used later last : Used) (graph : List Row) (lanes : LineLanes) (lists : QueryLists) → IsDatasetAnswer contents folder nothing_used used (Ok graph)
        → IsLanesAnswer contents folder used later (Ok lanes) → IsParamsAnswer contents folder table later last (Ok lists) → ReadAll graph lanes lists
    read_all used later last graph lanes lists d l h =
        let b = read_three later graph lanes table h.0 (read_two used later graph lanes d l) h.1 in
        record {
          held = b.held;
          told = b.told;
          dataset = b.dataset;
          streams = b.streams;
          params = subst (λ (at : Before). AreParams at b.held table lists) b.start (b.params.are (before later) lists h.2);
        }

    module _ (graph : List Row) (lanes : LineLanes) (lists : QueryLists) (all : ReadAll graph lanes lists) where
      -- a refusal by the last two checks
      refused_last : (r : Refusal) → FirstOf (last_checks ratio table all.held) r → IsInputAnswer contents folder ratio table (Err (Refused r))
      refused_last r h = (
        all.held,
        all.told,
        first_later (dataset_checks at_first all.held) (lane_tail ratio table all.held) r all.dataset.clean
            (first_later (lane_checks (after_dataset all.held) all.held) (param_tail ratio table all.held) r all.streams.clean
            (first_later (params_checks (after_streams all.held) all.held table) (last_checks ratio table all.held) r all.params.clean h)),
      )

      planned_by : (plan : Plan) → IsPlan lanes lists table ratio plan → ArePlanned all.held ratio table plan
      planned_by plan is = record { lanes = lanes; lists = lists; streams = all.streams; params = all.params; is_plan = is }

      open_last : AreOne → (r : Refusal) → IsOpen graph lanes lists table ratio r → FirstOf (last_checks ratio table all.held) r
      open_last one r o =
          inr (too_many_not one ratio table all.held lanes all.streams o.few, inl (record { graph = graph; plan = o.plan; dataset = all.dataset; planned = planned_by o.plan o.is_plan; wrong = o.wrong }))

      many_last : (r : Refusal) → (r ≡ TooMany Reads) × (MAX_READS < read_count table (update_count lanes)) → FirstOf (last_checks ratio table all.held) r
      many_last r h = inl (record { lanes = lanes; streams = all.streams; many = h.1; refused = h.0 })

      loaded_is : AreOne → (input : Input) → IsMade graph lanes lists table ratio input → IsInputAnswer contents folder ratio table (Ok input)
      loaded_is one input made =
          let planned = planned_by input.plan made.is_plan in (
            all.held,
            all.told,
            record {
              clean =
                  none_append (dataset_checks at_first all.held) (lane_tail ratio table all.held) all.dataset.clean
                  (none_append (lane_checks (after_dataset all.held) all.held) (param_tail ratio table all.held) all.streams.clean
                  (none_append (params_checks (after_streams all.held) all.held table) (last_checks ratio table all.held) all.params.clean
                  (too_many_not one ratio table all.held lanes all.streams made.few, (closed_not one ratio table all.held graph input.plan all.dataset planned made.closed, tt))));
              is = record {
                dataset = subst (λ (g : List Row). IsDataset at_first all.held g) (sym made.same) all.dataset;
                planned = planned;
                closed = subst (λ (g : List Row). IsClosed (HoldsKey g) (updates_in input.plan)) (sym made.same) made.closed;
              };
            },
          )

      made_answers : AreOne → (result : Result Input Load) → IsMadeAnswer graph lanes lists table ratio result → IsInputAnswer contents folder ratio table result
      made_answers one (Ok input) h = loaded_is one input h
      made_answers one (Err (Refused r)) (inl h) = refused_last r (many_last r h)
      made_answers one (Err (Refused r)) (inr h) = refused_last r (open_last one r h)
      made_answers one (Err ReadFault) h = absurd h
      made_answers one (Err Memory) h = tt

    pub input_made : AreOne → (used later last : Used) (graph : List Row) (lanes : LineLanes) (lists : QueryLists) (result : Result Input Load) → IsDatasetAnswer contents folder nothing_used used (Ok graph)
        → IsLanesAnswer contents folder used later (Ok lanes) → IsParamsAnswer contents folder table later last (Ok lists) → IsMadeAnswer graph lanes lists table ratio result
        → IsInputAnswer contents folder ratio table result
    input_made one used later last graph lanes lists result d l h made = made_answers graph lanes lists (read_all used later last graph lanes lists d l h) one result made

-- ---- of an input that was made

module _ (graph : List Row) (lanes : LineLanes) (lists : QueryLists) (table : FrequencyTable) (ratio : ℕ) where
  -- or isn't, since there are too many reads
  pub many_made : (fault : PlanFault) → OnRefused {A = Plan} (Err fault) (λ r. (r ≡ TooMany Reads) × (MAX_READS < read_count table (update_count lanes)))
      → IsMadeAnswer graph lanes lists table ratio (Err (load_for_plan fault))
  many_made (plan_faults.Refused r) many = inl many
  many_made plan_faults.Memory many = tt

  -- or since the plan isn't closed
  pub open_made : (plan : Plan) (fault : PlanFault) → IsPlan lanes lists table ratio plan → read_count table (update_count lanes) ≤ MAX_READS
      → OnRefused {A = Unit {0}} (Err fault) (IsFirstWrong (HoldsKey graph) (updates_in plan)) → IsMadeAnswer graph lanes lists table ratio (Err (load_for_plan fault))
  open_made plan (plan_faults.Refused r) is few wrong = inr (record { plan = plan; is_plan = is; few = few; wrong = wrong })
  open_made plan plan_faults.Memory is few wrong = tt

  pub made_closed : (result : Result Input Load) → IsMadeAnswer graph lanes lists table ratio result → IfOk result (λ i. IsClosed (HoldsKey i.graph) (updates_in i.plan))
  made_closed (Ok input) h = subst (λ (g : List Row). IsClosed (HoldsKey g) (updates_in input.plan)) (sym h.same) h.closed
  made_closed (Err load) h = tt

  pub made_sound : (result : Result Input Load) → IsMadeAnswer graph lanes lists table ratio result → Sound graph → IfOk result (λ i. Sound i.graph)
  made_sound (Ok input) h sound = subst Sound (sym h.same) sound
  made_sound (Err load) h sound = tt

  pub made_well : (result : Result Input Load) → IsMadeAnswer graph lanes lists table ratio result → is_read_fault result ≡ false
  made_well (Ok input) h = refl
  made_well (Err (Refused r)) h = refl
  made_well (Err ReadFault) h = absurd h
  made_well (Err Memory) h = refl
