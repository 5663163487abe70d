use Rattle.std.proofs.Common.{subst, Option, Err, Ok, ◌∙◌, ◌++◌}
use Rattle.snb_base.specs.Shelf.{Files}
use Rattle.snb_base.proofs.Laws.{read_after, read_well}
use Rattle.snb_loader.specs.Lanes.{IsLanesAnswer}
use Rattle.snb_loader.specs.Params.{IsParamsAnswer}
use Rattle.snb_tool_outcome.specs.PlanEndings.{IsInputAnswer}
use Rattle.snb_tool_outcome.proofs.InputLemmas.{AreOne, input_made, input_no_dataset, input_no_lanes, input_no_params, made_closed, made_sound, made_well, passed}
use Rattle.snb_input_files.specs.Names.{IsNameIn}
use Rattle.snb_input_files.proofs.Laws.{of_back, of_front, still_allows}
use Rattle.snb_loader.specs.Order.{stream_series, table_series}
use Rattle.snb_loader.specs.Params.{params_stage}
use Rattle.snb_tool_outcome.proofs.input.load_input.Goals as goal

pub load_dataset-requires-clause-allowed : goal.load_dataset-requires-clause-allowed
load_dataset-requires-clause-allowed g c = of_front table_series (stream_series ++ params_stage c.args.frequencies) c.args.folder.now c.requires.allowed

pub load_lanes-requires-clause-allowed : goal.load_lanes-requires-clause-allowed
load_lanes-requires-clause-allowed g c =
    still_allows (IsNameIn stream_series c.args.folder.now) c.in_ok-graph.ensures.read.names
    (of_front stream_series (params_stage c.args.frequencies) c.args.folder.now (of_back table_series (stream_series ++ params_stage c.args.frequencies) c.args.folder.now c.requires.allowed))

pub load_params-requires-clause-allowed : goal.load_params-requires-clause-allowed
load_params-requires-clause-allowed g c =
    still_allows (IsNameIn (params_stage c.args.frequencies) c.args.folder.now) (c.in_ok-lanes.ensures.read.names ∙ c.in_ok-graph.ensures.read.names)
    (of_back stream_series (params_stage c.args.frequencies) c.args.folder.now (of_back table_series (stream_series ++ params_stage c.args.frequencies) c.args.folder.now c.requires.allowed))

pub returns-in_err-graph-clause-answer : goal.returns-in_err-graph-clause-answer
returns-in_err-graph-clause-answer g c =
    passed (IsInputAnswer (g.S.Shelf.contents c.args.shelf.now) c.args.folder.now c.args.ratio c.args.frequencies) c.from_residual.result c.in_err-graph.field-0.0 c.from_residual.ensures.1
    (input_no_dataset c.stages_join.ensures (g.S.Shelf.contents c.args.shelf.now) c.args.folder.now c.args.ratio c.args.frequencies c.load_dataset.new.used c.in_err-graph.field-0.0 c.in_err-graph.ensures.answer)

pub returns-in_err-lanes-clause-answer : goal.returns-in_err-lanes-clause-answer
returns-in_err-lanes-clause-answer g c =
    passed (IsInputAnswer (g.S.Shelf.contents c.args.shelf.now) c.args.folder.now c.args.ratio c.args.frequencies) c.from_residual-in_err-lanes.result c.in_err-lanes.field-0.0 c.from_residual-in_err-lanes.ensures.1
    (input_no_lanes c.stages_join.ensures (g.S.Shelf.contents c.args.shelf.now) c.args.folder.now c.args.ratio c.args.frequencies c.load_dataset.new.used c.load_lanes.new.used c.in_ok-graph.graph c.in_err-lanes.field-0.0 c.in_ok-graph.ensures.answer
    (subst (λ (o : Option Files). IsLanesAnswer o c.args.folder.now c.load_dataset.new.used c.load_lanes.new.used (Err c.in_err-lanes.field-0.0)) c.in_ok-graph.ensures.read.same c.in_err-lanes.ensures.answer))

pub returns-in_err-lists-clause-answer : goal.returns-in_err-lists-clause-answer
returns-in_err-lists-clause-answer g c =
    passed (IsInputAnswer (g.S.Shelf.contents c.args.shelf.now) c.args.folder.now c.args.ratio c.args.frequencies) c.from_residual-in_err-lists.result c.in_err-lists.field-0.0 c.from_residual-in_err-lists.ensures.1
    (input_no_params c.stages_join.ensures (g.S.Shelf.contents c.args.shelf.now) c.args.folder.now c.args.ratio c.args.frequencies c.load_dataset.new.used c.load_lanes.new.used c.load_params.new.used c.in_ok-graph.graph c.in_ok-lanes.lanes c.in_err-lists.field-0.0 c.in_ok-graph.ensures.answer
    (subst (λ (o : Option Files). IsLanesAnswer o c.args.folder.now c.load_dataset.new.used c.load_lanes.new.used (Ok c.in_ok-lanes.lanes)) c.in_ok-graph.ensures.read.same c.in_ok-lanes.ensures.answer)
    (subst (λ (o : Option Files). IsParamsAnswer o c.args.folder.now c.args.frequencies c.load_lanes.new.used c.load_params.new.used (Err c.in_err-lists.field-0.0)) (c.in_ok-lanes.ensures.read.same ∙ c.in_ok-graph.ensures.read.same) c.in_err-lists.ensures.answer))

pub returns-clause-answer : goal.returns-clause-answer
returns-clause-answer g c =
    let one : AreOne = record { dataset = c.one_dataset.ensures.one; lanes = c.one_lanes.ensures.one; params = c.one_params.ensures.one; plan = c.plan_is_one.ensures } in
    input_made c.stages_join.ensures (g.S.Shelf.contents c.args.shelf.now) c.args.folder.now c.args.ratio c.args.frequencies one c.load_dataset.new.used c.load_lanes.new.used c.load_params.new.used c.in_ok-graph.graph c.in_ok-lanes.lanes c.in_ok-lists.lists c.input_of.result c.in_ok-graph.ensures.answer
    (subst (λ (o : Option Files). IsLanesAnswer o c.args.folder.now c.load_dataset.new.used c.load_lanes.new.used (Ok c.in_ok-lanes.lanes)) c.in_ok-graph.ensures.read.same c.in_ok-lanes.ensures.answer)
    (subst (λ (o : Option Files). IsParamsAnswer o c.args.folder.now c.args.frequencies c.load_lanes.new.used c.load_params.new.used (Ok c.in_ok-lists.lists)) (c.in_ok-lanes.ensures.read.same ∙ c.in_ok-graph.ensures.read.same) c.in_ok-lists.ensures.answer)
    c.input_of.ensures

pub returns-clause-closed : goal.returns-clause-closed
returns-clause-closed g c = made_closed c.in_ok-graph.graph c.in_ok-lanes.lanes c.in_ok-lists.lists c.args.frequencies c.args.ratio c.input_of.result c.input_of.ensures

pub returns-clause-sound : goal.returns-clause-sound
returns-clause-sound g c = made_sound c.in_ok-graph.graph c.in_ok-lanes.lanes c.in_ok-lists.lists c.args.frequencies c.args.ratio c.input_of.result c.input_of.ensures c.in_ok-graph.ensures.sound

pub returns-clause-read : goal.returns-clause-read
returns-clause-read g c =
    read_well (made_well c.in_ok-graph.graph c.in_ok-lanes.lanes c.in_ok-lists.lists c.args.frequencies c.args.ratio c.input_of.result c.input_of.ensures)
    (read_after (read_after c.in_ok-graph.ensures.read c.in_ok-lanes.ensures.read) c.in_ok-lists.ensures.read)
