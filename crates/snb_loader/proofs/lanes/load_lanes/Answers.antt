use Rattle.std.proofs.Common.{Option, Ok, Err, subst}
use Rattle.snb_base.specs.Shelf.{Files}
use Rattle.snb_input_files.specs.Names.{IsNameIn}
use Rattle.snb_input_files.specs.Stages.{IsStage, before}
use Rattle.snb_input_files.proofs.Laws.{of_back, of_front, still_allows}
use Rattle.snb_loader.specs.Order.{forum_series, person_series}
use Rattle.snb_loader.specs.Lanes.{IsHeard, stream_format}
use Rattle.snb_loader.proofs.LaneFacts.{forums_err, forums_few, forums_ok, lanes_counted, lanes_streams, persons_err, persons_few}
use Rattle.snb_loader.proofs.lanes.load_lanes.Goals as goal

pub returns-in-Err-clause-answer : goal.returns-in-Err-clause-answer
returns-in-Err-clause-answer g c = persons_err (g.S.Shelf.contents c.args.shelf.now) c.args.folder.now c.args.used.now c.args.used.now c.in-Err.load c.in-Err.ensures.answer

pub returns-in-Err-load_stage-clause-answer : goal.returns-in-Err-load_stage-clause-answer
returns-in-Err-load_stage-clause-answer g c =
    forums_err (g.S.Shelf.contents c.args.shelf.now) c.args.folder.now c.args.used.now c.stages_join.ensures c.in-Ok.walk c.in-Ok.ensures.answer c.in-Err-load_stage.load
    (subst (λ (z : Option Files). IsStage stream_format IsHeard z c.args.folder.now forum_series (before c.in-Ok.walk.used) (Err c.in-Err-load_stage.load)) c.in-Ok.ensures.read.same c.in-Err-load_stage.ensures.answer)

pub load_stage-requires-clause-allowed : goal.load_stage-requires-clause-allowed
load_stage-requires-clause-allowed g c = of_front person_series forum_series c.args.folder.now c.requires.allowed

pub load_stage-requires-2-clause-allowed : goal.load_stage-requires-2-clause-allowed
load_stage-requires-2-clause-allowed g c =
    still_allows (IsNameIn forum_series c.args.folder.now) c.in-Ok.ensures.read.names (of_back person_series forum_series c.args.folder.now c.requires.allowed)

pub lanes_of-requires-clause-persons : goal.lanes_of-requires-clause-persons
lanes_of-requires-clause-persons g c = persons_few (g.S.Shelf.contents c.args.shelf.now) c.args.folder.now c.args.used.now c.in-Ok.walk c.in-Ok.ensures.answer

pub lanes_of-requires-clause-forums : goal.lanes_of-requires-clause-forums
lanes_of-requires-clause-forums g c =
    forums_few (g.S.Shelf.contents c.load_stage.new.shelf) c.args.folder.now c.in-Ok.walk.used c.in-Ok-load_stage.walk c.in-Ok-load_stage.ensures.answer

pub returns-clause-answer : goal.returns-clause-answer
returns-clause-answer g c =
    forums_ok (g.S.Shelf.contents c.args.shelf.now) c.args.folder.now c.args.used.now c.stages_join.ensures c.in-Ok.walk c.in-Ok.ensures.answer c.in-Ok-load_stage.walk
    (subst (λ (z : Option Files). IsStage stream_format IsHeard z c.args.folder.now forum_series (before c.in-Ok.walk.used) (Ok c.in-Ok-load_stage.walk)) c.in-Ok.ensures.read.same c.in-Ok-load_stage.ensures.answer)
    c.in_ok-lanes.lanes c.in_ok-lanes.ensures.value

pub returns-clause-streams : goal.returns-clause-streams
returns-clause-streams g c =
    lanes_streams c.in-Ok.walk c.in-Ok-load_stage.walk c.in_ok-lanes.lanes c.in_ok-lanes.ensures.value (g.S.Shelf.contents c.args.shelf.now) (g.S.Shelf.contents c.load_stage.new.shelf) c.args.folder.now c.args.used.now
    c.in-Ok.ensures.answer c.in-Ok-load_stage.ensures.answer c.in_ok-lanes.ensures.taken

pub returns-clause-counted : goal.returns-clause-counted
returns-clause-counted g c =
    lanes_counted c.in-Ok.walk c.in-Ok-load_stage.walk c.in_ok-lanes.lanes c.in_ok-lanes.ensures.value (g.S.Shelf.contents c.args.shelf.now) (g.S.Shelf.contents c.load_stage.new.shelf) c.args.folder.now c.args.used.now
    c.in-Ok.ensures.answer c.in-Ok-load_stage.ensures.answer
