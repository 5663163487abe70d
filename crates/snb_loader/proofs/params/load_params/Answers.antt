use Rattle.std.proofs.Common.{rules, List, ◌∙◌, sym, subst}
use Rattle.snb_input_files.specs.declared.series.Series.{Series}
use Rattle.snb_input_files.specs.Names.{Allows, IsNameIn}
use Rattle.snb_loader.proofs.ParamFacts.{kinds_done, of_stage, params_full, params_ok}
use Rattle.snb_loader.proofs.params.load_params.Goals as goal

pub walk_stage-requires-clause-allowed : goal.walk_stage-requires-clause-allowed
walk_stage-requires-clause-allowed g c = subst (λ (stage : List Series). Allows (g.S.Shelf.may c.args.shelf.now) (IsNameIn stage c.args.folder.now)) (sym (c.deref.ensures.value ∙ c.in_ok-stage.ensures)) c.requires.allowed

pub lists_of-requires : goal.lists_of-requires
lists_of-requires g c = record { kinds = kinds_done (g.S.Shelf.contents c.args.shelf.now) c.args.folder.now c.args.frequencies.now c.args.used.now c.in-Ok.walk (of_stage (g.S.Shelf.contents c.args.shelf.now) c.args.folder.now c.args.frequencies.now c.args.used.now c.in-Ok.walk c.deref.result.now c.in_ok-stage.stage.items c.deref.ensures.value c.in_ok-stage.ensures (c.in-Ok.ensures.answer (search rules))) }

pub returns-clause-answer : goal.returns-clause-answer
returns-clause-answer g c = params_ok (g.S.Shelf.contents c.args.shelf.now) c.args.folder.now c.args.frequencies.now c.args.used.now c.in-Ok.walk (of_stage (g.S.Shelf.contents c.args.shelf.now) c.args.folder.now c.args.frequencies.now c.args.used.now c.in-Ok.walk c.deref.result.now c.in_ok-stage.stage.items c.deref.ensures.value c.in_ok-stage.ensures (c.in-Ok.ensures.answer (search rules))) c.in_ok-lists.lists c.in_ok-lists.ensures.lists c.in_ok-lists.ensures.others

pub returns-clause-full : goal.returns-clause-full
returns-clause-full g c = params_full (g.S.Shelf.contents c.args.shelf.now) c.args.folder.now c.args.frequencies.now c.args.used.now c.in-Ok.walk (of_stage (g.S.Shelf.contents c.args.shelf.now) c.args.folder.now c.args.frequencies.now c.args.used.now c.in-Ok.walk c.deref.result.now c.in_ok-stage.stage.items c.deref.ensures.value c.in_ok-stage.ensures (c.in-Ok.ensures.answer (search rules))) c.in_ok-lists.lists c.in_ok-lists.ensures.lists
