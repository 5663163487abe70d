use Rattle.std.proofs.Common.{rules, List, ◌∙◌, sym, subst}
use Rattle.snb_input_files.specs.declared.series.Series.{Series}
use Rattle.snb_input_files.specs.Names.{Allows, IsNameIn}
use Rattle.snb_input_files.specs.Stages.{AreRising, IsStage, before}
use Rattle.snb_loader.specs.Tables.{IsHeard, table_format}
use Rattle.snb_loader.proofs.DatasetFacts.{tables_rise}
use Rattle.snb_loader.proofs.tables.load_tables.Goals as goal

pub walk_stage-requires-clause-rising : goal.walk_stage-requires-clause-rising
walk_stage-requires-clause-rising g c = subst (AreRising 0) (sym (c.deref.ensures.value ∙ c.in_ok-series.ensures)) tables_rise

pub walk_stage-requires-clause-allowed : goal.walk_stage-requires-clause-allowed
walk_stage-requires-clause-allowed g c = subst (λ (stage : List Series). Allows (g.S.Shelf.may c.args.shelf.now) (IsNameIn stage c.args.folder.now)) (sym (c.deref.ensures.value ∙ c.in_ok-series.ensures)) c.requires.allowed

pub returns-clause-answer : goal.returns-clause-answer
returns-clause-answer g c =
    subst (λ (series : List Series). IsStage table_format IsHeard (g.S.Shelf.contents c.args.shelf.now) c.args.folder.now series (before c.args.used) c.walk_stage.result)
    (c.deref.ensures.value ∙ c.in_ok-series.ensures) (c.walk_stage.ensures.answer (search rules))
