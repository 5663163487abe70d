use Rattle.std.proofs.Common.{List, [], Ok, Err, sym, subst}
use Rattle.snb_schema.specs.declared.row.Row.{Row}
use Rattle.snb_input_files.specs.declared.load.Load.{Load}
use Rattle.snb_graph_integrity.specs.Outcomes.{IsWrong}
use Rattle.snb_loader.specs.Dataset.{IsDatasetAnswer}
use Rattle.snb_graph_model.specs.Soundness.{HoldsRefs, Sound}
use Rattle.snb_loader.proofs.DatasetFacts.{files_err, graph_err, graph_ok}
use Rattle.snb_loader.proofs.dataset.load_dataset.Goals as goal

pub returns-in-Err-clause-answer : goal.returns-in-Err-clause-answer
returns-in-Err-clause-answer g c = files_err (g.S.Shelf.contents c.args.shelf.now) c.args.folder.now c.args.used.now c.in-Err.load c.in-Err.ensures.answer

pub returns-in-Ok-sound-clause-answer : goal.returns-in-Ok-sound-clause-answer
returns-in-Ok-sound-clause-answer g c =
    subst (λ (z : List Row). IsDatasetAnswer (g.S.Shelf.contents c.args.shelf.now) c.args.folder.now c.args.used.now c.in-Ok.walk.used (Ok z)) (sym c.in-Ok-into_graph.ensures)
    (graph_ok (g.S.Shelf.contents c.args.shelf.now) c.args.folder.now c.args.used.now c.in-Ok.walk c.in-Ok.ensures.answer (c.one_saying.ensures []) c.graphs_are_their_rows.ensures
    (subst (λ (z : List Row). HoldsRefs z → Sound z) c.in-Ok-into_graph.ensures c.in-Ok-sound.ensures.ok))

pub returns-in-Ok-sound-clause-sound : goal.returns-in-Ok-sound-clause-sound
returns-in-Ok-sound-clause-sound g c =
    let dataset =
    graph_ok (g.S.Shelf.contents c.args.shelf.now) c.args.folder.now c.args.used.now c.in-Ok.walk c.in-Ok.ensures.answer (c.one_saying.ensures []) c.graphs_are_their_rows.ensures
    (subst (λ (z : List Row). HoldsRefs z → Sound z) c.in-Ok-into_graph.ensures c.in-Ok-sound.ensures.ok) in
    subst Sound (sym c.in-Ok-into_graph.ensures) dataset.2.sound

pub returns-in-Err-sound-clause-answer : goal.returns-in-Err-sound-clause-answer
returns-in-Err-sound-clause-answer g c =
    subst (λ (load : Load). IsDatasetAnswer (g.S.Shelf.contents c.args.shelf.now) c.args.folder.now c.args.used.now c.args.used.now (Err load)) (sym c.refusal_of.ensures)
    (graph_err (g.S.Shelf.contents c.args.shelf.now) c.args.folder.now c.args.used.now c.in-Ok.walk c.in-Ok.ensures.answer c.in-Err-sound.why
    (subst (λ (z : List Row). IsWrong z c.in-Err-sound.why) c.in-Ok-into_graph.ensures c.in-Err-sound.ensures.err))
