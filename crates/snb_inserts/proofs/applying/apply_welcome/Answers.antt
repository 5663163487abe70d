use Rattle.std.proofs.Common.{All, List, subst, sym}
use Rattle.snb_schema.specs.declared.row.Row.{Row}
use Rattle.snb_schema.specs.TableRows.{IsTableRow}
use Rattle.snb_graph.specs.Additions.{AreNew, IsFirstAlone}
use Rattle.snb_graph_model.specs.Graphs.{HasGained}
use Rattle.snb_inserts.proofs.applying.apply_welcome.Goals as goal
use Rattle.std.proofs.lemmas.Result.{on_ok_weaker}

pub insert_new-requires-clause-shaped : goal.insert_new-requires-clause-shaped
insert_new-requires-clause-shaped c = subst (λ (rows : List Row). All IsTableRow rows) (sym c.in_ok-rows.ensures) (c.inserts_are_kept.ensures.fit c.args.op.now c.requires.line)

pub insert_new-requires-clause-new : goal.insert_new-requires-clause-new
insert_new-requires-clause-new c =
    subst (λ (rows : List Row). AreNew c.args.graph.now rows) (sym c.in_ok-rows.ensures)
    (c.inserts_are_kept.ensures.new c.args.graph.now c.args.op.now c.known.ensures c.requires.sound.held c.requires.line c.requires.welcome)

pub insert_new-requires-clause-alone : goal.insert_new-requires-clause-alone
insert_new-requires-clause-alone c =
    subst (λ (rows : List Row). IsFirstAlone c.args.graph.now rows) (sym c.in_ok-rows.ensures)
    (c.inserts_are_kept.ensures.alone c.args.graph.now c.args.op.now c.requires.sound.held c.requires.welcome)

pub returns-clause-gained : goal.returns-clause-gained
returns-clause-gained c = on_ok_weaker c.insert_new.result (subst (λ (rows : List Row). HasGained c.args.graph.now rows c.insert_new.new.self) c.in_ok-rows.ensures) c.insert_new.ensures.ok

pub returns-clause-sound : goal.returns-clause-sound
returns-clause-sound c =
    on_ok_weaker c.insert_new.result (λ gained. c.inserts_are_kept.ensures.sound c.args.graph.now c.insert_new.new.self c.args.op.now c.requires.sound c.requires.welcome
    (subst (λ (rows : List Row). HasGained c.args.graph.now rows c.insert_new.new.self) c.in_ok-rows.ensures gained)) c.insert_new.ensures.ok
