use Rattle.std.proofs.Common.{List, Ok, Err, refl, subst}
use Rattle.snb_schema.specs.References.{refs_of}
use Rattle.snb_schema.specs.declared.row.Row.{Row}
use Rattle.snb_graph.specs.Additions.{HasClash}
use Rattle.snb_graph_model.specs.Graphs.{HasGained}
use Rattle.snb_inserts.specs.Applying.{IsWelcome}
use Rattle.snb_inserts.specs.declared.applied.Applied.TheVariants as applied
use Rattle.snb_inserts.proofs.MissingLemmas.{none_first, told_missing, told_none}
use Rattle.snb_inserts.proofs.applying.apply.Goals as goal
use Rattle.snb_base.proofs.Laws.{not_held}

pub returns-in-Some-clause-missing : goal.returns-in-Some-clause-missing
returns-in-Some-clause-missing c = told_missing c.args.graph.now (refs_of c.args.op.now) c.in-Some.missing c.in-Some.ensures

pub returns-in-Some-clause-duplicate : goal.returns-in-Some-clause-duplicate
returns-in-Some-clause-duplicate c held = (λ e. absurd cc, λ is. absurd (none_first c.args.graph.now (refs_of c.args.op.now) c.in-Some.missing is.0 c.in-Some.ensures))

pub returns-then-is_taken-clause-missing : goal.returns-then-is_taken-clause-missing
returns-then-is_taken-clause-missing c = told_none c.args.graph.now (refs_of c.args.op.now) (Err applied.Duplicate) (λ n e. cc) c.in_default.ensures

pub returns-in-Err-clause-missing : goal.returns-in-Err-clause-missing
returns-in-Err-clause-missing c = told_none c.args.graph.now (refs_of c.args.op.now) (Err applied.Memory) (λ n e. cc) c.in_default.ensures

pub returns-in-Ok-insert_all-clause-missing : goal.returns-in-Ok-insert_all-clause-missing
returns-in-Ok-insert_all-clause-missing c = told_none c.args.graph.now (refs_of c.args.op.now) (Ok (tt {0})) (λ n e. cc) c.in_default.ensures

pub returns-in-Ok-insert_all-clause-held : goal.returns-in-Ok-insert_all-clause-held
returns-in-Ok-insert_all-clause-held c held =
    let gained = subst (λ (rows : List Row). HasGained c.args.graph.now rows c.insert_all.new.self) c.in-Ok.ensures c.in-Ok-insert_all.ensures.ok in
    c.inserts_are_kept.ensures.held c.args.graph.now c.insert_all.new.self c.args.op.now held (c.in_default.ensures, not_held c.is_taken.result c.is_taken.ensures c.if-is_taken.false) gained

pub returns-in-Ok-insert_all-clause-sound : goal.returns-in-Ok-insert_all-clause-sound
returns-in-Ok-insert_all-clause-sound c sound =
    let gained = subst (λ (rows : List Row). HasGained c.args.graph.now rows c.insert_all.new.self) c.in-Ok.ensures c.in-Ok-insert_all.ensures.ok in
    c.inserts_are_kept.ensures.sound c.args.graph.now c.insert_all.new.self c.args.op.now sound (c.in_default.ensures, not_held c.is_taken.result c.is_taken.ensures c.if-is_taken.false) gained

pub returns-in-Err-Duplicate-clause-missing : goal.returns-in-Err-Duplicate-clause-missing
returns-in-Err-Duplicate-clause-missing c = told_none c.args.graph.now (refs_of c.args.op.now) (Err applied.Duplicate) (λ n e. cc) c.in_default.ensures

pub returns-in-Err-Duplicate-clause-duplicate : goal.returns-in-Err-Duplicate-clause-duplicate
returns-in-Err-Duplicate-clause-duplicate c held =
    let welcome : IsWelcome c.args.graph.now c.args.op.now = (c.in_default.ensures, not_held c.is_taken.result c.is_taken.ensures c.if-is_taken.false) in
    let clash = subst (λ (rows : List Row). HasClash c.args.graph.now rows) c.in-Ok.ensures ((rw c.in-Err-Duplicate.field-0-is at c.in-Err-Duplicate.ensures.duplicate) refl) in
    absurd (c.inserts_are_kept.ensures.new c.args.graph.now c.args.op.now c.known.ensures held c.requires.line welcome clash)

pub returns-in-Err-Memory-clause-missing : goal.returns-in-Err-Memory-clause-missing
returns-in-Err-Memory-clause-missing c = told_none c.args.graph.now (refs_of c.args.op.now) (Err applied.Memory) (λ n e. cc) c.in_default.ensures
