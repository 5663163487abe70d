use Rattle.std.proofs.Common.{List, ℕ, ap, ◌∙◌, subst}
use Rattle.snb_schema.specs.declared.op.InsertKind.{InsertKind}
use Rattle.snb_schema.specs.Lines.{fields}
use Rattle.snb_schema.specs.UpdateLines.{IsBadInsert}
use Rattle.snb_streams.specs.Updates.{allowed_in}
use Rattle.snb_streams.proofs.MakeFacts.{on_bad}
use Rattle.snb_streams.proofs.lines.StreamLinesGrammar.read_item.Goals as goal

pub returns-clause-bad : goal.returns-clause-bad
returns-clause-bad c =
    let line = c.args._line.now in
    let kinds = c.inserts_of.result.now in
    on_bad c.read_insert.result (IsBadInsert kinds c.args.fields.now) (IsBadInsert (allowed_in c.args.self.now) (fields line))
    (λ column bad. subst (λ (ks : List InsertKind). IsBadInsert ks (fields line) column) (c.inserts_of.ensures ∙ ap allowed_in c.self.view_is) (subst (λ (xs : List (List ℕ)). IsBadInsert kinds xs column) c.requires.split.same bad)) c.read_insert.ensures.bad
