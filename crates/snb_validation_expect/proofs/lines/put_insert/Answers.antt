use Rattle.std.proofs.Common.{◌≡◌, ◌∙◌, ◌++◌, ℕ, List, ap, codes, subst}
use Rattle.std.proofs.lemmas.Result.{on_ok_weaker}
use Rattle.serde_json.specs.Data.{Data, member, no_members, object, string}
use Rattle.serde_json.specs.View.{view}
use Rattle.serde_json.specs.Written.{compact_text}
use Rattle.snb_schema.specs.UpdateLines.{canonical_line}
use Rattle.snb_validation_model.specs.CaseTexts.{case_data}
use Rattle.snb_validation_model.specs.Expected.{insert_case}
use Rattle.snb_validation_expect.specs.Writing.{IsJsonText}
use Rattle.snb_validation_expect.proofs.ReadBack.{insert_back}
use Rattle.snb_validation_expect.proofs.lines.put_insert.Goals as goal

pub returns-clause-read_back : goal.returns-clause-read_back
returns-clause-read_back c =
    let line = c.args.line.now in
    let said : c.in-Ok.text.now ≡ canonical_line line.t line.t_d line.op =
    c.in-Ok.ensures.cases.0 ∙ (c.deref.ensures.value ∙ (c.in_ok-write_line.ensures.ok ∙ ap (λ (l : List ℕ). l ++ canonical_line line.t line.t_d line.op) c.new-text.ensures.items)) in
    let same : view c.in_ok-value.value ≡ case_data (insert_case line) =
    c.in_ok-value.ensures ∙ ap (λ (text : List ℕ). object (member (codes "insert") (string text) no_members)) said in
    on_ok_weaker c.put_value.result
    (λ text. insert_back line (c.own_line.ensures c.requires.0 line.t line.t_d line.op c.requires.1) (subst (λ (d : Data). IsJsonText (compact_text d) d) same text))
    c.put_value.ensures.text
