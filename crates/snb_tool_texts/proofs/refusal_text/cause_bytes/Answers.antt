use Rattle.std.proofs.Common.{List, ℕ, ◌++◌, ◌∙◌, ap, codes}
use Rattle.std.specs.Fmt.{decimal}
use Rattle.std.proofs.lemmas.List.{append_assoc}
use Rattle.std.proofs.lemmas.Result.{IfOk-weaker}
use Rattle.snb_schema.specs.FileNames.{name_of}
use Rattle.snb_tool_texts.proofs.refusal_text.cause_bytes.Goals as goal

pub returns-in_ok-said-in-BadLine : goal.returns-in_ok-said-in-BadLine
returns-in_ok-said-in-BadLine c =
    let said = ap (λ (text : List ℕ). name_of c.in-BadLine.file ++ codes ":" ++ decimal c.in-BadLine.line ++ text) (c.as_str.ensures.value ∙ c.in_ok-said-in-BadLine.ensures.ok) in
    rw c.in-BadLine.is (IfOk-weaker c.line_cause.result _ _ (λ cause e. e ∙ said ∙ simp append_assoc) c.line_cause.ensures)

pub returns-in_ok-said-in-Dangling : goal.returns-in_ok-said-in-Dangling
returns-in_ok-said-in-Dangling c =
    let said = ap (λ (text : List ℕ). name_of c.in-Dangling.file ++ codes ":" ++ decimal c.in-Dangling.line ++ text) (c.as_str-in-Dangling.ensures.value ∙ c.in_ok-said-in-Dangling.ensures.ok) in
    rw c.in-Dangling.is (IfOk-weaker c.line_cause-in-Dangling.result _ _ (λ cause e. e ∙ said ∙ simp append_assoc) c.line_cause-in-Dangling.ensures)

pub returns-in_ok-said-in-Unmet : goal.returns-in_ok-said-in-Unmet
returns-in_ok-said-in-Unmet c =
    let said = ap (λ (text : List ℕ). name_of c.in-Unmet.file ++ codes ":" ++ decimal c.in-Unmet.line ++ text) (c.as_str-in-Unmet.ensures.value ∙ c.in_ok-said-in-Unmet.ensures.ok) in
    rw (c.in-Unmet.is, ← c.kind_name-kind.ensures) (IfOk-weaker c.line_cause-in-Unmet.result _ _ (λ cause e. e ∙ said ∙ simp append_assoc) c.line_cause-in-Unmet.ensures)

pub returns-in_ok-format-in-Lacks : goal.returns-in_ok-format-in-Lacks
returns-in_ok-format-in-Lacks c =
    rw (c.in-Lacks.is, ← c.table_name-name.ensures, ← c.table_name-lacked.ensures)
    (simp append_assoc (rw c.into_bytes.ensures.value c.in_ok-format-in-Lacks.ensures.ok))

pub returns-in-NotUtf8 : goal.returns-in-NotUtf8
returns-in-NotUtf8 c = rw c.in-NotUtf8.is c.line_cause-in-NotUtf8.ensures

pub returns-in-OutOfOrder : goal.returns-in-OutOfOrder
returns-in-OutOfOrder c = rw c.in-OutOfOrder.is c.line_cause-in-OutOfOrder.ensures
