use Rattle.std.proofs.Common.{List, ℕ, ◌++◌, ◌∙◌, ap}
use Rattle.std.proofs.lemmas.List.{append_assoc}
use Rattle.std.proofs.lemmas.Result.{IfOk-weaker}
use Rattle.snb_schema.specs.FileNames.{name_of}
use Rattle.snb_tool_texts.proofs.refusal_text.line_cause.Goals as goal

pub returns : goal.returns
returns c =
    let placed = ap (λ (text : List ℕ). name_of c.args.file ++ text) (c.as_str.ensures.value ∙ c.in_ok-placed.ensures.ok) in
    IfOk-weaker c.file_cause.result _ _ (λ cause e. e ∙ placed ∙ simp append_assoc) c.file_cause.ensures
