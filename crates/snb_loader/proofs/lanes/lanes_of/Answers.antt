use Rattle.std.proofs.Common.{List, All, subst, rules, arith}
use Rattle.std.proofs.lemmas.Grind.{common_steps}
use Rattle.snb_schema.specs.declared.op.Line.{Line}
use Rattle.snb_loader.specs.Lanes.{AreTaken}
use Rattle.snb_loader.proofs.lanes.lanes_of.Goals as goal

pub returns-clause-taken : goal.returns-clause-taken
returns-clause-taken c = (
  subst (λ (xss : List (List Line)). All AreTaken xss) (search rules) c.into_streams-lines-items.ensures.taken,
  subst (λ (xss : List (List Line)). All AreTaken xss) (grind (arith, common_steps)) c.into_streams-lines-items-2.ensures.taken,
)
