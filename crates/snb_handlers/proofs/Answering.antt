-- What is merely known to be an answer is one, since there is one and no other.
use Rattle.std.proofs.Common.{◌≡◌, List, Result, Ok, Err, IfOk, subst}
use Rattle.std.proofs.Math.Logic.{∥∥₁_elim}
use Rattle.std.proofs.Props.{props}
use Rattle.snb_schema.specs.declared.query.Query.{Query}
use Rattle.snb_schema.specs.declared.row.Row.{Row}
use Rattle.snb_graph_model.specs.Graphs.{IsGraph}
use Rattle.snb_graph_model.specs.Soundness.{Sound}
use Rattle.snb_read_model.specs.Cells.{ByteCell}
use Rattle.snb_read_model.specs.ComplexReads.{IsAnswer}
use Rattle.snb_read_laws.specs.Laws.{OneAnswer, SomeReply}

module _ (one : OneAnswer) (some : SomeReply) (g : List Row) (graph : IsGraph g) (sound : Sound g) (q : Query) where
  is_answer : (a : List (List ByteCell)) → ∥ IsAnswer g q a ∥₁ → IsAnswer g q a
  is_answer a known =
      let (reply, is) = some g q graph sound in
      let same : is.own ≡ a = ∥∥₁_elim known (hlevel props) (λ h. one g q is.own a graph sound is.answer h) in
      subst (IsAnswer g q) same is.answer

  pub if_answer : {E : Type 0} (r : Result (List (List ByteCell)) E) → IfOk r (λ a. ∥ IsAnswer g q a ∥₁) → IfOk r (IsAnswer g q)
  if_answer (Ok a) known = is_answer a known
  if_answer (Err e) known = tt
