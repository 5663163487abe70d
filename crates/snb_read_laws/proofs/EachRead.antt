-- For each read: there is an answer, there is no second one, and its rows have the columns of the read.
use Rattle.std.proofs.Common.{ℕ, List, [], ◌∷◌, ◌∙◌, refl, sym, subst, arith}
use Rattle.std.proofs.lemmas.List.Elements.{All-cons}
use Rattle.snb_schema.specs.declared.query.Query.{Query}
use Rattle.snb_schema.specs.declared.query.Query.TheVariants as queries
use Rattle.snb_schema.specs.declared.row.Row.{Row}
use Rattle.snb_graph_integrity.specs.SoundLaws.{MessagesAreOfOneKind, MessagesHaveOneAuthor, MessagesHaveOneRoot, RepliesAreHeld, RequiredEdgesAreThere}
use Rattle.snb_graph_model.specs.Graphs.{IsGraph}
use Rattle.snb_graph_model.specs.Soundness.{Sound}
use Rattle.snb_read_order.specs.Laws.{OneFirst, SomeFirst}
use Rattle.snb_read_model.specs.Cells.{ByteCell}
use Rattle.snb_read_model.specs.declared.cell.Cell.TheVariants as cell
use Rattle.snb_read_model.specs.Columns.{HasColumns, HaveColumns}
use Rattle.snb_read_model.specs.ComplexReads.{IsAnswer, Stay}
use Rattle.snb_read_laws.proofs.ColumnFacts.{rows_have}
use Rattle.snb_read_laws.proofs.Near.{some_length}
use Rattle.snb_read_laws.proofs.OneLength.{one_length}
use Rattle.snb_read_laws.proofs.OneNamed.{one_ic1, one_ic11}
use Rattle.snb_read_laws.proofs.OneSent.{one_ic2, one_ic7, one_ic8, one_ic9}
use Rattle.snb_read_laws.proofs.OneShort.{one_is1, one_is2, one_is3, one_is4, one_is5, one_is6, one_is7}
use Rattle.snb_read_laws.proofs.SomeNamed.{some_ic1, some_ic11, some_ic9}
use Rattle.snb_read_laws.proofs.SomeSent.{some_ic2, some_ic7, some_ic8}
use Rattle.snb_read_laws.proofs.SomeShort.{some_is1, some_is2, some_is3, some_is4, some_is5, some_is6, some_is7}
use Rattle.snb_read_laws.specs.Laws.{OneAnswer}

module _ (some : SomeFirst (List ByteCell)) (texts : SomeFirst (List ℕ)) (stays : SomeFirst Stay)
    (one : MessagesAreOfOneKind) (required : RequiredEdgesAreThere) (author : MessagesHaveOneAuthor) (roots : MessagesHaveOneRoot) where
  pub some_answer : (g : List Row) → IsGraph g → Sound g → (q : Query) → (answer : List (List ByteCell)) × IsAnswer g q answer
  some_answer g graph sound (queries.Is1 person) = some_is1 g graph sound some required person
  some_answer g graph sound (queries.Is2 person) = some_is2 g graph sound some one author roots person
  some_answer g graph sound (queries.Is3 person) = some_is3 g graph sound some person
  some_answer g graph sound (queries.Is4 message) = some_is4 g graph sound some message
  some_answer g graph sound (queries.Is5 message) = some_is5 g graph sound some one author message
  some_answer g graph sound (queries.Is6 message) = some_is6 g graph sound some one author roots required message
  some_answer g graph sound (queries.Is7 message) = some_is7 g graph sound some one author message
  some_answer g graph sound (queries.Ic1 person first_name) = some_ic1 g graph sound some required texts stays person first_name
  some_answer g graph sound (queries.Ic2 person max_date) = some_ic2 g graph sound some person max_date
  some_answer g graph sound (queries.Ic7 person) = some_ic7 g graph sound some person
  some_answer g graph sound (queries.Ic8 person) = some_ic8 g graph sound some one author person
  some_answer g graph sound (queries.Ic9 person max_date) = some_ic9 g graph sound some person max_date
  some_answer g graph sound (queries.Ic11 person country year) = some_ic11 g graph sound some person country year
  some_answer g graph sound (queries.Ic13 from to) = (let (z, is) = some_length g from to in (_, (z, is, refl)))

module _ (cells : OneFirst (List ByteCell)) (texts : OneFirst (List ℕ)) (stays : OneFirst Stay)
    (authors : MessagesHaveOneAuthor) (roots : MessagesHaveOneRoot) (held : RepliesAreHeld) where
  pub one_answer : OneAnswer
  one_answer g (queries.Is1 person) a b graph sound f h = one_is1 cells g graph person a b f h
  one_answer g (queries.Is2 person) a b graph sound f h = one_is2 cells g graph sound roots held person a b f h
  one_answer g (queries.Is3 person) a b graph sound f h = one_is3 cells g graph person a b f h
  one_answer g (queries.Is4 message) a b graph sound f h = one_is4 cells g graph message a b f h
  one_answer g (queries.Is5 message) a b graph sound f h = one_is5 cells g graph message a b f h
  one_answer g (queries.Is6 message) a b graph sound f h = one_is6 cells g graph sound roots held message a b f h
  one_answer g (queries.Is7 message) a b graph sound f h = one_is7 cells g graph message a b f h
  one_answer g (queries.Ic1 person first_name) a b graph sound f h = one_ic1 cells g texts stays person first_name a b f h
  one_answer g (queries.Ic2 person max_date) a b graph sound f h = one_ic2 cells authors g graph sound person max_date a b f h
  one_answer g (queries.Ic7 person) a b graph sound f h = one_ic7 cells g graph person a b f h
  one_answer g (queries.Ic8 person) a b graph sound f h = one_ic8 cells g person a b f h
  one_answer g (queries.Ic9 person max_date) a b graph sound f h = one_ic9 cells authors g graph sound person max_date a b f h
  one_answer g (queries.Ic11 person country year) a b graph sound f h = one_ic11 cells g person country year a b f h
  one_answer g (queries.Ic13 from to) a b graph sound f h =
      let length = one_length g from to f.0 h.0 f.1 h.1 in
      f.2 ∙ (λ i. (cell.Number (length i) ∷ []) ∷ []) ∙ sym h.2

pub columns_of_answer : (g : List Row) (q : Query) (answer : List (List ByteCell)) → IsAnswer g q answer → HaveColumns q answer
columns_of_answer g (queries.Is1 person) answer a =
    rows_have _ _ _ _ answer (HasColumns (queries.Is1 person)) (λ x cells s. subst (HasColumns (queries.Is1 person)) (sym s.is) (tt, (tt, (tt, (tt, (tt, (tt, (tt, (tt, tt))))))))) a
columns_of_answer g (queries.Is2 person) answer a =
    rows_have _ _ _ _ answer (HasColumns (queries.Is2 person)) (λ x cells s. subst (HasColumns (queries.Is2 person)) (sym s.is) (tt, (tt, (tt, (tt, (tt, (tt, (tt, tt)))))))) a
columns_of_answer g (queries.Is3 person) answer a =
    rows_have _ _ _ _ answer (HasColumns (queries.Is3 person)) (λ x cells s. subst (HasColumns (queries.Is3 person)) (sym s.is) (tt, (tt, (tt, (tt, tt))))) a
columns_of_answer g (queries.Is4 message) answer a =
    rows_have _ _ _ _ answer (HasColumns (queries.Is4 message)) (λ x cells s. subst (HasColumns (queries.Is4 message)) (sym s) (tt, (tt, tt))) a
columns_of_answer g (queries.Is5 message) answer a =
    rows_have _ _ _ _ answer (HasColumns (queries.Is5 message)) (λ x cells s. subst (HasColumns (queries.Is5 message)) (sym s.is) (tt, (tt, (tt, tt)))) a
columns_of_answer g (queries.Is6 message) answer a =
    rows_have _ _ _ _ answer (HasColumns (queries.Is6 message)) (λ x cells s. subst (HasColumns (queries.Is6 message)) (sym s.is) (tt, (tt, (tt, (tt, (tt, tt)))))) a
columns_of_answer g (queries.Is7 message) answer a =
    rows_have _ _ _ _ answer (HasColumns (queries.Is7 message)) (λ x cells s. subst (HasColumns (queries.Is7 message)) (sym s.is) (tt, (tt, (tt, (tt, (tt, (tt, (tt, tt)))))))) a
columns_of_answer g (queries.Ic1 person first_name) answer a =
    rows_have _ _ _ _ answer (HasColumns (queries.Ic1 person first_name)) (λ x cells s. subst (HasColumns (queries.Ic1 person first_name)) (sym s.is) (tt, (tt, (tt, (tt, (tt, (tt, (tt, (tt, (tt, (tt, (tt, (tt, (tt, tt)))))))))))))) a.answers
columns_of_answer g (queries.Ic2 person max_date) answer a =
    rows_have _ _ _ _ answer (HasColumns (queries.Ic2 person max_date)) (λ x cells s. subst (HasColumns (queries.Ic2 person max_date)) (sym s.is) (tt, (tt, (tt, (tt, (tt, (tt, tt))))))) a
columns_of_answer g (queries.Ic7 person) answer a =
    rows_have _ _ _ _ answer (HasColumns (queries.Ic7 person)) (λ x cells s. subst (HasColumns (queries.Ic7 person)) (sym s.is) (tt, (tt, (tt, (tt, (tt, (tt, (tt, (tt, tt))))))))) a
columns_of_answer g (queries.Ic8 person) answer a =
    rows_have _ _ _ _ answer (HasColumns (queries.Ic8 person)) (λ x cells s. subst (HasColumns (queries.Ic8 person)) (sym s.is) (tt, (tt, (tt, (tt, (tt, (tt, tt))))))) a
columns_of_answer g (queries.Ic9 person max_date) answer a =
    rows_have _ _ _ _ answer (HasColumns (queries.Ic9 person max_date)) (λ x cells s. subst (HasColumns (queries.Ic9 person max_date)) (sym s.is) (tt, (tt, (tt, (tt, (tt, (tt, tt))))))) a.answers
columns_of_answer g (queries.Ic11 person country year) answer a =
    rows_have _ _ _ _ answer (HasColumns (queries.Ic11 person country year)) (λ x cells s. subst (HasColumns (queries.Ic11 person country year)) (sym s.is) (tt, (tt, (tt, (tt, (tt, tt)))))) a.answers
columns_of_answer g (queries.Ic13 from to) answer a =
    subst (HaveColumns (queries.Ic13 from to)) (sym a.2) (All-cons (HasColumns (queries.Ic13 from to)) _ [] (tt, tt) (λ k d lt. absurd (omega (arith, lt))))
