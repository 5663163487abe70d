-- Each text is the line of an insert or has a bad column.
use Rattle.std.proofs.Common.{◌≡◌, ◌∙◌, ℕ, List, refl, sym, inl, inr, arith}
use Rattle.std.specs.List.{Contains}
use Rattle.std.proofs.lemmas.Bool.{cases_Bool}
use Rattle.snb_schema.specs.declared.op.Op.{Op}
use Rattle.snb_schema.specs.declared.op.InsertKind.{InsertKind}
use Rattle.snb_schema.specs.declared.op.InsertKind.TheVariants as kinds
use Rattle.snb_schema.specs.Lines.{begins_with_mark, fields}
use Rattle.snb_schema.specs.UpdateLines.{IsLine, all_inserts}
use Rattle.snb_schema.specs.InsertLines.{kind_of}
use Rattle.snb_streams.specs.Laws.{InsertOrColumn, InsertsAreRight, LineOrColumn, LinesAreRight, OneBadLine, OneFault}
use Rattle.snb_streams.proofs.CaseFacts.{IsTextCase, text_from_case, text_to_case}
use Rattle.snb_streams.proofs.PlainFacts.{one_line_or_not}

-- each kind is one of the eight
one_of_all : (kind : InsertKind) → Contains all_inserts kind
one_of_all kinds.AddPerson = (0, omega arith, refl)
one_of_all kinds.LikePost = (1, omega arith, refl)
one_of_all kinds.LikeComment = (2, omega arith, refl)
one_of_all kinds.AddForum = (3, omega arith, refl)
one_of_all kinds.AddMember = (4, omega arith, refl)
one_of_all kinds.AddPost = (5, omega arith, refl)
one_of_all kinds.AddComment = (6, omega arith, refl)
one_of_all kinds.AddFriend = (7, omega arith, refl)

-- each text is the line of an insert, or it has a bad column
pub line_or_column : InsertOrColumn → LineOrColumn
line_or_column inserts text = elim (cases_Bool (begins_with_mark text)) [
  | inl marked ↦ inr (1, inl (marked, refl))
  | inr unmarked ↦ elim (one_line_or_not text) [
    | inr broken ↦ inr (0, text_from_case text 0 (inr (inl (unmarked, broken, refl))))
    | inl one ↦ elim (inserts all_inserts (fields text)) [
      | inl i ↦ inl (i.0, i.1, i.2, record { text = one.0; unmarked = unmarked; one_line = one.1; spelled = i.3.1; of_two = i.3.2 })
      | inr bad ↦ inr (bad.0, text_from_case text bad.0 (inr (inr (unmarked, one.0, one.1, bad.1))))
    ]
  ]
]

-- a text is bad in one column
one_case : OneFault → (text : List ℕ) (a b : ℕ) → IsTextCase text a → IsTextCase text b → a ≡ b
one_case one text a b (inl p) (inl q) = p.1 ∙ sym q.1
one_case one text a b (inl p) (inr (inl q)) = (let yes = p.0 in let no_mark = q.0 in absurd cc)
one_case one text a b (inl p) (inr (inr q)) = (let yes = p.0 in let no_mark = q.0 in absurd cc)
one_case one text a b (inr (inl p)) (inl q) = (let yes = q.0 in let no_mark = p.0 in absurd cc)
one_case one text a b (inr (inl p)) (inr (inl q)) = p.2 ∙ sym q.2
one_case one text a b (inr (inl p)) (inr (inr q)) = absurd (p.1 q.1 q.2)
one_case one text a b (inr (inr p)) (inl q) = (let yes = q.0 in let no_mark = p.0 in absurd cc)
one_case one text a b (inr (inr p)) (inr (inl q)) = absurd (q.1 p.1 p.2)
one_case one text a b (inr (inr p)) (inr (inr q)) = one all_inserts (fields text) a b p.3 q.3

pub one_bad_line : OneFault → OneBadLine
one_bad_line one text a b p q = one_case one text a b (text_to_case text a p) (text_to_case text b q)

-- and in none where it is the line of an insert
right_case : InsertsAreRight → (text : List ℕ) (t t_d : ℕ) (op : Op) (column : ℕ) → IsLine text t t_d op → ¬ IsTextCase text column
right_case right text t t_d op column l (inl p) = (let yes = p.0 in let no_mark = l.unmarked in absurd cc)
right_case right text t t_d op column l (inr (inl p)) = p.1 l.text l.one_line
right_case right text t t_d op column l (inr (inr p)) = right all_inserts (fields text) t t_d op column (one_of_all (kind_of op), l.spelled, l.of_two) p.3

pub lines_are_right : InsertsAreRight → LinesAreRight
lines_are_right right text t t_d op column l bad = right_case right text t t_d op column l (text_to_case text column bad)
