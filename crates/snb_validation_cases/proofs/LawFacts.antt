-- A text spells one case at most.
use Rattle.std.proofs.Common.{◌≡◌, ◌∙◌, ap, refl, sym, subst, List, ℕ, Some, codes}
use Rattle.serde_json.specs.Data.{Data, member, no_members}
use Rattle.snb_schema.specs.declared.op.Line.{Line}
use Rattle.snb_schema.specs.declared.query.Query.{Query}
use Rattle.snb_schema.specs.ReadKinds.{read_kind_of}
use Rattle.snb_schema.specs.UpdateLines.{IsLine}
use Rattle.snb_read_model.specs.Cells.{ByteCell}
use Rattle.snb_input_lines.specs.Laws.{IsExact}
use Rattle.snb_streams.specs.Laws.{OneInsert}
use Rattle.snb_validation_cases.specs.declared.case.Case.{Case}
use Rattle.snb_validation_cases.specs.declared.case.Case.TheVariants.{Insert, Ask}
use Rattle.snb_validation_cases.specs.declared.case.CaseAt.{CaseAt}
use Rattle.snb_validation_cases.specs.CaseFile.{case_language}
use Rattle.snb_validation_cases.specs.Laws.{OneCase}
use Rattle.snb_validation_cases.specs.Cases.{IsAsk, IsAskOf, IsCase, IsInsert, IsInsertLine, SpellsCase}
use Rattle.snb_validation_cases.specs.Replies.{IsReplyData}
use Rattle.snb_validation_cases.proofs.CaseFacts.{one_ask, one_insert}
use Rattle.snb_validation_cases.proofs.KindFacts.{query_one}
use Rattle.snb_validation_cases.proofs.OneFacts.{reply_one, text_one}
use Rattle.snb_schema.proofs.Laws.{one_kind}

-- lines with the same fields are one
same_line : (a b : Line) → a.t ≡ b.t → a.t_d ≡ b.t_d → a.op ≡ b.op → a.number ≡ b.number → a ≡ b
same_line a b t t_d op number = λ i. record { t = t i; t_d = t_d i; op = op i; number = number i }

line_one : OneInsert → (d : Data) (a b : Line) → IsInsertLine d a → IsInsertLine d b → a ≡ b
line_one one d a b (x, x_is, x_line, x_first) (y, y_is, y_line, y_first) =
    let same = text_one d x y x_is y_is in
    let all = one y a.t a.t_d a.op b.t b.t_d b.op (subst (λ (text : List ℕ). IsLine text a.t a.t_d a.op) same x_line) y_line in
    same_line a b all.0 all.1 all.2 (x_first ∙ sym y_first)

insert_one : OneInsert → (d : Data) (a b : Line) → IsInsert d a → IsInsert d b → a ≡ b
insert_one one d a b x y = line_one one y.held a b (one_insert d y.held a y.keys x) y.is_line

-- what three values ask is one query, and one reply
ask_query : (params word held other : Data) (a b : Query) (r s : List (List (List ByteCell))) → IsAskOf params word held a r → IsAskOf params word other b s → a ≡ b
ask_query params word held other a b r s x y = query_one params a b (one_kind (read_kind_of a) (read_kind_of b) (text_one word _ _ x.0 y.0)) x.1 y.1

case_ask : (params word held : Data) (a b : Query) (r s : List (List (List ByteCell))) → IsAskOf params word held a r → IsAskOf params word held b s → Ask a r ≡ Ask b s
case_ask params word held a b r s x y =
    let same = ask_query params word held held a b r s x y in
    let replies = reply_one b held r s (subst (λ (q : Query). IsReplyData q held r) same x.2) y.2 in
    cc

ask_one : (d : Data) (a b : Query) (r s : List (List (List ByteCell))) → IsAsk d a r → IsAsk d b s → Ask a r ≡ Ask b s
ask_one d a b r s x y = case_ask y.params y.word y.held a b r s (one_ask d y.params y.word y.held a r y.keys x) y.asks

-- a value is no insert and a read at once
apart : (d : Data) (a : Line) (b : Query) (r : List (List (List ByteCell))) → IsInsert d a → ¬ IsAsk d b r
apart d a b r x y =
    let keys : Some (member (codes "insert") x.held no_members) ≡ Some (member (codes "params") y.params (member (codes "read") y.word (member (codes "reply") y.held no_members))) = sym x.keys ∙ y.keys in
    cc

value_case : OneInsert → (d : Data) (a b : Case) → IsCase d a → IsCase d b → a ≡ b
value_case one d (Insert a) (Insert b) x y = ap Insert (insert_one one d a b x y)
value_case one d (Insert a) (Ask b s) x y = absurd (apart d a b s x y)
value_case one d (Ask a r) (Insert b) x y = absurd (apart d b a r y x)
value_case one d (Ask a r) (Ask b s) x y = ask_one d a b r s x y

pub case_one : OneInsert → (text : List ℕ) (a b : Case) → SpellsCase text a → SpellsCase text b → a ≡ b
case_one one text a b (u, d, is, x) (w, e, also, y) =
    let read_same : Some d ≡ Some e = sym is ∙ also in
    let same : d ≡ e = cc in
    value_case one e a b (subst (λ (h : Data). IsCase h a) same x) y

same_at : (a b : CaseAt) → a.line ≡ b.line → a.case ≡ b.case → a ≡ b
same_at a b line case = λ i. record { line = line i; case = case i }

pub line_exact : OneCase → IsExact case_language
line_exact one = record {
  one_header = λ line k j h g. refl;
  good_header = λ line k column h bad. bad.0 h;
  one_item = λ k number line x y h g. same_at x y (h.1 ∙ sym g.1) (one line x.case y.case h.0 g.0);
  good_item = λ k number line x column h bad. bad.0 x.case h.0;
}
