-- What is found over cases, and over one case more.
use Rattle.std.proofs.Common.{◌≡◌, ◌≢◌, ◌∷◌, ◌++◌, ◌∙◌, ℕ, List, [], Option, Some, None, refl, sym, ap, subst, inl, inr, append_assoc}
use Rattle.snb_schema.specs.declared.op.Line.{Line}
use Rattle.snb_schema.specs.declared.query.Query.{Query}
use Rattle.snb_schema.specs.declared.row.Row.{Row}
use Rattle.snb_base.proofs.Laws.{not_empty, push_split, same_list_split}
use Rattle.snb_graph_model.specs.Laws.{GraphsAreTheirRows}
use Rattle.snb_graph_model.specs.Soundness.{Sound}
use Rattle.snb_read_model.specs.Cells.{ByteCell}
use Rattle.snb_read_model.specs.Replies.{IsReply}
use Rattle.snb_read_laws.specs.Laws.{OneReply}
use Rattle.snb_validation_cases.specs.declared.case.Case.TheVariants.{Insert, Ask}
use Rattle.snb_validation_cases.specs.declared.case.CaseAt.{CaseAt}
use Rattle.snb_validation_model.specs.declared.difference.Difference.{Difference}
use Rattle.snb_validation_model.specs.Checks.{AreRight, Finds, IsAfterCases, IsFirstDifference, ask_at}
use Rattle.snb_validation_model.specs.Steps.{HasCompared, IsKept}
use Rattle.snb_validation_check.proofs.Inserting.{one_after}

-- a reply is a list of answers
abbrev pub Answers : Type 0
Answers = List (List (List ByteCell))

-- nothing is wrong with no cases
pub right_none : (base : List Row) → AreRight base []
right_none base = λ before rest line query reply e. absurd (not_empty before (ask_at line query reply) rest e)

-- cases that ask the same
ask_line : (n m : ℕ) (p q : Query) (r s : Answers) → ask_at n p r ≡ ask_at m q s → n ≡ m
ask_line n m p q r s e = ap (λ (c : CaseAt). c.line) e

ask_query : (n m : ℕ) (p q : Query) (r s : Answers) → ask_at n p r ≡ ask_at m q s → p ≡ q
ask_query n m p q r s e = let h : Ask p r ≡ Ask q s = ap (λ (c : CaseAt). c.case) e in cc

ask_reply : (n m : ℕ) (p q : Query) (r s : Answers) → ask_at n p r ≡ ask_at m q s → r ≡ s
ask_reply n m p q r s e = let h : Ask p r ≡ Ask q s = ap (λ (c : CaseAt). c.case) e in cc

-- an insert asks nothing
insert_asks : (line : Line) (n m : ℕ) (q : Query) (s : Answers) → ask_at m q s ≡ record { line = n; case = Insert line } → ⊥
insert_asks line n m q s e = let h : Ask q s ≡ Insert line = ap (λ (c : CaseAt). c.case) e in cc

module _ (rows : GraphsAreTheirRows) (base : List Row) (cases : List CaseAt) where
  module _ (x : CaseAt) where
    -- the first that is wrong stays so
    wrong_more : (d : Difference) → IsFirstDifference base cases d → IsFirstDifference base (cases ++ x ∷ []) d
    wrong_more d w = record {
      before = w.before;
      rest = w.rest ++ x ∷ [];
      query = w.query;
      splits = sym (append_assoc w.before (ask_at d.line w.query d.expected ∷ w.rest) (x ∷ [])) ∙ ap (λ (cs : List CaseAt). cs ++ x ∷ []) w.splits;
      right = w.right;
      graph = w.graph;
      after = w.after;
      sound = w.sound;
      given = w.given;
      differs = w.differs;
    }

    -- one case more whose reply is right
    right_more : (graph : List Row) → IsAfterCases base cases graph → AreRight base cases
        → ((line : ℕ) (query : Query) (reply : Answers) → ask_at line query reply ≡ x → IsReply graph query reply) → AreRight base (cases ++ x ∷ [])
    right_more graph after right here = λ before rest line query reply e.
        elim (push_split before (ask_at line query reply) rest cases x e) [
          | inl p ↦ (graph, subst (λ (cs : List CaseAt). IsAfterCases base cs graph) (sym p.0) after, here line query reply p.1)
          | inr p ↦ right before p.0 line query reply p.1
        ]

  -- an insert more changes nothing of what is found
  pub finds_insert : (line : Line) (n : ℕ) (graph : List Row) (f : Option Difference) → IsAfterCases base cases graph → Finds base cases f → Finds base (cases ++ record { line = n; case = Insert line } ∷ []) f
  finds_insert line n graph None after right = right_more (record { line = n; case = Insert line }) graph after right (λ m q s e. absurd (insert_asks line n m q s e))
  finds_insert line n graph (Some d) after w = wrong_more (record { line = n; case = Insert line }) d w

  module _ (n : ℕ) (query : Query) (due : Answers) (graph : List Row) (after : IsAfterCases base cases graph) (sound : Sound graph) where
    -- a read more, over cases of which nothing is wrong
    finds_first : (given : Answers) (new : Option Difference) → AreRight base cases → IsReply graph query given → IsKept n due given new → Finds base (cases ++ ask_at n query due ∷ []) new
    finds_first given None right reply same =
        right_more (ask_at n query due) graph after right
        (λ m q s e.
        subst (λ (p : Query). IsReply graph p s) (sym (ask_query m n q query s due e))
        (subst (λ (r : Answers). IsReply graph query r) (same ∙ sym (ask_reply m n q query s due e)) reply))
    finds_first given (Some d) right reply kept =
        subst (λ (z : Difference). IsFirstDifference base (cases ++ ask_at n query due ∷ []) z) (sym kept.1)
        (record { before = cases; rest = []; query = query; splits = refl; right = right; graph = graph; after = after; sound = sound; given = reply; differs = kept.0 })

    -- a read more: what is found is what is kept
    pub finds_read : (f new : Option Difference) → HasCompared graph n query due f new → Finds base cases f → Finds base (cases ++ ask_at n query due ∷ []) new
    finds_read None new compares right = finds_first compares.0 new right compares.1 compares.2
    finds_read (Some d) new compares w = subst (Finds base (cases ++ ask_at n query due ∷ [])) (sym compares) (wrong_more (ask_at n query due) d w)

module _ (rows : GraphsAreTheirRows) (base : List Row) where
  -- where all replies are right, each is the one on each graph that is the base with the inserts before the case
  pub on_each : (cases : List CaseAt) → AreRight base cases → (before rest : List CaseAt) (line : ℕ) (query : Query) (reply : Answers) (graph : List Row)
      → before ++ ask_at line query reply ∷ rest ≡ cases → IsAfterCases base before graph → IsReply graph query reply
  on_each cases right before rest line query reply graph splits after =
      let there = right before rest line query reply splits in
      subst (λ (g : List Row). IsReply g query reply) (one_after rows base before there.0 graph there.1 after) there.2

module _ (rows : GraphsAreTheirRows) (one_reply : OneReply) (base : List Row) where
  -- where all replies are right none is wrong
  right_or_wrong : (cases : List CaseAt) (d : Difference) (before rest : List CaseAt) (query : Query) (graph : List Row) → AreRight base cases
      → before ++ ask_at d.line query d.expected ∷ rest ≡ cases → IsAfterCases base before graph → Sound graph → IsReply graph query d.given → d.given ≢ d.expected → ⊥
  right_or_wrong cases d before rest query graph right splits after sound given differs =
      differs (one_reply graph query d.given d.expected after.graph sound given (on_each rows base cases right before rest d.line query d.expected graph splits after))

  module _ (cases : List CaseAt) (d e : Difference) (w : IsFirstDifference base cases d) (v : IsFirstDifference base cases e) where
    -- two first differences at one case
    one_case : w.before ≡ v.before → ask_at d.line w.query d.expected ≡ ask_at e.line v.query e.expected → d ≡ e
    one_case same asks =
        let graph : v.graph ≡ w.graph = one_after rows base v.before v.graph w.graph v.after (subst (λ (cs : List CaseAt). IsAfterCases base cs w.graph) same w.after) in
        let other : IsReply w.graph w.query e.given =
        subst (λ (q : Query). IsReply w.graph q e.given) (sym (ask_query d.line e.line w.query v.query d.expected e.expected asks)) (subst (λ (g : List Row). IsReply g v.query e.given) graph v.given) in
        let given : d.given ≡ e.given = one_reply w.graph w.query d.given e.given w.after.graph w.sound w.given other in
        let line : d.line ≡ e.line = ask_line d.line e.line w.query v.query d.expected e.expected asks in
        let expected : d.expected ≡ e.expected = ask_reply d.line e.line w.query v.query d.expected e.expected asks in
        λ i. record { line = line i; expected = expected i; given = given i }

    -- there is one first difference
    one_wrong : d ≡ e
    one_wrong = elim (same_list_split w.before (ask_at d.line w.query d.expected) w.rest v.before (ask_at e.line v.query e.expected) v.rest (w.splits ∙ sym v.splits)) [
      | inl p ↦ one_case p.0 p.1
      | inr q ↦ elim q [
        | inl p ↦ absurd (right_or_wrong v.before d w.before p.0 w.query w.graph v.right p.1 w.after w.sound w.given w.differs)
        | inr p ↦ absurd (right_or_wrong w.before e v.before p.0 v.query v.graph w.right p.1 v.after v.sound v.given v.differs)
      ]
    ]

  -- what is found over cases is one
  pub one_found : (cases : List CaseAt) (a b : Option Difference) → Finds base cases a → Finds base cases b → a ≡ b
  one_found cases None None a b = refl
  one_found cases None (Some e) a b = absurd (right_or_wrong cases e b.before b.rest b.query b.graph a b.splits b.after b.sound b.given b.differs)
  one_found cases (Some d) None a b = absurd (right_or_wrong cases d a.before a.rest a.query a.graph b a.splits a.after a.sound a.given a.differs)
  one_found cases (Some d) (Some e) a b = ap Some (one_wrong cases d e a b)
