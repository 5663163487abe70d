-- One case more.
use Rattle.std.proofs.Common.{◌≡◌, ◌+◌, ◌∷◌, ◌++◌, ◌∙◌, ℕ, List, [], length, Some, inl, inr, refl, sym, ap, subst, arith, append_assoc, append-nil, codes, length-append, Result, Ok, Err}
use Rattle.std.specs.Prelude.{OnOk, slice_get}
use Rattle.std.specs.declared.alloc.AllocError.{AllocError}
use Rattle.std.proofs.lemmas.Result.{on_ok_weaker}
use Rattle.std.specs.List.{flat_map}
use Rattle.std.specs.List.Sorted.{IsPermutation}
use Rattle.std.proofs.lemmas.Bool.{cases_lt}
use Rattle.std.proofs.lemmas.List.{get_or_append_left}
use Rattle.std.proofs.Math.Seq.{get_or-append_seam}
use Rattle.std.proofs.lemmas.List.Concat.{flat_map-append}
use Rattle.std.proofs.lemmas.List.Elements.{All-append, All-cons, All-contains, All-nil}
use Rattle.std.proofs.lemmas.List.Sorted.{IsPermutation-refl}
use Rattle.std.proofs.lemmas.Option.{get_or_from_slice_get, slice_get-get_or, slice_get_within}
use Rattle.snb_schema.specs.declared.op.Line.{Line}
use Rattle.snb_schema.specs.declared.query.Query.{Query}
use Rattle.snb_schema.specs.declared.row.Row.{Row}
use Rattle.snb_schema.specs.Inserts.{rows_of}
use Rattle.snb_graph_model.specs.Graphs.{HasGained, HoldsKey, IsGraph}
use Rattle.snb_graph_model.specs.Soundness.{Sound}
use Rattle.snb_plan.specs.Closed.{IsClosed}
use Rattle.snb_plan.specs.Plans.{AskWork, InsertWork, IsOfStreams, Operation, Plan, queries_in, query_from, updates_in}
use Rattle.snb_workers_replay.proofs.Laws.{before_none, before_some, read_inserts, work_inserts}
use Rattle.snb_validation_cases.specs.Cases.{SpellsCase}
use Rattle.snb_validation_cases.specs.declared.case.Case.{Case}
use Rattle.snb_validation_cases.specs.declared.case.Case.TheVariants as cases
use Rattle.snb_validation_model.specs.CaseTexts.{case_line, case_text}
use Rattle.snb_validation_model.specs.Expected.{HasExpected, HasWords, HaveWords, IsExpectedAt, insert_case}
use Rattle.snb_validation_expect.specs.Writing.{HasPut, HasPutAsk, HasPutInsert, HavePut, IsAt}
use Rattle.snb_base.proofs.Laws.{gives}

-- ---- where memory doesn't suffice

pub no_front : (old new : List ℕ) → new ≡ old → (front : List ℕ) × (new ≡ old ++ front)
no_front old new same = ([], same ∙ sym (append-nil old))

pub more_front : (old mid new : List ℕ) → (front : List ℕ) × (mid ≡ old ++ front) → (front : List ℕ) × (new ≡ mid ++ front) → (front : List ℕ) × (new ≡ old ++ front)
more_front old mid new first more = (first.0 ++ more.0, more.1 ∙ (ap (λ (l : List ℕ). l ++ more.0) first.1 ∙ append_assoc old first.0 more.0))

-- ---- the first case

-- a graph is itself with no rows more
none_more : (base : List Row) → IsGraph base → HasGained base [] base
none_more base graph = record { graph = graph; rows = subst (IsPermutation base) (sym (append-nil base)) (IsPermutation-refl base) }

pub at_first : (base : List Row) (plan : Plan) → IsGraph base → Sound base → IsOfStreams plan → IsClosed (HoldsKey base) (updates_in plan) → IsAt base plan 0 base
at_first base plan graph sound streams closed = record { replayed = record { of_streams = streams; closed = closed }; before = none_more base graph; sound = sound }

pub none_put : (base : List Row) (plan : Plan) (old : List ℕ) (graph : List Row) → IsAt base plan 0 graph → HavePut base plan 0 old old graph
none_put base plan old graph at = record {
  cases = [];
  as_many = refl;
  each = λ j case here. absurd cc;
  read_back = λ words. All-nil _;
  added = sym (append-nil old);
  next = at;
}

-- ---- one case

module _ (base : List Row) (plan : Plan) (k : ℕ) (o : Operation) (old new : List ℕ) (graph now : List Row) (at : IsAt base plan k graph) (here : slice_get plan.operations k ≡ Some o) where
  pub put_insert : (line : Line) → o.work ≡ InsertWork line → HasPutInsert line old new → HasGained graph (rows_of line.op) now → Sound now → HasPut base plan k old new now
  put_insert line does put gained sound = record {
    case = insert_case line;
    expected = record { operation = o; there = here; graph = graph; before = at.before; is = rw does refl };
    read_back = λ words. put.read_back;
    added = put.added;
    next = record { replayed = at.replayed; before = before_some base plan k line.op graph now at.before (work_inserts plan k o line here does) gained; sound = sound };
  }

  -- the query is one of the plan's
  asked : (query : Query) → o.work ≡ AskWork query → HaveWords (queries_in plan) → HasWords query
  asked query does words =
      All-contains HasWords (queries_in plan) query words
      (gives (λ (x : Operation). query_from x.work) plan.operations o query (k, slice_get_within plan.operations k o here, get_or_from_slice_get plan.operations k o o here) (ap query_from does))

  pub put_ask : (query : Query) → o.work ≡ AskWork query → HasPutAsk graph query old new → HasPut base plan k old new graph
  put_ask query does put = record {
    case = cases.Ask query put.reply;
    expected = record { operation = o; there = here; graph = graph; before = at.before; is = rw does (put.reply, put.replies, refl) };
    read_back = λ words. put.read_back (asked query does words);
    added = put.added;
    next = record { replayed = at.replayed; before = before_none base plan k graph at.before (read_inserts plan k o query here does); sound = at.sound };
  }

module _ (plan : Plan) (k : ℕ) (o : Operation) (old new : List ℕ) (graph : List Row) (r : Result (Unit {0}) AllocError) (here : slice_get plan.operations k ≡ Some o) where
  pub inserts : (now : List Row) (line : Line) → o.work ≡ InsertWork line → OnOk r (HasPutInsert line old new) → OnOk r (HasGained graph (rows_of line.op) now) → OnOk r (Sound now)
      → OnOk r ((base : List Row) → IsAt base plan k graph → HasPut base plan k old new now)
  inserts now line does = to r
    where
      to : (r : Result (Unit {0}) AllocError) → OnOk r (HasPutInsert line old new) → OnOk r (HasGained graph (rows_of line.op) now) → OnOk r (Sound now)
          → OnOk r ((base : List Row) → IsAt base plan k graph → HasPut base plan k old new now)
      to (Ok x) put gained sound = λ base at. put_insert base plan k o old new graph now at here line does put gained sound
      to (Err e) put gained sound = tt

  pub asks : (query : Query) → o.work ≡ AskWork query → OnOk r (HasPutAsk graph query old new) → OnOk r ((base : List Row) → IsAt base plan k graph → HasPut base plan k old new graph)
  asks query does = on_ok_weaker r (λ put base at. put_ask base plan k o old new graph graph at here query does put)

-- ---- one case after those before

-- the cases stand in the order of the numbers
push_each : (base : List Row) (plan : Plan) (k : ℕ) (cs : List Case) (case : Case) → length cs ≡ k → ((j : ℕ) (c : Case) → slice_get cs j ≡ Some c → IsExpectedAt base plan j c) → IsExpectedAt base plan k case
    → (j : ℕ) (c : Case) → slice_get (cs ++ case ∷ []) j ≡ Some c → IsExpectedAt base plan j c
push_each base plan k cs case size each last j c here = elim (cases_lt j (length cs)) [
  | inl lower ↦ each j c (slice_get-get_or cs j c lower ∙ ap Some (sym (get_or_append_left cs (case ∷ []) c j lower) ∙ get_or_from_slice_get (cs ++ case ∷ []) j c c here))
  | inr past ↦ (
      let within = slice_get_within (cs ++ case ∷ []) j c here in
      let e : j ≡ length cs = omega (arith, past, within, length-append cs (case ∷ [])) in
      let same : case ≡ c = sym (get_or-append_seam cs case [] c) ∙ get_or_from_slice_get (cs ++ case ∷ []) (length cs) c c (ap (slice_get (cs ++ case ∷ [])) (sym e) ∙ here) in
      subst (IsExpectedAt base plan j) same (subst (λ (n : ℕ). IsExpectedAt base plan n case) (sym (e ∙ size)) last))
]

abbrev IsReadBack : Case → Type 0
IsReadBack case = SpellsCase (case_text case) case

pub one_more : (base : List Row) (plan : Plan) (k : ℕ) (old mid new : List ℕ) (graph now : List Row) → HavePut base plan k old mid graph → HasPut base plan k mid new now → HavePut base plan (k + 1) old new now
one_more base plan k old mid new graph now all one = record {
  cases = all.cases ++ one.case ∷ [];
  as_many = length-append all.cases (one.case ∷ []) ∙ ap (λ (n : ℕ). n + 1) all.as_many;
  each = push_each base plan k all.cases one.case all.as_many all.each one.expected;
  read_back = λ words. All-append IsReadBack all.cases (one.case ∷ []) (all.read_back words) (All-cons IsReadBack one.case [] (one.read_back words) (All-nil IsReadBack));
  added =
      one.added
      ∙ (ap (λ (l : List ℕ). l ++ case_line one.case) all.added
      ∙ (append_assoc old (flat_map case_line all.cases) (case_line one.case)
      ∙ ap (λ (l : List ℕ). old ++ l) (ap (λ (l : List ℕ). flat_map case_line all.cases ++ l) (sym (append-nil (case_line one.case))) ∙ sym (flat_map-append case_line all.cases (one.case ∷ [])))));
  next = one.next;
}

-- ---- all cases

pub all_put : (base : List Row) (plan : Plan) (start old new : List ℕ) (last : List Row) → old ≡ start ++ codes "{\"cases\":1}\n" → HavePut base plan (length plan.operations) old new last → HasExpected base plan start new
all_put base plan start old new last head all = record {
  cases = all.cases;
  are = record { as_many = all.as_many; each = all.each };
  read_back = all.read_back;
  added = all.added ∙ (ap (λ (l : List ℕ). l ++ flat_map case_line all.cases) head ∙ append_assoc start (codes "{\"cases\":1}\n") (flat_map case_line all.cases));
}
