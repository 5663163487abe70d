-- Facts on the command `expect`: words spell the parameters of the queries of a plan that is read from files.
use Rattle.std.proofs.Common.{◌≡◌, ◌≢◌, ◌<◌, ◌+◌, ◌∙◌, ℕ, zero, suc, ◌⊎◌, rules, List, [], ◌∷◌, length, Option, Some, None, Ok, inl, inr, refl, sym, ap, subst, arith}
use Rattle.snb_base.specs.Moments.{Moments}
use Rattle.std.specs.List.{All}
use Rattle.std.specs.Option.{option_map_or}
use Rattle.snb_schema.proofs.Laws.{frequent_complex, numbered_is, numbered_some, of_one, one_number}
use Rattle.std.proofs.lemmas.List.Elements.{All-cons, All-contains, All-contains_itself, All-nil}
use Rattle.std.proofs.lemmas.Option.{get_or_from_slice_get, same_Some, slice_get_within}
use Rattle.snb_base.specs.Outbox.{Written}
use Rattle.snb_base.specs.Shelf.{Files}
use Rattle.snb_schema.specs.declared.column.Column.{Column}
use Rattle.snb_schema.specs.declared.query.Query.{Query}
use Rattle.snb_schema.specs.declared.query.ReadKind.{ReadKind}
use Rattle.snb_schema.specs.declared.row.Row.{Row}
use Rattle.snb_schema.specs.Columns.{SpellsAll}
use Rattle.snb_schema.specs.Frequencies.{FrequencyTable, frequency_at}
use Rattle.snb_schema.specs.Lines.{fields}
use Rattle.snb_schema.specs.ParameterLines.{IsParams, SpellsQuery, query_columns}
use Rattle.snb_schema.specs.ReadKinds.{parameter_columns, parameter_values, read_kind_of}
use Rattle.snb_schema.specs.Queries.{IsComplex, complex_queries, number_of_query}
use Rattle.snb_schema.specs.QueryLists.{QueryLists, list_of}
use Rattle.snb_input_lines.specs.Files.{AreEach}
use Rattle.snb_streams.specs.FileLaws.{ParamsFiles}
use Rattle.snb_input_files.specs.Walk.{Before, Held}
use Rattle.snb_loader.specs.Params.{AreParams}
use Rattle.snb_plan.specs.Plans.{IsOfStreams, IsRead, IsUpdate, Operation, Plan, first_t, queries_in, query_from}
use Rattle.snb_tool_words.specs.declared.command.Command.TheVariants.{Expect}
use Rattle.snb_validation_model.specs.CaseTexts.{case_count_text}
use Rattle.snb_validation_model.specs.Expected.{HasExpected, HasWords, HaveWords}
use Rattle.snb_tool_outcome.specs.declared.input.Input.{Input}
use Rattle.snb_tool_outcome.specs.Endings.{IsDoneWith}
use Rattle.snb_tool_outcome.specs.PlanEndings.{IsInputAnswer}
use Rattle.snb_tool_outcome.specs.DatasetEndings.{AreCasesOf}
use Rattle.snb_tool_outcome.specs.Inputs.{ArePlanned, after_streams}
use Rattle.snb_tool_outcome.specs.Found.{Given}
use Rattle.snb_walk.specs.declared.target.Pick.TheVariants.{Modulo}
use Rattle.snb_base.proofs.Laws.{given_by}

-- ---- a parameter file

-- the columns of a complex query are those of its kind, so the fields of its line are its words
own_columns : (q : ℕ) (one : Query) → IsComplex q → number_of_query one ≡ q → query_columns q ≡ parameter_columns (read_kind_of one)
own_columns q one complex number =
    let (kind, is) = numbered_some q complex in
    let some : 0 ≢ q = of_one (λ n. 0 ≢ n) complex_queries q complex (search rules) in
    let own = numbered_is q kind is in
    ap (λ (o : Option ReadKind). option_map_or parameter_columns o []) is ∙ ap parameter_columns (one_number kind (read_kind_of one) (λ none. some (none ∙ own)) (own ∙ sym number))

complex_words : (q : ℕ) (fs : List (List ℕ)) (one : Query) → IsComplex q → SpellsQuery q fs one → HasWords one
complex_words q fs one complex s = (fs, subst (λ (cs : List Column). SpellsAll cs fs (parameter_values one)) (own_columns q one complex s.0) s.1)

each_words : (q n : ℕ) (ls : List (List ℕ)) (list : List Query) → IsComplex q → AreEach (λ number line one. IsParams q line one) n ls list → All HasWords list
each_words q n [] [] some each = All-nil HasWords
each_words q n [] (x ∷ xs) some each = absurd each
each_words q n ([] ∷ ls) list some each = each_words q (n + 1) ls list some each
each_words q n ((b ∷ bs) ∷ ls) [] some each = absurd each
each_words q n ((b ∷ bs) ∷ ls) (x ∷ xs) some each =
    All-cons HasWords x xs (complex_words q (fields (b ∷ bs)) x some each.0.spelled) (each_words q (n + 1) ls xs some each.1)

module _ (files : ParamsFiles) where
  lists_words : (at : Before) (held : Held) (table : FrequencyTable) (lists : QueryLists) (q : ℕ) → AreParams at held table lists → 0 < frequency_at table q → All HasWords (list_of lists q)
  lists_words at held table lists q params f =
      let (bytes, here, (k, says)) = params.said q f in
      let file = files q bytes (list_of lists q) says in
      each_words q (length file.before + 1) file.after (list_of lists q) (frequent_complex table q f) file.each

  -- ---- a plan

  module _ (held : Held) (ratio : ℕ) (table : FrequencyTable) (plan : Plan) (p : ArePlanned held ratio table plan) where
    one_asked : (o : Operation) (query : Query) → query_from o.work ≡ Some query
        → IsUpdate p.lanes ratio (first_t plan.operations) p.is_plan.updates o ⊎ IsRead p.lanes p.lists ratio (first_t plan.operations) p.is_plan.updates p.is_plan.reads o → HasWords query
    one_asked o query asks (inl (line, c, same)) = absurd (let e = sym (ap (λ (x : Operation). query_from x.work) same) ∙ asks in cc)
    one_asked o query asks (inr r) =
        let same : r.query ≡ query = same_Some r.query query (sym (ap (λ (x : Operation). query_from x.work) r.is) ∙ asks) in
        let instance = (p.is_plan.are_reads.those r.instance).0 (r.place, slice_get_within p.is_plan.reads r.place r.instance r.here, get_or_from_slice_get p.is_plan.reads r.place r.instance r.instance r.here) in
        subst HasWords same
        (All-contains HasWords (list_of p.lists r.instance.query) r.query (lists_words (after_streams held) held table p.lists r.instance.query p.params instance.frequent)
        (_, slice_get_within (list_of p.lists r.instance.query) _ r.query r.asked, get_or_from_slice_get (list_of p.lists r.instance.query) _ r.query r.query r.asked))

    -- words spell the parameters of its queries
    pub planned_words : HaveWords (queries_in plan)
    planned_words k d lt =
        let o = given_by (λ (x : Operation). query_from x.work) plan.operations _ (All-contains_itself (queries_in plan) k d lt) in
        one_asked o.0 _ o.2 ((p.is_plan.numbered.those o.0).0 o.1)

-- ---- the texts

-- the output of the cases of a graph and a plan, which are the input's
pub has_cases : (input : Input) (graph : List Row) (plan : Plan) (n : ℕ) (old : List ℕ) (texts : Written) → graph ≡ input.graph → plan ≡ input.plan → IsOfStreams plan
    → old ≡ [] → HasExpected graph plan old texts.cases → n ≡ length plan.operations → texts.screen ≡ case_count_text n → texts.log ≡ [] → texts.answers ≡ [] → texts.finals ≡ [] → AreCasesOf input texts
has_cases input graph plan n old texts same_graph same_plan streams start has size screen log answers finals =
    let h : HasExpected input.graph input.plan [] texts.cases = subst (λ (p : Plan). HasExpected input.graph p [] texts.cases) same_plan (subst (λ (g : List Row). HasExpected g plan [] texts.cases) same_graph (subst (λ (l : List ℕ). HasExpected graph plan l texts.cases) start has)) in
    let line : texts.screen ≡ case_count_text (length input.plan.operations) = screen ∙ ap case_count_text (size ∙ ap (λ (p : Plan). length p.operations) same_plan) in
    record {
      streams = subst IsOfStreams same_plan streams;
      cases = h.cases;
      are = h.are;
      read_back = h.read_back;
      shown =
          ap (λ (l : List ℕ). record { screen = l; log = texts.log; answers = texts.answers; finals = texts.finals; cases = texts.cases }) line
          ∙ (ap (λ (l : List ℕ). record { screen = case_count_text (length input.plan.operations); log = l; answers = texts.answers; finals = texts.finals; cases = texts.cases }) log
          ∙ (ap (λ (l : List ℕ). record { screen = case_count_text (length input.plan.operations); log = []; answers = l; finals = texts.finals; cases = texts.cases }) answers
          ∙ (ap (λ (l : List ℕ). record { screen = case_count_text (length input.plan.operations); log = []; answers = []; finals = l; cases = texts.cases }) finals
          ∙ ap (λ (l : List ℕ). record { screen = case_count_text (length input.plan.operations); log = []; answers = []; finals = []; cases = l }) h.added)));
    }

-- ---- what the command answers

pub expect_done : (contents : Option Files) (folder : List ℕ) (ratio : ℕ) (table : FrequencyTable) (given : Given) (moments : Moments) → ratio ≡ 1000000 → ParamsFiles → (input : Input) (texts : Written)
    → IsInputAnswer contents folder ratio table (Ok input) → AreCasesOf input texts → IsDoneWith (Expect folder table) contents given moments 0 texts
expect_done contents folder ratio table given moments one files input texts h are =
    let k : IsInputAnswer contents folder 1000000 table (Ok input) = subst (λ (n : ℕ). IsInputAnswer contents folder n table (Ok input)) one h in (
      record { missing = None; pick = Modulo; held = k.0; beside = None },
      (k.1, tt, tt),
      k.2.clean,
      (
        refl,
        record {
          graph = input.graph;
          plan = input.plan;
          input = k.2.is;
          streams = are.streams;
          cases = are.cases;
          are = are.are;
          read_back = are.read_back (planned_words files k.0 1000000 table input.plan k.2.is.planned);
          shown = are.shown;
        },
      ),
    )
