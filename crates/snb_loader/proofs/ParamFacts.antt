-- The parameter files that are read are those of the queries with a frequency, and what each says.
use Rattle.std.proofs.Common.{◌≡◌, ◌∙◌, ◌<◌, ltb, ℕ, true, List, [], ◌∷◌, ◌++◌, Option, Some, None, Ok, map, length, refl, sym, subst, arith, append_assoc, append-nil, inl, inr}
use Rattle.snb_base.specs.Shelf.{Files}
use Rattle.snb_schema.proofs.Laws.{frequent_complex, of_one}
use Rattle.snb_schema.specs.declared.file.FileId.{FileId}
use Rattle.snb_schema.specs.declared.query.Query.{Query}
use Rattle.snb_schema.specs.declared.refusal.Refusal.TheVariants.{Absent, NoParameters}
use Rattle.snb_schema.specs.Frequencies.{FrequencyTable, frequency_at}
use Rattle.snb_schema.specs.Lines.{fields, lines}
use Rattle.snb_schema.specs.ParameterLines.{SpellsQuery}
use Rattle.snb_schema.specs.Queries.{IsComplex, number_of_query, complex_queries}
use Rattle.snb_schema.specs.QueryLists.{AreOf, HaveParameters, QueryLists, list_of}
use Rattle.snb_streams.specs.Laws.{NoBadQuery, OneBadQuery, OneQuery}
use Rattle.snb_input_lines.proofs.Laws.{says_each}
use Rattle.snb_streams.specs.Parameters.{IsBadParams, params_file, params_language}
use Rattle.snb_input_files.specs.declared.load.Used.{Used}
use Rattle.snb_input_files.specs.declared.series.Series.{Series}
use Rattle.snb_input_files.specs.declared.walk.Walk.{Walk}
use Rattle.snb_base.specs.FirstOf.{NoneOf}
use Rattle.snb_input_files.specs.Format.{Lawful}
use Rattle.snb_input_files.specs.Places.{FileSays, FilesSay, ReadFile}
use Rattle.snb_input_files.specs.Stages.{IsStage, before}
use Rattle.snb_input_files.specs.Walk.{Before, Held, Look, after_walk, looks_from, series_looks, stage_looks, walk_checks, with_file}
use Rattle.snb_input_files.specs.Walk.Role.{Needed}
use Rattle.snb_loader.specs.Order.{params_series}
use Rattle.snb_loader.specs.Params.{AreOfEach, HasHeard, IsListSaid, IsParamsAnswer, ParamLines, asked, params_format, params_stage, query_in}
use Rattle.snb_loader.proofs.ParamListFacts.{Each, each_passing}
use Rattle.std.proofs.lemmas.Bool.{lt-ltb}

bad_one : OneBadQuery → (q : ℕ) (fs : List (List ℕ)) (a b : ℕ) → IsBadParams q fs a → IsBadParams q fs b → a ≡ b
bad_one one q fs a b (inl p) (inl r) = p.1 ∙ sym r.1
bad_one one q fs a b (inl p) (inr r) = absurd (r.0 a p)
bad_one one q fs a b (inr p) (inl r) = absurd (p.0 b r)
bad_one one q fs a b (inr (short, inl p)) (inr (few, inl r)) = one q fs a b p r
bad_one one q fs a b (inr (short, inr p)) (inr r) = absurd p.1
bad_one one q fs a b (inr (short, inl p)) (inr (few, inr r)) = absurd r.1

bad_none : NoBadQuery → (q : ℕ) (fs : List (List ℕ)) (x : Query) (c : ℕ) → IsComplex q × SpellsQuery q fs x → ¬ IsBadParams q fs c
bad_none right q fs x c p (inl r) = r.0 p.0
bad_none right q fs x c p (inr (short, inl r)) = right q fs x c p.1 r
bad_none right q fs x c p (inr (short, inr r)) = r.1

-- lines say the parameters of one query at most, and are refused in one way at most
pub params_lawful : OneQuery → NoBadQuery → OneBadQuery → Lawful params_format
params_lawful one right bad = record {
  exact = λ file. record {
    one_header = λ line k j p r. refl;
    good_header = λ line k column p r. r.0 p;
    one_item = λ k number line x y p r. one (query_in file.kind) (fields line) x y p.0 p.1 r.1;
    good_item = λ k number line x c p. bad_none right (query_in file.kind) (fields line) x c p;
  };
  one_header_column = λ file line a b p r. p.1 ∙ sym r.1;
  one_column = λ file k line a b p r. bad_one bad (query_in file.kind) (fields line) a b p r;
  one_own = λ file done mine x r q a b. absurd a;
}

-- these files are those of the queries, and each that says something says one thing at least
abbrev pub AreTold : Held → List ℕ → List ReadFile → Type 0
AreTold held [] [] = Unit {0}
AreTold held [] (s ∷ ss) = ⊥
AreTold held (q ∷ qs) [] = ⊥
AreTold held (q ∷ qs) (s ∷ ss) = (s.file ≡ params_file q) × (held (params_file q) ≡ Some s.bytes) × ((items : List Query) → FileSays params_format s items → 0 < length items) × AreTold held qs ss

-- what was read between two moments
abbrev pub AreRead : Held → List ℕ → Before → Before → Type 0
AreRead held qs a b = (more : List ReadFile) × (b.past ≡ a.past ++ more) × AreTold held qs more

some_said : (file : FileId) (b : List ℕ) → ((r : _) → ¬ ((items : List Query) × FileSays params_format (record { file = file; bytes = b }) items × (params_format.rules.bare file items ≡ Some r))) → (items : List Query) → FileSays params_format (record { file = file; bytes = b }) items → 0 < length items
some_said file b no_bare [] s = absurd (no_bare (NoParameters file) ([], s, refl))
some_said file b no_bare (x ∷ xs) s = omega arith

one_told : (held : Held) (q : ℕ) (qs : List ℕ) (at : Before) (rest : List Look) (o : Option (List ℕ)) → held (params_file q) ≡ o → ((next : Before) → NoneOf (walk_checks params_format next rest) → AreRead held qs next (after_walk params_format next rest))
    → NoneOf (walk_checks params_format at ((record { file = params_file q; role = Needed; held = o } ∷ (elim o [ None ↦ [] | Some b ↦ [] ])) ++ rest))
    → AreRead held (q ∷ qs) at (after_walk params_format at ((record { file = params_file q; role = Needed; held = o } ∷ (elim o [ None ↦ [] | Some b ↦ [] ])) ++ rest))
one_told held q qs at rest None e k h = absurd (h.0 (Absent (params_file q)) refl)
one_told held q qs at rest (Some b) e k h =
    let s : ReadFile = record { file = params_file q; bytes = b } in
    let more = k (with_file params_format at (params_file q) b) h.1.1.1 in
    (s ∷ more.0, more.1 ∙ append_assoc at.past (s ∷ []) more.0, (refl, e, some_said (params_file q) b h.1.1.0, more.2))

walk_told : (held : Held) (qs : List ℕ) (at : Before) → NoneOf (walk_checks params_format at (stage_looks held (map params_series qs))) → AreRead held qs at (after_walk params_format at (stage_looks held (map params_series qs)))
unfolding series_looks looks_from
walk_told held [] at h = ([], sym (append-nil at.past), tt)
walk_told held (q ∷ qs) at h = one_told held q qs at (stage_looks held (map params_series qs)) (held (params_file q)) refl (λ next k. walk_told held qs next k) h

-- what a file says are queries of its number
says_of : (s : ReadFile) (xs : List Query) → FileSays params_format s xs → AreOf (query_in s.file.kind) xs
says_of s xs h = says_each (params_language (query_in s.file.kind)) (λ x. number_of_query x ≡ query_in s.file.kind) (λ k number line x spells. spells.1.0) (lines s.bytes) None (Some h.0) 0 xs h.1

of_each : (held : Held) (qs : List ℕ) (ss : List ReadFile) (xss : List (List Query)) → AreTold held qs ss → FilesSay params_format ss xss → AreOfEach qs xss
of_each held [] [] [] t h = tt
of_each held [] [] (xs ∷ xss) t h = absurd h
of_each held [] (s ∷ ss) xss t h = absurd t
of_each held (q ∷ qs) [] xss t h = absurd t
of_each held (q ∷ qs) (s ∷ ss) [] t h = absurd h
of_each held (q ∷ qs) (s ∷ ss) (xs ∷ xss) t h =
    (subst (λ (file : FileId). AreOf (query_in file.kind) xs) t.0 (says_of s xs h.0), of_each held qs ss xss t.3 h.1)

said_each : (held : Held) (f : ℕ → List Query) (qs : List ℕ) (ss : List ReadFile) → AreTold held qs ss → FilesSay params_format ss (map f qs) → Each (λ q. IsListSaid held q (f q) × (0 < length (f q))) qs
said_each held f [] ss t h = tt
said_each held f (q ∷ qs) [] t h = absurd t
said_each held f (q ∷ qs) (s ∷ ss) t h =
    (((s.bytes, t.1, subst (λ (file : FileId). FileSays params_format (record { file = file; bytes = s.bytes }) (f q)) t.0 h.0), t.2 (f q) h.0), said_each held f qs ss t.3 h.1)

-- what holds of the queries with a frequency, one after the other, holds of each
of_asked : (P : ℕ → Type 0) (table : FrequencyTable) → Each P (asked table) → (q : ℕ) → 0 < frequency_at table q → P q
of_asked P table h q l = of_one (λ x. ltb 0 (frequency_at table x) ≡ true → P x) complex_queries q (frequent_complex table q l) (each_passing P (λ x. ltb 0 (frequency_at table x)) complex_queries h) (lt-ltb 0 (frequency_at table q) l)

-- the answer is one of the stage of the queries with a frequency
pub of_stage : (contents : Option Files) (folder : List ℕ) (table : FrequencyTable) (old : Used) (w : Walk ParamLines) (stage items : List Series) → stage ≡ items → items ≡ params_stage table → IsStage params_format HasHeard contents folder stage (before old) (Ok w) → IsStage params_format HasHeard contents folder (params_stage table) (before old) (Ok w)
of_stage contents folder table old w stage items e f h = subst (λ (ss : List Series). IsStage params_format HasHeard contents folder ss (before old) (Ok w)) (e ∙ f) h

module _ (contents : Option Files) (folder : List ℕ) (table : FrequencyTable) (old : Used) (w : Walk ParamLines) (answer : IsStage params_format HasHeard contents folder (params_stage table) (before old) (Ok w)) where
  files : (more : List ReadFile) × ((after_walk params_format (before old) (stage_looks answer.0 (params_stage table))).past ≡ more) × AreTold answer.0 (asked table) more
  files = walk_told answer.0 (asked table) (before old) answer.2.clean

  said : FilesSay params_format files.0 w.file_sink.done
  said = let k = answer.2 in subst (λ (z : List ReadFile × List (List Query)). FilesSay params_format z.0 z.1) (λ i. (files.1 i, sym k.fresh.0 i)) k.said

  -- each list has queries of its kind
  pub kinds_done : AreOfEach (asked table) w.file_sink.done
  kinds_done = of_each answer.0 (asked table) files.0 w.file_sink.done files.2 said

  module _ (lists : QueryLists) (are : map (list_of lists) (asked table) ≡ w.file_sink.done) where
    each : Each (λ q. IsListSaid answer.0 q (list_of lists q) × (0 < length (list_of lists q))) (asked table)
    each = said_each answer.0 (list_of lists) (asked table) files.0 files.2 (subst (λ (xss : List (List Query)). FilesSay params_format files.0 xss) (sym are) said)

    -- each query with a frequency has a parameter
    pub params_full : HaveParameters lists table
    params_full q l = (of_asked (λ x. IsListSaid answer.0 x (list_of lists x) × (0 < length (list_of lists x))) table each q l).1

    pub params_ok : ((q : ℕ) → frequency_at table q ≡ 0 → list_of lists q ≡ []) → IsParamsAnswer contents folder table old w.used (Ok lists)
    params_ok others = (
      answer.0,
      answer.1,
      record {
        clean = answer.2.clean;
        said = λ q l. (of_asked (λ x. IsListSaid answer.0 x (list_of lists x) × (0 < length (list_of lists x))) table each q l).0;
        others = others;
      },
      answer.2.bytes_are,
      answer.2.rows_are,
    )
