-- A file that is being read.
use Rattle.std.proofs.Common.{◌≡◌, ◌∙◌, ◌+◌, ◌≤◌, ℕ, List, [], ◌∷◌, ◌++◌, Option, Some, None, Result, Ok, Err, length, refl, sym, ap, subst, inl, inr, arith}
use Rattle.std.specs.Option.{IfSome}
use Rattle.snb_base.specs.Shelf.{Files}
use Rattle.snb_schema.specs.declared.fault.Fault.{Fault}
use Rattle.snb_schema.specs.declared.fault.Fault.TheVariants as fault
use Rattle.snb_schema.specs.declared.file.FileId.{FileId}
use Rattle.snb_schema.specs.declared.limits.TheConstants.{MAX_BYTES}
use Rattle.snb_schema.specs.declared.refusal.Refusal.{Refusal}
use Rattle.snb_schema.specs.Faults.{OnBad}
use Rattle.snb_input_lines.specs.Counts.{IsUnder, RowRefuses, RowTakes}
use Rattle.snb_input_lines.specs.declared.counted.RowCount.{RowCount}
use Rattle.snb_input_lines.specs.Feeding.{HasRead, HasStoppedAtEnd, Reader, at_begin, left_lines}
use Rattle.snb_input_lines.specs.Language.{Language}
use Rattle.snb_input_lines.specs.Cut.{whole_lines}
use Rattle.snb_input_lines.specs.Reading.{Says, end_fault}
use Rattle.snb_input_lines.specs.Sinks.{Heard, Hears, Refuses, Runs, Takes}
use Rattle.snb_input_lines.proofs.Laws.{fed_ends_bad, fed_none, fed_runs, fed_stopped_last, fed_whole}
use Rattle.snb_input_files.specs.declared.found.Found.{Found}
use Rattle.snb_input_files.specs.declared.found.Found.TheVariants.{Absent, Whole}
use Rattle.snb_input_files.specs.declared.load.Load.{Load}
use Rattle.snb_input_files.specs.declared.load.Load.TheVariants.{Refused, ReadFault, Memory}
use Rattle.snb_input_files.specs.declared.load.Used.{Used}
use Rattle.snb_input_files.specs.declared.pieces.Step.TheVariants as step
use Rattle.snb_base.specs.FirstOf.{FirstOf}
use Rattle.snb_input_files.specs.Format.{Format, Lawful}
use Rattle.snb_input_files.specs.Loading.{IsAnswer, IsKnownAnswer, IsTakenKnown, IsTold, load_for}
use Rattle.snb_input_files.specs.Pieces.{IsBegun, IsEnd, IsFed, IsStep, Opened}
use Rattle.snb_input_files.specs.Places.{FilesSay, ReadFile, opening}
use Rattle.snb_input_files.specs.PlaceChecks.{file_checks}
use Rattle.snb_input_files.proofs.FileFacts.{ended_bad, ended_well, last_stopped}
use Rattle.snb_input_files.proofs.Taking.{left}
use Rattle.snb_input_files.proofs.ToldFacts.{IsToldBegun, found, not_nothing, told_nil}

-- a fact of the language of one grammar is one of the same grammar
pub at_grammar : {G K T : Type 0} (language : G → Language K T) (x y : G) (F : Language K T → Type 0) → x ≡ y → F (language x) → F (language y)
at_grammar {G} language x y F e h = subst (λ (z : G). F (language z)) e h

module _ {P G K T : Type 0} (g : Format K T) (heard : Heard P T) (takes : Takes P T) (file : FileId) (grammar : G) where
  -- what a sink is before the first line
  abbrev pub first : ℕ → P → RowCount P
  first rows file_sink = record { most = g.rules.limit; rows = rows; sink = file_sink }

  -- how far a file is read, which is its beginning
  pub record Going (contents : Option Files) (name : List ℕ) (start : RowCount P) (reader : Reader G K) (sink : RowCount P) : Type 0 where
    pub text : List ℕ
    pub fed : IsFed g takes file grammar start text reader sink
    pub told : IsToldBegun contents name text

  pub opened : (rows : ℕ) (past : List ReadFile) (file_sink : P) → (done : List (List T)) → FilesSay g past done → heard file_sink done [] → Opened g heard rows past (first rows file_sink)
  opened rows past file_sink done said fresh = record { done = done; said = said; fresh = fresh; rows_are = refl; most_is = refl }

  -- a reader that is new
  pub going_first : (contents : Option Files) (name : List ℕ) (start sink : RowCount P) (reader : Reader G K) → reader ≡ at_begin file grammar (g.language file).begins → sink ≡ start → Going contents name start reader sink
  going_first contents name start sink reader e same = record {
    text = [];
    fed = subst (λ (z : RowCount P). IsFed g takes file grammar start [] reader z) (sym same) (subst (λ (z : Reader G K). IsFed g takes file grammar start [] z start) (sym e) (fed_none (g.language file) (RowTakes takes) file grammar start));
    told = told_nil contents name;
  }

  -- a piece more, where the two facts of the contents are joined
  both : (contents : Option Files) (F G : Files → Type 0) → IfSome contents (λ files. F files → G files) → IfSome contents F → IfSome contents G
  both None F G more h = tt
  both (Some files) F G more h = more h

  pub going_more : (contents : Option Files) (name : List ℕ) (most : ℕ) (start : RowCount P) (old new : Reader G K) (had has : RowCount P) → Going contents name start old had
      → IsStep g heard takes contents name file grammar most old had new has (Ok step.More) → Going contents name start new has
  going_more contents name most start old new had has k s = record {
    text = k.text ++ s.0;
    fed = s.2 start k.text k.fed;
    told = both contents (λ files. IsBegun files name k.text) (λ files. IsBegun files name (k.text ++ s.0)) (s.1 k.text (sym k.fed.fed)).1 k.told;
  }

  -- the file isn't held
  pub going_absent : (contents : Option Files) (name : List ℕ) (most : ℕ) (used : Used) (past : List ReadFile) (file_sink : P) (old new : Reader G K) (had has : RowCount P) → Going contents name (first used.rows file_sink) old had
      → IsStep g heard takes contents name file grammar most old had new has (Ok step.Absent) → IsAnswer g heard contents name file used past file_sink (Ok (Absent has.sink))
  going_absent contents name most used past file_sink old new had has k s =
      (s.3, ap (λ (z : RowCount P). z.sink) (s.1 ∙ unread k.text k.fed.items (none_read k.text (let a = s.2 in let b = k.fed.fed in omega (arith, a, b))) k.fed.says k.fed.runs))
    where
      none_read : (text : List ℕ) → length text ≡ 0 → text ≡ []
      none_read [] e = refl
      none_read (x ∷ text) e = absurd (omega (arith, e))

      unread : (text : List ℕ) (items : List T) → text ≡ [] → Says (g.language file) (g.language file).begins 0 (whole_lines text) items old.known → Runs (RowTakes takes) file (first used.rows file_sink) items had → had ≡ first used.rows file_sink
      unread text items e says run =
          let none : items ≡ [] = (subst (λ (t : List ℕ). Says (g.language file) (g.language file).begins 0 (whole_lines t) items old.known) e says).0 in
          subst (λ (xs : List T). Runs (RowTakes takes) file (first used.rows file_sink) xs had) none run

  -- a read stops the loading
  pub going_err : (contents : Option Files) (name : List ℕ) (most : ℕ) (used : Used) (past : List ReadFile) (file_sink : P) (old new : Reader G K) (had has : RowCount P) (load : Load) → Going contents name (first used.rows file_sink) old had
      → used.bytes + most ≡ MAX_BYTES → (done : List (List T)) → FilesSay g past done → heard file_sink done [] → IsStep g heard takes contents name file grammar most old had new has (Err load)
      → IsAnswer g heard contents name file used past file_sink (Err load)
  going_err contents name most used past file_sink old new had has (Refused r) k all done said fresh s =
      let m = s.1 k.text (sym k.fed.fed) in
      let now : IsToldBegun contents name (k.text ++ s.0) = both contents (λ files. IsBegun files name k.text) (λ files. IsBegun files name (k.text ++ s.0)) m.1 k.told in
      let f = found contents name (k.text ++ s.0) (not_nothing k.text s.0 m.0) now in
      ((k.text ++ s.0) ++ f.rest, f.told, inl (s.2 used.bytes used.rows past (first used.rows file_sink) k.text f.rest all (opened used.rows past file_sink done said fresh) k.fed))
  going_err contents name most used past file_sink old new had has ReadFault k all done said fresh s = tt
  going_err contents name most used past file_sink old new had has Memory k all done said fresh s = tt

  -- a reader that finds the end is as it was
  pub kept_reader : (contents : Option Files) (name : List ℕ) (most : ℕ) (start : RowCount P) (text : List ℕ) (old new : Reader G K) (had has : RowCount P) → IsFed g takes file grammar start text old had
      → IsStep g heard takes contents name file grammar most old had new has (Ok step.End) → IsFed g takes file grammar start text new has
  kept_reader contents name most start text old new had has f s =
      subst (λ (z : RowCount P). IsFed g takes file grammar start text new z) (sym s.1) (subst (λ (z : Reader G K). IsFed g takes file grammar start text z had) (sym s.0) f)

  -- the file has ended
  pub going_end : (contents : Option Files) (name : List ℕ) (most : ℕ) (used : Used) (past : List ReadFile) (file_sink : P) (old new : Reader G K) (had has : RowCount P) (known : Option K) (result : Result (Found P) Load) → Going contents name (first used.rows file_sink) old had
      → (done : List (List T)) → FilesSay g past done → heard file_sink done [] → IsStep g heard takes contents name file grammar most old had new has (Ok step.End)
      → ((past : List ReadFile) (start : RowCount P) (text : List ℕ) → Opened g heard used.rows past start → IsFed g takes file grammar start text new has → IsEnd g heard file used past text known result)
      → IsKnownAnswer g heard contents name file used past file_sink known result
  going_end contents name most used past file_sink old new had has known result k done said fresh s end =
      by_result result (end past (first used.rows file_sink) k.text (opened used.rows past file_sink done said fresh) (kept_reader contents name most (first used.rows file_sink) k.text old new had has k.fed s))
    where
      told : IsTold contents name (Some k.text)
      told = both contents (λ files. IsBegun files name k.text) (λ files. files name ≡ Some k.text) (s.2 k.text (sym k.fed.fed)) k.told

      by_result : (result : Result (Found P) Load) → IsEnd g heard file used past k.text known result → IsKnownAnswer g heard contents name file used past file_sink known result
      by_result (Ok (Absent t)) h = absurd h
      by_result (Ok (Whole t now)) h = (k.text, told, h.0, h.1)
      by_result (Err (Refused r)) h = (k.text, told, h)
      by_result (Err ReadFault) h = absurd h
      by_result (Err Memory) h = tt

  -- a reader that was new when it came
  pub going_begins : (contents : Option Files) (name : List ℕ) (rows : ℕ) (file_sink : P) (most : Option ℕ) (reader : Reader G K) → reader ≡ at_begin file grammar (g.language file).begins → most ≡ g.rules.limit
      → Going contents name (first rows file_sink) reader (record { most = most; rows = rows; sink = file_sink })
  going_begins contents name rows file_sink most reader e limit =
      going_first contents name (first rows file_sink) (record { most = most; rows = rows; sink = file_sink }) reader e (ap (λ (o : Option ℕ). record { most = o; rows = rows; sink = file_sink }) limit)

  -- what the end of a reader says of the file
  module _ (refuses : Refuses P T) (hears : Hears takes refuses heard g.rules.own) (lawful : Lawful g) (ends : P → FileId → Option Refusal)
      (ended : (z : P) (f : FileId) (done : List (List T)) (mine : List T) → heard z done mine → ends z f ≡ g.rules.bare f mine)
      (used : Used) (past : List ReadFile) (start : RowCount P) (text : List ℕ) (old : Reader G K) (had : RowCount P) (at : Opened g heard used.rows past start) (f : IsFed g takes file grammar start text old had) (few : used.bytes + old.fed ≤ MAX_BYTES) where
    small : used.bytes + length text ≤ MAX_BYTES
    small = let l = f.fed in omega (arith, few, l)

    pub end_ok : (new : Reader G K) (has : RowCount P) (now : Used) → HasRead (g.language file) (RowTakes takes) (left_lines old) old had new has → end_fault old.file new.known (ends has.sink old.file) ≡ None
        → now.bytes ≡ used.bytes + old.fed → now.rows ≡ has.rows → IsEnd g heard file used past text new.known (Ok (Whole has.sink now))
    end_ok new has now read fine bytes rows =
        let says = fed_whole (g.language file) (RowTakes takes) file grammar start text old had f read.items new.known read.says in
        let run = fed_runs (g.language file) (RowTakes takes) file grammar start text old had f read.items has read.runs in
        let well =
        ended_well g heard takes refuses hears lawful file used.bytes used.rows past start at text small (f.items ++ read.items) new.known has says run ends ended
        (subst (λ (x : FileId). end_fault x new.known (ends has.sink x) ≡ None) f.file_is fine) in
        (bytes ∙ ap (λ (n : ℕ). used.bytes + n) f.fed, subst (λ (n : ℕ). IsTakenKnown g heard file used.bytes used.rows past text has.sink n new.known) (sym rows) well)

    pub end_bad : (same : RowCount P → RowCount P → Type 0) (new : Reader G K) (has : RowCount P) (r : Refusal)
        → HasStoppedAtEnd (g.language file) (RowTakes takes) (RowRefuses refuses) same (λ z x. ends z.sink x) (left_lines old) old had new has r
        → FirstOf (file_checks g (opening file used.bytes used.rows past text) text) r
    end_bad same new has r h = elim h.stops [
      | inl k ↦
          inl (last_stopped g heard takes refuses hears lawful file used.bytes used.rows past start at text small (f.items ++ h.items) h.mid r
          (fed_stopped_last (g.language file) (RowTakes takes) file grammar start text old had f (RowRefuses refuses) h.items h.mid r k))
      | inr k ↦
          let e = fed_ends_bad (g.language file) (RowTakes takes) file grammar start text old had f (λ z x. ends z.sink x) h.items h.mid r k in
          ended_bad g heard takes refuses hears lawful file used.bytes used.rows past start at text small (f.items ++ h.items) e.now h.mid e.says e.runs ends ended r e.refused
    ]

  -- what stops at the end is the loading's
  pub end_err : (fault : Fault) (load : Load) (used : Used) (past : List ReadFile) (text : List ℕ) (known : Option K) → load ≡ load_for fault → OnBad {A = Unit {0}} (Err fault) (λ r. FirstOf (file_checks g (opening file used.bytes used.rows past text) text) r)
      → IsEnd g heard file used past text known (Err load)
  end_err (fault.Bad r) load used past text known e h = subst (λ (l : Load). IsEnd g heard file used past text known (Err l)) (sym e) h
  end_err fault.Memory load used past text known e h = subst (λ (l : Load). IsEnd g heard file used past text known (Err l)) (sym e) tt

  -- the data lines stay within the limit
  pub few_rows : (start had has : RowCount P) (text : List ℕ) (old : Reader G K) (items : List T) → IsUnder start.most start.rows → IsFed g takes file grammar start text old had → Runs (RowTakes takes) file had items has
      → IsUnder has.most has.rows × (has.most ≡ start.most)
  few_rows start had has text old items few f run =
      let a = left takes file f.items start had f.runs in
      let b = left takes file items had has run in
      (b.few (a.few few), b.most ∙ a.most)

-- a weaker fact of what stops a reader
pub on_bad_more : (fault : Fault) (F G : Refusal → Type 0) → OnBad {A = Unit {0}} (Err fault) F → ((r : Refusal) → F r → G r) → OnBad {A = Unit {0}} (Err fault) G
on_bad_more (fault.Bad r) F G h more = more r h
on_bad_more fault.Memory F G h more = tt

-- an answer of which more is known is an answer
pub known_answer : {P K T : Type 0} (g : Format K T) (heard : Heard P T) (contents : Option Files) (name : List ℕ) (file : FileId) (used : Used) (past : List ReadFile) (file_sink : P) (known : Option K) (result : Result (Found P) Load)
    → IsKnownAnswer g heard contents name file used past file_sink known result → IsAnswer g heard contents name file used past file_sink result
known_answer g heard contents name file used past file_sink known (Ok (Absent t)) h = h
known_answer g heard contents name file used past file_sink known (Ok (Whole t now)) h = (h.0, h.1, h.2, h.3.0)
known_answer g heard contents name file used past file_sink known (Err load) h = h
