-- What is wrong with a file, by how far it is read.
use Rattle.std.proofs.Common.{◌≡◌, ◌≢◌, ◌∙◌, ◌+◌, ◌<◌, ◌≤◌, ℕ, List, [], ◌∷◌, ◌++◌, Option, Some, None, length, refl, sym, ap, subst, inl, inr, arith, length-append}
use Rattle.snb_schema.specs.declared.file.FileId.{FileId}
use Rattle.snb_schema.specs.declared.limits.TheConstants.{MAX_BYTES}
use Rattle.snb_schema.specs.declared.refusal.Refusal.{Refusal}
use Rattle.snb_schema.specs.declared.refusal.Refusal.TheVariants.{NoHeader, TooLarge}
use Rattle.snb_schema.specs.Lines.{filled, lines}
use Rattle.snb_input_lines.specs.Counts.{RowRefuses, RowTakes, counted}
use Rattle.snb_input_lines.specs.declared.counted.RowCount.{RowCount}
use Rattle.snb_input_lines.specs.Cut.{rest_of, whole_lines}
use Rattle.snb_input_lines.specs.Reading.{RefusesLine, Stops, end_fault}
use Rattle.snb_input_lines.specs.Sinks.{Heard, Hears, Refuses, Runs, Takes}
use Rattle.snb_input_lines.proofs.Laws.{rest_no_end, says_cut}
use Rattle.snb_input_files.specs.Files.{IsBeyond, NoFault}
use Rattle.snb_base.specs.FirstOf.{FirstOf}
use Rattle.snb_input_files.specs.Format.{Format, Lawful}
use Rattle.snb_input_files.specs.Loading.{IsTakenKnown}
use Rattle.snb_input_files.specs.Pieces.{Opened}
use Rattle.snb_input_files.specs.Places.{FileSays, HasKnown, LinesSay, InputPlace, ReadFile, opening}
use Rattle.snb_input_files.specs.PlaceChecks.{IsBare, LacksHeader, LineFault, LinesRefuse, file_checks, line_checks}
use Rattle.snb_input_files.proofs.FirstLine.{opens_with}
use Rattle.snb_input_files.proofs.Reach.{lines_split, longer_split, walked_whole, within_file, within_whole}
use Rattle.snb_input_files.proofs.Taking.{Stands, knows_one, left, line_bad, line_good, run_heard, says_count, says_knows, says_one}
use Rattle.snb_base.proofs.Laws.{none_some}

-- a line that is too far is refused so first
large_first : {K T : Type 0} (g : Format K T) (p : InputPlace) (line : List ℕ) → IsBeyond p.bytes p.size p.before line → FirstOf (line_checks g p line) (TooLarge p.file)
large_first g p [] h = inl (h, refl)
large_first g p (b ∷ bs) h = inl (h, refl)

-- items that are taken, cut in two
runs_cut : {S T : Type 0} (takes : Takes S T) (file : FileId) (xs ys : List T) (a c : S) → Runs takes file a (xs ++ ys) c → (b : S) × Runs takes file a xs b × Runs takes file b ys c
runs_cut takes file [] ys a c h = (a, refl, h)
runs_cut takes file (x ∷ xs) ys a c h = let r = runs_cut takes file xs ys h.0 c h.2 in (r.0, (h.0, h.1, r.1), r.2)

module _ {P K T : Type 0} (g : Format K T) (heard : Heard P T) (takes : Takes P T) (refuses : Refuses P T) (hears : Hears takes refuses heard g.rules.own) (lawful : Lawful g)
    (file : FileId) (bytes rows : ℕ) (past : List ReadFile) (s : RowCount P) (at : Opened g heard rows past s) where
  -- where the file begins
  abbrev pub place : List ℕ → InputPlace
  place whole = opening file bytes rows past whole

  -- after lines that were read the sink stands at their place
  pub stands : (whole : List ℕ) (before : List (List ℕ)) (items : List T) (known : Option K) (to : RowCount P) → LinesSay g file before items known → Runs (RowTakes takes) file s items to
      → Stands g heard takes refuses hears (record (place whole) { before = before }) known to
  stands whole before items known to says run =
      let l = left takes file items s to run in
      record {
        done = at.done;
        said = at.said;
        mine = items;
        says = says;
        tells = run_heard g heard takes refuses hears file items s to at.done [] run at.fresh;
        rows = l.rows ∙ (λ i. at.rows_are i + counted (at.most_is i) (says_count (g.language file) before (g.language file).begins known 0 items says i));
        most = l.most ∙ at.most_is;
      }

  -- nothing is wrong with lines that were read, where none reaches too far
  pub clean : (whole : List ℕ) (ls : List (List ℕ)) (items : List T) (known : Option K) (to : RowCount P) → LinesSay g file ls items known → Runs (RowTakes takes) file s items to
      → ((before : List (List ℕ)) (line : List ℕ) (after : List (List ℕ)) → before ++ line ∷ after ≡ ls → ¬ IsBeyond bytes (length whole) before line) → NoFault (LineFault g (place whole)) ls
  clean whole ls items known to says run within = record {
    none = λ before line after r e bad.
        let c = says_cut (g.language file) before (line ∷ after) (g.language file).begins known 0 items (subst (λ (xs : List (List ℕ)). LinesSay g file xs items known) (sym e) says) in
        let one = runs_cut (RowTakes takes) file c.front c.back s to (subst (λ (ys : List T). Runs (RowTakes takes) file s ys to) c.joined run) in
        let two = runs_cut (RowTakes takes) file c.later.0 c.later.1 one.0 to (subst (λ (ys : List T). Runs (RowTakes takes) file one.0 ys to) c.later.5 one.2) in
        line_good g heard takes refuses hears lawful (record (place whole) { before = before }) c.mid one.0 (stands whole before c.front c.mid one.0 c.first one.1)
        c.later.2 two.0 (0 + length before + 1) line c.later.0 (first_after (length before)) c.later.3 two.1 (within before line after e) r bad;
  }
    where
      first_after : (n : ℕ) → 0 + n + 1 ≡ n + 1
      first_after n = omega arith

  -- a line that is refused is the first fault
  refused_at : (whole : List ℕ) (before : List (List ℕ)) (line : List ℕ) (after : List (List ℕ)) (items : List T) (known : Option K) (to : RowCount P) (r : Refusal) → lines whole ≡ before ++ line ∷ after → LinesSay g file before items known
      → Runs (RowTakes takes) file s items to → RefusesLine (g.language file) (RowRefuses refuses) file known to (0 + length before + 1) line r
      → ((b : List (List ℕ)) (l : List ℕ) (a : List (List ℕ)) → b ++ l ∷ a ≡ before → ¬ IsBeyond bytes (length whole) b l) → ¬ IsBeyond bytes (length whole) before line → LinesRefuse g (place whole) whole r
  refused_at whole before line after items known to r splits says run bad within here = record {
    before = before;
    line = line;
    after = after;
    splits = sym splits;
    fault = line_bad g heard takes refuses hears lawful (record (place whole) { before = before }) known to (stands whole before items known to says run) (0 + length before + 1) line r (first_after (length before)) bad here;
    none_before = clean whole before items known to says run within;
  }
    where
      first_after : (n : ℕ) → 0 + n + 1 ≡ n + 1
      first_after n = omega arith

  -- a line that is ended is refused, whatever follows
  pub stopped : (text rest : List ℕ) (items : List T) (to : RowCount P) (r : Refusal) → bytes + length text ≤ MAX_BYTES
      → Stops (g.language file) (RowTakes takes) (RowRefuses refuses) file (g.language file).begins 0 (whole_lines text) s items to r → LinesRefuse g (place (text ++ rest)) (text ++ rest) r
  stopped text rest items to r few k =
      refused_at (text ++ rest) k.before k.line (k.after ++ lines (rest_of text ++ rest)) items k.now to r (lines_split text rest ∙ longer_split k.before k.line k.after (lines (rest_of text ++ rest)) (whole_lines text) k.split) k.says k.runs k.refused
      (λ before line after e. within_whole bytes text rest before line (after ++ k.line ∷ k.after) few (sym (longer_split before line after (k.line ∷ k.after) k.before (sym e)) ∙ sym k.split))
      (within_whole bytes text rest k.before k.line k.after few (sym k.split))

  -- a file goes on beyond what is read
  pub too_far : (text rest : List ℕ) (items : List T) (known : Option K) (to : RowCount P) → bytes + length text ≡ MAX_BYTES → rest ≢ [] → LinesSay g file (whole_lines text) items known
      → Runs (RowTakes takes) file s items to → LinesRefuse g (place (text ++ rest)) (text ++ rest) (TooLarge file)
  too_far text rest items known to full more says run =
      let o = opens_with (rest_of text) rest (rest_no_end text) (λ e. more (no_back (rest_of text) rest e)) in
      record {
        before = whole_lines text;
        line = o.line;
        after = o.after;
        splits = sym (lines_split text rest ∙ ap (λ (ls : List (List ℕ)). whole_lines text ++ ls) o.opens);
        fault = large_first g (record (place (text ++ rest)) { before = whole_lines text }) o.line (beyond o.line o.long);
        none_before = clean (text ++ rest) (whole_lines text) items known to says run (λ before line after e. within_whole bytes text rest before line after (omega (arith, full)) e);
      }
    where
      no_back : (x y : List ℕ) → x ++ y ≡ [] → y ≡ []
      no_back [] y e = e
      no_back (c ∷ x) y e = absurd cc

      some_bytes : (y : List ℕ) → y ≢ [] → 0 < length y
      some_bytes [] e = absurd (e refl)
      some_bytes (c ∷ y) e = omega arith

      beyond : (line : List ℕ) → length (rest_of text) ≤ length line → IsBeyond bytes (length (text ++ rest)) (whole_lines text) line
      beyond line long = let all = walked_whole text in let some = some_bytes rest more in omega (arith, all, long, full, some, length-append text rest)

  module _ (text : List ℕ) (few : bytes + length text ≤ MAX_BYTES) where
    -- a line of the file is refused
    pub last_stopped : (items : List T) (to : RowCount P) (r : Refusal) → Stops (g.language file) (RowTakes takes) (RowRefuses refuses) file (g.language file).begins 0 (lines text) s items to r → LinesRefuse g (place text) text r
    last_stopped items to r k =
        refused_at text k.before k.line k.after items k.now to r k.split k.says k.runs k.refused
        (λ before line after e. within_file bytes text before line few) (within_file bytes text k.before k.line few)

    -- all lines are read
    module _ (items : List T) (known : Option K) (to : RowCount P) (says : LinesSay g file (lines text) items known) (run : Runs (RowTakes takes) file s items to) where
      there : Stands g heard takes refuses hears (record (place text) { before = lines text }) known to
      there = stands text (lines text) items known to says run

      -- where no line has a fault, the lines refuse nothing
      lines_good : (q : Refusal) → ¬ LinesRefuse g (place text) text q
      lines_good q f = (clean text (lines text) items known to says run (λ before line after e. within_file bytes text before line few)).none f.before f.line f.after q f.splits f.fault

      knows : HasKnown (g.language file).begins (g.language file).heads (filled (lines text)) known
      knows = says_knows (g.language file) (lines text) (g.language file).begins known 0 items says

      headed : (k : K) → known ≡ Some k → (q : Refusal) → ¬ LacksHeader g (place text) text q
      headed k e q lacks = none_some known k (knows_one (g.language file) (lawful.exact file) (g.language file).begins (filled (lines text)) known None knows lacks.0) e

      said : (k : K) → known ≡ Some k → FileSays g (record { file = file; bytes = text }) items
      said k e = (k, subst (λ (o : Option K). LinesSay g file (lines text) items o) e says)

      module _ (ends : P → FileId → Option Refusal) (ended : (z : P) (f : FileId) (done : List (List T)) (mine : List T) → heard z done mine → ends z f ≡ g.rules.bare f mine) where
        told : heard to.sink at.done items
        told = run_heard g heard takes refuses hears file items s to at.done [] run at.fresh

        bare_is : ends to.sink file ≡ g.rules.bare file items
        bare_is = ended to.sink file at.done items told

        -- the file is refused at its end
        pub ended_bad : (r : Refusal) → end_fault file known (ends to.sink file) ≡ Some r → FirstOf (file_checks g (place text) text) r
        ended_bad r e = inr (lines_good, by_known known refl e)
          where
            same_refusal : (q : Refusal) → Some q ≡ Some r → r ≡ q
            same_refusal q h = cc

            by_known : (o : Option K) → known ≡ o → end_fault file o (ends to.sink file) ≡ Some r → FirstOf (LacksHeader g (place text) text ∷ IsBare g (place text) text ∷ []) r
            by_known None k h = inl (subst (λ (o : Option K). HasKnown (g.language file).begins (g.language file).heads (filled (lines text)) o) k knows, same_refusal (NoHeader file) h)
            by_known (Some x) k h = inr (headed x k, inl (items, said x k, sym bare_is ∙ h))

        -- nothing is wrong with the file
        pub ended_well : end_fault file known (ends to.sink file) ≡ None → IsTakenKnown g heard file bytes rows past text to.sink to.rows known
        ended_well e = by_known known refl e
          where
            not_bare : (k : K) → known ≡ Some k → ends to.sink file ≡ None → (q : Refusal) → ¬ IsBare g (place text) text q
            not_bare k h fine q bare =
                let same = (says_one g lawful file (lines text) bare.0 items (Some bare.1.0) known bare.1.1 says).0 in
                none_some (g.rules.bare file items) q (sym bare_is ∙ fine) (subst (λ (xs : List T). g.rules.bare file xs ≡ Some q) same bare.2)

            by_known : (o : Option K) → known ≡ o → end_fault file o (ends to.sink file) ≡ None → IsTakenKnown g heard file bytes rows past text to.sink to.rows known
            by_known None k h = absurd cc
            by_known (Some x) k h = (
              record {
                clean = (lines_good, (headed x k, (not_bare x k h, tt)));
                done = at.done;
                mine = items;
                said = at.said;
                says = (x, subst (λ (o : Option K). LinesSay g file (lines text) items o) k says);
                tells = told;
                counted = there.rows;
              },
              k,
            )
