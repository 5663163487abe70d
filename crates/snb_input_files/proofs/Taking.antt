-- What lines that are read say, and what is wrong at each.
use Rattle.std.proofs.Common.{◌≡◌, ◌∙◌, ◌+◌, ℕ, suc, Bool, true, false, List, [], ◌∷◌, ◌++◌, length, drop, refl, sym, ap, subst, inl, inr, arith, Option, Some, None}
use Rattle.snb_schema.specs.declared.file.FileId.{FileId}
use Rattle.snb_schema.specs.declared.refusal.Counted.TheVariants.{Rows}
use Rattle.snb_schema.specs.declared.refusal.Refusal.{Refusal}
use Rattle.snb_schema.specs.declared.refusal.Refusal.TheVariants.{BadLine, NotUtf8, TooMany}
use Rattle.snb_schema.specs.LineFaults.{RefusesText}
use Rattle.snb_schema.specs.Lines.{begins_with_mark, filled, lines}
use Rattle.snb_input_lines.specs.Counts.{CountsOne, IsFull, IsUnder, RowRefuses, RowTakes, counted}
use Rattle.snb_input_lines.specs.declared.counted.RowCount.{RowCount}
use Rattle.snb_input_lines.specs.Language.{IsText, Language}
use Rattle.snb_input_lines.specs.Laws.{IsExact}
use Rattle.snb_input_lines.specs.Reading.{LineSays, ReadsLine, RefusesAs, RefusesLine, Says}
use Rattle.snb_input_lines.specs.Sinks.{Heard, Hears, Refuses, Runs, Takes}
use Rattle.snb_input_lines.proofs.Laws.{one_reading}
use Rattle.snb_input_files.specs.Files.{IsBeyond}
use Rattle.snb_base.specs.FirstOf.{FirstOf}
use Rattle.snb_input_files.specs.Format.{Format, Lawful}
use Rattle.snb_input_files.specs.Places.{FilesSay, KnownAt, HasKnown, LinesSay, InputPlace, ReadFile, data_of, line_number, counted_rows}
use Rattle.snb_input_files.specs.PlaceChecks.{FailsOwn, HasBadColumn, IsMarked, HasBadHeader, IsRowTooMany, line_checks}
use Rattle.snb_base.proofs.Laws.{none_some}

not_both : (b : Bool) → b ≡ true → b ≡ false → ⊥
not_both b p q = cc

same_some : {K : Type 0} (o : Option K) (k j : K) → o ≡ Some k → o ≡ Some j → k ≡ j
same_some o k j p q = cc

module _ {K T : Type 0} (g : Language K T) where
  -- one item for each data line
  pub says_count : (ls : List (List ℕ)) (known new : Option K) (n : ℕ) (items : List T) → Says g known n ls items new → length items ≡ length (data_of known ls)
  says_count [] None new n items h = ap length h.0
  says_count [] (Some k) new n items h = ap length h.0
  says_count ([] ∷ ls) None new n items h =
      ap length (h.5 ∙ ap (λ (xs : List T). xs ++ h.1) h.3.0) ∙ says_count ls None new (n + 1) h.1 (subst (λ (o : Option K). Says g o (n + 1) ls h.1 new) h.3.1 h.4)
  says_count ([] ∷ ls) (Some k) new n items h =
      ap length (h.5 ∙ ap (λ (xs : List T). xs ++ h.1) h.3.0) ∙ says_count ls (Some k) new (n + 1) h.1 (subst (λ (o : Option K). Says g o (n + 1) ls h.1 new) h.3.1 h.4)
  says_count ((b ∷ bs) ∷ ls) None new n items h =
      ap length (h.5 ∙ ap (λ (xs : List T). xs ++ h.1) h.3.1.2) ∙ says_count ls (Some h.3.1.0) new (n + 1) h.1 (subst (λ (o : Option K). Says g o (n + 1) ls h.1 new) h.3.1.3 h.4)
  says_count ((b ∷ bs) ∷ ls) (Some k) new n items h =
      let rest = says_count ls (Some k) new (n + 1) h.1 (subst (λ (o : Option K). Says g o (n + 1) ls h.1 new) h.3.1.3 h.4) in
      ap length (h.5 ∙ ap (λ (xs : List T). xs ++ h.1) h.3.1.2) ∙ ap (λ (m : ℕ). suc m) rest

  -- what is known after lines is what their header said
  pub says_knows : (ls : List (List ℕ)) (known new : Option K) (n : ℕ) (items : List T) → Says g known n ls items new → HasKnown known g.heads (filled ls) new
  says_knows [] None new n items h = h.1
  says_knows [] (Some k) new n items h = h.1
  says_knows ([] ∷ ls) known new n items h = says_knows ls known new (n + 1) h.1 (subst (λ (o : Option K). Says g o (n + 1) ls h.1 new) h.3.1 h.4)
  says_knows ((b ∷ bs) ∷ ls) None new n items h =
      (h.3.1.0, h.3.1.1, says_knows ls (Some h.3.1.0) new (n + 1) h.1 (subst (λ (o : Option K). Says g o (n + 1) ls h.1 new) h.3.1.3 h.4))
  says_knows ((b ∷ bs) ∷ ls) (Some k) new n items h = says_knows ls (Some k) new (n + 1) h.1 (subst (λ (o : Option K). Says g o (n + 1) ls h.1 new) h.3.1.3 h.4)

  pub knows_one : IsExact g → (known : Option K) (ls : List (List ℕ)) (a b : Option K) → HasKnown known g.heads ls a → HasKnown known g.heads ls b → a ≡ b
  knows_one exact None [] a b p q = p ∙ sym q
  knows_one exact None (l ∷ ls) a b p q = p.2 ∙ ap (λ (k : K). Some k) (exact.one_header l p.0 q.0 p.1 q.1) ∙ sym q.2
  knows_one exact (Some k) ls a b p q = p ∙ sym q

module _ {K T : Type 0} (g : Format K T) (lawful : Lawful g) where
  -- lines say one list of items, and leave one thing known
  pub says_one : (file : FileId) (ls : List (List ℕ)) (xs ys : List T) (a b : Option K) → LinesSay g file ls xs a → LinesSay g file ls ys b → (xs ≡ ys) × (a ≡ b)
  says_one file ls xs ys a b p q = (one_reading (g.language file) (lawful.exact file)).one (g.language file).begins a b 0 ls xs ys p q

  -- and files say one list each
  pub files_one : (ss : List ReadFile) (xss yss : List (List T)) → FilesSay g ss xss → FilesSay g ss yss → xss ≡ yss
  files_one [] [] [] p q = refl
  files_one [] [] (ys ∷ yss) p q = absurd q
  files_one [] (xs ∷ xss) yss p q = absurd p
  files_one (s ∷ ss) [] yss p q = absurd p
  files_one (s ∷ ss) (xs ∷ xss) [] p q = absurd q
  files_one (s ∷ ss) (xs ∷ xss) (ys ∷ yss) p q =
      let one = (says_one s.file (lines s.bytes) xs ys (Some p.0.0) (Some q.0.0) p.0.1 q.0.1).0 in
      let rest = files_one ss xss yss p.1 q.1 in
      λ i. one i ∷ rest i

count_none : (most : Option ℕ) (n : ℕ) → n ≡ n + counted most 0
count_none None n = omega arith
count_none (Some m) n = omega arith

count_more : (most : Option ℕ) (a b c n : ℕ) → CountsOne most a b → c ≡ b + counted most n → c ≡ a + counted most (suc n)
count_more None a b c n p q = q ∙ ap (λ (x : ℕ). x + 0) p
count_more (Some m) a b c n p q = let e = p.1 in omega (arith, e, q)

count_under : (most : Option ℕ) (a b : ℕ) → CountsOne most a b → IsUnder most b
count_under None a b p = tt
count_under (Some m) a b p = let l = p.0 in let e = p.1 in omega (arith, l, e)

pub count_room : (most : Option ℕ) (a b : ℕ) → CountsOne most a b → ¬ IsFull most a
count_room None a b p full = full
count_room (Some m) a b p full = let l = p.0 in omega (arith, l, full)

module _ {P T : Type 0} (takes : Takes P T) where
  -- what items leave that are counted and taken
  pub record Left (s new : RowCount P) (items : List T) : Type 0 where
    pub most : new.most ≡ s.most
    pub rows : new.rows ≡ s.rows + counted s.most (length items)
    pub few : IsUnder s.most s.rows → IsUnder new.most new.rows

  pub left : (file : FileId) (items : List T) (s new : RowCount P) → Runs (RowTakes takes) file s items new → Left s new items
  left file [] s new run = record {
    most = ap (λ (z : RowCount P). z.most) run;
    rows = ap (λ (z : RowCount P). z.rows) run ∙ count_none s.most s.rows;
    few = λ h. subst (λ (z : RowCount P). IsUnder z.most z.rows) (sym run) h;
  }
  left file (x ∷ items) s new run =
      let h = left file items run.0 new run.2 in
      let m : run.0.most ≡ s.most = run.1.2 in
      record {
        most = h.most ∙ m;
        rows = count_more s.most s.rows run.0.rows new.rows (length items) run.1.0 (subst (λ (o : Option ℕ). new.rows ≡ run.0.rows + counted o (length items)) m h.rows);
        few = λ f. h.few (subst (λ (o : Option ℕ). IsUnder o run.0.rows) (sym m) (count_under s.most s.rows run.0.rows run.1.0));
      }

module _ {P K T : Type 0} (g : Format K T) (heard : Heard P T) (takes : Takes P T) (refuses : Refuses P T) (hears : Hears takes refuses heard g.rules.own) where
  -- what is counted and taken is heard
  pub run_heard : (file : FileId) (items : List T) (s new : RowCount P) (done : List (List T)) (mine : List T) → Runs (RowTakes takes) file s items new → heard s.sink done mine → heard new.sink done (mine ++ items)
  run_heard file [] s new done mine run k = subst (λ (xs : List T). heard new.sink done xs) (sym (append_none mine)) (subst (λ (z : RowCount P). heard z.sink done mine) (sym run) k)
    where
      append_none : (xs : List T) → xs ++ [] ≡ xs
      append_none [] = refl
      append_none (x ∷ xs) = ap (λ (ys : List T). x ∷ ys) (append_none xs)
  run_heard file (x ∷ items) s new done mine run k =
      subst (λ (xs : List T). heard new.sink done xs) (joined mine) (run_heard file items run.0 new done (mine ++ x ∷ []) run.2 (hears.more s.sink run.0.sink file x done mine k run.1.1))
    where
      joined : (xs : List T) → (xs ++ x ∷ []) ++ items ≡ xs ++ x ∷ items
      joined [] = refl
      joined (y ∷ xs) = ap (λ (ys : List T). y ∷ ys) (joined xs)

  -- a sink stands at a place, where this is known
  pub record Stands (p : InputPlace) (known : Option K) (s : RowCount P) : Type 0 where
    pub done : List (List T)
    pub said : FilesSay g p.past done
    pub mine : List T
    pub says : LinesSay g p.file p.before mine known
    pub tells : heard s.sink done mine
    pub rows : s.rows ≡ p.rows + counted_rows g p.file p.before
    pub most : s.most ≡ g.rules.limit

  module _ (lawful : Lawful g) (p : InputPlace) (known : Option K) (s : RowCount P) (at : Stands p known s) where
    knows : KnownAt g p known
    knows = says_knows (g.language p.file) p.before (g.language p.file).begins known 0 at.mine at.says

    knows_same : (other : Option K) → KnownAt g p other → known ≡ other
    knows_same other k = knows_one (g.language p.file) (lawful.exact p.file) (g.language p.file).begins (filled p.before) known other knows k

    -- what the own check says of it is said of what the sink was told
    own_here : (line : List ℕ) (r : Refusal) (f : FailsOwn g p line r) → (known ≡ Some f.known) × g.rules.own p.file at.done at.mine f.item r
    own_here line r f =
        let one = says_one g lawful p.file p.before f.mine at.mine (Some f.known) known f.says at.says in
        let old : f.done ≡ at.done = files_one g lawful p.past f.done at.done f.said at.said in
        (sym one.1, subst (λ (xs : List T). g.rules.own p.file at.done xs f.item r) one.0 (subst (λ (xss : List (List T)). g.rules.own p.file xss f.mine f.item r) old f.fails))

    full_here : IsFull s.most s.rows → IsFull g.rules.limit (p.rows + counted_rows g p.file p.before)
    full_here h = subst (λ (o : Option ℕ). IsFull o (p.rows + counted_rows g p.file p.before)) at.most (subst (λ (n : ℕ). IsFull s.most n) at.rows h)

    full_there : IsFull g.rules.limit (p.rows + counted_rows g p.file p.before) → IsFull s.most s.rows
    full_there h = subst (λ (n : ℕ). IsFull s.most n) (sym at.rows) (subst (λ (o : Option ℕ). IsFull o (p.rows + counted_rows g p.file p.before)) (sym at.most) h)

    -- nothing is wrong with a line that is read
    pub line_good : (new : Option K) (to : RowCount P) (n : ℕ) (line : List ℕ) (items : List T) → n ≡ line_number p → ReadsLine (g.language p.file) known n line items new → Runs (RowTakes takes) p.file s items to
        → ¬ IsBeyond p.bytes p.size p.before line → (r : Refusal) → ¬ FirstOf (line_checks g p line) r
    line_good new to n [] items here read run within r (inl large) = within large.0
    line_good new to n [] items here read run within r (inr rest) = rest.1
    line_good new to n (b ∷ bs) items here read run within r bad = by_check bad
      where
        -- of the header
        headed : (o : Option K) → known ≡ o → LineSays (g.language p.file) o n (b ∷ bs) items new → HasBadHeader g p (b ∷ bs) r → ⊥
        headed None e says no_header = (lawful.exact p.file).good_header (b ∷ bs) says.0 no_header.1 says.1 no_header.2
        headed (Some k) e says no_header = none_some known k (knows_same None no_header.0) e

        columned : (o : Option K) → known ≡ o → LineSays (g.language p.file) o n (b ∷ bs) items new → HasBadColumn g p (b ∷ bs) r → ⊥
        columned None e says col = none_some known col.0 e (knows_same (Some col.0) col.1)
        columned (Some k) e says col =
            let same : k ≡ col.0 = same_some known k col.0 e (knows_same (Some col.0) col.1) in
            (lawful.exact p.file).good_item col.0 n (b ∷ bs) says.0 col.2 (subst (λ (j : K). (g.language p.file).spells j n (b ∷ bs) says.0) same says.1) col.3

        counts : (o : Option K) → known ≡ o → LineSays (g.language p.file) o n (b ∷ bs) items new → IsRowTooMany g p r → ⊥
        counts None e says many = none_some known many.0 e (knows_same (Some many.0) many.1)
        counts (Some k) e says many =
            let one = subst (λ (xs : List T). Runs (RowTakes takes) p.file s xs to) says.2 run in
            count_room s.most s.rows one.0.rows one.1.0 (full_there many.2)

        owns : (o : Option K) → known ≡ o → LineSays (g.language p.file) o n (b ∷ bs) items new → FailsOwn g p (b ∷ bs) r → ⊥
        owns None e says own = none_some known own.known e (own_here (b ∷ bs) r own).0
        owns (Some k) e says own =
            let w = own_here (b ∷ bs) r own in
            let same : own.known ≡ k = same_some known own.known k w.0 e in
            let spelled : (g.language p.file).spells k n (b ∷ bs) own.item = subst (λ (m : ℕ). (g.language p.file).spells k m (b ∷ bs) own.item) (sym here) (subst (λ (j : K). (g.language p.file).spells j (line_number p) (b ∷ bs) own.item) same own.spells) in
            let item : own.item ≡ says.0 = (lawful.exact p.file).one_item k n (b ∷ bs) own.item says.0 spelled says.1 in
            let one = subst (λ (xs : List T). Runs (RowTakes takes) p.file s xs to) says.2 run in
            hears.passes s.sink one.0.sink p.file says.0 at.done at.mine r at.tells one.1.1 (subst (λ (x : T). g.rules.own p.file at.done at.mine x r) item w.1)

        by_check : FirstOf (line_checks g p (b ∷ bs)) r → ⊥
        by_check (inl large) = within large.0
        by_check (inr (c0, inl marked)) = not_both (begins_with_mark (b ∷ bs)) marked.0 read.0.0
        by_check (inr (c0, inr (c1, inl broken))) = broken.0 read.0.1
        by_check (inr (c0, inr (c1, inr (c2, inl none)))) = headed known refl read.1 none
        by_check (inr (c0, inr (c1, inr (c2, inr (c3, inl col))))) = columned known refl read.1 col
        by_check (inr (c0, inr (c1, inr (c2, inr (c3, inr (c4, inl many)))))) = counts known refl read.1 many
        by_check (inr (c0, inr (c1, inr (c2, inr (c3, inr (c4, inr (c5, inl own))))))) = owns known refl read.1 own
        by_check (inr (c0, inr (c1, inr (c2, inr (c3, inr (c4, inr (c5, inr none))))))) = none.1

    -- what a line is refused for is what is wrong with it
    pub line_bad : (n : ℕ) (line : List ℕ) (r : Refusal) → n ≡ line_number p → RefusesLine (g.language p.file) (RowRefuses refuses) p.file known s n line r → ¬ IsBeyond p.bytes p.size p.before line
        → FirstOf (line_checks g p line) r
    line_bad n [] r here bad within = absurd (bad.0 refl)
    line_bad n (b ∷ bs) r here bad within =
        inr (λ q large. within large.0, elim bad.1 [ inl text ↦ by_text text | inr own ↦ by_line own.0 own.1 ])
      where
        unmarked : begins_with_mark (b ∷ bs) ≡ false → (q : Refusal) → ¬ IsMarked p (b ∷ bs) q
        unmarked h q m = not_both (begins_with_mark (b ∷ bs)) m.0 h

        by_text : RefusesText p.file n (b ∷ bs) r → FirstOf (drop 1 (line_checks g p (b ∷ bs))) r
        by_text (inl h) = inl (h.0, h.1 ∙ ap (λ (m : ℕ). BadLine p.file m 1) here)
        by_text (inr (mark, inl h)) = inr (λ q m. mark (BadLine p.file n 1) (m.0, refl), inl (h.0, h.1 ∙ ap (NotUtf8 p.file) here))
        by_text (inr (mark, inr h)) = absurd h.1

        placed : (column : ℕ) → r ≡ BadLine p.file n column → r ≡ BadLine p.file (line_number p) column
        placed column e = e ∙ ap (λ (m : ℕ). BadLine p.file m column) here

        no_header : (k : K) → known ≡ Some k → (q : Refusal) → ¬ HasBadHeader g p (b ∷ bs) q
        no_header k e q h = none_some known k (knows_same None h.0) e

        by_sink : (k : K) → known ≡ Some k → (x : T) → (g.language p.file).spells k n (b ∷ bs) x → RowRefuses refuses s p.file x r → FirstOf (IsRowTooMany g p ∷ FailsOwn g p (b ∷ bs) ∷ []) r
        by_sink k e x spells (inl many) = inl (k, subst (λ (o : Option K). KnownAt g p o) e knows, full_here many.0, many.1)
        by_sink k e x spells (inr (room, inr own)) = absurd own.1
        by_sink k e x spells (inr (room, inl own)) =
            inr (
              λ q many. room (TooMany Rows) (full_there many.2, refl),
              inl (record {
                done = at.done;
                said = at.said;
                mine = at.mine;
                known = k;
                says = subst (λ (o : Option K). LinesSay g p.file p.before at.mine o) e at.says;
                item = x;
                spells = subst (λ (m : ℕ). (g.language p.file).spells k m (b ∷ bs) x) here spells;
                fails = hears.bad s.sink p.file x at.done at.mine r at.tells own;
              }),
            )

        by_known : (o : Option K) → known ≡ o → RefusesAs (g.language p.file) (RowRefuses refuses) p.file o s n (b ∷ bs) r
            → FirstOf (HasBadHeader g p (b ∷ bs) ∷ HasBadColumn g p (b ∷ bs) ∷ IsRowTooMany g p ∷ FailsOwn g p (b ∷ bs) ∷ []) r
        by_known None e h = inl (subst (λ (o : Option K). KnownAt g p o) e knows, h.0, h.1, placed h.0 h.2)
        by_known (Some k) e (inl h) = inr (no_header k e, inl (k, subst (λ (o : Option K). KnownAt g p o) e knows, h.0, h.1, placed h.0 h.2))
        by_known (Some k) e (inr h) =
            inr (
              no_header k e,
              inr (
                λ q col.
                    let same : k ≡ col.0 = same_some known k col.0 e (knows_same (Some col.0) col.1) in
                    (lawful.exact p.file).good_item col.0 n (b ∷ bs) h.0 col.2 (subst (λ (j : K). (g.language p.file).spells j n (b ∷ bs) h.0) same h.1) col.3,
                by_sink k e h.0 h.1 h.2,
              ),
            )

        by_line : IsText (b ∷ bs) → RefusesAs (g.language p.file) (RowRefuses refuses) p.file known s n (b ∷ bs) r → FirstOf (drop 1 (line_checks g p (b ∷ bs))) r
        by_line text h = inr (unmarked text.0, inr (λ q broken. broken.0 text.1, by_known known refl h))
