-- The series of a stage, one after the other, and the files that were found.
use Rattle.std.proofs.Common.{◌≡◌, ◌∙◌, ◌+◌, ◌*◌, ◌^◌, ◌<◌, ◌≤◌, ℕ, zero, suc, true, false, eqb, cond, List, [], ◌∷◌, ◌++◌, Option, Some, None, Ok, Err, length, drop, get_or, refl, sym, ap, subst, arith, append_assoc, append-nil}
use Rattle.std.proofs.Math.Seq.{drop-cons}
use Rattle.std.proofs.lemmas.Bool.Decides.{Decides-eqb}
use Rattle.snb_base.specs.Shelf.{Files}
use Rattle.snb_schema.specs.declared.file.FileKind.TheVariants.{Table}
use Rattle.snb_schema.specs.declared.table.Table.TheVariants as table
use Rattle.snb_input_files.specs.declared.load.Load.{Load}
use Rattle.snb_input_files.specs.declared.load.Load.TheVariants.{Refused, ReadFault, Memory}
use Rattle.snb_input_files.specs.declared.load.Used.{Used}
use Rattle.snb_input_files.specs.declared.series.Series.{Series}
use Rattle.snb_input_files.specs.declared.walk.Walk.{Walk}
use Rattle.snb_input_files.specs.Files.{held_in}
use Rattle.snb_base.specs.FirstOf.{FirstOf}
use Rattle.snb_input_lines.specs.Sinks.{Heard}
use Rattle.snb_input_files.specs.Format.{Format}
use Rattle.snb_input_files.specs.Looking.{Agrees, AreTold, IsSeries, Rises}
use Rattle.snb_input_files.specs.Ranks.{ordinal, rank}
use Rattle.snb_input_files.specs.Stages.{AreRising, IsStage, Walked, before}
use Rattle.snb_input_files.specs.Walk.{Before, Held, IsHeldTold, Look, file_at, stage_looks, walk_checks}
use Rattle.snb_input_files.proofs.WalkFacts.{agrees_back, agrees_front, rises_append, rises_wider, told_append, walk_anyway}

-- what an index past the end would give
abbrev pub no_series : Series
no_series = record { kind = Table table.Place; needed = false; most = 0; what = None }

-- each series of a stage has a number of files that can be counted
pub most_fits : (ss : List Series) (low i : ℕ) → AreRising low ss → i < length ss → (get_or ss i no_series).most < 2 ^ 32
most_fits [] low i r h = absurd (omega arith)
most_fits (s ∷ ss) low zero r h = r.1
most_fits (s ∷ ss) low (suc i) r h = most_fits ss (ordinal s.kind + 1) i r.2 (omega arith)

-- the first look for a file of this rank
find : ℕ → List Look → Option (List ℕ)
find n [] = None
find n (l ∷ ls) = cond (eqb (rank l.file) n) l.held (find n ls)

same_rank : (a : ℕ) → eqb a a ≡ true
same_rank a = grind (arith, Decides-eqb a a)

other_rank : (a b : ℕ) → a < b → eqb a b ≡ false
other_rank a b h = grind (arith, Decides-eqb a b)

-- the files that were found, each by its rank
found_files : List Look → Held
unfolding find
found_files ls = λ file. find (rank file) ls

-- among looks whose ranks rise each is found
finds : (ls ms : List Look) (low high : ℕ) → Rises low ms high → ((n : ℕ) → low ≤ n → find n ls ≡ find n ms) → Agrees (λ file. find (rank file) ls) ms
unfolding find
finds ls [] low high r same = tt
finds ls (m ∷ ms) low high r same = (
  same (rank m.file) r.0 ∙ ap (λ t. cond t m.held (find (rank m.file) ms)) (same_rank (rank m.file)),
  finds ls ms (rank m.file + 1) high r.1 (λ n h. same n (let a = r.0 in omega (arith, a, h)) ∙ ap (λ t. cond t m.held (find n ms)) (other_rank (rank m.file) n (omega (arith, h)))),
)

-- there are files in the folder of which these were found
pub record HeldOf (contents : Option Files) (folder : List ℕ) (ls : List Look) : Type 0 where
  pub held : Held
  pub told : IsHeldTold contents folder held
  pub agrees : Agrees held ls

pub held_of : (contents : Option Files) (folder : List ℕ) (ls : List Look) (low high : ℕ) → Rises low ls high → AreTold contents folder ls → HeldOf contents folder ls
held_of None folder ls low high r t = record { held = λ file. find (rank file) ls; told = tt; agrees = finds ls ls low high r (λ n h. refl) }
held_of (Some files) folder ls low high r t = record { held = held_in folder files; told = λ file. refl; agrees = t }

module _ {P K T : Type 0} (g : Format K T) (heard : Heard P T) (contents : Option Files) (folder : List ℕ) (stage : List Series) (start : Before) where
  -- the files of some series were looked for, and those of these series are left
  pub record Staged (left : List Series) (w : Walk P) : Type 0 where
    pub ls : List Look
    pub low : ℕ
    pub told : AreTold contents folder ls
    pub rises : Rises 0 ls (low * 2 ^ 32)
    pub rising : AreRising low left
    pub all : (held : Held) → Agrees held ls → stage_looks held stage ≡ ls ++ stage_looks held left
    pub walked : Walked g heard start ls w

  nothing_told : (c : Option Files) → AreTold c folder []
  nothing_told None = tt
  nothing_told (Some files) = tt

  pub staged_first : (w : Walk P) → AreRising 0 stage → Walked g heard start [] w → Staged stage w
  staged_first w rising k = record { ls = []; low = 0; told = nothing_told contents; rises = omega arith; rising = rising; all = λ held a. refl; walked = k }

  series_low : (low : ℕ) (s : Series) → low ≤ ordinal s.kind → low * 2 ^ 32 ≤ rank (file_at s 0)
  series_low low s h = omega (arith, h)

  rises_later : (ls : List Look) (low more high : ℕ) → low ≤ more → Rises more ls high → Rises low ls high
  rises_later [] low more high h r = omega (arith, h, r)
  rises_later (l ∷ ls) low more high h r = ((let a = r.0 in omega (arith, h, a)), r.1)

  pub staged_more : (s : Series) (rest : List Series) (old new : Walk P) (k : Staged (s ∷ rest) old) → IsSeries g heard contents folder s start k.ls (Ok new) → Staged rest new
  staged_more s rest old new k (ms, h, walked) =
      record {
        ls = k.ls ++ ms;
        low = ordinal s.kind + 1;
        told = told_append contents folder k.ls ms k.told h.told;
        rises = rises_append k.ls ms 0 (k.low * 2 ^ 32) ((ordinal s.kind + 1) * 2 ^ 32) k.rises (rises_later ms (k.low * 2 ^ 32) (rank (file_at s 0)) ((ordinal s.kind + 1) * 2 ^ 32) (series_low k.low s k.rising.0) (rises_wider ms (rank (file_at s 0)) (rank (file_at s 0) + 2 ^ 32) ((ordinal s.kind + 1) * 2 ^ 32) h.rises (omega arith)));
        rising = k.rising.2;
        all = λ held a.
            k.all held (agrees_front held k.ls ms a) ∙ ap (λ (xs : List Look). k.ls ++ (xs ++ stage_looks held rest)) (h.all held (agrees_back held k.ls ms a)) ∙ sym (append_assoc k.ls ms (stage_looks held rest));
        walked = walked;
      }

  pub staged_err : (s : Series) (rest : List Series) (old : Walk P) (load : Load) (k : Staged (s ∷ rest) old) → IsSeries g heard contents folder s start k.ls (Err load) → IsStage g heard contents folder stage start (Err load)
  staged_err s rest old (Refused r) k (ms, h, bad) =
      let f =
      held_of contents folder (k.ls ++ ms) 0 (rank (file_at s 0) + 2 ^ 32) (rises_append k.ls ms 0 (k.low * 2 ^ 32) (rank (file_at s 0) + 2 ^ 32) k.rises (rises_later ms (k.low * 2 ^ 32) (rank (file_at s 0)) (rank (file_at s 0) + 2 ^ 32) (series_low k.low s k.rising.0) h.rises))
      (told_append contents folder k.ls ms k.told h.told) in
      let more = h.some f.held (agrees_back f.held k.ls ms f.agrees) in
      let full : stage_looks f.held stage ≡ (k.ls ++ ms) ++ (more.0 ++ stage_looks f.held rest) =
      k.all f.held (agrees_front f.held k.ls ms f.agrees) ∙ ap (λ (xs : List Look). k.ls ++ (xs ++ stage_looks f.held rest)) more.1 ∙ ap (λ (xs : List Look). k.ls ++ xs) (append_assoc ms more.0 (stage_looks f.held rest))
      ∙ sym (append_assoc k.ls ms (more.0 ++ stage_looks f.held rest)) in
      (f.held, f.told, subst (λ (ls : List Look). FirstOf (walk_checks g start ls) r) (sym full) (walk_anyway g start (k.ls ++ ms) (more.0 ++ stage_looks f.held rest) r bad))
  staged_err s rest old ReadFault k h = tt
  staged_err s rest old Memory k h = tt

  pub staged_end : (w : Walk P) → Staged [] w → IsStage g heard contents folder stage start (Ok w)
  staged_end w k =
      let f = held_of contents folder k.ls 0 (k.low * 2 ^ 32) k.rises k.told in
      (f.held, f.told, subst (λ (ls : List Look). Walked g heard start ls w) (sym (k.all f.held f.agrees ∙ append-nil k.ls)) k.walked)

-- the series that are left begin with the next one
pub next_series : (ss : List Series) (i : ℕ) → i < length ss → drop i ss ≡ get_or ss i no_series ∷ drop (i + 1) ss
next_series ss i h = drop-cons ss i no_series h ∙ ap (λ (n : ℕ). get_or ss i no_series ∷ drop n ss) (one_on i)
  where
    one_on : (n : ℕ) → suc n ≡ n + 1
    one_on n = omega arith

-- before the first
pub walked_first : {P K T : Type 0} (g : Format K T) (heard : Heard P T) (used : Used) (file_sink : P) → heard file_sink [] [] → Walked g heard (before used) [] (record { used = used; file_sink = file_sink })
walked_first g heard used file_sink fresh = record { clean = tt; bytes_are = refl; rows_are = refl; done = []; said = tt; fresh = fresh }
