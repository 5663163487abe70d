-- Files that are looked for one after the other.
use Rattle.std.proofs.Common.{◌≡◌, ◌∙◌, ◌+◌, ◌≤◌, ℕ, Bool, true, false, List, [], ◌∷◌, ◌++◌, Option, Some, None, Ok, Err, length, refl, sym, ap, subst, inl, arith, append_assoc}
use Rattle.snb_base.specs.Shelf.{Files}
use Rattle.snb_schema.specs.declared.file.FileId.{FileId}
use Rattle.snb_schema.specs.declared.refusal.Refusal.{Refusal}
use Rattle.snb_schema.specs.declared.refusal.Refusal.TheVariants as refusal
use Rattle.snb_schema.specs.FileNames.{name_of}
use Rattle.snb_schema.specs.Lines.{lines}
use Rattle.snb_input_files.specs.declared.found.Found.TheVariants.{Absent, Whole}
use Rattle.snb_input_files.specs.declared.load.Load.{Load}
use Rattle.snb_input_files.specs.declared.load.Load.TheVariants.{Refused, ReadFault, Memory}
use Rattle.snb_input_files.specs.declared.load.Used.{Used}
use Rattle.snb_input_files.specs.declared.walk.Walk.{Walk}
use Rattle.snb_input_files.specs.Files.{held_in}
use Rattle.snb_base.specs.FirstOf.{FirstOf, NoneOf}
use Rattle.snb_input_lines.specs.Sinks.{Heard}
use Rattle.snb_input_files.specs.Format.{Format}
use Rattle.snb_input_files.specs.Loading.{IsAnswer, IsTold}
use Rattle.snb_input_files.specs.Looking.{Agrees, AreTold, IsFileTold, IsLook, Rises, look_of}
use Rattle.snb_input_files.specs.Places.{FileSays, FilesSay, ReadFile, opening, counted_rows}
use Rattle.snb_input_files.specs.PlaceChecks.{file_checks}
use Rattle.snb_input_files.specs.Ranks.{rank}
use Rattle.snb_input_files.specs.Stages.{Walked}
use Rattle.snb_input_files.specs.Walk.{Before, Held, Look, Role, after_look, after_walk, first_role, look_checks, walk_checks, with_file}
use Rattle.snb_input_files.specs.Walk.Role.{Needed, Further}
use Rattle.snb_input_files.proofs.Laws.{first_anyway, first_later, none_append}

-- looks and then more looks
pub agrees_append : (held : Held) (xs ys : List Look) → Agrees held xs → Agrees held ys → Agrees held (xs ++ ys)
agrees_append held [] ys p q = q
agrees_append held (x ∷ xs) ys p q = (p.0, agrees_append held xs ys p.1 q)

pub agrees_front : (held : Held) (xs ys : List Look) → Agrees held (xs ++ ys) → Agrees held xs
agrees_front held [] ys p = tt
agrees_front held (x ∷ xs) ys p = (p.0, agrees_front held xs ys p.1)

pub agrees_back : (held : Held) (xs ys : List Look) → Agrees held (xs ++ ys) → Agrees held ys
agrees_back held [] ys p = p
agrees_back held (x ∷ xs) ys p = agrees_back held xs ys p.1

pub told_append : (contents : Option Files) (folder : List ℕ) (xs ys : List Look) → AreTold contents folder xs → AreTold contents folder ys → AreTold contents folder (xs ++ ys)
told_append None folder xs ys p q = tt
told_append (Some files) folder xs ys p q = agrees_append (held_in folder files) xs ys p q

pub told_one : (contents : Option Files) (folder : List ℕ) (file : FileId) (role : Role) (held : Option (List ℕ)) → IsFileTold contents folder file held → AreTold contents folder (look_of file role held ∷ [])
told_one None folder file role held p = tt
told_one (Some files) folder file role held p = (p, tt)

pub rises_append : (xs ys : List Look) (low mid high : ℕ) → Rises low xs mid → Rises mid ys high → Rises low (xs ++ ys) high
rises_append [] [] low mid high p q = omega (arith, p, q)
rises_append [] (y ∷ ys) low mid high p q = ((let a = q.0 in omega (arith, p, a)), q.1)
rises_append (x ∷ xs) ys low mid high p q = (p.0, rises_append xs ys (rank x.file + 1) mid high p.1 q)

pub rises_wider : (xs : List Look) (low mid high : ℕ) → Rises low xs mid → mid ≤ high → Rises low xs high
rises_wider [] low mid high p q = omega (arith, p, q)
rises_wider (x ∷ xs) low mid high p q = (p.0, rises_wider xs (rank x.file + 1) mid high p.1 q)

-- the checks of looks and then more
module _ {K T : Type 0} (g : Format K T) where
  pub walk_append : (at : Before) (xs ys : List Look) → walk_checks g at (xs ++ ys) ≡ walk_checks g at xs ++ walk_checks g (after_walk g at xs) ys
  walk_append at [] ys = refl
  walk_append at (x ∷ xs) ys =
      ap (λ (cs : List {1} (Refusal → Type 0)). look_checks g at x.file x.role x.held ++ cs) (walk_append (after_look g at x.file x.role x.held) xs ys)
      ∙ sym (append_assoc (look_checks g at x.file x.role x.held) (walk_checks g (after_look g at x.file x.role x.held) xs) (walk_checks g (after_walk g (after_look g at x.file x.role x.held) xs) ys))

  pub after_append : (at : Before) (xs ys : List Look) → after_walk g at (xs ++ ys) ≡ after_walk g (after_walk g at xs) ys
  after_append at [] ys = refl
  after_append at (x ∷ xs) ys = after_append (after_look g at x.file x.role x.held) xs ys

  -- a refusal among the looks stands whatever follows
  pub walk_anyway : (at : Before) (xs ys : List Look) (r : Refusal) → FirstOf (walk_checks g at xs) r → FirstOf (walk_checks g at (xs ++ ys)) r
  walk_anyway at xs ys r p = subst (λ (cs : List {1} (Refusal → Type 0)). FirstOf cs r) (sym (walk_append at xs ys)) (first_anyway (walk_checks g at xs) (walk_checks g (after_walk g at xs) ys) r p)

  -- what the last look is refused for is what the walk is refused for, and where it isn't refused, the walk isn't
  pub snoc_first : (at : Before) (xs : List Look) (file : FileId) (role : Role) (held : Option (List ℕ)) (r : Refusal) → NoneOf (walk_checks g at xs) → FirstOf (look_checks g (after_walk g at xs) file role held) r
      → FirstOf (walk_checks g at (xs ++ look_of file role held ∷ [])) r
  snoc_first at xs file role held r none first =
      subst (λ (cs : List {1} (Refusal → Type 0)). FirstOf cs r) (sym (walk_append at xs (look_of file role held ∷ [])))
      (first_later (walk_checks g at xs) (look_checks g (after_walk g at xs) file role held ++ []) r none (first_anyway (look_checks g (after_walk g at xs) file role held) [] r first))

  pub snoc_none : (at : Before) (xs : List Look) (file : FileId) (role : Role) (held : Option (List ℕ)) → NoneOf (walk_checks g at xs) → NoneOf (look_checks g (after_walk g at xs) file role held)
      → NoneOf (walk_checks g at (xs ++ look_of file role held ∷ []))
  snoc_none at xs file role held none more =
      subst NoneOf (sym (walk_append at xs (look_of file role held ∷ [])))
      (none_append (walk_checks g at xs) (look_checks g (after_walk g at xs) file role held ++ []) none (none_append (look_checks g (after_walk g at xs) file role held) [] more tt))

  -- what files say, and one file more
  pub say_more : (ss : List ReadFile) (xss : List (List T)) (s : ReadFile) (xs : List T) → FilesSay g ss xss → FileSays g s xs → FilesSay g (ss ++ s ∷ []) (xss ++ xs ∷ [])
  say_more [] [] s xs p q = (q, tt)
  say_more [] (ys ∷ xss) s xs p q = absurd p
  say_more (t ∷ ss) [] s xs p q = absurd p
  say_more (t ∷ ss) (ys ∷ xss) s xs p q = (p.0, say_more ss xss s xs p.1 q)

  -- a file that is there is tried, whether it had to be there or not
  there_checks : (at : Before) (file : FileId) (needed : Bool) (b : List ℕ) → look_checks g at file (first_role needed) (Some b) ≡ file_checks g (opening file at.bytes at.rows at.past b) b
  there_checks at file true b = refl
  there_checks at file false b = refl

  there_after : (at : Before) (file : FileId) (needed : Bool) (b : List ℕ) → after_look g at file (first_role needed) (Some b) ≡ with_file g at file b
  there_after at file true b = refl
  there_after at file false b = refl

  module _ {P : Type 0} (heard : Heard P T) (contents : Option Files) (folder path : List ℕ) (file : FileId) (needed : Bool) (start : Before) (looked : List Look) (w : Walk P) (here : path ≡ folder ++ 47 ∷ name_of file) (k : Walked g heard start looked w) where
    abbrev pub at : Before
    at = after_walk g start looked

    -- where the file is, for the bytes and rows that the walk has counted
    placed : (b : List ℕ) → opening file w.used.bytes w.used.rows at.past b ≡ opening file at.bytes at.rows at.past b
    placed b = λ i. opening file (k.bytes_are i) (k.rows_are i) at.past b

    told_here : (held : Option (List ℕ)) → IsTold contents path held → IsFileTold contents folder file held
    told_here held t = subst (λ (p : List ℕ). IsTold contents p held) here t

    -- the loading of the file stops
    pub look_err : (load : Load) → IsAnswer g heard contents path file w.used at.past w.file_sink (Err load) → IsLook g heard contents folder file needed start looked w.used (Err load)
    look_err (Refused r) (b, there, bad) = (
      Some b,
      told_here (Some b) there,
      snoc_first start looked file (first_role needed) (Some b) r k.clean (subst (λ (cs : List {1} (Refusal → Type 0)). FirstOf cs r) (ap (λ p. file_checks g p b) (placed b) ∙ sym (there_checks at file needed b)) bad),
    )
    look_err ReadFault a = tt
    look_err Memory a = tt

    -- it isn't held, and must be
    pub look_missing : (t : P) → IsAnswer g heard contents path file w.used at.past w.file_sink (Ok (Absent t)) → needed ≡ true → IsLook g heard contents folder file needed start looked w.used (Err (Refused (refusal.Absent file)))
    look_missing t a is = (
      None,
      told_here None a.0,
      subst (λ (n : Bool). FirstOf (walk_checks g start (looked ++ look_of file (first_role n) None ∷ [])) (refusal.Absent file)) (sym is) (snoc_first start looked file Needed None (refusal.Absent file) k.clean (inl refl)),
    )

    -- it isn't held
    pub look_absent : (t : P) → IsAnswer g heard contents path file w.used at.past w.file_sink (Ok (Absent t)) → needed ≡ false → IsLook g heard contents folder file needed start looked w.used (Ok (Absent t))
    look_absent t a is = (told_here None a.0, subst (λ (n : Bool). Walked g heard start (looked ++ look_of file (first_role n) None ∷ []) (record { used = w.used; file_sink = t })) (sym is) walked)
      where
        same : at ≡ after_walk g start (looked ++ look_of file Further None ∷ [])
        same = sym (after_append start looked (look_of file Further None ∷ []))

        walked : Walked g heard start (looked ++ look_of file Further None ∷ []) (record { used = w.used; file_sink = t })
        walked = record {
          clean = snoc_none start looked file Further None k.clean tt;
          bytes_are = k.bytes_are ∙ ap (λ (z : Before). z.bytes) same;
          rows_are = k.rows_are ∙ ap (λ (z : Before). z.rows) same;
          done = k.done;
          said = subst (λ (z : Before). FilesSay g z.past k.done) same k.said;
          fresh = subst (λ (z : P). heard z k.done []) (sym a.1) k.fresh;
        }

    -- it is held, and all is taken
    pub look_whole : (t next : P) (now : Used) → IsAnswer g heard contents path file w.used at.past w.file_sink (Ok (Whole t now)) → ((done : List (List T)) (mine : List T) → heard t done mine → heard next (done ++ mine ∷ []) [])
        → IsLook g heard contents folder file needed start looked w.used (Ok (Whole next now))
    look_whole t next now (b, there, bytes, whole) put = (b, told_here (Some b) there, walked)
      where
        same : with_file g at file b ≡ after_walk g start (looked ++ look_of file (first_role needed) (Some b) ∷ [])
        same = sym (after_append start looked (look_of file (first_role needed) (Some b) ∷ []) ∙ there_after at file needed b)

        walked : Walked g heard start (looked ++ look_of file (first_role needed) (Some b) ∷ []) (record { used = now; file_sink = next })
        walked = record {
          clean = snoc_none start looked file (first_role needed) (Some b) k.clean (subst NoneOf (ap (λ p. file_checks g p b) (placed b) ∙ sym (there_checks at file needed b)) whole.clean);
          bytes_are = bytes ∙ ap (λ (n : ℕ). n + length b) k.bytes_are ∙ ap (λ (z : Before). z.bytes) same;
          rows_are = whole.counted ∙ ap (λ (n : ℕ). n + counted_rows g file (lines b)) k.rows_are ∙ ap (λ (z : Before). z.rows) same;
          done = whole.done ++ whole.mine ∷ [];
          said = subst (λ (z : Before). FilesSay g z.past (whole.done ++ whole.mine ∷ [])) same (say_more at.past whole.done (record { file = file; bytes = b }) whole.mine whole.said whole.says);
          fresh = put whole.done whole.mine whole.tells;
        }
