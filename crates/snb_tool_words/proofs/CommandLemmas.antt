-- Facts on the lines of commands.
use Rattle.std.proofs.Common.{◌≡◌, ℕ, List, ◌∷◌, Result, Ok, Err, IfOk, sym, subst, ap, ◌∙◌, rules, codes}
use Rattle.snb_base.specs.Spellings.{value_after}
use Rattle.snb_ratio.specs.Ratios.{OneRatio, SpellsRatio}
use Rattle.snb_ratio.specs.Chances.{ChanceFall, OneChance, SpellsChance}
use Rattle.snb_schema.specs.Frequencies.{FrequenciesAreOne, FrequencyTable}
use Rattle.snb_schema.specs.declared.query.Query.{Query}
use Rattle.snb_tool_words.specs.declared.command.Command.{Command}
use Rattle.snb_tool_words.specs.declared.command.Command.TheVariants.{Check, Run, Audit, Latency, Expect, Validate, Read, Walk, Trial}
use Rattle.snb_tool_words.specs.declared.options.OptionName.TheVariants as names
use Rattle.snb_tool_words.specs.declared.options.Via.{Via}
use Rattle.snb_tool_words.specs.declared.options.Via.TheVariants.{Graph}
use Rattle.snb_columns.specs.Laws.{OneList}
use Rattle.snb_tool_words.specs.Commands.{AreOf, IsLineOf, IsOtherLine, IsReadOf, form_of}
use Rattle.snb_tool_words.specs.CommandFacts.{IsRunnable}
use Rattle.snb_tool_words.specs.Laws.{WordsAreOne}
use Rattle.snb_tool_words.specs.Options.{OptionWords, OptionSays, SaysFrequencies, SaysVia, SaysWorkers, SpellsWords, no_frequencies}
use Rattle.snb_tool_words.specs.Words.{AreLineWords}
use Rattle.snb_tool_words.proofs.LineLemmas.{line_one}
use Rattle.snb_tool_words.proofs.ReadLemmas.{one_read}
use Rattle.snb_tool_words.proofs.OptionLemmas.{bounded, frequencies_one, must_one, says_one, via_one, words_one, workers_one}

-- what follows from what holds of a value holds of it
pub ok_then : {A E : Type 0} (P Q : A → Type 0) (r : Result A E) → ((a : A) → P a → Q a) → IfOk r P → IfOk r Q
ok_then P Q (Ok a) then p = then a p
ok_then P Q (Err e) then p = tt

-- where the parts are those of a command, the words are its line
pub not_other : (words : List (List ℕ)) (name : List ℕ) (plain : List (List ℕ)) (given : OptionWords) → AreLineWords words name plain given
    → (command : Command) × AreOf command name plain given → ¬ IsOtherLine words
not_other words name plain given line p other = other p.0 (record { name = name; plain = plain; given = given; line = line; are = p.1 })

-- where the parts of the words are those of no command, the words are no line
pub no_parts : (words : List (List ℕ)) (name : List ℕ) (plain : List (List ℕ)) (given : OptionWords) → AreLineWords words name plain given
    → ((command : Command) → ¬ AreOf command name plain given) → IsOtherLine words
no_parts words name plain given line none command other =
    let one = line_one words name other.name plain other.plain given other.given line other.line in
    none command (subst (λ (g : OptionWords). AreOf command name plain g) (sym one.2) (subst (λ (p : List (List ℕ)). AreOf command name p other.given) (sym one.1)
    (subst (λ (n : List ℕ). AreOf command n other.plain other.given) (sym one.0) other.are)))

-- a run that words say has a number of workers
pub runnable : (words : List (List ℕ)) (command : Command) → IsLineOf words command → IsRunnable command
runnable words (Check folder table) line = tt
runnable words (Run folder workers ratio table) line = bounded (line.given names.Workers) workers line.are.is_said.1
runnable words (Audit folder log ratio table) line = tt
runnable words (Latency folder log ratio table) line = tt
runnable words (Expect folder table) line = tt
runnable words (Validate folder cases via) line = tt
runnable words (Read folder query) line = tt
runnable words (Walk folder query chance steps) line = tt
runnable words (Trial size workers) line =
    let said = line.are.is_said in (said.3.0.1, said.3.0.0.small, said.3.1.1, said.3.1.0.small)

-- what holds of each command of a name holds of the one whose name it is
module _ (P : Command → Type 0) where
  pub at_check : ((folder : List ℕ) (table : FrequencyTable) → P (Check folder table)) → (command : Command) → codes "check" ≡ (form_of command).name → P command
  at_check each command named = search rules

  pub at_run : ((folder : List ℕ) (workers ratio : ℕ) (table : FrequencyTable) → P (Run folder workers ratio table)) → (command : Command) → codes "run" ≡ (form_of command).name → P command
  at_run each command named = search rules

  pub at_audit : ((folder log : List ℕ) (ratio : ℕ) (table : FrequencyTable) → P (Audit folder log ratio table)) → (command : Command) → codes "audit" ≡ (form_of command).name → P command
  at_audit each command named = search rules

  pub at_latency : ((folder log : List ℕ) (ratio : ℕ) (table : FrequencyTable) → P (Latency folder log ratio table)) → (command : Command) → codes "latency" ≡ (form_of command).name → P command
  at_latency each command named = search rules

  pub at_expect : ((folder : List ℕ) (table : FrequencyTable) → P (Expect folder table)) → (command : Command) → codes "expect" ≡ (form_of command).name → P command
  at_expect each command named = search rules

  pub at_validate : ((folder cases : List ℕ) (via : Via) → P (Validate folder cases via)) → (command : Command) → codes "validate" ≡ (form_of command).name → P command
  at_validate each command named = search rules

  pub at_read : ((folder : List ℕ) (query : Query) → P (Read folder query)) → (command : Command) → codes "read" ≡ (form_of command).name → P command
  at_read each command named = search rules

  pub at_walk : ((folder : List ℕ) (query : Query) (chance : ChanceFall) (words : List ℕ) → P (Walk folder query chance words)) → (command : Command) → codes "walk" ≡ (form_of command).name → P command
  at_walk each command named = search rules

  pub at_trial : ((size workers : ℕ) → P (Trial size workers)) → (command : Command) → codes "trial" ≡ (form_of command).name → P command
  at_trial each command named = search rules

module _ (ratios : OneRatio) (chances : OneChance) (tables : FrequenciesAreOne) (list : OneList) where
  -- the frequencies, the ratio, the workers and the rest that options say are one
  tables_one : (given : OptionWords) (a b : FrequencyTable) → OptionSays SaysFrequencies no_frequencies (given names.Frequencies) a → OptionSays SaysFrequencies no_frequencies (given names.Frequencies) b → a ≡ b
  tables_one given = says_one SaysFrequencies (frequencies_one tables) no_frequencies (given names.Frequencies)

  ratios_one : (given : OptionWords) (a b : ℕ) → OptionSays SpellsRatio 1000000 (given names.Ratio) a → OptionSays SpellsRatio 1000000 (given names.Ratio) b → a ≡ b
  ratios_one given = says_one SpellsRatio ratios 1000000 (given names.Ratio)

  -- and so is the read that plain words are
  reads_one : (plain : List (List ℕ)) (f g k l : List ℕ) (ps qs : List (List ℕ)) (r s : Query) → plain ≡ f ∷ k ∷ ps → plain ≡ g ∷ l ∷ qs → IsReadOf k ps r → IsReadOf l qs s → r ≡ s
  reads_one plain f g k l ps qs r s a b x y =
      let e = sym a ∙ b in
      let kinds : k ≡ l = cc in
      let parameters : ps ≡ qs = cc in
      one_read list k ps r s x (subst (λ (w : List ℕ). IsReadOf w ps s) (sym kinds) (subst (λ (t : List (List ℕ)). IsReadOf l t s) (sym parameters) y))

  -- the parts of a line are those of one command
  parts_one : (name : List ℕ) (plain : List (List ℕ)) (given : OptionWords) (c d : Command) → AreOf c name plain given → AreOf d name plain given → c ≡ d
  parts_one name plain given (Check f s) d x y = at_check (λ (d : Command). AreOf d name plain given → Check f s ≡ d)
      (λ g t y.
      let folders : f ≡ g = cc (x.is_said.0, y.is_said.0) in
      let tables = tables_one given s t x.is_said.1 y.is_said.1 in
      λ i. Check (folders i) (tables i))
      d (sym x.named ∙ y.named) y
  parts_one name plain given (Expect f s) d x y = at_expect (λ (d : Command). AreOf d name plain given → Expect f s ≡ d)
      (λ g t y.
      let folders : f ≡ g = cc (x.is_said.0, y.is_said.0) in
      let tables = tables_one given s t x.is_said.1 y.is_said.1 in
      λ i. Expect (folders i) (tables i))
      d (sym x.named ∙ y.named) y
  parts_one name plain given (Run f n a s) d x y = at_run (λ (d : Command). AreOf d name plain given → Run f n a s ≡ d)
      (λ g m b t y.
      let folders : f ≡ g = cc (x.is_said.0, y.is_said.0) in
      let workers = must_one SaysWorkers workers_one (given names.Workers) n m x.is_said.1 y.is_said.1 in
      let ratios = ratios_one given a b x.is_said.2 y.is_said.2 in
      let tables = tables_one given s t x.is_said.3 y.is_said.3 in
      λ i. Run (folders i) (workers i) (ratios i) (tables i))
      d (sym x.named ∙ y.named) y
  parts_one name plain given (Audit f l a s) d x y = at_audit (λ (d : Command). AreOf d name plain given → Audit f l a s ≡ d)
      (λ g k b t y.
      let folders : f ≡ g = cc (x.is_said.0, y.is_said.0) in
      let logs : l ≡ k = cc (x.is_said.0, y.is_said.0) in
      let ratios = ratios_one given a b x.is_said.1 y.is_said.1 in
      let tables = tables_one given s t x.is_said.2 y.is_said.2 in
      λ i. Audit (folders i) (logs i) (ratios i) (tables i))
      d (sym x.named ∙ y.named) y
  parts_one name plain given (Latency f l a s) d x y = at_latency (λ (d : Command). AreOf d name plain given → Latency f l a s ≡ d)
      (λ g k b t y.
      let folders : f ≡ g = cc (x.is_said.0, y.is_said.0) in
      let logs : l ≡ k = cc (x.is_said.0, y.is_said.0) in
      let ratios = ratios_one given a b x.is_said.1 y.is_said.1 in
      let tables = tables_one given s t x.is_said.2 y.is_said.2 in
      λ i. Latency (folders i) (logs i) (ratios i) (tables i))
      d (sym x.named ∙ y.named) y
  parts_one name plain given (Validate f l v) d x y = at_validate (λ (d : Command). AreOf d name plain given → Validate f l v ≡ d)
      (λ g k w y.
      let folders : f ≡ g = cc (x.is_said.0, y.is_said.0) in
      let logs : l ≡ k = cc (x.is_said.0, y.is_said.0) in
      let vias = says_one SaysVia via_one Graph (given names.Via) v w x.is_said.1 y.is_said.1 in
      λ i. Validate (folders i) (logs i) (vias i))
      d (sym x.named ∙ y.named) y
  parts_one name plain given (Read f r) d x y = at_read (λ (d : Command). AreOf d name plain given → Read f r ≡ d)
      (λ g s y.
      let folders : f ≡ g = cc (x.is_said.2, y.is_said.2) in
      let reads = reads_one plain f g x.is_said.0 y.is_said.0 x.is_said.1 y.is_said.1 r s x.is_said.2 y.is_said.2 x.is_said.3 y.is_said.3 in
      λ i. Read (folders i) (reads i))
      d (sym x.named ∙ y.named) y
  parts_one name plain given (Walk f r p ns) d x y = at_walk (λ (d : Command). AreOf d name plain given → Walk f r p ns ≡ d)
      (λ g s q ms y.
      let folders : f ≡ g = cc (x.is_said.2, y.is_said.2) in
      let reads = reads_one plain f g x.is_said.0 y.is_said.0 x.is_said.1 y.is_said.1 r s x.is_said.2 y.is_said.2 x.is_said.3 y.is_said.3 in
      let falls = must_one SpellsChance chances (given names.Chance) p q x.is_said.4 y.is_said.4 in
      let numbers = must_one SpellsWords words_one (given names.Words) ns ms x.is_said.5 y.is_said.5 in
      λ i. Walk (folders i) (reads i) (falls i) (numbers i))
      d (sym x.named ∙ y.named) y
  parts_one name plain given (Trial n w) d x y = at_trial (λ (d : Command). AreOf d name plain given → Trial n w ≡ d)
      (λ m v y.
      let e = sym x.is_said.2 ∙ y.is_said.2 in
      let firsts : x.is_said.0 ≡ y.is_said.0 = cc in
      let seconds : x.is_said.1 ≡ y.is_said.1 = cc in
      let sizes : n ≡ m = x.is_said.3.0.0.value ∙ (ap (λ (t : List ℕ). value_after 0 t) firsts ∙ sym y.is_said.3.0.0.value) in
      let crews : w ≡ v = x.is_said.3.1.0.value ∙ (ap (λ (t : List ℕ). value_after 0 t) seconds ∙ sym y.is_said.3.1.0.value) in
      λ i. Trial (sizes i) (crews i))
      d (sym x.named ∙ y.named) y

  pub one_command : WordsAreOne
  one_command words c d x y =
      let one = line_one words x.name y.name x.plain y.plain x.given y.given x.line y.line in
      parts_one x.name x.plain x.given c d x.are
      (subst (λ (g : OptionWords). AreOf d x.name x.plain g) (sym one.2) (subst (λ (p : List (List ℕ)). AreOf d x.name p y.given) (sym one.1)
      (subst (λ (n : List ℕ). AreOf d n y.plain y.given) (sym one.0) y.are)))
