-- The parts of the line of each command.
use Rattle.std.proofs.Common.{◌≡◌, ◌<◌, ℕ, ◌↔◌, List, [], ◌∷◌, length, Bool, IsTrue, Option, get_or, refl, sym, subst, ap, ◌∙◌, arith, Bor, codes}
use Rattle.std.proofs.lemmas.List.{length-map}
use Rattle.std.specs.Option.{MatchOption, is_some}
use Rattle.snb_schema.specs.Frequencies.{FrequencyTable}
use Rattle.snb_schema.specs.declared.query.Query.{Query}
use Rattle.snb_tool_words.specs.declared.command.Command.TheVariants.{Check, Run, Audit, Latency, Expect, Validate, Read, Walk, Trial}
use Rattle.snb_tool_words.specs.declared.options.OptionName.{OptionName}
use Rattle.snb_tool_words.specs.declared.options.OptionName.TheVariants.{Workers, Ratio, Frequencies, Via, Chance, Words}
use Rattle.snb_ratio.specs.Chances.{SpellsChance}
use Rattle.snb_ratio.specs.Ratios.{SpellsRatio}
use Rattle.snb_tool_words.specs.declared.options.Via.TheVariants.{Graph}
use Rattle.snb_tool_words.specs.Commands.{AreOf, IsReadOf, IsTrialOf}
use Rattle.snb_tool_words.specs.Options.{AreSuited, OptionWords, OptionSays, SaysFrequencies, SaysVia, SaysWorkers, SpellsWords, no_frequencies}
use Rattle.snb_tool_words.specs.Taken.{AreSome, AreValues, HaveRead, SaysSize}
use Rattle.snb_tool_words.specs.Words.{texts_of}
use Rattle.snb_tool_words.proofs.CommandLemmas.{at_audit, at_check, at_expect, at_latency, at_read, at_run, at_trial, at_validate, at_walk}
use Rattle.snb_tool_words.proofs.OptionLemmas.{must_some, says_some, tells}

-- so many plain words, and suited options
abbrev pub Suits : List (Bor (List ℕ)) → OptionWords → ℕ → List OptionName → List OptionName → Type 0
Suits ws given places admitted needed = (length ws ≡ places) × AreSuited admitted needed given

as_long : (ws : List (Bor (List ℕ))) (plain : List (List ℕ)) → texts_of ws ≡ plain → length ws ≡ length plain
as_long ws plain e = sym (length-map ws (λ (w : Bor (List ℕ)). w.now)) ∙ ap length e

-- a test of the parts under a name is one under its text
by_name : (name own : List ℕ) (plain : List (List ℕ)) (given : OptionWords) (P : Type 0) (r : Bool) → name ≡ own → (P → AreSome own plain given) → (AreSome own plain given → P) → (IsTrue r ↔ P)
    → IsTrue r ↔ AreSome name plain given
by_name name own plain given P r e there back iff = (
  λ t. subst (λ (n : List ℕ). AreSome n plain given) (sym e) (there (iff.0 t)),
  λ some. iff.1 (back (subst (λ (n : List ℕ). AreSome n plain given) e some)),
)

one_word : (ws : List (Bor (List ℕ))) → length ws ≡ 1 → (x : List ℕ) × (texts_of ws ≡ x ∷ [])
one_word [] e = absurd (omega (arith, e))
one_word (x ∷ []) e = (x.now, refl)
one_word (x ∷ y ∷ ws) e = absurd (omega (arith, e))

two_words : (ws : List (Bor (List ℕ))) → length ws ≡ 2 → (x y : List ℕ) × (texts_of ws ≡ x ∷ y ∷ [])
two_words [] e = absurd (omega (arith, e))
two_words (x ∷ []) e = absurd (omega (arith, e))
two_words (x ∷ y ∷ []) e = (x.now, y.now, refl)
two_words (x ∷ y ∷ z ∷ ws) e = absurd (omega (arith, e))

module _ (name : List ℕ) (ws : List (Bor (List ℕ))) (given : OptionWords) (values : AreValues given) (r : Bool) where
  -- what the options say
  table : (t : FrequencyTable) × OptionSays SaysFrequencies no_frequencies (given Frequencies) t
  table = says_some SaysFrequencies no_frequencies (given Frequencies) (values Frequencies)

  ratio : (n : ℕ) × OptionSays SpellsRatio 1000000 (given Ratio) n
  ratio = says_some SpellsRatio 1000000 (given Ratio) (values Ratio)

  pub check_parts : name ≡ codes "check" → (IsTrue r ↔ Suits ws given 1 (Frequencies ∷ []) []) → IsTrue r ↔ AreSome name (texts_of ws) given
  check_parts e = by_name name (codes "check") (texts_of ws) given (Suits ws given 1 (Frequencies ∷ []) []) r e
      (λ s. let w = one_word ws s.0 in (Check w.0 table.0, record { named = refl; suited = s.1; is_said = (w.1, table.1) }))
      (λ p. at_check (λ c. AreOf c (codes "check") (texts_of ws) given → Suits ws given 1 (Frequencies ∷ []) []) (λ folder table are. (as_long ws _ are.is_said.0, are.suited)) p.0 p.1.named p.1)

  pub expect_parts : name ≡ codes "expect" → (IsTrue r ↔ Suits ws given 1 (Frequencies ∷ []) []) → IsTrue r ↔ AreSome name (texts_of ws) given
  expect_parts e = by_name name (codes "expect") (texts_of ws) given (Suits ws given 1 (Frequencies ∷ []) []) r e
      (λ s. let w = one_word ws s.0 in (Expect w.0 table.0, record { named = refl; suited = s.1; is_said = (w.1, table.1) }))
      (λ p. at_expect (λ c. AreOf c (codes "expect") (texts_of ws) given → Suits ws given 1 (Frequencies ∷ []) []) (λ folder table are. (as_long ws _ are.is_said.0, are.suited)) p.0 p.1.named p.1)

  pub run_parts : name ≡ codes "run" → (IsTrue r ↔ Suits ws given 1 (Workers ∷ Ratio ∷ Frequencies ∷ []) (Workers ∷ [])) → IsTrue r ↔ AreSome name (texts_of ws) given
  run_parts e = by_name name (codes "run") (texts_of ws) given (Suits ws given 1 (Workers ∷ Ratio ∷ Frequencies ∷ []) (Workers ∷ [])) r e
      (λ s. let w = one_word ws s.0 in let n = must_some SaysWorkers (given Workers) ((s.1 Workers).1 (0, omega arith, refl)) (values Workers) in
      (Run w.0 n.0 ratio.0 table.0, record { named = refl; suited = s.1; is_said = (w.1, n.1, ratio.1, table.1) }))
      (λ p. at_run (λ c. AreOf c (codes "run") (texts_of ws) given → Suits ws given 1 (Workers ∷ Ratio ∷ Frequencies ∷ []) (Workers ∷ []))
      (λ folder workers ratio table are. (as_long ws _ are.is_said.0, are.suited)) p.0 p.1.named p.1)

  pub audit_parts : name ≡ codes "audit" → (IsTrue r ↔ Suits ws given 2 (Ratio ∷ Frequencies ∷ []) []) → IsTrue r ↔ AreSome name (texts_of ws) given
  audit_parts e = by_name name (codes "audit") (texts_of ws) given (Suits ws given 2 (Ratio ∷ Frequencies ∷ []) []) r e
      (λ s. let w = two_words ws s.0 in (Audit w.0 w.1 ratio.0 table.0, record { named = refl; suited = s.1; is_said = (w.2, ratio.1, table.1) }))
      (λ p. at_audit (λ c. AreOf c (codes "audit") (texts_of ws) given → Suits ws given 2 (Ratio ∷ Frequencies ∷ []) [])
      (λ folder log ratio table are. (as_long ws _ are.is_said.0, are.suited)) p.0 p.1.named p.1)

  pub latency_parts : name ≡ codes "latency" → (IsTrue r ↔ Suits ws given 2 (Ratio ∷ Frequencies ∷ []) []) → IsTrue r ↔ AreSome name (texts_of ws) given
  latency_parts e = by_name name (codes "latency") (texts_of ws) given (Suits ws given 2 (Ratio ∷ Frequencies ∷ []) []) r e
      (λ s. let w = two_words ws s.0 in (Latency w.0 w.1 ratio.0 table.0, record { named = refl; suited = s.1; is_said = (w.2, ratio.1, table.1) }))
      (λ p. at_latency (λ c. AreOf c (codes "latency") (texts_of ws) given → Suits ws given 2 (Ratio ∷ Frequencies ∷ []) [])
      (λ folder log ratio table are. (as_long ws _ are.is_said.0, are.suited)) p.0 p.1.named p.1)

  pub validate_parts : name ≡ codes "validate" → (IsTrue r ↔ Suits ws given 2 (Via ∷ []) []) → IsTrue r ↔ AreSome name (texts_of ws) given
  validate_parts e = by_name name (codes "validate") (texts_of ws) given (Suits ws given 2 (Via ∷ []) []) r e
      (λ s. let w = two_words ws s.0 in let via = says_some SaysVia Graph (given Via) (values Via) in
      (Validate w.0 w.1 via.0, record { named = refl; suited = s.1; is_said = (w.2, via.1) }))
      (λ p. at_validate (λ c. AreOf c (codes "validate") (texts_of ws) given → Suits ws given 2 (Via ∷ []) []) (λ folder cases via are. (as_long ws _ are.is_said.0, are.suited)) p.0 p.1.named p.1)

-- the kind and the parameters of a read stand after its folder
same_read : (all : List (List ℕ)) (x k f kind : List ℕ) (rest ps : List (List ℕ)) (query : Query) → all ≡ x ∷ k ∷ rest → all ≡ f ∷ kind ∷ ps → IsReadOf kind ps query → IsReadOf k rest query
same_read all x k f kind rest ps query a b read =
    let e = sym b ∙ a in
    let kinds : kind ≡ k = cc in
    let parameters : ps ≡ rest = cc in
    subst (λ (w : List ℕ). IsReadOf w rest query) kinds (subst (λ (t : List (List ℕ)). IsReadOf kind t query) parameters read)

-- fewer than two words have no read
pub no_read : {A : Type 0} (ws : List (Bor (List ℕ))) → length ws < 2 → HaveRead (texts_of ws) → A
no_read ws few read = let long = as_long ws _ read.4 in absurd (omega arith)

-- what tells whether the words after the first are a read tells whether all have one
pub read_test : (plain : List (List ℕ)) (given : OptionWords) (options : List OptionName) (x k : List ℕ) (rest : List (List ℕ)) (r : Bool) → plain ≡ x ∷ k ∷ rest → AreSuited options options given
    → (IsTrue r ↔ ((query : Query) × IsReadOf k rest query)) → IsTrue r ↔ (AreSuited options options given × HaveRead plain)
read_test plain given options x k rest r e suited iff = (
  λ t. let q = iff.0 t in (suited, (x, k, rest, q.0, e, q.1)),
  λ p. let read = p.1 in iff.1 (read.3, same_read plain x k read.0 read.1 rest read.2 read.3 e read.4 read.5),
)

-- a line that has a read is that of a read, and with the options of a walk that of a walk
module _ (name : List ℕ) (plain : List (List ℕ)) (given : OptionWords) (values : AreValues given) (r : Bool) where
  pub read_parts : name ≡ codes "read" → (IsTrue r ↔ (AreSuited [] [] given × HaveRead plain)) → IsTrue r ↔ AreSome name plain given
  read_parts e = by_name name (codes "read") plain given (AreSuited [] [] given × HaveRead plain) r e
      (λ s. let read = s.1 in (Read read.0 read.3, record { named = refl; suited = s.0; is_said = (read.1, read.2, read.4, read.5) }))
      (λ p. at_read (λ c. AreOf c (codes "read") plain given → AreSuited [] [] given × HaveRead plain)
      (λ folder query are. (are.suited, (folder, are.is_said.0, are.is_said.1, query, are.is_said.2, are.is_said.3))) p.0 p.1.named p.1)

  pub walk_parts : name ≡ codes "walk" → (IsTrue r ↔ (AreSuited (Chance ∷ Words ∷ []) (Chance ∷ Words ∷ []) given × HaveRead plain)) → IsTrue r ↔ AreSome name plain given
  walk_parts e = by_name name (codes "walk") plain given (AreSuited (Chance ∷ Words ∷ []) (Chance ∷ Words ∷ []) given × HaveRead plain) r e
      (λ s.
      let read = s.1 in
      let chance = must_some SpellsChance (given Chance) ((s.0 Chance).1 (0, omega arith, refl)) (values Chance) in
      let words = must_some SpellsWords (given Words) ((s.0 Words).1 (1, omega arith, refl)) (values Words) in
      (Walk read.0 read.3 chance.0 words.0, record { named = refl; suited = s.0; is_said = (read.1, read.2, read.4, read.5, chance.1, words.1) }))
      (λ p. at_walk (λ c. AreOf c (codes "walk") plain given → AreSuited (Chance ∷ Words ∷ []) (Chance ∷ Words ∷ []) given × HaveRead plain)
      (λ folder query chance words are. (are.suited, (folder, are.is_said.0, are.is_said.1, query, are.is_said.2, are.is_said.3))) p.0 p.1.named p.1)

-- the size and the number of workers of a trial are its plain words
same_trial : (all : List (List ℕ)) (x y first second : List ℕ) (size workers : ℕ) → all ≡ x ∷ y ∷ [] → all ≡ first ∷ second ∷ [] → IsTrialOf first second size workers → IsTrialOf x y size workers
same_trial all x y first second size workers a b said =
    let e = sym b ∙ a in
    let firsts : first ≡ x = cc in
    let seconds : second ≡ y = cc in
    subst (λ (w : List ℕ). IsTrialOf w y size workers) firsts (subst (λ (w : List ℕ). IsTrialOf first w size workers) seconds said)

pub trial_parts : (plain : List (List ℕ)) (given : OptionWords) (x y : List ℕ) (r : Bool) → plain ≡ x ∷ y ∷ [] → AreSuited [] [] given
    → (IsTrue r ↔ ((size workers : ℕ) × IsTrialOf x y size workers)) → IsTrue r ↔ AreSome (codes "trial") plain given
trial_parts plain given x y r e suited iff = (
  λ t. let q = iff.0 t in (Trial q.0 q.1, record { named = refl; suited = suited; is_said = (x, y, e, q.2) }),
  λ p. at_trial (λ c. AreOf c (codes "trial") plain given → IsTrue r)
      (λ size workers are. iff.1 (size, workers, same_trial plain x y are.is_said.0 are.is_said.1 size workers e are.is_said.2 are.is_said.3)) p.0 p.1.named p.1,
)

-- so two words of which the first says a size are those of a trial where the second says a number of workers
pub trial_test : (ws : List (Bor (List ℕ))) (given : OptionWords) (d : Bor (List ℕ)) (s w : Option ℕ) → length ws ≡ 2 → AreSuited [] [] given
    → MatchOption s ((n : ℕ) → ¬ SaysSize (get_or ws 0 d).now n) (SaysSize (get_or ws 0 d).now) → IsTrue (is_some s)
    → MatchOption w ((n : ℕ) → ¬ SaysWorkers (get_or ws 1 d).now n) (SaysWorkers (get_or ws 1 d).now)
    → IsTrue (is_some w) ↔ AreSome (codes "trial") (texts_of ws) given
trial_test [] given d s w two suited size there crew = absurd (omega (arith, two))
trial_test (x ∷ []) given d s w two suited size there crew = absurd (omega (arith, two))
trial_test (x ∷ y ∷ []) given d s w two suited size there crew =
    let first = (tells SaysSize x.now s size).0 there in
    let iff = tells SaysWorkers y.now w crew in
    trial_parts (texts_of (x ∷ y ∷ [])) given x.now y.now (is_some w) refl suited (λ t. let n = iff.0 t in (first.0, n.0, (first.1, n.1)), λ p. iff.1 (p.1, p.2.1))
trial_test (x ∷ y ∷ z ∷ ws) given d s w two suited size there crew = absurd (omega (arith, two))
