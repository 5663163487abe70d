-- Facts on the options of a command line.
use Rattle.std.proofs.Common.{◌≡◌, ◌↔◌, ℕ, ◌≤◌, Bor, Bool, true, false, List, [], ◌∷◌, IsTrue, Option, Some, None, refl, sym, subst, ap, ◌∙◌, inl, inr, rules}
use Rattle.std.proofs.lemmas.Bool.{cases_Bool}
use Rattle.std.proofs.lemmas.Slice.Eq.{bytes_eq-Decides}
use Rattle.std.specs.Option.{IfSome, MatchOption, is_some, option_map}
use Rattle.std.specs.Str.{bytes_eq}
use Rattle.snb_base.specs.Spellings.{EachSpells, SpellsId}
use Rattle.snb_schema.specs.declared.limits.TheConstants.{MAX_WORKERS}
use Rattle.snb_schema.proofs.Laws.{none_given, same_values}
use Rattle.snb_schema.specs.declared.query.TheConstants.{COMPLEX_COUNT}
use Rattle.snb_schema.specs.QueryPlaces.{place_of}
use Rattle.snb_schema.specs.Frequencies.{FrequencyTable, FrequenciesAreOne, HasFrequencies, frequency_at}
use Rattle.snb_tool_words.specs.declared.options.OptionName.{OptionName}
use Rattle.snb_tool_words.specs.declared.options.OptionName.TheVariants.{Workers, Ratio, Frequencies, Via, Chance, Words}
use Rattle.snb_tool_words.specs.declared.options.Via.{Via as AnyVia}
use Rattle.snb_tool_words.specs.Options.{Adds, OptionWords, IsValueOf, MustSay, Say, OptionSays, SaysFrequencies, SaysVia, SaysWorkers, SpellsWords, no_frequencies, option_name, option_word, put}
use Rattle.snb_tool_words.specs.Taken.{AreValues}

-- what holds of each option holds of any
pub each_option : (P : OptionName → Type 0) → P Workers → P Ratio → P Frequencies → P Via → P Chance → P Words → (o : OptionName) → P o
each_option P w r f v c s Workers = w
each_option P w r f v c s Ratio = r
each_option P w r f v c s Frequencies = f
each_option P w r f v c s Via = v
each_option P w r f v c s Chance = c
each_option P w r f v c s Words = s

-- a name is that of one option
pub one_name : (o p : OptionName) → option_name o ≡ option_name p → o ≡ p
one_name o p e = search rules

pub told : (o p : OptionName) → bytes_eq (option_name o) (option_name p) ≡ true → o ≡ p
told o p e = one_name o p ((bytes_eq-Decides (option_name o) (option_name p)).0 e)

one_word : (o p : OptionName) → option_word o ≡ option_word p → o ≡ p
one_word o p e = one_name o p cc

-- ---- what a word says

-- a list of frequencies is that of one table
table_one : (pairs : List (ℕ × ℕ)) (a b : FrequencyTable) → HasFrequencies a pairs → HasFrequencies b pairs → a ≡ b
table_one pairs a b p q = same_values 0 a b (λ query. p query ∙ sym (q query))

-- a word says the frequencies of one table
pub frequencies_one : FrequenciesAreOne → (word : List ℕ) (a b : FrequencyTable) → SaysFrequencies word a → SaysFrequencies word b → a ≡ b
frequencies_one law word a b p q = table_one p.0 a b p.2 (subst (HasFrequencies b) (law word q.0 p.0 q.1 p.1) q.2)

-- a table in which no query has a frequency is the one of none
pub no_table : (table : FrequencyTable) → ((q : ℕ) → frequency_at table q ≡ 0) → table ≡ no_frequencies
no_table table p = same_values 0 table no_frequencies (λ q. p q ∙ sym (none_given COMPLEX_COUNT 0 (place_of q)))

-- and one number of workers, and by one thing reads are answered
pub workers_one : (word : List ℕ) (a b : ℕ) → SaysWorkers word a → SaysWorkers word b → a ≡ b
workers_one word a b p q = p.0.value ∙ sym q.0.value

pub via_one : (word : List ℕ) (a b : AnyVia) → SaysVia word a → SaysVia word b → a ≡ b
via_one word a b p q = search rules

-- and one list of numbers
ids_one : (parts : List (List ℕ)) (a b : List ℕ) → EachSpells SpellsId parts a → EachSpells SpellsId parts b → a ≡ b
ids_one [] [] [] p q = refl
ids_one [] [] (n ∷ b) p q = absurd q
ids_one [] (m ∷ a) b p q = absurd p
ids_one (x ∷ parts) [] b p q = absurd p
ids_one (x ∷ parts) (m ∷ a) [] p q = absurd q
ids_one (x ∷ parts) (m ∷ a) (n ∷ b) p q = λ i. (p.0.value ∙ sym q.0.value) i ∷ ids_one parts a b p.1 q.1 i

pub words_one : (word a b : List ℕ) → SpellsWords word a → SpellsWords word b → a ≡ b
words_one word a b p q = ids_one _ a b p.spelled q.spelled

module _ {A : Type 0} (Spells : List ℕ → A → Type 0) where
  -- what tells what a word says tells whether it says something
  pub tells : (word : List ℕ) (r : Option A) → MatchOption r ((a : A) → ¬ Spells word a) (Spells word) → IsTrue (is_some r) ↔ ((a : A) × Spells word a)
  tells word None m = (λ t. absurd cc, λ s. absurd (m s.0 s.1))
  tells word (Some a) m = (λ t. (a, m), λ s. refl)

  module _ (one : (word : List ℕ) (a b : A) → Spells word a → Spells word b → a ≡ b) where
    -- what is said is one thing
    pub says_one : (default : A) (o : Option (List ℕ)) (a b : A) → OptionSays Spells default o a → OptionSays Spells default o b → a ≡ b
    says_one default None a b p q = p ∙ sym q
    says_one default (Some word) a b p q = one word a b p q

    pub must_one : (o : Option (List ℕ)) (a b : A) → MustSay Spells o a → MustSay Spells o b → a ≡ b
    must_one None a b p q = absurd p
    must_one (Some word) a b p q = one word a b p q

  -- a word that is given says something
  pub says_some : (default : A) (o : Option (List ℕ)) → IfSome o (λ word. (a : A) × Spells word a) → (a : A) × OptionSays Spells default o a
  says_some default None s = (default, refl)
  says_some default (Some word) s = s

  pub must_some : (o : Option (List ℕ)) → true ≡ is_some o → IfSome o (λ word. (a : A) × Spells word a) → (a : A) × MustSay Spells o a
  must_some None e s = absurd cc
  must_some (Some word) e s = s

-- from one to the most
pub bounded : (o : Option (List ℕ)) (n : ℕ) → MustSay SaysWorkers o n → (1 ≤ n) × (n ≤ MAX_WORKERS)
bounded None n s = absurd s
bounded (Some word) n s = (s.1, s.0.small)

-- ---- what words add

-- where nothing is found, nothing is given
pub none_there : {A : Type 0} (g : Option (Bor A)) (o : Option A) → option_map (λ w. w.now) g ≡ o → (b : Bool) → b ≡ is_some g → b ≡ false → o ≡ None
none_there None o e b is isnt = sym e
none_there (Some w) o e b is isnt = cc

-- two words add one option
adds_one : (old : OptionWords) (name value : List ℕ) (a b : OptionWords) → Adds old name value a → Adds old name value b → a ≡ b
adds_one old name value a b p q = p.added ∙ ap (λ (o : OptionName). put old o value) (one_word p.option q.option (sym p.named ∙ q.named)) ∙ sym q.added

-- words say one thing
pub say_one : (old : OptionWords) (words : List (List ℕ)) (a b : OptionWords) → Say old words a → Say old words b → a ≡ b
say_one old [] a b p q = sym p ∙ q
say_one old (name ∷ []) a b p q = absurd p
say_one old (name ∷ value ∷ rest) a b p q =
    say_one p.0 rest a b p.2 (subst (λ (o : OptionWords). Say o rest b) (adds_one old name value q.0 p.0 q.1 p.1) q.2)

-- where the first two words add an option, all say what the others say after it
pub say_more : {A : Type 0} (given : A → OptionWords) (old next : OptionWords) (name value : List ℕ) (rest words : List (List ℕ)) → words ≡ name ∷ value ∷ rest → Adds old name value next → (o : Option A)
    → MatchOption o ((more : OptionWords) → ¬ Say next rest more) (λ a. Say next rest (given a))
    → MatchOption o ((more : OptionWords) → ¬ Say old words more) (λ a. Say old words (given a))
say_more given old next name value rest words e adds None none = λ more say.
    let s : Say old (name ∷ value ∷ rest) more = subst (λ (ws : List (List ℕ)). Say old ws more) e say in
    none more (subst (λ (o : OptionWords). Say o rest more) (adds_one old name value s.0 next s.1 adds) s.2)
say_more given old next name value rest words e adds (Some a) say = subst (λ (ws : List (List ℕ)). Say old ws (given a)) (sym e) (next, adds, say)

-- where the first two words add no option, all say nothing
pub no_say : (old : OptionWords) (words : List (List ℕ)) (name value : List ℕ) (rest : List (List ℕ)) → words ≡ name ∷ value ∷ rest → ((more : OptionWords) → ¬ Adds old name value more)
    → (more : OptionWords) → ¬ Say old words more
no_say old words name value rest e none more say =
    let s : Say old (name ∷ value ∷ rest) more = subst (λ (ws : List (List ℕ)). Say old ws more) e say in
    none s.0 s.1

-- each word that is said is a value of its option
put_values : (old : OptionWords) (option : OptionName) (value : List ℕ) → AreValues old → IsValueOf option value → AreValues (put old option value)
put_values old option value all is other = elim (cases_Bool (bytes_eq (option_name option) (option_name other))) [
  | inl same ↦ rw same (subst (λ (o : OptionName). IsValueOf o value) (told option other same) is)
  | inr apart ↦ rw apart (all other)
]

pub say_values : (old : OptionWords) (words : List (List ℕ)) (new : OptionWords) → Say old words new → AreValues old → AreValues new
say_values old [] new s all = subst AreValues s all
say_values old (name ∷ []) new s all = absurd s
say_values old (name ∷ value ∷ rest) new s all =
    say_values s.0 rest new s.2 (subst AreValues (sym s.1.added) (put_values old s.1.option value all s.1.valued))

-- what is false isn't so
pub not_true : {A : Type 0} → IsTrue false → A
not_true e = absurd cc
