-- A line, as `clap` takes it apart.
use Rattle.std.proofs.Common.{◌≡◌, false, ℕ, ◌≤◌, ◌++◌, suc, List, [], ◌∷◌, length, All, true, Option, None, refl, sym, subst, ◌∙◌, inl, arith, codes, map}
use Rattle.std.proofs.lemmas.List.Elements.{All-head, All-tail}
use Rattle.clap.specs.Simple.{Shape, built, matches_of}
use Rattle.clap.specs.Takes.{takes}
use Rattle.clap.specs.Walk.{Rule, Text, first_of, nothing_held, walk_from}
use Rattle.snb_tool_words.specs.declared.command.Command.{Command}
use Rattle.snb_tool_words.specs.declared.command.Command.TheVariants.{Check, Run, Audit, Latency, Expect, Validate, Read, Walk, Trial}
use Rattle.snb_tool_words.specs.declared.options.OptionName.{OptionName}
use Rattle.snb_tool_words.specs.Commands.{IsLineOf, IsSaid}
use Rattle.snb_tool_words.specs.Options.{OptionWords, Say, no_options, option_name}
use Rattle.snb_tool_words.specs.Taken.{AreFoundOf, IsFoundBy, IsLineBy, given_in, line_app, place_names, plain_in}
use Rattle.snb_tool_words.specs.Words.{AreLineWords, IsPlainWord}
use Rattle.snb_tool_words.proofs.OptionLemmas.{each_option}
use Rattle.snb_tool_words.proofs.ReadLemmas.{few_parameters}
use Rattle.snb_tool_words.proofs.TakenLemmas.{Hold, IsNoOption, LineRuns, options_run}
use Rattle.snb_tool_words.proofs.WalkFacts.{IsBuilt, IsId, IsOption, IsPlaced, Pairs, after, finds, first, placed, to_row, value_of}

-- ---- plain words at places

-- what was seen, and then these
abbrev onto : Pairs → Pairs → Pairs
onto seen [] = seen
onto seen (p ∷ ps) = onto (seen ++ p ∷ []) ps

-- the names are those of the places from the k-th on, and weren't seen
abbrev ArePlaced : List Rule → ℕ → Pairs → Pairs → Type 0
ArePlaced rules k seen [] = Unit {0}
ArePlaced rules k seen (p ∷ ps) = IsPlaced rules k p.0 × (value_of p.0 seen ≡ None) × ArePlaced rules (suc k) (seen ++ p ∷ []) ps

abbrev words_of : Pairs → List Text
words_of ps = map (λ p. p.1) ps

module _ (s : Shape) (own : s.args_override_self ≡ false) (each : (o : OptionName) → IsOption s.rules (option_name o)) (options : List Text) (given : OptionWords) (say : Say no_options options given) where
  -- plain words run, and the options after them
  places_run : (ps : Pairs) (k : ℕ) (seen : Pairs) (q u : Text) → IsId s.rules q → value_of q seen ≡ None → ArePlaced s.rules k (seen ++ (q, u) ∷ []) ps → All IsPlainWord (words_of ps)
      → Hold (onto (seen ++ (q, u) ∷ []) ps) no_options → LineRuns s (after k (map to_row seen) q u) (onto (seen ++ (q, u) ∷ []) ps) (words_of ps ++ options) given
  places_run [] k seen q u known none at plain hold = options_run s own each k options no_options given seen q u known none hold say
  places_run (p ∷ ps) k seen q u known none at plain hold =
      let more = places_run ps (suc k) (seen ++ (q, u) ∷ []) p.0 p.1 (inl (k, at.0)) at.1 at.2 (All-tail IsPlainWord p.1 (words_of ps) plain) hold in
      record {
        pairs = more.pairs;
        runs = placed s own k seen q u p.1 p.0 (words_of ps ++ options) more.pairs known none (All-head IsPlainWord p.1 (words_of ps) plain) at.0 more.runs;
        hold = more.hold;
        others = more.others;
      }

  line_runs : (p : Text × Text) (ps : Pairs) → IsPlaced s.rules 1 p.0 → ArePlaced s.rules 2 (p ∷ []) ps → All IsPlainWord (words_of (p ∷ ps)) → Hold (onto (p ∷ []) ps) no_options
      → LineRuns s (walk_from nothing_held) (onto (p ∷ []) ps) (words_of (p ∷ ps) ++ options) given
  line_runs p ps at are plain hold =
      let run = places_run ps 2 [] p.0 p.1 (inl (1, at)) refl are (All-tail IsPlainWord p.1 (words_of ps) plain) hold in
      record {
        pairs = run.pairs;
        runs = first s own p.1 p.0 (words_of ps ++ options) run.pairs (All-head IsPlainWord p.1 (words_of ps) plain) at run.runs;
        hold = run.hold;
        others = run.others;
      }

-- ---- the command of all lines

abbrev shape : Shape
shape = (built line_app).top

is_built : IsBuilt line_app shape
is_built = record {
  simple = refl;
  named = refl;
  built_is = refl;
  own = refl;
  none = (refl, (refl, (refl, (refl, (refl, (refl, (refl, (refl, (refl, (refl, (refl, tt)))))))))));
  defaults = refl;
  valid = λ rows. refl;
}

is_option : (o : OptionName) → IsOption shape.rules (option_name o)
is_option = each_option (λ o. IsOption shape.rules (option_name o)) (record { by_long = refl; by_id = refl; name = refl; dashes = refl; same = refl })
    (record { by_long = refl; by_id = refl; name = refl; dashes = refl; same = refl }) (record { by_long = refl; by_id = refl; name = refl; dashes = refl; same = refl })
    (record { by_long = refl; by_id = refl; name = refl; dashes = refl; same = refl }) (record { by_long = refl; by_id = refl; name = refl; dashes = refl; same = refl })
    (record { by_long = refl; by_id = refl; name = refl; dashes = refl; same = refl })

at1 : IsPlaced shape.rules 1 (codes "first")
at1 = record { by_index = refl; by_id = refl; after = refl }

at2 : IsPlaced shape.rules 2 (codes "second")
at2 = record { by_index = refl; by_id = refl; after = refl }

at3 : IsPlaced shape.rules 3 (codes "third")
at3 = record { by_index = refl; by_id = refl; after = refl }

at4 : IsPlaced shape.rules 4 (codes "fourth")
at4 = record { by_index = refl; by_id = refl; after = refl }

at5 : IsPlaced shape.rules 5 (codes "fifth")
at5 = record { by_index = refl; by_id = refl; after = refl }

-- the words at the places
abbrev at_places : List Text → List Text → Pairs
at_places (n ∷ ns) (w ∷ ws) = (n, w) ∷ at_places ns ws
at_places ns ws = []

abbrev seen_of : List Text → Pairs
seen_of plain = at_places place_names plain

-- from one to five plain words, and options after them, run
few_run : (plain : List Text) → 1 ≤ length plain → length plain ≤ 5 → All IsPlainWord plain → (options : List Text) (given : OptionWords) → Say no_options options given
    → LineRuns shape (walk_from nothing_held) (seen_of plain) (plain ++ options) given
few_run [] some few plain options given say = absurd (omega arith)
few_run (a ∷ []) some few plain options given say =
    line_runs shape refl is_option options given say (codes "first", a) [] at1 tt plain (each_option (λ o. value_of (option_name o) (seen_of (a ∷ [])) ≡ None) refl refl refl refl refl refl)
few_run (a ∷ b ∷ []) some few plain options given say =
    line_runs shape refl is_option options given say (codes "first", a) ((codes "second", b) ∷ []) at1 (at2, refl, tt) plain
    (each_option (λ o. value_of (option_name o) (seen_of (a ∷ b ∷ [])) ≡ None) refl refl refl refl refl refl)
few_run (a ∷ b ∷ c ∷ []) some few plain options given say =
    line_runs shape refl is_option options given say (codes "first", a) ((codes "second", b) ∷ (codes "third", c) ∷ []) at1 (at2, refl, (at3, refl, tt)) plain
    (each_option (λ o. value_of (option_name o) (seen_of (a ∷ b ∷ c ∷ [])) ≡ None) refl refl refl refl refl refl)
few_run (a ∷ b ∷ c ∷ d ∷ []) some few plain options given say =
    line_runs shape refl is_option options given say (codes "first", a) ((codes "second", b) ∷ (codes "third", c) ∷ (codes "fourth", d) ∷ []) at1 (at2, refl, (at3, refl, (at4, refl, tt))) plain
    (each_option (λ o. value_of (option_name o) (seen_of (a ∷ b ∷ c ∷ d ∷ [])) ≡ None) refl refl refl refl refl refl)
few_run (a ∷ b ∷ c ∷ d ∷ e ∷ []) some few plain options given say =
    line_runs shape refl is_option options given say (codes "first", a) ((codes "second", b) ∷ (codes "third", c) ∷ (codes "fourth", d) ∷ (codes "fifth", e) ∷ []) at1
    (at2, refl, (at3, refl, (at4, refl, (at5, refl, tt)))) plain
    (each_option (λ o. value_of (option_name o) (seen_of (a ∷ b ∷ c ∷ d ∷ e ∷ [])) ≡ None) refl refl refl refl refl refl)
few_run (a ∷ b ∷ c ∷ d ∷ e ∷ f ∷ ws) some few plain options given say = absurd (omega arith)

-- and then the places hold them
plain_back : (plain : List Text) → 1 ≤ length plain → length plain ≤ 5 → plain_in (λ n. value_of n (seen_of plain)) ≡ plain
plain_back [] some few = refl
plain_back (a ∷ []) some few = refl
plain_back (a ∷ b ∷ []) some few = refl
plain_back (a ∷ b ∷ c ∷ []) some few = refl
plain_back (a ∷ b ∷ c ∷ d ∷ []) some few = refl
plain_back (a ∷ b ∷ c ∷ d ∷ e ∷ []) some few = refl
plain_back (a ∷ b ∷ c ∷ d ∷ e ∷ f ∷ ws) some few = absurd (omega arith)

-- the places have no option's name
plain_by : (f g : Text → Option Text) → ((n : Text) → IsNoOption n → f n ≡ g n) → plain_in f ≡ plain_in g
plain_by f g same =
    let a = same (codes "first") (each_option (λ o. _) refl refl refl refl refl refl) in
    let b = same (codes "second") (each_option (λ o. _) refl refl refl refl refl refl) in
    let c = same (codes "third") (each_option (λ o. _) refl refl refl refl refl refl) in
    let d = same (codes "fourth") (each_option (λ o. _) refl refl refl refl refl refl) in
    let e = same (codes "fifth") (each_option (λ o. _) refl refl refl refl refl refl) in
    rw (a, b, c, d, e) refl

-- ---- a line

-- `clap` takes the words, and finds the plain words and what is given
pub record IsTaken (words parts : List Text) (said : OptionWords) : Type 0 where
  pub takes : takes line_app words ≡ true
  pub plain : plain_in (λ n. first_of n (matches_of line_app words)) ≡ parts
  pub given : (o : OptionName) → first_of (option_name o) (matches_of line_app words) ≡ said o

is_taken : (words : List Text) (name : Text) (plain : List Text) (given : OptionWords) → 1 ≤ length plain → length plain ≤ 5 → AreLineWords words name plain given → IsTaken words plain given
is_taken words name plain given some few line =
    let run = few_run plain some few line.is_plain line.options given line.say in
    let all = finds line_app shape is_built name (plain ++ line.options) run.pairs run.runs in
    subst (λ (ws : List Text). IsTaken ws plain given) (sym line.are) (record {
      takes = all.takes;
      plain = plain_by _ (λ n. value_of n (seen_of plain)) (λ n apart. all.value n ∙ run.others n apart) ∙ plain_back plain some few;
      given = λ o. all.value (option_name o) ∙ run.hold o;
    })

-- a command's line has one to five plain words
few_plain : (command : Command) (plain : List Text) (given : OptionWords) → IsSaid command plain given → (1 ≤ length plain) × (length plain ≤ 5)
few_plain (Check folder table) plain given s = rw s.0 (omega arith, omega arith)
few_plain (Run folder workers ratio table) plain given s = rw s.0 (omega arith, omega arith)
few_plain (Audit folder log ratio table) plain given s = rw s.0 (omega arith, omega arith)
few_plain (Latency folder log ratio table) plain given s = rw s.0 (omega arith, omega arith)
few_plain (Expect folder table) plain given s = rw s.0 (omega arith, omega arith)
few_plain (Validate folder cases via) plain given s = rw s.0 (omega arith, omega arith)
few_plain (Read folder query) plain given s = let few = few_parameters s.0 s.1 query s.3 in rw s.2 (omega arith, omega arith)
few_plain (Walk folder query chance words) plain given s = let few = few_parameters s.0 s.1 query s.3 in rw s.2 (omega arith, omega arith)
few_plain (Trial size workers) plain given s = rw s.2 (omega arith, omega arith)

pub line_taken : (name : Text) (words : List Text) (line : IsLineBy name words) → IsTaken words line.2.plain line.2.given
line_taken name words line =
    let few = few_plain line.0 line.2.plain line.2.given line.2.are.is_said in
    is_taken words line.2.name line.2.plain line.2.given few.0 few.1 line.2.line

module _ (name : Text) (words : List Text) (line : IsLineBy name words) (word_of : Text → Option Text) (found : (n : Text) → word_of n ≡ first_of n (matches_of line_app words)) where
  plain_is : plain_in word_of ≡ line.2.plain
  plain_is = plain_by word_of (λ n. first_of n (matches_of line_app words)) (λ n _. found n) ∙ (line_taken name words line).plain

  given_is : given_in word_of ≡ line.2.given
  given_is = λ i o. (found (option_name o) ∙ (line_taken name words line).given o) i

  -- the words that were found are those of the line
  pub line_found : IsFoundBy name word_of
  line_found = (line.0, rw (plain_is, given_is) (record { named = line.1; suited = line.2.are.suited; is_said = line.2.are.is_said }))

  pub found_line : (command : Command) → AreFoundOf name word_of command → IsLineOf words command
  found_line command are = record {
    name = name;
    plain = line.2.plain;
    given = line.2.given;
    line = let named : line.2.name ≡ name = line.2.are.named ∙ sym line.1 in subst (λ (n : Text). AreLineWords words n line.2.plain line.2.given) named line.2.line;
    are = rw (plain_is, given_is) at are;
  }
