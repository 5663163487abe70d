-- Facts on the options of accepted lines, as `clap` takes them apart, and on the command that is built for it.
use Rattle.std.proofs.Common.{◌≡◌, ℕ, ◌+◌, ◌<◌, ◌++◌, ◌==◌, ◌&&◌, Bool, List, [], ◌∷◌, length, take, get_or, Bor, true, false, Some, None, refl, sym, subst, ap, ◌∙◌, inl, inr, arith, map}
use Rattle.std.proofs.lemmas.Bool.{cases_Bool}
use Rattle.std.proofs.lemmas.List.{append-nil, append_assoc, map-append, take_more}
use Rattle.std.specs.List.{onto_first, slice_split}
use Rattle.std.specs.Str.{bytes_eq}
use Rattle.snb_base.specs.Spellings.{EachSpells, Num, SpellsId, last_id}
use Rattle.snb_ratio.specs.declared.chance.TheConstants.{CERTAIN}
use Rattle.snb_ratio.specs.Ratios.{SpellsRatio}
use Rattle.snb_schema.specs.declared.limits.TheConstants.{MAX_WORKERS}
use Rattle.snb_schema.specs.Frequencies.{SpellsFrequency}
use Rattle.clap.specs.Simple.{App, Shape, is_simple, new_rule, with_rule}
use Rattle.clap.specs.Takes.{takes}
use Rattle.clap.specs.Walk.{Rule, Text, Walk}
use Rattle.snb_tool_words.specs.declared.options.OptionName.{OptionName}
use Rattle.snb_tool_words.specs.declared.options.OptionName.TheVariants.{Workers, Ratio, Frequencies, Via, Chance, Words}
use Rattle.snb_tool_words.specs.declared.options.Via.TheVariants.{Graph, Table}
use Rattle.snb_tool_words.specs.Options.{OptionWords, IsValueOf, Say, option_name, put}
use Rattle.snb_tool_words.specs.Taken.{app_with, option_rule}
use Rattle.snb_tool_words.specs.Words.{IsPlainWord, texts_of}
use Rattle.snb_tool_words.proofs.OptionLemmas.{told}
use Rattle.snb_tool_words.proofs.WalkFacts.{IsId, IsOption, Pairs, Runs, after, ends, optioned, to_row, value_of}

-- ---- the value of an option begins with no hyphen

number_plain : (x : Text) (n most : ℕ) → Num x n most → IsPlainWord x
number_plain [] n most s = omega (arith, s.some)
number_plain (b ∷ bs) n most s = λ e. let d = s.digits.0 in omega (arith, d.0, e)

plain_before : (x y : Text) → IsPlainWord x → IsPlainWord (x ++ y)
plain_before [] y h = absurd h
plain_before (b ∷ bs) y h = h

ratio_plain : (x : Text) (n : ℕ) → SpellsRatio x n → IsPlainWord x
ratio_plain x n (least, most, (whole, units, number, inl p)) = subst IsPlainWord (sym p.0) (number_plain whole units _ number)
ratio_plain x n (least, most, (whole, units, number, inr p)) = subst IsPlainWord (sym p.2) (plain_before whole _ (number_plain whole units _ number))

frequency_plain : (x : Text) (pair : ℕ × ℕ) → SpellsFrequency x pair → IsPlainWord x
frequency_plain x pair s = subst IsPlainWord (sym s.splits) (plain_before s.query _ (number_plain s.query pair.0 _ s.numbered))

-- elements between commas, each of which is plain, are plain together
module _ {A : Type 0} (Spells : Text → A → Type 0) (plain : (x : Text) (a : A) → Spells x a → IsPlainWord x) where
  first_plain : (b : ℕ) (bs : Text) (parts : List Text) (items : List A) → EachSpells Spells (onto_first b parts) items → IsPlainWord (b ∷ bs)
  first_plain b bs [] [] s = absurd s
  first_plain b bs [] (a ∷ items) s = plain (b ∷ []) a s.0
  first_plain b bs (part ∷ parts) [] s = absurd s
  first_plain b bs (part ∷ parts) (a ∷ items) s = plain (b ∷ part) a s.0

  pub list_plain : (x : Text) (items : List A) → EachSpells Spells (slice_split (λ b. b == 44) x) items → IsPlainWord x
  list_plain [] [] s = absurd s
  list_plain [] (a ∷ items) s = plain [] a s.0
  list_plain (b ∷ bs) items s = elim (cases_Bool (b == 44)) [
    | inl comma ↦ comma_first bs items (rw comma at s)
    | inr other ↦ first_plain b bs (slice_split (λ c. c == 44) bs) items (rw other at s)
  ]
    where
      comma_first : (bs : Text) (items : List A) → EachSpells Spells ([] ∷ slice_split (λ c. c == 44) bs) items → IsPlainWord (b ∷ bs)
      comma_first bs [] s = absurd s
      comma_first bs (a ∷ items) s = absurd (plain [] a s.0)

value_plain : (o : OptionName) (word : Text) → IsValueOf o word → IsPlainWord word
value_plain Workers word s = number_plain word s.0 MAX_WORKERS s.1.0
value_plain Ratio word s = ratio_plain word s.0 s.1
value_plain Frequencies word s = list_plain SpellsFrequency frequency_plain word s.1.0 s.1.1.spelled
value_plain Chance word s = subst IsPlainWord (sym s.1.splits) (plain_before s.1.first _ (number_plain s.1.first s.0.start CERTAIN s.1.begins))
value_plain Words word s = list_plain SpellsId (λ x n. number_plain x n last_id) word s.0 s.1.spelled
value_plain Via word (Table, is) = subst IsPlainWord (sym is) (λ e. omega (arith, e))
value_plain Via word (Graph, is) = absurd is

-- ---- what is given

value_last : (n m v : Text) (ps : Pairs) → bytes_eq m n ≡ true → value_of n ps ≡ None → value_of n (ps ++ (m, v) ∷ []) ≡ Some v
value_last n m v [] same e = rw same refl
value_last n m v (p ∷ ps) same e = elim (cases_Bool (bytes_eq p.0 n)) [
  | inl first ↦ absurd (cc (rw first at e))
  | inr other ↦ let later = rw other at e in rw other (value_last n m v ps same later)
]

value_other : (n m v : Text) (ps : Pairs) → bytes_eq m n ≡ false → value_of n (ps ++ (m, v) ∷ []) ≡ value_of n ps
value_other n m v [] apart = rw apart refl
value_other n m v (p ∷ ps) apart = elim (cases_Bool (bytes_eq p.0 n)) [
  | inl first ↦ rw first refl
  | inr other ↦ rw other (value_other n m v ps apart)
]

-- what is held by the names of options is what is given
abbrev pub Hold : Pairs → OptionWords → Type 0
Hold pairs given = (o : OptionName) → value_of (option_name o) pairs ≡ given o

-- and so with one option more
hold_more : (seen : Pairs) (old : OptionWords) (option : OptionName) (value : Text) → Hold seen old → old option ≡ None → Hold (seen ++ (option_name option, value) ∷ []) (put old option value)
hold_more seen old option value hold fresh o = elim (cases_Bool (bytes_eq (option_name option) (option_name o))) [
  | inl same ↦
      let none : old o ≡ None = subst (λ (p : OptionName). old p ≡ None) (told option o same) fresh in
      rw same (value_last (option_name o) (option_name option) value seen same (hold o ∙ none))
  | inr apart ↦ rw apart (value_other (option_name o) (option_name option) value seen apart ∙ hold o)
]

-- no option has this name
abbrev pub IsNoOption : Text → Type 0
IsNoOption name = (o : OptionName) → bytes_eq (option_name o) name ≡ false

-- from there the words run, this is given, and beside it what was seen
pub record LineRuns (s : Shape) (w : Walk) (seen : Pairs) (words : List Text) (given : OptionWords) : Type 0 where
  pub pairs : Pairs
  pub runs : Runs s w words pairs
  pub hold : Hold pairs given
  pub others : (n : Text) → IsNoOption n → value_of n pairs ≡ value_of n seen

module _ (s : Shape) (own : s.args_override_self ≡ false) (options : (o : OptionName) → IsOption s.rules (option_name o)) (k : ℕ) where
  pub options_run : (words : List Text) (old given : OptionWords) (ps : Pairs) (q u : Text) → IsId s.rules q → value_of q ps ≡ None → Hold (ps ++ (q, u) ∷ []) old
      → Say old words given → LineRuns s (after k (map to_row ps) q u) (ps ++ (q, u) ∷ []) words given
  options_run [] old given ps q u known none hold say = record {
    pairs = ps ++ (q, u) ∷ [];
    runs = ends s own k ps q u known none;
    hold = subst (Hold (ps ++ (q, u) ∷ [])) say hold;
    others = λ n _. refl;
  }
  options_run (name ∷ []) old given ps q u known none hold say = absurd say
  options_run (name ∷ value ∷ rest) old given ps q u known none hold say =
      let adds = say.1 in
      let o = adds.option in
      let seen = ps ++ (q, u) ∷ [] in
      let next = subst (Hold (seen ++ (option_name o, value) ∷ [])) (sym adds.added) (hold_more seen old o value hold adds.fresh) in
      let more = options_run rest say.0 given seen (option_name o) value (inr (options o)) (hold o ∙ adds.fresh) next say.2 in
      record {
        pairs = more.pairs;
        runs = subst (λ (w : Text). Runs s (after k (map to_row ps) q u) (w ∷ value ∷ rest) more.pairs) (sym adds.named)
            (optioned s own k ps q u (option_name o) value rest more.pairs known none (value_plain o value adds.valued) (options o) more.runs);
        hold = more.hold;
        others = λ n apart. more.others n apart ∙ value_other n (option_name o) value seen (apart o);
      }

-- ---- the command that is built

both : (a b : Bool) → (a && b) ≡ true → a ≡ true
both true b e = refl
both false b e = cc

-- what takes words is simple
pub takes_simple : (app : App) (words : List Text) → takes app words ≡ true → is_simple app ≡ true
takes_simple app words e = both _ _ e

-- one place more, and one option more
pub place_added : (places : List Text) (place : Text) → with_rule (app_with places []) (new_rule place) ≡ app_with (places ++ place ∷ []) []
place_added places place = ap (λ (rules : List Rule). record (app_with [] []) { top = record (app_with [] []).top { rules = rules } })
    (ap (λ (rules : List Rule). rules ++ new_rule place ∷ []) (append-nil (map new_rule places)) ∙ sym (map-append new_rule places (place ∷ [])) ∙ sym (append-nil (map new_rule (places ++ place ∷ []))))

pub option_added : (places options : List Text) (name : Text) → with_rule (app_with places options) (option_rule name) ≡ app_with places (options ++ name ∷ [])
option_added places options name = ap (λ (rules : List Rule). record (app_with [] []) { top = record (app_with [] []).top { rules = rules } })
    (append_assoc (map new_rule places) (map option_rule options) (option_rule name ∷ []) ∙ ap (λ (rules : List Rule). map new_rule places ++ rules) (sym (map-append option_rule options (name ∷ []))))

-- the texts of the words so far, and of one more
pub texts_more : (ws : List (Bor (List ℕ))) (i : ℕ) (d : Bor (List ℕ)) → i < length ws → texts_of (take (i + 1) ws) ≡ texts_of (take i ws) ++ (get_or ws i d).now ∷ []
texts_more ws i d l = ap texts_of (take_more ws i d l) ∙ map-append (λ (w : Bor (List ℕ)). w.now) (take i ws) (get_or ws i d ∷ [])
