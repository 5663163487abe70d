-- Facts on the parts of a line.
use Rattle.std.proofs.Common.{◌≡◌, ℕ, ◌-◌, ◌<◌, ◌≤◌, zero, suc, List, [], ◌∷◌, ◌++◌, length, get_or, All, take, drop, refl, sym, subst, ap, ◌∙◌, arith, Bor}
use Rattle.std.proofs.lemmas.List.{map-append, take-append-drop}
use Rattle.std.proofs.lemmas.List.Elements.{All-head, All-tail, All-map}
use Rattle.snb_tool_words.specs.Options.{OptionWords, Say, no_options}
use Rattle.snb_tool_words.specs.Words.{AreLineWords, IsPlainWord, texts_of}
use Rattle.snb_tool_words.proofs.OptionLemmas.{say_one}
use Rattle.snb_tool_words.proofs.WordLemmas.{headed}

-- words that begin with no plain word
abbrev pub BeginApart : List (List ℕ) → Type 0
BeginApart [] = Unit {0}
BeginApart (w ∷ ws) = ¬ IsPlainWord w

-- no option's name is a plain word
say_apart : (old : OptionWords) (words : List (List ℕ)) (new : OptionWords) → Say old words new → BeginApart words
say_apart old [] new s = tt
say_apart old (name ∷ []) new s = absurd s
say_apart old (name ∷ value ∷ rest) new s = λ plain. subst IsPlainWord s.1.named plain refl

-- words are cut in one way into plain words and others
split_one : (p q o r : List (List ℕ)) → All IsPlainWord p → All IsPlainWord q → BeginApart o → BeginApart r → p ++ o ≡ q ++ r → (p ≡ q) × (o ≡ r)
split_one [] [] o r a b x y e = (refl, e)
split_one [] (w ∷ q) o r a b x y e = absurd (subst BeginApart e x (All-head IsPlainWord w q b))
split_one (w ∷ p) [] o r a b x y e = absurd (subst BeginApart (sym e) y (All-head IsPlainWord w p a))
split_one (v ∷ p) (w ∷ q) o r a b x y e =
    let heads : v ≡ w = cc in
    let tails : p ++ o ≡ q ++ r = cc in
    let rest = split_one p q o r (All-tail IsPlainWord v p a) (All-tail IsPlainWord w q b) x y tails in
    (λ i. heads i ∷ rest.0 i, rest.1)

-- the parts of words are one
pub line_one : (words : List (List ℕ)) (name other : List ℕ) (p q : List (List ℕ)) (a b : OptionWords)
    → AreLineWords words name p a → AreLineWords words other q b → (name ≡ other) × (p ≡ q) × (a ≡ b)
line_one words name other p q a b x y =
    let e = sym x.are ∙ y.are in
    let names : name ≡ other = cc in
    let rests : p ++ x.options ≡ q ++ y.options = cc in
    let cut = split_one p q x.options y.options x.is_plain y.is_plain (say_apart no_options x.options a x.say) (say_apart no_options y.options b y.say) rests in
    (names, cut.0, say_one no_options x.options a b x.say (subst (λ (ws : List (List ℕ)). Say no_options ws b) (sym cut.1) y.say))

-- the words after the first, cut after so many
cut_texts : (n : ℕ) (ws : List (Bor (List ℕ))) → texts_of ws ≡ texts_of (take n ws) ++ texts_of (drop n ws)
cut_texts n ws = ap texts_of (sym (take-append-drop n ws)) ∙ map-append (λ (w : Bor (List ℕ)). w.now) (take n ws) (drop n ws)

-- a first word, plain words and options are a line
pub is_line : (name : List ℕ) (n : ℕ) (rest : List (Bor (List ℕ))) (given : OptionWords) → All (λ (w : Bor (List ℕ)). IsPlainWord w.now) (take n rest) → Say no_options (texts_of (drop n rest)) given
    → AreLineWords (name ∷ texts_of rest) name (texts_of (take n rest)) given
is_line name n rest given plain say = record {
  options = texts_of (drop n rest);
  are = λ i. name ∷ cut_texts n rest i;
  is_plain = All-map IsPlainWord (λ (w : Bor (List ℕ)). w.now) (take n rest) plain;
  say = say;
}

-- where what follows the plain words says nothing, the words are no line
pub no_line : (name : List ℕ) (n : ℕ) (rest : List (Bor (List ℕ))) → All (λ (w : Bor (List ℕ)). IsPlainWord w.now) (take n rest) → BeginApart (texts_of (drop n rest))
    → ((given : OptionWords) → ¬ Say no_options (texts_of (drop n rest)) given)
    → (other : List ℕ) (plain : List (List ℕ)) (given : OptionWords) → ¬ AreLineWords (name ∷ texts_of rest) other plain given
no_line name n rest whole apart none other plain given line =
    let e = line.are in
    let rests : texts_of rest ≡ plain ++ line.options = cc in
    let cut = split_one (texts_of (take n rest)) plain (texts_of (drop n rest)) line.options (All-map IsPlainWord (λ (w : Bor (List ℕ)). w.now) (take n rest) whole) line.is_plain apart
    (say_apart no_options line.options given line.say) (sym (cut_texts n rest) ∙ rests) in
    none given (subst (λ (ws : List (List ℕ)). Say no_options ws given) (sym cut.1) line.say)

-- where the word after the plain ones isn't plain, what follows them begins with no plain word
begin_apart : (n : ℕ) (rest : List (Bor (List ℕ))) → ((d : Bor (List ℕ)) → n < length rest → ¬ IsPlainWord (get_or rest n d).now) → BeginApart (texts_of (drop n rest))
begin_apart zero [] h = tt
begin_apart zero (w ∷ ws) h = h w (omega arith)
begin_apart (suc n) [] h = tt
begin_apart (suc n) (w ∷ ws) h = begin_apart n ws (λ d l. h d (omega (arith, l)))

-- a word, by its place, and those that follow it
one_word : (ws : List (Bor (List ℕ))) (d : Bor (List ℕ)) → 1 ≤ length ws → texts_of ws ≡ (get_or ws 0 d).now ∷ texts_of (take (length ws - 1) (drop 1 ws))
one_word ws d l = ap texts_of (headed ws d l)

module _ (ws : List (Bor (List ℕ))) (d : Bor (List ℕ)) (n : ℕ) (some : 1 ≤ length ws) (plain : All (λ (w : Bor (List ℕ)). IsPlainWord w.now) (take n (take (length ws - 1) (drop 1 ws)))) where
  -- words that are a line
  pub ok_line : (given : OptionWords) → Say no_options (texts_of (drop n (take (length ws - 1) (drop 1 ws)))) given
      → AreLineWords (texts_of ws) (get_or ws 0 d).now (texts_of (take n (take (length ws - 1) (drop 1 ws)))) given
  ok_line given say =
      subst (λ (all : List (List ℕ)). AreLineWords all (get_or ws 0 d).now (texts_of (take n (take (length ws - 1) (drop 1 ws)))) given) (sym (one_word ws d some))
      (is_line (get_or ws 0 d).now n (take (length ws - 1) (drop 1 ws)) given plain say)

  -- and words that aren't
  pub err_line : ((e : Bor (List ℕ)) → n < length (take (length ws - 1) (drop 1 ws)) → ¬ IsPlainWord (get_or (take (length ws - 1) (drop 1 ws)) n e).now)
      → ((given : OptionWords) → ¬ Say no_options (texts_of (drop n (take (length ws - 1) (drop 1 ws)))) given)
      → (name : List ℕ) (front : List (List ℕ)) (given : OptionWords) → ¬ AreLineWords (texts_of ws) name front given
  err_line apart none name front given line =
      no_line (get_or ws 0 d).now n (take (length ws - 1) (drop 1 ws)) plain (begin_apart n (take (length ws - 1) (drop 1 ws)) apart) none name front given
      (subst (λ (all : List (List ℕ)). AreLineWords all name front given) (one_word ws d some) line)
