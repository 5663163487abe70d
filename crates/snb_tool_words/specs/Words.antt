-- The words of a command line: a name, plain words, and options.
use Rattle.std.specs.Prelude.{◌≡◌, ◌≢◌, ℕ, List, [], ◌∷◌, ◌++◌, map, All}
use Rattle.std.specs.Borrow.{Bor}
use Rattle.snb_tool_words.specs.Options.{OptionWords, Say, no_options}

-- the texts of words
abbrev pub texts_of : List (Bor (List ℕ)) → List (List ℕ)
texts_of words = map (λ word. word.now) words

-- a word that isn't empty and doesn't begin with `-`
abbrev pub IsPlainWord : List ℕ → Type 0
IsPlainWord [] = ⊥
IsPlainWord (b ∷ bs) = b ≢ 45

-- the words are a name, plain words, and the options that are given, each of two words and each at
-- most once, in any order
pub record AreLineWords (words : List (List ℕ)) (name : List ℕ) (plain : List (List ℕ))
    (given : OptionWords) : Type 0 where
  pub options : List (List ℕ)
  pub are : words ≡ name ∷ plain ++ options
  pub is_plain : All IsPlainWord plain
  pub say : Say no_options options given
