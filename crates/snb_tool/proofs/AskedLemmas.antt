-- Facts on what a call is asked.
use Rattle.std.specs.Prelude.{IfOk, IsSome, List, MatchOption, OnErr, ℕ}
use Rattle.std.proofs.Common.{◌≡◌, Bool, true, false, Option, None, Some, Result, Ok, Err, inl, inr, subst}
use Rattle.snb_tool_words.specs.declared.command.Command.{Command}
use Rattle.snb_tool_words.specs.Commands.{IsLineOf, IsOtherLine}
use Rattle.snb_tool_words.specs.CommandFacts.{folder_of, needs_table}
use Rattle.snb_tool_words.specs.Laws.{WordsAreOne}
use Rattle.snb_tool_outcome.specs.Endings.{LacksKind}
use Rattle.std.specs.Option.{unwrap_or}
use Rattle.snb_tool_outcome.specs.Outcome.{Asked, IsAsked, IsOther}
use Rattle.snb_tool_outcome.specs.Served.{ReadsNothing}

-- a command that asks a table where none is given can't be done
pub no_table : WordsAreOne → (asked : Asked) → ((command : Command) × IsLineOf asked.words command × (needs_table command ≡ true) × ¬ IsSome asked.given) → IsOther asked
no_table one asked lacks command a = lacks.3 (a.given (subst (λ (d : Command). needs_table d ≡ true) (one asked.words lacks.0 command lacks.1 a.line) lacks.2))

-- another can
pub asked_of : {E : Type 0} (asked : Asked) → ((command : Command) → IsLineOf asked.words command → needs_table command ≡ true → IsSome asked.given) → (result : Result (Option Command) E)
    → IfOk result (λ found. MatchOption found (IsOtherLine asked.words) (IsLineOf asked.words)) → IfOk result (λ found. MatchOption found (IsOther asked) (IsAsked asked))
asked_of asked has (Ok None) other = λ command a. other command a.line
asked_of asked has (Ok (Some command)) line = record { line = line; given = has command line }
asked_of asked has (Err e) h = tt

-- it can be done also where memory ran out
pub asked_still : {A E : Type 0} (asked : Asked) → ((command : Command) → IsLineOf asked.words command → needs_table command ≡ true → IsSome asked.given) → (result : Result A E) → OnErr result (¬ IsOtherLine asked.words) → OnErr result (¬ IsOther asked)
asked_still asked has (Ok a) h = tt
asked_still asked has (Err e) h = λ none. h (λ command line. none command (record { line = line; given = has command line }))

-- a command that isn't told to ask a table asks none
pub asks_none : WordsAreOne → (words : List (List ℕ)) (found : Option Bool) → MatchOption found (IsOtherLine words) (λ asks. (c : Command) × IsLineOf words c × (needs_table c ≡ asks)) → unwrap_or found false ≡ false
    → (command : Command) → IsLineOf words command → ¬ (needs_table command ≡ true)
asks_none one words None other none command line asked = other command line
asks_none one words (Some asks) known none command line asked =
    (let same = subst (λ (d : Command). needs_table d ≡ asks) (one words known.0 command known.1 line) known.2 in cc (same, asked, none))

-- what is so of a command that reads nothing is so where the words ask for one
pub reads_nothing : {P : Type 0} → WordsAreOne → (asked : Asked) (mine : Command) → IsAsked asked mine → (folder_of mine ≡ None → P) → (needs_table mine ≡ true → LacksKind asked.given → P) → ReadsNothing asked → P
reads_nothing {P} one asked mine a unread unasked (command, b, inl none) =
    unread (subst (λ (d : Command). folder_of d ≡ None) (one asked.words command mine b.line a.line) none)
reads_nothing {P} one asked mine a unread unasked (command, b, inr lacks) =
    unasked (subst (λ (d : Command). needs_table d ≡ true) (one asked.words command mine b.line a.line) lacks.0) lacks.1
