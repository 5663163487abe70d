-- What a call of the program answers and writes.
use Rattle.std.specs.Prelude.{◌≡◌, ℕ, true, List, Option, None, Some, IsSome, ◌⊎◌}
use Rattle.snb_base.specs.Moments.{Moments}
use Rattle.std.specs.Borrow.{Bor}
use Rattle.snb_base.specs.Outbox.{Written}
use Rattle.snb_base.specs.Shelf.{Files}
use Rattle.snb_base.specs.FirstOf.{FirstOf, NoneOf}
use Rattle.snb_schema.specs.declared.query.ReadKind.{ReadKind}
use Rattle.snb_schema.specs.declared.refusal.Refusal.{Refusal}
use Rattle.snb_schema.specs.ScreenTexts.{refusal_text}
use Rattle.snb_tool_words.specs.declared.command.Command.{Command}
use Rattle.snb_tool_words.specs.Commands.{IsLineOf}
use Rattle.snb_tool_words.specs.CommandFacts.{needs_table}
use Rattle.snb_tool_words.specs.Words.{texts_of}
use Rattle.snb_tool_outcome.specs.Inputs.{checks_of}
use Rattle.snb_tool_outcome.specs.Found.{Found, Given, IsFoundTold}
use Rattle.snb_tool_outcome.specs.Output.{on_screen, usage_text}
use Rattle.snb_walk.specs.declared.target.Pick.{Pick}
use Rattle.snb_tool_outcome.specs.Done.{IsDone}

-- the status and the texts of a command that is refused: what is wrong first is shown
abbrev pub IsRefused : Refusal → ℕ → Written → Type 0
IsRefused r status texts = (status ≡ 3) × (texts ≡ on_screen (refusal_text r))

-- the status and the texts that belong to what a command finds: nothing is wrong with it and the
-- command is done, or what is wrong with it first is shown
abbrev pub Belongs : Command → Found → Moments → ℕ → Written → Type 0
Belongs command found moments status texts =
    (NoneOf (checks_of command found) × IsDone command found moments status texts)
    ⊎ ((r : Refusal) × FirstOf (checks_of command found) r × IsRefused r status texts)

-- the status and the texts that a command answers: they belong to what it finds, as far as that is
-- told
abbrev pub IsCommandAnswer : Given → Command → Option Files → Moments → ℕ → Written → Type 0
IsCommandAnswer given command contents moments status texts =
    (found : Found) × IsFoundTold contents given command found
    × Belongs command found moments status texts

-- and where it is done
abbrev pub IsDoneAnswer : Given → Command → Option Files → Moments → ℕ → Written → Type 0
IsDoneAnswer given command contents moments status texts =
    (found : Found) × IsFoundTold contents given command found
    × IsDone command found moments status texts

-- what a call is asked: its words, and a table of handlers with a policy, where it is given them
pub record Asked : Type 0 where
  pub words : List (List ℕ)
  pub given : Given

-- the words of a call, without these
abbrev pub alone : List (Bor (List ℕ)) → Asked
alone words = record { words = texts_of words; given = None }

-- and with the kinds of a table, and the pick of a policy
abbrev pub with : List (Bor (List ℕ)) → List ReadKind → Pick → Asked
with words kinds pick =
    record { words = texts_of words; given = Some (record { kinds = kinds; pick = pick }) }

-- the words are the line of the command, which asks a table only where there is one
pub record IsAsked (asked : Asked) (command : Command) : Type 0 where
  pub line : IsLineOf asked.words command
  pub given : needs_table command ≡ true → IsSome asked.given

-- the words are those of no command that can be done
abbrev pub IsOther : Asked → Type 0
IsOther asked = (command : Command) → ¬ IsAsked asked command

-- the status and the texts that words are answered with: the usage, where they are no command's
-- line; else those of the command
abbrev pub IsCallAnswer : Asked → Option Files → Moments → ℕ → Written → Type 0
IsCallAnswer asked contents moments status texts =
    ((status ≡ 2) × IsOther asked × (texts ≡ on_screen usage_text))
    ⊎ ((command : Command) × IsAsked asked command
    × IsCommandAnswer asked.given command contents moments status texts)
