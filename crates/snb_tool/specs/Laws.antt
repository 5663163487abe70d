-- Laws of what the commands answer.
use Rattle.std.specs.Prelude.{◌≡◌, ℕ, ◌⊎◌, Option}
use Rattle.snb_base.specs.Moments.{Moments}
use Rattle.snb_base.specs.Outbox.{Written}
use Rattle.snb_base.specs.Shelf.{Files}
use Rattle.snb_base.specs.FirstOf.{FirstOf, NoneOf}
use Rattle.snb_schema.specs.declared.refusal.Refusal.{Refusal}
use Rattle.snb_tool_words.specs.declared.command.Command.{Command}
use Rattle.snb_tool_outcome.specs.Inputs.{checks_of}
use Rattle.snb_tool_outcome.specs.Found.{Found}
use Rattle.snb_tool_outcome.specs.Outcome.{Asked, IsCallAnswer}

-- what a command finds is refused for one thing at most
abbrev pub RefusalIsOne : Type 0
RefusalIsOne =
    (command : Command) (found : Found) (r q : Refusal) → FirstOf (checks_of command found) r
    → FirstOf (checks_of command found) q → r ≡ q

-- and where it is, something is wrong with it
abbrev pub RefusedOrNot : Type 0
RefusedOrNot =
    (command : Command) (found : Found) (r : Refusal) → FirstOf (checks_of command found) r
    → ¬ NoneOf (checks_of command found)

-- words are answered with a status of these, where texts belong to it
abbrev pub AnswersHaveStatus : Type 0
AnswersHaveStatus =
    (asked : Asked) (contents : Option Files) (moments : Moments) (status : ℕ) (texts : Written)
    → IsCallAnswer asked contents moments status texts
    → (status ≡ 0) ⊎ (status ≡ 1) ⊎ (status ≡ 2) ⊎ (status ≡ 3)
