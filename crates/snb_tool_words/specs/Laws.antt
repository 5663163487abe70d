-- A law of words.
use Rattle.std.specs.Prelude.{◌≡◌, ℕ, List}
use Rattle.snb_tool_words.specs.declared.command.Command.{Command}
use Rattle.snb_tool_words.specs.Commands.{IsLineOf}

-- words are the line of one command at most
abbrev pub WordsAreOne : Type 0
WordsAreOne = (words : List (List ℕ)) (c d : Command) → IsLineOf words c → IsLineOf words d → c ≡ d
