-- What a command finds: the table that it asks, and the files that it has.
use Rattle.std.specs.Prelude.{◌≡◌, ℕ, Bool, true, false, List, Option, IfSome, MatchOption}
use Rattle.snb_base.specs.Shelf.{Files}
use Rattle.snb_input_files.specs.Walk.{Held, IsHeldTold}
use Rattle.snb_schema.specs.declared.query.ReadKind.{ReadKind}
use Rattle.snb_tool_words.specs.declared.command.Command.{Command}
use Rattle.snb_handlers.specs.Table.{HasAll, IsFirstUnhandled}
use Rattle.snb_tool_words.specs.CommandFacts.{beside_of, folder_of, needs_table}
use Rattle.snb_walk.specs.declared.target.Pick.{Pick}

-- what a call is given beside its words: a table of handlers, of which these kinds of reads have
-- one, and a policy, which picks so
pub record Connector : Type 0 where
  pub kinds : List ReadKind
  pub pick : Pick

-- it, where a call is given one
abbrev pub Given : Type 0
Given = Option Connector

-- what a command finds: the first kind of read without a handler in the table that it asks, how the
-- policy picks, the files of its folder, and the file that it is given by name
pub record Found : Type 0 where
  pub missing : Option ReadKind
  pub pick : Pick
  pub held : Held
  pub beside : Option (List ℕ)

-- where a table is asked, this kind is the first without a handler in it, and none is where each
-- has one; and this is how the policy picks
abbrev pub IsConnectorTold : Bool → Given → Option ReadKind → Pick → Type 0
IsConnectorTold false given missing pick = Unit {0}
IsConnectorTold true given missing pick =
    IfSome given
    (λ c. MatchOption missing (HasAll c.kinds) (IsFirstUnhandled c.kinds) × (pick ≡ c.pick))

-- this is what the command finds, as far as it has a folder or a file by name and the shelf tells
-- what it holds, or it asks a table
abbrev pub IsFoundTold : Option Files → Given → Command → Found → Type 0
IsFoundTold contents given command found =
    IfSome (folder_of command) (λ folder. IsHeldTold contents folder found.held)
    × IfSome (beside_of command) (λ name. IfSome contents (λ files. found.beside ≡ files name))
    × IsConnectorTold (needs_table command) given found.missing found.pick
