use Rattle.std.proofs.Common.{List, Option, Some, None, Contains, MatchOption}
use Rattle.std.specs.List.{AllByRecursion}
use Rattle.snb_schema.specs.declared.query.ReadKind.{ReadKind}
use Rattle.snb_schema.proofs.Laws.{each_read}
use Rattle.snb_schema.specs.ReadKinds.{every_read}
use Rattle.snb_handlers.specs.Table.{HasAll, IsFirstUnhandled, IsFirstWithout}
use Rattle.snb_handlers.proofs.handlers.Handlers.missing.Goals as goal

told : (there : List ReadKind) (found : Option ReadKind) → MatchOption found (AllByRecursion (Contains there) every_read) (IsFirstWithout every_read there) → MatchOption found (HasAll there) (IsFirstUnhandled there)
told there None all = each_read (Contains there) all
told there (Some kind) first = first

pub returns : goal.returns
returns g c = told _ c.first_without.result c.first_without.ensures
