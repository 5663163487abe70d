-- A table of handlers, and the kinds of reads that have one.
use Rattle.std.specs.Prelude.{◌≡◌, ◌⊎◌, List, [], ◌∷◌, Contains, map}
use Rattle.snb_schema.specs.declared.query.ReadKind.{ReadKind}
use Rattle.snb_schema.specs.ReadKinds.{every_read}
use Rattle.snb_handlers.specs.declared.handler.Handler.{Handler}
use Rattle.snb_handlers.specs.declared.handlers.Handlers.{Handlers}

-- The type of a handler has three more arguments in the logic, for the closure that it keeps.

-- the handlers of a table, in the order in which they came
abbrev pub handlers_of : {I F P : _} → Handlers I F P → List (Handler I F P)
handlers_of table = table.items.items

-- the kinds of these handlers
abbrev pub handled_kinds : {I F P : _} → List (Handler I F P) → List ReadKind
handled_kinds handlers = map (λ handler. handler.kind) handlers

-- the kinds that have a handler
abbrev pub kinds : {I F P : _} → Handlers I F P → List ReadKind
kinds table = handled_kinds (handlers_of table)

-- each kind has one
abbrev pub HasAll : List ReadKind → Type 0
HasAll there = (kind : ReadKind) → Contains there kind

-- the kind is the first of these that has none
abbrev pub IsFirstWithout : List ReadKind → List ReadKind → ReadKind → Type 0
IsFirstWithout [] there kind = ⊥
IsFirstWithout (k ∷ ks) there kind =
    ((kind ≡ k) × ¬ Contains there k) ⊎ (Contains there k × IsFirstWithout ks there kind)

-- the kind has none, and each kind before it has one
abbrev pub IsFirstUnhandled : List ReadKind → ReadKind → Type 0
IsFirstUnhandled there kind = IsFirstWithout every_read there kind
