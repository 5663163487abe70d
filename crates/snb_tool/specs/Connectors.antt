-- What a call is given beside its words, as a contract sees it. Cited by contracts of private
-- functions alone.
use Rattle.std.specs.Prelude.{Option, None, Some}
use Rattle.std.specs.Borrow.{Bor}
use Rattle.snb_handlers.specs.declared.handlers.Handlers.{Handlers}
use Rattle.snb_handlers.specs.Table.{kinds}
use Rattle.snb_walk.specs.declared.policy.Policy.{Policy}
use Rattle.snb_tool_outcome.specs.Found.{Connector, Given}

-- what a call is given: the kinds of a table, and the pick of a policy
abbrev pub connector_of : {I F P J G Q : _} → Handlers I F P → Policy J G Q → Connector
connector_of handlers policy = record { kinds = kinds handlers; pick = policy.pick }

-- the same where it may be given nothing
abbrev pub given_by : {I F P J G Q : _} → Option (Bor (Handlers I F P) × Bor (Policy J G Q)) → Given
given_by None = None
given_by (Some given) = Some (connector_of given.0.now given.1.now)
