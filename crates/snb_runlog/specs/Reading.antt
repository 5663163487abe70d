-- What a reader of a log knows.
use Rattle.std.specs.Prelude.{◌≡◌, None, IfSome}
use Rattle.snb_history.specs.declared.logged.Header.{Header}
use Rattle.snb_input_lines.specs.Feeding.{Reader}
use Rattle.snb_runlog.specs.Columns.{CanBeHeader}

-- a reader that keeps no fault knows a header that a log can have, or none yet
abbrev pub KnowsHeader : {G : Type 0} → Reader G Header → Type 0
KnowsHeader r = r.fault ≡ None → IfSome r.known CanBeHeader
