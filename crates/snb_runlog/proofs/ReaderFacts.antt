-- What a reader of a log knows.
use Rattle.std.proofs.Common.{◌≡◌, List, Option, Some, None, ◌∙◌, Result, Ok, Err, OnOk, refl, ap, ℕ}
use Rattle.snb_history.specs.declared.logged.Header.{Header}
use Rattle.snb_history.specs.declared.logged.Logged.{Logged}
use Rattle.snb_schema.specs.declared.fault.Fault.{Fault}
use Rattle.snb_schema.specs.declared.fault.Fault.TheVariants.{Bad, Memory}
use Rattle.snb_schema.specs.Faults.{OnBad}
use Rattle.snb_input_lines.specs.Feeding.{KeepsFault, OnMemory, Reader}
use Rattle.snb_input_lines.specs.Lists.{HasAppended, HasAppendedSome, HasStoppedAfter}
use Rattle.snb_runlog.specs.Lines.{log_language}
use Rattle.snb_runlog.specs.Reading.{KnowsHeader}
use Rattle.snb_runlog.proofs.BackFacts.{knows_header}

-- an error leaves a fault
keeps : {G A S : Type 0} (fault : Fault) (lines : List (List ℕ)) (old new : Reader G Header) (had has : List Logged) (s t : S) (before : Option Fault) → old.fault ≡ before → KeepsFault {A = A} (Err fault) old s new t
    → (old.fault ≡ None → OnBad {A = A} (Err fault) (HasStoppedAfter log_language lines old had new has)) → (old.fault ≡ None → OnMemory {A = A} (Err fault) (HasAppendedSome log_language lines old had new has)) → new.fault ≡ None → ⊥
keeps fault lines old new had has s t (Some f) e kept bad memory none = (let same = (kept f e).1 in let now : new.fault ≡ Some f = ap (λ (r : Reader _ Header). r.fault) same ∙ e in cc)
keeps (Bad r) lines old new had has s t None e kept bad memory none = (let now = (bad e).kept in cc)
keeps Memory lines old new had has s t None e kept bad memory none = (let now = (memory e).kept in cc)

-- a reader that was fed knows a header that a log can have, where it did before
pub fed_knows : {G A S : Type 0} (result : Result A Fault) (lines : List (List ℕ)) (old new : Reader G Header) (had has : List Logged) (s t : S) → KeepsFault result old s new t → OnOk result (old.fault ≡ None)
    → OnOk result (HasAppended log_language lines old had new has) → (old.fault ≡ None → OnBad result (HasStoppedAfter log_language lines old had new has)) → (old.fault ≡ None → OnMemory result (HasAppendedSome log_language lines old had new has))
    → KnowsHeader old → KnowsHeader new
fed_knows (Ok a) lines old new had has s t kept good ok bad memory knows none = knows_header lines old.known new.known old.ended ok.items (knows good) ok.says
fed_knows (Err f) lines old new had has s t kept good ok bad memory knows none = absurd (keeps f lines old new had has s t old.fault refl kept bad memory none)
