-- The order of the inserts of a stream.
use Rattle.std.specs.Prelude.{◌≡◌, ◌<◌, ◌≤◌, ◌++◌, ◌∷◌, ℕ, List, [], Option, None}
use Rattle.snb_base.specs.FirstOf.{FirstOf}
use Rattle.snb_schema.specs.declared.file.FileId.{FileId}
use Rattle.snb_schema.specs.declared.op.Line.{Line}
use Rattle.snb_schema.specs.declared.refusal.Refusal.{Refusal}
use Rattle.snb_schema.specs.declared.refusal.Refusal.TheVariants.{OutOfOrder}
use Rattle.snb_input_lines.specs.Sinks.{Refuses, Takes}

-- an insert whose t is no lower than the last leads to its t
abbrev pub OrderTakes : ℕ → Line → ℕ → Type 0
OrderTakes last x new = (last ≤ x.t) × (new ≡ x.t)

-- an insert is refused since its t is lower, or else as the sink refuses it
abbrev pub OrderRefuses : ℕ → FileId → Line → (Refusal → Type 0) → Refusal → Type 0
OrderRefuses last file x inner r =
    FirstOf ((λ q. (x.t < last) × (q ≡ OutOfOrder file x.number)) ∷ inner ∷ []) r

-- the inserts that were appended to a list, and the t of the last insert of the stream, or 0
pub record Ordered : Type 0 where
  pub last : ℕ
  pub items : List Line

-- these inserts, after this t
abbrev pub ordered : ℕ → List Line → Ordered
ordered last items = record { last = last; items = items }

-- an insert whose t is no lower than the last is appended
abbrev pub Follows : Takes Ordered Line
Follows old file x new = (old.last ≤ x.t) × (new.last ≡ x.t) × (new.items ≡ old.items ++ x ∷ [])

-- an insert whose t is lower than the last is out of order
abbrev pub FallsBehind : Refuses Ordered Line
FallsBehind old file x r = (x.t < old.last) × (r ≡ OutOfOrder file x.number)

-- nothing was appended
abbrev pub IsUnmoved : Ordered → Ordered → Type 0
IsUnmoved old new = new ≡ old

-- no end of a stream is refused
abbrev pub never_ends : Ordered → FileId → Option Refusal
never_ends at file = None
