-- What is asked of a command.
use Rattle.std.specs.Prelude.{ℕ, ◌≤◌, Bool, true, false, List, Option, None, Some}
use Rattle.snb_schema.specs.declared.limits.TheConstants.{MAX_TRIAL, MAX_WORKERS}
use Rattle.snb_tool_words.specs.declared.command.Command.{Command}
use Rattle.snb_tool_words.specs.declared.command.Command.TheVariants.{Check, Run, Audit, Latency, Expect, Validate, Read, Walk, Trial}
use Rattle.snb_tool_words.specs.declared.options.Via.TheVariants.{Table}

-- a run has from one to `MAX_WORKERS` workers, a trial too, and a size from one to `MAX_TRIAL`
abbrev pub IsRunnable : Command → Type 0
IsRunnable (Check folder frequencies) = Unit {0}
IsRunnable (Run folder workers ratio frequencies) = (1 ≤ workers) × (workers ≤ MAX_WORKERS)
IsRunnable (Audit folder log ratio frequencies) = Unit {0}
IsRunnable (Latency folder log ratio frequencies) = Unit {0}
IsRunnable (Expect folder frequencies) = Unit {0}
IsRunnable (Validate folder cases via) = Unit {0}
IsRunnable (Read folder query) = Unit {0}
IsRunnable (Walk folder query chance words) = Unit {0}
IsRunnable (Trial size workers) =
    (1 ≤ size) × (size ≤ MAX_TRIAL) × (1 ≤ workers) × (workers ≤ MAX_WORKERS)

-- the folder that a command reads, where it reads one
abbrev pub folder_of : Command → Option (List ℕ)
folder_of (Check folder frequencies) = Some folder
folder_of (Run folder workers ratio frequencies) = Some folder
folder_of (Audit folder log ratio frequencies) = Some folder
folder_of (Latency folder log ratio frequencies) = Some folder
folder_of (Expect folder frequencies) = Some folder
folder_of (Validate folder cases via) = Some folder
folder_of (Read folder query) = Some folder
folder_of (Walk folder query chance words) = Some folder
folder_of (Trial size workers) = None

-- the file that a command is given by name beside it, where it is given one
abbrev pub beside_of : Command → Option (List ℕ)
beside_of (Check folder frequencies) = None
beside_of (Run folder workers ratio frequencies) = None
beside_of (Audit folder log ratio frequencies) = Some log
beside_of (Latency folder log ratio frequencies) = Some log
beside_of (Expect folder frequencies) = None
beside_of (Validate folder cases via) = Some cases
beside_of (Read folder query) = None
beside_of (Walk folder query chance words) = None
beside_of (Trial size workers) = None

-- whether a command asks a table of handlers
abbrev pub needs_table : Command → Bool
needs_table (Validate folder cases Table) = true
needs_table (Walk folder query chance words) = true
needs_table _ = false

-- whether a command runs a plan: then it waits for a clock, and for its workers
abbrev pub command_waits : Command → Bool
command_waits (Run folder workers ratio frequencies) = true
command_waits (Trial size workers) = true
command_waits _ = false
