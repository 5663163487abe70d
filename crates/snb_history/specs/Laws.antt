-- Laws of the definitions, over every schedule and every history.
use Rattle.std.specs.Prelude.{◌≡◌, ℕ, ◌+◌, ◌<◌, ◌≤◌, ◌↔◌, ◌⊎◌, pos, ◌+ℤ◌, ◌≤ℤ◌, ◌<ℤ◌, List, ◌∷◌, ◌++◌, true, false, Some, None, count_by, filter}
use Rattle.std.specs.List.{list_any, position_or_len}
use Rattle.snb_schema.specs.declared.limits.TheConstants.{MAX_TIME}
use Rattle.snb_history.specs.declared.event.Event.{Event}
use Rattle.snb_history.specs.declared.event.Event.TheVariants.{Start, Finish}
use Rattle.snb_history.specs.Schedule.{Schedule, step_of, IsOperation, IsBefore, IsTimely, IsPlaced, is_dependency}
use Rattle.snb_history.specs.History.{starts, finishes, is_by, started, finished, halted, hand, holder, last}
use Rattle.snb_history.specs.Completion.{completion, local}
use Rattle.snb_history.specs.Rules.{Rule, Fits, IsCleared, IsLegal}
use Rattle.snb_history.specs.Violation.{Told, Breaks}

-- V5 holds of a dependent exactly where its t_d isn't above the completion time
abbrev pub CompletionDecides : Type 0
CompletionDecides =
    (s : Schedule) (h : List Event) (op : ℕ) → (step_of s op).t_d ≤ MAX_TIME →
    IsCleared s h op ↔ ((step_of s op).dependent ≡ true → pos (step_of s op).t_d ≤ℤ completion s h)

-- more events never lower the completion time, whatever they are
abbrev pub CompletionRises : Type 0
CompletionRises = (s : Schedule) (g h : List Event) → completion s g ≤ℤ completion s (g ++ h)

-- the completion time is below the t of each dependency that isn't finished
abbrev pub CompletionWaits : Type 0
CompletionWaits =
    (s : Schedule) (h : List Event) (k : ℕ) → is_dependency s k ≡ true → finished h k ≡ false
    → completion s h <ℤ pos (step_of s k).t

-- and it is no lower than it has to be: it is MAX_TIME, or one below the t of such a dependency
abbrev pub CompletionIsReached : Type 0
CompletionIsReached =
    (s : Schedule) (h : List Event) →
    (completion s h ≡ pos MAX_TIME)
    ⊎ ((k : ℕ) × (is_dependency s k ≡ true) × (finished h k ≡ false)
    × (completion s h +ℤ pos 1 ≡ pos (step_of s k).t))

-- in a legal history each operation starts at most once and finishes at most once
abbrev pub OnceEach : Type 0
OnceEach =
    (s : Schedule) (workers : ℕ) (h : List Event) → IsLegal s workers h →
    (k : ℕ) → (count_by (starts k) h ≤ 1) × (count_by (finishes k) h ≤ 1)

-- a Finish comes after the Start, which is the same worker's
abbrev pub FinishFollows : Type 0
FinishFollows =
    (s : Schedule) (workers : ℕ) (h : List Event) → IsLegal s workers h →
    (g rest : List Event) (op worker at front : ℕ) → g ++ Finish op worker at front ∷ rest ≡ h →
    (before : List Event) × (between : List Event) × (moment : ℕ)
    × (before ++ Start op worker moment ∷ between ≡ g)

-- what a worker has in hand in a legal history is what it has started and nobody has finished
abbrev pub HandIsOpen : Type 0
HandIsOpen =
    (s : Schedule) (workers : ℕ) (h : List Event) → IsLegal s workers h → (k : ℕ) →
    ((started h k ≡ true) × (finished h k ≡ false)) ↔ ((w : ℕ) × (hand h w ≡ Some k))

-- in a legal history a worker has in hand what it has itself started and what isn't finished
abbrev pub HandIsTheirs : Type 0
HandIsTheirs =
    (s : Schedule) (workers : ℕ) (h : List Event) → IsLegal s workers h → (w k : ℕ) →
    (hand h w ≡ Some k)
    ↔ (((before : List Event) × (after : List Event) × (at : ℕ)
    × (before ++ Start k w at ∷ after ≡ h)) × (finished h k ≡ false))

-- and the worker that holds an operation is the one that has it in hand
abbrev pub HolderHolds : Type 0
HolderHolds =
    (s : Schedule) (workers : ℕ) (h : List Event) → IsLegal s workers h → (k w : ℕ)
    → (holder h k ≡ Some w) ↔ (hand h w ≡ Some k)

-- what a worker has in hand, and whether it has halted, is told by its own events
abbrev pub HandIsOwn : Type 0
HandIsOwn =
    (h : List Event) (w : ℕ) → (hand (filter (is_by w) h) w ≡ hand h w)
    × (halted (filter (is_by w) h) w ≡ halted h w)

-- where nobody has an operation in hand, nobody has halted and not all is started, there is an
-- unstarted operation, due no later than any other, that may start
abbrev pub NeverStuck : Type 0
NeverStuck =
    (s : Schedule) (workers : ℕ) (h : List Event) → IsTimely s → IsLegal s workers h →
    ((w : ℕ) → hand h w ≡ None) → ((w : ℕ) → halted h w ≡ false) → (k : ℕ) → IsOperation s k
    → started h k ≡ false →
    (op : ℕ)
    × IsOperation s op
    × (started h op ≡ false)
    × ((j : ℕ) → IsOperation s j → started h j ≡ false → (step_of s op).due ≤ (step_of s j).due)
    × ((worker at : ℕ) → worker < workers → (step_of s op).due ≤ at → last h ≤ at
    → Fits s workers h (Start op worker at))

-- an event fits, or it breaks a first rule
abbrev pub FitsOrBreaks : Type 0
FitsOrBreaks =
    (s : Schedule) (workers : ℕ) (h : List Event) (e : Event) →
    Fits s workers h e ⊎ ((r : Rule) × (values : Told) × Breaks s workers h e r values)

-- the first rule that an event breaks is one, and so are its values
abbrev pub BreaksOne : Type 0
BreaksOne =
    (s : Schedule) (workers : ℕ) (h : List Event) (e : Event) (q r : Rule) (one other : Told) →
    Breaks s workers h e q one → Breaks s workers h e r other → (q ≡ r) × (one ≡ other)

-- the completion time is the least of the local ones: it is above none, and one lane reaches it
-- where it isn't MAX_TIME
abbrev pub CompletionIsLocal : Type 0
CompletionIsLocal =
    (s : Schedule) (h : List Event) →
    ((lane : ℕ) → completion s h ≤ℤ local s h lane)
    × ((completion s h ≡ pos MAX_TIME) ⊎ ((lane : ℕ) × (local s h lane ≡ completion s h)))

-- a Start keeps its number when events follow
abbrev pub StartStays : Type 0
StartStays =
    (g h : List Event) (k : ℕ) → started g k ≡ true
    → position_or_len (starts k) (g ++ h) ≡ position_or_len (starts k) g

-- numbers rise along a lane with the places
abbrev pub BeforeIsByPlace : Type 0
BeforeIsByPlace =
    (s : Schedule) (j k : ℕ) → IsPlaced s → IsOperation s j → IsOperation s k →
    IsBefore s j k
    ↔ (((step_of s j).lane ≡ (step_of s k).lane) × ((step_of s j).place < (step_of s k).place))

-- a Finish that fits goes on fitting, at a later moment, while other workers' events follow
abbrev pub FinishStays : Type 0
FinishStays =
    (s : Schedule) (workers : ℕ) (g more : List Event) (op worker at later front : ℕ) →
    Fits s workers g (Finish op worker at front) → list_any (is_by worker) more ≡ false
    → last (g ++ more) ≤ later →
    Fits s workers (g ++ more) (Finish op worker later front)
