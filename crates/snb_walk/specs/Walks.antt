-- Walks of short reads.
use Rattle.std.specs.Prelude.{◌≡◌, ℕ, ◌+◌, ◌-◌, ◌*◌, ◌/◌, ◌%◌, ◌<◌, ◌≤◌, ◌⊎◌, List, [], ◌∷◌, length, slice_get, slice_index, Some, Contains}
use Rattle.std.specs.List.{AllZip}
use Rattle.snb_schema.specs.declared.query.Query.{Query}
use Rattle.snb_schema.specs.declared.row.Row.{Row}
use Rattle.snb_ratio.specs.Chances.{ChanceFall}
use Rattle.snb_ratio.specs.declared.chance.TheConstants.{CERTAIN}
use Rattle.snb_graph_model.specs.Graphs.{IsGraph}
use Rattle.snb_graph_model.specs.Soundness.{Sound}
use Rattle.snb_read_model.specs.ComplexReads.{IsAnswer}
use Rattle.snb_walk.specs.declared.target.Target.{Target}
use Rattle.snb_walk.specs.declared.target.Pick.{Pick}
use Rattle.snb_walk.specs.declared.target.Stop.{Stop}
use Rattle.snb_walk.specs.declared.target.Stop.TheVariants as stops
use Rattle.snb_walk.specs.Picks.{index_of}
use Rattle.snb_walk.specs.Targets.{AnswerRows, WalkStep, reads_of, targets_in, targets_of}

-- what is left of the chance before step i, counted from 0, in millionths; 0 where it would be
-- below
abbrev pub left_before : ℕ → ChanceFall → ℕ
left_before i chance = chance.start - i * chance.down

-- both words of step i are there
abbrev pub HasWords : ℕ → List ℕ → Type 0
HasWords i words = 2 * i + 2 ≤ length words

-- what the first word of step i draws, in millionths
abbrev pub drawn : ℕ → List ℕ → ℕ
drawn i words = slice_index words (2 * i) % CERTAIN

-- step i may be taken, with so much left of the chance and so many targets: its first word draws
-- below the chance
pub record MayGo (left : ℕ) (words : List ℕ) (i count : ℕ) : Type 0 where
  pub chance : 0 < left
  pub enough : HasWords i words
  pub below : drawn i words < left
  pub somewhere : 0 < count

-- why a walk stops before step i, with so much left of the chance and so many targets: the first of
-- no chance, no words, a draw that isn't below the chance, and no targets
abbrev pub Stops : ℕ → List ℕ → ℕ → ℕ → Stop → Type 0
Stops left words i count stops.Chance = (left ≡ 0) ⊎ (HasWords i words × (left ≤ drawn i words))
Stops left words i count stops.Words = (0 < left) × (length words < 2 * i + 2)
Stops left words i count stops.Nowhere = (drawn i words < left) × HasWords i words × (count ≡ 0)

module _ (g : List Row) (pick : Pick) (chance : ChanceFall) (words : List ℕ) where
  -- step i may be taken, goes to the target that is picked, and has the answers to the reads of
  -- that
  pub record IsStep (i : ℕ) (targets : List Target) (step : WalkStep) : Type 0 where
    pub goes : MayGo (left_before i chance) words i (length targets)
    pub picked : slice_get targets (index_of pick (length targets) (slice_index words (2 * i + 1)))
        ≡ Some step.0
    pub answers : AllZip (IsAnswer g) (reads_of step.0) step.1

  -- from step i on, with these targets, the walk takes these steps and stops for this
  abbrev pub GoesOn : ℕ → List Target → List WalkStep → Stop → Type 0
  GoesOn i targets [] stop = Stops (left_before i chance) words i (length targets) stop
  GoesOn i targets (step ∷ steps) stop =
      IsStep i targets step × GoesOn (i + 1) (targets_in (reads_of step.0) step.1) steps stop

  -- the walk of a query begins with its answer, and goes on from the targets of that
  pub record IsWalk (query : Query) (answer : AnswerRows) (steps : List WalkStep) (stop : Stop)
      : Type 0 where
    pub begins : IsAnswer g query answer
    pub goes : GoesOn 0 (targets_of query answer) steps stop

-- each target is among those of the answers just before it
abbrev pub StoodBefore : List Target → List WalkStep → Type 0
StoodBefore targets [] = Unit {0}
StoodBefore targets (step ∷ steps) =
    Contains targets step.0 × StoodBefore (targets_in (reads_of step.0) step.1) steps

-- in every walk each target stood among those of the answers just before it
abbrev pub TargetsStood : Type 0
TargetsStood =
    (g : List Row) (pick : Pick) (chance : ChanceFall) (words : List ℕ)
    → (query : Query) (answer : AnswerRows) (steps : List WalkStep) (stop : Stop)
    → IsWalk g pick chance words query answer steps stop
    → StoodBefore (targets_of query answer) steps

-- no walk has more steps than the chance has falls: the first chance divided by what it falls by,
-- rounded up
abbrev pub WalksAreShort : Type 0
WalksAreShort =
    (g : List Row) (pick : Pick) (chance : ChanceFall) (words : List ℕ)
    → (query : Query) (answer : AnswerRows) (steps : List WalkStep) (stop : Stop)
    → 1 ≤ chance.down → IsWalk g pick chance words query answer steps stop
    → length steps ≤ (chance.start + chance.down - 1) / chance.down

-- on a sound graph there is a walk of each query, under each pick, each chance that falls, and any
-- words
abbrev pub SomeWalk : Type 0
SomeWalk =
    (g : List Row) (pick : Pick) (chance : ChanceFall) (words : List ℕ) (query : Query)
    → IsGraph g → Sound g → 1 ≤ chance.down
    → (answer : AnswerRows) × (steps : List WalkStep) × (stop : Stop)
    × IsWalk g pick chance words query answer steps stop

-- one walk and another begin, go on and stop alike
pub record AreOne (answer other : AnswerRows) (steps others : List WalkStep) (stop end : Stop)
    : Type 0 where
  pub begin : answer ≡ other
  pub go_on : steps ≡ others
  pub stop_at : stop ≡ end

-- and there is no second one
abbrev pub OneWalk : Type 0
OneWalk =
    (g : List Row) (pick : Pick) (chance : ChanceFall) (words : List ℕ) (query : Query)
    → IsGraph g → Sound g
    → (answer other : AnswerRows) (steps others : List WalkStep) (stop end : Stop)
    → IsWalk g pick chance words query answer steps stop
    → IsWalk g pick chance words query other others end
    → AreOne answer other steps others stop end
