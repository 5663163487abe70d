-- There is a walk.
use Rattle.std.proofs.Common.{ℕ, zero, suc, ◌+◌, ◌*◌, ◌≤◌, ◌⊎◌, List, [], ◌∷◌, length, slice_index, inl, inr, arith}
use Rattle.std.proofs.lemmas.Bool.{cases_lt}
use Rattle.snb_schema.specs.declared.query.Query.{Query}
use Rattle.snb_schema.specs.declared.row.Row.{Row}
use Rattle.snb_ratio.specs.Chances.{ChanceFall}
use Rattle.snb_graph_model.specs.Graphs.{IsGraph}
use Rattle.snb_graph_model.specs.Soundness.{Sound}
use Rattle.snb_read_model.specs.ComplexReads.{IsAnswer}
use Rattle.snb_read_laws.proofs.Laws.{some_zip}
use Rattle.snb_read_laws.specs.Laws.{SomeReply}
use Rattle.snb_walk.specs.declared.target.Target.{Target}
use Rattle.snb_walk.specs.declared.target.Pick.{Pick}
use Rattle.snb_walk.specs.declared.target.Stop.{Stop}
use Rattle.snb_walk.specs.declared.target.Stop.TheVariants.{Chance, Words, Nowhere}
use Rattle.snb_walk.specs.Picks.{index_of}
use Rattle.snb_walk.specs.Targets.{AnswerRows, WalkStep, reads_of, targets_in, targets_of}
use Rattle.snb_walk.specs.Walks.{GoesOn, IsStep, MayGo, SomeWalk, Stops, drawn, left_before}
use Rattle.snb_walk.proofs.Going.{index_of-below}
use Rattle.snb_base.proofs.Laws.{some_got}

-- a step may be taken, or the walk stops
decide : (left : ℕ) (words : List ℕ) (i n : ℕ) → MayGo left words i n ⊎ ((stop : Stop) × Stops left words i n stop)
decide left words i n = elim (cases_lt 0 left) [
  | inr none ↦ inr (Chance, inl (omega arith))
  | inl some ↦ elim (cases_lt (length words) (2 * i + 2)) [
    | inl few ↦ inr (Words, (some, few))
    | inr enough ↦ elim (cases_lt (drawn i words) left) [
      | inr high ↦ inr (Chance, inr (enough, high))
      | inl below ↦ elim (cases_lt 0 n) [
        | inl somewhere ↦ inl record { chance = some; enough = enough; below = below; somewhere = somewhere }
        | inr nowhere ↦ inr (Nowhere, (below, enough, omega arith))
      ]
    ]
  ]
]

module _ (some : SomeReply) (g : List Row) (graph : IsGraph g) (sound : Sound g) (pick : Pick) (chance : ChanceFall) (words : List ℕ) where
  some_answer : (query : Query) → (answer : AnswerRows) × IsAnswer g query answer
  some_answer query = let (reply, is) = some g query graph sound in (is.own, is.answer)

  -- the step that may be taken
  some_step : (i : ℕ) (targets : List Target) → MayGo (left_before i chance) words i (length targets) → (step : WalkStep) × IsStep g pick chance words i targets step
  some_step i targets may =
      let below = index_of-below pick (length targets) (slice_index words (2 * i + 1)) may.somewhere in
      let (target, picked) = some_got targets (index_of pick (length targets) (slice_index words (2 * i + 1))) below in
      let (reply, answers) = some_zip (IsAnswer g) (reads_of target) (λ query there. some_answer query) in
      ((target, reply), record { goes = may; picked = picked; answers = answers })

  -- by induction on what is left of the chance
  some_from : 1 ≤ chance.down → (left i : ℕ) (targets : List Target) → left_before i chance ≤ left
      → (steps : List WalkStep) × (stop : Stop) × GoesOn g pick chance words i targets steps stop
  some_from falls zero i targets small = elim (decide (left_before i chance) words i (length targets)) [
    | inl may ↦ absurd (omega (arith, may.chance))
    | inr (stop, is) ↦ ([], stop, is)
  ]
  some_from falls (suc left) i targets small = elim (decide (left_before i chance) words i (length targets)) [
    | inl may ↦ (
        let (step, is) = some_step i targets may in
        let less : left_before (i + 1) chance ≤ left = omega (arith, may.chance) in
        let (steps, stop, goes) = some_from falls left (i + 1) (targets_in (reads_of step.0) step.1) less in
        (step ∷ steps, stop, (is, goes)))
    | inr (stop, is) ↦ ([], stop, is)
  ]

pub some_walk : SomeReply → SomeWalk
some_walk some g pick chance words query graph sound falls =
    let (answer, begins) = some_answer some g graph sound pick chance words query in
    let (steps, stop, goes) = some_from some g graph sound pick chance words falls chance.start 0 (targets_of query answer) (omega arith) in
    (answer, steps, stop, record { begins = begins; goes = goes })
