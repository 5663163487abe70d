-- A walk goes on, step by step.
use Rattle.std.proofs.Common.{◌≡◌, ◌∙◌, ℕ, ◌+◌, ◌-◌, ◌*◌, ◌<◌, ◌≤◌, List, [], ◌∷◌, ◌++◌, length, get_or, slice_index, Some, arith, append_assoc, sym, ap, subst}
use Rattle.std.proofs.lemmas.Option.{slice_get_read}
use Rattle.std.specs.List.{slice_get}
use Rattle.snb_schema.specs.declared.row.Row.{Row}
use Rattle.snb_ratio.specs.Chances.{ChanceFall}
use Rattle.snb_ratio.specs.declared.chance.TheConstants.{CERTAIN}
use Rattle.snb_walk.specs.declared.target.Target.{Target}
use Rattle.snb_walk.specs.declared.target.Pick.{Pick}
use Rattle.snb_walk.specs.declared.target.Pick.TheVariants.{Modulo, Last}
use Rattle.snb_walk.specs.declared.target.Stop.{Stop}
use Rattle.snb_walk.specs.Picks.{index_of}
use Rattle.snb_walk.specs.Targets.{HaveAnswers, WalkStep, reads_of, targets_in}
use Rattle.snb_walk.specs.Walks.{GoesOn, IsStep, MayGo, Stops, left_before}
use Rattle.snb_walk.proofs.Answering.{append_none}

-- the picked index is that of one of the targets
pub index_of-below : (pick : Pick) (count word : ℕ) → 0 < count → index_of pick count word < count
index_of-below Modulo count word h = omega arith
index_of-below Last count word h = omega arith

-- what is left of the chance after one more step
pub falls_on : (chance : ChanceFall) (i left left' : ℕ) → left ≡ left_before i chance → left' ≡ left - chance.down → left' ≡ left_before (i + 1) chance
falls_on chance i left left' l e = omega arith

-- and it bounds the number of steps
pub few_on : (i left left' down : ℕ) → 0 < left → 1 ≤ down → left' ≡ left - down → i + left ≤ CERTAIN → i + 1 + left' ≤ CERTAIN
few_on i left left' down p d e f = omega arith

module _ (g : List Row) (pick : Pick) (chance : ChanceFall) (words : List ℕ) where
  -- these steps are taken from the first targets on: whatever goes on from here makes a walk from there
  pub record LeadsTo (first : List Target) (done : List WalkStep) (i : ℕ) (targets : List Target) : Type 0 where
    pub rest : (tail : List WalkStep) (stop : Stop) → GoesOn g pick chance words i targets tail stop → GoesOn g pick chance words 0 first (done ++ tail) stop

  -- one more step
  pub leads_on : (first : List Target) (done done' : List WalkStep) (i : ℕ) (targets next : List Target) (step : WalkStep)
      → IsStep g pick chance words i targets step → next ≡ targets_in (reads_of step.0) step.1 → done' ≡ done ++ step ∷ []
      → LeadsTo first done i targets → LeadsTo first done' (i + 1) next
  leads_on first done done' i targets next step is listed push leads = record {
    rest = λ tail stop goes.
        let further = subst (λ (ts : List Target). GoesOn g pick chance words (i + 1) ts tail stop) listed goes in
        let whole = leads.rest (step ∷ tail) stop (is, further) in
        let joined : done ++ step ∷ tail ≡ done' ++ tail = sym (append_assoc done (step ∷ []) tail) ∙ ap (λ ds. ds ++ tail) (sym push) in
        subst (λ (ds : List WalkStep). GoesOn g pick chance words 0 first ds stop) joined whole;
  }

  -- the walk, where it stops
  pub leads_out : (first : List Target) (done : List WalkStep) (i : ℕ) (targets : List Target) (left count : ℕ) (stop : Stop)
      → left ≡ left_before i chance → count ≡ length targets → Stops left words i count stop
      → LeadsTo first done i targets → GoesOn g pick chance words 0 first done stop
  leads_out first done i targets left count stop l c stops leads =
      let here = subst (λ (n : ℕ). Stops n words i (length targets) stop) l (subst (λ (n : ℕ). Stops left words i n stop) c stops) in
      subst (λ (ds : List WalkStep). GoesOn g pick chance words 0 first ds stop) (append_none done) (leads.rest [] stop here)

  -- a step that may be taken, to the target at the picked index
  pub is_step : (i left count at : ℕ) (targets next : List Target) (step : WalkStep)
      → left ≡ left_before i chance → count ≡ length targets → MayGo left words i count
      → at ≡ index_of pick count (slice_index words (2 * i + 1)) → step.0 ≡ get_or targets at step.0
      → HaveAnswers g (reads_of step.0) step.1 next → IsStep g pick chance words i targets step
  is_step i left count at targets next step l c may a read have =
      let below : index_of pick count (slice_index words (2 * i + 1)) < count = index_of-below pick count (slice_index words (2 * i + 1)) may.somewhere in
      let within : at < count = subst (λ (k : ℕ). k < count) (sym a) below in
      let same = a ∙ ap (λ (k : ℕ). index_of pick k (slice_index words (2 * i + 1))) c in
      record {
        goes = subst (λ (n : ℕ). MayGo n words i (length targets)) l (subst (λ (n : ℕ). MayGo left words i n) c may);
        picked = subst (λ (k : ℕ). slice_get targets k ≡ Some step.0) same (slice_get_read targets count at step.0 c within read);
        answers = have.answers;
      }
