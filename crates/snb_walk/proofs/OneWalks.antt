-- There is no second walk.
use Rattle.std.proofs.Common.{◌≡◌, ℕ, ◌+◌, List, [], ◌∷◌, length, Some, inl, inr, arith, refl, sym, subst}
use Rattle.std.specs.List.{AllZip, slice_get}
use Rattle.snb_schema.specs.declared.query.Query.{Query}
use Rattle.snb_schema.specs.declared.row.Row.{Row}
use Rattle.snb_ratio.specs.Chances.{ChanceFall}
use Rattle.snb_graph_model.specs.Graphs.{IsGraph}
use Rattle.snb_graph_model.specs.Soundness.{Sound}
use Rattle.snb_read_model.specs.ComplexReads.{IsAnswer}
use Rattle.snb_read_laws.specs.Laws.{OneAnswer}
use Rattle.snb_walk.specs.declared.target.Target.{Target}
use Rattle.snb_walk.specs.declared.target.Pick.{Pick}
use Rattle.snb_walk.specs.declared.target.Stop.{Stop}
use Rattle.snb_walk.specs.declared.target.Stop.TheVariants.{Chance, Words, Nowhere}
use Rattle.snb_walk.specs.Targets.{AnswerRows, WalkStep, reads_of, targets_in, targets_of}
use Rattle.snb_walk.specs.Walks.{GoesOn, IsStep, MayGo, OneWalk, Stops}

-- where a step may be taken, the walk doesn't stop
no_stop : (left : ℕ) (words : List ℕ) (i n : ℕ) (stop : Stop) → Stops left words i n stop → MayGo left words i n → ⊥
no_stop left words i n Chance (inl none) may = omega (arith, may.chance)
no_stop left words i n Chance (inr h) may = omega (arith, may.below)
no_stop left words i n Words h may = omega (arith, may.enough)
no_stop left words i n Nowhere h may = omega (arith, may.somewhere)

-- it stops for one reason
stops_once : (left : ℕ) (words : List ℕ) (i n : ℕ) (s s' : Stop) → Stops left words i n s → Stops left words i n s' → s ≡ s'
stops_once left words i n Chance Chance h k = refl
stops_once left words i n Words Words h k = refl
stops_once left words i n Nowhere Nowhere h k = refl
stops_once left words i n Chance Words (inl h) k = absurd (omega arith)
stops_once left words i n Chance Words (inr h) k = absurd (omega arith)
stops_once left words i n Chance Nowhere (inl h) k = absurd (omega arith)
stops_once left words i n Chance Nowhere (inr h) k = absurd (omega arith)
stops_once left words i n Words Chance h (inl k) = absurd (omega arith)
stops_once left words i n Words Chance h (inr k) = absurd (omega arith)
stops_once left words i n Nowhere Chance h (inl k) = absurd (omega arith)
stops_once left words i n Nowhere Chance h (inr k) = absurd (omega arith)
stops_once left words i n Words Nowhere h k = absurd (omega arith)
stops_once left words i n Nowhere Words h k = absurd (omega arith)

pair_same : {A B : Type 0} (x y : A × B) → x.0 ≡ y.0 → x.1 ≡ y.1 → x ≡ y
pair_same (a, b) (c, d) e f = cc

same_got : {X : Type 0} (xs : List X) (k : ℕ) (x y : X) → slice_get xs k ≡ Some x → slice_get xs k ≡ Some y → x ≡ y
same_got xs k x y e f = cc

module _ (one : OneAnswer) (g : List Row) (graph : IsGraph g) (sound : Sound g) where
  one_reply : (reads : List Query) (xs ys : List AnswerRows) → AllZip (IsAnswer g) reads xs → AllZip (IsAnswer g) reads ys → xs ≡ ys
  one_reply [] [] [] h k = refl
  one_reply [] [] (b ∷ ys) h k = absurd k
  one_reply [] (a ∷ xs) ys h k = absurd h
  one_reply (q ∷ reads) [] bs h k = absurd h
  one_reply (q ∷ reads) (a ∷ xs) [] h k = absurd k
  one_reply (q ∷ reads) (a ∷ xs) (b ∷ ys) h k =
      let e : a ≡ b = one g q a b graph sound h.0 k.0 in
      let f : xs ≡ ys = one_reply reads xs ys h.1 k.1 in cc

  module _ (pick : Pick) (chance : ChanceFall) (words : List ℕ) where
    one_step : (i : ℕ) (targets : List Target) (x y : WalkStep) → IsStep g pick chance words i targets x → IsStep g pick chance words i targets y → x ≡ y
    one_step i targets x y h k =
        let e : x.0 ≡ y.0 = same_got targets _ x.0 y.0 h.picked k.picked in
        let there = subst (λ (t : Target). AllZip (IsAnswer g) (reads_of t) y.1) (sym e) k.answers in
        pair_same x y e (one_reply (reads_of x.0) x.1 y.1 h.answers there)

    one_from : (steps others : List WalkStep) (i : ℕ) (targets : List Target) (s s' : Stop)
        → GoesOn g pick chance words i targets steps s → GoesOn g pick chance words i targets others s' → (steps ≡ others) × (s ≡ s')
    one_from [] [] i targets s s' h k = (refl, stops_once _ words i (length targets) s s' h k)
    one_from [] (y ∷ ys) i targets s s' h k = absurd (no_stop _ words i (length targets) s h k.0.goes)
    one_from (x ∷ xs) [] i targets s s' h k = absurd (no_stop _ words i (length targets) s' k h.0.goes)
    one_from (x ∷ xs) (y ∷ ys) i targets s s' h k =
        let e : x ≡ y = one_step i targets x y h.0 k.0 in
        let there = subst (λ (z : WalkStep). GoesOn g pick chance words (i + 1) (targets_in (reads_of z.0) z.1) ys s') (sym e) k.1 in
        let r = one_from xs ys (i + 1) (targets_in (reads_of x.0) x.1) s s' h.1 there in
        let f : xs ≡ ys = r.0 in
        (cc, r.1)

pub one_walk : OneAnswer → OneWalk
one_walk one g pick chance words query graph sound answer other steps others s s' h k =
    let e : answer ≡ other = one g query answer other graph sound h.begins k.begins in
    let there = subst (λ (a : AnswerRows). GoesOn g pick chance words 0 (targets_of query a) others s') (sym e) k.goes in
    let r = one_from one g graph sound pick chance words steps others 0 (targets_of query answer) s s' h.goes there in
    record { begin = e; go_on = r.0; stop_at = r.1 }
