-- The replies before the place are to smaller operations, and those from it on to greater ones.
use Rattle.std.proofs.Common.{◌≡◌, ◌≢◌, ◌∙◌, ℕ, ◌+◌, ◌-◌, ◌<◌, ◌≤◌, List, length, get_or, inl, inr, ap, subst, sym, arith}
use Rattle.std.specs.Prelude.{All, AllPairs, insert}
use Rattle.std.proofs.lemmas.Bool.{cases_eq, cases_lt}
use Rattle.std.proofs.lemmas.List.Edits.{get_or-insert_above, get_or-insert_at, get_or-insert_below, length-insert}
use Rattle.snb_answered.specs.declared.done.Answered.{Answered}
use Rattle.snb_answered.proofs.done.Done.push.Goals as goal

module _ (xs : List Answered) (i : ℕ) (one : Answered) (within : i ≤ length xs) where
  abbrev op_at : Answered → ℕ → ℕ
  op_at d k = (get_or (insert xs i one) k d).op

  -- what stands before the place of an insert, there, and past it
  op_below : (d : Answered) (k : ℕ) → k < i → op_at d k ≡ (get_or xs k d).op
  op_below d k lt = ap (λ (x : Answered). x.op) (get_or-insert_below xs i one d k lt within)

  op_here : (d : Answered) (k : ℕ) → k ≡ i → op_at d k ≡ one.op
  op_here d k here = ap (op_at d) here ∙ ap (λ (x : Answered). x.op) (get_or-insert_at xs i one d within)

  op_past : (d : Answered) (k : ℕ) → i < k → op_at d k ≡ (get_or xs (k - 1) d).op
  op_past d k lt =
      let e : (k - 1) + 1 ≡ k = omega arith in
      subst (λ (m : ℕ). op_at d m ≡ (get_or xs (k - 1) d).op) e (ap (λ (x : Answered). x.op) (get_or-insert_above xs i one d (k - 1) (omega arith) within))

  module _ (rise : (j k : ℕ) (d : Answered) → j < k → k < length xs → (get_or xs j d).op < (get_or xs k d).op) (below : (k : ℕ) (d : Answered) → k < i → (get_or xs k d).op < one.op)
      (above : (k : ℕ) (d : Answered) → i ≤ k → k < length xs → one.op < (get_or xs k d).op) where
    rising_insert : (j k : ℕ) (d : Answered) → j < k → k < length (insert xs i one) → op_at d j < op_at d k
    rising_insert j k d lt inside =
        let size = length-insert xs i one within in
        elim (cases_lt k i) [
          | inl before ↦ (
              let r : (get_or xs j d).op < (get_or xs k d).op = rise j k d lt (omega arith) in
              omega (arith, op_below d j (omega arith), op_below d k before, r))
          | inr past ↦ elim (cases_eq k i) [
            | inl here ↦ (
                let r : (get_or xs j d).op < one.op = below j d (omega arith) in
                omega (arith, op_below d j (omega arith), op_here d k here, r))
            | inr off ↦ (
                let b = op_past d k (omega arith) in
                elim (cases_lt j i) [
                  | inl early ↦ (
                      let r : (get_or xs j d).op < (get_or xs (k - 1) d).op = rise j (k - 1) d (omega arith) (omega arith) in
                      omega (arith, op_below d j early, b, r))
                  | inr late ↦ elim (cases_eq j i) [
                    | inl at ↦ (
                        let r : one.op < (get_or xs (k - 1) d).op = above (k - 1) d (omega arith) (omega arith) in
                        omega (arith, op_here d j at, b, r))
                    | inr later ↦ (
                        let r : (get_or xs (j - 1) d).op < (get_or xs (k - 1) d).op = rise (j - 1) (k - 1) d (omega arith) (omega arith) in
                        omega (arith, op_past d j (omega arith), b, r))
                  ]
                ])
          ]
        ]

-- a reply in its place, to an operation that has none yet
rising_added : (xs : List Answered) (i : ℕ) (one : Answered) → i ≤ length xs → AllPairs (λ a b. a.op < b.op) xs → All (λ other. other.op ≢ one.op) xs →
    ((k : ℕ) (d : Answered) → k < i → (get_or xs k d).op ≤ one.op) → ((k : ℕ) (d : Answered) → i ≤ k → k < length xs → one.op < (get_or xs k d).op) →
    AllPairs (λ a b. a.op < b.op) (insert xs i one)
rising_added xs i one within rise new below above =
    rising_insert xs i one within rise (λ k d lt. let le = below k d lt in let off = new k d (omega arith) in omega (arith, le, off)) above

pub invariant_of-self-2 : goal.invariant_of-self-2
invariant_of-self-2 c =
    let same = c.in_ok-insert.ensures.items ∙ ap (λ (xs : List Answered). insert xs c.place_of-place.result c.args.one) c.self.view_is in
    subst (AllPairs (λ (a b : Answered). a.op < b.op)) (sym same)
    (rising_added c.args.self.now c.place_of-place.result c.args.one c.place_of-place.ensures.within (subst (AllPairs (λ (a b : Answered). a.op < b.op)) c.self.view_is c.self.invariant) c.requires.new
    c.place_of-place.ensures.before c.place_of-place.ensures.after)
