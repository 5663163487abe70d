-- What stands before the place rises up to the last, and what stands from it on is to greater operations.
use Rattle.std.proofs.Common.{◌≡◌, ◌≢◌, ℕ, ◌-◌, ◌<◌, ◌≤◌, Bool, true, false, List, length, get_or, nat_eq, inl, inr, refl, sym, ap, ◌∙◌, arith}
use Rattle.std.specs.Prelude.{All, AllPairs, Any, MatchBool}
use Rattle.std.proofs.lemmas.Bool.{cases_eq, cases_lt}
use Rattle.std.proofs.lemmas.Bool.Decides.{nat_tests}
use Rattle.std.proofs.lemmas.List.{get_or_read_under}
use Rattle.snb_answered.specs.declared.done.Answered.{Answered}
use Rattle.snb_answered.proofs.done.Done.has.Goals as goal

-- where the last reply before the place is to another operation, all are
pub none_there : (xs : List Answered) (place op : ℕ) → AllPairs (λ a b. a.op < b.op) xs → place ≤ length xs → ((k : ℕ) (d : Answered) → k < place → (get_or xs k d).op ≤ op)
    → ((k : ℕ) (d : Answered) → place ≤ k → k < length xs → op < (get_or xs k d).op) → ((d : Answered) → 0 < place → (get_or xs (place - 1) d).op ≢ op) → All (λ other. other.op ≢ op) xs
none_there xs place op rise within before after last k d lt =
    elim (cases_lt k place) [
      | inr late ↦ (let g = after k d late lt in λ same. omega arith)
      | inl early ↦ elim (cases_eq k (place - 1)) [
        | inl here ↦ (λ same. last d (omega arith) (let l = before (place - 1) d (omega arith) in cc))
        | inr off ↦ (
            let r : (get_or xs k d).op < (get_or xs (place - 1) d).op = rise k (place - 1) d (omega arith) (omega arith) in
            let l = before (place - 1) d (omega arith) in
            λ same. omega arith)
      ]
    ]

-- the last reply before the place tells whether there is one
has_or_not : (xs : List Answered) (place op : ℕ) (one : Answered) → AllPairs (λ a b. a.op < b.op) xs → place ≤ length xs → ((k : ℕ) (d : Answered) → k < place → (get_or xs k d).op ≤ op)
    → ((k : ℕ) (d : Answered) → place ≤ k → k < length xs → op < (get_or xs k d).op) → 0 < place → one ≡ get_or xs (place - 1) one → (b : Bool) → nat_eq one.op op ≡ b
    → MatchBool b (Any (λ other. other.op ≡ op) xs) (All (λ other. other.op ≢ op) xs)
has_or_not xs place op one rise within before after some is true e =
    let same : one.op ≡ op = grind (arith, nat_tests) in
    (place - 1, one, omega arith, sym is, same)
has_or_not xs place op one rise within before after some is false e =
    none_there xs place op rise within before after (λ d first same.
    let here : one ≡ get_or xs (place - 1) d = get_or_read_under xs (place - 1) (length xs) one d is (omega arith) refl in
    let same : one.op ≡ op = ap (λ (a : Answered). a.op) here ∙ same in
    let other : nat_eq one.op op ≡ true = grind (arith, nat_tests) in
    cc)

pub returns-then-place-gt0 : goal.returns-then-place-gt0
returns-then-place-gt0 c =
    has_or_not c.args.self.now c.place_of-place.result c.args.op c.index.result.now (rw (← c.self.view_is) c.self.invariant) c.place_of-place.ensures.within c.place_of-place.ensures.before c.place_of-place.ensures.after
    c.if-place-gt0.true (rw (← c.self.view_is) c.index.ensures) _ refl
