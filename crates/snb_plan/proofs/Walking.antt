-- The updates among steps, one after the other.
use Rattle.std.proofs.Common.{◌≡◌, ℕ, ◌+◌, ◌<◌, ◌≤◌, true, false, List, [], ◌∷◌, ◌++◌, length, take, drop, get_or, Option, Some, None, ◌⊎◌, inl, inr, refl, sym, ap, ◌∙◌, subst, arith, append_assoc, length-append}
use Rattle.std.specs.Prelude.{if◌then◌else◌}
use Rattle.std.specs.List.{All, cons_option}
use Rattle.std.proofs.lemmas.Bool.{cases_Bool}
use Rattle.std.proofs.lemmas.List.{get_or_default, take_more}
use Rattle.std.proofs.lemmas.List.Elements.{All-cons, All-head, All-nil, All-tail, All-from_get_or}
use Rattle.std.proofs.lemmas.List.Kept.{AllPairs-cons}
use Rattle.std.proofs.Math.Seq.{get_or-append_seam}
use Rattle.snb_base.proofs.Laws.{pairs_head, pairs_tail, split_here}
use Rattle.snb_schema.specs.declared.key.Key.{Key}
use Rattle.snb_schema.specs.declared.op.Line.{Line}
use Rattle.snb_schema.specs.declared.refusal.Refusal.{Refusal}
use Rattle.snb_history.specs.declared.step.Step.{Step}
use Rattle.snb_schema.specs.Inserts.{keys_of}
use Rattle.snb_schema.specs.LineLanes.{LineLanes}
use Rattle.snb_history.specs.Schedule.{no_step}
use Rattle.snb_plan.specs.declared.added.Added.{Added}
use Rattle.snb_plan.specs.Added.{mark_of, HasMore, IsFine, IsMetBy, IsTakenBy}
use Rattle.snb_plan.specs.Closed.{Update, IsClosed, IsFirstWrong, IsWrongBy}
use Rattle.snb_schema.specs.declared.file.FileId.{FileId}
use Rattle.snb_plan.specs.Merging.{file_of, lane_of}
use Rattle.snb_plan.specs.Positions.{line_at}
use Rattle.snb_plan.specs.Scheduled.{update_at, updates_at, AreLines, StepsRise}
use Rattle.snb_plan.specs.Instances.{no_line}
use Rattle.snb_plan.proofs.ClosedLemmas.{Rises, Stands, first_wrong, stands_next}

-- ---- a list that is cut

take_front : (front rest : List Update) → take (length front) (front ++ rest) ≡ front
take_front [] rest = refl
take_front (x ∷ front) rest = ap (λ (xs : List Update). x ∷ xs) (take_front front rest)

take_one : (front : List Update) (u : Update) (rest : List Update) → take (length front + 1) (front ++ u ∷ rest) ≡ front ++ u ∷ []
take_one front u rest =
    let size : length (front ++ u ∷ []) ≡ length front + 1 = length-append front (u ∷ []) in
    ap (λ (n : ℕ). take n (front ++ u ∷ rest)) (sym size)
    ∙ ap (take (length (front ++ u ∷ []))) (sym (append_assoc front (u ∷ []) rest))
    ∙ take_front (front ++ u ∷ []) rest

-- some updates are first, the next is this one, and then come others
abbrev pub Follows : List Update → List Update → Update → Type 0
Follows all before u = (rest : List Update) × (all ≡ before ++ u ∷ rest)

here_in : (all before : List Update) (u : Update) → Follows all before u
    → (length before < length all) × (u ≡ get_or all (length before) u) × (take (length before) all ≡ before) × (take (length before + 1) all ≡ before ++ u ∷ [])
here_in all before u (rest, is) = (
  (let size = ap length is in let more = length-append before (u ∷ rest) in omega (arith, size, more)),
  sym (ap (λ (xs : List Update). get_or xs (length before) u) is ∙ get_or-append_seam before u rest u),
  ap (take (length before)) is ∙ take_front before (u ∷ rest),
  ap (take (length before + 1)) is ∙ take_one before u rest,
)

-- one update more, with which nothing is wrong
pub stands_more : (holds : Key → Type 0) (all before : List Update) (u : Update) (old new : Added) → Follows all before u → Stands holds all before old → IsFine holds old u
    → HasMore old (keys_of u.line.op) (mark_of u.lane u.line) new → Stands holds all (before ++ u ∷ []) new
stands_more holds all before u old new follows s fine more =
    let h = here_in all before u follows in
    subst (λ (xs : List Update). Stands holds all xs new) h.3
    (stands_next holds all (length before) u old new h.0 h.1 (subst (λ (xs : List Update). Stands holds all xs old) (sym h.2) s) fine more)

pub wrong_next : (holds : Key → Type 0) (all before : List Update) (u : Update) (added : Added) (r : Refusal) → Rises all → Follows all before u → Stands holds all before added
    → IsWrongBy (IsTakenBy holds added) (IsMetBy holds added) u r → IsFirstWrong holds all r
wrong_next holds all before u added r rises follows s wrong =
    let h = here_in all before u follows in
    first_wrong holds all (length before) u added r rises h.0 h.1 (subst (λ (xs : List Update). Stands holds all xs added) (sym h.2) s) wrong

-- ---- steps

updates_cons : (lanes : LineLanes) (s : Step) (steps : List Step) → updates_at lanes (s ∷ steps) ≡ cons_option (update_at lanes s) (updates_at lanes steps)
updates_cons lanes s steps = refl

cons_append : (o : Option Update) (us vs ws : List Update) → ws ≡ us ++ vs → cons_option o ws ≡ cons_option o us ++ vs
cons_append None us vs ws e = e
cons_append (Some u) us vs ws e = ap (λ (xs : List Update). u ∷ xs) e

updates_append : (lanes : LineLanes) (xs ys : List Step) → updates_at lanes (xs ++ ys) ≡ updates_at lanes xs ++ updates_at lanes ys
updates_append lanes [] ys = refl
updates_append lanes (x ∷ xs) ys = cons_append (update_at lanes x) (updates_at lanes xs) (updates_at lanes ys) (updates_at lanes (xs ++ ys)) (updates_append lanes xs ys)

-- the update of a step
abbrev pub step_update : LineLanes → Step → Update
step_update lanes s = record { lane = s.lane; file = file_of lanes s.lane; line = line_at lanes s.lane s.place }

at_update : (lanes : LineLanes) (s : Step) → s.query ≡ false → update_at lanes s ≡ Some (step_update lanes s)
at_update lanes s e = λ i. if e i then None else Some (step_update lanes s)

at_read : (lanes : LineLanes) (s : Step) → s.query ≡ true → update_at lanes s ≡ None
at_read lanes s e = λ i. if e i then None else Some (step_update lanes s)

-- the steps, cut at a place
cut : (steps : List Step) (k : ℕ) (d : Step) → k < length steps → steps ≡ take k steps ++ get_or steps k d ∷ drop (k + 1) steps
cut steps k d lt = sym (split_here steps k (get_or steps k d) lt (get_or_default steps k d (get_or steps k d) lt))

-- the update at a place follows those before it
pub follows_at : (lanes : LineLanes) (steps : List Step) (k : ℕ) (d : Step) → k < length steps → (get_or steps k d).query ≡ false
    → Follows (updates_at lanes steps) (updates_at lanes (take k steps)) (step_update lanes (get_or steps k d))
follows_at lanes steps k d lt update = (
  updates_at lanes (drop (k + 1) steps),
  ap (updates_at lanes) (cut steps k d lt)
      ∙ updates_append lanes (take k steps) (get_or steps k d ∷ drop (k + 1) steps)
      ∙ ap (λ (o : Option Update). updates_at lanes (take k steps) ++ cons_option o (updates_at lanes (drop (k + 1) steps))) (at_update lanes (get_or steps k d) update),
)

-- one step more, which is an update or a read
pub more_update : (lanes : LineLanes) (steps : List Step) (k : ℕ) (d : Step) → k < length steps → (get_or steps k d).query ≡ false
    → updates_at lanes (take (k + 1) steps) ≡ updates_at lanes (take k steps) ++ step_update lanes (get_or steps k d) ∷ []
more_update lanes steps k d lt update =
    ap (updates_at lanes) (take_more steps k d lt) ∙ updates_append lanes (take k steps) (get_or steps k d ∷ [])
    ∙ ap (λ (o : Option Update). updates_at lanes (take k steps) ++ cons_option o []) (at_update lanes (get_or steps k d) update)

append_nil : (xs : List Update) → xs ++ [] ≡ xs
append_nil [] = refl
append_nil (x ∷ xs) = ap (λ (ys : List Update). x ∷ ys) (append_nil xs)

pub more_read : (lanes : LineLanes) (steps : List Step) (k : ℕ) (d : Step) → k < length steps → (get_or steps k d).query ≡ true
    → updates_at lanes (take (k + 1) steps) ≡ updates_at lanes (take k steps)
more_read lanes steps k d lt read =
    ap (updates_at lanes) (take_more steps k d lt) ∙ updates_append lanes (take k steps) (get_or steps k d ∷ [])
    ∙ ap (λ (o : Option Update). updates_at lanes (take k steps) ++ cons_option o []) (at_read lanes (get_or steps k d) read)
    ∙ append_nil (updates_at lanes (take k steps))

-- ---- order of t

HasLine : LineLanes → Step → Type 0
HasLine lanes s = s.query ≡ false → s.t ≡ (line_at lanes s.lane s.place).t

all_after : (lanes : LineLanes) (t : ℕ) (steps : List Step) → All (HasLine lanes) steps → All (λ (s : Step). t ≤ s.t) steps → All (λ (u : Update). t ≤ u.line.t) (updates_at lanes steps)
unfolding HasLine
all_after lanes t [] lines after = All-nil (λ (u : Update). t ≤ u.line.t)
all_after lanes t (s ∷ steps) lines after =
    by (all_after lanes t steps (All-tail (HasLine lanes) s steps lines) (All-tail (λ (x : Step). t ≤ x.t) s steps after)) (cases_Bool s.query)
  where
    by : All (λ (u : Update). t ≤ u.line.t) (updates_at lanes steps) → (s.query ≡ true) ⊎ (s.query ≡ false) → All (λ (u : Update). t ≤ u.line.t) (updates_at lanes (s ∷ steps))
    by rest (inl read) = subst (λ (o : Option Update). All (λ (u : Update). t ≤ u.line.t) (cons_option o (updates_at lanes steps))) (sym (at_read lanes s read)) rest
    by rest (inr update) =
        subst (λ (o : Option Update). All (λ (u : Update). t ≤ u.line.t) (cons_option o (updates_at lanes steps))) (sym (at_update lanes s update))
        (All-cons (λ (u : Update). t ≤ u.line.t) (step_update lanes s) (updates_at lanes steps)
        (subst (λ (n : ℕ). t ≤ n) (All-head (HasLine lanes) s steps lines update) (All-head (λ (x : Step). t ≤ x.t) s steps after)) rest)

rises_all : (lanes : LineLanes) (steps : List Step) → All (HasLine lanes) steps → StepsRise steps → Rises (updates_at lanes steps)
unfolding HasLine
rises_all lanes [] lines rises = λ i j d below lt. absurd (omega (arith, lt))
rises_all lanes (s ∷ steps) lines rises =
    by (rises_all lanes steps (All-tail (HasLine lanes) s steps lines) (pairs_tail (λ (one other : Step). one.t ≤ other.t) s steps rises)) (cases_Bool s.query)
  where
    by : Rises (updates_at lanes steps) → (s.query ≡ true) ⊎ (s.query ≡ false) → Rises (updates_at lanes (s ∷ steps))
    by rest (inl read) = subst (λ (o : Option Update). Rises (cons_option o (updates_at lanes steps))) (sym (at_read lanes s read)) rest
    by rest (inr update) =
        subst (λ (o : Option Update). Rises (cons_option o (updates_at lanes steps))) (sym (at_update lanes s update))
        (AllPairs-cons (λ (u v : Update). u.line.t ≤ v.line.t) (step_update lanes s) (updates_at lanes steps)
        (subst (λ (n : ℕ). All (λ (u : Update). n ≤ u.line.t) (updates_at lanes steps)) (All-head (HasLine lanes) s steps lines update)
        (all_after lanes s.t steps (All-tail (HasLine lanes) s steps lines) (pairs_head (λ (one other : Step). one.t ≤ other.t) s steps rises)))
        rest)

-- the updates among steps are in order of t
pub updates_rise : (lanes : LineLanes) (steps : List Step) → AreLines lanes steps → StepsRise steps → Rises (updates_at lanes steps)
unfolding HasLine
updates_rise lanes steps lines rises =
    rises_all lanes steps (All-from_get_or (HasLine lanes) steps no_step (λ k lt update. (lines k lt update).at_t)) rises

-- where all are closed and kept, the updates are closed
pub closed_end : (holds : Key → Type 0) (all : List Update) (added : Added) → Stands holds all all added → IsClosed holds all
closed_end holds all added s = record { each = s.closed }

-- the update that is tried is the step's
pub tried : (lanes : LineLanes) (s : Step) (file : FileId) (lines : List Line) (line : Line) → file ≡ file_of lanes s.lane → lines ≡ lane_of lanes s.lane → s.place < length (lane_of lanes s.lane)
    → line ≡ get_or lines s.place line → step_update lanes s ≡ record { lane = s.lane; file = file; line = line }
tried lanes s file lines line is_file is_lines within is =
    let here : line ≡ line_at lanes s.lane s.place = is ∙ ap (λ (ls : List Line). get_or ls s.place line) is_lines ∙ get_or_default (lane_of lanes s.lane) s.place line no_line within in
    λ i. record { lane = s.lane; file = sym is_file i; line = sym here i }
