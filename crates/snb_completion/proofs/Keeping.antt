-- What the times of a plan keep, after a start and after a finish.
use Rattle.std.proofs.Common.{◌≡◌, ℕ, ◌+◌, ◌<◌, ◌≤◌, Bool, true, false, ◌&&◌, not, cond, List, [], ◌∷◌, ◌++◌, length, length-append, get_or, set, replicate, refl, sym, ap, ◌∙◌, subst, inl, inr, arith, eqb, ltb, BTreeSet}
use Rattle.std.specs.Prelude.{◌==◌, ℤ, pos, ◌-ℤ◌}
use Rattle.std.proofs.lemmas.Int.{ints}
use Rattle.snb_schema.specs.declared.limits.TheConstants.{MAX_TIME}
use Rattle.std.specs.BTreeMap.{is_at}
use Rattle.std.specs.Ordering.{nat_cmp}
use Rattle.std.proofs.lemmas.Bool.{cases_eq, cases_lt, ne_eqb, eqb-true, and_parts, and_left, ltb-true, lt-ltb}
use Rattle.std.proofs.lemmas.List.{get_or-set_same, get_or-set_other, get_or-replicate, get_or_past, length-replicate}
use Rattle.std.proofs.Math.ListN.{length-set, get_or-append}
use Rattle.std.proofs.Math.Seq.{get_or-append_seam}
use Rattle.snb_history.specs.Schedule.{Schedule, step_of, IsOperation, IsPlanned, is_dependency}
use Rattle.snb_history.specs.Completion.{is_left, least_t, time_before, time_left_in}
use Rattle.snb_completion.specs.declared.times.LaneTimes.{LaneTimes}
use Rattle.snb_completion.specs.Progress.{Progress, flag, nothing_started}
use Rattle.snb_completion.specs.Waiting.{has, HasThose, is_left_in, IsLaneOf, AreTimesOf}
use Rattle.snb_completion.proofs.Waits.{HasThose-same, HasThose-remove, least_t-none}
use Rattle.snb_history.proofs.Laws.{least_of-same}
use Rattle.snb_base.proofs.Laws.{get_or-set}

-- nothing is done at first
flag-none : (n k : ℕ) → flag (replicate n false) k ≡ false
flag-none n k =
    elim (cases_lt k n) [
      | inl lt ↦ get_or-replicate n k false false lt
      | inr ge ↦ get_or_past (replicate n false) k false (rw length-replicate ge)
    ]

left-none : (s : Schedule) (n k : ℕ) → is_dependency s k ≡ is_left s (flag (replicate n false)) k
left-none s n k = drop_not (is_dependency s k) (flag (replicate n false) k) (flag-none n k)
  where
    drop_not : (a b : Bool) → b ≡ false → a ≡ (a && not b)
    drop_not true b e = rw e refl
    drop_not false b e = refl

pub HasThose-plan : (s : Schedule) (waits : BTreeSet ℕ) (n : ℕ) → HasThose waits (length s.steps) (is_dependency s)
    → HasThose waits (length s.steps) (is_left s (flag (replicate n false)))
HasThose-plan s waits n those = HasThose-same waits (length s.steps) (is_dependency s) (is_left s (flag (replicate n false))) those (λ k lt. left-none s n k)

pub HasThose-in_lane : (s : Schedule) (waits : BTreeSet ℕ) (lane n : ℕ) → HasThose waits (length s.steps) (λ k. ((step_of s k).lane == lane) && is_dependency s k)
    → HasThose waits (length s.steps) (is_left_in s (flag (replicate n false)) lane)
HasThose-in_lane s waits lane n those =
    HasThose-same waits (length s.steps) (λ k. ((step_of s k).lane == lane) && is_dependency s k) (is_left_in s (flag (replicate n false)) lane) those
    (λ k lt. ap (λ b. ((step_of s k).lane == lane) && b) (left-none s n k))

-- what is left, where one operation more is done
left-one : (s : Schedule) (flags : List Bool) (op k : ℕ) → op < length flags
    → (is_left s (flag flags) k && not (eqb op k)) ≡ is_left s (flag (set flags op true)) k
left-one s flags op k lt =
    strip (is_dependency s k) (flag flags k) (eqb op k) ∙ ap (λ b. is_dependency s k && not b) (sym (get_or-set flags op k true false lt))
  where
    strip : (a b here : Bool) → ((a && not b) && not here) ≡ (a && not (cond here true b))
    strip true true true = refl
    strip true true false = refl
    strip true false true = refl
    strip true false false = refl
    strip false b here = refl

left_in-one : (s : Schedule) (flags : List Bool) (op lane k : ℕ) → op < length flags
    → (is_left_in s (flag flags) lane k && not (eqb op k)) ≡ is_left_in s (flag (set flags op true)) lane k
left_in-one s flags op lane k lt =
    regroup ((step_of s k).lane == lane) (is_left s (flag flags) k) (not (eqb op k)) ∙ ap (λ b. ((step_of s k).lane == lane) && b) (left-one s flags op k lt)
  where
    regroup : (a b c : Bool) → ((a && b) && c) ≡ (a && (b && c))
    regroup true b c = refl
    regroup false b c = refl

-- an operation of another lane is none that a lane waits for
left_in-other : (s : Schedule) (flags : List Bool) (op lane k : ℕ) → op < length flags → ((step_of s op).lane ≡ lane → ⊥)
    → is_left_in s (flag flags) lane k ≡ is_left_in s (flag (set flags op true)) lane k
left_in-other s flags op lane k lt other =
    keep (is_left_in s (flag flags) lane k) (eqb op k)
    (λ left here. other (let parts = and_parts ((step_of s k).lane == lane) (is_left s (flag flags) k) left in
    ap (λ (i : ℕ). (step_of s i).lane) (eqb-true op k here) ∙ eqb-true (step_of s k).lane lane parts.0))
    ∙ left_in-one s flags op lane k lt
  where
    keep : (a here : Bool) → (a ≡ true → here ≡ true → ⊥) → a ≡ (a && not here)
    keep true true never = absurd (never refl refl)
    keep true false never = refl
    keep false here never = refl

-- the set without the operation, where the operation is done
pub plan_without : (s : Schedule) (flags : List Bool) (old new : BTreeSet ℕ) (op : ℕ) → op < length flags
    → HasThose old (length s.steps) (is_left s (flag flags)) → ((k : ℕ) → has new k ≡ cond (is_at (nat_cmp op) k) false (has old k))
    → HasThose new (length s.steps) (is_left s (flag (set flags op true)))
plan_without s flags old new op lt those updates =
    HasThose-same new (length s.steps) (λ k. is_left s (flag flags) k && not (eqb op k)) (is_left s (flag (set flags op true)))
    (HasThose-remove old new (length s.steps) op (is_left s (flag flags)) those updates)
    (λ k below. left-one s flags op k lt)

pub lane_without : (s : Schedule) (flags : List Bool) (old new : BTreeSet ℕ) (op lane : ℕ) → op < length flags
    → HasThose old (length s.steps) (is_left_in s (flag flags) lane) → ((k : ℕ) → has new k ≡ cond (is_at (nat_cmp op) k) false (has old k))
    → HasThose new (length s.steps) (is_left_in s (flag (set flags op true)) lane)
lane_without s flags old new op lane lt those updates =
    HasThose-same new (length s.steps) (λ k. is_left_in s (flag flags) lane k && not (eqb op k)) (is_left_in s (flag (set flags op true)) lane)
    (HasThose-remove old new (length s.steps) op (is_left_in s (flag flags) lane) those updates)
    (λ k below. left_in-one s flags op lane k lt)

pub lane_apart : (s : Schedule) (flags : List Bool) (waits : BTreeSet ℕ) (op lane : ℕ) → op < length flags → ((step_of s op).lane ≡ lane → ⊥)
    → HasThose waits (length s.steps) (is_left_in s (flag flags) lane)
    → HasThose waits (length s.steps) (is_left_in s (flag (set flags op true)) lane)
lane_apart s flags waits op lane lt other those =
    HasThose-same waits (length s.steps) (is_left_in s (flag flags) lane) (is_left_in s (flag (set flags op true)) lane) those
    (λ k below. left_in-other s flags op lane k lt other)

-- each lane is as it was, but for the one that has changed
each_lane : (P : ℕ → LaneTimes → Type 0) (lanes : List LaneTimes) (lane : ℕ) (new : LaneTimes) → lane < length lanes → P lane new
    → ((l : ℕ) (d : LaneTimes) → l < length lanes → (lane ≡ l → ⊥) → P l (get_or lanes l d))
    → (l : ℕ) (d : LaneTimes) → l < length (set lanes lane new) → P l (get_or (set lanes lane new) l d)
each_lane P lanes lane new within here others l d lt =
    elim (cases_eq lane l) [
      | inl same ↦
          subst (λ (x : LaneTimes). P l x) (sym (ap (λ (j : ℕ). get_or (set lanes lane new) j d) (sym same) ∙ get_or-set_same lanes lane new d within))
          (subst (λ (j : ℕ). P j new) same here)
      | inr other ↦
          subst (λ (x : LaneTimes). P l x) (sym (get_or-set_other lanes lane l new d (λ q. other (sym q))))
          (others l d (rw length-set at lt) other)
    ]

pub AreTimesOf-start : (p : Progress) (waits unstarted : BTreeSet ℕ) (lanes : List LaneTimes) (old : LaneTimes) (op : ℕ) → AreTimesOf p waits lanes
    → IsOperation p.schedule op → old ≡ get_or lanes (step_of p.schedule op).lane old
    → ((k : ℕ) → has unstarted k ≡ cond (is_at (nat_cmp op) k) false (has old.unstarted k))
    → AreTimesOf (record { schedule = p.schedule; started = set p.started op true; finished = p.finished }) waits
    (set lanes (step_of p.schedule op).lane (record { unstarted = unstarted; unfinished = old.unfinished }))
AreTimesOf-start p waits unstarted lanes old op kept within is updates =
    let s : Schedule = p.schedule in
    let lane : ℕ = (step_of s op).lane in
    let new : LaneTimes = record { unstarted = unstarted; unfinished = old.unfinished } in
    let p' : Progress = record { schedule = s; started = set p.started op true; finished = p.finished } in
    let flag_in : op < length p.started = (let e = kept.started_each in omega arith) in
    let lane_in : lane < length lanes = (let e = kept.lanes_each in let i = kept.planned.in_lanes op within in omega arith) in
    let was : IsLaneOf p lane old = subst (λ (x : LaneTimes). IsLaneOf p lane x) (sym is) (kept.lane lane old lane_in) in
    record {
      planned = kept.planned;
      started_each = length-set p.started op true ∙ kept.started_each;
      finished_each = kept.finished_each;
      plan = kept.plan;
      lanes_each = length-set lanes lane new ∙ kept.lanes_each;
      lane = each_lane (IsLaneOf p') lanes lane new lane_in
          (record { unstarted = lane_without s p.started old.unstarted unstarted op lane flag_in was.unstarted updates; unfinished = was.unfinished })
          (λ l d lt other. let k = kept.lane l d lt in record { unstarted = lane_apart s p.started (get_or lanes l d).unstarted op l flag_in other k.unstarted; unfinished = k.unfinished });
    }

pub AreTimesOf-finish : (p : Progress) (waits waits' unfinished : BTreeSet ℕ) (lanes : List LaneTimes) (old : LaneTimes) (op : ℕ) → AreTimesOf p waits lanes
    → IsOperation p.schedule op → old ≡ get_or lanes (step_of p.schedule op).lane old
    → ((k : ℕ) → has waits' k ≡ cond (is_at (nat_cmp op) k) false (has waits k))
    → ((k : ℕ) → has unfinished k ≡ cond (is_at (nat_cmp op) k) false (has old.unfinished k))
    → AreTimesOf (record { schedule = p.schedule; started = p.started; finished = set p.finished op true }) waits'
    (set lanes (step_of p.schedule op).lane (record { unstarted = old.unstarted; unfinished = unfinished }))
AreTimesOf-finish p waits waits' unfinished lanes old op kept within is updates updates_in =
    let s : Schedule = p.schedule in
    let lane : ℕ = (step_of s op).lane in
    let new : LaneTimes = record { unstarted = old.unstarted; unfinished = unfinished } in
    let p' : Progress = record { schedule = s; started = p.started; finished = set p.finished op true } in
    let flag_in : op < length p.finished = (let e = kept.finished_each in omega arith) in
    let lane_in : lane < length lanes = (let e = kept.lanes_each in let i = kept.planned.in_lanes op within in omega arith) in
    let was : IsLaneOf p lane old = subst (λ (x : LaneTimes). IsLaneOf p lane x) (sym is) (kept.lane lane old lane_in) in
    record {
      planned = kept.planned;
      started_each = kept.started_each;
      finished_each = length-set p.finished op true ∙ kept.finished_each;
      plan = plan_without s p.finished waits waits' op flag_in kept.plan updates;
      lanes_each = length-set lanes lane new ∙ kept.lanes_each;
      lane = each_lane (IsLaneOf p') lanes lane new lane_in
          (record { unstarted = was.unstarted; unfinished = lane_without s p.finished old.unfinished unfinished op lane flag_in was.unfinished updates_in })
          (λ l d lt other. let k = kept.lane l d lt in record { unstarted = k.unstarted; unfinished = lane_apart s p.finished (get_or lanes l d).unfinished op l flag_in other k.unfinished });
    }

-- a member of a set of operations is an operation
pub member_within : (waits : BTreeSet ℕ) (n : ℕ) (p : ℕ → Bool) → HasThose waits n p → (k : ℕ) → has waits k ≡ true → k < n
member_within waits n p those k member = ltb-true k n (and_parts (ltb k n) (p k) (sym (those.each k) ∙ member)).0

-- the time that a set tells
pub time_is : (s : Schedule) (p : ℕ → Bool) (waits : BTreeSet ℕ) (time : ℤ) → HasThose waits (length s.steps) p → time ≡ time_before s (has waits) → time ≡ time_before s p
time_is s p waits time those is =
    is ∙ ap (λ (n : ℕ). pos n -ℤ pos 1)
    (least_of-same (λ k. (step_of s k).t) (MAX_TIME + 1) (has waits) p (length s.steps)
    (λ k lt. those.each k ∙ (let below : ltb k (length s.steps) ≡ true = lt-ltb k (length s.steps) lt in rw below refl)))

-- a lane that isn't there waits for nothing
pub time_past : (s : Schedule) (done : ℕ → Bool) (lane : ℕ) → IsPlanned s → length s.kinds ≤ lane → pos MAX_TIME ≡ time_left_in s done lane
time_past s done lane planned past =
    let top : least_t s (is_left_in s done lane) ≡ MAX_TIME + 1 =
    least_t-none s (is_left_in s done lane)
    (λ k lt. and_left ((step_of s k).lane == lane) (is_left s done k) (ne_eqb (step_of s k).lane lane (λ same. let i = planned.in_lanes k lt in omega arith))) in
    omega (arith, ints, top)

-- what the times of a plan keep at first
pub AreTimesOf-new : (s : Schedule) (waits : BTreeSet ℕ) (lanes : List LaneTimes) → IsPlanned s → HasThose waits (length s.steps) (is_dependency s)
    → length lanes ≡ length s.kinds → ((l : ℕ) (d : LaneTimes) → l < length lanes → IsLaneOf (nothing_started s) l (get_or lanes l d))
    → AreTimesOf (nothing_started s) waits lanes
AreTimesOf-new s waits lanes planned those counted each = record {
  planned = planned;
  started_each = length-replicate (length s.steps) false;
  finished_each = length-replicate (length s.steps) false;
  plan = HasThose-plan s waits (length s.steps) those;
  lanes_each = counted;
  lane = each;
}

-- the two sets of a lane at first
pub IsLaneOf-new : (s : Schedule) (times : LaneTimes) (lane : ℕ) → HasThose times.unstarted (length s.steps) (λ k. ((step_of s k).lane == lane) && is_dependency s k)
    → HasThose times.unfinished (length s.steps) (λ k. ((step_of s k).lane == lane) && is_dependency s k) → IsLaneOf (nothing_started s) lane times
IsLaneOf-new s times lane unstarted unfinished = record {
  unstarted = HasThose-in_lane s times.unstarted lane (length s.steps) unstarted;
  unfinished = HasThose-in_lane s times.unfinished lane (length s.steps) unfinished;
}

-- one more lane
pub lanes_push : (P : ℕ → LaneTimes → Type 0) (lanes : List LaneTimes) (times : LaneTimes) → P (length lanes) times
    → ((l : ℕ) (d : LaneTimes) → l < length lanes → P l (get_or lanes l d))
    → (l : ℕ) (d : LaneTimes) → l < length (lanes ++ times ∷ []) → P l (get_or (lanes ++ times ∷ []) l d)
lanes_push P lanes times here before l d lt =
    elim (cases_lt l (length lanes)) [
      | inl below ↦ subst (λ (x : LaneTimes). P l x) (sym (get_or-append lanes (times ∷ []) d l below)) (before l d below)
      | inr last ↦
          let e : length lanes ≡ l = (let n = length-append lanes (times ∷ []) in omega arith) in
          subst (λ (j : ℕ). P j (get_or (lanes ++ times ∷ []) j d)) e
          (subst (λ (x : LaneTimes). P (length lanes) x) (sym (get_or-append_seam lanes times [] d)) here)
    ]
