-- Facts on the log of a run.
use Rattle.std.proofs.Common.{◌≡◌, ◌∙◌, ◌≤◌, ◌<◌, ◌+◌, ◌*◌, ◌++◌, ◌∷◌, ◌==◌, ℕ, suc, List, [], All, length, get_or, take, refl, sym, ap, subst, inl, inr, arith, append_assoc, length-append}
use Rattle.std.specs.Prelude.{Contains}
use Rattle.std.specs.Fmt.{decimal}
use Rattle.std.specs.Prelude.{codes}
use Rattle.std.proofs.lemmas.Bool.{cases_Bool}
use Rattle.std.proofs.lemmas.Fmt.{length-decimal-le}
use Rattle.std.proofs.lemmas.List.{length-map, map-append}
use Rattle.std.proofs.lemmas.Grind.{flat_map-append}
use Rattle.std.proofs.lemmas.List.Elements.{All-cons, All-contains, All-head, All-map, All-nil, All-tail, Contains-get_or}
use Rattle.std.proofs.Math.Seq.{take-suc}
use Rattle.snb_history.specs.declared.event.Event.{Event}
use Rattle.snb_history.specs.declared.event.Event.TheVariants.{Start, Finish, Halt}
use Rattle.snb_history.specs.declared.logged.Logged.{Logged}
use Rattle.snb_schema.specs.declared.limits.TheConstants.{MAX_AT, MAX_BYTES, MAX_WORKERS}
use Rattle.snb_history.specs.History.{moment}
use Rattle.snb_history.specs.ScheduleLaws.{LegalIsShort}
use Rattle.snb_history.specs.Rules.{IsLegal, V1, V8}
use Rattle.snb_history.specs.RunTexts.{event_text, header_line, header_of, log_text, logged_line}
use Rattle.snb_history.specs.declared.step.Step.{Step}
use Rattle.snb_history.specs.Schedule.{IsPlanned, Schedule, max_steps, step_of}
use Rattle.snb_plan.specs.Plans.{Plan, schedule_of}
use Rattle.snb_runlog.specs.declared.columns.TheConstants.{LAST_VERSION, MAX_NUMBER}
use Rattle.snb_runlog.specs.Columns.{CanBeLogged, HasCount}
use Rattle.snb_runlog.specs.Laws.{ReadsBack}
use Rattle.snb_runlog.specs.WriteLaws.{RunReadsBack}
use Rattle.snb_runlog.specs.Writing.{AreCounted, logged_text}
use Rattle.snb_replica.specs.Counts.{HasRightCount, IsCount, TellsCounts, logged_by, logged_of, rows_by}
use Rattle.snb_answered.specs.declared.done.Answered.{Answered}
use Rattle.snb_miscount.specs.Laws.{OneCount}
use Rattle.snb_workers.specs.Laws.{FinishesAreOfOperations}
use Rattle.snb_audit_model.specs.Miscounts.{IsFirstMiscount}
use Rattle.snb_workers_replay.specs.Laws.{IsReplayed}
use Rattle.snb_graph_model.specs.Graphs.{IsGraph}
use Rattle.snb_graph_model.specs.Soundness.{Sound}
use Rattle.snb_schema.specs.declared.row.Row.{Row}
use Rattle.snb_base.proofs.Laws.{at_contains}
use Rattle.std.specs.Prelude.{Option, None, Some}
use Rattle.snb_replica.specs.Replicas.{IfFinish}

-- ---- what a log can tell of a run

-- what is so of each event of a list, after those of a front, is so of all
each_event : (P : Event → Type 0) (front h : List Event) → ((g : List Event) (e : Event) (rest : List Event) → g ++ e ∷ rest ≡ front ++ h → P e) → All P h
each_event P front [] holds = All-nil P
each_event P front (e ∷ h) holds = All-cons P e h (holds front e h refl) (each_event P (front ++ e ∷ []) h (λ g d rest q. holds g d rest (q ∙ append_assoc front (e ∷ []) h)))

-- no count is greater than one that a log can have
small_rows : (replies : List Answered) (op : ℕ) → All (λ a. a.rows ≤ MAX_NUMBER) replies → rows_by replies op ≤ MAX_NUMBER
small_rows [] op small = omega arith
small_rows (a ∷ replies) op small =
    elim (cases_Bool (a.op == op)) [
      | inl same ↦ rw same (All-head (λ (a : Answered). a.rows ≤ MAX_NUMBER) a replies small)
      | inr other ↦ rw other (small_rows replies op (All-tail (λ (a : Answered). a.rows ≤ MAX_NUMBER) a replies small))
    ]

module _ (s : Schedule) (workers : ℕ) (h : List Event) (replies : List Answered) (legal : IsLegal s workers h) (few : workers ≤ MAX_WORKERS) (steps : length s.steps ≤ max_steps)
    (short : length h ≤ 2 * length s.steps + workers) (small : All (λ a. a.rows ≤ MAX_NUMBER) replies) where
  -- the front of a Finish of a legal history is no greater than the history
  front_within : (g : List Event) (op worker at front : ℕ) (rest : List Event) → g ++ Finish op worker at front ∷ rest ≡ h → front ≤ MAX_NUMBER
  front_within g op worker at front rest is =
      let v8 = (legal.fits g (Finish op worker at front) rest is).obeys V8 in
      let long : length g ≤ length h = subst (λ (l : List Event). length g ≤ length l) is (omega (arith, length-append g (Finish op worker at front ∷ rest))) in
      elim (cases_Bool (step_of s op).query) [
        | inl read ↦ let f = (v8.of_read read).1 in omega arith
        | inr insert ↦ let f = v8.of_insert insert in omega arith
      ]

  can_be_logged : (g : List Event) (e : Event) (rest : List Event) → g ++ e ∷ rest ≡ h → CanBeLogged LAST_VERSION (logged_by replies e)
  can_be_logged g (Start op worker at) rest is =
      let v1 = (legal.fits g (Start op worker at) rest is).obeys V1 in
      let op_within = v1.0 in
      let worker_within = v1.1.known in
      (omega arith, omega arith, (omega arith, omega arith, (omega arith, legal.bounded g (Start op worker at) rest is, tt)))
  can_be_logged g (Finish op worker at front) rest is =
      let v1 = (legal.fits g (Finish op worker at front) rest is).obeys V1 in
      let op_within = v1.0 in
      let worker_within = v1.1.known in
      (omega arith, omega arith, (omega arith, omega arith, (omega arith, legal.bounded g (Finish op worker at front) rest is, (omega arith, front_within g op worker at front rest is, (omega arith, small_rows replies op small, tt)))))
  can_be_logged g (Halt worker) rest is =
      let v1 = (legal.fits g (Halt worker) rest is).obeys V1 in
      let worker_within = v1.known in
      (omega arith, omega arith, tt)

-- the log of a run is read as what it was written of
pub run_back : RunReadsBack → LegalIsShort → (plan : Plan) (workers : ℕ) (h : List Event) (replies : List Answered) → IsLegal (schedule_of plan) workers h → 1 ≤ workers → workers ≤ MAX_WORKERS
    → IsPlanned (schedule_of plan) → All (λ a. a.rows ≤ MAX_NUMBER) replies → ReadsBack (header_of workers (length plan.operations)) (logged_of replies h)
run_back back is_short plan workers h replies legal some few planned small =
    let many : length (schedule_of plan).steps ≡ length plan.operations = length-map plan.operations _ in
    let steps = planned.few_steps in
    back workers (length plan.operations) (logged_of replies h) some few (omega arith)
    (All-map (CanBeLogged LAST_VERSION) (logged_by replies) h
    (each_event (λ e. CanBeLogged LAST_VERSION (logged_by replies e)) [] h
    (can_be_logged (schedule_of plan) workers h replies legal few planned.few_steps (is_short (schedule_of plan) workers h legal) small)))

-- ---- how long it is

-- what is no greater than less
widen : (a b c : ℕ) → a ≤ b → b ≤ c → a ≤ c
widen a b c p q = omega (arith, p, q)

-- texts one after the other
short_append : (a b : List ℕ) (m n : ℕ) → length a ≤ m → length b ≤ n → length (a ++ b) ≤ m + n
short_append a b m n p q = omega (arith, length-append a b, p, q)

-- a number of an event
short_number : (n : ℕ) → n ≤ MAX_NUMBER → length (decimal n) ≤ 10
short_number n low = length-decimal-le 10 n (omega arith) (omega (arith, low)) (omega (arith, low))

short_worker : (n : ℕ) → n ≤ MAX_WORKERS → length (decimal n) ≤ 1
short_worker n low = length-decimal-le 1 n (omega arith) (omega (arith, low)) (omega (arith, low))

short_at : (n : ℕ) → n ≤ MAX_AT → length (decimal n) ≤ 19
short_at n low = length-decimal-le 19 n (omega arith) (omega (arith, low)) (omega (arith, low))

-- the line of an event
short_start : (op worker at : ℕ) → op ≤ MAX_NUMBER → worker ≤ MAX_WORKERS → at ≤ MAX_AT → length (logged_line (record { event = Start op worker at; rows = None })) ≤ 57
short_start op worker at a b c =
    let number = short_append (codes "S|") (decimal op) 2 10 (omega arith) (short_number op a) in
    let first = short_append (codes "S|" ++ decimal op) (codes "|") 12 1 number (omega arith) in
    let who = short_append (codes "S|" ++ decimal op ++ codes "|") (decimal worker) 13 1 first (short_worker worker b) in
    let second = short_append (codes "S|" ++ decimal op ++ codes "|" ++ decimal worker) (codes "|") 14 1 who (omega arith) in
    let text = short_append (codes "S|" ++ decimal op ++ codes "|" ++ decimal worker ++ codes "|") (decimal at) 15 19 second (short_at at c) in
    let bare = short_append (event_text (Start op worker at)) [] 34 0 text (omega arith) in
    widen _ 35 57 (short_append (event_text (Start op worker at) ++ []) (codes "\n") 34 1 bare (omega arith)) (omega arith)

short_finish : (op worker at front rows : ℕ) → op ≤ MAX_NUMBER → worker ≤ MAX_WORKERS → at ≤ MAX_AT → front ≤ MAX_NUMBER → rows ≤ MAX_NUMBER
    → length (logged_line (record { event = Finish op worker at front; rows = Some rows })) ≤ 57
short_finish op worker at front rows a b c d e =
    let number = short_append (codes "F|") (decimal op) 2 10 (omega arith) (short_number op a) in
    let first = short_append (codes "F|" ++ decimal op) (codes "|") 12 1 number (omega arith) in
    let who = short_append (codes "F|" ++ decimal op ++ codes "|") (decimal worker) 13 1 first (short_worker worker b) in
    let second = short_append (codes "F|" ++ decimal op ++ codes "|" ++ decimal worker) (codes "|") 14 1 who (omega arith) in
    let moment = short_append (codes "F|" ++ decimal op ++ codes "|" ++ decimal worker ++ codes "|") (decimal at) 15 19 second (short_at at c) in
    let third = short_append (codes "F|" ++ decimal op ++ codes "|" ++ decimal worker ++ codes "|" ++ decimal at) (codes "|") 34 1 moment (omega arith) in
    let text = short_append (codes "F|" ++ decimal op ++ codes "|" ++ decimal worker ++ codes "|" ++ decimal at ++ codes "|") (decimal front) 35 10 third (short_number front d) in
    let count = short_append (codes "|") (decimal rows) 1 10 (omega arith) (short_number rows e) in
    let counted = short_append (event_text (Finish op worker at front)) (codes "|" ++ decimal rows) 45 11 text count in
    short_append (event_text (Finish op worker at front) ++ (codes "|" ++ decimal rows)) (codes "\n") 56 1 counted (omega arith)

short_halt : (worker : ℕ) → worker ≤ MAX_WORKERS → length (logged_line (record { event = Halt worker; rows = None })) ≤ 57
short_halt worker b =
    let text = short_append (codes "H|") (decimal worker) 2 1 (omega arith) (short_worker worker b) in
    let bare = short_append (event_text (Halt worker)) [] 3 0 text (omega arith) in
    widen _ 4 57 (short_append (event_text (Halt worker) ++ []) (codes "\n") 3 1 bare (omega arith)) (omega arith)

-- and lines together
short_lines : (xs : List Logged) → All (λ l. length (logged_line l) ≤ 57) xs → length (logged_text xs) ≤ 57 * length xs
short_lines [] short = omega arith
short_lines (l ∷ xs) short =
    let first = All-head (λ (x : Logged). length (logged_line x) ≤ 57) l xs short in
    let later = short_lines xs (All-tail (λ (x : Logged). length (logged_line x) ≤ 57) l xs short) in
    let both : length (logged_text (l ∷ xs)) ≡ length (logged_line l) + length (logged_text xs) = length-append (logged_line l) (logged_text xs) in
    omega (arith, both, first, later)

-- the header
short_header : (workers operations : ℕ) → workers ≤ MAX_WORKERS → operations ≤ MAX_NUMBER → length (header_line (header_of workers operations)) ≤ 30
short_header workers operations few low =
    let version = short_append (codes "snblog|") (decimal 2) 7 1 (omega arith) (short_worker 2 (omega arith)) in
    let bar = short_append (codes "snblog|" ++ decimal 2) (codes "|") 8 1 version (omega arith) in
    let who = short_append (codes "snblog|" ++ decimal 2 ++ codes "|") (decimal workers) 9 1 bar (short_worker workers few) in
    let count = short_append (codes "|") (decimal operations) 1 10 (omega arith) (short_number operations low) in
    let counted = short_append (codes "snblog|" ++ decimal 2 ++ codes "|" ++ decimal workers) (codes "|" ++ decimal operations) 10 11 who count in
    widen _ 22 30 (short_append (codes "snblog|" ++ decimal 2 ++ codes "|" ++ decimal workers ++ (codes "|" ++ decimal operations)) (codes "\n") 21 1 counted (omega arith)) (omega arith)

module _ (s : Schedule) (workers : ℕ) (h : List Event) (replies : List Answered) (legal : IsLegal s workers h) (few : workers ≤ MAX_WORKERS) (steps : length s.steps ≤ max_steps)
    (short : length h ≤ 2 * length s.steps + workers) (small : All (λ a. a.rows ≤ MAX_NUMBER) replies) where
  short_line : (g : List Event) (e : Event) (rest : List Event) → g ++ e ∷ rest ≡ h → length (logged_line (logged_by replies e)) ≤ 57
  short_line g (Start op worker at) rest is =
      let v1 = (legal.fits g (Start op worker at) rest is).obeys V1 in
      let op_within = v1.0 in
      let worker_within = v1.1.known in
      short_start op worker at (omega arith) (omega arith) (legal.bounded g (Start op worker at) rest is)
  short_line g (Finish op worker at front) rest is =
      let v1 = (legal.fits g (Finish op worker at front) rest is).obeys V1 in
      let op_within = v1.0 in
      let worker_within = v1.1.known in
      short_finish op worker at front (rows_by replies op) (omega arith) (omega arith) (legal.bounded g (Finish op worker at front) rest is)
      (front_within s workers h replies legal few steps short small g op worker at front rest is) (small_rows replies op small)
  short_line g (Halt worker) rest is =
      let v1 = (legal.fits g (Halt worker) rest is).obeys V1 in
      let worker_within = v1.known in
      short_halt worker (omega arith)

-- the log of a run is no longer than one that is read
pub run_fits : LegalIsShort → (plan : Plan) (workers : ℕ) (h : List Event) (replies : List Answered) → IsLegal (schedule_of plan) workers h → workers ≤ MAX_WORKERS
    → IsPlanned (schedule_of plan) → All (λ a. a.rows ≤ MAX_NUMBER) replies → length (log_text workers (length plan.operations) (logged_of replies h)) ≤ MAX_BYTES
run_fits is_short plan workers h replies legal few planned small =
    let s = schedule_of plan in
    let many : length s.steps ≡ length plan.operations = length-map plan.operations _ in
    let steps = planned.few_steps in
    let short = is_short s workers h legal in
    let each = each_event (λ e. length (logged_line (logged_by replies e)) ≤ 57) [] h (short_line s workers h replies legal few steps short small) in
    let all : All (λ l. length (logged_line l) ≤ 57) (logged_of replies h) = All-map (λ (l : Logged). length (logged_line l) ≤ 57) (logged_by replies) h each in
    let lines = short_lines (logged_of replies h) all in
    let count : length (logged_of replies h) ≡ length h = length-map h (logged_by replies) in
    let head = short_header workers (length plan.operations) few (omega arith) in
    let whole : length (log_text workers (length plan.operations) (logged_of replies h)) ≡ length (header_line (header_of workers (length plan.operations))) + length (logged_text (logged_of replies h)) =
    length-append (header_line (header_of workers (length plan.operations))) (logged_text (logged_of replies h)) in
    omega (arith, whole, lines, count, head, short, steps, few, many)

-- ---- the writing of it, line by line

-- an event with its count is one of a log of version 2
has_count : (replies : List Answered) (e : Event) → HasCount LAST_VERSION (logged_by replies e)
has_count replies (Start op worker at) = (λ some. absurd cc, λ both. absurd (let kind = both.1 in cc))
has_count replies (Finish op worker at front) = (λ some. (refl, refl), λ both. refl)
has_count replies (Halt worker) = (λ some. absurd cc, λ both. absurd (let kind = both.1 in cc))

same_moment : (replies : List Answered) (e : Event) → moment (logged_by replies e).event ≡ moment e
same_moment replies (Start op worker at) = refl
same_moment replies (Finish op worker at front) = refl
same_moment replies (Halt worker) = refl

module _ (plan : Plan) (workers : ℕ) (h xs : List Event) (legal : IsLegal (schedule_of plan) workers h) (are : xs ≡ h) (i : ℕ) (d : Event) (lt : i < length xs) where
  among : Contains h (get_or xs i d)
  among = subst (λ (l : List Event). Contains l (get_or xs i d)) are (Contains-get_or xs i d lt)

  -- there is a number of what an event finishes
  pub finish_counted : FinishesAreOfOperations → (steps : List Step) (schedule : Schedule) (n : ℕ) → schedule ≡ schedule_of plan → steps ≡ schedule.steps → n ≡ length steps
      → IfFinish (get_or xs i d) (λ op. op < n)
  finish_counted law steps schedule n schedule_is steps_are many =
      let same : n ≡ length plan.operations = many ∙ ap length steps_are ∙ ap (λ (s : Schedule). length s.steps) schedule_is ∙ length-map plan.operations _ in
      subst (λ (k : ℕ). IfFinish (get_or xs i d) (λ op. op < k)) (sym same) (law plan workers h (get_or xs i d) legal among)

  -- a line can be written
  pub one_counted : (replies : List Answered) (logged : Logged) → logged ≡ logged_by replies (get_or xs i d) → AreCounted (logged ∷ [])
  one_counted replies logged is =
      let e = get_or xs i d in
      record {
        timed =
            All-cons (λ (l : Logged). moment l.event ≤ MAX_AT) logged []
            (subst (λ (l : Logged). moment l.event ≤ MAX_AT) (sym is) (subst (λ (m : ℕ). m ≤ MAX_AT) (sym (same_moment replies e)) (All-contains (λ d. moment d ≤ MAX_AT) h e (each_event (λ d. moment d ≤ MAX_AT) [] h legal.bounded) among)))
            (All-nil (λ (l : Logged). moment l.event ≤ MAX_AT));
        counted = All-cons (HasCount LAST_VERSION) logged [] (subst (HasCount LAST_VERSION) (sym is) (has_count replies e)) (All-nil (HasCount LAST_VERSION));
      }

-- the lines so far, and one more
pub one_more : (replies : List Answered) (xs : List Event) (i : ℕ) (d : Event) (head old new : List ℕ) (logged : Logged) → i < length xs → old ≡ head ++ logged_text (logged_of replies (take i xs))
    → logged ≡ logged_by replies (get_or xs i d) → new ≡ old ++ logged_text (logged ∷ []) → new ≡ head ++ logged_text (logged_of replies (take (i + 1) xs))
one_more replies xs i d head old new logged lt was is more =
    more ∙ ap (λ (t : List ℕ). t ++ logged_text (logged ∷ [])) was ∙ append_assoc head (logged_text (logged_of replies (take i xs))) (logged_text (logged ∷ [])) ∙ ap (λ (t : List ℕ). head ++ t) (sym text)
  where
    taken : take (i + 1) xs ≡ take i xs ++ get_or xs i d ∷ []
    taken = let on : i + 1 ≡ suc i = omega arith in ap (λ (n : ℕ). take n xs) on ∙ take-suc xs i d lt

    text : logged_text (logged_of replies (take (i + 1) xs)) ≡ logged_text (logged_of replies (take i xs)) ++ logged_text (logged ∷ [])
    text =
        ap (λ (ys : List Event). logged_text (logged_of replies ys)) taken ∙ ap logged_text (map-append (logged_by replies) (take i xs) (get_or xs i d ∷ []))
        ∙ flat_map-append logged_line (logged_of replies (take i xs)) (logged_by replies (get_or xs i d) ∷ [])
        ∙ ap (λ (l : Logged). logged_text (logged_of replies (take i xs)) ++ logged_text (l ∷ [])) (sym is)

-- ---- its counts

-- of the counts of a run none is wrong
pub no_miscount : OneCount → (base : List Row) (plan : Plan) (workers : ℕ) (h : List Event) (logged : List Logged) → IsGraph base → Sound base → IsReplayed base plan
    → IsLegal (schedule_of plan) workers h → TellsCounts base plan h logged → IsFirstMiscount base plan logged None
no_miscount one base plan workers h logged graph sound replayed legal tells m miss =
    let right : HasRightCount base plan h miss.one = All-contains (HasRightCount base plan h) logged miss.one tells.counts (at_contains logged m.event miss.one miss.there) in
    let needs : IsCount base plan h miss.one.event m.needs = subst (λ (g : List Event). IsCount base plan g miss.one.event m.needs) tells.events miss.needs in
    absurd (miss.differ (same miss.one.event miss.one.rows m.found m.needs right miss.found needs))
  where
    same : (e : Event) (rows : Option ℕ) (found needs : ℕ) → HasRightCount base plan h (record { event = e; rows = rows }) → rows ≡ Some found → IsCount base plan h e needs → found ≡ needs
    same (Start op worker at) rows found needs right is count = absurd count
    same (Finish op worker at front) rows found needs right is count =
        let told : right.0 ≡ found = (let both : Some right.0 ≡ Some found = sym right.1 ∙ is in cc) in
        sym told ∙ one base plan workers h (Finish op worker at front) right.0 needs graph sound replayed legal right.2 count
    same (Halt worker) rows found needs right is count = absurd count
