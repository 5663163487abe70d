-- What a run of several workers comes to.
use Rattle.std.proofs.Common.{◌≡◌, ◌∙◌, ℕ, zero, suc, ◌<◌, ◌≤◌, List, [], ◌∷◌, ◌++◌, length, map, take, get_or, true, false, Option, Some, None, inl, inr, refl, sym, ap, subst, arith, append-nil, length-append}
use Rattle.snb_base.specs.Moments.{Moments}
use Rattle.std.specs.Prelude.{All, AllPairs, Any, Contains, Result, Ok, slice_get}
use Rattle.std.specs.List.{flat_map}
use Rattle.std.specs.List.Sorted.{IsPermutation}
use Rattle.std.specs.Option.{IfSome}
use Rattle.std.specs.Result.{IfOk}
use Rattle.std.proofs.lemmas.Bool.{cases_lt}
use Rattle.std.proofs.lemmas.List.{get_or-map, get_or_default, length-map, take-append-le}
use Rattle.std.proofs.lemmas.List.Sorted.{IsPermutation-refl}
use Rattle.std.proofs.lemmas.List.Elements.{Contains-append_left, Contains-append_right, Contains-append_cases}
use mathlib.Core.List.{IsPrefix}
use Rattle.snb_history.specs.declared.event.Event.{Event}
use Rattle.snb_history.specs.declared.event.Event.TheVariants.{Finish}
use Rattle.snb_schema.specs.declared.limits.TheConstants.{MAX_WORKERS}
use Rattle.snb_schema.specs.declared.row.Row.{Row}
use Rattle.snb_history.specs.History.{finishes, halted, halts, hand, is_by, started, starts}
use Rattle.snb_history.specs.Laws.{HandIsOwn}
use Rattle.snb_history.specs.ScheduleLaws.{PrefixIsLegal}
use Rattle.snb_history.specs.Rules.{IsComplete, IsLegal}
use Rattle.snb_history.specs.Schedule.{Schedule, IsOperation}
use Rattle.snb_graph_model.specs.Graphs.{HoldsKey, IsGraph}
use Rattle.snb_graph_model.specs.Soundness.{Sound}
use Rattle.snb_board.specs.Boards.{AreAll, AreMadeBy, AreSeats, IsPartOf, Site, Sitting, events_of, mine, sitting, time_below}
use Rattle.snb_plan.specs.Closed.{IsClosed}
use Rattle.snb_plan.specs.Plans.{IsOfStreams, Plan, schedule_of, updates_in}
use Rattle.snb_workers_replay.specs.Laws.{CompleteIsFinal}
use Rattle.snb_workers_replay.specs.Waiting.{RunsWait}
use Rattle.snb_workers_replay.specs.Replay.{IsAfter, IsFinal}
use Rattle.snb_workers.specs.declared.crew.Worker.{Worker}
use Rattle.snb_answered.specs.declared.done.Answered.{Answered}
use Rattle.snb_workers.specs.Crews.{AllLeave, AreReady, IsCrew, IsReady, Leaves, opening}
use Rattle.snb_replica.specs.Replicas.{StandsFor, Taken}
use Rattle.snb_replica.specs.Runs.{AreByClock, AreReplies, HasRun, ReplyIsRight}
use Rattle.snb_workers.specs.Turns.{IsBehind}
use Rattle.snb_workers.specs.Works.{AreTimely, HasWorked, IsFollowing, IsFree}
use Rattle.snb_workers.proofs.CrewEvents.{all_by_clock, any_prefix, none_of, seen_there}
use Rattle.snb_base.proofs.Laws.{contains_cases, contains_here, in_filter}
use Rattle.snb_answered.proofs.Laws.{all_from, of_all}
use Rattle.snb_replica.proofs.Laws.{front_within}
use Rattle.snb_workers.proofs.TurnEvents.{all_done, of_more}
use Rattle.snb_workers.proofs.WorkEvents.{prefix-trans}

-- a worker's seat at first
abbrev fresh : Site → ℕ → Sitting
fresh z k = sitting z k [] (time_below 0)

-- a replica of the base follows what nobody has seen
follows_at_first : (base : List Row) (plan : Plan) → IsGraph base → IsClosed (HoldsKey base) (updates_in plan) → IsFollowing base plan [] (opening base)
follows_at_first base plan graph closed = record {
  closed = closed;
  taken = [];
  begins = ([], refl);
  stands = record { after = record { graph = graph; rows = subst (IsPermutation base) (sym (append-nil base)) (IsPermutation-refl base) }; front = refl };
}

-- so does one at a seat that has seen nothing
pub follows_here : (base : List Row) (plan : Plan) (s : Sitting) (r : Taken) → s.seen ≡ [] → r ≡ opening base → IsGraph base → IsClosed (HoldsKey base) (updates_in plan) → IsFollowing base plan s.seen r
follows_here base plan s r none is graph closed = subst (λ (x : List Event × Taken). IsFollowing base plan x.0 x.1) (λ i. (sym none i, sym is i)) (follows_at_first base plan graph closed)

seat_at : (seats : List Sitting) (k : ℕ) (d s : Sitting) → slice_get seats k ≡ Some s → get_or seats k d ≡ s
seat_at [] k d s e = absurd (cc)
seat_at (p ∷ ps) zero d s e = cc
seat_at (p ∷ ps) (suc k) d s e = seat_at ps k d s e

-- at first all may work
pub all_ready : (z : Site) (seats : List Sitting) → AreSeats z seats → AreReady z seats
all_ready z seats made k d lt =
    let is : get_or seats k d ≡ fresh z k = seat_at seats k d (fresh z k) (made.1 k (let n = made.0 in omega arith)) in
    subst (IsReady z) (sym is) record { site = refl; seen = refl }

-- the crew of a board that was made for so many workers, each of which began with a replica of a copy of the base
pub crew_is : {E : Type 0} (plan : Plan) (moments : Moments) (base copy : List Row) (z : Site) (workers : ℕ) (seats : List Sitting) (all : List (Result Worker E)) → copy ≡ base → 1 ≤ workers → workers ≤ MAX_WORKERS →
    z.schedule ≡ schedule_of plan → z.workers ≡ workers → IsGraph base → IsClosed (HoldsKey base) (updates_in plan) → AreSeats z seats → AllLeave plan moments copy seats all → IsCrew plan moments base z all
crew_is plan moments base copy z workers seats all copied some few schedule same graph closed made left = record {
  some = subst (λ (n : ℕ). 0 < n) (sym same) some;
  few = subst (λ (n : ℕ). n ≤ MAX_WORKERS) (sym same) few;
  schedule = schedule;
  graph = graph;
  closed = closed;
  seats = seats;
  made = made;
  all = subst (λ (b : List Row). AllLeave plan moments b seats all) copied left;
}

-- ---- a crew of one

only_one : (seats rest : List Sitting) (s : Sitting) → seats ≡ rest ++ s ∷ [] → length seats ≡ 1 → seats ≡ s ∷ []
only_one seats [] s are one = are
only_one seats (x ∷ rest) s are one = absurd (let n : length seats ≡ suc (length (rest ++ s ∷ [])) = ap length are in let m = length-append rest (s ∷ []) in omega arith)

one_leaves : {E : Type 0} (plan : Plan) (moments : Moments) (base : List Row) (seat : Sitting) (left : Result Worker E) → IfOk left (Leaves plan moments base seat) → AllLeave plan moments base (seat ∷ []) (left ∷ [])
one_leaves {E} plan moments base seat left is = record { many = refl; each = at }
  where
    at : (k : ℕ) (d : Sitting) (e : Result Worker E) → k < 1 → IfOk (get_or (left ∷ []) k e) (Leaves plan moments base (get_or (seat ∷ []) k d))
    at zero d e lt = is
    at (suc k) d e lt = absurd (omega (arith, lt))

module _ (z : Site) (seats rest : List Sitting) (seat : Sitting) (made : AreSeats z seats) (one : z.workers ≡ 1) (are : seats ≡ rest ++ seat ∷ []) where
  alone : seats ≡ seat ∷ []
  alone = only_one seats rest seat are (made.0 ∙ one)

  pub alone_ready : IsReady z seat
  alone_ready = subst (λ (l : List Sitting). IsReady z (get_or l 0 seat)) alone (all_ready z seats made 0 seat (let n = made.0 in omega arith))

  pub crew_of_one : {E : Type 0} (plan : Plan) (moments : Moments) (base : List Row) (left : Result Worker E) (all : List (Result Worker E)) → z.schedule ≡ schedule_of plan → IsGraph base → IsClosed (HoldsKey base) (updates_in plan) →
      IfOk left (Leaves plan moments base seat) → all ≡ left ∷ [] → IsCrew plan moments base z all
  crew_of_one {E} plan moments base left all schedule graph closed leaves is =
      crew_is plan moments base base z 1 seats all refl (omega arith) (omega arith) schedule one graph closed made
      (subst (λ (x : List Sitting × List (Result Worker E)). AllLeave plan moments base x.0 x.1) (λ i. (sym alone i, sym is i)) (one_leaves plan moments base seat left leaves))

-- a run of one worker is one of any number of workers
pub run_of_more : (plan : Plan) (moments : Moments) (base : List Row) (h : List Event) (replies : List Answered) (graph : List Row) (one workers : ℕ) → one ≡ 1 → 1 ≤ workers → HasRun one plan moments base h replies graph → HasRun workers plan moments base h replies graph
run_of_more plan moments base h replies graph one workers same some run = record {
  legal = of_more (schedule_of plan) workers h some (subst (λ (n : ℕ). IsLegal (schedule_of plan) n h) same run.legal);
  complete = run.complete;
  waits = run.waits;
  below = run.below;
  by_clock = run.by_clock;
  answered = run.answered;
  final = run.final;
  sound = run.sound;
}

contains_pieces : (crew : List Worker) (w : Worker) (a : Answered) → Contains crew w → Contains w.replies a → Contains (flat_map (λ (w : Worker). w.replies) crew) a
contains_pieces [] w a c there = absurd (let lt : c.0 < 0 = c.1 in omega arith)
contains_pieces (x ∷ crew) w a c there = elim (contains_cases x crew w c) [
  | inl same ↦ Contains-append_left x.replies (flat_map (λ (w : Worker). w.replies) crew) a (subst (λ (l : Worker). Contains l.replies a) (sym same) there)
  | inr later ↦ Contains-append_right x.replies (flat_map (λ (w : Worker). w.replies) crew) a (contains_pieces crew w a later there)
]

in_piece : (crew : List Worker) (a : Answered) → Contains (flat_map (λ (w : Worker). w.replies) crew) a → (k : ℕ) × (k < length crew) × ((d : Worker) → Contains (get_or crew k d).replies a)
in_piece [] a c = absurd (let lt : c.0 < 0 = c.1 in omega arith)
in_piece (x ∷ crew) a c = elim (Contains-append_cases x.replies (flat_map (λ (w : Worker). w.replies) crew) a c) [
  | inl here ↦ (0, omega arith, λ d. here)
  | inr there ↦ (let p = in_piece crew a there in (suc p.0, omega (arith, p.1), p.2))
]

-- a reply on a beginning of a history is one on the whole
answered_whole : (base : List Row) (plan : Plan) (moments : Moments) (workers : ℕ) (finishes seen h : List Event) (a : Answered) → IsPrefix seen h → IsLegal (schedule_of plan) workers seen → ((e : Event) → Contains finishes e → Contains seen e)
    → ReplyIsRight base plan moments finishes seen a → ReplyIsRight base plan moments h h a
answered_whole base plan moments workers finishes seen h a pre legal within is =
    let there = within (Finish a.op is.worker is.at a.front) is.finished in
    let front : a.front ≤ length seen = front_within (schedule_of plan) workers seen legal a.op is.worker is.at a.front there in
    let same : take a.front h ≡ take a.front seen = ap (take a.front) (sym pre.1) ∙ take-append-le a.front seen pre.0 front in
    record {
      worker = is.worker;
      at = is.at;
      later = is.later;
      finished = subst (λ (l : List Event). Contains l (Finish a.op is.worker is.at a.front)) pre.1 (Contains-append_left seen pre.0 (Finish a.op is.worker is.at a.front) there);
      query = is.query;
      asks = is.asks;
      graph = is.graph;
      after = subst (λ (l : List Event). IsAfter base plan l is.graph) (sym same) is.after;
      replies = is.replies;
    }

module _ {E : Type 0}
    (plan : Plan) (moments : Moments) (base : List Row) (z : Site) (all : List (Result Worker E)) (h : List Event)
    (is_crew : IsCrew plan moments base z all) (crew : List Worker) (had : all ≡ map Ok crew)
  where
    many_crew : length crew ≡ z.workers
    many_crew = sym (length-map crew (λ (w : Worker). Ok w)) ∙ ap length (sym had) ∙ is_crew.all.many ∙ is_crew.made.0

    leaves : (k : ℕ) (e : Worker) → k < z.workers → Leaves plan moments base (fresh z k) (get_or crew k e)
    leaves k e lt =
        let n = many_crew in
        let m = is_crew.made.0 in
        let seat : get_or is_crew.seats k (fresh z k) ≡ fresh z k = seat_at is_crew.seats k (fresh z k) (fresh z k) (is_crew.made.1 k lt) in
        let one : get_or all k (Ok e) ≡ Ok (get_or crew k e) = ap (λ (l : List (Result Worker E)). get_or l k (Ok e)) had ∙ get_or-map (λ (w : Worker). Ok w) crew k e (Ok e) (omega arith) in
        subst (λ (x : Sitting × Result Worker E). IfOk x.1 (Leaves plan moments base x.0)) (λ i. (seat i, one i)) (is_crew.all.each k (fresh z k) (Ok e) (omega arith))

    worked : (k : ℕ) (e : Worker) → k < z.workers → HasWorked plan moments (fresh z k) (get_or crew k e).seat (opening base) (get_or crew k e).replica (get_or crew k e).replies
    worked k e lt = (leaves k e lt).worked

    -- what stands for a worker that there is not
    abbrev nobody : Worker
    nobody = record { seat = fresh z 0; replica = opening base; replies = [] }

    -- what worker k has left
    abbrev left : ℕ → Worker
    left k = get_or crew k nobody

    seat_is : (given : List Sitting) → given ≡ map (λ (w : Worker). w.seat) crew → (k : ℕ) (d : Sitting) → k < z.workers → get_or given k d ≡ (left k).seat
    seat_is given is k d low =
        let n = many_crew in
        ap (λ (xs : List Sitting). get_or xs k d) is ∙ get_or-map (λ (w : Worker). w.seat) crew k nobody d (omega arith)

    many_seats : (given : List Sitting) → given ≡ map (λ (w : Worker). w.seat) crew → length given ≡ z.workers
    many_seats given is = ap length is ∙ (length-map crew (λ (w : Worker). w.seat) ∙ many_crew)

    -- the seats of all workers are among them
    pub are_all : (given : List Sitting) → given ≡ map (λ (w : Worker). w.seat) crew → AreAll z given
    are_all given is = record {
      theirs = λ k d lt.
          let low : k < z.workers = (let n = many_seats given is in omega arith) in
          ap (λ (s : Sitting). s.site) (seat_is given is k d low) ∙ (leaves k nobody low).later.site;
      each = λ k low. (
        k,
        (left k).seat,
        (let n = many_seats given is in omega arith),
        seat_is given is k (left k).seat low,
        (leaves k nobody low).later.worker,
      );
    }

    module _
        (given : List Sitting) (is : given ≡ map (λ (w : Worker). w.seat) crew) (hand_own : HandIsOwn) (prefix : PrefixIsLegal) (legal : IsLegal (schedule_of plan) z.workers h)
        (parts : All (IsPartOf z.schedule h) given) (by_them : AreMadeBy given h)
      where
        part : (k : ℕ) → k < z.workers → IsPartOf z.schedule h (left k).seat
        part k low = subst (IsPartOf z.schedule h) (seat_is given is k (left k).seat low) (parts k (left k).seat (let n = many_seats given is in omega arith))

        -- of each worker the history has what its seat knows
        theirs_in : (k : ℕ) → k < z.workers → events_of k h ≡ mine (left k).seat
        theirs_in k low = subst (λ (w : ℕ). events_of w h ≡ mine (left k).seat) (leaves k nobody low).later.worker (part k low).mine

        low_author : (k : ℕ) (d : Event) → k < length h → (s : ℕ) × (s < z.workers) × (is_by s (get_or h k d) ≡ true)
        low_author k d lt =
            let any = by_them k d lt in
            let low : any.0 < z.workers = (let n = many_seats given is in let m : any.0 < length given = any.2 in omega arith) in
            let same : (left any.0).seat ≡ any.1 = sym (seat_is given is any.0 any.1 low) ∙ any.3 in
            let worker : any.1.worker ≡ any.0 = ap (λ (s : Sitting). s.worker) (sym same) ∙ (leaves any.0 nobody low).later.worker in
            (any.0, low, subst (λ (w : ℕ). is_by w (get_or h k d) ≡ true) worker any.4)

        nobody_else : (w : ℕ) → z.workers ≤ w → events_of w h ≡ []
        nobody_else w high = none_of z.workers w h low_author high

        free_seat : (k : ℕ) (low : k < z.workers) → IsFree (left k).seat
        free_seat k low = (worked k nobody low).free

        pub empty : (w : ℕ) → hand h w ≡ None
        empty w = sym (hand_own h w).0 ∙ elim (cases_lt w z.workers) [
          | inl low ↦ ap (λ (l : List Event). hand l w) (theirs_in w low) ∙ subst (λ (n : ℕ). hand (mine (left w).seat) n ≡ None) (leaves w nobody low).later.worker (free_seat w low).empty
          | inr high ↦ ap (λ (l : List Event). hand l w) (nobody_else w high)
        ]

        pub running : (w : ℕ) → halted h w ≡ false
        running w = sym (hand_own h w).1 ∙ elim (cases_lt w z.workers) [
          | inl low ↦ ap (λ (l : List Event). halted l w) (theirs_in w low) ∙ subst (λ (n : ℕ). halted (mine (left w).seat) n ≡ false) (leaves w nobody low).later.worker (free_seat w low).running
          | inr high ↦ ap (λ (l : List Event). halted l w) (nobody_else w high)
        ]

        all_started : (k : ℕ) → IsOperation (schedule_of plan) k → started h k ≡ true
        all_started k within = elim ((worked 0 nobody is_crew.some).over) [
          | inl each ↦ (
              let here : IsOperation (left 0).seat.site.schedule k = subst (λ (s : Schedule). IsOperation s k) (sym is_crew.schedule ∙ sym (ap (λ (x : Site). x.schedule) (leaves 0 nobody is_crew.some).later.site)) within in
              any_prefix (starts k) (left 0).seat.seen h (part 0 is_crew.some).seen (each k here))
          | inr (w, off, stopped) ↦ absurd (let at = any_prefix (halts w) (left 0).seat.seen h (part 0 is_crew.some).seen stopped in let runs = running w in cc)
        ]

        pub complete : IsComplete (schedule_of plan) h
        complete = all_done (schedule_of plan) z.workers h legal empty running all_started

        -- an event of the history stands in what the seat of its worker has seen
        in_seat : (g rest : List Event) (e : Event) → g ++ e ∷ rest ≡ h → (k : ℕ) × (k < z.workers) × (is_by k e ≡ true) × ((after : List Event) × (g ++ e ∷ after ≡ (left k).seat.seen))
        in_seat g rest e at =
            let size : length h ≡ length (g ++ e ∷ rest) = ap length (sym at) in
            let lt : length g < length h = (let n = length-append g (e ∷ rest) in omega arith) in
            let who = low_author (length g) e lt in
            let here : get_or h (length g) e ≡ e = ap (λ (l : List Event). get_or l (length g) e) (sym at) ∙ at_seam g e rest in
            let own : is_by who.0 e ≡ true = subst (λ (x : Event). is_by who.0 x ≡ true) here who.2 in
            let same : events_of who.0 h ≡ events_of who.0 (left who.0).seat.seen = theirs_in who.0 who.1 ∙ ap (λ (w : ℕ). events_of w (left who.0).seat.seen) (leaves who.0 nobody who.1).later.worker in
            (who.0, who.1, own, seen_there who.0 (left who.0).seat.seen h g e rest (part who.0 who.1).seen same own at)
          where
            at_seam : (g : List Event) (e : Event) (rest : List Event) → get_or (g ++ e ∷ rest) (length g) e ≡ e
            at_seam [] e rest = refl
            at_seam (x ∷ g) e rest = at_seam g e rest

        pub by_clock : AreByClock moments h
        by_clock = all_by_clock moments h (λ g rest e at has.
            let there = in_seat g rest e at in
            (leaves there.0 nobody there.1).timely g there.3.0 e there.3.1 (omega arith) there.2 has)

        module _ (replies all_replies : List Answered) (gathered : all_replies ≡ flat_map (λ (w : Worker). w.replies) crew)
            (each : All (λ (a : Answered). Contains all_replies a) replies) (every : All (λ (a : Answered). Any (λ (other : Answered). other.op ≡ a.op) replies) all_replies) (rise : AllPairs (λ (one other : Answered). one.op < other.op) replies)
          where
            seat_replies : (k : ℕ) (low : k < z.workers) → AreReplies base plan moments (mine (left k).seat) (left k).seat.seen (left k).replies
            seat_replies k low = (worked k nobody low).answered base (follows_at_first base plan is_crew.graph is_crew.closed)

            seen_legal : (k : ℕ) (low : k < z.workers) → IsLegal (schedule_of plan) z.workers (left k).seat.seen
            seen_legal k low = prefix (schedule_of plan) z.workers (left k).seat.seen (part k low).seen.0 (subst (IsLegal (schedule_of plan) z.workers) (sym (part k low).seen.1) legal)

            pub answered : AreReplies base plan moments h h replies
            answered = record {
              rise = rise;
              each = all_from (ReplyIsRight base plan moments h h) replies (λ a c.
                  let there : Contains (flat_map (λ (w : Worker). w.replies) crew) a = subst (λ (xs : List Answered). Contains xs a) gathered (of_all (λ (x : Answered). Contains all_replies x) replies a each c) in
                  let piece = in_piece crew a there in
                  let low : piece.0 < z.workers = (let n = many_crew in let m : piece.0 < length crew = piece.1 in omega arith) in
                  let own = of_all (ReplyIsRight base plan moments (mine (left piece.0).seat) (left piece.0).seat.seen) (left piece.0).replies a (seat_replies piece.0 low).each (piece.2 nobody) in
                  answered_whole base plan moments z.workers (mine (left piece.0).seat) (left piece.0).seat.seen h a (part piece.0 low).seen (seen_legal piece.0 low)
                  (λ e c. ((in_filter (is_by (left piece.0).seat.worker) (left piece.0).seat.seen e).0 c).0) own);
              all = λ op worker at front query c asks.
                  let e : Event = Finish op worker at front in
                  let split = split_here h c.0 e c.1 c.2 in
                  let there = in_seat (take c.0 h) split.0 e split.1 in
                  let k : ℕ = there.0 in
                  let low : k < z.workers = there.1 in
                  let seen : Contains (left k).seat.seen e = subst (λ (l : List Event). Contains l e) there.3.1 (Contains-append_right (take c.0 h) (e ∷ there.3.0) e (contains_here e there.3.0)) in
                  let own : Contains (mine (left k).seat) e = (in_filter (is_by (left k).seat.worker) (left k).seat.seen e).1 (seen, subst (λ (w : ℕ). is_by w e ≡ true) (sym (leaves k nobody low).later.worker) there.2) in
                  let found = (seat_replies k low).all op worker at front query own asks in
                  let whole : Contains all_replies found.0 = subst (λ (xs : List Answered). Contains xs found.0) (sym gathered)
                  (contains_pieces crew (left k) found.0 (k, (let n = many_crew in omega arith), get_or_default crew k (left k) nobody (let n = many_crew in omega arith)) found.1) in
                  let one = of_all (λ (a : Answered). Any (λ (other : Answered). other.op ≡ a.op) replies) all_replies found.0 every whole in
                  (one.1, (one.0, one.2, one.3), one.4 ∙ found.2);
            }
              where
                split_here : (h : List Event) (k : ℕ) (e : Event) → k < length h → get_or h k e ≡ e → (rest : List Event) × (take k h ++ e ∷ rest ≡ h)
                split_here [] k e lt is = absurd (omega arith)
                split_here (x ∷ h) zero e lt is = (h, ap (λ (y : Event). y ∷ h) (sym is))
                split_here (x ∷ h) (suc k) e lt is = let s = split_here h k e (omega arith) is in (s.0, ap (λ (l : List Event). x ∷ l) s.1)

            -- the replica of one of them is behind the whole history
            pub behind : (one : Taken) → Any (λ (w : Worker). w.replica ≡ one) crew → IsBehind plan h one base
            behind one any =
                let k : ℕ = any.0 in
                let low : k < z.workers = (let n = many_crew in let m : k < length crew = any.2 in omega arith) in
                let same : left k ≡ any.1 = get_or_default crew k nobody any.1 any.2 ∙ any.3 in
                let follows = (leaves k nobody low).follows in
                let pre = prefix-trans follows.taken (left k).seat.seen h follows.begins (part k low).seen in (
                  follows.taken,
                  pre.0,
                  pre.1,
                  record {
                    stands = subst (StandsFor base plan follows.taken) (ap (λ (w : Worker). w.replica) same ∙ any.4) follows.stands;
                    closed = is_crew.closed;
                    workers = z.workers;
                    few = inl is_crew.few;
                    legal = subst (IsLegal (schedule_of plan) z.workers) (sym pre.1) legal;
                  },
                )

            -- and brought to the end it makes the outcome of a run
            pub crew_has_run : (new : Taken) (final : List Row) → CompleteIsFinal → RunsWait → IsOfStreams plan → StandsFor base plan h new → final ≡ new.graph → Sound final → HasRun z.workers plan moments base h replies final
            crew_has_run new final law wait streams stands same sound = record {
              legal = legal;
              complete = complete;
              waits = (wait plan z.workers h streams legal).0;
              below = (wait plan z.workers h streams legal).1;
              by_clock = by_clock;
              answered = answered;
              final = subst (IsFinal base plan) (sym same) (law base plan z.workers h new.graph legal complete stands.after);
              sound = sound;
            }
