-- Facts on the turns of a worker at a board.
use Rattle.std.proofs.Common.{◌≡◌, ◌∙◌, ℕ, ◌<◌, List, [], ◌∷◌, ◌++◌, length, min, Bool, true, false, cond, Option, Some, None, inl, inr, refl, sym, ap, subst, arith, append-nil}
use Rattle.snb_base.specs.Moments.{Moments}
use Rattle.std.specs.Prelude.{AllPairs, Contains, ℤ, slice_get}
use Rattle.std.proofs.Math.Nat.{le-max_right}
use Rattle.std.proofs.lemmas.Bool.{eq-eqb}
use Rattle.std.proofs.lemmas.List.Elements.{Contains-append_left}
use Rattle.snb_base.proofs.Laws.{contains_cases, slice_get-prefix}
use Rattle.snb_history.specs.declared.event.Event.{Event}
use Rattle.snb_history.specs.declared.event.Event.TheVariants.{Start, Finish, Halt}
use Rattle.snb_schema.specs.declared.query.Query.{Query}
use Rattle.snb_schema.specs.declared.row.Row.{Row}
use Rattle.snb_schema.specs.declared.limits.TheConstants.{MAX_AT}
use Rattle.snb_history.specs.History.{halted, hand, last, started}
use Rattle.snb_history.specs.Laws.{HandIsOwn}
use Rattle.snb_history.specs.ScheduleLaws.{PrefixIsLegal}
use Rattle.snb_history.specs.Rules.{IsFront, IsLegal}
use Rattle.snb_history.specs.Schedule.{Schedule, IsOperation}
use Rattle.snb_history.proofs.Laws.{hand-push}
use Rattle.snb_book.specs.declared.claim.Claim.TheVariants.{Halted, AllStarted, Go}
use Rattle.snb_book.specs.declared.claim.Ticket.{Ticket}
use Rattle.snb_book.specs.Kept.{IsInHand, moment_after}
use Rattle.snb_board.specs.Boards.{HasCalled, HasClaimed, HasFinished, HasHalted, HasLearned, HasLooked, Site, Sitting, events_of, mine, sitting}
use Rattle.snb_plan.specs.Plans.{IsOfStreams, Plan, schedule_of}
use Rattle.snb_answered.specs.declared.done.Answered.{Answered}
use Rattle.snb_replica.specs.Replicas.{StandsFor, Taken}
use Rattle.snb_replica.specs.Runs.{AreReplies, Asks}
use Rattle.snb_workers.specs.declared.work.Served.{Served}
use Rattle.snb_workers.specs.Turns.{IsServed}
use Rattle.snb_workers.specs.Works.{AreTimely, HasStopped, HasWorked, IsFollowing, IsLater, NothingIsLeft, added}
use Rattle.snb_workers.specs.WorkTurns.{HasCome, HasFollowed, HasReplied, IsAtWork, IsHolding}
use Rattle.snb_workers.proofs.TurnReplies.{answered_at_finish, front_is, fronts_served, none_replied}
use Rattle.snb_workers.proofs.WorkCalls.{added_called, come_called, following_later, later, later-trans, replied_called, replies_within, runs_on, timely_called, whole}
use Rattle.snb_workers.proofs.WorkEvents.{own_contained, starts_there}
use Rattle.snb_workers.proofs.WorkFollow.{followed_by_none}

-- ---- a seat that has perhaps looked

module _ (plan : Plan) (moments : Moments) (first : Sitting) (old : Taken) (s t : Sitting) (r new : Taken) where
  -- a look leads on
  come_looked : (c : HasLooked s t) → HasCome plan moments first old s r → ((base : List Row) → IsFollowing base plan s.seen r → IsFollowing base plan t.seen new) → HasCome plan moments first old t new
  come_looked c come follows = come_called plan moments first old s t r new c come (inl c.is_so) (runs_on s t c come.running (inl c.is_so)) follows

  module _ (f : HasFollowed plan s t r new) (come : HasCome plan moments first old s r) where
    pub come_followed : HasCome plan moments first old t new
    come_followed = elim f.call [
      | inl same ↦ subst (λ (x : Sitting). HasCome plan moments first old x new) (sym same) (record {
        schedule = come.schedule;
        later = come.later;
        running = come.running;
        timely = come.timely;
        some = come.some;
        follows = λ base g. subst (λ (x : Sitting). IsFollowing base plan x.seen new) same (f.follows base (come.follows base g));
      })
      | inr look ↦ come_looked look come f.follows
    ]

    replied_followed : (replies : List Answered) → HasReplied plan moments first old s r replies → HasReplied plan moments first old t new replies
    replied_followed replies replied = elim f.call [
      | inl same ↦ subst (λ (x : Sitting). HasReplied plan moments first old x new replies) (sym same) (record {
        answered = replied.answered;
        fronts = λ k d lt. (let le = replied.fronts k d lt in let rise = f.rise in omega arith);
      })
      | inr look ↦ replied_called plan moments first old s t r new replies look come replied (λ k w at front c. none_in look k w at front c) f.rise
    ]
      where
        none_in : (c : HasLooked s t) → (k w at front : ℕ) → ¬ Contains c.added (Finish k w at front)
        none_in c k w at front there = (let l = (subst (λ (l : List Event). Contains l (Finish k w at front)) c.is_so there).1 in absurd (omega arith))

    -- it is the same seat
    same_site : t.site ≡ s.site
    same_site = elim f.call [ inl same ↦ ap (λ (x : Sitting). x.site) same | inr look ↦ look.site ]

    same_worker : t.worker ≡ s.worker
    same_worker = elim f.call [ inl same ↦ ap (λ (x : Sitting). x.worker) same | inr look ↦ look.worker ]

    -- and what it has in hand stays there
    held_followed : HandIsOwn → (ticket : Ticket) → ticket.worker ≡ s.worker → IsInHand s.seen ticket → IsInHand t.seen ticket
    held_followed own ticket theirs is = elim f.call [
      | inl same ↦ subst (λ (x : Sitting). IsInHand x.seen ticket) (sym same) is
      | inr look ↦ still look
    ]
      where
        still : HasLooked s t → IsInHand t.seen ticket
        still c = record {
          held = sym (own t.seen ticket.worker).0 ∙ (ap (λ (l : List Event). hand l ticket.worker) (alike c) ∙ ((own s.seen ticket.worker).0 ∙ is.held));
          since = (
            is.since.0,
            subst (λ (l : List Event). slice_get l ticket.start ≡ Some (Start ticket.op ticket.worker is.since.0)) (later s t c).seen.1
                (slice_get-prefix s.seen (later s t c).seen.0 ticket.start (Start ticket.op ticket.worker is.since.0) is.since.1),
          );
        }
          where
            alike : (c : HasLooked s t) → events_of ticket.worker t.seen ≡ events_of ticket.worker s.seen
            alike c =
                ap (λ (w : ℕ). events_of w t.seen) (theirs ∙ sym c.worker)
                ∙ (c.mine ∙ (ap (λ (l : List Event). mine s ++ l) c.is_so ∙ (append-nil (mine s) ∙ ap (λ (w : ℕ). events_of w s.seen) (sym theirs))))

-- what a worker has in hand it still has
pub holding_followed : HandIsOwn → (plan : Plan) (moments : Moments) (first : Sitting) (old : Taken) (s t : Sitting) (r new : Taken) (replies : List Answered) (ticket : Ticket) → HasFollowed plan s t r new →
    IsHolding plan moments first old s r replies ticket → IsHolding plan moments first old t new replies ticket
holding_followed own plan moments first old s t r new replies ticket f h = record {
  come = come_followed plan moments first old s t r new f h.come;
  worker = h.worker ∙ sym (same_worker plan moments first old s t r new f h.come);
  held = held_followed plan moments first old s t r new f h.come own ticket h.worker h.held;
  there = h.there;
  new = h.new;
  replied = replied_followed plan moments first old s t r new f h.come replies h.replied;
}

pub site_followed : (plan : Plan) (s t : Sitting) (r new : Taken) → HasFollowed plan s t r new → t.site ≡ s.site
site_followed plan s t r new f = elim f.call [ inl same ↦ ap (λ (x : Sitting). x.site) same | inr look ↦ look.site ]

-- ---- what a claim answers

-- the Start of a ticket's operation, where the clock shows now
abbrev start_of : Ticket → ℕ → List Event → ℕ → Event
start_of ticket worker found now = Start ticket.op worker (moment_after found now)

module _ (plan : Plan) (moments : Moments) (first : Sitting) (old : Taken) (s t : Sitting) (r : Taken) (replies : List Answered) (work : IsAtWork plan moments first old s r replies) where
  module _ {P : List Event → List Event → Type 0} (c : HasCalled s t P) (none : c.added ≡ []) where
    looked : HasLooked s t
    looked = record { site = c.site; worker = c.worker; found = c.found; begins = c.begins; added = c.added; seen = c.seen; mine = c.mine; legal = c.legal; told = c.told; known = c.known; is_so = none }

    -- a call that adds nothing leaves the worker at work
    pub at_work_still : IsAtWork plan moments first old t r replies
    at_work_still = record {
      come = come_followed plan moments first old s t r r (followed_by_none plan s t r looked) work.come;
      empty = ap (λ (l : List Event). hand l t.worker) (c.mine ∙ (ap (λ (l : List Event). mine s ++ l) none ∙ append-nil (mine s))) ∙ (ap (hand (mine s)) c.worker ∙ work.empty);
      replied = replied_followed plan moments first old s t r r (followed_by_none plan s t r looked) work.come replies work.replied;
    }

    -- and so does what the seat is then told of the completion time
    pub at_work_told : (u : Sitting) (time : ℤ) → HasLearned t u time → IsAtWork plan moments first old u r replies
    at_work_told u time h = subst (λ (x : Site × ℕ × List Event). IsAtWork plan moments first old (sitting x.0 x.1 x.2 u.told) r replies) (λ i. (sym h.site i, sym h.worker i, sym h.seen i)) same
      where
        still : IsAtWork plan moments first old t r replies
        still = at_work_still

        come : HasCome plan moments first old t r
        come = still.come

        same : IsAtWork plan moments first old (sitting t.site t.worker t.seen u.told) r replies
        same = record {
          come = record {
            schedule = come.schedule;
            later = record { site = come.later.site; worker = come.later.worker; seen = come.later.seen; mine = come.later.mine };
            running = come.running;
            timely = come.timely;
            some = come.some;
            follows = come.follows;
          };
          empty = still.empty;
          replied = record { answered = still.replied.answered; fronts = still.replied.fronts };
        }

    found_is : t.seen ≡ c.found
    found_is = c.seen ∙ (ap (λ (l : List Event). c.found ++ l) none ∙ append-nil c.found)

    -- where all is started, nothing is left
    left_started : ((k : ℕ) → IsOperation s.site.schedule k → started c.found k ≡ true) → NothingIsLeft t.site.schedule t.worker t.seen
    left_started all = inl (λ k within. ap (λ (l : List Event). started l k) found_is ∙ all k (subst (λ (z : Site). IsOperation z.schedule k) c.site within))

    -- and where a worker has halted, it is another one
    left_halted : HandIsOwn → (w : ℕ) → halted c.found w ≡ true → NothingIsLeft t.site.schedule t.worker t.seen
    left_halted own w stopped =
        let there : halted t.seen w ≡ true = ap (λ (l : List Event). halted l w) found_is ∙ stopped in
        let runs : halted t.seen t.worker ≡ false = sym (own t.seen t.worker).1 ∙ at_work_still.come.running in
        inr (w, (λ same. let moved : halted t.seen w ≡ halted t.seen t.worker = ap (halted t.seen) same in cc), there)

  pub over_started : (now : ℕ) → HasClaimed s t now AllStarted → IsAtWork plan moments first old t r replies × NothingIsLeft t.site.schedule t.worker t.seen
  over_started now c = (at_work_still c c.is_so.1, left_started c c.is_so.1 c.is_so.0.1)

  pub over_halted : HandIsOwn → (now : ℕ) → HasClaimed s t now Halted → IsAtWork plan moments first old t r replies × NothingIsLeft t.site.schedule t.worker t.seen
  over_halted own now c = (at_work_still c c.is_so.1, left_halted c c.is_so.1 own c.is_so.0.0 c.is_so.0.1)

  -- a Go puts an operation into its hand
  pub holds_now : PrefixIsLegal → (now : ℕ) (ticket : Ticket) → HasClaimed s t now (Go ticket) → moments.tells now ≡ true → (ticket.worker ≡ s.worker) × IsInHand t.seen ticket → halted (mine t) ticket.worker ≡ false →
      IsHolding plan moments first old t r replies ticket
  holds_now legal now ticket c shown held acts = record {
    come = come_called plan moments first old s t r r c work.come (inr (start_of ticket s.worker c.found now, c.is_so.1, eq-eqb s.worker s.worker refl, λ has. record { reading = now; tells = shown; is = refl })) (subst (λ (w : ℕ). halted (mine t) w ≡ false) (held.0 ∙ sym c.worker) acts)
        (λ base f. following_later base plan s.seen t.seen r (later s t c).seen f);
    worker = held.0 ∙ sym c.worker;
    held = held.1;
    there = subst (λ (z : Schedule). IsOperation z ticket.op) work.come.schedule c.is_so.0.1.0.0.0;
    new = none_replied work.come.some.0 plan moments s.site.workers (added first s) s.seen c.found ticket.op replies found_legal added_found (work.replied.answered work.come.some.0 work.come.some.1) c.is_so.0.1.0.0.1.fresh;
    replied = replied_called plan moments first old s t r r replies c work.come work.replied none (omega arith);
  }
    where
      found_legal : IsLegal (schedule_of plan) s.site.workers c.found
      found_legal = legal (schedule_of plan) s.site.workers c.found c.added (subst (IsLegal (schedule_of plan) s.site.workers) c.seen (subst (λ (z : Schedule). IsLegal z s.site.workers t.seen) work.come.schedule c.legal))

      added_found : (e : Event) → Contains (added first s) e → Contains c.found e
      added_found e there = subst (λ (l : List Event). Contains l e) c.begins.1 (Contains-append_left s.seen c.begins.0 e (own_contained s.worker (length (mine first)) s.seen e there))

      none : (k w at front : ℕ) → ¬ Contains c.added (Finish k w at front)
      none k w at front there = elim (contains_cases (start_of ticket s.worker c.found now) [] (Finish k w at front) (subst (λ (l : List Event). Contains l (Finish k w at front)) c.is_so.1 there)) [
        | inl same ↦ absurd cc
        | inr past ↦ (let l = past.1 in absurd (omega arith))
      ]

-- ---- the operation in hand

module _ (plan : Plan) (moments : Moments) (first : Sitting) (old : Taken) (s : Sitting) (r : Taken) (replies : List Answered) (ticket : Ticket) (h : IsHolding plan moments first old s r replies ticket)
    (ready : (query : Query) → Asks plan ticket.op query → (base : List Row) → IsFollowing base plan first.seen old → StandsFor base plan s.seen r)
    (new : List Answered) (done : Served) (served : IsServed plan moments ticket.op r replies new done) where
  -- the front that it is served with is that of its Finish
  pub front_held : (schedule : Schedule) → schedule ≡ schedule_of plan → IsOfStreams plan → IsFront schedule s.seen ticket.op done.front
  front_held schedule is streams =
      subst (λ (z : Schedule). IsFront z s.seen ticket.op done.front) (sym is)
      (front_is h.come.some.0 plan moments s.seen ticket.op done r replies new streams (starts_there s.seen ticket.start ticket.op ticket.worker h.held.since.0 h.held.since.1)
      (λ query asks. ready query asks h.come.some.0 h.come.some.1) served)

  module _ (t : Sitting) (c : HasFinished s t ticket done.now done.front) where
    abbrev end : Event
    end = Finish ticket.op s.worker (moment_after c.found done.now) done.front

    -- then the worker is at work again
    pub at_work_again : moments.tells done.now ≡ true → AllPairs (λ one other. one.op < other.op) new → IsAtWork plan moments first old t r new
    at_work_again shown rise = record {
      come = come_called plan moments first old s t r r c h.come (inr (end, c.is_so, eq-eqb s.worker s.worker refl, λ has. record { reading = done.now; tells = shown; is = refl })) (runs_on s t c h.come.running (inr (end, c.is_so, refl)))
          (λ base f. following_later base plan s.seen t.seen r (later s t c).seen f);
      empty =
          ap (λ (l : List Event). hand l t.worker) (c.mine ∙ ap (λ (l : List Event). mine s ++ l) c.is_so)
          ∙ (hand-push (mine s) end t.worker ∙ ap (λ (b : Bool). cond b None (hand (mine s) t.worker)) (eq-eqb s.worker t.worker (sym c.worker)));
      replied = record {
        answered = λ base f.
            subst (λ (l : List Event). AreReplies base plan moments (added first t) l new) (whole s t c)
            (subst (λ (events : List Event). AreReplies base plan moments events (s.seen ++ (c.begins.0 ++ c.added)) new) (sym (added_called s t c first h.come.later.mine ∙ ap (λ (l : List Event). added first s ++ l) c.is_so))
            (answered_at_finish base plan moments (added first s) s.seen (c.begins.0 ++ c.added) ticket.op s.worker (moment_after c.found done.now) done (le-max_right (last c.found) (min done.now MAX_AT)) r replies new
            (replies_within base plan s.seen r replies (h.come.follows base f) h.replied.fronts) (λ query asks. ready query asks base f) (h.replied.answered base f) rise served));
        fronts = fronts_served plan moments ticket.op done r replies new h.replied.fronts served;
      };
    }

-- ---- the whole

-- what it leaves
pub has_worked : (plan : Plan) (moments : Moments) (first : Sitting) (old : Taken) (s : Sitting) (r : Taken) (replies : List Answered) → IsAtWork plan moments first old s r replies → NothingIsLeft s.site.schedule s.worker s.seen →
    HasWorked plan moments first s old r replies
has_worked plan moments first old s r replies work over = record { free = record { empty = work.empty; running = work.come.running }; over = over; answered = work.replied.answered; fronts = work.replied.fronts }

-- ---- a worker that halts

module _ (plan : Plan) (moments : Moments) (first : Sitting) (old : Taken) (s t : Sitting) (r : Taken) (come : HasCome plan moments first old s r) (c : HasHalted s t) where
  pub later_halted : IsLater first t
  later_halted = later-trans first s t come.later (later s t c)

  pub follows_halted : (base : List Row) → IsFollowing base plan first.seen old → IsFollowing base plan t.seen r
  follows_halted base f = following_later base plan s.seen t.seen r (later s t c).seen (come.follows base f)

  pub timely_halted : AreTimely moments first.worker (length first.seen) t.seen
  timely_halted =
      subst (λ (w : ℕ). AreTimely moments w (length first.seen) t.seen) come.later.worker
      (timely_called s t c moments (length first.seen) (inr (Halt s.worker, c.is_so, eq-eqb s.worker s.worker refl, λ has. absurd cc))
      (subst (λ (w : ℕ). AreTimely moments w (length first.seen) s.seen) (sym come.later.worker) come.timely))

  pub stopped : HasStopped t
  stopped = (mine s, c.mine ∙ (ap (λ (l : List Event). mine s ++ l) c.is_so ∙ ap (λ (w : ℕ). mine s ++ Halt w ∷ []) (sym c.worker)))
