-- Facts on the replies to the reads of a history.
use Rattle.std.proofs.Common.{◌≡◌, ◌≢◌, ◌∙◌, ℕ, ◌<◌, ◌≤◌, List, [], ◌∷◌, ◌++◌, length, min, take, false, Some, inl, inr, refl, sym, ap, subst, arith}
use Rattle.std.specs.Prelude.{All, AllPairs, Contains, slice_get}
use Rattle.std.specs.List.{position_or_len}
use Rattle.std.proofs.lemmas.List.{take-append-le}
use Rattle.std.proofs.lemmas.List.Elements.{All-append, All-cons, All-drop, All-take, Contains-append_cases, Contains-append_left, Contains-append_right, Contains-push, Contains-push_cases}
use Rattle.std.proofs.lemmas.Option.{same_Some}
use Rattle.std.proofs.Math.Seq.{drop-append_seam, take-append_seam}
use Rattle.snb_base.proofs.Laws.{contains_here, contains_there}
use Rattle.snb_base.specs.Moments.{Moments}
use Rattle.snb_history.specs.declared.event.Event.{Event}
use Rattle.snb_history.specs.declared.event.Event.TheVariants.{Finish}
use Rattle.snb_schema.specs.declared.limits.TheConstants.{MAX_AT}
use Rattle.snb_schema.specs.declared.query.Query.{Query}
use Rattle.snb_schema.specs.declared.row.Row.{Row}
use Rattle.snb_history.specs.History.{started, starts}
use Rattle.snb_history.specs.Rules.{IsFront, IsLegal}
use Rattle.snb_plan.specs.Plans.{AskWork, InsertWork, IsOfStreams, Operation, Plan, Work, schedule_of}
use Rattle.snb_workers_replay.specs.Replay.{IsAfter}
use Rattle.snb_answered.specs.declared.done.Answered.{Answered}
use Rattle.snb_answered.specs.Replies.{HasAdded}
use Rattle.snb_answered.proofs.Laws.{added_there, still_there}
use Rattle.snb_replica.specs.Replicas.{StandsFor, Taken}
use Rattle.snb_replica.specs.ReplyTexts.{IsReplied}
use Rattle.snb_replica.specs.Runs.{AreReplies, Asks, ReplyIsRight}
use Rattle.snb_workers.specs.declared.work.Served.{Served}
use Rattle.snb_workers.specs.Turns.{IsDone, IsReplyNow, IsServed}
use Rattle.snb_workers.proofs.PlanSteps.{ask_is_query, insert_is_no_query}
use Rattle.snb_workers.proofs.TurnEvents.{was_started}

-- ---- one reply more

-- what is true of those that were there and of the one that was added is true of all
all_added : (P : Answered → Type 0) (one : Answered) (old new : List Answered) → HasAdded one old new → All P old → P one → All P new
all_added P one old new added all is =
    let split : All P (added.before ++ added.after) = subst (All P) added.were all in
    let early : All P added.before = subst (All P) (take-append_seam added.before added.after) (All-take P (length added.before) (added.before ++ added.after) split) in
    let late : All P added.after = subst (All P) (drop-append_seam added.before added.after) (All-drop P (length added.before) (added.before ++ added.after) split) in
    subst (All P) (sym added.are) (All-append P added.before (one ∷ added.after) early (All-cons P one added.after is late))

-- ---- longer histories

-- a reply stays one when events follow
stays_answered : (base : List Row) (plan : Plan) (moments : Moments) (finishes h events more : List Event) (a : Answered) → a.front ≤ length h → ReplyIsRight base plan moments finishes h a → ReplyIsRight base plan moments (finishes ++ events) (h ++ more) a
stays_answered base plan moments finishes h events more a within is =
    record {
      worker = is.worker;
      at = is.at;
      finished = Contains-append_left finishes events (Finish a.op is.worker is.at a.front) is.finished;
      later = is.later;
      query = is.query;
      asks = is.asks;
      graph = is.graph;
      after = subst (λ (g : List Event). IsAfter base plan g is.graph) (sym (take-append-le a.front h more within)) is.after;
      replies = is.replies;
    }

-- the fronts of replies lie within a history
abbrev pub AreWithin : List Event → List Answered → Type 0
AreWithin h replies = All (λ a. a.front ≤ length h) replies

all_stay : (base : List Row) (plan : Plan) (moments : Moments) (finishes h events more : List Event) (replies : List Answered) → AreWithin h replies → All (ReplyIsRight base plan moments finishes h) replies →
    All (ReplyIsRight base plan moments (finishes ++ events) (h ++ more)) replies
all_stay base plan moments finishes h events more replies within each k d lt = stays_answered base plan moments finishes h events more _ (within k d lt) (each k d lt)

-- events without a Finish change no replies
pub answered_more : (base : List Row) (plan : Plan) (moments : Moments) (finishes h events more : List Event) (replies : List Answered) → AreWithin h replies →
    ((k w moment front : ℕ) → ¬ Contains events (Finish k w moment front)) → AreReplies base plan moments finishes h replies → AreReplies base plan moments (finishes ++ events) (h ++ more) replies
answered_more base plan moments finishes h events more replies within none are =
    record {
      rise = are.rise;
      each = all_stay base plan moments finishes h events more replies within are.each;
      all = λ k w moment front query c asks. elim (Contains-append_cases finishes events (Finish k w moment front) c) [
        | inl there ↦ are.all k w moment front query there asks
        | inr late ↦ absurd (none k w moment front late)
      ];
    }

-- no reply is to an operation that hasn't started
pub none_replied : (base : List Row) (plan : Plan) (moments : Moments) (workers : ℕ) (finishes g h : List Event) (op : ℕ) (replies : List Answered) → IsLegal (schedule_of plan) workers h → ((e : Event) → Contains finishes e → Contains h e) →
    AreReplies base plan moments finishes g replies → started h op ≡ false → All (λ other. other.op ≢ op) replies
none_replied base plan moments workers finishes g h op replies legal there are fresh k d lt same =
    let is = are.each k d lt in
    let begun = was_started (schedule_of plan) workers h legal _ is.worker is.at _ (there (Finish _ is.worker is.at _) is.finished) in
    let none = ap (started h) same in
    cc

-- ---- the Finish of an operation that was served

module _ (base : List Row) (plan : Plan) (moments : Moments) (finishes h more : List Event) (op worker at : ℕ) (s : Served) (later : min s.now MAX_AT ≤ at) (r : Taken) (old new : List Answered) (within : AreWithin h old)
    (stands : (query : Query) → Asks plan op query → StandsFor base plan h r) (are : AreReplies base plan moments finishes h old) (rise : AllPairs (λ one other. one.op < other.op) new)
    (o : Operation) (here : slice_get plan.operations op ≡ Some o) where
  abbrev longer : List Event
  longer = finishes ++ Finish op worker at s.front ∷ []

  -- one operation does one thing
  works : (query : Query) → Asks plan op query → o.work ≡ AskWork query
  works query asks = ap (λ (x : Operation). x.work) (same_Some o asks.0 (sym here ∙ asks.1)) ∙ asks.2

  -- the reply to the read
  one_answered : (query : Query) (a : Answered) → o.work ≡ AskWork query → s.front ≡ r.front → IsReplyNow moments op r query s.now a → ReplyIsRight base plan moments longer (h ++ more) a
  one_answered query a asked seen is =
      let holds : StandsFor base plan h r = stands query (o, here, asked) in
      let number : a.op ≡ op = is.number in
      let size : a.front ≡ length h = is.front ∙ holds.front in
      let told : a.front ≡ s.front = is.front ∙ sym seen in
      let e : Finish op worker at s.front ≡ Finish a.op worker at a.front = cc in
      record {
        worker = worker;
        at = at;
        finished = subst (Contains longer) e (Contains-push finishes (Finish op worker at s.front));
        later = record { reading = s.now; tells = is.after; by = later };
        query = query;
        asks = (o, subst (λ (k : ℕ). slice_get plan.operations k ≡ Some o) (sym number) here, asked);
        graph = r.graph;
        after = subst (λ (g : List Event). IsAfter base plan g r.graph) (sym (ap (λ (n : ℕ). take n (h ++ more)) size ∙ take-append_seam h more)) holds.after;
        replies = is.reply;
      }

  -- by what was done
  answered_by : (work : Work) → o.work ≡ work → IsDone moments op r old new s work → AreReplies base plan moments longer (h ++ more) new
  answered_by (InsertWork line) inserts done =
      record {
        rise = rise;
        each = subst (All (ReplyIsRight base plan moments longer (h ++ more))) (sym done.1) (all_stay base plan moments finishes h (Finish op worker at s.front ∷ []) more old within are.each);
        all = λ k w moment seen query c asks. elim (Contains-push_cases finishes (Finish op worker at s.front) (Finish k w moment seen) c) [
          | inl there ↦ (
              let found = are.all k w moment seen query there asks in
              (found.0, subst (λ (xs : List Answered). Contains xs found.0) (sym done.1) found.1, found.2))
          | inr same ↦ absurd (
              let number : op ≡ k = cc in
              let asked = works query (subst (λ (n : ℕ). Asks plan n query) (sym number) asks) in
              cc)
        ];
      }
  answered_by (AskWork query) asked done =
      let a : Answered = done.1.0 in
      let is : IsReplyNow moments op r query s.now a = done.1.1 in
      let added : HasAdded a old new = done.1.2 in
      record {
        rise = rise;
        each = all_added (ReplyIsRight base plan moments longer (h ++ more)) a old new added (all_stay base plan moments finishes h (Finish op worker at s.front ∷ []) more old within are.each)
            (one_answered query a asked done.0 is);
        all = λ k w moment seen other c asks. elim (Contains-push_cases finishes (Finish op worker at s.front) (Finish k w moment seen) c) [
          | inl there ↦ (let found = are.all k w moment seen other there asks in (found.0, still_there a old new found.0 added found.1, found.2))
          | inr same ↦ (let number : op ≡ k = cc in (a, added_there a old new added, is.number ∙ number))
        ];
      }

-- the replies are those to the reads that are finished then, whatever else has happened in between
pub answered_at_finish : (base : List Row) (plan : Plan) (moments : Moments) (finishes h more : List Event) (op worker at : ℕ) (s : Served) → min s.now MAX_AT ≤ at → (r : Taken) (old new : List Answered) → AreWithin h old →
    ((query : Query) → Asks plan op query → StandsFor base plan h r) → AreReplies base plan moments finishes h old → AllPairs (λ one other. one.op < other.op) new → IsServed plan moments op r old new s →
    AreReplies base plan moments (finishes ++ Finish op worker at s.front ∷ []) (h ++ more) new
answered_at_finish base plan moments finishes h more op worker at s later r old new within stands are rise served =
    answered_by base plan moments finishes h more op worker at s later r old new within stands are rise served.0 served.1 served.0.work refl served.2

-- ---- the front of the Finish

-- the replies are answered no later than the replica
pub fronts_served : (plan : Plan) (moments : Moments) (op : ℕ) (s : Served) (r : Taken) (old new : List Answered) → All (λ a. a.front ≤ r.front) old → IsServed plan moments op r old new s → All (λ a. a.front ≤ r.front) new
fronts_served plan moments op s r old new low served = by served.0.work served.2
  where
    by : (work : Work) → IsDone moments op r old new s work → All (λ a. a.front ≤ r.front) new
    by (InsertWork line) done = subst (All (λ a. a.front ≤ r.front)) (sym done.1) low
    by (AskWork query) done = (let told = done.1.1.front in all_added (λ a. a.front ≤ r.front) done.1.0 old new done.1.2 low (omega arith))

-- a read's front is the replica's, which has taken the operation's Start, and an insert's is 0
pub front_is : (base : List Row) (plan : Plan) (moments : Moments) (h : List Event) (op : ℕ) (s : Served) (r : Taken) (old new : List Answered) → IsOfStreams plan → position_or_len (starts op) h < length h →
    ((query : Query) → Asks plan op query → StandsFor base plan h r) → IsServed plan moments op r old new s → IsFront (schedule_of plan) h op s.front
front_is base plan moments h op s r old new streams begun stands served = by served.0 served.1 served.0.work refl served.2
  where
    by : (o : Operation) → slice_get plan.operations op ≡ Some o → (work : Work) → o.work ≡ work → IsDone moments op r old new s work → IsFront (schedule_of plan) h op s.front
    by o here (InsertWork line) is done =
        record {
          of_read = λ read. absurd (let none = insert_is_no_query plan op o line streams here is in cc);
          of_insert = λ insert. done.0;
        }
    by o here (AskWork query) is done =
        record {
          of_read = λ read. let holds : StandsFor base plan h r = stands query (o, here, is) in let size : s.front ≡ length h = done.0 ∙ holds.front in (omega arith, omega arith);
          of_insert = λ insert. absurd (let some = ask_is_query plan op o query streams here is in cc);
        }
