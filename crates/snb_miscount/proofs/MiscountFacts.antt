-- Facts on the counts of a log: a Finish has one count at most, and the first wrong one among some tallies becomes the first of all.
use Rattle.std.proofs.Common.{append-nil, get_or, ◌≡◌, ◌≢◌, ◌∙◌, ℕ, ◌+◌, ◌-◌, ◌<◌, ◌≤◌, ◌⊎◌, List, [], ◌∷◌, ◌++◌, length, take, drop, Option, Some, None, inl, inr, refl, sym, ap, subst, arith, length-take}
use Rattle.std.specs.Prelude.{slice_get}
use Rattle.std.specs.List.Sorted.{IsNonDecreasingBy, IsPermutation}
use Rattle.std.proofs.lemmas.Bool.{cases_eq}
use Rattle.std.proofs.lemmas.List.{drop-map, drop-take, get_or_default, take-append-drop, take-map, take-take}
use Rattle.std.proofs.lemmas.List.Elements.{Contains-push_cases}
use Rattle.std.proofs.lemmas.List.Sorted.{IsPermutation-refl}
use Rattle.std.proofs.lemmas.Option.{same_Some}
use Rattle.snb_read_model.specs.Cells.{ByteCell}
use Rattle.snb_read_model.specs.ComplexReads.{IsAnswer}
use Rattle.snb_read_model.specs.Replies.{IsReply}
use Rattle.snb_history.specs.declared.event.Event.{Event}
use Rattle.snb_history.specs.declared.event.Event.TheVariants.{Start, Finish, Halt}
use Rattle.snb_history.specs.declared.logged.Logged.{Logged}
use Rattle.snb_schema.specs.declared.limits.TheConstants.{MAX_WORKERS}
use Rattle.snb_schema.specs.declared.query.Query.{Query}
use Rattle.snb_schema.specs.declared.row.Row.{Row}
use Rattle.snb_history.specs.ScheduleLaws.{PrefixIsLegal}
use Rattle.snb_history.specs.Rules.{IsLegal}
use Rattle.snb_graph_model.specs.Graphs.{HoldsKey, IsGraph}
use Rattle.snb_graph_model.specs.Laws.{GraphsAreTheirRows}
use Rattle.snb_graph_model.specs.Soundness.{Sound}
use Rattle.snb_plan.specs.Closed.{IsClosed}
use Rattle.snb_plan.specs.Plans.{AskWork, InsertWork, Operation, Plan, Work, schedule_of, updates_in}
use Rattle.snb_read_laws.specs.Laws.{OneAnswer, OneReply, SomeReply}
use Rattle.snb_workers_replay.specs.Laws.{IsReplayed, PrefixesAreSound}
use Rattle.snb_workers_replay.specs.Replay.{IsAfter}
use Rattle.snb_audit_model.specs.declared.miscount.Miscount.{Miscount}
use Rattle.snb_miscount.specs.declared.tally.Tally.{Tally}
use Rattle.snb_replica.specs.Counts.{IsCount, IsCountOf, first_rows}
use Rattle.snb_miscount.specs.Laws.{OneCount}
use Rattle.snb_audit_model.specs.Miscounts.{IsFirstMiscount, IsMiscount, events_of}
use Rattle.snb_replica.specs.Replicas.{HasTaken, IfFinish, IsCountable, MayTake, StandsFor, Taken}
use Rattle.snb_miscount.specs.Tallies.{CountsRows, HasRows, HasTallies, HasTally, IsAlong, IsEarlier, IsInsert, IsLeastAmong, IsTally, IsWeighed, miscount_of}
use Rattle.snb_workers_replay.proofs.Laws.{same_gain}

-- ---- one count

-- what the laws say of the graphs of a history
pub record HasLaws (base : List Row) (plan : Plan) (h : List Event) : Type 0 where
  pub rows : GraphsAreTheirRows
  pub sound : (k : ℕ) (graph : List Row) → IsAfter base plan (take k h) graph → Sound graph
  pub replies : OneReply

-- the graph after each front of the history is sound
pub has_laws : (base : List Row) (plan : Plan) (workers : ℕ) (h : List Event) → GraphsAreTheirRows → PrefixesAreSound → OneReply → IsGraph base → Sound base → IsReplayed base plan
    → IsLegal (schedule_of plan) workers h → HasLaws base plan h
has_laws base plan workers h rows prefixes replies graph sound replayed legal = record {
  rows = rows;
  sound = λ k g after.
      let some = prefixes base plan workers (take k h) (drop k h) h graph sound replayed legal (take-append-drop k h) in
      subst Sound (same_gain rows base _ some.0 g some.1 after) some.2;
  replies = replies;
}

module _ (base : List Row) (plan : Plan) (h : List Event) (laws : HasLaws base plan h) where
  one_count_of : (front : ℕ) (work : Work) (n m : ℕ) → IsCountOf base plan h front work n → IsCountOf base plan h front work m → n ≡ m
  one_count_of front (InsertWork line) n m a b = a ∙ sym b
  one_count_of front (AskWork query) n m (g, after, reply, is, size) (other, later, second, replies, count) =
      let same : other ≡ g = same_gain laws.rows base _ other g later after in
      let one : reply ≡ second = laws.replies g query reply second after.graph (laws.sound front g after) is (subst (λ (x : List Row). IsReply x query second) same replies) in
      size ∙ (ap first_rows one ∙ sym count)

  -- a Finish has one count at most
  one_count : (e : Event) (n m : ℕ) → IsCount base plan h e n → IsCount base plan h e m → n ≡ m
  one_count (Start op worker at) n m a b = absurd a
  one_count (Finish op worker at front) n m (o, here, is) (other, there, count) =
      one_count_of front o.work n m is (subst (λ (x : Operation). IsCountOf base plan h front x.work m) (same_Some other o (sym there ∙ here)) count)
  one_count (Halt worker) n m a b = absurd a

-- in each legal history
pub count_is_one : OneReply → GraphsAreTheirRows → PrefixesAreSound → OneCount
count_is_one one rows sound_after base plan workers h e m n graph sound replayed legal a b = one_count base plan h (has_laws base plan workers h rows sound_after one graph sound replayed legal) e m n a b

-- ---- the count of a tally

-- the rows of a read's own answer are those of the first answer of its reply
pub rows_of_own : OneAnswer → SomeReply → (graph : List Row) → IsGraph graph → Sound graph → (query : Query) (own : List (List ByteCell)) (n : ℕ) → IsAnswer graph query own → n ≡ length own → HasRows graph (AskWork query) n
rows_of_own one some graph is sound query own n answer size =
    let (reply, replied) = some graph query is sound in
    (reply, replied, size ∙ (ap length (one graph query own replied.own is sound answer replied.answer) ∙ ap first_rows (sym replied.is)))

-- what is counted on the graph after a front is the count there
rows_counted : (base : List Row) (plan : Plan) (h : List Event) (front : ℕ) (graph : List Row) → IsAfter base plan (take front h) graph → (work : Work) (n : ℕ) → HasRows graph work n → IsCountOf base plan h front work n
rows_counted base plan h front graph after (InsertWork line) n has = has
rows_counted base plan h front graph after (AskWork query) n (reply, is, size) = (graph, after, reply, is, size)

-- what a replica at the front of a tally counts is the count of its Finish
pub tally_counts : (base : List Row) (plan : Plan) (logged : List Logged) (r : Taken) (t : Tally) (n : ℕ) → IsAlong base plan (events_of logged) r → r.front ≡ t.front → CountsRows plan r.graph t.op n
    → (is : IsTally logged t) → IsCount base plan (events_of logged) is.one.event n
tally_counts base plan logged r t n along front (o, here, has) is =
    subst (λ (e : Event). IsCount base plan (events_of logged) e n) (sym is.of.finish)
    (o, here, rows_counted base plan (events_of logged) t.front r.graph (subst (λ (k : ℕ). IsAfter base plan (take k (events_of logged)) r.graph) front along.stands.after) o.work n has)

-- ---- one tally more

module _ (base : List Row) (plan : Plan) (logged : List Logged) (seen : List Tally) (t : Tally) (needs : ℕ) where
  -- the tally of an event is among those so far, or is the last
  among_cases : (k : ℕ) → HasTally (seen ++ t ∷ []) k → HasTally seen k ⊎ (t.event ≡ k)
  among_cases k has = elim (Contains-push_cases seen t has.it has.held) [
    | inl before ↦ inl (record { it = has.it; held = before; event = has.event })
    | inr last ↦ inr (ap (λ (x : Tally). x.event) last ∙ has.event)
  ]

  module _ (laws : HasLaws base plan (events_of logged)) (is : IsTally logged t) (count : IsCount base plan (events_of logged) is.one.event needs) where
    -- a wrong count of the event of a tally is that of the tally
    wrong_here : (m : Miscount) → IsMiscount base plan logged m → t.event ≡ m.event → needs ≢ t.found
    wrong_here m wrong same e =
        let one : is.one ≡ wrong.one = same_Some is.one wrong.one (sym is.there ∙ (ap (slice_get logged) same ∙ wrong.there)) in
        let found : t.found ≡ m.found = same_Some t.found m.found (sym is.of.count ∙ (ap (λ (l : Logged). l.rows) one ∙ wrong.found)) in
        let needed : m.needs ≡ needs =
        one_count base plan (events_of logged) laws is.one.event m.needs needs (subst (λ (l : Logged). IsCount base plan (events_of logged) l.event m.needs) (sym one) wrong.needs) count in
        wrong.differ (sym found ∙ (sym e ∙ sym needed))

    miscount_here : needs ≢ t.found → IsMiscount base plan logged (miscount_of t needs)
    miscount_here differ = record { one = is.one; there = is.there; found = is.of.count; needs = count; differ = λ e. differ (sym e) }

    right_more : needs ≡ t.found → (best : Option Miscount) → IsLeastAmong base plan logged seen best → IsLeastAmong base plan logged (seen ++ t ∷ []) best
    right_more e None least = λ m wrong has. elim (among_cases m.event has) [
      | inl before ↦ least m wrong before
      | inr here ↦ wrong_here m wrong here e
    ]
    right_more e (Some b) least = (
      least.0,
      λ m wrong has. elim (among_cases m.event has) [
        | inl before ↦ least.1 m wrong before
        | inr here ↦ absurd (wrong_here m wrong here e)
      ],
    )

    wrong_more : needs ≢ t.found → (best : Option Miscount) (m : Miscount) → IsEarlier best (miscount_of t needs) m → IsLeastAmong base plan logged seen best → IsLeastAmong base plan logged (seen ++ t ∷ []) (Some m)
    wrong_more differ None m earlier least = (
      elim earlier.either [
        | inl same ↦ subst (IsMiscount base plan logged) (sym same) (miscount_here differ)
        | inr none ↦ absurd cc
      ],
      λ other wrong has. elim (among_cases other.event has) [
        | inl before ↦ absurd (least other wrong before)
        | inr here ↦ (let le = earlier.before_other in omega (arith, le, here))
      ],
    )
    wrong_more differ (Some b) m earlier least = (
      elim earlier.either [
        | inl same ↦ subst (IsMiscount base plan logged) (sym same) (miscount_here differ)
        | inr some ↦ subst (IsMiscount base plan logged) (same_Some b m some) least.0
      ],
      λ other wrong has. elim (among_cases other.event has) [
        | inl before ↦ (let le = least.1 other wrong before in let less = earlier.before_best in omega (arith, le, less))
        | inr here ↦ (let le = earlier.before_other in omega (arith, le, here))
      ],
    )

    -- the first wrong count with one tally more
    pub least_more : (best new : Option Miscount) → IsWeighed best t needs new → IsLeastAmong base plan logged seen best → IsLeastAmong base plan logged (seen ++ t ∷ []) new
    least_more best new weighed least = elim (cases_eq needs t.found) [
      | inl same ↦ subst (IsLeastAmong base plan logged (seen ++ t ∷ [])) (sym (weighed.right same)) (right_more same best least)
      | inr differ ↦ (
          let w = weighed.wrong differ in
          subst (IsLeastAmong base plan logged (seen ++ t ∷ [])) (sym w.1) (wrong_more differ best w.0 w.2 least))
    ]

-- ---- all of them

-- a count of a fine event isn't wrong
fine_is_right : (base : List Row) (plan : Plan) (h : List Event) (e : Event) (found needs : ℕ) → IfFinish e (λ op. (found ≡ 0) × IsInsert plan op) → IsCount base plan h e needs → found ≡ needs
fine_is_right base plan h (Start op worker at) found needs fine count = absurd count
fine_is_right base plan h (Finish op worker at front) found needs (zero_found, insert) (o, here, count) =
    let same : o ≡ insert.operation = same_Some o insert.operation (sym here ∙ insert.here) in
    let none : needs ≡ 0 = subst (λ (w : Work). IsCountOf base plan h front w needs) (ap (λ (x : Operation). x.work) same ∙ insert.inserts) count in
    zero_found ∙ sym none
fine_is_right base plan h (Halt worker) found needs fine count = absurd count

module _ (base : List Row) (plan : Plan) (logged : List Logged) (tallies : List Tally) (all : HasTallies plan logged tallies) where
  -- the event of a wrong count has a tally
  wrong_has_tally : (m : Miscount) → IsMiscount base plan logged m → HasTally tallies m.event
  wrong_has_tally m wrong = elim (all m.event wrong.one wrong.there) [
    | inl fine ↦ absurd (wrong.differ (fine_is_right base plan (events_of logged) wrong.one.event m.found m.needs (fine m.found wrong.found) wrong.needs))
    | inr has ↦ has
  ]

  -- the first among those of all tallies is the first of the log
  pub first_of_least : (best : Option Miscount) → IsLeastAmong base plan logged tallies best → IsFirstMiscount base plan logged best
  first_of_least None least = λ m wrong. least m wrong (wrong_has_tally m wrong)
  first_of_least (Some b) least = (least.0, λ m wrong. least.1 m wrong (wrong_has_tally m wrong))

-- ---- along the history

module _ (base : List Row) (plan : Plan) (h : List Event) (r : Taken) (along : IsAlong base plan h r) (front : ℕ) (ahead : r.front ≤ front) (within : front ≤ length h) (events : List Event)
    (are : events ≡ take (front - r.front) (drop r.front h)) where
  reaches : take r.front h ++ events ≡ take front h
  reaches =
      let to : r.front + (front - r.front) ≡ front = omega (arith, ahead) in
      let piece : events ≡ drop r.front (take front h) = are ∙ (sym (drop-take r.front (front - r.front) h) ∙ ap (λ (n : ℕ). drop r.front (take n h)) to) in
      ap (λ (l : List Event). take r.front h ++ l) piece
      ∙ (ap (λ (l : List Event). l ++ drop r.front (take front h)) (sym (take-take r.front front h ahead)) ∙ take-append-drop r.front (take front h))

  -- the replica may take the events up to the front
  pub may_go : PrefixIsLegal → MayTake plan events r base (take r.front h)
  may_go prefix = record {
    stands = along.stands;
    closed = along.closed;
    workers = along.workers;
    few = elim along.few [
      | inl few ↦ inl few
      | inr short ↦ inr (let same = ap length reaches in let size = length-take front h in omega (arith, short, within, same, size))
    ];
    legal = prefix (schedule_of plan) along.workers (take r.front h ++ events) (drop front h) (subst (IsLegal (schedule_of plan) along.workers) (sym (ap (λ (l : List Event). l ++ drop front h) reaches ∙ take-append-drop front h)) along.legal);
  }

  -- and then stands there
  pub has_gone : PrefixIsLegal → (new : Taken) → HasTaken plan events r new → IsAlong base plan h new × (new.front ≡ front)
  has_gone prefix new taken =
      let stands : StandsFor base plan (take front h) new = subst (λ (l : List Event). StandsFor base plan l new) reaches (taken base (take r.front h) (may_go prefix)) in
      let there : new.front ≡ front = (let size = length-take front h in let is = stands.front in omega (arith, size, is, within)) in (
        record {
          stands = subst (λ (k : ℕ). StandsFor base plan (take k h) new) (sym there) stands;
          within = omega (arith, there, within);
          closed = along.closed;
          workers = along.workers;
          few = along.few;
          legal = along.legal;
        },
        there,
      )

-- before the first event
pub along_start : (base : List Row) (plan : Plan) (h : List Event) (workers : ℕ) (r : Taken) → r ≡ record { graph = base; front = 0 } → IsGraph base → IsClosed (HoldsKey base) (updates_in plan) → IsCountable workers h
    → IsLegal (schedule_of plan) workers h → IsAlong base plan h r
along_start base plan h workers r is graph closed few legal =
    subst (IsAlong base plan h) (sym is)
    (record {
      stands = record { after = record { graph = graph; rows = subst (IsPermutation base) (sym (append-nil base)) (IsPermutation-refl base) }; front = refl };
      within = omega arith;
      closed = closed;
      workers = workers;
      few = few;
      legal = legal;
    })

-- the fronts of the tallies to come are no lower than that of this one
pub ahead_more : (tallies : List Tally) (i front : ℕ) (d : Tally) → i < length tallies → front ≡ (get_or tallies i d).front → IsNonDecreasingBy (λ t. t.front) tallies
    → (k : ℕ) (e : Tally) → i + 1 ≤ k → k < length tallies → front ≤ (get_or tallies k e).front
ahead_more tallies i front d here is rises k e later lt =
    let le = rises i k e (omega (arith, later)) lt in
    let same = ap (λ (t : Tally). t.front) (get_or_default tallies i d e here) in
    omega (arith, le, same, is)

-- a piece of the log has a piece of the history
piece_of : (logged : List Logged) (n k : ℕ) → events_of (take n (drop k logged)) ≡ take n (drop k (events_of logged))
piece_of logged n k = sym (take-map (λ (l : Logged). l.event) n (drop k logged)) ∙ ap (take n) (sym (drop-map (λ (l : Logged). l.event) k logged))

pub pieces : (events items : List Event) (logged : List Logged) (front here at : ℕ) → events ≡ items → items ≡ events_of (take (front - here) (drop here logged)) → here ≡ at
    → events ≡ take (front - at) (drop at (events_of logged))
pieces events items logged front here at read are is =
    read ∙ (are ∙ (piece_of logged (front - here) here ∙ ap (λ (n : ℕ). take (front - n) (drop n (events_of logged))) is))
