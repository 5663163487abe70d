-- Each insert of a legal history of a closed plan is welcome after those that are finished before it.
use Rattle.std.proofs.Common.{◌≡◌, ◌∷◌, ◌++◌, ◌∙◌, ℕ, ◌<◌, ◌≤◌, List, [], get_or, true, false, Some, inl, inr, refl, sym, ap, subst, arith}
use Rattle.std.specs.Prelude.{Contains, slice_get}
use Rattle.std.proofs.lemmas.Bool.{cases_order}
use Rattle.std.proofs.lemmas.List.Elements.{Contains-get_or}
use Rattle.std.proofs.lemmas.List.Folds.{list_any-append}
use Rattle.snb_history.specs.declared.event.Event.{Event}
use Rattle.snb_history.specs.declared.event.Event.TheVariants.{Start, Finish, Halt}
use Rattle.snb_schema.specs.declared.key.Key.{Key}
use Rattle.snb_schema.specs.declared.op.Op.{Op}
use Rattle.snb_schema.specs.declared.refusal.Missing.{Missing}
use Rattle.snb_schema.specs.declared.row.Row.{Row}
use Rattle.snb_history.specs.declared.step.LaneKind.{LaneKind}
use Rattle.snb_history.specs.History.{finished, finishes, hand}
use Rattle.snb_schema.specs.Inserts.{keys_of}
use Rattle.snb_history.specs.ScheduleLaws.{PrefixIsLegal}
use Rattle.snb_schema.specs.References.{added_node, refs_of}
use Rattle.snb_schema.specs.RowKeys.{named_key, node_key}
use Rattle.snb_history.specs.Rules.{Fits, IsLegal, V5, V7}
use Rattle.snb_history.specs.Schedule.{IsInForum, Schedule, step_of}
use Rattle.snb_history.proofs.Laws.{forum_goes_in_turn, hand_has_start, keeps_legal}
use Rattle.snb_graph_model.specs.Graphs.{HoldsKey}
use Rattle.snb_plan.specs.Closed.{IsMet, Update}
use Rattle.snb_plan.specs.Plans.{Plan, schedule_of, updates_in}
use Rattle.snb_plan.specs.Merging.{kinds_of}
use Rattle.snb_inserts.specs.Applying.{IsThere, IsWelcome}
use Rattle.snb_workers_replay.specs.Laws.{IsReplayed, WelcomeInTurn}
use Rattle.snb_workers_replay.specs.Replay.{IsAfter, finished_insert}
use Rattle.snb_workers_replay.proofs.Finishes.{IsAdded, after_base, after_finish, held_after}
use Rattle.snb_workers_replay.proofs.Forums.{adds_for, in_forum_lane}
use Rattle.snb_workers_replay.proofs.Single.{adds_node, names_own, waits_for}
use Rattle.snb_workers_replay.proofs.Updates.{IsUpdateAt, at_before, at_some, before_at, closed_at, inserts_at, step_at, update_at, updates_before}

-- what is finished stays so
finished_more : (g h : List Event) (k : ℕ) → finished g k ≡ true → finished (g ++ h) k ≡ true
finished_more g h k f = let a = list_any-append (finishes k) g h in grind arith

-- what a legal history says of an operation that somebody has in hand
pub record IsOpen (s : Schedule) (g : List Event) (k : ℕ) : Type 0 where
  pub unfinished : finished g k ≡ false
  pub cleared : (step_of s k).dependent ≡ true → (j : ℕ) → (step_of s j).dependency ≡ true → (step_of s j).t ≤ (step_of s k).t_d → finished g j ≡ true
  pub turn : IsInForum s k → (j : ℕ) → j < k → (step_of s j).lane ≡ (step_of s k).lane → finished g j ≡ true

is_open : (s : Schedule) (workers : ℕ) (g : List Event) (k worker : ℕ) → IsLegal s workers g → hand g worker ≡ Some k → IsOpen s g k
is_open s workers g k worker legal held =
    let keeps = keeps_legal s workers g legal in
    let start = hand_has_start worker k g held in
    let fits : Fits s workers start.0 (Start k worker start.2) = legal.fits start.0 (Start k worker start.2) start.1 start.3 in
    record {
      unfinished = keeps.held_open worker k held;
      cleared = λ waits j dependency before.
          subst (λ (l : List Event). finished l j ≡ true) start.3 (finished_more start.0 (Start k worker start.2 ∷ start.1) j (fits.obeys V5 waits j dependency before));
      turn = λ forum j lt lane. forum_goes_in_turn s workers g legal j k forum (lt, lane) (keeps.held_begun worker k held);
    }

module _ {base : List Row} {plan : Plan} {g : List Event} {graph : List Row} (r : IsReplayed base plan) (after : IsAfter base plan g graph) {k : ℕ} {u : Update} (at : IsUpdateAt plan k u)
    (now : IsOpen (schedule_of plan) g k) where
  -- the rows of an update that is finished hold what its node is known by
  there_by : (j : ℕ) (v : Update) (node : Missing) → IsUpdateAt plan j v → finished g j ≡ true → added_node v.line.op ≡ Some node → IsThere graph node
  there_by j v node here done adds = after_finish base plan g graph (node_key node.kind node.id) j v.line.op after done (inserts_at plan j v here) (adds_node v.line.op node adds)

  -- a node that it refers to is held
  there : (node : Missing) → Contains (refs_of u.line.op) node → IsMet (HoldsKey base) (updates_in plan) (updates_before plan k) u node → IsThere graph node
  there node c (inl held) = after_base base plan g graph (node_key node.kind node.id) after held
  there node c (inr (inl (awaited, (v, one, adds, in_time)))) =
      let j = at_some plan v one in
      let first = step_at r.of_streams.is_plan j.0 v j.1 in
      let own = step_at r.of_streams.is_plan k u at in
      let t = first.t in
      let t_d = own.t_d in
      there_by j.0 v node j.1
      (now.cleared (own.dependent ∙ waits_for u.line.op node c awaited) j.0 (first.dependency ∙ adds_for v.line.op node adds awaited) (omega (arith, t, t_d, in_time)))
      adds
  there node c (inr (inr (in_lane, (v, one, lane, adds)))) =
      let j = at_before plan k v one in
      let first = step_at r.of_streams.is_plan j.0 v j.2 in
      let own = step_at r.of_streams.is_plan k u at in
      let forum : IsInForum (schedule_of plan) k =
      ap (λ (kinds : List LaneKind). slice_get kinds (step_of (schedule_of plan) k).lane) r.of_streams.is_plan.lane_kinds
      ∙ (ap (slice_get (kinds_of r.of_streams.lanes)) (own.lane ∙ sym lane) ∙ in_forum_lane r.of_streams.lanes v.lane first.place v.line node r.of_streams.streams first.in_lanes first.line adds in_lane) in
      there_by j.0 v node j.2 (now.turn forum j.0 j.1 (first.lane ∙ (lane ∙ sym own.lane))) adds

  -- a key that it takes is held by no other insert that is finished
  apart : (key : Key) → Contains (keys_of u.line.op) key → IsAdded plan g (named_key key) → ⊥
  apart key c added =
      let found = update_at r.of_streams.is_plan added.number added.op added.at in
      let v : Update = found.0 in
      let other : IsUpdateAt plan added.number v = found.1 in
      let takes : Contains (keys_of v.line.op) key = subst (λ (o : Op). Contains (keys_of o) key) (sym found.2) (names_own added.op key added.held) in
      elim (cases_order added.number k) [
        | inl here ↦ (let done : finished g k ≡ true = subst (λ (n : ℕ). finished g n ≡ true) here added.done in let open_yet = now.unfinished in cc)
        | inr differ ↦ elim differ [
          | inl lower ↦ (closed_at (HoldsKey base) plan k u r.closed at).new (key, c, inr (v, before_at plan added.number k v other lower, takes))
          | inr higher ↦ (closed_at (HoldsKey base) plan added.number v r.closed other).new (key, takes, inr (u, before_at plan k added.number u at higher, c))
        ]
      ]

  free : (key : Key) → Contains (keys_of u.line.op) key → ¬ HoldsKey graph key
  free key c held = elim (held_after base plan g graph (named_key key) after held) [
    | inl first ↦ (closed_at (HoldsKey base) plan k u r.closed at).new (key, c, inl first)
    | inr added ↦ apart key c added
  ]

  -- so it is welcome
  pub welcome_here : IsWelcome graph u.line.op
  welcome_here = (
    λ i d within. there (get_or (refs_of u.line.op) i d) (Contains-get_or (refs_of u.line.op) i d within) ((closed_at (HoldsKey base) plan k u r.closed at).met i d within),
    λ held. free held.0 held.1 held.2,
  )

pub welcome_in_turn : PrefixIsLegal → WelcomeInTurn
welcome_in_turn prefix base plan workers g e op graph r legal finishes_it after = by_event e legal finishes_it
  where
    by_event : (x : Event) → IsLegal (schedule_of plan) workers (g ++ x ∷ []) → finished_insert plan x ≡ Some op → IsWelcome graph op
    by_event (Start k worker at) l q = absurd cc
    by_event (Finish k worker at front) l q =
        let fits : Fits (schedule_of plan) workers g (Finish k worker at front) = l.fits g (Finish k worker at front) [] refl in
        let found = update_at r.of_streams.is_plan k op q in
        subst (IsWelcome graph) found.2
        (welcome_here r after found.1 (is_open (schedule_of plan) workers g k worker (prefix (schedule_of plan) workers g (Finish k worker at front ∷ []) l) (fits.obeys V7)))
    by_event (Halt worker) l q = absurd cc
