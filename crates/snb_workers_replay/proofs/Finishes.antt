-- The inserts that a history has finished, and the keys that their rows hold.
use Rattle.std.proofs.Common.{◌≡◌, ◌∷◌, ◌++◌, ◌∙◌, ℕ, ◌⊎◌, List, [], true, Some, inl, inr, refl, sym, ap, subst}
use Rattle.std.specs.Prelude.{Contains}
use Rattle.std.specs.List.{flat_map}
use Rattle.std.proofs.lemmas.Bool.{eq-eqb, eqb-true}
use Rattle.std.proofs.lemmas.List.Elements.{Contains-append_cases, Contains-append_left, Contains-append_right}
use Rattle.std.proofs.lemmas.List.Sorted.{Contains-permutation, IsPermutation-sym}
use Rattle.std.specs.List.Sorted.{IsPermutation}
use Rattle.snb_history.specs.declared.event.Event.{Event}
use Rattle.snb_history.specs.declared.event.Event.TheVariants.{Start, Finish, Halt}
use Rattle.snb_schema.specs.declared.op.Op.{Op}
use Rattle.snb_schema.specs.declared.row.Row.{Row}
use Rattle.snb_history.specs.History.{finished, finishes}
use Rattle.snb_schema.specs.Inserts.{rows_of}
use Rattle.snb_schema.specs.RowKeys.{RowKey}
use Rattle.snb_graph_model.specs.Graphs.{HasKey}
use Rattle.snb_plan.specs.Plans.{Plan}
use Rattle.snb_base.proofs.Laws.{any_of, contains_cases, contains_here, contains_there, from_any, given_by, gives, none_in}
use Rattle.snb_workers_replay.specs.Replay.{IsAfter, finished_insert, insert_at, inserts_in, rows_in}

-- ---- inserts

-- an insert of a history is that of an operation that is finished in it, and the other way round
pub insert_finished : (plan : Plan) (h : List Event) (op : Op) → Contains (inserts_in plan h) op → (k : ℕ) × (finished h k ≡ true) × (insert_at plan k ≡ Some op)
insert_finished plan h op c = let w = given_by (finished_insert plan) h op c in by_event w.0 w.1 w.2
  where
    by_event : (e : Event) → Contains h e → finished_insert plan e ≡ Some op → (k : ℕ) × (finished h k ≡ true) × (insert_at plan k ≡ Some op)
    by_event (Start k worker at) d q = absurd cc
    by_event (Finish k worker at front) d q = (k, any_of (finishes k) h (Finish k worker at front) d (eq-eqb k k refl), q)
    by_event (Halt worker) d q = absurd cc

pub finished_inserts : (plan : Plan) (h : List Event) (op : Op) (k : ℕ) → finished h k ≡ true → insert_at plan k ≡ Some op → Contains (inserts_in plan h) op
finished_inserts plan h op k f q = let w = from_any (finishes k) h f in by_event w.0 w.1 w.2
  where
    by_event : (e : Event) → Contains h e → finishes k e ≡ true → Contains (inserts_in plan h) op
    by_event (Start j worker at) d hit = absurd cc
    by_event (Finish j worker at front) d hit = gives (finished_insert plan) h (Finish j worker at front) op d (ap (insert_at plan) (eqb-true j k hit) ∙ q)
    by_event (Halt worker) d hit = absurd cc

-- ---- keys

-- rows in another order hold the same keys
held_moved : (rows others : List Row) (key : RowKey) → IsPermutation rows others → HasKey rows key → HasKey others key
held_moved rows others key same h = record { it = h.it; held = Contains-permutation rows others h.it same h.held; keyed = h.keyed }

held_either : (old more : List Row) (key : RowKey) → HasKey (old ++ more) key → HasKey old key ⊎ HasKey more key
held_either old more key h = elim (Contains-append_cases old more h.it h.held) [
  | inl c ↦ inl (record { it = h.it; held = c; keyed = h.keyed })
  | inr c ↦ inr (record { it = h.it; held = c; keyed = h.keyed })
]

held_first : (old more : List Row) (key : RowKey) → HasKey old key → HasKey (old ++ more) key
held_first old more key h = record { it = h.it; held = Contains-append_left old more h.it h.held; keyed = h.keyed }

held_second : (old more : List Row) (key : RowKey) → HasKey more key → HasKey (old ++ more) key
held_second old more key h = record { it = h.it; held = Contains-append_right old more h.it h.held; keyed = h.keyed }

-- a key that the rows of inserts hold is held by the rows of one of them, and the other way round
of_one : (xs : List Op) (key : RowKey) → HasKey (flat_map rows_of xs) key → (y : Op) × Contains xs y × HasKey (rows_of y) key
of_one [] key h = absurd (none_in h.it h.held)
of_one (x ∷ xs) key h = elim (held_either (rows_of x) (flat_map rows_of xs) key h) [
  | inl here ↦ (x, contains_here x xs, here)
  | inr later ↦ let y = of_one xs key later in (y.0, contains_there x xs y.0 y.1, y.2)
]

by_one : (xs : List Op) (y : Op) (key : RowKey) → Contains xs y → HasKey (rows_of y) key → HasKey (flat_map rows_of xs) key
by_one [] y key c h = absurd (none_in y c)
by_one (x ∷ xs) y key c h = elim (contains_cases x xs y c) [
  | inl e ↦ held_first (rows_of x) (flat_map rows_of xs) key (subst (λ (o : Op). HasKey (rows_of o) key) (sym e) h)
  | inr later ↦ held_second (rows_of x) (flat_map rows_of xs) key (by_one xs y key later h)
]

-- ---- the graph after a history

-- it holds what the base holds, and what the rows of a finished insert hold
pub after_base : (base : List Row) (plan : Plan) (h : List Event) (graph : List Row) (key : RowKey) → IsAfter base plan h graph → HasKey base key → HasKey graph key
after_base base plan h graph key after held = held_moved _ graph key (IsPermutation-sym graph _ after.rows) (held_first base (rows_in plan h) key held)

pub after_finish : (base : List Row) (plan : Plan) (h : List Event) (graph : List Row) (key : RowKey) (k : ℕ) (op : Op) → IsAfter base plan h graph
    → finished h k ≡ true → insert_at plan k ≡ Some op → HasKey (rows_of op) key → HasKey graph key
after_finish base plan h graph key k op after done at held =
    held_moved _ graph key (IsPermutation-sym graph _ after.rows)
    (held_second base (rows_in plan h) key (by_one (inserts_in plan h) op key (finished_inserts plan h op k done at) held))

-- and nothing else
pub record IsAdded (plan : Plan) (h : List Event) (key : RowKey) : Type 0 where
  pub number : ℕ
  pub op : Op
  pub done : finished h number ≡ true
  pub at : insert_at plan number ≡ Some op
  pub held : HasKey (rows_of op) key

pub held_after : (base : List Row) (plan : Plan) (h : List Event) (graph : List Row) (key : RowKey) → IsAfter base plan h graph → HasKey graph key → HasKey base key ⊎ IsAdded plan h key
held_after base plan h graph key after held = elim (held_either base (rows_in plan h) key (held_moved graph _ key after.rows held)) [
  | inl first ↦ inl first
  | inr more ↦
      let o = of_one (inserts_in plan h) key more in
      let k = insert_finished plan h o.0 o.1 in
      inr (record { number = k.0; op = o.0; done = k.1; at = k.2; held = o.2 })
]
