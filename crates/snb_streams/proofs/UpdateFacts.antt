-- How a sink of inserts in order is seen that appends them to a list.
use Rattle.std.proofs.Common.{◌≡◌, ◌++◌, ◌∷◌, ◌∙◌, [], ℕ, List, Option, None, refl, arith, inl, inr, sym}
use Rattle.snb_schema.specs.declared.file.FileId.{FileId}
use Rattle.snb_schema.specs.declared.file.FileKind.{FileKind}
use Rattle.snb_schema.specs.declared.op.Line.{Line}
use Rattle.snb_schema.specs.declared.refusal.Refusal.{Refusal}
use Rattle.snb_input_lines.specs.Feeding.{HasRead, HasRunOut, HasStopped, HasStoppedAtEnd, Reader}
use Rattle.snb_input_lines.specs.Laws.{TakesOnce}
use Rattle.snb_input_lines.specs.Sinks.{Refuses, Takes}
use Rattle.snb_input_lines.proofs.Laws.{Seen, has_read_seen, has_run_out_seen, has_stopped_at_end_seen, has_stopped_seen}
use Rattle.snb_streams.specs.Lines.{stream_language}
use Rattle.snb_streams.specs.Order.{FallsBehind, Follows, IsUnmoved, OrderRefuses, OrderTakes, Ordered, never_ends, ordered}

module _ {S : Type 0} (last_of : S → ℕ) (items_of : S → List Line) where
  -- such a sink appends an insert whose t is no lower than the last
  abbrev pub Appends : Takes S Line
  Appends old file x new = OrderTakes (last_of old) x (last_of new) × (items_of new ≡ items_of old ++ x ∷ [])

  -- and refuses one whose t is lower, and no other
  abbrev pub RefusesFalls : Refuses S Line
  RefusesFalls old file x r = OrderRefuses (last_of old) file x (λ q. ⊥) r

  -- these states of it were told the same
  abbrev pub IsSameList : S → S → Type 0
  IsSameList old new = (items_of new ≡ items_of old) × (last_of new ≡ last_of old)

  -- it refuses no end of a file
  abbrev pub ends_well : S → FileId → Option Refusal
  ends_well s file = None

  -- what is seen of it: the last t and the list
  abbrev pub seen : S → Ordered
  seen s = ordered (last_of s) (items_of s)

  -- and what is seen of it follows and falls behind
  pub seen_in_order : Seen seen Appends RefusesFalls IsSameList ends_well Follows FallsBehind IsUnmoved never_ends
  seen_in_order = record {
    step = λ old new file x h. (h.0.0, h.0.1, h.1);
    bad = λ old file x r h. elim h [ inl fall ↦ fall | inr inner ↦ elim inner.1 [ inl none ↦ absurd none | inr none ↦ absurd none.1 ] ];
    left = λ old new h. λ i. ordered (h.1 i) (h.0 i);
    over = λ s file. refl;
  }

  -- so what a reader has done to such a sink it has done to what is seen of it
  module _ (ls : List (List ℕ)) (old : Reader FileKind (Unit {0})) (had : S) (new : Reader FileKind (Unit {0})) (has : S) where
    pub has_read : HasRead (stream_language old.grammar) Appends ls old had new has → HasRead (stream_language old.grammar) Follows ls old (seen had) new (seen has)
    has_read = has_read_seen (stream_language old.grammar) seen Appends RefusesFalls IsSameList ends_well Follows FallsBehind IsUnmoved never_ends seen_in_order ls old had new has

    pub has_stopped : (r : Refusal) → HasStopped (stream_language old.grammar) Appends RefusesFalls IsSameList ls old had new has r
        → HasStopped (stream_language old.grammar) Follows FallsBehind IsUnmoved ls old (seen had) new (seen has) r
    has_stopped = has_stopped_seen (stream_language old.grammar) seen Appends RefusesFalls IsSameList ends_well Follows FallsBehind IsUnmoved never_ends seen_in_order ls old had new has

    pub has_stopped_at_end : (r : Refusal) → HasStoppedAtEnd (stream_language old.grammar) Appends RefusesFalls IsSameList ends_well ls old had new has r
        → HasStoppedAtEnd (stream_language old.grammar) Follows FallsBehind IsUnmoved never_ends ls old (seen had) new (seen has) r
    has_stopped_at_end = has_stopped_at_end_seen (stream_language old.grammar) seen Appends RefusesFalls IsSameList ends_well Follows FallsBehind IsUnmoved never_ends seen_in_order ls old had new has

    pub has_run_out : HasRunOut (stream_language old.grammar) Appends IsSameList ls old had new has → HasRunOut (stream_language old.grammar) Follows IsUnmoved ls old (seen had) new (seen has)
    has_run_out = has_run_out_seen (stream_language old.grammar) seen Appends RefusesFalls IsSameList ends_well Follows FallsBehind IsUnmoved never_ends seen_in_order ls old had new has

-- an insert that follows doesn't fall behind, and leads to one state
pub follows_once : TakesOnce Follows FallsBehind
follows_once = record {
  one = λ old new other file x h k.
      let last : new.last ≡ other.last = h.1 ∙ sym k.1 in
      let items : new.items ≡ other.items = h.2 ∙ sym k.2 in
      λ i. ordered (last i) (items i);
  apart = λ old new file x r h k. let low = k.0 in let high = h.0 in omega (arith, low, high);
}
