use Rattle.std.proofs.Common.{List, OnOk, ap, ◌∙◌, subst}
use Rattle.std.proofs.lemmas.Result.{on_ok_weaker}
use Rattle.snb_schema.specs.Faults.{OnBad}
use Rattle.snb_schema.specs.declared.op.Line.{Line}
use Rattle.snb_input_lines.specs.Feeding.{HasRead, HasRunOut, HasStopped, OnMemory, new_lines}
use Rattle.snb_input_lines.proofs.Laws.{on_bad_weaker, on_memory_weaker}
use Rattle.snb_streams.specs.declared.order.InOrder.{InOrder}
use Rattle.snb_streams.specs.Lines.{stream_language}
use Rattle.snb_streams.specs.Order.{FallsBehind, Follows, IsUnmoved, ordered}
use Rattle.snb_streams.specs.Updates.{Followed}
use Rattle.snb_streams.proofs.UpdateFacts.{has_read, has_run_out, has_stopped}
use Rattle.snb_streams.proofs.updates.Updates.feed.Goals as goal

pub returns-clause-ok : goal.returns-clause-ok
returns-clause-ok c =
    let lines = c.self.inside.lines in
    let had : InOrder _ = record { last = c.self.inside.last; sink = c.replace-list.result } in
    let next = c.feed_to-fed.new.self in
    let has = c.feed_to-fed.new.sink in
    subst (λ (o : Followed). OnOk c.feed_to-fed.result (HasRead (stream_language o.reader.grammar) Follows (new_lines o.reader c.args.piece.now) o.reader (ordered o.last c.args.into.now.items) next (ordered has.last has.sink.items))) c.self.view_is
    (subst (λ (l : List Line). OnOk c.feed_to-fed.result (HasRead (stream_language lines.grammar) Follows (new_lines lines c.args.piece.now) lines (ordered c.self.inside.last l) next (ordered has.last has.sink.items))) (ap (λ v. v.items) c.replace-list.ensures.value)
    (on_ok_weaker c.feed_to-fed.result (has_read (λ s. s.last) (λ s. s.sink.items) (new_lines lines c.args.piece.now) lines had next has) c.feed_to-fed.ensures.ok))

pub returns-clause-bad : goal.returns-clause-bad
returns-clause-bad c none =
    let lines = c.self.inside.lines in
    let had : InOrder _ = record { last = c.self.inside.last; sink = c.replace-list.result } in
    let next = c.feed_to-fed.new.self in
    let has = c.feed_to-fed.new.sink in
    subst (λ (o : Followed). OnBad c.feed_to-fed.result (HasStopped (stream_language o.reader.grammar) Follows FallsBehind IsUnmoved (new_lines o.reader c.args.piece.now) o.reader (ordered o.last c.args.into.now.items) next (ordered has.last has.sink.items))) c.self.view_is
    (subst (λ (l : List Line). OnBad c.feed_to-fed.result (HasStopped (stream_language lines.grammar) Follows FallsBehind IsUnmoved (new_lines lines c.args.piece.now) lines (ordered c.self.inside.last l) next (ordered has.last has.sink.items))) (ap (λ v. v.items) c.replace-list.ensures.value)
    (on_bad_weaker c.feed_to-fed.result _ _ (has_stopped (λ s. s.last) (λ s. s.sink.items) (new_lines lines c.args.piece.now) lines had next has) (c.feed_to-fed.ensures.bad (ap (λ (o : Followed). o.reader.fault) c.self.view_is ∙ none))))

pub returns-clause-memory : goal.returns-clause-memory
returns-clause-memory c none =
    let lines = c.self.inside.lines in
    let had : InOrder _ = record { last = c.self.inside.last; sink = c.replace-list.result } in
    let next = c.feed_to-fed.new.self in
    let has = c.feed_to-fed.new.sink in
    subst (λ (o : Followed). OnMemory c.feed_to-fed.result (HasRunOut (stream_language o.reader.grammar) Follows IsUnmoved (new_lines o.reader c.args.piece.now) o.reader (ordered o.last c.args.into.now.items) next (ordered has.last has.sink.items))) c.self.view_is
    (subst (λ (l : List Line). OnMemory c.feed_to-fed.result (HasRunOut (stream_language lines.grammar) Follows IsUnmoved (new_lines lines c.args.piece.now) lines (ordered c.self.inside.last l) next (ordered has.last has.sink.items))) (ap (λ v. v.items) c.replace-list.ensures.value)
    (on_memory_weaker c.feed_to-fed.result _ _ (has_run_out (λ s. s.last) (λ s. s.sink.items) (new_lines lines c.args.piece.now) lines had next has) (c.feed_to-fed.ensures.memory (ap (λ (o : Followed). o.reader.fault) c.self.view_is ∙ none))))
