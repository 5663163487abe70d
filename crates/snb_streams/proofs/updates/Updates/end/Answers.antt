use Rattle.std.proofs.Common.{List, OnOk, ap, ◌∙◌, subst}
use Rattle.std.proofs.lemmas.Result.{on_ok_weaker}
use Rattle.snb_schema.specs.Faults.{OnBad}
use Rattle.snb_schema.specs.declared.op.Line.{Line}
use Rattle.snb_input_lines.specs.Feeding.{HasRead, HasRunOut, HasStoppedAtEnd, OnMemory, left_lines}
use Rattle.snb_input_lines.proofs.Laws.{on_bad_weaker, on_memory_weaker}
use Rattle.snb_streams.specs.declared.order.InOrder.{InOrder}
use Rattle.snb_streams.specs.Lines.{stream_language}
use Rattle.snb_streams.specs.Order.{FallsBehind, Follows, IsUnmoved, never_ends, ordered}
use Rattle.snb_streams.specs.Updates.{Followed}
use Rattle.snb_streams.proofs.UpdateFacts.{has_read, has_run_out, has_stopped_at_end}
use Rattle.snb_streams.proofs.updates.Updates.end.Goals as goal

pub returns-clause-ok : goal.returns-clause-ok
returns-clause-ok c =
    let lines = c.self.inside.lines in
    let had : InOrder _ = record { last = c.self.inside.last; sink = c.replace-list.result } in
    let next = c.end_to-ended.new.self in
    let has = c.end_to-ended.new.sink in
    subst (λ (o : Followed). OnOk c.end_to-ended.result (HasRead (stream_language o.reader.grammar) Follows (left_lines o.reader) o.reader (ordered o.last c.args.into.now.items) next (ordered has.last has.sink.items))) c.self.view_is
    (subst (λ (l : List Line). OnOk c.end_to-ended.result (HasRead (stream_language lines.grammar) Follows (left_lines lines) lines (ordered c.self.inside.last l) next (ordered has.last has.sink.items))) (ap (λ v. v.items) c.replace-list.ensures.value)
    (on_ok_weaker c.end_to-ended.result (has_read (λ s. s.last) (λ s. s.sink.items) (left_lines lines) lines had next has) c.end_to-ended.ensures.ok))

pub returns-clause-bad : goal.returns-clause-bad
returns-clause-bad c none =
    let lines = c.self.inside.lines in
    let had : InOrder _ = record { last = c.self.inside.last; sink = c.replace-list.result } in
    let next = c.end_to-ended.new.self in
    let has = c.end_to-ended.new.sink in
    subst (λ (o : Followed). OnBad c.end_to-ended.result (HasStoppedAtEnd (stream_language o.reader.grammar) Follows FallsBehind IsUnmoved never_ends (left_lines o.reader) o.reader (ordered o.last c.args.into.now.items) next (ordered has.last has.sink.items))) c.self.view_is
    (subst (λ (l : List Line). OnBad c.end_to-ended.result (HasStoppedAtEnd (stream_language lines.grammar) Follows FallsBehind IsUnmoved never_ends (left_lines lines) lines (ordered c.self.inside.last l) next (ordered has.last has.sink.items))) (ap (λ v. v.items) c.replace-list.ensures.value)
    (on_bad_weaker c.end_to-ended.result _ _ (has_stopped_at_end (λ s. s.last) (λ s. s.sink.items) (left_lines lines) lines had next has) (c.end_to-ended.ensures.bad (ap (λ (o : Followed). o.reader.fault) c.self.view_is ∙ none))))

pub returns-clause-memory : goal.returns-clause-memory
returns-clause-memory c none =
    let lines = c.self.inside.lines in
    let had : InOrder _ = record { last = c.self.inside.last; sink = c.replace-list.result } in
    let next = c.end_to-ended.new.self in
    let has = c.end_to-ended.new.sink in
    subst (λ (o : Followed). OnMemory c.end_to-ended.result (HasRunOut (stream_language o.reader.grammar) Follows IsUnmoved (left_lines o.reader) o.reader (ordered o.last c.args.into.now.items) next (ordered has.last has.sink.items))) c.self.view_is
    (subst (λ (l : List Line). OnMemory c.end_to-ended.result (HasRunOut (stream_language lines.grammar) Follows IsUnmoved (left_lines lines) lines (ordered c.self.inside.last l) next (ordered has.last has.sink.items))) (ap (λ v. v.items) c.replace-list.ensures.value)
    (on_memory_weaker c.end_to-ended.result _ _ (has_run_out (λ s. s.last) (λ s. s.sink.items) (left_lines lines) lines had next has) (c.end_to-ended.ensures.memory (ap (λ (o : Followed). o.reader.fault) c.self.view_is ∙ none))))
