use Rattle.std.proofs.Common.{subst, sym, ap, ◌++◌, ◌∙◌, ℕ, Bool, List}
use Rattle.snb_schema.specs.declared.limits.TheConstants.{MAX_BYTES}
use Rattle.snb_schema.specs.Lines.{HasNoEnd}
use Rattle.snb_input_lines.specs.Language.{FieldsAs}
use Rattle.snb_input_lines.proofs.RunFacts.{Coming, coming_at_once, coming_some, coming_step, coming_stops, coming_whole, on_memory, room_step}
use Rattle.snb_input_lines.proofs.progress.take_lines.Goals as goal
use Rattle.snb_schema.proofs.Laws.{passed_on}

pub returns-in_err-take_line-clause-bad : goal.returns-in_err-take_line-clause-bad
returns-in_err-take_line-clause-bad g c =
    let line = rw c.in-Some.is at c.in_ok-line.ensures.line in
    passed_on c.from_residual-in_err-take_line.result c.in_err-take_line.field-0.0 _ _ c.from_residual-in_err-take_line.ensures.1 c.in_err-take_line.ensures.bad
    (λ r bad. coming_stops (g.G.Grammar.language c.args.of.now.grammar) g.S.Sink.meaning.takes c.args.of.now.file g.S.Sink.meaning.refuses g.S.Sink.meaning.same c.args.at.now.known c.args.at.now.ended c.args.text.now.text c.args.sink.now _ _ c.loop-row.text.text c.loop-row.sink c.take_line.new.sink
    c.in-Some.line.now c.read.new.self.text r c.loop-row.invariant.coming line.0 line.1 bad c.in_err-take_line.ensures.same)

pub returns-in_err-take_line-clause-memory : goal.returns-in_err-take_line-clause-memory
returns-in_err-take_line-clause-memory g c =
    on_memory _ _ (coming_some (g.G.Grammar.language c.args.of.now.grammar) g.S.Sink.meaning.takes c.args.of.now.file g.S.Sink.meaning.same c.args.at.now.known c.args.at.now.ended c.args.text.now.text c.args.sink.now _ _ c.loop-row.text.text c.loop-row.sink c.take_line.new.sink c.loop-row.invariant.coming c.in_err-take_line.ensures.same)

pub loop-row-init : goal.loop-row-init
loop-row-init g c = record {
  splits = c.requires.splits;
  begun = c.requires.fresh;
  room = c.requires.room;
  coming = coming_at_once (g.G.Grammar.language c.args.of.now.grammar) g.S.Sink.meaning.takes c.args.of.now.file c.args.at.now.known c.args.at.now.ended c.args.text.now.text c.args.sink.now;
}

pub loop-row-preserved : goal.loop-row-preserved
loop-row-preserved g c =
    let line = rw c.in-Some.is at c.in_ok-line.ensures.line in
    let read = c.in_ok-take_line.ensures.ok in
    let k = c.loop-row.invariant.coming in
    record {
      splits = c.read.ensures.splits ∙ c.loop-row.invariant.splits;
      begun = c.take_line.ensures.begun ∙ c.loop-row.invariant.begun;
      room = room_step c.loop-row.text.text c.in-Some.line.now c.read.new.self.text c.loop-row.at.ended c.take_line.new.at.ended MAX_BYTES line.1 c.loop-row.invariant.room c.in_ok-take_line.ensures.ended;
      coming =
          subst (λ (n : ℕ). Coming (g.G.Grammar.language c.args.of.now.grammar) g.S.Sink.meaning.takes c.args.of.now.file c.args.at.now.known c.args.at.now.ended c.args.text.now.text c.args.sink.now c.take_line.new.at.known n c.read.new.self.text c.take_line.new.sink) (sym c.in_ok-take_line.ensures.ended)
          (coming_step (g.G.Grammar.language c.args.of.now.grammar) g.S.Sink.meaning.takes c.args.of.now.file c.args.at.now.known c.args.at.now.ended c.args.text.now.text c.args.sink.now c.loop-row.at.known c.loop-row.at.ended c.loop-row.text.text c.loop-row.sink c.in-Some.line.now c.read.new.self.text read.0 c.take_line.new.at.known c.take_line.new.sink
          k line.0 line.1 read.1 read.2);
    }

pub returns-clause-ok : goal.returns-clause-ok
returns-clause-ok g c =
    let none = rw c.in_default.is at c.in_ok-line.ensures.line in
    (coming_whole (g.G.Grammar.language c.args.of.now.grammar) g.S.Sink.meaning.takes c.args.of.now.file c.args.at.now.known c.args.at.now.ended c.args.text.now.text c.args.sink.now c.loop-row.at.known c.loop-row.at.ended c.loop-row.text.text c.loop-row.sink c.loop-row.invariant.coming none.0).0

pub returns-clause-ended : goal.returns-clause-ended
returns-clause-ended g c =
    let none = rw c.in_default.is at c.in_ok-line.ensures.line in
    (coming_whole (g.G.Grammar.language c.args.of.now.grammar) g.S.Sink.meaning.takes c.args.of.now.file c.args.at.now.known c.args.at.now.ended c.args.text.now.text c.args.sink.now c.loop-row.at.known c.loop-row.at.ended c.loop-row.text.text c.loop-row.sink c.loop-row.invariant.coming none.0).1

pub returns-clause-begun : goal.returns-clause-begun
returns-clause-begun g c =
    let none = rw c.in_default.is at c.in_ok-line.ensures.line in
    c.in_ok-extend_from_slice.ensures.items ∙ ap (λ (xs : List ℕ). xs ++ c.rest.result.now) c.loop-row.invariant.begun ∙ c.rest.ensures (subst HasNoEnd (sym none.1) none.0) ∙ none.1 ∙
    (coming_whole (g.G.Grammar.language c.args.of.now.grammar) g.S.Sink.meaning.takes c.args.of.now.file c.args.at.now.known c.args.at.now.ended c.args.text.now.text c.args.sink.now c.loop-row.at.known c.loop-row.at.ended c.loop-row.text.text c.loop-row.sink c.loop-row.invariant.coming none.0).2

pub returns-in_err-line-clause-memory : goal.returns-in_err-line-clause-memory
returns-in_err-line-clause-memory g c =
    on_memory _ _ (coming_some (g.G.Grammar.language c.args.of.now.grammar) g.S.Sink.meaning.takes c.args.of.now.file g.S.Sink.meaning.same c.args.at.now.known c.args.at.now.ended c.args.text.now.text c.args.sink.now _ _ c.loop-row.text.text c.loop-row.sink c.loop-row.sink c.loop-row.invariant.coming (g.met.S.Sink.same_self c.loop-row.sink))

pub returns-in_err-extend_from_slice-clause-memory : goal.returns-in_err-extend_from_slice-clause-memory
returns-in_err-extend_from_slice-clause-memory g c =
    on_memory _ _ (coming_some (g.G.Grammar.language c.args.of.now.grammar) g.S.Sink.meaning.takes c.args.of.now.file g.S.Sink.meaning.same c.args.at.now.known c.args.at.now.ended c.args.text.now.text c.args.sink.now _ _ c.loop-row.text.text c.loop-row.sink c.loop-row.sink c.loop-row.invariant.coming (g.met.S.Sink.same_self c.loop-row.sink))

pub take_line-requires-clause-split : goal.take_line-requires-clause-split
take_line-requires-clause-split g c filled =
    let same = rw c.in-Some.is at c.in_ok-line.ensures.fields in
    subst (λ (b : Bool). FieldsAs b c.in-Some.line.now c.read.new.row) (c.read.ensures.splits ∙ c.loop-row.invariant.splits) (same filled)

pub take_line-requires-clause-utf8 : goal.take_line-requires-clause-utf8
take_line-requires-clause-utf8 g c known =
    let utf8 = rw c.in-Some.is at c.in_ok-line.ensures.utf8 in
    utf8 (sym c.is_utf8.ensures ∙ known)
