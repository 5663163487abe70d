use Rattle.std.proofs.Common.{refl, subst, sym, ap, ◌≡◌, ◌+◌, ◌++◌, ◌∙◌, [], ℕ, List, arith, length, length-append, OnOk}
use Rattle.snb_schema.specs.Faults.{OnBad}
use Rattle.snb_schema.specs.Lines.{HasNoEnd}
use Rattle.snb_input_lines.specs.Cut.{rest_of, whole_lines}
use Rattle.snb_input_lines.specs.Feeding.{OnMemory}
use Rattle.snb_input_lines.specs.Reading.{Says}
use Rattle.snb_input_lines.specs.Steps.{LinesRunOut, LinesStopped, LinesTaken}
use Rattle.snb_input_lines.proofs.RunFacts.{piece_line, piece_text, piece_whole}
use Rattle.snb_input_lines.proofs.progress.take_piece.Goals as goal

pub returns-in_default-clause-ok : goal.returns-in_default-clause-ok
returns-in_default-clause-ok g c =
    let none = piece_whole c.args.at.now.begun.items c.args.piece.now c.requires.one_line c.in_default.ensures in
    ([], subst (λ (ls : List (List ℕ)). Says (g.G.Grammar.language c.args.of.now.grammar) c.args.at.now.known c.args.at.now.ended ls [] c.args.at.now.known) (sym none.0) (refl, refl), refl)

pub returns-in_default-clause-ended : goal.returns-in_default-clause-ended
returns-in_default-clause-ended g c =
    let none = piece_whole c.args.at.now.begun.items c.args.piece.now c.requires.one_line c.in_default.ensures in
    omega (arith, ap length none.0)

pub returns-in_default-clause-begun : goal.returns-in_default-clause-begun
returns-in_default-clause-begun g c =
    let none = piece_whole c.args.at.now.begun.items c.args.piece.now c.requires.one_line c.in_default.ensures in
    c.in_ok-extend_from_slice.ensures.items ∙ sym none.1

pub take_ended-requires-clause-one_line : goal.take_ended-requires-clause-one_line
take_ended-requires-clause-one_line g c =
    let line = c.as_slice.ensures.value ∙ c.in_ok-extend_from_slice-2.ensures.items ∙ ap (λ v. v.items ++ c.in-Some.head.now) c.replace-line.ensures.value in
    subst HasNoEnd (sym line) (piece_line c.args.at.now.begun.items c.args.piece.now c.in-Some.head.now c.in-Some.others.now c.requires.one_line c.in-Some.ensures)

pub take_ended-requires-clause-ends : goal.take_ended-requires-clause-ends
take_ended-requires-clause-ends g c = (c.in-Some.ensures.rest, c.in-Some.ensures.ends)

pub take_ended-requires-clause-room : goal.take_ended-requires-clause-room
take_ended-requires-clause-room g c =
    let is = piece_text c.args.at.now.begun.items c.args.piece.now c.in-Some.head.now c.in-Some.others.now c.as_slice.result.now (c.as_slice.result.now ++ c.in-Some.others.now) c.in-Some.ensures
    (c.as_slice.ensures.value ∙ c.in_ok-extend_from_slice-2.ensures.items ∙ ap (λ v. v.items ++ c.in-Some.head.now) c.replace-line.ensures.value) refl in
    let room = c.requires.room in
    omega (arith, ap length is, room, length-append c.args.at.now.begun.items c.args.piece.now)

pub returns-clause-ok : goal.returns-clause-ok
returns-clause-ok g c =
    let is = piece_text c.args.at.now.begun.items c.args.piece.now c.in-Some.head.now c.in-Some.others.now c.as_slice.result.now (c.as_slice.result.now ++ c.in-Some.others.now) c.in-Some.ensures
    (c.as_slice.ensures.value ∙ c.in_ok-extend_from_slice-2.ensures.items ∙ ap (λ v. v.items ++ c.in-Some.head.now) c.replace-line.ensures.value) refl in
    subst (λ (t : List ℕ). OnOk c.take_ended.result (LinesTaken (g.G.Grammar.language c.args.of.now.grammar) g.S.Sink.meaning.takes c.args.of.now.file (whole_lines t) c.args.at.now c.args.sink.now c.take_ended.new.at c.take_ended.new.sink)) is c.take_ended.ensures.ok

pub returns-clause-bad : goal.returns-clause-bad
returns-clause-bad g c =
    let is = piece_text c.args.at.now.begun.items c.args.piece.now c.in-Some.head.now c.in-Some.others.now c.as_slice.result.now (c.as_slice.result.now ++ c.in-Some.others.now) c.in-Some.ensures
    (c.as_slice.ensures.value ∙ c.in_ok-extend_from_slice-2.ensures.items ∙ ap (λ v. v.items ++ c.in-Some.head.now) c.replace-line.ensures.value) refl in
    subst (λ (t : List ℕ). OnBad c.take_ended.result (LinesStopped (g.G.Grammar.language c.args.of.now.grammar) g.S.Sink.meaning.takes g.S.Sink.meaning.refuses g.S.Sink.meaning.same c.args.of.now.file (whole_lines t) c.args.at.now c.args.sink.now c.take_ended.new.sink)) is c.take_ended.ensures.bad

pub returns-clause-memory : goal.returns-clause-memory
returns-clause-memory g c =
    let is = piece_text c.args.at.now.begun.items c.args.piece.now c.in-Some.head.now c.in-Some.others.now c.as_slice.result.now (c.as_slice.result.now ++ c.in-Some.others.now) c.in-Some.ensures
    (c.as_slice.ensures.value ∙ c.in_ok-extend_from_slice-2.ensures.items ∙ ap (λ v. v.items ++ c.in-Some.head.now) c.replace-line.ensures.value) refl in
    subst (λ (t : List ℕ). OnMemory c.take_ended.result (LinesRunOut (g.G.Grammar.language c.args.of.now.grammar) g.S.Sink.meaning.takes g.S.Sink.meaning.same c.args.of.now.file (whole_lines t) c.args.at.now c.args.sink.now c.take_ended.new.sink)) is c.take_ended.ensures.memory

pub returns-clause-ended : goal.returns-clause-ended
returns-clause-ended g c =
    let is = piece_text c.args.at.now.begun.items c.args.piece.now c.in-Some.head.now c.in-Some.others.now c.as_slice.result.now (c.as_slice.result.now ++ c.in-Some.others.now) c.in-Some.ensures
    (c.as_slice.ensures.value ∙ c.in_ok-extend_from_slice-2.ensures.items ∙ ap (λ v. v.items ++ c.in-Some.head.now) c.replace-line.ensures.value) refl in
    subst (λ (t : List ℕ). OnOk c.take_ended.result (c.take_ended.new.at.ended ≡ c.args.at.now.ended + length (whole_lines t))) is c.take_ended.ensures.ended

pub returns-clause-begun : goal.returns-clause-begun
returns-clause-begun g c =
    let is = piece_text c.args.at.now.begun.items c.args.piece.now c.in-Some.head.now c.in-Some.others.now c.as_slice.result.now (c.as_slice.result.now ++ c.in-Some.others.now) c.in-Some.ensures
    (c.as_slice.ensures.value ∙ c.in_ok-extend_from_slice-2.ensures.items ∙ ap (λ v. v.items ++ c.in-Some.head.now) c.replace-line.ensures.value) refl in
    subst (λ (t : List ℕ). OnOk c.take_ended.result (c.take_ended.new.at.begun.items ≡ rest_of t)) is c.take_ended.ensures.begun
