use Rattle.std.proofs.Common.{rules, ◌-◌, Option, Ok, Err, ap, refl, subst, arith}
use Rattle.snb_base.specs.Shelf.{Files}
use Rattle.snb_base.proofs.Laws.{read_after, read_well}
use Rattle.snb_schema.specs.declared.limits.TheConstants.{MAX_BYTES}
use Rattle.snb_input_lines.specs.Feeding.{Reader}
use Rattle.snb_input_files.specs.declared.pieces.Step.{Step}
use Rattle.snb_input_files.specs.declared.pieces.Step.TheVariants as step
use Rattle.snb_input_files.specs.Format.{format_in}
use Rattle.snb_input_files.specs.Pieces.{IsStep}
use Rattle.snb_input_files.proofs.NameFacts.{still_asked}
use Rattle.snb_input_files.proofs.Going.{first, going_absent, going_begins, going_end, going_err, going_more, kept_reader}
use Rattle.snb_input_files.proofs.file.load_into.Goals as goal

pub pieces-init : goal.pieces-init
pieces-init g c = record {
  going = λ begun.
      going_begins (format_in g.G.Grammar.language g.P.FileSink.stage begun) (g.P.FileSink.stage.heard begun) g.P.Sink.meaning.takes c.args.file (g.P.FileSink.stage.grammar_of c.args.file) (g.S.Shelf.contents c.args.shelf.now) c.args.path.now c.args.used.rows c.args.file_sink _ c.args.reader.now c.requires.begins c.most.ensures;
  of_file = ap (λ (z : Reader g.row.G.Denot g.row.G-Known.Denot). z.file) c.requires.begins;
  by_grammar = ap (λ (z : Reader g.row.G.Denot g.row.G-Known.Denot). z.grammar) c.requires.begins;
  few = (let e = ap (λ (z : Reader g.row.G.Denot g.row.G-Known.Denot). z.fed) c.requires.begins in omega (arith, e));
  goes_on = ap (λ (z : Reader g.row.G.Denot g.row.G-Known.Denot). z.over) c.requires.begins;
  good = ap (λ (z : Reader g.row.G.Denot g.row.G-Known.Denot). z.fault) c.requires.begins;
  room = search rules;
  read = search rules;
}

pub read_piece-requires-clause-allowed : goal.read_piece-requires-clause-allowed
read_piece-requires-clause-allowed g c = still_asked c.pieces.invariant.read.names c.args.path.now c.requires.allowed

pub returns-in-Err-clause-answer : goal.returns-in-Err-clause-answer
returns-in-Err-clause-answer g c =
    λ begun past done said fresh.
    going_err (format_in g.G.Grammar.language g.P.FileSink.stage begun) (g.P.FileSink.stage.heard begun) g.P.Sink.meaning.takes c.args.file (g.P.FileSink.stage.grammar_of c.args.file) (g.S.Shelf.contents c.args.shelf.now) c.args.path.now (MAX_BYTES - c.args.used.bytes) c.args.used past c.args.file_sink c.pieces.reader c.read_piece.new.reader c.pieces.sink c.read_piece.new.sink c.in-Err.load (c.pieces.invariant.going begun)
    (let h = c.requires.bytes in omega (arith, h)) done said fresh
    (subst (λ (z : Option Files). IsStep (format_in g.G.Grammar.language g.P.FileSink.stage begun) (g.P.FileSink.stage.heard begun) g.P.Sink.meaning.takes z c.args.path.now c.args.file (g.P.FileSink.stage.grammar_of c.args.file) (MAX_BYTES - c.args.used.bytes) c.pieces.reader c.pieces.sink c.read_piece.new.reader c.read_piece.new.sink (Err c.in-Err.load)) c.pieces.invariant.read.same (c.in-Err.ensures.step begun))

pub returns-in-Ok-Absent-clause-answer : goal.returns-in-Ok-Absent-clause-answer
returns-in-Ok-Absent-clause-answer g c =
    λ begun past done said fresh.
    going_absent (format_in g.G.Grammar.language g.P.FileSink.stage begun) (g.P.FileSink.stage.heard begun) g.P.Sink.meaning.takes c.args.file (g.P.FileSink.stage.grammar_of c.args.file) (g.S.Shelf.contents c.args.shelf.now) c.args.path.now (MAX_BYTES - c.args.used.bytes) c.args.used past c.args.file_sink c.pieces.reader c.read_piece.new.reader c.pieces.sink c.read_piece.new.sink (c.pieces.invariant.going begun)
    (subst (λ (z : Option Files). IsStep (format_in g.G.Grammar.language g.P.FileSink.stage begun) (g.P.FileSink.stage.heard begun) g.P.Sink.meaning.takes z c.args.path.now c.args.file (g.P.FileSink.stage.grammar_of c.args.file) (MAX_BYTES - c.args.used.bytes) c.pieces.reader c.pieces.sink c.read_piece.new.reader c.read_piece.new.sink (Ok step.Absent)) c.pieces.invariant.read.same
    (subst (λ (z : Step). IsStep (format_in g.G.Grammar.language g.P.FileSink.stage begun) (g.P.FileSink.stage.heard begun) g.P.Sink.meaning.takes (g.S.Shelf.contents c.pieces.shelf) c.args.path.now c.args.file (g.P.FileSink.stage.grammar_of c.args.file) (MAX_BYTES - c.args.used.bytes) c.pieces.reader c.pieces.sink c.read_piece.new.reader c.read_piece.new.sink (Ok z)) c.in-Ok-Absent.field-0-is (c.in-Ok-Absent.ensures.step begun)))

pub returns-in-Ok-End-clause-answer : goal.returns-in-Ok-End-clause-answer
returns-in-Ok-End-clause-answer g c =
    λ begun past done said fresh.
    going_end (format_in g.G.Grammar.language g.P.FileSink.stage begun) (g.P.FileSink.stage.heard begun) g.P.Sink.meaning.takes c.args.file (g.P.FileSink.stage.grammar_of c.args.file) (g.S.Shelf.contents c.args.shelf.now) c.args.path.now (MAX_BYTES - c.args.used.bytes) c.args.used past c.args.file_sink c.pieces.reader c.read_piece.new.reader c.pieces.sink c.read_piece.new.sink c.end_file.new.reader.known c.end_file.result (c.pieces.invariant.going begun) done said fresh
    (subst (λ (z : Option Files). IsStep (format_in g.G.Grammar.language g.P.FileSink.stage begun) (g.P.FileSink.stage.heard begun) g.P.Sink.meaning.takes z c.args.path.now c.args.file (g.P.FileSink.stage.grammar_of c.args.file) (MAX_BYTES - c.args.used.bytes) c.pieces.reader c.pieces.sink c.read_piece.new.reader c.read_piece.new.sink (Ok step.End)) c.pieces.invariant.read.same
    (subst (λ (z : Step). IsStep (format_in g.G.Grammar.language g.P.FileSink.stage begun) (g.P.FileSink.stage.heard begun) g.P.Sink.meaning.takes (g.S.Shelf.contents c.pieces.shelf) c.args.path.now c.args.file (g.P.FileSink.stage.grammar_of c.args.file) (MAX_BYTES - c.args.used.bytes) c.pieces.reader c.pieces.sink c.read_piece.new.reader c.read_piece.new.sink (Ok z)) c.in-Ok-End.field-0-is (c.in-Ok-End.ensures.step begun))) (c.end_file.ensures.end begun)

pub returns-in-Ok-End-clause-within : goal.returns-in-Ok-End-clause-within
returns-in-Ok-End-clause-within g c =
    let k = (c.pieces.invariant.going c.args.file_sink) in
    c.end_file.ensures.within c.args.file_sink (first (format_in g.G.Grammar.language g.P.FileSink.stage c.args.file_sink) (g.P.FileSink.stage.heard c.args.file_sink) g.P.Sink.meaning.takes c.args.file (g.P.FileSink.stage.grammar_of c.args.file) c.args.used.rows c.args.file_sink) k.text refl c.requires.rows
    (kept_reader (format_in g.G.Grammar.language g.P.FileSink.stage c.args.file_sink) (g.P.FileSink.stage.heard c.args.file_sink) g.P.Sink.meaning.takes c.args.file (g.P.FileSink.stage.grammar_of c.args.file) (g.S.Shelf.contents c.args.shelf.now) c.args.path.now (MAX_BYTES - c.args.used.bytes) (first (format_in g.G.Grammar.language g.P.FileSink.stage c.args.file_sink) (g.P.FileSink.stage.heard c.args.file_sink) g.P.Sink.meaning.takes c.args.file (g.P.FileSink.stage.grammar_of c.args.file) c.args.used.rows c.args.file_sink) k.text c.pieces.reader c.read_piece.new.reader c.pieces.sink c.read_piece.new.sink k.fed
    (subst (λ (z : Option Files). IsStep (format_in g.G.Grammar.language g.P.FileSink.stage c.args.file_sink) (g.P.FileSink.stage.heard c.args.file_sink) g.P.Sink.meaning.takes z c.args.path.now c.args.file (g.P.FileSink.stage.grammar_of c.args.file) (MAX_BYTES - c.args.used.bytes) c.pieces.reader c.pieces.sink c.read_piece.new.reader c.read_piece.new.sink (Ok step.End)) c.pieces.invariant.read.same
    (subst (λ (z : Step). IsStep (format_in g.G.Grammar.language g.P.FileSink.stage c.args.file_sink) (g.P.FileSink.stage.heard c.args.file_sink) g.P.Sink.meaning.takes (g.S.Shelf.contents c.pieces.shelf) c.args.path.now c.args.file (g.P.FileSink.stage.grammar_of c.args.file) (MAX_BYTES - c.args.used.bytes) c.pieces.reader c.pieces.sink c.read_piece.new.reader c.read_piece.new.sink (Ok z)) c.in-Ok-End.field-0-is (c.in-Ok-End.ensures.step c.args.file_sink))))

pub pieces-preserved : goal.pieces-preserved
pieces-preserved g c = record {
  going = λ begun.
      going_more (format_in g.G.Grammar.language g.P.FileSink.stage begun) (g.P.FileSink.stage.heard begun) g.P.Sink.meaning.takes c.args.file (g.P.FileSink.stage.grammar_of c.args.file) (g.S.Shelf.contents c.args.shelf.now) c.args.path.now (MAX_BYTES - c.args.used.bytes) (first (format_in g.G.Grammar.language g.P.FileSink.stage begun) (g.P.FileSink.stage.heard begun) g.P.Sink.meaning.takes c.args.file (g.P.FileSink.stage.grammar_of c.args.file) c.args.used.rows c.args.file_sink) c.pieces.reader c.read_piece.new.reader c.pieces.sink c.read_piece.new.sink (c.pieces.invariant.going begun)
      (subst (λ (z : Option Files). IsStep (format_in g.G.Grammar.language g.P.FileSink.stage begun) (g.P.FileSink.stage.heard begun) g.P.Sink.meaning.takes z c.args.path.now c.args.file (g.P.FileSink.stage.grammar_of c.args.file) (MAX_BYTES - c.args.used.bytes) c.pieces.reader c.pieces.sink c.read_piece.new.reader c.read_piece.new.sink (Ok step.More)) c.pieces.invariant.read.same
      (subst (λ (z : Step). IsStep (format_in g.G.Grammar.language g.P.FileSink.stage begun) (g.P.FileSink.stage.heard begun) g.P.Sink.meaning.takes (g.S.Shelf.contents c.pieces.shelf) c.args.path.now c.args.file (g.P.FileSink.stage.grammar_of c.args.file) (MAX_BYTES - c.args.used.bytes) c.pieces.reader c.pieces.sink c.read_piece.new.reader c.read_piece.new.sink (Ok z)) c.in-Ok-More.field-0-is (c.in-Ok-More.ensures.step begun)));
  of_file = search rules;
  by_grammar = search rules;
  few = search rules;
  goes_on = search rules;
  good = search rules;
  room = search rules;
  read = read_after c.pieces.invariant.read c.in-Ok-More.ensures.read;
}

pub returns-in-Err-clause-within : goal.returns-in-Err-clause-within
returns-in-Err-clause-within g c = tt

pub returns-in-Ok-Absent-clause-within : goal.returns-in-Ok-Absent-clause-within
returns-in-Ok-Absent-clause-within g c = tt

pub returns-in-Err-clause-read : goal.returns-in-Err-clause-read
returns-in-Err-clause-read g c = read_after c.pieces.invariant.read c.in-Err.ensures.read

pub returns-in-Ok-Absent-clause-read : goal.returns-in-Ok-Absent-clause-read
returns-in-Ok-Absent-clause-read g c = read_after c.pieces.invariant.read c.in-Ok-Absent.ensures.read

pub returns-in-Ok-End-clause-read : goal.returns-in-Ok-End-clause-read
returns-in-Ok-End-clause-read g c = read_well c.end_file.ensures.fault (read_after c.pieces.invariant.read c.in-Ok-End.ensures.read)
