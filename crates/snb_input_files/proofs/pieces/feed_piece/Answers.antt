use Rattle.std.proofs.Common.{◌≡◌, List, take, subst, sym, arith, ℕ}
use Rattle.std.proofs.lemmas.List.{take_all}
use Rattle.snb_input_lines.specs.Counts.{RowRefuses, RowSame, RowTakes}
use Rattle.snb_input_lines.specs.Feeding.{HasRead, HasStopped, new_lines}
use Rattle.snb_input_lines.specs.Language.{Fits}
use Rattle.snb_input_files.specs.Format.{format_in}
use Rattle.snb_input_files.specs.Pieces.{IsBadPiece, IsFedMore}
use Rattle.snb_input_files.proofs.Feeding.{bad_piece, fed_more, large_piece, refused_bad}
use Rattle.snb_input_files.proofs.Going.{at_grammar}
use Rattle.snb_input_files.proofs.pieces.feed_piece.Goals as goal

pub feed_to-requires-clause-fits : goal.feed_to-requires-clause-fits
feed_to-requires-clause-fits g c = at_grammar g.G.Grammar.language (g.P.FileSink.stage.grammar_of c.args.file) c.args.reader.now.grammar (λ l. Fits l g.P.Sink.meaning.fits) (sym c.requires.by_grammar) ((c.requires.right c.args.sink.now.sink).fits c.args.file)

pub returns-in-Err-clause-refused : goal.returns-in-Err-clause-refused
returns-in-Err-clause-refused g c = λ begun.
    refused_bad (Unit {0}) c.in-Err.fault c.from.result _ (IsBadPiece (format_in g.G.Grammar.language g.P.FileSink.stage begun) (g.P.FileSink.stage.heard begun) g.P.Sink.meaning.takes c.args.file (g.P.FileSink.stage.grammar_of c.args.file) c.args.most c.args.reader.now c.args.sink.now c.args.piece.now) c.from.ensures
    (c.in-Err.ensures.bad c.requires.good)
    (λ r h. bad_piece (format_in g.G.Grammar.language g.P.FileSink.stage begun) (g.P.FileSink.stage.heard begun) g.P.Sink.meaning.takes c.args.file (g.P.FileSink.stage.grammar_of c.args.file) g.P.Sink.meaning.refuses (c.requires.right begun).hears (c.requires.right begun).lawful c.args.most c.args.reader.now c.args.sink.now c.args.piece.now c.min-kept.result
    (let k = c.min-kept.ensures in let f = c.fed.ensures in omega (arith, k, f)) c.requires.few (RowSame g.P.Sink.meaning.same) c.feed_to.new.self c.feed_to.new.sink r
    (at_grammar g.G.Grammar.language c.args.reader.now.grammar (g.P.FileSink.stage.grammar_of c.args.file) (λ l. HasStopped l (RowTakes g.P.Sink.meaning.takes) (RowRefuses g.P.Sink.meaning.refuses) (RowSame g.P.Sink.meaning.same) (new_lines c.args.reader.now (take c.min-kept.result c.args.piece.now)) c.args.reader.now c.args.sink.now c.feed_to.new.self c.feed_to.new.sink r) c.requires.by_grammar h))

pub returns-then-kept-piece-clause-refused : goal.returns-then-kept-piece-clause-refused
returns-then-kept-piece-clause-refused g c = λ begun.
    large_piece (format_in g.G.Grammar.language g.P.FileSink.stage begun) (g.P.FileSink.stage.heard begun) g.P.Sink.meaning.takes c.args.file (g.P.FileSink.stage.grammar_of c.args.file) g.P.Sink.meaning.refuses (c.requires.right begun).hears (c.requires.right begun).lawful c.args.most c.args.reader.now c.args.sink.now c.args.piece.now c.min-kept.result
    (let k = c.min-kept.ensures in let f = c.fed.ensures in omega (arith, k, f)) c.requires.few c.feed_to.new.self c.feed_to.new.sink
    (fed_more (format_in g.G.Grammar.language g.P.FileSink.stage begun) (g.P.FileSink.stage.heard begun) g.P.Sink.meaning.takes c.args.file (g.P.FileSink.stage.grammar_of c.args.file) (take c.min-kept.result c.args.piece.now) c.args.reader.now c.feed_to.new.self c.args.sink.now c.feed_to.new.sink
    (at_grammar g.G.Grammar.language c.args.reader.now.grammar (g.P.FileSink.stage.grammar_of c.args.file) (λ l. HasRead l (RowTakes g.P.Sink.meaning.takes) (new_lines c.args.reader.now (take c.min-kept.result c.args.piece.now)) c.args.reader.now c.args.sink.now c.feed_to.new.self c.feed_to.new.sink) c.requires.by_grammar c.in-Ok.ensures.ok)
    c.in-Ok.ensures.after) c.if-kept-piece.true

pub returns-else-kept-piece-clause-ok : goal.returns-else-kept-piece-clause-ok
returns-else-kept-piece-clause-ok g c = λ begun.
    let all : take c.min-kept.result c.args.piece.now ≡ c.args.piece.now = take_all c.min-kept.result c.args.piece.now (let h = c.if-kept-piece.false in omega (arith, h)) in
    subst (λ (piece : List ℕ). IsFedMore (format_in g.G.Grammar.language g.P.FileSink.stage begun) g.P.Sink.meaning.takes c.args.file (g.P.FileSink.stage.grammar_of c.args.file) c.args.reader.now c.args.sink.now piece c.feed_to.new.self c.feed_to.new.sink) all
    (fed_more (format_in g.G.Grammar.language g.P.FileSink.stage begun) (g.P.FileSink.stage.heard begun) g.P.Sink.meaning.takes c.args.file (g.P.FileSink.stage.grammar_of c.args.file) (take c.min-kept.result c.args.piece.now) c.args.reader.now c.feed_to.new.self c.args.sink.now c.feed_to.new.sink
    (at_grammar g.G.Grammar.language c.args.reader.now.grammar (g.P.FileSink.stage.grammar_of c.args.file) (λ l. HasRead l (RowTakes g.P.Sink.meaning.takes) (new_lines c.args.reader.now (take c.min-kept.result c.args.piece.now)) c.args.reader.now c.args.sink.now c.feed_to.new.self c.feed_to.new.sink) c.requires.by_grammar c.in-Ok.ensures.ok)
    c.in-Ok.ensures.after)
