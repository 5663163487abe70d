use Rattle.std.proofs.Common.{rules, take, arith, refl}
use Rattle.snb_base.proofs.Laws.{read_well}
use Rattle.snb_input_files.specs.Format.{format_in}
use Rattle.snb_input_files.proofs.Feeding.{step_err}
use Rattle.snb_input_files.proofs.ToldFacts.{told_end, told_more}
use Rattle.snb_input_files.proofs.pieces.read_piece.Goals as goal

pub returns-then-count-eq0-clause-step : goal.returns-then-count-eq0-clause-step
returns-then-count-eq0-clause-step g c = λ begun.
    (refl, refl, λ text here. told_end (g.S.Shelf.contents c.args.shelf.now) c.args.name.now c.read.new.into c.fed.result c.in-Took.count (search rules) c.in-Took.ensures.told text (let f = c.fed.ensures in omega (arith, here, f)))

pub returns-in-Ok-clause-step : goal.returns-in-Ok-clause-step
returns-in-Ok-clause-step g c = λ begun. (
  take c.in-Took.count c.read.new.into,
  (λ text here. told_more (g.S.Shelf.contents c.args.shelf.now) c.args.name.now c.read.new.into c.fed.result c.in-Took.count (search (rules, c.in-Took.ensures.room)) (search rules) c.in-Took.ensures.told text (let f = c.fed.ensures in omega (arith, here, f))),
  c.in-Ok.ensures.ok begun,
)

pub returns-in-Err-clause-step : goal.returns-in-Err-clause-step
returns-in-Err-clause-step g c = λ begun.
    step_err (format_in g.G.Grammar.language g.P.FileSink.stage begun) (g.P.FileSink.stage.heard begun) g.P.Sink.meaning.takes c.args.file (g.P.FileSink.stage.grammar_of c.args.file) (g.S.Shelf.contents c.args.shelf.now) c.args.name.now c.args.most c.args.reader.now c.feed_piece.new.reader c.args.sink.now c.feed_piece.new.sink
    (take c.in-Took.count c.read.new.into) c.in-Err.load
    (λ text here. told_more (g.S.Shelf.contents c.args.shelf.now) c.args.name.now c.read.new.into c.fed.result c.in-Took.count (search (rules, c.in-Took.ensures.room)) (search rules) c.in-Took.ensures.told text (let f = c.fed.ensures in omega (arith, here, f)))
    (c.in-Err.ensures.refused begun)

pub returns-in-Err-clause-more : goal.returns-in-Err-clause-more
returns-in-Err-clause-more g c = tt

pub returns-in-Err-clause-few : goal.returns-in-Err-clause-few
returns-in-Err-clause-few g c = tt

pub returns-in-Err-clause-goes_on : goal.returns-in-Err-clause-goes_on
returns-in-Err-clause-goes_on g c = tt

pub returns-in-Err-clause-good : goal.returns-in-Err-clause-good
returns-in-Err-clause-good g c = tt

pub returns-in-Err-clause-of_file : goal.returns-in-Err-clause-of_file
returns-in-Err-clause-of_file g c = c.feed_piece.ensures.of_file

pub returns-in-Err-clause-by_grammar : goal.returns-in-Err-clause-by_grammar
returns-in-Err-clause-by_grammar g c = c.feed_piece.ensures.by_grammar

pub returns-in-Ok-clause-few : goal.returns-in-Ok-clause-few
returns-in-Ok-clause-few g c = c.in-Ok.ensures.few

pub returns-in-Ok-clause-goes_on : goal.returns-in-Ok-clause-goes_on
returns-in-Ok-clause-goes_on g c = c.in-Ok.ensures.goes_on

pub returns-in-Ok-clause-good : goal.returns-in-Ok-clause-good
returns-in-Ok-clause-good g c = c.in-Ok.ensures.good

pub returns-in-Ok-clause-of_file : goal.returns-in-Ok-clause-of_file
returns-in-Ok-clause-of_file g c = c.feed_piece.ensures.of_file

pub returns-in-Ok-clause-by_grammar : goal.returns-in-Ok-clause-by_grammar
returns-in-Ok-clause-by_grammar g c = c.feed_piece.ensures.by_grammar

pub returns-then-count-eq0-clause-few : goal.returns-then-count-eq0-clause-few
returns-then-count-eq0-clause-few g c = c.requires.few

pub returns-then-count-eq0-clause-goes_on : goal.returns-then-count-eq0-clause-goes_on
returns-then-count-eq0-clause-goes_on g c = c.requires.goes_on

pub returns-then-count-eq0-clause-good : goal.returns-then-count-eq0-clause-good
returns-then-count-eq0-clause-good g c = c.requires.good

pub returns-then-count-eq0-clause-of_file : goal.returns-then-count-eq0-clause-of_file
returns-then-count-eq0-clause-of_file g c = c.requires.of_file

pub returns-then-count-eq0-clause-by_grammar : goal.returns-then-count-eq0-clause-by_grammar
returns-then-count-eq0-clause-by_grammar g c = c.requires.by_grammar

pub returns-in-Err-clause-read : goal.returns-in-Err-clause-read
returns-in-Err-clause-read g c = read_well c.in-Err.ensures.fault c.in-Took.ensures.read

pub returns-in-Ok-clause-read : goal.returns-in-Ok-clause-read
returns-in-Ok-clause-read g c = c.in-Took.ensures.read

pub returns-then-count-eq0-clause-read : goal.returns-then-count-eq0-clause-read
returns-then-count-eq0-clause-read g c = c.in-Took.ensures.read
