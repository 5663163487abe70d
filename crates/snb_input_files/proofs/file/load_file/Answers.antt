use Rattle.std.proofs.Common.{◌≡◌, subst}
use Rattle.snb_input_lines.specs.Feeding.{at_begin}
use Rattle.snb_input_files.specs.Format.{format_in}
use Rattle.snb_input_files.proofs.Going.{known_answer}
use Rattle.snb_input_files.proofs.file.load_file.Goals as goal

pub load_known-requires-clause-begins : goal.load_known-requires-clause-begins
load_known-requires-clause-begins g c = subst (λ x. c.of_file-reader.result ≡ at_begin c.args.file x (g.G.Grammar.language x).begins) c.grammar.ensures c.of_file-reader.ensures

pub returns-clause-answer : goal.returns-clause-answer
returns-clause-answer g c =
    λ begun past done said fresh.
    known_answer (format_in g.G.Grammar.language g.P.FileSink.stage begun) (g.P.FileSink.stage.heard begun) (g.S.Shelf.contents c.args.shelf.now) c.args.path.now c.args.file c.args.used past c.args.file_sink c.load_known.new.reader.known c.load_known.result
    (c.load_known.ensures.answer begun past done said fresh)
