use Rattle.std.proofs.Common.{rules, ◌≡◌, Ok, subst}
use Rattle.snb_input_lines.specs.Feeding.{at_begin}
use Rattle.snb_input_files.specs.Format.{format_in}
use Rattle.snb_input_files.specs.Loading.{IsKnownAnswer}
use Rattle.snb_input_files.specs.Walk.{after_walk}
use Rattle.snb_input_files.proofs.WalkFacts.{look_absent, look_err, look_missing, look_whole}
use Rattle.snb_input_files.proofs.walk.look.Goals as goal

pub load_into-requires-clause-begins : goal.load_into-requires-clause-begins
load_into-requires-clause-begins g c = subst (λ x. c.of_file-reader.result ≡ at_begin c.args.file x (g.G.Grammar.language x).begins) c.grammar.ensures c.of_file-reader.ensures

pub returns-in-Err-clause-answer : goal.returns-in-Err-clause-answer
returns-in-Err-clause-answer g c =
    λ begun start looked k.
    look_err (format_in g.G.Grammar.language g.P.FileSink.stage begun) (g.P.FileSink.stage.heard begun) (g.S.Shelf.contents c.args.shelf.now) c.args.folder.now c.as_str.result.now c.args.file c.args.needed start looked c.args.walk (search rules) k c.in-Err.load
    (c.in-Err.ensures.answer begun (after_walk (format_in g.G.Grammar.language g.P.FileSink.stage begun) start looked).past k.done k.said k.fresh)

pub returns-then-needed-clause-answer : goal.returns-then-needed-clause-answer
returns-then-needed-clause-answer g c =
    λ begun start looked k.
    look_missing (format_in g.G.Grammar.language g.P.FileSink.stage begun) (g.P.FileSink.stage.heard begun) (g.S.Shelf.contents c.args.shelf.now) c.args.folder.now c.as_str.result.now c.args.file c.args.needed start looked c.args.walk (search rules) k c.in-Ok-Absent.file_sink
    (subst (λ z. IsKnownAnswer (format_in g.G.Grammar.language g.P.FileSink.stage begun) (g.P.FileSink.stage.heard begun) (g.S.Shelf.contents c.args.shelf.now) c.as_str.result.now c.args.file c.args.walk.used (after_walk (format_in g.G.Grammar.language g.P.FileSink.stage begun) start looked).past c.args.walk.file_sink c.load_into.new.reader.known (Ok z)) c.in-Ok-Absent.field-0-is (c.in-Ok-Absent.ensures.answer begun (after_walk (format_in g.G.Grammar.language g.P.FileSink.stage begun) start looked).past k.done k.said k.fresh)) c.if-needed.true

pub returns-in-Ok-Absent-clause-answer : goal.returns-in-Ok-Absent-clause-answer
returns-in-Ok-Absent-clause-answer g c =
    λ begun start looked k.
    look_absent (format_in g.G.Grammar.language g.P.FileSink.stage begun) (g.P.FileSink.stage.heard begun) (g.S.Shelf.contents c.args.shelf.now) c.args.folder.now c.as_str.result.now c.args.file c.args.needed start looked c.args.walk (search rules) k c.in-Ok-Absent.file_sink
    (subst (λ z. IsKnownAnswer (format_in g.G.Grammar.language g.P.FileSink.stage begun) (g.P.FileSink.stage.heard begun) (g.S.Shelf.contents c.args.shelf.now) c.as_str.result.now c.args.file c.args.walk.used (after_walk (format_in g.G.Grammar.language g.P.FileSink.stage begun) start looked).past c.args.walk.file_sink c.load_into.new.reader.known (Ok z)) c.in-Ok-Absent.field-0-is (c.in-Ok-Absent.ensures.answer begun (after_walk (format_in g.G.Grammar.language g.P.FileSink.stage begun) start looked).past k.done k.said k.fresh)) c.if-needed.false

pub returns-clause-answer : goal.returns-clause-answer
returns-clause-answer g c =
    λ begun start looked k.
    let h = subst (λ z. IsKnownAnswer (format_in g.G.Grammar.language g.P.FileSink.stage begun) (g.P.FileSink.stage.heard begun) (g.S.Shelf.contents c.args.shelf.now) c.as_str.result.now c.args.file c.args.walk.used (after_walk (format_in g.G.Grammar.language g.P.FileSink.stage begun) start looked).past c.args.walk.file_sink c.load_into.new.reader.known (Ok z)) c.in-Ok-Whole.field-0-is (c.in-Ok-Whole.ensures.answer begun (after_walk (format_in g.G.Grammar.language g.P.FileSink.stage begun) start looked).past k.done k.said k.fresh) in
    look_whole (format_in g.G.Grammar.language g.P.FileSink.stage begun) (g.P.FileSink.stage.heard begun) (g.S.Shelf.contents c.args.shelf.now) c.args.folder.now c.as_str.result.now c.args.file c.args.needed start looked c.args.walk (search rules) k c.in-Ok-Whole.file_sink c.next_file.new.self c.in-Ok-Whole.used
    (h.0, h.1, h.2, h.3.0) (λ done mine h. (c.requires.right begun).turned c.in-Ok-Whole.file_sink c.next_file.new.self done mine h c.in_ok-next_file-in-Ok-Whole.ensures)

pub returns-in-Err-clause-within : goal.returns-in-Err-clause-within
returns-in-Err-clause-within g c = tt

pub returns-then-needed-clause-within : goal.returns-then-needed-clause-within
returns-then-needed-clause-within g c = tt

pub returns-in-Err-clause-read : goal.returns-in-Err-clause-read
returns-in-Err-clause-read g c = c.in-Err.ensures.read

pub returns-then-needed-clause-read : goal.returns-then-needed-clause-read
returns-then-needed-clause-read g c = c.in-Ok-Absent.ensures.read

pub returns-in-Ok-Absent-clause-read : goal.returns-in-Ok-Absent-clause-read
returns-in-Ok-Absent-clause-read g c = c.in-Ok-Absent.ensures.read

pub returns-clause-read : goal.returns-clause-read
returns-clause-read g c = c.in-Ok-Whole.ensures.read
