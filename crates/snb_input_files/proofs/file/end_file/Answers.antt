use Rattle.std.proofs.Common.{◌≡◌, ◌∙◌, ◌+◌, refl, ap, subst, sym, arith}
use Rattle.snb_input_lines.specs.Counts.{IsUnder, RowRefuses, RowSame, RowTakes}
use Rattle.snb_input_lines.specs.Feeding.{HasRead, HasStoppedAtEnd, Reader, left_lines}
use Rattle.snb_input_lines.specs.Language.{Fits}
use Rattle.snb_input_lines.specs.Sinks.{Runs}
use Rattle.snb_base.specs.FirstOf.{FirstOf}
use Rattle.snb_input_files.specs.Format.{format_in}
use Rattle.snb_input_files.specs.Places.{opening}
use Rattle.snb_input_files.specs.PlaceChecks.{file_checks}
use Rattle.snb_input_files.proofs.Going.{at_grammar, end_bad, end_err, end_ok, few_rows, on_bad_more}
use Rattle.snb_input_files.proofs.file.end_file.Goals as goal

pub end_to-requires-clause-fits : goal.end_to-requires-clause-fits
end_to-requires-clause-fits g c = at_grammar g.G.Grammar.language (g.P.FileSink.stage.grammar_of c.args.file) c.args.reader.now.grammar (λ l. Fits l g.P.Sink.meaning.fits) (sym c.requires.by_grammar) ((c.requires.right c.args.sink.sink).fits c.args.file)

pub returns-in-Err-clause-end : goal.returns-in-Err-clause-end
returns-in-Err-clause-end g c =
    λ begun past start text at f.
    end_err (format_in g.G.Grammar.language g.P.FileSink.stage begun) (g.P.FileSink.stage.heard begun) g.P.Sink.meaning.takes c.args.file (g.P.FileSink.stage.grammar_of c.args.file) c.in-Err.fault c.from.result c.args.used past text c.end_to.new.self.known c.from.ensures
    (on_bad_more c.in-Err.fault _ (λ r. FirstOf (file_checks (format_in g.G.Grammar.language g.P.FileSink.stage begun) (opening c.args.file c.args.used.bytes c.args.used.rows past text) text) r) (c.in-Err.ensures.bad c.requires.good)
    (λ r h. end_bad (format_in g.G.Grammar.language g.P.FileSink.stage begun) (g.P.FileSink.stage.heard begun) g.P.Sink.meaning.takes c.args.file (g.P.FileSink.stage.grammar_of c.args.file) g.P.Sink.meaning.refuses (c.requires.right begun).hears (c.requires.right begun).lawful g.P.Sink.meaning.ends (c.requires.right begun).ended c.args.used past start text c.args.reader.now c.args.sink at f c.requires.few
    (RowSame g.P.Sink.meaning.same) c.end_to.new.self c.end_to.new.sink r
    (at_grammar g.G.Grammar.language c.args.reader.now.grammar (g.P.FileSink.stage.grammar_of c.args.file) (λ l. HasStoppedAtEnd l (RowTakes g.P.Sink.meaning.takes) (RowRefuses g.P.Sink.meaning.refuses) (RowSame g.P.Sink.meaning.same) (λ z x. g.P.Sink.meaning.ends z.sink x) (left_lines c.args.reader.now) c.args.reader.now c.args.sink c.end_to.new.self c.end_to.new.sink r) c.requires.by_grammar h)))

pub returns-in-Ok-clause-end : goal.returns-in-Ok-clause-end
returns-in-Ok-clause-end g c =
    λ begun past start text at f.
    end_ok (format_in g.G.Grammar.language g.P.FileSink.stage begun) (g.P.FileSink.stage.heard begun) g.P.Sink.meaning.takes c.args.file (g.P.FileSink.stage.grammar_of c.args.file) g.P.Sink.meaning.refuses (c.requires.right begun).hears (c.requires.right begun).lawful g.P.Sink.meaning.ends (c.requires.right begun).ended c.args.used past start text c.args.reader.now c.args.sink at f c.requires.few
    c.end_to.new.self c.end_to.new.sink (record { bytes = c.args.used.bytes + c.fed.result; rows = c.end_to.new.sink.rows })
    (at_grammar g.G.Grammar.language c.args.reader.now.grammar (g.P.FileSink.stage.grammar_of c.args.file) (λ l. HasRead l (RowTakes g.P.Sink.meaning.takes) (left_lines c.args.reader.now) c.args.reader.now c.args.sink c.end_to.new.self c.end_to.new.sink) c.requires.by_grammar c.in-Ok.ensures.ok)
    c.in-Ok.ensures.ends (ap (λ n. c.args.used.bytes + n) (c.fed.ensures ∙ ap (λ (z : Reader g.row.G.Denot g.row.G-Known.Denot). z.fed) c.in-Ok.ensures.after)) refl

pub returns-in-Ok-clause-within : goal.returns-in-Ok-clause-within
returns-in-Ok-clause-within g c =
    λ begun start text most few f.
    let read =
    at_grammar g.G.Grammar.language c.args.reader.now.grammar (g.P.FileSink.stage.grammar_of c.args.file) (λ l. HasRead l (RowTakes g.P.Sink.meaning.takes) (left_lines c.args.reader.now) c.args.reader.now c.args.sink c.end_to.new.self c.end_to.new.sink) c.requires.by_grammar c.in-Ok.ensures.ok in
    let all =
    few_rows (format_in g.G.Grammar.language g.P.FileSink.stage begun) (g.P.FileSink.stage.heard begun) g.P.Sink.meaning.takes c.args.file (g.P.FileSink.stage.grammar_of c.args.file) start c.args.sink c.end_to.new.sink text c.args.reader.now read.items (subst (λ o. IsUnder o start.rows) (sym most) few) f
    (subst (λ x. Runs (RowTakes g.P.Sink.meaning.takes) x c.args.sink read.items c.end_to.new.sink) c.requires.of_file read.runs) in
    let after : c.end_to.new.self.fed ≡ c.args.reader.now.fed = ap (λ (z : Reader g.row.G.Denot g.row.G-Known.Denot). z.fed) c.in-Ok.ensures.after in
    let fed = c.fed.ensures in
    let small = c.requires.few in
    ((omega (arith, fed, after, small)), subst (λ o. IsUnder o c.end_to.new.sink.rows) (all.1 ∙ most) all.0)
