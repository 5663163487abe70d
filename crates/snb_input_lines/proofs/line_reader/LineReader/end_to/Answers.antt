use Rattle.std.proofs.Common.{ap, subst, sym}
use Rattle.snb_input_lines.specs.Language.{Fits}
use Rattle.snb_input_lines.proofs.line_reader.LineReader.end_to.Goals as goal

pub finish-taken-requires-clause-fits : goal.finish-taken-requires-clause-fits
finish-taken-requires-clause-fits g c = subst (λ x. Fits (g.G.Grammar.language x) g.S.Sink.meaning.fits) (sym (ap (λ v. v.grammar) c.self.view_is)) c.requires.fits
