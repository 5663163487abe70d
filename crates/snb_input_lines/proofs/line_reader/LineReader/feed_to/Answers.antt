use Rattle.std.proofs.Common.{arith, sym, ◌≡◌, ◌≤◌, ◌+◌, ◌++◌, ap, subst, length, length-append, List, ℕ}
use Rattle.snb_schema.specs.declared.limits.TheConstants.{MAX_BYTES}
use Rattle.snb_input_lines.specs.Cut.{rest_of, whole_lines}
use Rattle.snb_schema.specs.Lines.{HasNoEnd}
use Rattle.snb_input_lines.proofs.Laws.{cut_counts, rest_no_end}
use Rattle.snb_input_lines.specs.Language.{Fits}
use Rattle.snb_input_lines.proofs.line_reader.LineReader.feed_to.Goals as goal

counts : (begun piece next : List ℕ) (ended fed to : ℕ) → ended + length begun ≤ fed → to ≡ ended + length (whole_lines (begun ++ piece)) → next ≡ rest_of (begun ++ piece) → to + length next ≤ fed + length piece
counts begun piece next ended fed to l t n = omega (arith, cut_counts (begun ++ piece), ap length n, length-append begun piece)

pub invariant_of-self : goal.invariant_of-self
invariant_of-self g c none =
    let old = c.self.invariant none in
    let new = c.in-Ok.ensures in
    record {
      one_line = subst HasNoEnd (sym new.begun) (rest_no_end (c.self.inside.progress.begun.items ++ c.args.piece.now));
      counted = counts c.self.inside.progress.begun.items c.args.piece.now c.take_piece-taken.new.at.begun.items c.self.inside.progress.ended c.self.inside.fed c.take_piece-taken.new.at.ended old.counted new.ended new.begun;
      few = subst (λ (n : ℕ). n + length c.args.piece.now ≤ MAX_BYTES) (sym (ap (λ v. v.fed) c.self.view_is)) c.requires.bytes;
    }

pub take_piece-taken-requires-clause-fits : goal.take_piece-taken-requires-clause-fits
take_piece-taken-requires-clause-fits g c = subst (λ x. Fits (g.G.Grammar.language x) g.S.Sink.meaning.fits) (sym (ap (λ v. v.grammar) c.self.view_is)) c.requires.fits
