use Rattle.std.proofs.Common.{◌≡◌, ◌∷◌, ◌++◌, ◌∙◌, ℕ, List, Some, inr, ap}
use Rattle.std.specs.Prelude.{option_map}
use Rattle.csv.specs.Reading.{strip_bom}
use Rattle.snb_input_lines.specs.Bars.{bytes_of}
use Rattle.snb_input_lines.proofs.BarFacts.{empty-line, end-unmarked}
use Rattle.snb_input_lines.proofs.split.bar_reader.Goals as goal

pub returns : goal.returns
returns c =
    let fr = c.from_reader.ensures in
    let text = c.args.front.now ++ c.args.back.now in
    let joined : bytes_of c.chain-2.result ≡ Some (10 ∷ text) = rw c.chain.ensures.bytes at c.chain-2.ensures.bytes in
    record {
      config = rw (c.flexible.ensures, c.has_headers.ensures, c.terminator.ensures, c.quoting.ensures, c.delimiter.ensures, c.new.ensures.config) at fr.config;
      plain = rw (c.flexible.ensures, c.has_headers.ensures, c.terminator.ensures, c.quoting.ensures, c.delimiter.ensures, c.new.ensures.trim) at fr.trim;
      any_length = rw (c.flexible.ensures) at fr.flexible;
      ready = inr (inr (rw (c.flexible.ensures, c.has_headers.ensures) at fr.has_headers, fr.headers));
      starts = fr.state;
      left = 10 ∷ text;
      source = fr.source ∙ ap (option_map strip_bom) joined ∙ ap (λ (t : List ℕ). Some t) (end-unmarked text);
      same = empty-line text;
    }
