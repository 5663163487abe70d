use Rattle.std.proofs.Common.{◌≢◌, [], subst, sym, ◌∙◌, All}
use Rattle.std.specs.Str.{IsUtf8}
use Rattle.snb_schema.specs.TableRows.{IsFieldText}
use Rattle.snb_input_lines.proofs.FieldFacts.{fields_plain, fields_text}
use Rattle.snb_input_lines.proofs.BarFacts.{not-empty}
use Rattle.snb_input_lines.proofs.RunFacts.{split_as}
use Rattle.snb_input_lines.proofs.progress.take_line.Goals as goal

pub take_text-requires-clause-text : goal.take_text-requires-clause-text
take_text-requires-clause-text g c =
    let line = c.args.line.now in
    let filled : line ≢ [] = not-empty line (sym c.is_empty.ensures ∙ c.if-not-is_empty.true) in
    let checked = c.in_ok-check_line.ensures.ok in
    record {
      text = checked;
      one_line = c.requires.one_line;
      split = split_as (g.G.Grammar.language c.args.of.now.grammar).splits line _ (c.requires.split filled) (λ same. record {
        same = same;
        utf8 = subst (All IsUtf8) (sym same) (fields_text line checked.1);
        plain = subst (All IsFieldText) (sym same) (fields_plain line checked.1 c.requires.one_line);
      });
    }
