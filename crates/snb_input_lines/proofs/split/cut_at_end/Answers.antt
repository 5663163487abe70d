use Rattle.std.proofs.Common.{List, ℕ, ◌-◌, take, drop, length, subst, sym, arith}
use Rattle.std.proofs.lemmas.List.{length-drop, take_all}
use Rattle.snb_input_lines.specs.Cut.{IsCutAtEnd}
use Rattle.snb_input_lines.proofs.CutFacts.{cut_here, none_here}
use Rattle.snb_input_lines.proofs.split.cut_at_end.Goals as goal

pub returns-in-None : goal.returns-in-None
returns-in-None c = none_here c.args.text.now c.in-None.ensures

pub returns-in-Some : goal.returns-in-Some
returns-in-Some c =
    let text = c.args.text.now in
    let end = c.in-Some.end in
    let found = c.in-Some.ensures in
    subst (λ (back : List ℕ). IsCutAtEnd c.args.text.now (take c.in-Some.end c.args.text.now) back) (sym (take_all (length text - end) (drop end text) (omega (arith, length-drop end text))))
    (cut_here c.args.text.now c.in-Some.end found.0.high found.0.before found.1)
