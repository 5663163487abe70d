use Rattle.std.proofs.Common.{◌≡◌, ◌∙◌, ◌++◌, ◌∷◌, [], List, ℕ, ap, refl, sym}
use Rattle.std.specs.Option.{option_map}
use Rattle.std.specs.Process.{exit_status}
use Rattle.snb_ending.specs.Endings.{shown_for}
use Rattle.snb_ending.proofs.Shown.{line_shown, none_shown, nothing_shown}
use Rattle.snb_ending.proofs.exit.ending.Goals as goal
use Rattle.snb_ending.proofs.exit.ending.Goals.{in-Some, in_default}

pub returns-clause-shown : goal.returns-clause-shown
returns-clause-shown g c =
    let given = g.E.ErrorLines.given c.args.errors.now in
    let status : exit_status c.from.result ≡ c.args.status = c.from.ensures in
    let shown : g.E.ErrorLines.given c.match-of_status.errors ≡ option_map (λ (text : List ℕ). text ++ shown_for c.args.status) given =
    elim c.match-of_status.branch [
      | in-Some w ↦
          ap g.E.ErrorLines.given w.errors-is ∙ w.show.ensures ∙ ap (λ (line : List ℕ). option_map (λ (text : List ℕ). text ++ (line ++ 10 ∷ [])) given) w.line.ensures
          ∙ ap (λ (more : List ℕ). option_map (λ (text : List ℕ). text ++ more) given) (sym (line_shown w.in-Some.fault) ∙ ap shown_for w.in-Some.ensures.told)
      | in_default w ↦ ap g.E.ErrorLines.given w.errors-is ∙ nothing_shown given (shown_for c.args.status) (none_shown c.args.status (w.in_default.ensures.none.0 refl))
    ] in
    shown ∙ ap (λ (s : ℕ). option_map (λ (text : List ℕ). text ++ shown_for s) given) (sym status)
