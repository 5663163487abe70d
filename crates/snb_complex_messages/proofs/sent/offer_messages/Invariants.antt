use Rattle.std.proofs.Common.{◌≡◌, ◌++◌, ℕ, Bool, List, map}
use Rattle.std.specs.List.{filter}
use Rattle.snb_graph_links.specs.Pairs.{rest}
use Rattle.snb_read_model.specs.declared.sent.Sent.{Sent}
use Rattle.snb_complex_messages.specs.Found.{IsLatest}
use Rattle.snb_complex_messages.proofs.sent.offer_messages.Given as goal

abbrev pub invariant-loop-message : goal.invariant-loop-message
invariant-loop-message g l =
    goal.F-IsAlwaysCallable g l.passes
    × ((test : ℕ → Bool) → ((date : ℕ) (answer : Bool) → goal.F-post g l.passes date answer → answer ≡ test date) → (before : List Sent) → IsLatest before l.fn.top
    → (found : List Sent) × IsLatest found l.top
    × (found ++ map (λ (m : ℕ × ℕ). record { person = l.person; message = m.0; date = m.1 }) (filter (λ m. test m.1) (rest l.message-iterator))
    ≡ before ++ map (λ (m : ℕ × ℕ). record { person = l.person; message = m.0; date = m.1 }) (filter (λ m. test m.1) (rest l.initial.message-iterator))))
