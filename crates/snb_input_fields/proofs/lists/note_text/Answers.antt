use Rattle.std.proofs.Common.{ℕ, List, not, map, sym, ◌∙◌, ap}
use Rattle.std.proofs.lemmas.Map.Lookups.{exact_bytes}
use Rattle.std.proofs.lemmas.Map.Text.{is_eq-slice_cmp}
use Rattle.std.specs.Borrow.{Bor}
use Rattle.std.specs.Cmp.Lexicographic.{slice_cmp}
use Rattle.std.specs.List.{list_any}
use Rattle.std.specs.Ordering.{nat_cmp}
use Rattle.std.specs.Str.{bytes_eq}
use Rattle.snb_input_fields.proofs.SeenFacts.{any_map, noted}
use Rattle.snb_input_fields.proofs.lists.note_text.Goals as goal

pub returns-clause-new : goal.returns-clause-new
returns-clause-new c = c.in_ok-insert.ensures.added ∙ ap not (sym (any_map (bytes_eq c.args.word.now) (λ (x : Bor (List ℕ)). x.now) c.args.seen.now.keys ∙ (λ i. list_any (λ (k : Bor (List ℕ)). sym (is_eq-slice_cmp c.args.word.now k.now) i) c.args.seen.now.keys)))

pub returns-clause-seen : goal.returns-clause-seen
returns-clause-seen c q =
    ap (λ (ks : List (Bor (List ℕ))). list_any (bytes_eq q) (map (λ x. x.now) ks)) c.in_ok-insert.ensures.keys
    ∙ noted (λ (x y : Bor (List ℕ)). slice_cmp nat_cmp x.now y.now) (λ x. x.now) (λ x y e. exact_bytes x.now y.now e) (bytes_eq q) c.args.seen.now.keys c.args.word
