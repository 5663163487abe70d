use Rattle.std.proofs.Common.{◌≡◌, ◌∷◌, ◌∙◌, ℕ, zero, suc, List, [], ap, refl}
use Rattle.csv.specs.Records.{field_at as csv_field_at, fields_of}
use Rattle.snb_input_lines.specs.Records.{field_at}
use Rattle.snb_input_lines.proofs.record.Record.get.Goals as goal

-- both words for the field at a place are one
same_field : (fs : List (List ℕ)) (place : ℕ) → csv_field_at fs place ≡ field_at fs place
unfolding csv_field_at field_at
same_field [] place = refl
same_field (f ∷ fs) zero = refl
same_field (f ∷ fs) (suc place) = same_field fs place

pub returns-clause-value : goal.returns-clause-value
returns-clause-value c = c.get.ensures.value ∙ same_field (fields_of c.self.inside.row) c.args.place ∙ ap (λ (fs : List (List ℕ)). field_at fs c.args.place) c.self.view_is
