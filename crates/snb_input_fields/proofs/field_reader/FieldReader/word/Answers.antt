use Rattle.std.proofs.Common.{◌≡◌, ◌∙◌, Bool, List, [], ℕ, ap, eqb, length, sym, true}
use Rattle.std.proofs.lemmas.Bool.Decides.{Decides-eqb}
use Rattle.snb_schema.specs.declared.column.Column.TheVariants as columns
use Rattle.snb_schema.specs.declared.column.Value.TheVariants.{Letters}
use Rattle.snb_input_fields.proofs.field_reader.FieldReader.word.Goals as goal

-- an empty field has no byte
empty : (x y : List ℕ) (b : Bool) → b ≡ eqb (length x) 0 → x ≡ y → y ≡ [] → b ≡ true
empty x y b e same none = let decides = Decides-eqb (length x) 0 in e ∙ decides.1 (ap length (same ∙ none))

pub pass-requires : goal.pass-requires
pass-requires c = record {
  good = (
    columns.Word,
    c.requires.next,
    Letters c.in_ok-text.text,
    ((λ e. let yes = empty c.next_field.result.now _ c.is_empty.result c.is_empty.ensures c.next_field.ensures.text e in let no = c.if-is_empty.false in cc (yes, no)), sym c.next_field-2.ensures.text ∙ sym c.in_ok-text.ensures),
  );
}
