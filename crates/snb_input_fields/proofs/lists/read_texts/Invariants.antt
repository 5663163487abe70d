use Rattle.std.proofs.Common.{◌≡◌, ℕ, List, map, take}
use Rattle.std.specs.List.{list_any}
use Rattle.std.specs.Str.{bytes_eq}
use Rattle.snb_base.specs.Spellings.{SpellsWord}
use Rattle.snb_columns.proofs.Laws.{IsRead}
use Rattle.snb_input_fields.proofs.lists.read_texts.Given as goal

-- the elements before this one spell these texts, and these were seen
abbrev pub invariant-loop-part : goal.invariant-loop-part
invariant-loop-part l = record {
  read : IsRead SpellsWord bytes_eq (take l.part-index (map (λ x. x.now) l.part-items)) l.texts;
  same : (q : List ℕ) → list_any (bytes_eq q) (map (λ x. x.now) l.seen.keys) ≡ list_any (bytes_eq q) l.texts;
}
