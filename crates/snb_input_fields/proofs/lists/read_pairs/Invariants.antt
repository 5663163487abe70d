use Rattle.std.proofs.Common.{◌≡◌, ℕ, map, take}
use Rattle.std.specs.List.{list_any}
use Rattle.snb_base.specs.Spellings.{SpellsPair, pair_eq}
use Rattle.snb_columns.proofs.Laws.{IsRead}
use Rattle.snb_input_fields.proofs.lists.read_pairs.Given as goal

-- the elements before this one spell these pairs, and these were seen
abbrev pub invariant-loop-part : goal.invariant-loop-part
invariant-loop-part l = record {
  read : IsRead SpellsPair pair_eq (take l.part-index (map (λ x. x.now) l.part-items)) l.pairs;
  same : (q : ℕ × ℕ) → list_any (pair_eq q) l.seen.keys ≡ list_any (pair_eq q) l.pairs;
}
