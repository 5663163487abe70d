use Rattle.std.proofs.Common.{◌≡◌, ℕ, map, nat_eq, take}
use Rattle.std.specs.List.{list_any}
use Rattle.snb_base.specs.Spellings.{SpellsId}
use Rattle.snb_columns.proofs.Laws.{IsRead}
use Rattle.snb_input_fields.proofs.lists.read_ids.Given as goal

-- the elements before this one spell these ids, and these were seen
abbrev pub invariant-loop-part : goal.invariant-loop-part
invariant-loop-part l = record {
  read : IsRead SpellsId nat_eq (take l.part-index (map (λ x. x.now) l.part-items)) l.ids;
  same : (q : ℕ) → list_any (nat_eq q) l.seen.keys ≡ list_any (nat_eq q) l.ids;
}
