-- What other crates may cite of this one: entries in order, frozen and added ones merged, searches, and walks.
use Rattle.std.proofs.Common.{List, Bool}
use Rattle.std.specs.declared.cmp.Ordering.{Ordering}
use Rattle.std.specs.Cmp.{IsTotalOrder}
use Rattle.std.specs.BTreeMap.{insert_entry}
use Rattle.std.specs.List.{Contains}
use Rattle.std.specs.Map.{remove_entry}
use Rattle.std.proofs.lemmas.Map.Lookups.{CmpEqualImpliesEq}
use Rattle.snb_graph_maps.specs.Merged.{AreParts, Rises, merged}
use Rattle.snb_graph_maps.proofs.ListLemmas.{entry_at}
use Rattle.snb_graph_maps.proofs.PartLemmas.{found_frozen_first, rises-remove}
pub use Rattle.snb_graph_maps.proofs.ListLemmas.{contains-insert, IsPermutation-insert_entry, value_none}
pub use Rattle.snb_graph_maps.proofs.MergedLemmas.{merged-insert, merged-nil, parts-all, parts-insert, rises-insert, rises-merged, takes_from_added, takes_from_frozen, takes_progress, value_at-insert, value_at-merged, value_below}
pub use Rattle.snb_graph_maps.proofs.PartLemmas.{filter-merged}
pub use Rattle.snb_graph_maps.proofs.SearchLemmas.{found_at, missed_at, searchable}

-- ---- entries in order

module _ {K X : Type 0} (R : K → K → Ordering) (o : IsTotalOrder R) (exact : CmpEqualImpliesEq R) where
  pub insert_rises : (es : List (K × X)) (k : K) (v : X) → Rises R es → Rises R (insert_entry R es k v)
  insert_rises = rises-insert R o

  pub remove_rises : (test : K → Bool) (es : List (K × X)) → Rises R es → Rises R (remove_entry test es)
  remove_rises = rises-remove R o exact

  -- a frozen entry is one of all
  pub frozen_within : (es fs : List (K × X)) → AreParts R es fs → (e : K × X) → Contains es e → Contains (merged R es fs) e
  frozen_within es fs parts e c =
      (entry_at R o exact (merged R es fs) e.0 e.1 (rises-merged R o es fs parts.frozen_rises)).1 (found_frozen_first R o exact es fs e.0 e.1 parts ((entry_at R o exact es e.0 e.1 parts.frozen_rises).0 c))
