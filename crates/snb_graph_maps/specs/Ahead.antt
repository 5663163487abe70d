-- Entries that wait to be put in order, and what a walk has still to give of them.
use Rattle.std.specs.Prelude.{◌≡◌, Bool, false, true, List, Option, Some, None, Contains, IfSome, IsSome, filter, map, not, cond, ◌&&◌, []}
use Rattle.std.specs.declared.cmp.Ordering.{Ordering}
use Rattle.std.specs.Ordering.{is_le, is_lt}
use Rattle.snb_graph_maps.specs.Merged.{merged, value_at}

-- the entries that aren't frozen: those that wait, where a map is loaded, and else those of the
-- ordered map
abbrev pub waiting : {E : Type 0} → Option (List E) → List E → List E
waiting None es = es
waiting (Some ps) es = ps

module _ {K : Type 0} (R : K → K → Ordering) where
  -- a key is above one, if there is one
  abbrev pub is_above : Option K → K → Bool
  is_above None k = true
  is_above (Some low) k = is_lt (R low k)

  -- a key isn't below one that there is
  abbrev pub is_from : Option K → K → Bool
  is_from None k = false
  is_from (Some low) k = is_le (R low k)

  -- of some keys the least that passes a test, where the keys that pass it are those from it on
  pub record IsLeast (test : K → Bool) (ks : List K) (least : Option K) : Type 0 where
    pub held : IfSome least (λ k. Contains ks k)
    pub from : (k : K) → Contains ks k → is_from least k ≡ test k

  -- values are what is kept under keys, one by one
  abbrev pub AreAt : {X : Type 0} → List (K × X) → List K → List X → Type 0
  AreAt es ks vs = map Some vs ≡ map (value_at R es) ks

  -- the entries from one key on and before another, in order
  abbrev pub ahead : {X : Type 0} → List (K × X) → Option K → Option K → List (K × X)
  ahead es next end = filter (λ e. is_from next e.0 && not (is_from end e.0)) (merged R [] es)

  -- a key, unless it is beyond the end
  abbrev pub before : Option K → Option K → Option K
  before None end = None
  before (Some k) end = cond (is_from end k) None (Some k)

  -- the next key has an entry, and isn't beyond the end
  abbrev pub IsWithin : {X : Type 0} → List (K × X) → Option K → Option K → Type 0
  IsWithin es next end = IfSome next (λ k. IsSome (value_at R es k) × (is_from end k ≡ false))
