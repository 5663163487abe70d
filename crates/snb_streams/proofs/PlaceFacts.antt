-- Fields, columns and values from a place on.
use Rattle.std.proofs.Common.{◌≡◌, ◌+◌, ◌<◌, ℕ, zero, suc, List, [], ◌∷◌, length, drop, get_or, refl, subst, arith}
use Rattle.snb_schema.specs.declared.column.Column.{Column}
use Rattle.snb_schema.specs.declared.column.Value.{Value}
use Rattle.snb_schema.specs.Columns.{Spells, SpellsAll, StopsAfter}
use Rattle.snb_input_fields.specs.Reading.{text_at}

-- values that are spelled from the first field on are so from a later one on
pub spelled_from : (k : ℕ) (cs : List Column) (fs : List (List ℕ)) (vs : List Value) → SpellsAll cs fs vs → SpellsAll (drop k cs) (drop k fs) (drop k vs)
spelled_from zero cs fs vs s = s
spelled_from (suc k) [] [] [] s = tt
spelled_from (suc k) (c ∷ cs) (x ∷ fs) (v ∷ vs) s = spelled_from k cs fs vs s.1
spelled_from (suc k) cs fs vs s = absurd s

-- a stop from the first field on is one from a later one on
pub stop_from : (k m n : ℕ) (cs : List Column) (fs : List (List ℕ)) → n ≡ k + m → StopsAfter cs fs n → StopsAfter (drop k cs) (drop k fs) m
stop_from zero m n cs fs e s = (let same : n ≡ m = omega (arith, e) in subst (StopsAfter cs fs) same s)
stop_from (suc k) m zero cs fs e s = absurd (omega (arith, e))
stop_from (suc k) m (suc n) (c ∷ cs) (x ∷ fs) e s = stop_from k m n cs fs (omega (arith, e)) s.1
stop_from (suc k) m (suc n) [] fs e s = absurd s
stop_from (suc k) m (suc n) (c ∷ cs) [] e s = absurd s

-- each field spells the value beside it
pub spells_at : (k : ℕ) (c : Column) (v : Value) (cs : List Column) (fs : List (List ℕ)) (vs : List Value) → SpellsAll cs fs vs → k < length cs → Spells (get_or cs k c) (get_or fs k []) (get_or vs k v)
spells_at zero d w (c ∷ cs) (x ∷ fs) (v ∷ vs) s l = s.0
spells_at (suc k) d w (c ∷ cs) (x ∷ fs) (v ∷ vs) s l = spells_at k d w cs fs vs s.1 (omega (arith, l))
spells_at k d w [] fs vs s l = absurd (omega (arith, l))
spells_at k d w cs fs vs s l = absurd s

-- the field at a place, by both its names
pub same_field : (fs : List (List ℕ)) (k : ℕ) → text_at fs k ≡ get_or fs k []
same_field [] k = refl
same_field (x ∷ fs) zero = refl
same_field (x ∷ fs) (suc k) = same_field fs k
