-- Pairs of numbers, one run after another in one list.
use Rattle.std.proofs.Common.{◌≡◌, ℕ, ◌+◌, ◌-◌, ◌≤◌, List, [], ◌∷◌, ◌++◌, Option, Some, None, length, take, drop, Vec, refl, sym, ap, ◌∙◌, subst, arith, is_some}
use Rattle.std.specs.List.{All}
use Rattle.std.specs.Ordering.{nat_cmp}
use Rattle.std.specs.BTreeMap.{is_at}
use Rattle.std.specs.List.Sorted.{IsStrictlySortedBy}
use Rattle.std.specs.Map.{keys_of}
use Rattle.std.specs.Option.{option_map}
use Rattle.std.proofs.lemmas.List.{append-nil, append_assoc, drop-append-le, drop_at, length-append, length-drop, map-append, take-append-le, take_all}
use Rattle.std.proofs.lemmas.List.Elements.{All-contains, All-head, All-push, All-tail, All-weaker}
use Rattle.std.proofs.lemmas.Map.Made.{lookup-map_values}
use Rattle.std.proofs.lemmas.Map.Lookups.{exact_unsigned}
use Rattle.std.proofs.lemmas.Map.Views.{Contains-from_lookup, tells_apart}
use Rattle.snb_graph_maps.specs.Merged.{value_at}
use Rattle.snb_graph_links.specs.Pairs.{AreRuns, IsSpan, lists_of, part, runs_of}

-- a part of the front is a part of the whole
pub part_more : (ps qs : List (ℕ × ℕ)) (span : ℕ × ℕ) → span.0 ≤ span.1 → span.1 ≤ length ps → part (ps ++ qs) span ≡ part ps span
part_more ps qs span rises within =
    ap (take (span.1 - span.0)) (drop-append-le span.0 ps qs (omega arith))
    ∙ take-append-le (span.1 - span.0) (drop span.0 ps) qs (omega (arith, length-drop span.0 ps))

-- what is appended is a part
pub part_last : (ps qs : List (ℕ × ℕ)) (end : ℕ) → end ≡ length (ps ++ qs) → part (ps ++ qs) (length ps, end) ≡ qs
part_last ps qs end is =
    ap (take (end - length ps)) (drop_at ps qs (length ps) refl)
    ∙ take_all (end - length ps) qs (omega (arith, is, length-append ps qs))

runs_more : (heads : List (ℕ × (ℕ × ℕ))) (ps qs : List (ℕ × ℕ)) → All (IsSpan (length ps)) heads → runs_of heads (ps ++ qs) ≡ runs_of heads ps
runs_more [] ps qs all = refl
runs_more (h ∷ hs) ps qs all =
    let here = All-head (IsSpan (length ps)) h hs all in
    let first = part_more ps qs h.1 here.rises here.within in
    let rest = runs_more hs ps qs (All-tail (IsSpan (length ps)) h hs all) in
    λ i. (h.0, first i) ∷ rest i

-- of a map's entries, those before the rest are in the runs
pub record IsFilled {Z : Type 0} (all : List (ℕ × Vec (ℕ × ℕ) Z)) (heads : List (ℕ × (ℕ × ℕ))) (ps : List (ℕ × ℕ)) (rest : List (ℕ × Vec (ℕ × ℕ) Z)) : Type 0 where
  pub lists : runs_of heads ps ++ lists_of rest ≡ lists_of all
  pub spans : All (IsSpan (length ps)) heads

module _ {Z : Type 0} (all : List (ℕ × Vec (ℕ × ℕ) Z)) where
  pub filled_start : (rest : List (ℕ × Vec (ℕ × ℕ) Z)) → rest ≡ all → IsFilled all [] [] rest
  filled_start rest is = record { lists = ap lists_of is; spans = λ k d l. absurd (omega (arith, l)) }

  pub filled_step : (heads : List (ℕ × (ℕ × ℕ))) (ps qs : List (ℕ × ℕ)) (rest : List (ℕ × Vec (ℕ × ℕ) Z)) (of : ℕ) (v : Vec (ℕ × ℕ) Z) (begin end : ℕ) →
      IsFilled all heads ps ((of, v) ∷ rest) → qs ≡ ps ++ v.items → begin ≡ length ps → end ≡ length qs → IsFilled all (heads ++ (of, (begin, end)) ∷ []) qs rest
  filled_step heads ps qs rest of v begin end h is first last =
      let long : length qs ≡ length ps + length v.items = ap length is ∙ length-append ps v.items in
      let old : runs_of heads qs ≡ runs_of heads ps = ap (runs_of heads) is ∙ runs_more heads ps v.items h.spans in
      let new : part qs (begin, end) ≡ v.items =
      ap (λ xs. part xs (begin, end)) is ∙ ap (λ n. part (ps ++ v.items) (n, end)) first ∙ part_last ps v.items end (last ∙ ap length is) in
      record {
        lists =
            ap (λ ls. ls ++ lists_of rest) (map-append (λ (x : ℕ × (ℕ × ℕ)). (x.0, part qs x.1)) heads ((of, (begin, end)) ∷ []))
            ∙ append_assoc (runs_of heads qs) ((of, part qs (begin, end)) ∷ []) (lists_of rest)
            ∙ (λ i. old i ++ ((of, new i) ∷ lists_of rest))
            ∙ h.lists;
        spans = All-push (IsSpan (length qs)) heads (of, (begin, end)) (All-weaker (IsSpan (length ps)) (IsSpan (length qs)) (λ x s. record { rises = s.rises; within = omega (arith, s.within, long) }) heads h.spans) (record { rises = omega (arith, first, last, long); within = omega (arith, last) });
      }

  keys_runs : (heads : List (ℕ × (ℕ × ℕ))) (ps : List (ℕ × ℕ)) → keys_of (runs_of heads ps) ≡ keys_of heads
  keys_runs [] ps = refl
  keys_runs (h ∷ hs) ps = ap (λ ks. h.0 ∷ ks) (keys_runs hs ps)

  keys_lists : (es : List (ℕ × Vec (ℕ × ℕ) Z)) → keys_of (lists_of es) ≡ keys_of es
  keys_lists [] = refl
  keys_lists (e ∷ es) = ap (λ ks. e.0 ∷ ks) (keys_lists es)

  pub filled_end : (heads : List (ℕ × (ℕ × ℕ))) (ps : List (ℕ × ℕ)) (rest : List (ℕ × Vec (ℕ × ℕ) Z)) → rest ≡ [] → IsFilled all heads ps rest → runs_of heads ps ≡ lists_of all
  filled_end heads ps rest none h = sym (append-nil (runs_of heads ps)) ∙ ap (λ es. runs_of heads ps ++ lists_of es) (sym none) ∙ h.lists

  pub filled_runs : (heads : List (ℕ × (ℕ × ℕ))) (ps : List (ℕ × ℕ)) (rest : List (ℕ × Vec (ℕ × ℕ) Z)) → rest ≡ [] → IsFilled all heads ps rest → IsStrictlySortedBy nat_cmp (keys_of all) → AreRuns heads ps
  filled_runs heads ps rest none h rises = record {
    rises = subst (IsStrictlySortedBy nat_cmp) (sym (sym (keys_runs heads ps) ∙ ap keys_of (filled_end heads ps rest none h) ∙ keys_lists all)) rises;
    spans = h.spans;
  }

-- a number has a head exactly where it has a run
pub head_is : (heads : List (ℕ × (ℕ × ℕ))) (ps : List (ℕ × ℕ)) (q : ℕ) → is_some (value_at nat_cmp heads q) ≡ is_some (value_at nat_cmp (runs_of heads ps) q)
head_is heads ps q = sym (ap is_some (lookup-map_values (part ps) (is_at (nat_cmp q)) heads) ∙ some_map (part ps) (value_at nat_cmp heads q))
  where
    some_map : {A B : Type 0} (f : A → B) (o : Option A) → is_some (option_map f o) ≡ is_some o
    some_map f None = refl
    some_map f (Some x) = refl

-- the places of a head lie in the list
pub span_at : (heads : List (ℕ × (ℕ × ℕ))) (ps : List (ℕ × ℕ)) (q : ℕ) (span : ℕ × ℕ) → AreRuns heads ps → Some span ≡ value_at nat_cmp heads q → IsSpan (length ps) (q, span)
span_at heads ps q span are e = All-contains (IsSpan (length ps)) heads (q, span) are.spans (Contains-from_lookup (tells_apart exact_unsigned) q span heads (sym e))
