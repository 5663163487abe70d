-- The plan of the formula workload.
use Rattle.std.proofs.Common.{◌≡◌, ◌/◌, ◌≤◌, ℕ, subst, arith}
use Rattle.std.proofs.Math.Nat.{div-le_self}
use Rattle.snb_plan.specs.Plans.{IsPlan, Plan}
use Rattle.snb_plan.specs.Merging.{read_count}
use Rattle.snb_schema.specs.declared.limits.TheConstants.{MAX_READS}
use Rattle.snb_schema.specs.Frequencies.{FrequencyTable}
use Rattle.snb_schema.specs.LineLanes.{LineLanes}
use Rattle.snb_schema.specs.QueryLists.{QueryLists}
use Rattle.snb_trial.specs.Trial.{read_frequencies}

-- it has no more reads than there may be
pub few_reads : (count : ℕ) → count ≤ 35000 → read_count read_frequencies count ≤ MAX_READS
few_reads count few =
    let tenth : count / 10 ≤ count = div-le_self count 10 in
    let seventh : count / 7 ≤ count = div-le_self count 7 in
    omega arith

-- a plan of lanes, lists, frequencies and a ratio is one of what these are
pub plan_of : (lanes other_lanes : LineLanes) (lists other_lists : QueryLists) (table other_table : FrequencyTable) (ratio other_ratio : ℕ) (plan : Plan)
    → lanes ≡ other_lanes → lists ≡ other_lists → table ≡ other_table → ratio ≡ other_ratio → IsPlan lanes lists table ratio plan → IsPlan other_lanes other_lists other_table other_ratio plan
plan_of lanes other_lanes lists other_lists table other_table ratio other_ratio plan a b c d is =
    subst (λ (x : LineLanes × QueryLists × FrequencyTable × ℕ). IsPlan x.0 x.1 x.2 x.3 plan) (λ i. (a i, b i, c i, d i)) is
