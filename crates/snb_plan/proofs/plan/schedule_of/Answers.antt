use Rattle.std.proofs.Common.{◌≡◌, ◌≤◌, ℕ, List, ap, arith, length, subst, sym}
use Rattle.std.specs.List.{All}
use Rattle.snb_schema.specs.declared.limits.TheConstants.{MAX_TIME}
use Rattle.snb_plan.specs.declared.instances.Instance.{Instance}
use Rattle.snb_plan.specs.declared.positions.Position.{Position}
use Rattle.snb_plan.specs.Positions.{position_t}
use Rattle.snb_plan.proofs.Assembly.{all_timed, first_least, reads_within}
use Rattle.snb_plan.proofs.Planned.{made_planned, made_positions}
use Rattle.snb_plan.proofs.plan.schedule_of.Goals as goal

pub operation_positions-requires-clause-reads : goal.operation_positions-requires-clause-reads
operation_positions-requires-clause-reads c =
    let counted : c.len-count.result ≡ length c.in_ok-updates.updates.items = (let len = c.len-count.ensures in let size = c.deref.ensures.len in let same = ap (λ (xs : List Position). length xs) c.deref.ensures.value in omega (arith, len, size, same)) in
    subst (λ (updates : List Position). All (λ (i : Instance). (1 ≤ i.at) × (i.at ≤ length updates)) c.deref-2.result.now) (sym c.deref.ensures.value)
    (subst (λ (reads : List Instance). All (λ (i : Instance). (1 ≤ i.at) × (i.at ≤ length c.in_ok-updates.updates.items)) reads) (sym c.deref-2.ensures.value)
    (subst (λ (n : ℕ). All (λ (i : Instance). (1 ≤ i.at) × (i.at ≤ n)) c.in_ok-reads.reads.items) counted
    (reads_within c.args.frequencies.now c.len-count.result c.in_ok-reads.reads.items c.in_ok-reads.ensures.reads)))

pub position_steps-requires-clause-order : goal.position_steps-requires-clause-order
position_steps-requires-clause-order c =
    subst (λ (positions : List Position). All (λ (s : Position). position_t positions ≤ s.t) positions) (sym c.deref-3.ensures.value) (first_least c.in_ok-positions.positions.items c.in_ok-positions.ensures.positions.ordered)

pub position_steps-requires-clause-last : goal.position_steps-requires-clause-last
position_steps-requires-clause-last c =
    let counted : c.len-count.result ≡ length c.in_ok-updates.updates.items = (let len = c.len-count.ensures in let size = c.deref.ensures.len in let same = ap (λ (xs : List Position). length xs) c.deref.ensures.value in omega (arith, len, size, same)) in
    let are = made_positions c.args.lanes.now c.args.frequencies.now c.len-count.result c.in_ok-updates.updates.items c.deref.result.now c.in_ok-reads.reads.items c.deref-2.result.now
    c.in_ok-positions.positions.items c.requires.streams c.in_ok-updates.ensures.updates counted c.in_ok-reads.ensures.reads c.deref.ensures.value c.deref-2.ensures.value c.in_ok-positions.ensures.positions in
    subst (λ (positions : List Position). All (λ (s : Position). s.t ≤ MAX_TIME) positions) (sym c.deref-3.ensures.value)
    (all_timed c.args.lanes.now c.args.frequencies.now c.in_ok-updates.updates.items c.in_ok-reads.reads.items c.in_ok-positions.positions.items are.of are.are_updates are.are_reads are.are_all)

pub make-requires : goal.make-requires
make-requires c =
    let counted : c.len-count.result ≡ length c.in_ok-updates.updates.items = (let len = c.len-count.ensures in let size = c.deref.ensures.len in let same = ap (λ (xs : List Position). length xs) c.deref.ensures.value in omega (arith, len, size, same)) in
    let are = made_positions c.args.lanes.now c.args.frequencies.now c.len-count.result c.in_ok-updates.updates.items c.deref.result.now c.in_ok-reads.reads.items c.deref-2.result.now
    c.in_ok-positions.positions.items c.requires.streams c.in_ok-updates.ensures.updates counted c.in_ok-reads.ensures.reads c.deref.ensures.value c.deref-2.ensures.value c.in_ok-positions.ensures.positions in
    let few = c.requires.few in
    let updates = c.in_ok-updates.ensures.counted in
    let reads = c.in_ok-reads.ensures.counted in
    let all = c.in_ok-positions.ensures.counted in
    let one = c.deref.ensures.len in
    let other = c.deref-2.ensures.len in
    let within = c.if-read_count-from.false in
    let shares = c.read_count.ensures in
    let most = c.from.ensures in
    made_planned c.args.lanes.now c.args.frequencies.now c.args.ratio c.in_ok-updates.updates.items c.in_ok-reads.reads.items c.in_ok-positions.positions.items c.deref-3.result.now c.in_ok-steps.steps.items
    c.in_ok-kinds.kinds.items c.deref-4.result.now are c.deref-3.ensures.value c.in_ok-steps.ensures.steps c.in_ok-kinds.ensures.kinds c.deref-4.ensures.value c.in_ok-kinds.ensures.few
    (omega (arith, few, updates, reads, all, one, other, within, shares, most)) c.in_ok-steps.ensures.due
