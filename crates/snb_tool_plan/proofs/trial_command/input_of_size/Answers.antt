use Rattle.std.proofs.Common.{◌≡◌, ◌*◌, ◌≤◌, ◌∙◌, List, ap, subst, sym, arith}
use Rattle.snb_plan.specs.Closed.{IsClosed}
use Rattle.snb_plan.specs.Plans.{updates_in}
use Rattle.snb_plan.specs.Merging.{read_count}
use Rattle.snb_schema.specs.declared.limits.TheConstants.{MAX_READS}
use Rattle.snb_schema.specs.declared.row.Row.{Row}
use Rattle.snb_schema.specs.Frequencies.{FrequencyTable}
use Rattle.snb_schema.specs.LineLanes.{update_count}
use Rattle.snb_schema.specs.StreamLines.{AreOfStreams}
use Rattle.snb_graph_model.specs.Graphs.{HoldsKey}
use Rattle.snb_tool_plan.proofs.TrialLemmas.{few_reads, plan_of}
use Rattle.snb_tool_plan.proofs.trial_command.input_of_size.Goals as goal

pub make-requires-clause-streams : goal.make-requires-clause-streams
make-requires-clause-streams c = subst AreOfStreams (sym c.in_ok-graph.ensures.lanes) (c.lanes_are_of_streams.ensures c.args.size c.requires.few)

pub unreachable-requires : goal.unreachable-requires
unreachable-requires c =
    let count : update_count c.in_ok-graph.lanes ≡ 7 * c.args.size = ap update_count c.in_ok-graph.ensures.lanes ∙ c.seven_updates.ensures.each c.args.size in
    let small : update_count c.in_ok-graph.lanes ≤ 35000 = (let few = c.requires.few in omega arith) in
    let few = few_reads (update_count c.in_ok-graph.lanes) small in
    let most : read_count c.trial_frequencies.result (update_count c.in_ok-graph.lanes) ≤ MAX_READS =
    subst (λ (f : FrequencyTable). read_count f (update_count c.in_ok-graph.lanes) ≤ MAX_READS) (sym c.trial_frequencies.ensures.value) few in
    let refused = rw c.in-Err-Refused.field-0-is at c.in-Err-Refused.ensures.refused in
    let many = refused.1 in
    omega (arith, many, most)

pub returns-in-Ok : goal.returns-in-Ok
returns-in-Ok c =
    let is = plan_of _ _ _ _ _ _ _ _ _ c.in_ok-graph.ensures.lanes c.in_ok-graph.ensures.lists c.trial_frequencies.ensures.value c.trial_ratio.ensures c.in-Ok.ensures.plan in
    record {
      same = c.in_ok-graph.ensures.graph;
      is_plan = is;
      closed = subst (λ (g : List Row). IsClosed (HoldsKey g) (updates_in c.in-Ok.plan)) (sym c.in_ok-graph.ensures.graph) (c.updates_are_closed.ensures c.args.size _ _ _ c.in-Ok.plan is);
      sound = c.in_ok-graph.ensures.sound;
    }
