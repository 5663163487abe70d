use Rattle.snb_plan.proofs.Making.{all_kept, scheduled_plan}
use Rattle.snb_plan.proofs.plan.Plan.make.Goals as goal

pub invariant_of-result : goal.invariant_of-result
invariant_of-result c = (
  all_kept c.args.lanes c.args.lists c.args.frequencies c.args.ratio c.in_ok-reads.reads.items c.in_ok-reads.schedule c.requires.parameters c.in_ok-reads.ensures.planned,
  record {
    lanes = c.args.lanes;
    lists = c.args.lists;
    frequencies = c.args.frequencies;
    ratio = c.args.ratio;
    is_plan =
        scheduled_plan c.args.lanes c.args.lists c.args.frequencies c.args.ratio c.in_ok-reads.reads.items c.in_ok-reads.schedule c.requires.streams c.requires.parameters
        c.in_ok-reads.ensures.planned;
    streams = c.requires.streams;
  },
)

pub returns-clause-plan : goal.returns-clause-plan
returns-clause-plan c =
    scheduled_plan c.args.lanes c.args.lists c.args.frequencies c.args.ratio c.in_ok-reads.reads.items c.in_ok-reads.schedule c.requires.streams c.requires.parameters c.in_ok-reads.ensures.planned
