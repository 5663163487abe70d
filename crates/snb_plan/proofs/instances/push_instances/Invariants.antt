-- The instances so far are appended.
use Rattle.std.proofs.Common.{◌≡◌, ◌++◌, map}
use Rattle.std.specs.List.{range_with_len}
use Rattle.snb_plan.specs.Instances.{instance_of}
use Rattle.snb_plan.proofs.instances.push_instances.Given as goal

abbrev pub invariant-loop-k : goal.invariant-loop-k
invariant-loop-k l = l.instances.items ≡ l.fn.instances.items ++ map (instance_of l.frequency l.query) (range_with_len 0 l.k)
