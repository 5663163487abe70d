use Rattle.std.proofs.Common.{map}
use Rattle.snb_schema.specs.QueryLists.{list_of}
use Rattle.snb_loader.proofs.ParamListFacts.{AreSoFar}
use Rattle.snb_loader.proofs.params.lists_of.Given as goal

-- what is left is for the queries that are left, and with it the lists are complete
abbrev pub invariant-loop-query : goal.invariant-loop-query
invariant-loop-query l = AreSoFar l.fn.frequencies l.fn.file_sink.done l.query-index (λ q. list_of l.lists q) (map (λ v. v.items) l.left.rest.items)
