use Rattle.std.proofs.Common.{◌≡◌, ◌≢◌, ℕ, ◌++◌}
use Rattle.snb_schema.specs.QueryLists.{AreOf, list_of}
use Rattle.snb_loader.proofs.params.add_list.Given as goal

-- the list of the query and what is left are all of it, what is left is of its kind, and the other lists are as they were
abbrev pub invariant-loop-one : goal.invariant-loop-one
invariant-loop-one l =
    (list_of l.lists l.fn.query ++ l.one-iterator.rest.items ≡ list_of l.fn.lists l.fn.query ++ l.fn.list.items)
    × AreOf l.fn.query l.one-iterator.rest.items
    × ((other : ℕ) → other ≢ l.fn.query → list_of l.lists other ≡ list_of l.fn.lists other)
