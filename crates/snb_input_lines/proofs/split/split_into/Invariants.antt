use Rattle.std.proofs.Common.{◌≡◌, ◌++◌, [], length}
use Rattle.csv.specs.Records.{fields_of, partial_of}
use Rattle.snb_schema.specs.Lines.{fields}
use Rattle.snb_input_lines.proofs.split.split_into.Given as goal

-- the fields so far, and those of the rest, are those of the line
abbrev pub invariant-fields : goal.invariant-fields
invariant-fields l = record {
  split : fields l.line ≡ fields_of l.row ++ fields l.rest;
  whole : partial_of l.row ≡ [];
}

abbrev pub decreases-fields : goal.decreases-fields
decreases-fields l = length l.rest
