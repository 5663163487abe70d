-- The files of each stage of an input, in their order.
use Rattle.std.specs.Prelude.{ℕ, true, false, List, [], ◌∷◌, ◌++◌, map, Some, None}
use Rattle.snb_schema.specs.declared.file.FileKind.TheVariants as kinds
use Rattle.snb_schema.specs.declared.limits.TheConstants.{MAX_LANES, MAX_PARTS}
use Rattle.snb_schema.specs.declared.refusal.Counted.TheVariants.{Lanes, Parts}
use Rattle.snb_schema.specs.declared.table.Table.{Table}
use Rattle.snb_schema.specs.Layouts.{layout}
use Rattle.snb_schema.specs.TableOrder.{all_tables}
use Rattle.snb_input_files.specs.declared.series.Series.{Series}

-- the parts of a table
abbrev pub parts_of : Table → Series
parts_of t =
    record {
      kind = kinds.Table t;
      needed = (layout t).is_needed;
      most = MAX_PARTS;
      what = Some Parts;
    }

-- the parts of all tables
abbrev pub table_series : List Series
table_series = map parts_of all_tables

-- the person streams, and the forum streams: there may be none, and at most MAX_LANES of each
abbrev pub person_series : List Series
person_series =
    record { kind = kinds.PersonStream; needed = false; most = MAX_LANES; what = Some Lanes } ∷ []

abbrev pub forum_series : List Series
forum_series =
    record { kind = kinds.ForumStream; needed = false; most = MAX_LANES; what = Some Lanes } ∷ []

-- all streams
abbrev pub stream_series : List Series
stream_series = person_series ++ forum_series

-- the parameter file of a complex query, of which there is one, and which must be there
abbrev pub params_series : ℕ → Series
params_series q = record { kind = kinds.Params q; needed = true; most = 1; what = None }
