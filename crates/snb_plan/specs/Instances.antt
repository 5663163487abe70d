-- The positions of the lines and of the reads of a plan, before they are merged. Cited by contracts
-- of private functions alone.
use Rattle.std.specs.Prelude.{ℕ, ◌+◌, ◌-◌, ◌*◌, ◌++◌, ◌∷◌, [], List, map, slice_index_or}
use Rattle.std.specs.List.{flat_map, range_with_len}
use Rattle.snb_schema.specs.declared.op.Line.{Line}
use Rattle.snb_schema.specs.declared.op.Op.TheVariants.{AddFriend}
use Rattle.snb_schema.specs.Frequencies.{FrequencyTable, frequency_at}
use Rattle.snb_schema.specs.Queries.{complex_queries}
use Rattle.snb_plan.specs.declared.instances.Instance.{Instance}
use Rattle.snb_plan.specs.declared.positions.Position.{Position}
use Rattle.snb_plan.specs.Merging.{share}

-- the instance of a turn, counted from 0
abbrev pub instance_of : ℕ → ℕ → ℕ → Instance
instance_of frequency query k = record { at = (k + 1) * frequency; query = query; turn = k + 1 }

-- the instances of a query
abbrev pub instances_of : FrequencyTable → ℕ → ℕ → List Instance
instances_of frequencies count query =
    map (instance_of (frequency_at frequencies query) query)
    (range_with_len 0 (share count (frequency_at frequencies query)))

-- the instances of all queries, query by query
abbrev pub all_instances : FrequencyTable → ℕ → List Instance
all_instances frequencies count = flat_map (instances_of frequencies count) complex_queries

-- the positions of the lines of a lane, from a place on
abbrev pub lane_positions : ℕ → ℕ → List Line → List Position
lane_positions lane place [] = []
lane_positions lane place (line ∷ lines) =
    record { t = line.t; lane = lane; place = place } ∷ lane_positions lane (place + 1) lines

-- the positions of the lines of lanes, from a lane on
abbrev pub all_positions : ℕ → List (List Line) → List Position
all_positions lane [] = []
all_positions lane (lines ∷ lanes) = lane_positions lane 0 lines ++ all_positions (lane + 1) lanes

-- what the words below read where nothing stands
abbrev pub no_line : Line
no_line = record { t = 0; t_d = 0; op = AddFriend 0 0 0; number = 0 }

abbrev pub no_position : Position
no_position = record { t = 0; lane = 0; place = 0 }

abbrev pub no_instance : Instance
no_instance = record { at = 0; query = 0; turn = 0 }

-- the positions of reads, from a place on, at the t of the updates that they go with
abbrev pub read_positions : List Position → ℕ → ℕ → List Instance → List Position
read_positions updates lane place [] = []
read_positions updates lane place (i ∷ reads) =
    record { t = (slice_index_or updates (i.at - 1) no_position).t; lane = lane; place = place }
    ∷ read_positions updates lane (place + 1) reads
