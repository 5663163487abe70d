-- What the tables of a folder are refused for, and the graph that they are.
use Rattle.std.specs.Prelude.{◌≡◌, ℕ, List, [], ◌∷◌, ◌++◌, Option, Result, Ok, Err}
use Rattle.snb_base.specs.Shelf.{Files}
use Rattle.snb_schema.specs.declared.refusal.Refusal.{Refusal}
use Rattle.snb_schema.specs.declared.refusal.Refusal.TheVariants.{Lacks, Cycle}
use Rattle.snb_schema.specs.declared.row.Placed.{Placed}
use Rattle.snb_schema.specs.declared.row.Row.{Row}
use Rattle.snb_input_files.specs.declared.load.Load.{Load}
use Rattle.snb_input_files.specs.declared.load.Load.TheVariants.{Refused, ReadFault, Memory}
use Rattle.snb_input_files.specs.declared.load.Used.{Used}
use Rattle.snb_base.specs.FirstOf.{FirstOf, NoneOf}
use Rattle.snb_input_files.specs.Places.{FilesSay, ReadFile}
use Rattle.snb_input_files.specs.Stages.{before}
use Rattle.snb_input_files.specs.Walk.{Before, Held, IsHeldTold, after_walk, stage_checks, stage_looks}
use Rattle.snb_graph_integrity.specs.declared.unsound.Unsound.{Unsound}
use Rattle.snb_graph_integrity.specs.declared.unsound.Unsound.TheVariants as unsound
use Rattle.snb_loader.specs.Order.{table_series}
use Rattle.snb_loader.specs.Tables.{IsHeard, table_format}
use Rattle.snb_graph_model.specs.Soundness.{IsCycle as IsFirstCycle, HasNeededEdges, IsLacking as IsFirstLack, Sound}

-- what was read after the tables of a folder
abbrev pub after_tables : Before → Held → Before
after_tables at held = after_walk table_format at (stage_looks held table_series)

-- a graph is refused so: it lacks an edge, or lacks none and a comment's chain of parents doesn't
-- end at a post
pub data IsRefusedGraph (g : List Row) : Refusal → Type 0 where
  lacks : (node : _) (id : ℕ) (edge : _) → IsFirstLack g node id edge
      → IsRefusedGraph g (Lacks node id edge)
  cycle : (comment : ℕ) → HasNeededEdges g → IsFirstCycle g comment
      → IsRefusedGraph g (Cycle comment)

-- what the loading of a dataset answers where its graph isn't sound
abbrev pub refusal_for : Unsound → Load
refusal_for (unsound.Lacks node id edge) = Refused (Lacks node id edge)
refusal_for (unsound.Cycle comment) = Refused (Cycle comment)
refusal_for unsound.Memory = Memory

-- the graph of the rows that these files say isn't sound, and is refused so
pub record IsUnsound (sources : List ReadFile) (r : Refusal) : Type 0 where
  pub rows : List (List Placed)
  pub said : FilesSay table_format sources rows
  pub graph : List Row
  pub heard : IsHeard graph rows []
  pub refused : IsRefusedGraph graph r

-- what is tried of a dataset, in order: its files, then whether its graph is sound
abbrev pub dataset_checks : Before → Held → List {1} (Refusal → Type 0)
dataset_checks at held =
    stage_checks table_format at held table_series ++ IsUnsound (after_tables at held).past ∷ []

-- nothing is wrong with a dataset, and this is its graph
pub record IsDataset (at : Before) (held : Held) (g : List Row) : Type 0 where
  pub clean : NoneOf (dataset_checks at held)
  pub rows : List (List Placed)
  pub said : FilesSay table_format (after_tables at held).past rows
  pub heard : IsHeard g rows []
  pub sound : Sound g

-- what the loading of a dataset answers: there are files in the folder, which are those that the
-- shelf tells where it tells any, of which nothing is wrong and this is the graph, or which are
-- refused so
abbrev pub IsDatasetAnswer : Option Files → List ℕ → Used → Used → Result (List Row) Load → Type 0
IsDatasetAnswer contents folder old new (Ok g) =
    (held : Held)
    × IsHeldTold contents folder held
    × IsDataset (before old) held g
    × (new.bytes ≡ (after_tables (before old) held).bytes)
    × (new.rows ≡ (after_tables (before old) held).rows)
IsDatasetAnswer contents folder old new (Err (Refused r)) =
    (held : Held) × IsHeldTold contents folder held × FirstOf (dataset_checks (before old) held) r
IsDatasetAnswer contents folder old new (Err ReadFault) = Unit {0}
IsDatasetAnswer contents folder old new (Err Memory) = Unit {0}
