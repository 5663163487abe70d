-- What a dataset answers by its files and then by its graph.
use Rattle.std.proofs.Common.{rules, ◌≡◌, ◌∷◌, [], ℕ, List, Option, Ok, Err, subst, inl}
use Rattle.snb_base.specs.Shelf.{Files}
use Rattle.snb_schema.specs.declared.refusal.Refusal.{Refusal}
use Rattle.snb_schema.specs.declared.refusal.Refusal.TheVariants.{Lacks, Cycle}
use Rattle.snb_schema.specs.declared.row.Placed.{Placed}
use Rattle.snb_schema.specs.declared.row.Row.{Row}
use Rattle.snb_input_files.specs.declared.load.Load.{Load}
use Rattle.snb_input_files.specs.declared.load.Load.TheVariants.{Refused, ReadFault, Memory}
use Rattle.snb_input_files.specs.declared.load.Used.{Used}
use Rattle.snb_input_files.specs.declared.walk.Walk.{Walk}
use Rattle.snb_input_files.specs.Laws.{OneSaying}
use Rattle.snb_input_files.specs.Places.{ReadFile}
use Rattle.snb_input_files.specs.Stages.{AreRising, IsStage, Walked, before}
use Rattle.snb_input_files.specs.Walk.{stage_checks, stage_looks}
use Rattle.snb_input_files.proofs.Laws.{first_anyway, first_later, none_append}
use Rattle.snb_graph_integrity.specs.declared.unsound.Unsound.{Unsound}
use Rattle.snb_graph_integrity.specs.declared.unsound.Unsound.TheVariants as unsound
use Rattle.snb_graph_integrity.specs.Outcomes.{IsWrong}
use Rattle.snb_graph_model.specs.Laws.{GraphsAreTheirRows}
use Rattle.snb_graph_model.specs.Soundness.{HoldsRefs as IsHeldAll, Sound, missing}
use Rattle.snb_loader.specs.Order.{table_series}
use Rattle.snb_loader.specs.Dataset.{IsDatasetAnswer, IsRefusedGraph, IsUnsound, after_tables, refusal_for}
use Rattle.snb_loader.specs.Dataset.IsRefusedGraph.{lacks, cycle}
use Rattle.snb_loader.specs.Tables.{IsHeard, table_format}

-- the tables come in the order of files
pub tables_rise : AreRising 0 table_series
tables_rise = search rules

-- a sound graph isn't refused
not_refused : (g : List Row) (r : Refusal) → Sound g → ¬ IsRefusedGraph g r
not_refused g r sound (lacks node id edge lack) = no_first (node, id, edge) lack.others (missing g) lack.first sound.complete
  where
    no_first : {X : Type 0} (x : X) (xs ys : List X) → ys ≡ x ∷ xs → ys ≡ [] → ⊥
    no_first x xs ys e f = absurd cc
not_refused g r sound (cycle comment complete loose) = loose.loose (sound.rooted comment loose.held)

-- the tables are refused
pub files_err : (contents : Option Files) (folder : List ℕ) (old : Used) (load : Load) → IsStage {P = List Row} table_format IsHeard contents folder table_series (before old) (Err load) → IsDatasetAnswer contents folder old old (Err load)
files_err contents folder old (Refused r) (held, told, wrong) = (held, told, first_anyway (stage_checks table_format (before old) held table_series) (IsUnsound (after_tables (before old) held).past ∷ []) r wrong)
files_err contents folder old ReadFault h = tt
files_err contents folder old Memory h = tt

module _ (contents : Option Files) (folder : List ℕ) (old : Used) (w : Walk (List Row)) (tables : IsStage table_format IsHeard contents folder table_series (before old) (Ok w)) where
  walked : Walked table_format IsHeard (before old) (stage_looks tables.0 table_series) w
  walked = tables.2

  -- the files that were read
  abbrev sources : List ReadFile
  sources = (after_tables (before old) tables.0).past

  unsound_first : (r : Refusal) → IsRefusedGraph w.file_sink r → IsDatasetAnswer contents folder old old (Err (Refused r))
  unsound_first r wrong = (
    tables.0,
    tables.1,
    first_later (stage_checks table_format (before old) tables.0 table_series) (IsUnsound sources ∷ []) r walked.clean
        (inl (record {
          rows = walked.done;
          said = walked.said;
          graph = w.file_sink;
          heard = walked.fresh;
          refused = wrong;
        })),
  )

  -- the graph isn't sound
  pub graph_err : (why : Unsound) → IsWrong w.file_sink why → IsDatasetAnswer contents folder old old (Err (refusal_for why))
  graph_err (unsound.Lacks node id edge) wrong = unsound_first (Lacks node id edge) (lacks node id edge wrong)
  graph_err (unsound.Cycle comment) wrong = unsound_first (Cycle comment) (cycle comment wrong.0 wrong.1)
  graph_err unsound.Memory wrong = tt

  module _ (one : OneSaying table_format) (apart : GraphsAreTheirRows) (if_held : IsHeldAll w.file_sink → Sound w.file_sink) where
    sound : Sound w.file_sink
    sound = if_held walked.fresh.held

    -- a graph of the same rows is this one
    same_graph : (rows : List (List Placed)) (g : List Row) → rows ≡ walked.done → IsHeard g rows [] → g ≡ w.file_sink
    same_graph rows g e heard =
        let h = subst (λ (rs : List (List Placed)). IsHeard g rs []) e heard in
        apart g w.file_sink h.graph walked.fresh.graph (λ r. (λ c. (walked.fresh.same r).1 ((h.same r).0 c), λ c. (h.same r).1 ((walked.fresh.same r).0 c)))

    none_unsound : (r : Refusal) → ¬ IsUnsound sources r
    none_unsound r u =
        let e = same_graph u.rows u.graph (one sources u.rows walked.done u.said walked.said) u.heard in
        not_refused w.file_sink r sound (subst (λ (g : List Row). IsRefusedGraph g r) e u.refused)

    -- nothing is wrong
    pub graph_ok : IsDatasetAnswer contents folder old w.used (Ok w.file_sink)
    graph_ok = (
      tables.0,
      tables.1,
      record {
        clean = none_append (stage_checks table_format (before old) tables.0 table_series) (IsUnsound sources ∷ []) walked.clean (none_unsound, tt);
        rows = walked.done;
        said = walked.said;
        heard = walked.fresh;
        sound = sound;
      },
      walked.bytes_are,
      walked.rows_are,
    )
