-- The two stages of the streams are read of one folder, and they give its lanes.
use Rattle.std.proofs.Common.{◌≡◌, ◌≤◌, ◌+◌, ℕ, List, [], ◌∷◌, Option, Ok, Err, length, All, sym, ap, subst, rules, arith}
use Rattle.std.proofs.lemmas.List.Concat.{length-flat_map}
use Rattle.std.proofs.lemmas.List.Sums.{sum_by-append}
use Rattle.std.specs.List.{sum_by}
use Rattle.snb_base.specs.Shelf.{Files}
use Rattle.snb_schema.specs.declared.limits.TheConstants.{MAX_LANES}
use Rattle.snb_schema.specs.declared.refusal.Refusal.{Refusal}
use Rattle.snb_schema.specs.declared.op.Line.{Line}
use Rattle.snb_schema.specs.LineLanes.{LineLanes, update_count}
use Rattle.snb_schema.specs.StreamLines.{AreInserts, AreOfStreams}
use Rattle.snb_schema.specs.UpdateLines.{forum_inserts, person_inserts}
use Rattle.snb_streams.specs.Updates.{allowed_in}
use Rattle.snb_input_files.specs.declared.load.Load.{Load}
use Rattle.snb_input_files.specs.declared.load.Load.TheVariants.{Refused, ReadFault, Memory}
use Rattle.snb_input_files.specs.declared.load.Used.{Used}
use Rattle.snb_input_files.specs.declared.series.Series.{Series}
use Rattle.snb_input_files.specs.declared.walk.Walk.{Walk}
use Rattle.snb_base.specs.FirstOf.{FirstOf}
use Rattle.snb_input_files.specs.Laws.{AreBelow, AreFrom, Joined, StagesJoin}
use Rattle.snb_input_files.specs.Places.{FilesSay, ReadFile}
use Rattle.snb_input_files.specs.Stages.{IsStage, Walked, before}
use Rattle.snb_input_files.specs.Walk.{Before, Held, IsHeldTold, Look, after_walk, stage_checks, stage_looks, walk_checks}
use Rattle.snb_input_files.proofs.Laws.{first_anyway, first_later, none_append}
use Rattle.snb_loader.specs.Order.{forum_series, person_series}
use Rattle.snb_loader.specs.Lanes.{AreTaken, IsHeard, IsLanesAnswer, StreamLines, after_persons, next_stage, stream_format}
use Rattle.snb_loader.proofs.CountFacts.{concat, said_by, walk_count}
use Rattle.snb_loader.proofs.OrderFacts.{files_inserts, of_streams}
use Rattle.snb_loader.proofs.PastFacts.{says_length, stage_read}

-- the person streams come before the forum streams
persons_below : AreBelow 34 person_series
persons_below = search rules

forums_from : AreFrom 34 forum_series
forums_from = search rules

-- a stage of one series has at most as many lanes as there may be files
few_of : (s : Series) (used : Used) (held : Held) (w : Walk StreamLines) → Walked stream_format IsHeard (before used) (stage_looks held (s ∷ [])) w → length w.file_sink.done ≤ s.most
few_of s used held w k =
    let grown = stage_read stream_format held s (before used) in
    let same = says_length stream_format (after_walk stream_format (before used) (stage_looks held (s ∷ []))).past w.file_sink.done (said_by (before used) (stage_looks held (s ∷ [])) w k) in
    let more = ap (λ (ss : List ReadFile). length ss) grown.past in
    let few = grown.few in
    omega (arith, same, more, few)

-- there are at most `MAX_LANES` lanes of persons
pub persons_few : (contents : Option Files) (folder : List ℕ) (used : Used) (w : Walk StreamLines) → IsStage stream_format IsHeard contents folder person_series (before used) (Ok w) → length w.file_sink.done ≤ MAX_LANES
persons_few contents folder used w (held, told, k) = few_of _ used held w k

-- there are at most `MAX_LANES` forum lanes
pub forums_few : (contents : Option Files) (folder : List ℕ) (used : Used) (w : Walk StreamLines) → IsStage stream_format IsHeard contents folder forum_series (before used) (Ok w) → length w.file_sink.done ≤ MAX_LANES
forums_few contents folder used w (held, told, k) = few_of _ used held w k

-- the lines of a stage of one series are inserts of its kind
inserts_of_series : (s : Series) (used : Used) (held : Held) (w : Walk StreamLines) → Walked stream_format IsHeard (before used) (stage_looks held (s ∷ [])) w → All (λ lines. AreInserts (allowed_in s.kind) lines) w.file_sink.done
inserts_of_series s used held w k =
    let grown = stage_read stream_format held s (before used) in
    files_inserts s.kind grown.more w.file_sink.done grown.kinds (subst (λ (ss : List ReadFile). FilesSay stream_format ss w.file_sink.done) grown.past (said_by (before used) (stage_looks held (s ∷ [])) w k))

abbrev line_count : List Line → ℕ
line_count lines = length lines

-- the lines of lanes, one after the other, are those that each has
concat_count : (lanes : List (List Line)) → length (concat lanes) ≡ sum_by line_count lanes
concat_count lanes = length-flat_map (λ (lines : List Line). lines) lanes

module _ (first last : Walk StreamLines) (lanes : LineLanes) (are : lanes ≡ record { persons = first.file_sink.done; forums = last.file_sink.done }) where
  module _ (contents later : Option Files) (folder : List ℕ) (old : Used) (persons : IsStage stream_format IsHeard contents folder person_series (before old) (Ok first)) (forums : IsStage stream_format IsHeard later folder forum_series (before first.used) (Ok last)) where
    -- the lanes are those of streams, for each stage has the inserts of its kind
    pub lanes_streams : All AreTaken lanes.persons × All AreTaken lanes.forums → AreOfStreams lanes
    lanes_streams taken = record {
      persons = of_streams person_inserts lanes.persons taken.0 (subst (λ (ls : LineLanes). All (λ lines. AreInserts person_inserts lines) ls.persons) (sym are) (inserts_of_series _ old persons.0 first persons.2));
      forums = of_streams forum_inserts lanes.forums taken.1 (subst (λ (ls : LineLanes). All (λ lines. AreInserts forum_inserts lines) ls.forums) (sym are) (inserts_of_series _ first.used forums.0 last forums.2));
    }

    -- each of their lines is counted
    pub lanes_counted : last.used.rows ≡ old.rows + update_count lanes
    lanes_counted =
        let one = walk_count _ old persons.0 first persons.2 in
        let other = walk_count _ first.used forums.0 last forums.2 in
        let persons = concat_count first.file_sink.done in
        let forums = concat_count last.file_sink.done in
        let both = sum_by-append line_count first.file_sink.done last.file_sink.done in
        let same = ap update_count are in
        omega (arith, one, other, persons, forums, both, same)

-- the person streams are refused
pub persons_err : (contents : Option Files) (folder : List ℕ) (old new : Used) (load : Load) → IsStage {P = StreamLines} stream_format IsHeard contents folder person_series (before old) (Err load) → IsLanesAnswer contents folder old new (Err load)
persons_err contents folder old new (Refused r) (held, told, bad) =
    (held, told, first_anyway (stage_checks stream_format (before old) held person_series) (stage_checks stream_format (next_stage (after_persons (before old) held)) held forum_series) r bad)
persons_err contents folder old new ReadFault h = tt
persons_err contents folder old new Memory h = tt

module _ (contents : Option Files) (folder : List ℕ) (old : Used) (join : StagesJoin) (first : Walk StreamLines) (persons : IsStage stream_format IsHeard contents folder person_series (before old) (Ok first)) where
  -- the files of both stages
  module _ (second : Held) (told : IsHeldTold contents folder second) where
    both : (held : Held) × Joined contents folder persons.0 second 34 held
    both = join contents folder persons.0 second 34 persons.1 told

    walked : Walked stream_format IsHeard (before old) (stage_looks both.0 person_series) first
    walked = subst (λ (ls : List Look). Walked stream_format IsHeard (before old) ls first) (sym (both.1.below person_series persons_below)) persons.2

    at : before first.used ≡ next_stage (after_persons (before old) both.0)
    at = λ i. record { bytes = walked.bytes_are i; rows = walked.rows_are i; past = [] }

    forums : stage_looks second forum_series ≡ stage_looks both.0 forum_series
    forums = sym (both.1.from forum_series forums_from)

    refused : (r : Refusal) → FirstOf (stage_checks stream_format (before first.used) second forum_series) r → IsLanesAnswer contents folder old old (Err (Refused r))
    refused r bad = (
      both.0,
      both.1.told,
      first_later (stage_checks stream_format (before old) both.0 person_series) (stage_checks stream_format (next_stage (after_persons (before old) both.0)) both.0 forum_series) r walked.clean
          (subst (λ (cs : List {1} (Refusal → Type 0)). FirstOf cs r) (λ i. walk_checks stream_format (at i) (forums i)) bad),
    )

    taken : (last : Walk StreamLines) → Walked stream_format IsHeard (before first.used) (stage_looks second forum_series) last → IsLanesAnswer contents folder old last.used (Ok (record { persons = first.file_sink.done; forums = last.file_sink.done }))
    taken last k =
        let h = subst (λ (z : Before × List Look). Walked stream_format IsHeard z.0 z.1 last) (λ i. (at i, forums i)) k in (
          both.0,
          both.1.told,
          record {
            clean = none_append (stage_checks stream_format (before old) both.0 person_series) (stage_checks stream_format (next_stage (after_persons (before old) both.0)) both.0 forum_series) walked.clean h.clean;
            persons = said_by (before old) (stage_looks both.0 person_series) first walked;
            forums = said_by (next_stage (after_persons (before old) both.0)) (stage_looks both.0 forum_series) last h;
          },
          h.bytes_are,
          h.rows_are,
        )

  -- the forum streams are refused
  pub forums_err : (load : Load) → IsStage {P = StreamLines} stream_format IsHeard contents folder forum_series (before first.used) (Err load) → IsLanesAnswer contents folder old old (Err load)
  forums_err (Refused r) (second, told, bad) = refused second told r bad
  forums_err ReadFault h = tt
  forums_err Memory h = tt

  -- nothing is refused
  pub forums_ok : (last : Walk StreamLines) → IsStage stream_format IsHeard contents folder forum_series (before first.used) (Ok last) → (lanes : LineLanes) → lanes ≡ record { persons = first.file_sink.done; forums = last.file_sink.done } → IsLanesAnswer contents folder old last.used (Ok lanes)
  forums_ok last (second, told, k) lanes e = subst (λ (l : LineLanes). IsLanesAnswer contents folder old last.used (Ok l)) (sym e) (taken second told last k)
