-- What file_sinks of lists have heard.
use Rattle.std.proofs.Common.{◌≡◌, ◌∙◌, ◌++◌, ◌∷◌, [], ◌-◌, ◌<◌, ◌≤◌, List, length, ap, subst, arith}
use Rattle.std.specs.Prelude.{slice_index_or}
use Rattle.snb_schema.specs.declared.file.FileId.{FileId}
use Rattle.snb_schema.specs.declared.op.Line.{Line}
use Rattle.snb_schema.specs.declared.query.Query.{Query}
use Rattle.snb_schema.specs.declared.refusal.Refusal.{Refusal}
use Rattle.snb_input_lines.specs.Sinks.{Hears}
use Rattle.snb_loader.specs.Lanes.{EndsStream, Falls, IsHeard, RefusesLine, StreamLines, TakesLine}
use Rattle.snb_loader.specs.Params.{EndsParams, HasHeard, ParamLines, TakesQuery, no_parameters}

-- the inserts of streams
pub stream_hears : Hears TakesLine RefusesLine IsHeard Falls
stream_hears = record {
  more = λ old new file x done mine h taken. (taken.0 ∙ h.0, taken.1 ∙ ap (λ (xs : List Line). xs ++ x ∷ []) h.1);
  passes = λ old new file x done mine r h taken falls.
      let rises = subst (λ (xs : List Line). 0 < length xs → (slice_index_or xs (length xs - 1) x).t ≤ x.t) h.1 taken.2 in
      let up = rises falls.0 in
      let down = falls.1 in
      omega (arith, up, down);
  bad = λ old file x done mine r h wrong. subst (λ (xs : List Line). Falls file done xs x r) h.1 wrong;
}

pub stream_turned : (old new : StreamLines) (done : List (List Line)) (mine : List Line) → IsHeard old done mine → EndsStream old new → IsHeard new (done ++ mine ∷ []) []
stream_turned old new done mine h e = (e.0 ∙ (λ i. h.0 i ++ h.1 i ∷ []), e.1)

-- the parameters of files
pub params_hear : Hears TakesQuery (λ (old : ParamLines) (file : FileId) (x : Query) (r : Refusal). ⊥) HasHeard (λ (file : FileId) (done : List (List Query)) (mine : List Query) (x : Query) (r : Refusal). ⊥)
params_hear = record {
  more = λ old new file x done mine h taken. (taken.0 ∙ h.0, taken.1 ∙ ap (λ (xs : List Query). xs ++ x ∷ []) h.1);
  passes = λ old new file x done mine r h taken own. own;
  bad = λ old file x done mine r h wrong. wrong;
}

pub params_turned : (old new : ParamLines) (done : List (List Query)) (mine : List Query) → HasHeard old done mine → EndsParams old new → HasHeard new (done ++ mine ∷ []) []
params_turned old new done mine h e = (e.0 ∙ (λ i. h.0 i ++ h.1 i ∷ []), e.1)

pub params_ended : (s : ParamLines) (file : FileId) (done : List (List Query)) (mine : List Query) → HasHeard s done mine → no_parameters file s.mine ≡ no_parameters file mine
params_ended s file done mine h = ap (no_parameters file) h.1
