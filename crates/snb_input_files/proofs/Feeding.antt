-- A reader that is fed a file piece by piece.
use Rattle.std.proofs.Common.{◌≡◌, ◌≢◌, ◌∙◌, ◌+◌, ◌-◌, ◌<◌, ◌≤◌, ℕ, min, List, [], ◌++◌, Option, Err, length, take, drop, sym, ap, subst, arith, append_assoc, length-append, length-take}
use Rattle.std.proofs.lemmas.List.{length-drop, take-append-drop}
use Rattle.snb_base.specs.Shelf.{Files}
use Rattle.snb_schema.specs.declared.fault.Fault.{Fault}
use Rattle.snb_schema.specs.declared.fault.Fault.TheVariants as fault
use Rattle.snb_schema.specs.declared.file.FileId.{FileId}
use Rattle.snb_schema.specs.declared.limits.TheConstants.{MAX_BYTES}
use Rattle.snb_schema.specs.declared.refusal.Refusal.{Refusal}
use Rattle.snb_schema.specs.declared.refusal.Refusal.TheVariants.{TooLarge}
use Rattle.snb_schema.specs.Faults.{OnBad}
use Rattle.snb_input_lines.specs.Counts.{RowRefuses, RowTakes}
use Rattle.snb_input_lines.specs.declared.counted.RowCount.{RowCount}
use Rattle.snb_input_lines.specs.Feeding.{HasRead, HasStopped, Reader, new_lines}
use Rattle.snb_input_lines.specs.Feeding as feeding
use Rattle.snb_input_lines.specs.Sinks.{Heard, Hears, Refuses, Takes}
use Rattle.snb_input_lines.proofs.Laws.{fed_step, fed_stopped}
use Rattle.snb_input_files.specs.declared.load.Load.{Load}
use Rattle.snb_input_files.specs.declared.load.Load.TheVariants.{Refused, ReadFault, Memory}
use Rattle.snb_input_files.specs.Format.{Format, Lawful}
use Rattle.snb_input_files.specs.Loading.{load_for}
use Rattle.snb_input_files.specs.Pieces.{IsBadPiece, IsFedMore, IsMore, IsStep, OnRefused}
use Rattle.snb_input_files.specs.Places.{opening}
use Rattle.snb_input_files.specs.PlaceChecks.{LinesRefuse}
use Rattle.snb_input_files.proofs.FileFacts.{stopped, too_far}

-- the refusal of a line is that of the loading
pub refused_bad : (A : Type 0) (fault : Fault) (load : Load) (F G : Refusal → Type 0) → load ≡ load_for fault → OnBad {A = Unit {0}} (Err fault) F → ((r : Refusal) → F r → G r) → OnRefused {A = A} (Err load) G
refused_bad A (fault.Bad r) load F G e h more = subst (λ (l : Load). OnRefused {A = A} (Err l) G) (sym e) (more r h)
refused_bad A fault.Memory load F G e h more = subst (λ (l : Load). OnRefused {A = A} (Err l) G) (sym e) tt

some_drop : (k : ℕ) (xs ys : List ℕ) → k < length xs → drop k xs ++ ys ≢ []
some_drop k xs ys h e = let l : length (drop k xs ++ ys) ≡ 0 = ap length e in omega (arith, h, l, length-append (drop k xs) ys, length-drop k xs)

-- a text, the front of a piece, and what follows
rejoined : (text piece rest : List ℕ) (k : ℕ) → (text ++ take k piece) ++ (drop k piece ++ rest) ≡ (text ++ piece) ++ rest
rejoined text piece rest k =
    append_assoc text (take k piece) (drop k piece ++ rest) ∙ ap (λ (xs : List ℕ). text ++ xs) (sym (append_assoc (take k piece) (drop k piece) rest) ∙ ap (λ (xs : List ℕ). xs ++ rest) (take-append-drop k piece)) ∙ sym (append_assoc text piece rest)

module _ {P G K T : Type 0} (g : Format K T) (heard : Heard P T) (takes : Takes P T) (file : FileId) (grammar : G) where
  -- a piece more
  pub fed_more : (piece : List ℕ) (old new : Reader G K) (had has : RowCount P) → HasRead (g.language file) (RowTakes takes) (new_lines old piece) old had new has → new ≡ feeding.fed_more old piece new.known
      → IsFedMore g takes file grammar old had piece new has
  fed_more piece old new had has read after start text f = fed_step (g.language file) (RowTakes takes) file grammar start text old had f piece new has read after

  -- what stops the feeding stops the reading
  pub step_err : (contents : Option Files) (name : List ℕ) (most : ℕ) (old new : Reader G K) (had has : RowCount P) (piece : List ℕ) (load : Load) → ((text : List ℕ) → length text ≡ old.fed → IsMore contents name text piece)
      → OnRefused {A = Unit {0}} (Err load) (IsBadPiece g heard takes file grammar most old had piece) → IsStep g heard takes contents name file grammar most old had new has (Err load)
  step_err contents name most old new had has piece (Refused r) told bad = (piece, told, bad)
  step_err contents name most old new had has piece ReadFault told bad = tt
  step_err contents name most old new had has piece Memory told bad = tt

  module _ (refuses : Refuses P T) (hears : Hears takes refuses heard g.rules.own) (lawful : Lawful g) (most : ℕ) (old : Reader G K) (had : RowCount P) (piece : List ℕ) (k : ℕ) (cut : k ≡ min (length piece) (most - old.fed)) (room : old.fed ≤ most) where
    kept_few : (bytes : ℕ) (text : List ℕ) → bytes + most ≡ MAX_BYTES → old.fed ≡ length text → bytes + length (text ++ take k piece) ≤ MAX_BYTES
    kept_few bytes text all fed = omega (arith, all, fed, cut, room, length-append text (take k piece), length-take k piece)

    -- a line that ends in it is refused
    pub bad_piece : (same : RowCount P → RowCount P → Type 0) (new : Reader G K) (has : RowCount P) (r : Refusal) → HasStopped (g.language file) (RowTakes takes) (RowRefuses refuses) same (new_lines old (take k piece)) old had new has r
        → IsBadPiece g heard takes file grammar most old had piece r
    bad_piece same new has r h =
        λ bytes rows past start text rest all at f.
        let joined = fed_stopped (g.language file) (RowTakes takes) file grammar start text old had f (RowRefuses refuses) (take k piece) h.items h.mid r h.stops in
        subst (λ (w : List ℕ). LinesRefuse g (opening file bytes rows past w) w r) (rejoined text piece rest k)
        (stopped g heard takes refuses hears lawful file bytes rows past start at (text ++ take k piece) (drop k piece ++ rest) (f.items ++ h.items) h.mid r (kept_few bytes text all f.fed) joined)

    -- the file goes on beyond what may be read
    pub large_piece : (new : Reader G K) (has : RowCount P) → IsFedMore g takes file grammar old had (take k piece) new has → k < length piece → IsBadPiece g heard takes file grammar most old had piece (TooLarge file)
    large_piece new has more far =
        λ bytes rows past start text rest all at f.
        let now = more start text f in
        let fed = f.fed in
        let full : bytes + length (text ++ take k piece) ≡ MAX_BYTES = omega (arith, all, fed, cut, room, far, length-append text (take k piece), length-take k piece) in
        subst (λ (w : List ℕ). LinesRefuse g (opening file bytes rows past w) w (TooLarge file)) (rejoined text piece rest k)
        (too_far g heard takes refuses hears lawful file bytes rows past start at (text ++ take k piece) (drop k piece ++ rest) now.items new.known has full (some_drop k piece rest far) now.says now.runs)
