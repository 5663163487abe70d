-- The lines of the streams are of lines, t never falls, and each stream has the inserts of its kind.
use Rattle.std.proofs.Common.{◌≡◌, ◌∙◌, ◌-◌, ◌<◌, ◌≤◌, ℕ, Global, Vec, Some, Result, Ok, Err, OnOk, OnErr, map, List, [], ◌∷◌, ◌++◌, length, All, Contains, length-append, refl, sym, ap, subst, inl, inr, arith}
use Rattle.std.specs.Prelude.{slice_index_or}
use Rattle.std.proofs.Math.Seq.{get_or-append_seam}
use Rattle.std.proofs.lemmas.Bool.{cases_lt}
use Rattle.std.proofs.lemmas.List.{get_or_default, map-append}
use Rattle.std.proofs.lemmas.List.Elements.{All-append, All-cons, All-head, All-nil, All-tail}
use Rattle.std.proofs.lemmas.List.Quantifiers.{all_pairs_push}
use Rattle.snb_schema.specs.declared.file.FileId.{FileId}
use Rattle.snb_schema.specs.declared.file.FileKind.{FileKind}
use Rattle.snb_schema.specs.declared.op.Line.{Line}
use Rattle.snb_schema.specs.declared.op.InsertKind.{InsertKind}
use Rattle.snb_schema.specs.declared.refusal.Refusal.{Refusal}
use Rattle.snb_schema.specs.declared.refusal.Refusal.TheVariants.{OutOfOrder}
use Rattle.snb_schema.specs.Lines.{lines}
use Rattle.snb_schema.specs.StreamLines.{AreInserts, AreOfStream, IsOfLine, NeverFalls}
use Rattle.snb_schema.specs.InsertLines.{kind_of}
use Rattle.snb_input_lines.proofs.Laws.{says_each}
use Rattle.snb_streams.specs.Lines.{stream_language}
use Rattle.snb_streams.specs.Updates.{allowed_in}
use Rattle.snb_input_files.specs.Places.{FileSays, FilesSay, ReadFile}
use Rattle.snb_loader.specs.Lanes.{AreTaken, Falls, IsLastOf, stream_format}
use Rattle.snb_loader.proofs.PastFacts.{AreOfKind}

-- in a list of no lines t never falls
pub none_falls : NeverFalls []
none_falls = λ i j d below within. absurd (omega (arith, within))

-- nor does it where a line no earlier than the last is appended
pub one_later : (mine : List Line) (x : Line) → NeverFalls mine → (0 < length mine → (slice_index_or mine (length mine - 1) x).t ≤ x.t) → NeverFalls (mine ++ x ∷ [])
one_later mine x h last = all_pairs_push (λ y z. y.t ≤ z.t) mine x h before
  where
    before : (k : ℕ) (d : Line) → k < length mine → (slice_index_or mine k d).t ≤ x.t
    before k d l = elim (cases_lt k (length mine - 1)) [
      | inl earlier ↦
          let up = h k (length mine - 1) x earlier (omega (arith, l)) in
          let same = ap (λ (y : Line). y.t) (get_or_default mine k d x l) in
          let top = last (omega (arith, l)) in
          omega (arith, up, same, top)
      | inr later ↦
          let at : k ≡ length mine - 1 = omega (arith, l, later) in
          let same = ap (λ (y : Line). y.t) (get_or_default mine k d x l) in
          let here = ap (λ (n : ℕ). (slice_index_or mine n x).t) at in
          let top = last (omega (arith, l)) in
          omega (arith, same, here, top)
    ]

-- a stream of no lines
pub none_taken : AreTaken []
none_taken = record { of_lines = All-nil IsOfLine; rises = none_falls }

-- a line more in a stream
pub one_taken : (mine : List Line) (x : Line) → AreTaken mine → IsOfLine x → (0 < length mine → (slice_index_or mine (length mine - 1) x).t ≤ x.t) → AreTaken (mine ++ x ∷ [])
one_taken mine x h of_line last = record {
  of_lines = All-append IsOfLine mine (x ∷ []) h.of_lines (All-cons IsOfLine x [] of_line (All-nil IsOfLine));
  rises = one_later mine x h.rises last;
}

-- the t of the last line of a stream of no lines, and with a line more
pub none_last : IsLastOf [] 0
none_last = record { none = λ e. refl; some = λ x some. absurd (omega (arith, some)) }

pub one_last : (mine : List Line) (x : Line) → IsLastOf (mine ++ x ∷ []) x.t
one_last mine x = record {
  none = λ e. let l = length-append mine (x ∷ []) in absurd (omega (arith, e, l));
  some = λ y some.
      let at : length (mine ++ x ∷ []) - 1 ≡ length mine = omega (arith, length-append mine (x ∷ [])) in
      ap (λ (k : ℕ). (slice_index_or (mine ++ x ∷ []) k y).t) at ∙ ap (λ (z : Line). z.t) (get_or-append_seam mine x [] y);
}

-- a line whose t is no lower than the last comes after the last line, and one whose t is lower falls
pub not_lower : (mine : List Line) (last : ℕ) (x : Line) → IsLastOf mine last → last ≤ x.t → 0 < length mine → (slice_index_or mine (length mine - 1) x).t ≤ x.t
not_lower mine last x h l some = let e = h.some x some in omega (arith, e, l)

pub falls : (file : FileId) (done : List (List Line)) (mine : List Line) (last : ℕ) (x : Line) (r : Refusal) → IsLastOf mine last → x.t < last → r ≡ OutOfOrder file x.number → Falls file done mine x r
falls file done [] last x r h l e = let n = h.none refl in absurd (omega (arith, n, l))
falls file done (y ∷ ys) last x r h l e = let t = h.some x (omega arith) in ((omega arith), (omega (arith, t, l)), e)

-- a stream more
pub stream_more : (done new : List (Vec Line Global)) (lane : Vec Line Global) → new ≡ done ++ lane ∷ [] → All AreTaken (map (λ v. v.items) done) → AreTaken lane.items → All AreTaken (map (λ v. v.items) new)
stream_more done new lane e all one =
    subst (λ (xss : List (List Line)). All AreTaken xss) (sym (ap (λ (vs : List (Vec Line Global)). map (λ v. v.items) vs) e ∙ map-append (λ (v : Vec Line Global). v.items) done (lane ∷ [])))
    (All-append AreTaken (map (λ v. v.items) done) (lane.items ∷ []) all (All-cons AreTaken lane.items [] one (All-nil AreTaken)))

-- the lines of a file are inserts of its kind
says_inserts : (s : ReadFile) (xs : List Line) → FileSays stream_format s xs → AreInserts (allowed_in s.file.kind) xs
says_inserts s xs h =
    says_each (stream_language s.file.kind) (λ (x : Line). Contains (allowed_in s.file.kind) (kind_of x.op)) (λ k number line x spells. spells.spells.0) (lines s.bytes) (Some tt) (Some h.0) 0 xs h.1

-- what files of a kind say are inserts of that kind
pub files_inserts : (kind : FileKind) (ss : List ReadFile) (xss : List (List Line)) → AreOfKind kind ss → FilesSay stream_format ss xss → All (λ xs. AreInserts (allowed_in kind) xs) xss
files_inserts kind [] [] k h = All-nil (λ (xs : List Line). AreInserts (allowed_in kind) xs)
files_inserts kind [] (xs ∷ xss) k h = absurd h
files_inserts kind (s ∷ ss) [] k h = absurd h
files_inserts kind (s ∷ ss) (xs ∷ xss) k h =
    All-cons (λ (ys : List Line). AreInserts (allowed_in kind) ys) xs xss
    (subst (λ (c : FileKind). AreInserts (allowed_in c) xs) k.0 (says_inserts s xs h.0))
    (files_inserts kind ss xss k.1 h.1)

-- streams that were taken, and have the inserts of a kind
pub of_streams : (kinds : List InsertKind) (xss : List (List Line)) → All AreTaken xss → All (λ xs. AreInserts kinds xs) xss → All (AreOfStream kinds) xss
of_streams kinds [] taken are = All-nil (AreOfStream kinds)
of_streams kinds (xs ∷ xss) taken are =
    let one = All-head AreTaken xs xss taken in
    All-cons (AreOfStream kinds) xs xss
    (record {
      of_lines = one.of_lines;
      of_kinds = All-head (λ ys. AreInserts kinds ys) xs xss are;
      rises = one.rises;
    })
    (of_streams kinds xss (All-tail AreTaken xs xss taken) (All-tail (λ ys. AreInserts kinds ys) xs xss are))

-- what a stream is after a line was put
pub put_line : {E : Type 0} (result : Result (Unit {0}) E) (old new : List Line) (last next : ℕ) (x : Line) → AreTaken old → IsLastOf old last → IsOfLine x
    → OnOk result ((last ≤ x.t) × (next ≡ x.t) × (new ≡ old ++ x ∷ [])) → OnErr result ((new ≡ old) × (next ≡ last)) → AreTaken new × IsLastOf new next
put_line (Ok u) old new last next x h l of_line taken same = (
  subst (λ (xs : List Line). AreTaken xs) (sym taken.2) (one_taken old x h of_line (not_lower old last x l taken.0)),
  subst (λ (n : ℕ). IsLastOf new n) (sym taken.1) (subst (λ (xs : List Line). IsLastOf xs x.t) (sym taken.2) (one_last old x)),
)
put_line (Err e) old new last next x h l of_line taken same =
    (subst (λ (xs : List Line). AreTaken xs) (sym same.0) h, subst (λ (n : ℕ). IsLastOf new n) (sym same.1) (subst (λ (xs : List Line). IsLastOf xs last) (sym same.0) l))

-- two facts of what is well, as one
pub both_ok : {X E A B : Type 0} (r : Result X E) → OnOk r A → (A → B) → OnOk r B
both_ok (Ok x) a f = f a
both_ok (Err e) a f = tt

-- a stream of no lines is one
pub no_lines : (xs : List Line) (last : ℕ) → xs ≡ [] → last ≡ 0 → AreTaken xs × IsLastOf xs last
no_lines xs last e n = (subst (λ (ys : List Line). AreTaken ys) (sym e) none_taken, subst (λ (m : ℕ). IsLastOf xs m) (sym n) (subst (λ (ys : List Line). IsLastOf ys 0) (sym e) none_last))
