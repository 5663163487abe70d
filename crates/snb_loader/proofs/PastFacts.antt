-- The files of a series that were read: how many they are, of which kind, and how many data lines they have.
use Rattle.std.proofs.Common.{◌≡◌, ◌∙◌, ◌+◌, ◌≤◌, ℕ, zero, suc, List, [], ◌∷◌, ◌++◌, Option, Some, None, length, refl, sym, ap, subst, arith, append_assoc, append-nil}
use Rattle.snb_schema.specs.declared.file.FileId.{FileId}
use Rattle.snb_schema.specs.declared.file.FileKind.{FileKind}
use Rattle.snb_schema.specs.declared.refusal.Counted.{Counted}
use Rattle.snb_input_files.specs.declared.series.Series.{Series}
use Rattle.snb_input_files.specs.Format.{Format}
use Rattle.snb_schema.specs.Lines.{lines}
use Rattle.snb_input_files.specs.Places.{FilesSay, ReadFile, counted_rows}
use Rattle.snb_input_files.specs.Walk.{Before, Held, Look, Role, after_look, after_walk, file_at, first_role, look_beyond, looks_from, series_looks, stage_looks, with_file}
use Rattle.snb_input_files.specs.Walk.Role.{Needed, Further, Beyond}

-- the files are of this kind
abbrev pub AreOfKind : FileKind → List ReadFile → Type 0
AreOfKind kind [] = Unit {0}
AreOfKind kind (s ∷ ss) = (s.file.kind ≡ kind) × AreOfKind kind ss

-- how many data lines the files have
abbrev pub data_count : {K T : Type 0} → Format K T → List ReadFile → ℕ
data_count g [] = 0
data_count g (s ∷ ss) = counted_rows g s.file (lines s.bytes) + data_count g ss

-- between two moments at most so many files of a kind were read
pub record Grown {K T : Type 0} (g : Format K T) (kind : FileKind) (n : ℕ) (a b : Before) : Type 0 where
  pub more : List ReadFile
  pub past : b.past ≡ a.past ++ more
  pub few : length more ≤ n
  pub kinds : AreOfKind kind more
  pub rows : b.rows ≡ a.rows + data_count g more

module _ {K T : Type 0} (g : Format K T) where
  none_read : (kind : FileKind) (n : ℕ) (a : Before) → Grown g kind n a a
  none_read kind n a = record { more = []; past = sym (append-nil a.past); few = omega arith; kinds = tt; rows = omega arith }

  more_allowed : (kind : FileKind) (n : ℕ) (a b : Before) → Grown g kind n a b → Grown g kind (suc n) a b
  more_allowed kind n a b k = record { more = k.more; past = k.past; few = (let h = k.few in omega (arith, h)); kinds = k.kinds; rows = k.rows }

  one_read : (file : FileId) (kind : FileKind) (n : ℕ) (at b : Before) (bytes : List ℕ) → file.kind ≡ kind → Grown g kind n (with_file g at file bytes) b → Grown g kind (suc n) at b
  one_read file kind n at b bytes e k = record {
    more = record { file = file; bytes = bytes } ∷ k.more;
    past = k.past ∙ append_assoc at.past (record { file = file; bytes = bytes } ∷ []) k.more;
    few = (let h = k.few in omega (arith, h));
    kinds = (e, k.kinds);
    rows = (let h = k.rows in omega (arith, h));
  }

  -- a look for a file, and further looks where it is there
  look_read : (file : FileId) (kind : FileKind) (n : ℕ) (at : Before) (role : Role) (o : Option (List ℕ)) (rest : List Look) → file.kind ≡ kind → ((next : Before) → Grown g kind n next (after_walk g next rest)) → Grown g kind (suc n) at (after_walk g (after_look g at file role o) (elim o [ None ↦ [] | Some b ↦ rest ]))
  look_read file kind n at Needed None rest e k = none_read kind (suc n) at
  look_read file kind n at Needed (Some b) rest e k = one_read file kind n at (after_walk g (with_file g at file b) rest) b e (k (with_file g at file b))
  look_read file kind n at Further None rest e k = none_read kind (suc n) at
  look_read file kind n at Further (Some b) rest e k = one_read file kind n at (after_walk g (with_file g at file b) rest) b e (k (with_file g at file b))
  look_read file kind n at (Beyond what) None rest e k = none_read kind (suc n) at
  look_read file kind n at (Beyond what) (Some b) rest e k = more_allowed kind n at (after_walk g at rest) (k at)

  beyond_read : (held : Held) (s : Series) (i : ℕ) (at : Before) (what : Option Counted) → Grown g s.kind zero at (after_walk g at (look_beyond held s i what))
  beyond_read held s i at None = none_read s.kind zero at
  beyond_read held s i at (Some what) = none_read s.kind zero at

  from_read : (held : Held) (s : Series) (n i : ℕ) (role : Role) (at : Before) → Grown g s.kind n at (after_walk g at (looks_from held s n i role))
  unfolding looks_from
  from_read held s zero i role at = beyond_read held s i at s.what
  from_read held s (suc n) i role at = look_read (file_at s i) s.kind n at role (held (file_at s i)) (looks_from held s n (i + 1) Further) refl (λ next. from_read held s n (i + 1) Further next)

  series_read : (held : Held) (s : Series) (at : Before) → Grown g s.kind s.most at (after_walk g at (series_looks held s))
  unfolding series_looks
  series_read held s at = from_read held s s.most 0 (first_role s.needed) at

  -- a stage of one series reads at most so many files of its kind
  pub stage_read : (held : Held) (s : Series) (at : Before) → Grown g s.kind s.most at (after_walk g at (stage_looks held (s ∷ [])))
  stage_read held s at = subst (λ (ls : List Look). Grown g s.kind s.most at (after_walk g at ls)) (sym (append-nil (series_looks held s))) (series_read held s at)

  -- as many files, so many lists of items
  pub says_length : (ss : List ReadFile) (xss : List (List T)) → FilesSay g ss xss → length xss ≡ length ss
  says_length [] [] h = refl
  says_length [] (xs ∷ xss) h = absurd h
  says_length (s ∷ ss) [] h = absurd h
  says_length (s ∷ ss) (xs ∷ xss) h = ap suc (says_length ss xss h.1)
