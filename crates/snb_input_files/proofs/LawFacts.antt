-- One refusal at most, and one folder.
use Rattle.std.proofs.Common.{◌≡◌, ◌∙◌, ◌+◌, ◌<◌, ◌≤◌, ℕ, zero, suc, Bool, true, false, ltb, cond, List, [], ◌∷◌, ◌++◌, Option, Some, None, length, refl, sym, ap, subst, inl, inr, arith}
use Rattle.std.proofs.lemmas.Bool.Decides.{Decides-ltb}
use Rattle.snb_base.specs.Shelf.{Files}
use Rattle.snb_schema.specs.declared.file.FileId.{FileId}
use Rattle.snb_schema.specs.declared.refusal.Counted.{Counted}
use Rattle.snb_schema.specs.declared.refusal.Refusal.{Refusal}
use Rattle.snb_schema.specs.declared.refusal.Refusal.TheVariants.{BadLine}
use Rattle.snb_schema.specs.Lines.{filled, lines}
use Rattle.snb_input_files.specs.declared.series.Series.{Series}
use Rattle.snb_input_files.specs.Files.{FirstFault, held_in}
use Rattle.snb_base.specs.FirstOf.{FirstOf, NoneOf}
use Rattle.snb_input_files.specs.Format.{Format, Lawful}
use Rattle.snb_input_files.specs.Laws.{AreBelow, AreFrom, OneRefusal, RefusedOrNot, StagesJoin}
use Rattle.snb_input_files.specs.Places.{InputPlace, opening}
use Rattle.snb_input_files.specs.PlaceChecks.{FailsOwn, HasBadColumn, IsBare, HasBadHeader, LineFault, file_checks, line_checks}
use Rattle.snb_input_files.specs.Ranks.{ordinal}
use Rattle.snb_input_files.specs.Walk.{Before, Held, IsHeldTold, Look, Role, after_look, file_at, first_role, look_beyond, look_checks, looks_from, series_looks, stage_checks, stage_looks, walk_checks}
use Rattle.snb_input_files.specs.Walk.Role.{Needed, Further, Beyond}
use Rattle.snb_input_files.proofs.Taking.{files_one, knows_one, says_one}
use Rattle.std.proofs.lemmas.Bool.{lt-ltb}

-- each check refuses in one way at most
abbrev pub Ones : List {1} (Refusal → Type 0) → Type 0
Ones [] = Unit {0}
Ones (A ∷ As) = ((r q : Refusal) → A r → A q → r ≡ q) × Ones As

pub first_one : (cs : List {1} (Refusal → Type 0)) → Ones cs → (r q : Refusal) → FirstOf cs r → FirstOf cs q → r ≡ q
first_one [] ones r q a b = absurd a
first_one (A ∷ cs) ones r q (inl a) (inl b) = ones.0 r q a b
first_one (A ∷ cs) ones r q (inl a) (inr b) = absurd (b.0 r a)
first_one (A ∷ cs) ones r q (inr a) (inl b) = absurd (a.0 q b)
first_one (A ∷ cs) ones r q (inr a) (inr b) = first_one cs ones.1 r q a.1 b.1

-- where one refuses, it isn't so that none does
pub first_some : (cs : List {1} (Refusal → Type 0)) (r : Refusal) → FirstOf cs r → NoneOf cs → ⊥
first_some [] r a none = a
first_some (A ∷ cs) r (inl a) none = none.0 r a
first_some (A ∷ cs) r (inr a) none = first_some cs r a.1 none.1

ones_append : (cs ds : List {1} (Refusal → Type 0)) → Ones cs → Ones ds → Ones (cs ++ ds)
ones_append [] ds p q = q
ones_append (A ∷ cs) ds p q = (p.0, ones_append cs ds p.1 q)

-- a list of lines that two splits share: one of the lines comes first, or they are the same
data Compared (xs : List (List ℕ)) (x : List ℕ) (ys : List (List ℕ)) (y : List ℕ) : Type 0 where
  same : (xs ≡ ys) → (x ≡ y) → Compared xs x ys y
  before : (more : List (List ℕ)) → (xs ++ x ∷ more ≡ ys) → Compared xs x ys y
  after : (more : List (List ℕ)) → (ys ++ y ∷ more ≡ xs) → Compared xs x ys y

compared : (xs : List (List ℕ)) (x : List ℕ) (cs ys : List (List ℕ)) (y : List ℕ) (ds : List (List ℕ)) → xs ++ x ∷ cs ≡ ys ++ y ∷ ds → Compared xs x ys y
compared [] x cs [] y ds e = same refl cc
compared [] x cs (z ∷ ys) y ds e = before ys (let h : x ≡ z = cc in ap (λ (w : List ℕ). w ∷ ys) h)
compared (w ∷ xs) x cs [] y ds e = after xs (let h : y ≡ w = cc in ap (λ (z : List ℕ). z ∷ xs) h)
compared (w ∷ xs) x cs (z ∷ ys) y ds e =
    let h : w ≡ z = cc in
    elim (compared xs x cs ys y ds cc) [
      | same p q ↦ same (λ i. h i ∷ p i) q
      | before more p ↦ before more (λ i. h i ∷ p i)
      | after more p ↦ after more (λ i. (sym h) i ∷ p i)
    ]

-- the first fault is one, where each line has one at most
fault_one : (F : List (List ℕ) → List ℕ → Refusal → Type 0) (ls : List (List ℕ)) → ((before : List (List ℕ)) (line : List ℕ) (r q : Refusal) → F before line r → F before line q → r ≡ q) → (r q : Refusal) → FirstFault F ls r → FirstFault F ls q → r ≡ q
fault_one F ls one r q a b =
    elim (compared a.before a.line a.after b.before b.line b.after (a.splits ∙ sym b.splits)) [
      | same p e ↦ one b.before b.line r q (subst (λ (l : List ℕ). F b.before l r) e (subst (λ (ls : List (List ℕ)). F ls a.line r) p a.fault)) b.fault
      | before more p ↦ absurd (b.none_before.none a.before a.line more r p a.fault)
      | after more p ↦ absurd (a.none_before.none b.before b.line more q p b.fault)
    ]

module _ {K T : Type 0} (g : Format K T) (lawful : Lawful g) where
  own_one : (p : InputPlace) (line : List ℕ) (r q : Refusal) → FailsOwn g p line r → FailsOwn g p line q → r ≡ q
  own_one p line r q a b =
      let old : b.done ≡ a.done = files_one g lawful p.past b.done a.done b.said a.said in
      let one = says_one g lawful p.file p.before b.mine a.mine (Some b.known) (Some a.known) b.says a.says in
      let known : b.known ≡ a.known = same_known (Some b.known) b.known a.known refl one.1 in
      let item : b.item ≡ a.item =
      (lawful.exact p.file).one_item a.known (length p.before + 1) line b.item a.item (subst (λ (k : K). (g.language p.file).spells k (length p.before + 1) line b.item) known b.spells) a.spells in
      lawful.one_own p.file a.done a.mine a.item r q a.fails
      (subst (λ (x : T). g.rules.own p.file a.done a.mine x q) item (subst (λ (xs : List T). g.rules.own p.file a.done xs b.item q) one.0 (subst (λ (xss : List (List T)). g.rules.own p.file xss b.mine b.item q) old b.fails)))
    where
      same_known : (o : Option K) (x y : K) → o ≡ Some x → o ≡ Some y → x ≡ y
      same_known o x y e h = cc

  header_one : (p : InputPlace) (line : List ℕ) (r q : Refusal) → HasBadHeader g p line r → HasBadHeader g p line q → r ≡ q
  header_one p line r q a b = a.3 ∙ ap (BadLine p.file (length p.before + 1)) (lawful.one_header_column p.file line a.1 b.1 a.2 b.2) ∙ sym b.3

  column_one : (p : InputPlace) (line : List ℕ) (r q : Refusal) → HasBadColumn g p line r → HasBadColumn g p line q → r ≡ q
  column_one p line r q a b =
      let known : b.0 ≡ a.0 = same_known (Some b.0) b.0 a.0 refl (knows_one (g.language p.file) (lawful.exact p.file) (g.language p.file).begins (filled p.before) (Some b.0) (Some a.0) b.1 a.1) in
      a.4 ∙ ap (BadLine p.file (length p.before + 1)) (lawful.one_column p.file a.0 line a.2 b.2 a.3 (subst (λ (k : K). (g.language p.file).bad_line k line b.2) known b.3)) ∙ sym b.4
    where
      same_known : (o : Option K) (x y : K) → o ≡ Some x → o ≡ Some y → x ≡ y
      same_known o x y e h = cc

  line_ones : (p : InputPlace) (line : List ℕ) → Ones (line_checks g p line)
  line_ones p [] = ((λ r q a b. a.1 ∙ sym b.1), tt)
  line_ones p (c ∷ cs) = (
    (λ r q a b. a.1 ∙ sym b.1),
    (
      (λ r q a b. a.1 ∙ sym b.1),
      ((λ r q a b. a.1 ∙ sym b.1), (header_one p (c ∷ cs), (column_one p (c ∷ cs), ((λ r q a b. a.3 ∙ sym b.3), (own_one p (c ∷ cs), tt))))),
    ),
  )

  bare_one : (p : InputPlace) (whole : List ℕ) (r q : Refusal) → IsBare g p whole r → IsBare g p whole q → r ≡ q
  bare_one p whole r q a b =
      let items : a.0 ≡ b.0 = (says_one g lawful p.file (lines whole) a.0 b.0 (Some a.1.0) (Some b.1.0) a.1.1 b.1.1).0 in
      same_some (g.rules.bare p.file b.0) r q (subst (λ (xs : List T). g.rules.bare p.file xs ≡ Some r) items a.2) b.2
    where
      same_some : (o : Option Refusal) (r q : Refusal) → o ≡ Some r → o ≡ Some q → r ≡ q
      same_some o r q a b = cc

  file_ones : (p : InputPlace) (whole : List ℕ) → Ones (file_checks g p whole)
  file_ones p whole = (
    fault_one (LineFault g p) (lines whole) (λ before line r q a b. first_one (line_checks g (record p { before = before }) line) (line_ones (record p { before = before }) line) r q a b),
    ((λ r q a b. a.1 ∙ sym b.1), (bare_one p whole, tt)),
  )

  -- a file gives one refusal at most
  pub file_one : (p : InputPlace) (whole : List ℕ) (r q : Refusal) → FirstOf (file_checks g p whole) r → FirstOf (file_checks g p whole) q → r ≡ q
  file_one p whole = first_one (file_checks g p whole) (file_ones p whole)

  look_ones : (at : Before) (file : FileId) (role : Role) (held : Option (List ℕ)) → Ones (look_checks g at file role held)
  look_ones at file Needed None = ((λ r q a b. a ∙ sym b), tt)
  look_ones at file Needed (Some b) = file_ones (opening file at.bytes at.rows at.past b) b
  look_ones at file Further None = tt
  look_ones at file Further (Some b) = file_ones (opening file at.bytes at.rows at.past b) b
  look_ones at file (Beyond what) None = tt
  look_ones at file (Beyond what) (Some b) = ((λ r q a b. a ∙ sym b), tt)

  walk_ones : (at : Before) (ls : List Look) → Ones (walk_checks g at ls)
  walk_ones at [] = tt
  walk_ones at (l ∷ ls) = ones_append (look_checks g at l.file l.role l.held) (walk_checks g (after_look g at l.file l.role l.held) ls) (look_ones at l.file l.role l.held) (walk_ones (after_look g at l.file l.role l.held) ls)

  pub stage_one : OneRefusal g
  stage_one at held stage r q a b = first_one (stage_checks g at held stage) (walk_ones at (stage_looks held stage)) r q a b

  pub stage_or_not : RefusedOrNot g
  stage_or_not at held stage r a none = first_some (stage_checks g at held stage) r a none

-- the looks for a series read its files alone
beyond_same : (one other : Held) (s : Series) (i : ℕ) → one (file_at s i) ≡ other (file_at s i) → (what : Option Counted) → look_beyond one s i what ≡ look_beyond other s i what
beyond_same one other s i e None = refl
beyond_same one other s i e (Some what) = ap (λ (o : Option (List ℕ)). record { file = file_at s i; role = Beyond what; held = o } ∷ []) e

from_same : (one other : Held) (s : Series) → ((file : FileId) → file.kind ≡ s.kind → one file ≡ other file) → (n i : ℕ) (role : Role) → looks_from one s n i role ≡ looks_from other s n i role
unfolding looks_from
from_same one other s eq zero i role = beyond_same one other s i (eq (file_at s i) refl) s.what
from_same one other s eq (suc n) i role =
    let rest : looks_from one s n (i + 1) Further ≡ looks_from other s n (i + 1) Further = from_same one other s eq n (i + 1) Further in
    λ j. record { file = file_at s i; role = role; held = eq (file_at s i) refl j } ∷ (elim (eq (file_at s i) refl j) [ None ↦ [] | Some b ↦ rest j ])

series_same : (one other : Held) (s : Series) → ((file : FileId) → file.kind ≡ s.kind → one file ≡ other file) → series_looks one s ≡ series_looks other s
unfolding series_looks
series_same one other s eq = from_same one other s eq s.most 0 (first_role s.needed)

from_test : (a n : ℕ) → n ≤ a → ltb a n ≡ false
from_test a n h = grind (arith, Decides-ltb a n)

-- the files of one folder before a rank, and those of another from it on
abbrev pub merge : Held → Held → ℕ → Held
merge first second n = λ file. cond (ltb (ordinal file.kind) n) (first file) (second file)

pub stages_join : StagesJoin
stages_join contents folder first second n t u = (
  merge first second n,
  record {
    told = by_told contents t u;
    below = is_below;
    from = is_from;
  },
)
  where
    by_cases : (b : Bool) (x y z : Option (List ℕ)) → x ≡ z → y ≡ z → cond b x y ≡ z
    by_cases true x y z p q = p
    by_cases false x y z p q = q

    by_told : (c : Option Files) → IsHeldTold c folder first → IsHeldTold c folder second → IsHeldTold c folder (merge first second n)
    by_told None t u = tt
    by_told (Some files) t u = λ file. by_cases (ltb (ordinal file.kind) n) (first file) (second file) (held_in folder files file) (t file) (u file)

    is_below : (stage : List Series) → AreBelow n stage → stage_looks (merge first second n) stage ≡ stage_looks first stage
    is_below [] h = refl
    is_below (s ∷ ss) h =
        let one = series_same (merge first second n) first s (λ file e. ap (λ (b : Bool). cond b (first file) (second file)) (lt-ltb (ordinal file.kind) n (subst (λ k. ordinal k < n) (sym e) h.0))) in
        let rest = is_below ss h.1 in
        λ i. one i ++ rest i

    is_from : (stage : List Series) → AreFrom n stage → stage_looks (merge first second n) stage ≡ stage_looks second stage
    is_from [] h = refl
    is_from (s ∷ ss) h =
        let one = series_same (merge first second n) second s (λ file e. ap (λ (b : Bool). cond b (first file) (second file)) (from_test (ordinal file.kind) n (subst (λ k. n ≤ ordinal k) (sym e) h.0))) in
        let rest = is_from ss h.1 in
        λ i. one i ++ rest i
