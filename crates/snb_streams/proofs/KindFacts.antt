-- The insert that the third field names.
use Rattle.std.proofs.Common.{◌≡◌, ◌≢◌, ◌<◌, ◌≤◌, ◌∙◌, ℕ, zero, suc, List, [], ◌∷◌, length, get_or, refl, sym, ap, subst, arith}
use Rattle.std.specs.Prelude.{Contains, Option, Some, None}
use Rattle.std.specs.Borrow.{Bor}
use Rattle.std.specs.Option.{MatchOption, option_map}
use Rattle.snb_input_lines.specs.Records.{field_at}
use Rattle.snb_base.specs.Spellings.{Num}
use Rattle.snb_schema.specs.declared.op.Op.{Op}
use Rattle.snb_schema.specs.declared.op.InsertKind.{InsertKind}
use Rattle.snb_schema.specs.declared.op.InsertKind.TheVariants as kinds
use Rattle.snb_schema.specs.Columns.{SpellsAll}
use Rattle.snb_schema.specs.UpdateLines.{NamesInsert}
use Rattle.snb_schema.specs.InsertLines.{kind_number, kind_of, line_columns, line_values}

-- two kinds have two numbers
pub one_kind : (a b : InsertKind) → kind_number a ≡ kind_number b → a ≡ b
one_kind kinds.AddPerson kinds.AddPerson e = refl
one_kind kinds.LikePost kinds.LikePost e = refl
one_kind kinds.LikeComment kinds.LikeComment e = refl
one_kind kinds.AddForum kinds.AddForum e = refl
one_kind kinds.AddMember kinds.AddMember e = refl
one_kind kinds.AddPost kinds.AddPost e = refl
one_kind kinds.AddComment kinds.AddComment e = refl
one_kind kinds.AddFriend kinds.AddFriend e = refl
one_kind a b e = absurd cc

-- a text names one kind at most
pub one_name : (x : List ℕ) (a b : InsertKind) → Num x (kind_number a) (kind_number a) → Num x (kind_number b) (kind_number b) → a ≡ b
one_name x a b s t = one_kind a b (s.value ∙ sym t.value)

-- and so do fields
pub one_named : (allowed : List InsertKind) (fs : List (List ℕ)) (a b : InsertKind) → NamesInsert allowed fs a → NamesInsert allowed fs b → a ≡ b
one_named allowed [] a b s t = absurd s
one_named allowed (t₁ ∷ []) a b s t = absurd s
one_named allowed (t₁ ∷ t₂ ∷ []) a b s t = absurd s
one_named allowed (t₁ ∷ t₂ ∷ x ∷ fs) a b s t = one_name x a b s.1 t.1

-- fields that name a kind are three at least
pub named_long : (allowed : List InsertKind) (fs : List (List ℕ)) (kind : InsertKind) → NamesInsert allowed fs kind → 3 ≤ length fs
named_long allowed [] kind s = absurd s
named_long allowed (t₁ ∷ []) kind s = absurd s
named_long allowed (t₁ ∷ t₂ ∷ []) kind s = absurd s
named_long allowed (t₁ ∷ t₂ ∷ x ∷ fs) kind s = omega arith

-- fields that spell an insert name its kind
pub spelled_names : (allowed : List InsertKind) (fs : List (List ℕ)) (t t_d : ℕ) (op : Op) → Contains allowed (kind_of op) → SpellsAll (line_columns (kind_of op)) fs (line_values t t_d op) → NamesInsert allowed fs (kind_of op)
spelled_names allowed [] t t_d op h s = absurd s
spelled_names allowed (t₁ ∷ []) t t_d op h s = absurd s.1
spelled_names allowed (t₁ ∷ t₂ ∷ []) t t_d op h s = absurd s.1.1
spelled_names allowed (t₁ ∷ t₂ ∷ x ∷ fs) t t_d op h s = (h, s.1.1.0)

-- a kind's number is at most 8
kind_low : (kind : InsertKind) → kind_number kind ≤ 8
kind_low kinds.AddPerson = omega arith
kind_low kinds.LikePost = omega arith
kind_low kinds.LikeComment = omega arith
kind_low kinds.AddForum = omega arith
kind_low kinds.AddMember = omega arith
kind_low kinds.AddPost = omega arith
kind_low kinds.AddComment = omega arith
kind_low kinds.AddFriend = omega arith

-- the number of a kind is a number of at most 8
wide_number : (x : List ℕ) (kind : InsertKind) → Num x (kind_number kind) (kind_number kind) → Num x (kind_number kind) 8
wide_number x kind n = record { digits = n.digits; some = n.some; few = n.few; no_lead = n.no_lead; value = n.value; small = kind_low kind }

-- a text that is no number of at most 8 is no kind's
pub no_number : (x : List ℕ) (allowed : List InsertKind) → ((n : ℕ) → ¬ Num x n 8) → (kind : InsertKind) → Contains allowed kind → ¬ Num x (kind_number kind) (kind_number kind)
no_number x allowed none kind h n = none (kind_number kind) (wide_number x kind n)

-- the kind of a number is that of its text
pub named_number : (x : List ℕ) (n : ℕ) (allowed : List InsertKind) (found : Option InsertKind) → Num x n 8
    → MatchOption found ((kind : InsertKind) → Contains allowed kind → kind_number kind ≢ n) (λ kind. Contains allowed kind × (kind_number kind ≡ n))
    → MatchOption found ((kind : InsertKind) → Contains allowed kind → ¬ Num x (kind_number kind) (kind_number kind)) (λ kind. Contains allowed kind × Num x (kind_number kind) (kind_number kind))
named_number x n allowed (Some kind) s found = (found.0, record { digits = s.digits; some = s.some; few = s.few; no_lead = s.no_lead; value = found.1 ∙ s.value; small = omega arith })
named_number x n allowed None s none = λ kind h own. none kind h (own.value ∙ sym s.value)

-- what is at a place is there
place_there : (fs : List (List ℕ)) (k : ℕ) (y : List ℕ) → field_at fs k ≡ Some y → (k < length fs) × (y ≡ get_or fs k [])
unfolding field_at
place_there [] k y e = absurd cc
place_there (x ∷ fs) zero y e = (omega arith, cc)
place_there (x ∷ fs) (suc k) y e = (let more = place_there fs k y e in let l = more.0 in (omega arith, more.1))

-- and where nothing is there are no more
place_none : (fs : List (List ℕ)) (k : ℕ) → field_at fs k ≡ None → length fs ≤ k
unfolding field_at
place_none [] k e = omega arith
place_none (x ∷ fs) zero e = absurd cc
place_none (x ∷ fs) (suc k) e = (let l = place_none fs k e in omega arith)

-- a field that is there
pub field_there : (o : Option (Bor (List ℕ))) (x : Bor (List ℕ)) (fs : List (List ℕ)) (k : ℕ) → option_map (λ (s : Bor (List ℕ)). s.now) o ≡ field_at fs k → o ≡ Some x → (k < length fs) × (x.now ≡ get_or fs k [])
field_there o x fs k e is = place_there fs k x.now (sym e ∙ ap (option_map (λ (s : Bor (List ℕ)). s.now)) is)

-- and one that isn't
pub field_none : (o : Option (Bor (List ℕ))) (fs : List (List ℕ)) (k : ℕ) → option_map (λ (s : Bor (List ℕ)). s.now) o ≡ field_at fs k → o ≡ None → length fs ≤ k
field_none o fs k e is = place_none fs k (sym e ∙ ap (option_map (λ (s : Bor (List ℕ)). s.now)) is)

-- the kind whose number is the third field
pub third_named : (allowed : List InsertKind) (fs : List (List ℕ)) (x : List ℕ) (kind : InsertKind) → 2 < length fs → x ≡ get_or fs 2 [] → Contains allowed kind × Num x (kind_number kind) (kind_number kind) → NamesInsert allowed fs kind
third_named allowed [] x kind l e s = absurd (omega (arith, l))
third_named allowed (t₁ ∷ []) x kind l e s = absurd (omega (arith, l))
third_named allowed (t₁ ∷ t₂ ∷ []) x kind l e s = absurd (omega (arith, l))
third_named allowed (t₁ ∷ t₂ ∷ y ∷ fs) x kind l e s = (s.0, subst (λ (z : List ℕ). Num z (kind_number kind) (kind_number kind)) e s.1)

-- the third field is no kind's number
pub third_unnamed : (allowed : List InsertKind) (fs : List (List ℕ)) (x : List ℕ) → x ≡ get_or fs 2 [] → ((kind : InsertKind) → Contains allowed kind → ¬ Num x (kind_number kind) (kind_number kind)) → (kind : InsertKind) → ¬ NamesInsert allowed fs kind
third_unnamed allowed [] x e none kind s = s
third_unnamed allowed (t₁ ∷ []) x e none kind s = s
third_unnamed allowed (t₁ ∷ t₂ ∷ []) x e none kind s = s
third_unnamed allowed (t₁ ∷ t₂ ∷ y ∷ fs) x e none kind s = none kind s.0 (subst (λ (z : List ℕ). Num z (kind_number kind) (kind_number kind)) (sym e) s.1)

-- a kind that is named is one of those
pub third_names : (allowed : List InsertKind) (fs : List (List ℕ)) (kind : InsertKind) → NamesInsert allowed fs kind → Contains allowed kind
third_names allowed [] kind s = absurd s
third_names allowed (t₁ ∷ []) kind s = absurd s
third_names allowed (t₁ ∷ t₂ ∷ []) kind s = absurd s
third_names allowed (t₁ ∷ t₂ ∷ x ∷ fs) kind s = s.0

-- the third field of an insert is its kind's number
pub third_field : (fs : List (List ℕ)) (t t_d : ℕ) (op : Op) → SpellsAll (line_columns (kind_of op)) fs (line_values t t_d op) → Num (get_or fs 2 []) (kind_number (kind_of op)) (kind_number (kind_of op))
third_field [] t t_d op s = absurd s
third_field (t₁ ∷ []) t t_d op s = absurd s.1
third_field (t₁ ∷ t₂ ∷ []) t t_d op s = absurd s.1.1
third_field (t₁ ∷ t₂ ∷ x ∷ fs) t t_d op s = s.1.1.0

-- the third field of fields that name a kind is its number
pub third_of : (allowed : List InsertKind) (fs : List (List ℕ)) (kind : InsertKind) → NamesInsert allowed fs kind → Num (get_or fs 2 []) (kind_number kind) (kind_number kind)
third_of allowed [] kind s = absurd s
third_of allowed (t₁ ∷ []) kind s = absurd s
third_of allowed (t₁ ∷ t₂ ∷ []) kind s = absurd s
third_of allowed (t₁ ∷ t₂ ∷ x ∷ fs) kind s = s.1
