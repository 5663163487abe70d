-- Answers over small graphs.
use Rattle.std.proofs.Common.{◌≡◌, ℕ, zero, suc, ◌<◌, ◌==◌, ◌||◌, Bool, true, false, List, [], ◌∷◌, length, get_or, refl, ap, ◌∙◌, arith}
use Rattle.std.proofs.lemmas.Bool.{eq-eqb}
use Rattle.std.proofs.lemmas.List.Sorted.{IsPermutation-refl}
use Rattle.std.specs.List.{list_any}
use Rattle.snb_schema.specs.declared.row.Row.{Row}
use Rattle.snb_schema.specs.declared.table.Kind.TheVariants as kinds
use Rattle.snb_schema.specs.RowKeys.{node_key, row_key}
use Rattle.snb_graph_model.specs.Graphs.{HasKey}
use Rattle.snb_read_model.specs.Cells.{ByteCell}
use Rattle.snb_graph_model.specs.Around.{is_friend}
use Rattle.snb_read_model.specs.Distance.{IsPerson, FriendPath}
use Rattle.snb_read_model.specs.Order.{ReadAnswers, Cut, Way, cut_at}

module _ {X : Type 0} (counted : List X) (Shows : X → List ByteCell → Type 0) (order : List Way) (cut : Cut) where
  -- what shows one row
  pub one_row : (x : X) (a : List ByteCell) → counted ≡ x ∷ [] → Shows x a → a ∷ [] ≡ cut_at cut (a ∷ []) → ReadAnswers counted Shows order cut (a ∷ [])
  one_row x a is shows whole = record {
    rows = a ∷ [];
    shown = rw is (shows, tt);
    first = record { sorted = a ∷ []; same = IsPermutation-refl (a ∷ []); ordered = λ k d low high. absurd (omega arith); kept = whole };
  }

  -- what shows none
  pub no_row : counted ≡ [] → ◌≡◌ {A = List (List ByteCell)} [] (cut_at cut []) → ReadAnswers counted Shows order cut []
  no_row is whole = record {
    rows = [];
    shown = rw is tt;
    first = record { sorted = []; same = IsPermutation-refl []; ordered = λ k d low high. absurd (omega arith); kept = whole };
  }

module _ (g : List Row) where
  pub last_step : (a c n : ℕ) → FriendPath g a c n → (m : ℕ) → n ≡ suc m → (b : ℕ) × FriendPath g a b m × (is_friend g b c ≡ true)
  last_step _ _ _ (FriendPath.stay a is) m e = absurd (omega arith)
  last_step _ _ _ (FriendPath.step a b c n w f is) m e = let same : n ≡ m = omega arith in (b, rw same at w, f)

  pub no_step : (a c n : ℕ) → FriendPath g a c n → n ≡ 0 → a ≡ c
  no_step _ _ _ (FriendPath.stay a is) e = refl
  no_step _ _ _ (FriendPath.step a b c n w f is) e = absurd (omega arith)

  -- a walk ends at a person
  pub walk_end : (a c n : ℕ) → FriendPath g a c n → IsPerson g c
  walk_end _ _ _ (FriendPath.stay a is) = is
  walk_end _ _ _ (FriendPath.step a b c n w f is) = is

-- a test that an element passes
any_here : {X : Type 0} (test : X → Bool) (xs : List X) (x : X) (i : ℕ) → i < length xs → get_or xs i x ≡ x → test x ≡ true → list_any test xs ≡ true
any_here test [] x i small is h = absurd (omega arith)
any_here test (y ∷ ys) x zero small is h = rw (ap test is ∙ h) refl
any_here test (y ∷ ys) x (suc i) small is h = or_right (test y) _ (any_here test ys x i (omega arith) is h)
  where
    or_right : (a b : Bool) → b ≡ true → (a || b) ≡ true
    or_right true b e = refl
    or_right false b e = e

-- an id that no row has
pub no_row_has : (g : List Row) (id : ℕ) → list_any (λ r. (row_key r).1 == id) g ≡ false → HasKey g (node_key kinds.Person id) → ⊥
no_row_has g id none has =
    let some = any_here (λ r. (row_key r).1 == id) g has.it has.held.0 has.held.1 has.held.2 (eq-eqb _ _ (ap (λ k. k.1) has.keyed)) in
    cc
