-- Texts, cells and stays that compare equal are equal.
use Rattle.std.proofs.Common.{◌≡◌, ◌∙◌, ℕ, ◌<◌, pos, List, [], ◌∷◌, refl, sym}
use Rattle.std.proofs.lemmas.Cmp.{back_total, by_ranked, int_cmp_total, nat_cmp_total, nat_list_cmp_total, on_total, ranked, then_total}
use Rattle.std.specs.Cmp.{IsTotalOrder}
use Rattle.std.specs.Cmp.Lexicographic.{slice_cmp}
use Rattle.std.specs.Ordering.{int_cmp, nat_cmp, ordering_then}
use Rattle.std.specs.declared.cmp.Ordering.TheVariants.{Equal}
use Rattle.snb_read_order.proofs.Laws.{int_nat}
use Rattle.snb_read_model.specs.declared.cell.Cell.TheVariants.{Words}
use Rattle.snb_read_model.specs.Cells.{ByteCell, cell_cmp, column, number_cell, number_in, text_in}
use Rattle.snb_read_model.specs.ComplexReads.{Stay, stay_cmp}
use Rattle.snb_read_model.specs.Order.{Falling, Rising, Way, by, way_cmp}
use Rattle.snb_base.proofs.Laws.{then_equal}

-- ---- the orders are total

cell_total : IsTotalOrder cell_cmp
cell_total = then_total (on_total number_in int_cmp_total) (on_total text_in nat_list_cmp_total)

way_total : (w : Way) → IsTotalOrder (way_cmp w)
way_total (Rising n) = on_total (column n) cell_total
way_total (Falling n) = back_total (on_total (column n) cell_total)

-- the order of any columns is a total one
pub by_total : (order : List Way) → IsTotalOrder (by order)
by_total [] = record { antisymm = λ x y. refl; trans = λ x y z e f. cc; congr = λ x y z e. refl }
by_total (w ∷ ws) = then_total (way_total w) (by_total ws)

pub stay_total : IsTotalOrder stay_cmp
stay_total = then_total (on_total (λ (s : Stay). s.0) nat_list_cmp_total) (then_total (on_total (λ (s : Stay). s.1) nat_cmp_total) (on_total (λ (s : Stay). s.2) nat_list_cmp_total))

-- ---- ties

equal_numbers : (x y : ℕ) → nat_cmp x y ≡ Equal → x ≡ y
equal_numbers x y e = by_ranked (x < y) (x ≡ y) (y < x) (nat_cmp x y) (ranked x y (nat_cmp x y) refl) (λ o l. cc) (λ o l. l) (λ o l. cc)

pub equal_texts : (s t : List ℕ) → slice_cmp nat_cmp s t ≡ Equal → s ≡ t
equal_texts [] [] e = refl
equal_texts [] (y ∷ t) e = cc
equal_texts (x ∷ s) [] e = cc
equal_texts (x ∷ s) (y ∷ t) e =
    let (first, later) = then_equal (nat_cmp x y) (slice_cmp nat_cmp s t) e in
    let here = equal_numbers x y first in
    let there = equal_texts s t later in
    λ i. here i ∷ there i

pub equal_stays : (s t : Stay) → stay_cmp s t ≡ Equal → s ≡ t
equal_stays s t e =
    let (names, rest) = then_equal (slice_cmp nat_cmp s.0 t.0) (ordering_then (nat_cmp s.1 t.1) (slice_cmp nat_cmp s.2 t.2)) e in
    let (years, places) = then_equal (nat_cmp s.1 t.1) (slice_cmp nat_cmp s.2 t.2) rest in
    let name = equal_texts s.0 t.0 names in
    let year = equal_numbers s.1 t.1 years in
    let place = equal_texts s.2 t.2 places in
    λ i. (name i, year i, place i)

number_tie : (m n : ℕ) → cell_cmp (number_cell m) (number_cell n) ≡ Equal → m ≡ n
number_tie m n e = equal_numbers m n (sym (int_nat m n) ∙ (then_equal (int_cmp (pos m) (pos n)) Equal e).0)

text_tie : (s t : List ℕ) → cell_cmp (Words s) (Words t) ≡ Equal → s ≡ t
text_tie s t e = equal_texts s t (then_equal (int_cmp (pos 0) (pos 0)) (slice_cmp nat_cmp s t) e).1

-- ---- columns that compare equal

module _ (k : ℕ) (a b : List ByteCell) (m n : ℕ) (left : column k a ≡ number_cell m) (right : column k b ≡ number_cell n) where
  pub rising : way_cmp (Rising k) a b ≡ Equal → m ≡ n
  rising e = number_tie m n ((λ i. cell_cmp (sym left i) (sym right i)) ∙ e)

  pub falling : way_cmp (Falling k) a b ≡ Equal → m ≡ n
  falling e = sym (number_tie n m ((λ i. cell_cmp (sym right i) (sym left i)) ∙ e))

pub falling_words : (k : ℕ) (a b : List ByteCell) (s t : List ℕ) → column k a ≡ Words s → column k b ≡ Words t → way_cmp (Falling k) a b ≡ Equal → s ≡ t
falling_words k a b s t left right e = sym (text_tie t s ((λ i. cell_cmp (sym right i) (sym left i)) ∙ e))

-- two columns of an order, and three
pub two_ties : (v w : Way) (a b : List ByteCell) → by (v ∷ w ∷ []) a b ≡ Equal → (way_cmp v a b ≡ Equal) × (way_cmp w a b ≡ Equal)
two_ties v w a b e =
    let (first, rest) = then_equal (way_cmp v a b) (by (w ∷ []) a b) e in
    let (second, none) = then_equal (way_cmp w a b) Equal rest in
    (first, second)

pub three_ties : (u v w : Way) (a b : List ByteCell) → by (u ∷ v ∷ w ∷ []) a b ≡ Equal → (way_cmp u a b ≡ Equal) × (way_cmp v a b ≡ Equal) × (way_cmp w a b ≡ Equal)
three_ties u v w a b e =
    let (first, rest) = then_equal (way_cmp u a b) (by (v ∷ w ∷ []) a b) e in
    let (second, third) = two_ties v w a b rest in
    (first, second, third)
