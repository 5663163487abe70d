-- A reply has no float, and nests five deep.
use Rattle.std.proofs.Common.{◌≡◌, ◌≤◌, ◌+◌, ℕ, List, [], ◌∷◌, map, false, refl, arith, ℤ, pos, negsuc}
use Rattle.serde_json.specs.Data.{Data, depth, items_depth, string}
use Rattle.serde_json.specs.Find.{is_float, of_integer}
use Rattle.serde_json.specs.View.{items_of}
use Rattle.serde_json.specs.Written.{has_float}
use Rattle.snb_validation.specs.ReplyData.{array_of, cell_data, reply_data, stay_data}
use Rattle.snb_read_model.specs.Cells.{ByteCell}
use Rattle.snb_read_model.specs.declared.cell.Cell.TheVariants as cell

none_float : {X : Type 0} (f : X → Data) → ((x : X) → has_float (f x) ≡ false) → (xs : List X) → has_float (array_of f xs) ≡ false
none_float f h [] = refl
none_float f h (x ∷ xs) = rw (h x) (none_float f h xs)

integer_plain : (z : ℤ) → is_float (of_integer z) ≡ false
integer_plain (pos n) = refl
integer_plain (negsuc n) = refl

cell_plain : (c : ByteCell) → has_float (cell_data c) ≡ false
cell_plain (cell.Number z) = integer_plain z
cell_plain (cell.Flag b) = refl
cell_plain (cell.Words t) = refl
cell_plain (cell.List ts) = none_float string (λ t. refl) ts
cell_plain (cell.Stays ss) = none_float stay_data (λ s. refl) ss

pub reply_plain : (r : List (List (List ByteCell))) → has_float (reply_data r) ≡ false
reply_plain = none_float (array_of (array_of cell_data)) (none_float (array_of cell_data) (none_float cell_data cell_plain))

low : {X : Type 0} (f : X → Data) (n : ℕ) → ((x : X) → depth (f x) ≤ n) → (xs : List X) → items_depth (items_of (map f xs)) ≤ n
low f n h [] = omega arith
low f n h (x ∷ xs) = omega (arith, h x, low f n h xs)

array_low : {X : Type 0} (f : X → Data) (n : ℕ) → ((x : X) → depth (f x) ≤ n) → (xs : List X) → depth (array_of f xs) ≤ n + 1
array_low f n h xs = omega (arith, low f n h xs)

stay_low : (s : List ℕ × ℕ × List ℕ) → depth (stay_data s) ≤ 1
stay_low s = omega arith

cell_low : (c : ByteCell) → depth (cell_data c) ≤ 2
cell_low (cell.Number z) = omega arith
cell_low (cell.Flag b) = omega arith
cell_low (cell.Words t) = omega arith
cell_low (cell.List ts) = omega (arith, array_low string 0 (λ t. omega arith) ts)
cell_low (cell.Stays ss) = array_low stay_data 1 stay_low ss

pub reply_low : (r : List (List (List ByteCell))) → depth (reply_data r) ≤ 5
reply_low = array_low (array_of (array_of cell_data)) 4 (array_low (array_of cell_data) 3 (array_low cell_data 2 cell_low))
