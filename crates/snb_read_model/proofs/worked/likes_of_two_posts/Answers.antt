use Rattle.std.proofs.Common.{zero, suc, List, [], ◌∷◌, refl, arith}
use Rattle.std.specs.List.Sorted.{IsSorted}
use Rattle.snb_read_model.specs.Cells.{ByteCell}
use Rattle.snb_read_model.specs.Order.{Falling, Rising, by}
use Rattle.snb_read_model.specs.Worked.{like_of_bob, like_of_cy, like_of_di}
use Rattle.snb_read_model.proofs.worked.likes_of_two_posts.Goals as goal

abbrev three : List (List ByteCell)
three = like_of_cy ∷ like_of_bob ∷ like_of_di ∷ []

in_turn : IsSorted (by (Falling 4 ∷ Rising 1 ∷ [])) three
in_turn zero d low high = refl
in_turn (suc zero) d low high = refl
in_turn (suc (suc k)) d low high = absurd (omega arith)

pub returns : goal.returns
returns c = record {
  rows = like_of_bob ∷ like_of_di ∷ like_of_cy ∷ [];
  shown = (record { person = _; held = refl; message = _; sent = refl; is = refl }, (record { person = _; held = refl; message = _; sent = refl; is = refl }, (record { person = _; held = refl; message = _; sent = refl; is = refl }, tt)));
  first = record {
    sorted = like_of_cy ∷ like_of_bob ∷ like_of_di ∷ [];
    same = record { moves = (1, 2) ∷ (0, 2) ∷ []; below = (omega arith, omega arith, (omega arith, omega arith, tt)); is = refl };
    ordered = in_turn;
    kept = refl;
  };
}
