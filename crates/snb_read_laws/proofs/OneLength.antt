-- There is one length of a shortest walk.
use Rattle.std.proofs.Common.{◌≡◌, ◌∙◌, ℕ, ℤ, pos, List, ap, arith, inl, inr, sym}
use Rattle.snb_schema.specs.declared.row.Row.{Row}
use Rattle.snb_read_model.specs.Distance.{IsDistance, IsLength}

one_distance : (g : List Row) (a b n m : ℕ) → IsDistance g a b n → IsDistance g a b m → n ≡ m
one_distance g a b n m f h =
    let low = f.least m h.walk in
    let high = h.least n f.walk in
    omega (arith, low, high)

pub one_length : (g : List Row) (a b : ℕ) (y z : ℤ) → IsLength g a b y → IsLength g a b z → y ≡ z
one_length g a b y z (inl (n, f, is)) (inl (m, h, also)) = is ∙ ap pos (one_distance g a b n m f h) ∙ sym also
one_length g a b y z (inl (n, f, is)) (inr (none, also)) = absurd (none n f.walk)
one_length g a b y z (inr (none, is)) (inl (m, h, also)) = absurd (none m h.walk)
one_length g a b y z (inr (none, is)) (inr (never, also)) = is ∙ sym also
