-- Fields that spell the numbers of columns.
use Rattle.std.proofs.Common.{◌≡◌, ◌∙◌, ◌+◌, ◌<◌, ◌≤◌, ◌⊎◌, ℕ, zero, suc, List, [], ◌∷◌, ◌++◌, Some, None, length, take, drop, get_or, refl, sym, ap, subst, inl, inr, arith}
use Rattle.snb_schema.specs.UpdateLines.{field}
use Rattle.snb_input_lines.specs.Records.{field_at}
use Rattle.snb_runlog.specs.Columns.{AreWithin}
use Rattle.snb_runlog.specs.Lines.{AreNumbers, IsNumber, NumbersStopAfter}
use Rattle.snb_runlog.proofs.NumberFacts.{column_found, one_number}

-- the field at a place is the one there
pub is_at : (xs : List (List ℕ)) (i : ℕ) (x : List ℕ) → field_at xs i ≡ Some x → x ≡ field i xs
unfolding field_at
is_at [] i x e = cc
is_at (y ∷ xs) zero x e = cc
is_at (y ∷ xs) (suc i) x e = is_at xs i x e

-- where none is there, the empty one is meant
pub is_none_at : (xs : List (List ℕ)) (i : ℕ) → field_at xs i ≡ None → [] ≡ field i xs
unfolding field_at
is_none_at [] i e = cc
is_none_at (y ∷ xs) zero e = cc
is_none_at (y ∷ xs) (suc i) e = is_none_at xs i e

-- the fields after the first so many, by their places
pub after_some : (xs : List (List ℕ)) (k i : ℕ) → field_at xs (k + i) ≡ field_at (drop k xs) i
unfolding field_at
after_some xs zero i = (let none : 0 + i ≡ i = omega arith in ap (field_at xs) none)
after_some [] (suc k) i = refl
after_some (x ∷ xs) (suc k) i = (let one : suc k + i ≡ suc (k + i) = omega arith in ap (field_at (x ∷ xs)) one ∙ after_some xs k i)

-- so many fields are one and the others
pub others_long : (fs : List (List ℕ)) (k : ℕ) → length fs ≡ k + 1 → length (drop 1 fs) ≡ k
others_long [] k e = absurd (omega (arith, e))
others_long (f ∷ fs) k e = omega (arith, e)

-- or two and the others
pub after_two_long : (fs : List (List ℕ)) (k : ℕ) → length fs ≡ suc k + 1 → length (drop 2 fs) ≡ k
after_two_long [] k e = absurd (omega (arith, e))
after_two_long (f ∷ []) k e = absurd (omega (arith, e))
after_two_long (f ∷ g ∷ fs) k e = omega (arith, e)

-- and back, where the first has a byte
pub all_long : (fs : List (List ℕ)) (k b : ℕ) (bs : List ℕ) → field 0 fs ≡ b ∷ bs → length (drop 1 fs) ≡ k → length fs ≡ k + 1
all_long [] k b bs some e = absurd cc
all_long (f ∷ fs) k b bs some e = omega (arith, e)

-- fields that spell numbers are as many as their columns
pub numbers_long : (cs : List (ℕ × ℕ)) (xs : List (List ℕ)) (ns : List ℕ) → AreNumbers cs xs ns → length xs ≡ length cs
numbers_long [] [] [] s = refl
numbers_long (c ∷ cs) (x ∷ xs) (n ∷ ns) s = ap suc (numbers_long cs xs ns s.1)
numbers_long cs xs ns s = absurd s

-- they spell one list of numbers
pub one_list : (cs : List (ℕ × ℕ)) (xs : List (List ℕ)) (ns ms : List ℕ) → AreNumbers cs xs ns → AreNumbers cs xs ms → ns ≡ ms
one_list [] [] [] [] s t = refl
one_list (c ∷ cs) (x ∷ xs) (n ∷ ns) (m ∷ ms) s t =
    let first = one_number c x n m s.0 t.0 in
    let rest = one_list cs xs ns ms s.1 t.1 in
    λ i. first i ∷ rest i
one_list [] [] [] (m ∷ ms) s t = absurd t
one_list (c ∷ cs) (x ∷ xs) (n ∷ ns) [] s t = absurd t
one_list cs xs ns ms s t = absurd s

-- the first of them is that of the second field, and the others follow
pub second_number : (fs : List (List ℕ)) (c : ℕ × ℕ) (cs : List (ℕ × ℕ)) (n : ℕ) (ns : List ℕ) → AreNumbers (c ∷ cs) (drop 1 fs) (n ∷ ns) → IsNumber c (field 1 fs) n × AreNumbers cs (drop 2 fs) ns
second_number [] c cs n ns s = absurd s
second_number (f ∷ []) c cs n ns s = absurd s
second_number (f ∷ g ∷ fs) c cs n ns s = (s.0, s.1)

-- and back
pub from_second : (fs : List (List ℕ)) (c : ℕ × ℕ) (cs : List (ℕ × ℕ)) (n : ℕ) (ns : List ℕ) → 2 ≤ length fs → IsNumber c (field 1 fs) n → AreNumbers cs (drop 2 fs) ns → AreNumbers (c ∷ cs) (drop 1 fs) (n ∷ ns)
from_second [] c cs n ns l s t = absurd (omega (arith, l))
from_second (f ∷ []) c cs n ns l s t = absurd (omega (arith, l))
from_second (f ∷ g ∷ fs) c cs n ns l s t = (s, t)

-- which are within the columns
pub numbers_within : (cs : List (ℕ × ℕ)) (xs : List (List ℕ)) (ns : List ℕ) → AreNumbers cs xs ns → AreWithin cs ns
numbers_within [] [] [] s = tt
numbers_within (c ∷ cs) (x ∷ xs) (n ∷ ns) s = (s.0.1, s.0.0.small, numbers_within cs xs ns s.1)
numbers_within cs xs ns s = absurd s

-- they stop nowhere
pub no_stop : (cs : List (ℕ × ℕ)) (xs : List (List ℕ)) (ns : List ℕ) → AreNumbers cs xs ns → (k : ℕ) → ¬ NumbersStopAfter cs xs k
no_stop [] xs ns s k t = t
no_stop (c ∷ cs) [] ns s k t = t
no_stop (c ∷ cs) (x ∷ xs) [] s k t = s
no_stop (c ∷ cs) (x ∷ xs) (n ∷ ns) s zero t = t n s.0
no_stop (c ∷ cs) (x ∷ xs) (n ∷ ns) s (suc k) t = no_stop cs xs ns s.1 k t.1

-- fields stop at one place at most
pub one_stop : (cs : List (ℕ × ℕ)) (xs : List (List ℕ)) (m n : ℕ) → NumbersStopAfter cs xs m → NumbersStopAfter cs xs n → m ≡ n
one_stop (c ∷ cs) (x ∷ xs) zero zero s t = refl
one_stop (c ∷ cs) (x ∷ xs) zero (suc n) s t = absurd (s t.0.0 t.0.1)
one_stop (c ∷ cs) (x ∷ xs) (suc m) zero s t = absurd (t s.0.0 s.0.1)
one_stop (c ∷ cs) (x ∷ xs) (suc m) (suc n) s t = ap suc (one_stop cs xs m n s.1 t.1)
one_stop cs xs m n s t = absurd s

-- as many fields as columns spell numbers, or stop
pub numbers_or_stop : (cs : List (ℕ × ℕ)) (xs : List (List ℕ)) → length xs ≡ length cs → ((ns : List ℕ) × AreNumbers cs xs ns) ⊎ ((k : ℕ) × NumbersStopAfter cs xs k)
numbers_or_stop [] [] e = inl ([], tt)
numbers_or_stop [] (x ∷ xs) e = absurd (omega (arith, e))
numbers_or_stop (c ∷ cs) [] e = absurd (omega (arith, e))
numbers_or_stop (c ∷ cs) (x ∷ xs) e = elim (column_found c x) [
  | inl n ↦ elim (numbers_or_stop cs xs (omega (arith, e))) [
    | inl rest ↦ inl (n.0 ∷ rest.0, (n.1, rest.1))
    | inr stop ↦ inr (suc stop.0, (n, stop.1))
  ]
  | inr never ↦ inr (zero, never)
]

-- one field more is spelled
pub numbers_push : (i : ℕ) (cs : List (ℕ × ℕ)) (xs : List (List ℕ)) (ns : List ℕ) (d : ℕ × ℕ) (x : List ℕ) (n : ℕ) → i < length cs → field_at xs i ≡ Some x → AreNumbers (take i cs) (take i xs) ns
    → IsNumber (get_or cs i d) x n → AreNumbers (take (suc i) cs) (take (suc i) xs) (ns ++ n ∷ [])
unfolding field_at
numbers_push i [] xs ns d x n l f s h = absurd (omega (arith, l))
numbers_push i (c ∷ cs) [] ns d x n l f s h = absurd cc
numbers_push zero (c ∷ cs) (y ∷ xs) [] d x n l f s h = (let same : y ≡ x = cc in (subst (λ (z : List ℕ). IsNumber c z n) (sym same) h, tt))
numbers_push zero (c ∷ cs) (y ∷ xs) (m ∷ ns) d x n l f s h = absurd s
numbers_push (suc i) (c ∷ cs) (y ∷ xs) [] d x n l f s h = absurd s
numbers_push (suc i) (c ∷ cs) (y ∷ xs) (m ∷ ns) d x n l f s h = (s.0, numbers_push i cs xs ns d x n (omega (arith, l)) f s.1 h)

-- the next field spells nothing
pub stops_here : (i : ℕ) (cs : List (ℕ × ℕ)) (xs : List (List ℕ)) (ns : List ℕ) (d : ℕ × ℕ) (x : List ℕ) → i < length cs → field_at xs i ≡ Some x → AreNumbers (take i cs) (take i xs) ns
    → ((n : ℕ) → ¬ IsNumber (get_or cs i d) x n) → NumbersStopAfter cs xs i
unfolding field_at
stops_here i [] xs ns d x l f s h = absurd (omega (arith, l))
stops_here i (c ∷ cs) [] ns d x l f s h = absurd cc
stops_here zero (c ∷ cs) (y ∷ xs) ns d x l f s h = λ n k. (let same : y ≡ x = cc in h n (subst (λ (z : List ℕ). IsNumber c z n) same k))
stops_here (suc i) (c ∷ cs) (y ∷ xs) [] d x l f s h = absurd s
stops_here (suc i) (c ∷ cs) (y ∷ xs) (m ∷ ns) d x l f s h = ((m, s.0), stops_here i cs xs ns d x (omega (arith, l)) f s.1 h)
