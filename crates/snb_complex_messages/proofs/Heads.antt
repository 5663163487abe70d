-- The best of a person's likes, where they are sorted: the first of each person beats all that are beaten.
use Rattle.std.proofs.Common.{◌≡◌, ◌⊎◌, ℕ, zero, suc, ◌+◌, ◌<◌, ◌≤◌, ap, inl, inr, ◌==◌, ◌&&◌, ◌||◌, nat_lt, not, Bool, true, false, cond, List, [], ◌∷◌, ◌++◌, Some, length, get_or, take, refl, sym, ◌∙◌, subst, arith}
use Rattle.std.proofs.lemmas.Bool.{cases_lt, eq-eqb, eqb-true}
use Rattle.std.proofs.lemmas.Bool.Decides.{nat_tests}
use Rattle.std.proofs.lemmas.Cmp.{back_total, nat_cmp_total, on_total, then_total}
use Rattle.std.proofs.lemmas.List.{take_more}
use Rattle.std.proofs.lemmas.List.Folds.{list_any-from_Any}
use Rattle.std.proofs.lemmas.List.Sorted.{ranks_by, sorted_far}
use Rattle.std.specs.Cmp.{IsTotalOrder}
use Rattle.std.specs.List.{All, filter, list_any, slice_get}
use Rattle.std.specs.List.Sorted.{IsSorted}
use Rattle.std.specs.Ordering.{is_lt, nat_cmp, ordering_then}
use Rattle.snb_read_model.specs.declared.like.Like.{Like}
use Rattle.snb_read_model.specs.MessageReads.{beats}
use Rattle.snb_read_lookups.proofs.Laws.{filter_push}
use Rattle.snb_complex_messages.specs.Found.{weigh}

-- of a list, an element that no other of its person stands before
pub record IsHead (s : List Like) (h : Like) : Type 0 where
  pub place : ℕ
  pub low : place < length s
  pub here : (d : Like) → get_or s place d ≡ h
  pub least : All (λ k. k.person ≡ h.person → is_lt (weigh k h) ≡ false) s

-- in numbers: whom k beats, h beats too, where k isn't before h
beaten_too : (p d m p' d' m' p'' d'' m'' : ℕ) → p ≡ p'' → is_lt (ordering_then (nat_cmp p p'') (ordering_then (nat_cmp d'' d) (nat_cmp m m''))) ≡ false
    → ((p == p') && (nat_lt d' d || ((d' == d) && nat_lt m m'))) ≡ true → ((p'' == p') && (nat_lt d' d'' || ((d' == d'') && nat_lt m'' m'))) ≡ true
beaten_too p d m p' d' m' p'' d'' m'' same later wins = grind (arith, nat_tests)

own : (p q : ℕ) (b : Bool) → ((p == q) && b) ≡ true → p ≡ q
own p q b e = grind (arith, nat_tests)

none_any : {X : Type 0} (test : X → Bool) (xs : List X) → All (λ x. test x ≡ false) xs → list_any test xs ≡ false
none_any test [] all = refl
none_any test (x ∷ xs) all =
    let first : test x ≡ false = all 0 x (omega arith) in
    rw first (none_any test xs (λ k d low. all (suc k) d (omega arith)))

-- a like is beaten by some like exactly where the head of its person beats it
best_by_head : (s : List Like) (h l : Like) → IsHead s h → h.person ≡ l.person → list_any (λ k. beats k l) s ≡ beats h l
best_by_head s h l head same = by_test (beats h l) refl
  where
    other : beats h l ≡ false → (k : ℕ) (d : Like) → k < length s → (b : Bool) → beats (get_or s k d) l ≡ b → b ≡ false
    other none k d low false e = refl
    other none k d low true e =
        let x = get_or s k d in
        let person : x.person ≡ h.person = own x.person l.person _ e ∙ sym same in
        let wins = beaten_too x.person x.date x.message l.person l.date l.message h.person h.date h.message person (head.least k d low person) e in
        let both : beats h l ≡ true = wins in
        cc

    by_test : (b : Bool) → beats h l ≡ b → list_any (λ k. beats k l) s ≡ b
    by_test true e = list_any-from_Any (λ k. beats k l) s (head.place, h, head.low, head.here h, e)
    by_test false e = none_any (λ k. beats k l) s (λ k d low. other e k d low (beats (get_or s k d) l) refl)

pub weigh_total : IsTotalOrder weigh
weigh_total = then_total (on_total (λ (l : Like). l.person) nat_cmp_total) (then_total (back_total (on_total (λ (l : Like). l.date) nat_cmp_total)) (on_total (λ (l : Like). l.message) nat_cmp_total))

-- in numbers: who isn't before another has no lower person
person_low : (p d m p' d' m' : ℕ) → is_lt (ordering_then (nat_cmp p p') (ordering_then (nat_cmp d' d) (nat_cmp m m'))) ≡ false → p' ≤ p
person_low p d m p' d' m' later = grind (arith, nat_tests)

-- in a sorted list the first like of a person is the head
pub first_is_head : (s : List Like) (i : ℕ) (l : Like) → IsSorted weigh s → i < length s → ((d : Like) → get_or s i d ≡ l) → ((j : ℕ) (d : Like) → i ≡ suc j → (get_or s j d).person ≡ l.person → ⊥) → IsHead s l
first_is_head s i l up small here new = record { place = i; low = small; here = here; least = λ k d low same. by_place i refl k d low same (cases_lt k i) }
  where
    by_place : (j : ℕ) → i ≡ j → (k : ℕ) (d : Like) → k < length s → (get_or s k d).person ≡ l.person → (k < i) ⊎ (i ≤ k) → is_lt (weigh (get_or s k d) l) ≡ false
    by_place j at k d low same (inr after) = rw (← here d) (sorted_far (λ a b. is_lt (weigh a b)) (ranks_by weigh_total (λ a. a)) s up i k d after low)
    by_place zero at k d low same (inl before) = absurd (omega (arith, at, before))
    by_place (suc j) at k d low same (inl before) =
        let x = get_or s k d in
        let y = get_or s j d in
        let far = sorted_far (λ a b. is_lt (weigh a b)) (ranks_by weigh_total (λ a. a)) s up k j d (omega (arith, at, before)) (omega (arith, at, small)) in
        let near = sorted_far (λ a b. is_lt (weigh a b)) (ranks_by weigh_total (λ a. a)) s up j i d (omega (arith, at)) small in
        let one = person_low y.person y.date y.message x.person x.date x.message far in
        let z = get_or s i d in
        let two = person_low z.person z.date z.message y.person y.date y.message near in
        let mine : z.person ≡ l.person = ap (λ (a : Like). a.person) (here d) in
        absurd (new j d at (omega (arith, one, two, mine, same)))

-- ---- the loop that keeps the first at hand

-- before an item: the head is that of the item before, and the best so far are found
pub record IsChoosing (s : List Like) (i : ℕ) (head : Like) (best : List Like) : Type 0 where
  pub head_is : IsHead s head
  pub before : (j : ℕ) (d : Like) → i ≡ suc j → (get_or s j d).person ≡ head.person
  pub kept : best ≡ filter (λ l. not (list_any (λ k. beats k l) s)) (take i s)

-- the first item, by the option that has it
pub first_item : (s : List Like) (h : Like) → Some h ≡ slice_get s 0 → (0 < length s) × ((d : Like) → get_or s 0 d ≡ h)
first_item [] h e = absurd cc
first_item (x ∷ xs) h e = (omega arith, λ d. (let same : x ≡ h = cc in same))

-- the first item is a head
pub begins : (s : List Like) (h : Like) (best : List Like) → IsSorted weigh s → 0 < length s → ((d : Like) → get_or s 0 d ≡ h) → best ≡ [] → IsChoosing s 0 h best
begins s h best up some here none = record {
  head_is = first_is_head s 0 h up some here (λ j d e same. omega (arith, e));
  before = λ j d e. absurd (omega (arith, e));
  kept = none;
}

module _ (s : List Like) (i : ℕ) (head l : Like) (best : List Like) (up : IsSorted weigh s) (small : i < length s) (here : (d : Like) → get_or s i d ≡ l) (is : IsChoosing s i head best) where
  -- the head of the item's person
  next_head : (b : Bool) → (head.person == l.person) ≡ b → IsHead s (cond b head l) × ((cond b head l).person ≡ l.person)
  next_head true e = (is.head_is, eqb-true head.person l.person e)
  next_head false e = (
    first_is_head s i l up small here (λ j d at same. (let other : true ≡ false = sym (eq-eqb head.person l.person (sym (is.before j d at) ∙ same)) ∙ e in cc)),
    refl,
  )

  beaten_is : (next : Like) → next ≡ cond (head.person == l.person) head l → IsHead s next × (next.person ≡ l.person) × (list_any (λ k. beats k l) s ≡ beats next l)
  beaten_is next e =
      let (h, same) = next_head (head.person == l.person) refl in
      let found : IsHead s next = subst (IsHead s) (sym e) h in
      let mine : next.person ≡ l.person = ap (λ (a : Like). a.person) e ∙ same in
      (found, mine, best_by_head s next l found mine)

  here_before : (next : Like) → next.person ≡ l.person → (j : ℕ) (d : Like) → i + 1 ≡ suc j → (get_or s j d).person ≡ next.person
  here_before next mine j d at =
      let same : i ≡ j = omega (arith, at) in
      ap (λ n. (get_or s n d).person) (sym same) ∙ ap (λ (a : Like). a.person) (here d) ∙ sym mine

  step_kept : (b : Bool) → list_any (λ k. beats k l) s ≡ b → filter (λ x. not (list_any (λ k. beats k x) s)) (take (i + 1) s) ≡ best ++ cond (not b) (l ∷ []) []
  step_kept b e =
      ap (λ xs. filter (λ x. not (list_any (λ k. beats k x) s)) xs) (take_more s i l small ∙ ap (λ x. take i s ++ x ∷ []) (here l))
      ∙ filter_push (λ x. not (list_any (λ k. beats k x) s)) (take i s) l (not b) (ap not e) ∙ ap (λ xs. xs ++ cond (not b) (l ∷ []) []) (sym is.kept)

  -- an item that its head doesn't stand before is kept, and another isn't
  pub next_kept : (next : Like) (new : List Like) → next ≡ cond (head.person == l.person) head l → beats next l ≡ false → new ≡ best ++ l ∷ [] → IsChoosing s (i + 1) next new
  next_kept next new e test push =
      let (found, mine, beaten) = beaten_is next e in
      record { head_is = found; before = here_before next mine; kept = push ∙ sym (step_kept false (beaten ∙ test)) }

  pub next_left : (next : Like) → next ≡ cond (head.person == l.person) head l → beats next l ≡ true → IsChoosing s (i + 1) next best
  next_left next e test =
      let (found, mine, beaten) = beaten_is next e in
      record { head_is = found; before = here_before next mine; kept = sym (append_none best) ∙ sym (step_kept true (beaten ∙ test)) }
    where
      append_none : (xs : List Like) → xs ++ [] ≡ xs
      append_none [] = refl
      append_none (x ∷ xs) = ap (λ l. x ∷ l) (append_none xs)
