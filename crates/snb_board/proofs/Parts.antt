-- Facts on parts, views and lists of views.
use Rattle.std.proofs.Common.{◌≡◌, ◌≢◌, ◌⊎◌, ℕ, zero, suc, ◌<◌, ◌≤◌, List, [], ◌∷◌, ◌++◌, length, set, sym, refl, ap, ◌∙◌, subst, ⊎_elim, inl, inr, arith}
use mathlib.Core.Option.{some, some-injective, some-ne-none}
use lib.ListN.{get_elem?}
use Rattle.atomic_table.proofs.Lists.{at_set}
use Rattle.snb_history.specs.declared.event.Event.{Event}
use mathlib.Core.List.{IsPrefix}
use Rattle.snb_history.specs.Schedule.{Schedule}
use Rattle.snb_book.specs.Kept.{Kept}
use Rattle.snb_board.proofs.Events.{prefix-push, events_of-push_other}
use Rattle.snb_board.specs.declared.view.Part.{Part}
use Rattle.snb_board.specs.declared.view.View.{View}
use Rattle.snb_board.specs.declared.view.Phase.{Phase}
use Rattle.snb_board.specs.Boards.{events_of}
use Rattle.snb_board.specs.Views.{Each, HasWorker, Differ, PartOk, ViewOk}
use Rattle.snb_board.specs.Parts.{author, reached, part, IsShown, seen_of, number_of, told_of, seeing, telling, posed}
use Rattle.snb_board.specs.Steps.{IsSingle}
use Rattle.snb_base.proofs.Laws.{prefix-refl}

module _ {A : Type 0} where
  pub at_low : (l : List A) (i : ℕ) (a : A) → get_elem? l i ≡ some a → i < length l
  at_low [] i a e = absurd (some-ne-none a (sym e))
  at_low (x ∷ xs) zero a e = omega arith
  at_low (x ∷ xs) (suc i) a e = omega (arith, at_low xs i a e)

  pub at_set_here : (l : List A) (i : ℕ) (a b : A) → get_elem? l i ≡ some b → get_elem? (set l i a) i ≡ some a
  at_set_here [] i a b e = absurd (some-ne-none b (sym e))
  at_set_here (x ∷ xs) zero a b e = refl
  at_set_here (x ∷ xs) (suc i) a b e = at_set_here xs i a b e

  -- an element after a push is an old one or the last
  pub at_push : (l : List A) (a b : A) (j : ℕ) → get_elem? (l ++ a ∷ []) j ≡ some b → (get_elem? l j ≡ some b) ⊎ ((j ≡ length l) × (a ≡ b))
  at_push [] a b zero e = inr (refl, some-injective a b e)
  at_push [] a b (suc j) e = absurd (some-ne-none b (sym e))
  at_push (x ∷ xs) a b zero e = inl e
  at_push (x ∷ xs) a b (suc j) e = ⊎_elim inl (λ (t : (j ≡ length xs) × (a ≡ b)). inr (ap suc t.0, t.1)) (at_push xs a b j e)

  -- what holds of each element, after one was set
  pub each_set : (P : ℕ → A → Type 0) (l : List A) (i : ℕ) (a : A) → P i a → ((j : ℕ) (b : A) → j ≢ i → get_elem? l j ≡ some b → P j b) → (j : ℕ) (b : A) → get_elem? (set l i a) j ≡ some b → P j b
  each_set P l i a mine others j b e =
      ⊎_elim
      (λ (t : (j ≡ i) × (a ≡ b)). subst (λ (x : ℕ × A). P x.0 x.1) (λ k. (sym t.0 k, t.1 k)) mine)
      (λ (t : (j ≢ i) × (get_elem? l j ≡ some b)). others j b t.0 t.1)
      (at_set l i j a b e)

  pub each_push : (P : ℕ → A → Type 0) (l : List A) (a : A) → P (length l) a → ((j : ℕ) (b : A) → get_elem? l j ≡ some b → P j b) → (j : ℕ) (b : A) → get_elem? (l ++ a ∷ []) j ≡ some b → P j b
  each_push P l a mine others j b e =
      ⊎_elim
      (λ (t : get_elem? l j ≡ some b). others j b t)
      (λ (t : (j ≡ length l) × (a ≡ b)). subst (λ (x : ℕ × A). P x.0 x.1) (λ k. (sym t.0 k, t.1 k)) mine)
      (at_push l a b j e)

  pub Each-map : (P Q : A → Type 0) (xs : List A) → ((x : A) → P x → Q x) → Each P xs → Each Q xs
  Each-map P Q [] f h = tt
  Each-map P Q (x ∷ xs) f h = (f x h.0, Each-map P Q xs f h.1)

  pub Each-append : (P : A → Type 0) (xs ys : List A) → Each P xs → Each P ys → Each P (xs ++ ys)
  Each-append P [] ys h k = k
  Each-append P (x ∷ xs) ys h k = (h.0, Each-append P xs ys h.1 k)

pub single-seeing : (h : List Event) (v : View) → IsSingle v → seeing h v.parts ≡ part (number_of v.parts) h (told_of v.parts) ∷ []
single-seeing h v one = ap (seeing h) one.0

pub single-posed : (ph : Phase) (h : List Event) (v : View) → IsSingle v → IsSingle (posed ph h v)
single-posed ph h v one = (subst (λ ps. ps ≡ part (number_of ps) (seen_of ps) (told_of ps) ∷ []) (sym (single-seeing h v one)) refl, one.1)

-- the own part of a view that has seen the history
pub parts-posed : (ph : Phase) (h : List Event) (v : View) → IsSingle v → seeing h v.parts ≡ part (number_of (seeing h v.parts)) h (told_of (seeing h v.parts)) ∷ []
parts-posed ph h v one = subst (λ ps. ps ≡ part (number_of ps) h (told_of ps) ∷ []) (sym (single-seeing h v one)) refl

-- the own part
pub own_ok : (a : Kept) (made : ℕ) (owner : ℕ → ℕ) (reach j : ℕ) (v : View) → IsSingle v → ViewOk a made owner reach j v → PartOk a.schedule a.history made owner reach v.phase j (part (number_of v.parts) (seen_of v.parts) (told_of v.parts))
own_ok a made owner reach j v one ok = (subst (Each (PartOk a.schedule a.history made owner reach v.phase j)) one.0 ok.parts).0

-- what is seen or told changes no worker
pub seeing_has : (k : ℕ) (h : List Event) (ps : List Part) → HasWorker k ps → HasWorker k (seeing h ps)
seeing_has k h [] has = has
seeing_has k h (p ∷ ps) has = has

pub seeing_had : (k : ℕ) (h : List Event) (ps : List Part) → HasWorker k (seeing h ps) → HasWorker k ps
seeing_had k h [] has = has
seeing_had k h (p ∷ ps) has = has

pub seeing_differ : (h : List Event) (ps : List Part) → Differ ps → Differ (seeing h ps)
seeing_differ h [] d = d
seeing_differ h (p ∷ ps) d = d

pub telling_has : (k : ℕ) (n : ℕ) (ps : List Part) → HasWorker k ps → HasWorker k (telling n ps)
telling_has k n [] has = has
telling_has k n (p ∷ ps) has = has

pub telling_had : (k : ℕ) (n : ℕ) (ps : List Part) → HasWorker k (telling n ps) → HasWorker k ps
telling_had k n [] has = has
telling_had k n (p ∷ ps) has = has

pub telling_differ : (n : ℕ) (ps : List Part) → Differ ps → Differ (telling n ps)
telling_differ n [] d = d
telling_differ n (p ∷ ps) d = d

-- which parts have a worker, and that the workers differ, of parts that are put together
pub has_left : (k : ℕ) (ps qs : List Part) → HasWorker k ps → HasWorker k (ps ++ qs)
has_left k [] qs has = absurd has
has_left k (p ∷ ps) qs has = ⊎_elim inl (λ (t : HasWorker k ps). inr (has_left k ps qs t)) has

pub has_right : (k : ℕ) (ps qs : List Part) → HasWorker k qs → HasWorker k (ps ++ qs)
has_right k [] qs has = has
has_right k (p ∷ ps) qs has = inr (has_right k ps qs has)

pub has_either : (k : ℕ) (ps qs : List Part) → HasWorker k (ps ++ qs) → HasWorker k ps ⊎ HasWorker k qs
has_either k [] qs has = inr has
has_either k (p ∷ ps) qs has =
    ⊎_elim (λ (e : p.worker ≡ k). inl (inl e)) (λ (t : HasWorker k (ps ++ qs)). ⊎_elim (λ (l : HasWorker k ps). inl (inr l)) (λ (r : HasWorker k qs). inr r) (has_either k ps qs t)) has

pub differ_both : (ps qs : List Part) → Differ ps → Differ qs → ((k : ℕ) → HasWorker k ps → HasWorker k qs → ⊥) → Differ (ps ++ qs)
differ_both [] qs d e apart = e
differ_both (p ∷ ps) qs d e apart = (
  (λ has. ⊎_elim (λ (l : HasWorker p.worker ps). d.0 l) (λ (r : HasWorker p.worker qs). apart p.worker (inl refl) r) (has_either p.worker ps qs has)),
  differ_both ps qs d.1 e (λ k l r. apart k (inr l) r),
)

-- the view that has a worker's part is the one that the rule names
pub found : (schedule : Schedule) (history : List Event) (made : ℕ) (owner : ℕ → ℕ) (reach : ℕ) (ph : Phase) (j k : ℕ) (ps : List Part) → Each (PartOk schedule history made owner reach ph j) ps → HasWorker k ps → owner k ≡ j
found schedule history made owner reach ph j k [] h has = absurd has
found schedule history made owner reach ph j k (p ∷ ps) h has = ⊎_elim (λ (e : p.worker ≡ k). ap owner (sym e) ∙ h.0.owned) (λ (rest : HasWorker k ps). found schedule history made owner reach ph j k ps h.1 rest) has

pub has_part : (v : View) → IsSingle v → 0 < v.workers
has_part v one = one.1

-- the view after it has seen all of the history
pub posed_ok : (a b : Kept) (made : ℕ) (owner : ℕ → ℕ) (reach more j : ℕ) (v : View) (ph : Phase) → IsSingle v → b.schedule ≡ a.schedule → b.workers ≡ a.workers → reach ≤ more → (IsShown ph → reached b.schedule b.history ≤ more)
    → ViewOk a made owner reach j v → ViewOk b made owner more j (posed ph b.history v)
posed_ok a b made owner reach more j v ph one p k up known ok =
    let mine = own_ok a made owner reach j v one ok in
    let same = ok.same (has_part v one) in record {
      same = λ _. (same.0 ∙ sym p, same.1 ∙ sym k);
      minted = λ has. let m = ok.minted has in (seeing_has 0 b.history v.parts m.0, m.1);
      counts = λ has. ok.counts (seeing_had 0 b.history v.parts has);
      differ = seeing_differ b.history v.parts ok.differ;
      parts = subst (Each (PartOk b.schedule b.history made owner more ph j)) (sym (single-seeing b.history v one))
          (record { low = mine.low; owned = mine.owned; seen = prefix-refl b.history; mine = refl; told = let t = mine.told in omega arith; behind = known }, tt);
    }

-- a view stays right while the word rises
pub reach_grows : (a : Kept) (made : ℕ) (owner : ℕ → ℕ) (reach more j : ℕ) (v : View) → reach ≤ more → ViewOk a made owner reach j v → ViewOk a made owner more j v
reach_grows a made owner reach more j v up ok = record {
  same = ok.same;
  minted = ok.minted;
  counts = ok.counts;
  differ = ok.differ;
  parts = Each-map (PartOk a.schedule a.history made owner reach v.phase j) (PartOk a.schedule a.history made owner more v.phase j) v.parts
      (λ x h. record { low = h.low; owned = h.owned; seen = h.seen; mine = h.mine; told = let t = h.told in omega arith; behind = λ s. let t = h.behind s in omega arith }) ok.parts;
}

-- a view stays right while another seat's worker adds an event
pub others_grow : (a b : Kept) (made : ℕ) (owner : ℕ → ℕ) (reach j : ℕ) (v : View) (e : Event) → b.schedule ≡ a.schedule → b.workers ≡ a.workers → b.history ≡ a.history ++ e ∷ [] → owner (author e) ≢ j → ViewOk a made owner reach j v → ViewOk b made owner reach j v
others_grow a b made owner reach j v e p k more apart ok = record {
  same = λ some_part. let s = ok.same some_part in (s.0 ∙ sym p, s.1 ∙ sym k);
  minted = ok.minted;
  counts = ok.counts;
  differ = ok.differ;
  parts = Each-map (PartOk a.schedule a.history made owner reach v.phase j) (PartOk b.schedule b.history made owner reach v.phase j) v.parts
      (λ x h.
      let other : author e ≢ x.worker = λ same. apart (ap owner same ∙ h.owned) in record {
        low = h.low;
        owned = h.owned;
        seen = subst (IsPrefix x.seen) (sym more) (prefix-push x.seen a.history e h.seen);
        mine = ap (events_of x.worker) more ∙ (events_of-push_other x.worker a.history e other ∙ h.mine);
        told = h.told;
        behind = λ s. subst (λ (t : Schedule). reached t x.seen ≤ reach) (sym p) (h.behind s);
      })
      ok.parts;
}
