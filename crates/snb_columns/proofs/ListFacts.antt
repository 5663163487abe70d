-- Lists: items of which each is kept once, and elements that spell them.
use Rattle.std.proofs.Common.{◌≡◌, ◌≢◌, ◌++◌, ◌∷◌, ◌∙◌, ◌+◌, ◌<◌, ◌==◌, ◌||◌, [], ℕ, zero, suc, List, Bool, true, false, cond, refl, sym, ap, subst, inl, inr, length, take, get_or, map, arith, All, append-nil, take_all, add-one, ◌≤◌}
use Rattle.std.proofs.lemmas.List.{length-map}
use Rattle.std.proofs.lemmas.Bool.{cases_Bool, eqb-true}
use Rattle.std.proofs.lemmas.List.Elements.{All-nil, All-cons, All-head, All-map, All-tail}
use Rattle.std.specs.Borrow.{Bor}
use Rattle.std.specs.List.{join_with_byte, list_any}
use Rattle.std.specs.Str.{IsUtf8}
use Rattle.snb_base.specs.Spellings.{EachSpells, Listed, SpellsWord, elements, once_after}
use Rattle.snb_schema.specs.Lines.{HasNo}
use Rattle.snb_columns.proofs.CutFacts.{around_ascii, joined_all, joined_parts, parts, parts_all, parts_uncut}
use Rattle.std.proofs.Math.Bool.{or-false}

-- the second of three answers may stand first
or_turned : (x y z : Bool) → (x || (y || z)) ≡ ((y || x) || z)
or_turned true true z = refl
or_turned true false z = refl
or_turned false true z = refl
or_turned false false z = refl

-- one item more is kept where it is none of those before
once_push : {A : Type 0} (eq : A → A → Bool) (seen all : List A) (a : A) →
    once_after eq seen (all ++ a ∷ []) ≡ once_after eq seen all ++ cond (list_any (eq a) seen || list_any (eq a) (once_after eq seen all)) [] (a ∷ [])
once_push eq seen [] a = simp or-false
once_push {A} eq seen (b ∷ all) a = elim (cases_Bool (list_any (eq b) seen)) [
  | inl e ↦ simp e (once_push eq seen all a)
  | inr e ↦ simp (e, or_turned) (ap (λ (more : List A). b ∷ more) (once_push eq (b ∷ seen) all a))
]

-- items that are kept once are kept once again
once_again : {A : Type 0} (eq : A → A → Bool) (seen all : List A) → once_after eq seen (once_after eq seen all) ≡ once_after eq seen all
once_again eq seen [] = refl
once_again {A} eq seen (a ∷ all) = elim (cases_Bool (list_any (eq a) seen)) [
  | inl e ↦ simp e (once_again eq seen all)
  | inr e ↦ simp e (ap (λ (more : List A). a ∷ more) (once_again eq (a ∷ seen) all))
]

-- what holds of all items holds of those that are kept
once_all : {A : Type 0} (P : A → Type 0) (eq : A → A → Bool) (seen all : List A) → All P all → All P (once_after eq seen all)
once_all P eq seen [] h = All-nil P
once_all P eq seen (a ∷ all) h = elim (cases_Bool (list_any (eq a) seen)) [
  | inl e ↦ simp e (once_all P eq seen all (All-tail P a all h))
  | inr e ↦ simp e (All-cons P a (once_after eq (a ∷ seen) all) (All-head P a all h) (once_all P eq (a ∷ seen) all (All-tail P a all h)))
]

-- elements spell one list of items, if each spells one
each_one : {A : Type 0} (S : List ℕ → A → Type 0) → ((x : List ℕ) (a b : A) → S x a → S x b → a ≡ b) → (xs : List (List ℕ)) (all others : List A) → EachSpells S xs all → EachSpells S xs others → all ≡ others
each_one S one [] [] [] s t = refl
each_one S one (x ∷ xs) (a ∷ all) (b ∷ others) s t = λ i. one x a b s.0 t.0 i ∷ each_one S one xs all others s.1 t.1 i
each_one S one xs all others s t = absurd assumption

-- what elements and their items have, each item has
each_all : {A : Type 0} (S : List ℕ → A → Type 0) (P : List ℕ → Type 0) (Q : A → Type 0) → ((x : List ℕ) (a : A) → P x → S x a → Q a) → (xs : List (List ℕ)) (all : List A) → EachSpells S xs all → All P xs → All Q all
each_all S P Q more [] [] s h = All-nil Q
each_all S P Q more (x ∷ xs) (a ∷ all) s h = All-cons Q a all (more x a (All-head P x xs h) s.0) (each_all S P Q more xs all s.1 (All-tail P x xs h))
each_all S P Q more xs all s h = absurd s

-- one element more spells one item more
each_push : {A : Type 0} (S : List ℕ → A → Type 0) (xs : List (Bor (List ℕ))) (i : ℕ) (d : Bor (List ℕ)) (all : List A) (a : A) → i < length xs → EachSpells S (take i (map (λ x. x.now) xs)) all
    → S (get_or xs i d).now a → EachSpells S (take (suc i) (map (λ x. x.now) xs)) (all ++ a ∷ [])
each_push S [] i d all a l s h = absurd (omega (arith, l))
each_push S (x ∷ xs) zero d [] a l s h = (h, tt)
each_push S (x ∷ xs) zero d (b ∷ all) a l s h = absurd s
each_push S (x ∷ xs) (suc i) d [] a l s h = absurd s
each_push S (x ∷ xs) (suc i) d (b ∷ all) a l s h = (s.0, each_push S xs i d all a (omega (arith, l)) s.1 h)

-- each element spells an item
each_at : {A : Type 0} (S : List ℕ → A → Type 0) (xs : List (Bor (List ℕ))) (i : ℕ) (d : Bor (List ℕ)) (all : List A) → i < length xs → EachSpells S (map (λ x. x.now) xs) all → (a : A) × S (get_or xs i d).now a
each_at S [] i d all l s = absurd (omega (arith, l))
each_at S (x ∷ xs) i d [] l s = absurd s
each_at S (x ∷ xs) zero d (a ∷ all) l s = (a, s.0)
each_at S (x ∷ xs) (suc i) d (a ∷ all) l s = each_at S xs i d all (omega (arith, l)) s.1

-- these elements spell these items, a later repeat left out
pub record IsRead {A : Type 0} (S : List ℕ → A → Type 0) (eq : A → A → Bool) (xs : List (List ℕ)) (items : List A) : Type 0 where
  pub all : List A
  pub each : EachSpells S xs all
  pub kept : items ≡ once_after eq [] all

-- the parts of a text, under another name, are its elements
pub same_parts : (xs ys : List (Bor (List ℕ))) (x : List ℕ) → xs ≡ ys → map (λ y. y.now) ys ≡ elements x → map (λ y. y.now) xs ≡ elements x
same_parts xs ys x same e = ap (map (λ (y : Bor (List ℕ)). y.now)) same ∙ e

-- an element whose item is there
pub read_repeat : {A : Type 0} (S : List ℕ → A → Type 0) (eq : A → A → Bool) (xs : List (Bor (List ℕ))) (i : ℕ) (d : Bor (List ℕ)) (items later : List A) (a : A) → i < length xs → IsRead S eq (take i (map (λ x. x.now) xs)) items
    → S (get_or xs i d).now a → list_any (eq a) items ≡ true → later ≡ items → IsRead S eq (take (i + 1) (map (λ x. x.now) xs)) later
read_repeat {A} S eq xs i d items later a l r s there is = record {
  all = r.all ++ a ∷ [];
  each = rw add-one (each_push S xs i d r.all a l r.each s);
  kept =
      let same : list_any (eq a) (once_after eq [] r.all) ≡ true = subst (λ (more : List A). list_any (eq a) more ≡ true) r.kept there in
      is ∙ sym (once_push eq [] r.all a ∙ ap (λ b. once_after eq [] r.all ++ cond b [] (a ∷ [])) same ∙ append-nil (once_after eq [] r.all) ∙ sym r.kept);
}

-- an element whose item is new
pub read_new : {A : Type 0} (S : List ℕ → A → Type 0) (eq : A → A → Bool) (xs : List (Bor (List ℕ))) (i : ℕ) (d : Bor (List ℕ)) (items later : List A) (a : A) → i < length xs → IsRead S eq (take i (map (λ x. x.now) xs)) items
    → S (get_or xs i d).now a → list_any (eq a) items ≡ false → later ≡ items ++ a ∷ [] → IsRead S eq (take (i + 1) (map (λ x. x.now) xs)) later
read_new {A} S eq xs i d items later a l r s new is = record {
  all = r.all ++ a ∷ [];
  each = rw add-one (each_push S xs i d r.all a l r.each s);
  kept =
      let same : list_any (eq a) (once_after eq [] r.all) ≡ false = subst (λ (more : List A). list_any (eq a) more ≡ false) r.kept new in
      is ∙ sym (once_push eq [] r.all a ∙ ap (λ b. once_after eq [] r.all ++ cond b [] (a ∷ [])) same ∙ ap (λ (more : List A). more ++ a ∷ []) (sym r.kept));
}

-- an element that spells no item
pub read_fails : {A : Type 0} (S : List ℕ → A → Type 0) (eq : A → A → Bool) (xs : List (Bor (List ℕ))) (i : ℕ) (d : Bor (List ℕ)) (x : List ℕ) → i < length xs → map (λ y. y.now) xs ≡ elements x
    → ((a : A) → ¬ S (get_or xs i d).now a) → (items : List A) → ¬ Listed S eq x items
read_fails S eq xs i d x l e none items (all, each, kept) =
    let (a, s) = each_at S xs i d all l (subst (λ (ys : List (List ℕ)). EachSpells S ys all) (sym e) each) in none a s

-- all elements
pub read_all : {A : Type 0} (S : List ℕ → A → Type 0) (eq : A → A → Bool) (xs : List (Bor (List ℕ))) (i : ℕ) (x : List ℕ) (items : List A) → length xs ≤ i → map (λ y. y.now) xs ≡ elements x
    → IsRead S eq (take i (map (λ y. y.now) xs)) items → Listed S eq x items
read_all S eq xs i x items l e r =
    let whole : length (map (λ (y : Bor (List ℕ)). y.now) xs) ≤ i = simp length-map l in
    let same = take_all i (map (λ (y : Bor (List ℕ)). y.now) xs) whole ∙ e in
    (r.all, subst (λ (ys : List (List ℕ)). EachSpells S ys r.all) same r.each, r.kept)

-- a text spells one list, if an element spells one item
pub one_listed : {A : Type 0} (S : List ℕ → A → Type 0) (eq : A → A → Bool) → ((x : List ℕ) (a b : A) → S x a → S x b → a ≡ b) → (x : List ℕ) (items others : List A) → Listed S eq x items → Listed S eq x others → items ≡ others
one_listed S eq one x items others (all, s, k) (more, t, l) = k ∙ ap (once_after eq []) (each_one S one (elements x) all more s t) ∙ sym l

-- no element has a semicolon
elements_uncut : (x : List ℕ) → All (HasNo 59) (elements x)
elements_uncut [] = All-nil (HasNo 59)
elements_uncut (b ∷ bs) = parts_uncut 59 (b ∷ bs)

-- what holds before and behind a semicolon, where it holds of the whole, holds of each element
pub elements_all : (P : List ℕ → Type 0) → ((a b : List ℕ) → P (a ++ 59 ∷ b) → P a × P b) → (x : List ℕ) → P x → All P (elements x)
elements_all P around [] p = All-nil P
elements_all P around (b ∷ bs) p = parts_all 59 P around (b ∷ bs) p

-- a spelling of an item that can stand among others
pub record IsElement {A : Type 0} (S : List ℕ → A → Type 0) (put : A → List ℕ) (a : A) : Type 0 where
  pub own : S (put a) a
  pub some : put a ≢ []
  pub uncut : HasNo 59 (put a)

-- items that are put one after another are spelled
each_put : {A : Type 0} (S : List ℕ → A → Type 0) (put : A → List ℕ) (items : List A) → All (IsElement S put) items → EachSpells S (map put items) items
each_put S put [] h = tt
each_put S put (a ∷ items) h = ((All-head (IsElement S put) a items h).own, each_put S put items (All-tail (IsElement S put) a items h))

-- and no spelling has a semicolon
put_uncut : {A : Type 0} (S : List ℕ → A → Type 0) (put : A → List ℕ) (items : List A) → All (IsElement S put) items → All (HasNo 59) (map put items)
put_uncut S put [] h = All-nil (HasNo 59)
put_uncut S put (a ∷ items) h = All-cons (HasNo 59) (put a) (map put items) (All-head (IsElement S put) a items h).uncut (put_uncut S put items (All-tail (IsElement S put) a items h))

-- a text with a byte in front has parts
pub elements_some : (x : List ℕ) → x ≢ [] → elements x ≡ parts 59 x
elements_some [] some = absurd (some refl)
elements_some (b ∷ bs) some = refl

-- what is joined behind a text that isn't empty isn't
joined_some : (x : List ℕ) (xs : List (List ℕ)) → x ≢ [] → join_with_byte 59 (x ∷ xs) ≢ []
joined_some [] xs some e = some refl
joined_some (b ∷ bs) [] some e = cc
joined_some (b ∷ bs) (y ∷ ys) some e = cc

-- spellings that are joined are the elements of their text
put_elements : {A : Type 0} (S : List ℕ → A → Type 0) (put : A → List ℕ) (items : List A) → All (IsElement S put) items → elements (join_with_byte 59 (map put items)) ≡ map put items
put_elements S put [] h = refl
put_elements S put (a ∷ items) h =
    elements_some (join_with_byte 59 (put a ∷ map put items)) (joined_some (put a) (map put items) (All-head (IsElement S put) a items h).some)
    ∙ joined_parts 59 (put a) (map put items) (put_uncut S put (a ∷ items) h)

-- the spellings of a list's items, joined, spell the list
pub own_listed : {A : Type 0} (S : List ℕ → A → Type 0) (eq : A → A → Bool) (put : A → List ℕ) → ((x : List ℕ) (a : A) → HasNo 59 x → S x a → IsElement S put a) → (x : List ℕ) (items : List A)
    → Listed S eq x items → Listed S eq (join_with_byte 59 (map put items)) items
own_listed S eq put each x items (all, s, k) =
    let own : All (IsElement S put) items = subst (All (IsElement S put)) (sym k) (once_all (IsElement S put) eq [] all (each_all S (HasNo 59) (IsElement S put) each (elements x) all s (elements_uncut x))) in
    let again : items ≡ once_after eq [] items = k ∙ sym (once_again eq [] all) ∙ ap (once_after eq []) (sym k) in
    (items, subst (λ (xs : List (List ℕ)). EachSpells S xs items) (sym (put_elements S put items own)) (each_put S put items own), again)

-- what each item has whose element has a property, which two texts have that are joined by a semicolon, the items of a list have that a text with the property spells
pub items_all : {A : Type 0} (S : List ℕ → A → Type 0) (eq : A → A → Bool) (P : List ℕ → Type 0) (Q : A → Type 0) → ((a b : List ℕ) → P (a ++ 59 ∷ b) → P a × P b) → ((x : List ℕ) (a : A) → P x → S x a → Q a)
    → (x : List ℕ) (items : List A) → Listed S eq x items → P x → All Q items
items_all S eq P Q around each x items (all, s, k) p = subst (All Q) (sym k) (once_all Q eq [] all (each_all S P Q each (elements x) all s (elements_all P around x p)))

-- what holds of no bytes, of the spelling of an item where of its element, and of two texts joined by a semicolon, holds of the list's spelling
pub kept_listed : {A : Type 0} (S : List ℕ → A → Type 0) (eq : A → A → Bool) (put : A → List ℕ) (P : List ℕ → Type 0) → P [] → ((a b : List ℕ) → P (a ++ 59 ∷ b) → P a × P b) → ((a b : List ℕ) → P a → P b → P (a ++ 59 ∷ b))
    → ((x : List ℕ) (a : A) → P x → S x a → P (put a)) → (x : List ℕ) (items : List A) → Listed S eq x items → P x → P (join_with_byte 59 (map put items))
kept_listed {A} S eq put P none around join each x items listed p = joined items (items_all S eq P Q around each x items listed p)
  where
    Q : A → Type 0
    Q a = P (put a)

    joined : (more : List A) → All Q more → P (join_with_byte 59 (map put more))
    joined [] h = none
    joined (a ∷ more) h = joined_all 59 P join (put a) (map put more) (All-map P put (a ∷ more) h)

-- a text whose length is tested has a byte
pub tested_some : (x : List ℕ) (b : Bool) → b ≡ length x == 0 → b ≡ false → x ≢ []
tested_some [] b is other e = absurd cc
tested_some (y ∷ x) b is other e = cc

-- and one whose length is nothing spells no word
pub no_word : (x : List ℕ) (b : Bool) → b ≡ length x == 0 → b ≡ true → (word : List ℕ) → ¬ SpellsWord x word
no_word [] b is none word s = s.0 refl
no_word (y ∷ x) b is none word s = absurd (omega (arith, eqb-true (length (y ∷ x)) 0 (sym is ∙ none)))

-- what holds of each text behind a reference
each_behind : (P : List ℕ → Type 0) (xs : List (Bor (List ℕ))) (i : ℕ) (d : Bor (List ℕ)) → i < length xs → All P (map (λ x. x.now) xs) → P (get_or xs i d).now
each_behind P [] i d l h = absurd (omega (arith, l))
each_behind P (x ∷ xs) zero d l h = All-head P x.now (map (λ (y : Bor (List ℕ)). y.now) xs) h
each_behind P (x ∷ xs) (suc i) d l h = each_behind P xs i d (omega (arith, l)) (All-tail P x.now (map (λ (y : Bor (List ℕ)). y.now) xs) h)

-- an element of a text is a text
pub element_text : (xs : List (Bor (List ℕ))) (i : ℕ) (d : Bor (List ℕ)) (x : List ℕ) → i < length xs → map (λ y. y.now) xs ≡ elements x → IsUtf8 x → IsUtf8 (get_or xs i d).now
element_text xs i d x l e u = each_behind IsUtf8 xs i d l (subst (All IsUtf8) (sym e) (elements_all IsUtf8 (around_ascii 59 (omega arith)) x u))
