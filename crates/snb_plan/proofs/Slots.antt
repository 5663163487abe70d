-- Keys as they stand in the map, and what is kept at them.
use Rattle.std.proofs.Common.{◌≡◌, ◌↔◌, ℕ, false, List, [], ◌∷◌, ◌⊎◌, inl, inr, Some, refl, sym, ap, ◌∙◌, subst, arith}
use Rattle.std.specs.List.{Contains}
use Rattle.std.specs.declared.cmp.Ordering.{Ordering}
use Rattle.std.specs.declared.cmp.Ordering.TheVariants.{Less, Equal, Greater}
use Rattle.std.specs.BTreeMap.{get, is_at}
use Rattle.std.specs.Cmp.{tied_itself, nat_cmp_total}
use Rattle.std.specs.Ordering.{nat_cmp, ordering_then, is_eq}
use Rattle.std.proofs.lemmas.Bool.{false≢true}
use Rattle.std.proofs.lemmas.Map.Lookups.{exact_pairs, exact_unsigned}
use Rattle.snb_base.proofs.Laws.{contains_cases, contains_here, contains_there}
use Rattle.snb_schema.specs.contracts.table.TableOrd.TheImpl.Laws.{total-law}
use Rattle.snb_schema.specs.declared.key.Key.{Key}
use Rattle.snb_schema.specs.declared.key.Key.TheVariants.{Node, Knows, LikesPost, LikesComment, Member}
use Rattle.snb_schema.specs.declared.table.Kind.TheVariants as kinds
use Rattle.snb_schema.specs.declared.table.Table.{Table}
use Rattle.snb_schema.specs.declared.table.Table.TheVariants as table
use Rattle.snb_schema.specs.TableOrder.{table_order}
use Rattle.snb_plan.specs.declared.added.Added.{Added}
use Rattle.snb_plan.specs.declared.added.Mark.{Mark}
use Rattle.snb_plan.specs.declared.added.Slot.{Slot}
use Rattle.snb_plan.specs.Added.{mark_at, slot_cmp, slot_of, HasMore, HasPut}
use Rattle.snb_schema.proofs.Laws.{table_exact}

abbrev pair_order : ℕ × ℕ → ℕ × ℕ → Ordering
pair_order p q = ordering_then (nat_cmp p.0 q.0) (nat_cmp p.1 q.1)

-- slots that compare alike are equal
slot_exact : (a b : Slot) → slot_cmp a b ≡ Equal → a ≡ b
slot_exact a b e =
    ap (λ (p : Table × (ℕ × ℕ)). let s : Slot = record { table = p.0; first = p.1.0; second = p.1.1 } in s)
    (exact_pairs table_order pair_order table_exact (exact_pairs nat_cmp nat_cmp exact_unsigned exact_unsigned) (a.table, (a.first, a.second)) (b.table, (b.first, b.second)) e)

-- a slot compares alike with itself
slot_itself : (a : Slot) → slot_cmp a a ≡ Equal
slot_itself a =
    ap (λ o. ordering_then o (ordering_then (nat_cmp a.first a.first) (nat_cmp a.second a.second))) (tied_itself total-law a.table)
    ∙ ap (λ o. ordering_then o (nat_cmp a.second a.second)) (tied_itself nat_cmp_total a.first)
    ∙ tied_itself nat_cmp_total a.second

-- the key that stands so in the map
key_from : Table → ℕ → ℕ → Key
key_from table.Place a b = Node kinds.Place a
key_from table.TagClass a b = Node kinds.TagClass a
key_from table.Tag a b = Node kinds.Tag a
key_from table.Organisation a b = Node kinds.Organisation a
key_from table.Person a b = Node kinds.Person a
key_from table.Forum a b = Node kinds.Forum a
key_from table.Post a b = Node kinds.Post a
key_from table.Comment a b = Node kinds.Comment a
key_from table.PersonKnowsPerson a b = Knows a b
key_from table.PersonLikesPost a b = LikesPost a b
key_from table.PersonLikesComment a b = LikesComment a b
key_from t a b = Member a b

key_again : (key : Key) → key_from (slot_of key).table (slot_of key).first (slot_of key).second ≡ key
unfolding key_from
key_again (Node kinds.Place id) = refl
key_again (Node kinds.TagClass id) = refl
key_again (Node kinds.Tag id) = refl
key_again (Node kinds.Organisation id) = refl
key_again (Node kinds.Person id) = refl
key_again (Node kinds.Forum id) = refl
key_again (Node kinds.Post id) = refl
key_again (Node kinds.Comment id) = refl
key_again (Knows a b) = refl
key_again (LikesPost a b) = refl
key_again (LikesComment a b) = refl
key_again (Member a b) = refl

-- keys that stand alike in the map are equal
slot_one : (p q : Key) → slot_of p ≡ slot_of q → p ≡ q
slot_one p q e = sym (key_again p) ∙ ap (λ (s : Slot). key_from s.table s.first s.second) e ∙ key_again q

-- two keys are equal, or they differ
pub same_key : (p q : Key) → (p ≡ q) ⊎ (p ≡ q → ⊥)
same_key p q = by_order (slot_cmp (slot_of p) (slot_of q)) refl
  where
    itself : p ≡ q → slot_cmp (slot_of p) (slot_of q) ≡ Equal
    itself same = subst (λ (k : Key). slot_cmp (slot_of p) (slot_of k) ≡ Equal) same (slot_itself (slot_of p))

    by_order : (o : Ordering) → slot_cmp (slot_of p) (slot_of q) ≡ o → (p ≡ q) ⊎ (p ≡ q → ⊥)
    by_order Less e = inr (λ same. false≢true (ap is_eq (sym e ∙ itself same)))
    by_order Equal e = inl (slot_one p q (slot_exact (slot_of p) (slot_of q) e))
    by_order Greater e = inr (λ same. false≢true (ap is_eq (sym e ∙ itself same)))

-- a slot doesn't find another
finds_other : (a b : Slot) → (a ≡ b → ⊥) → is_at (slot_cmp a) b ≡ false
finds_other a b other = by_order (slot_cmp a b) (slot_exact a b)
  where
    by_order : (o : Ordering) → (o ≡ Equal → a ≡ b) → is_eq o ≡ false
    by_order Less f = refl
    by_order Equal f = absurd (other (f refl))
    by_order Greater f = refl

-- what the map says after one mark is what is asked
pub has_put : (old new : Added) (key : Key) (mark : Mark) (s : Slot) → s ≡ slot_of key → get slot_cmp new.marks s ≡ Some mark
    → ((q : Slot) → is_at (slot_cmp s) q ≡ false → get slot_cmp new.marks q ≡ get slot_cmp old.marks q) → HasPut old key mark new
has_put old new key mark s is at apart = record {
  here = subst (λ (q : Slot). get slot_cmp new.marks q ≡ Some mark) is at;
  others = λ other differs. apart (slot_of other) (finds_other s (slot_of other) (λ same. differs (slot_one key other (sym is ∙ same))));
}

none_there : (key : Key) → Contains [] key → ⊥
none_there key c = let l = c.1 in omega (arith, l)

-- one mark at two keys
pub has_two : (old mid new : Added) (one other : Key) (mark : Mark) → HasPut old one mark mid → HasPut mid other mark new → HasMore old (one ∷ other ∷ []) mark new
has_two old mid new one other mark first second = record {
  here = λ key c. here key (same_key other key) (contains_cases one (other ∷ []) key c);
  others = λ key differs. second.others key (λ e. differs (contains_there one (other ∷ []) key (subst (Contains (other ∷ [])) e (contains_here other []))))
      ∙ first.others key (λ e. differs (subst (Contains (one ∷ other ∷ [])) e (contains_here one (other ∷ []))));
}
  where
    here : (key : Key) → (other ≡ key) ⊎ (other ≡ key → ⊥) → (one ≡ key) ⊎ Contains (other ∷ []) key → mark_at new key ≡ Some mark
    here key (inl is) c = subst (λ (k : Key). mark_at new k ≡ Some mark) is second.here
    here key (inr differs) (inl is) = second.others key differs ∙ subst (λ (k : Key). mark_at mid k ≡ Some mark) is first.here
    here key (inr differs) (inr c) = elim (contains_cases other [] key c) [ inl e ↦ absurd (differs e) | inr n ↦ absurd (none_there key n) ]

-- whether a key is among these is decided
pub among : (keys : List Key) (key : Key) → Contains keys key ⊎ (Contains keys key → ⊥)
among [] key = inr (none_there key)
among (one ∷ keys) key =
    elim (same_key one key) [
      | inl e ↦ inl (subst (Contains (one ∷ keys)) e (contains_here one keys))
      | inr differs ↦ elim (among keys key) [
        | inl c ↦ inl (contains_there one keys key c)
        | inr none ↦ inr (λ c. elim (contains_cases one keys key c) [ inl e ↦ differs e | inr rest ↦ none rest ])
      ]
    ]

-- where the first of two keys isn't so, one of them is so exactly where the second is
pub of_two_keys : (P : Key → Type 0) (one other : Key) → (P one → ⊥) → P other ↔ ((key : Key) × Contains (one ∷ other ∷ []) key × P key)
of_two_keys P one other lacks = (
  λ p. (other, contains_there one (other ∷ []) other (contains_here other []), p),
  λ some. elim (contains_cases one (other ∷ []) some.0 some.1) [
    | inl e ↦ absurd (lacks (subst P (sym e) some.2))
    | inr c ↦ elim (contains_cases other [] some.0 c) [ inl e ↦ subst P (sym e) some.2 | inr n ↦ absurd (none_there some.0 n) ]
  ],
)
