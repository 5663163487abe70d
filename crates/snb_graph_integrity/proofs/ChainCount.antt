-- A chain of comments' parents is no longer than there are comments.
use Rattle.std.proofs.Common.{◌≡◌, ◌≤◌, ℕ, zero, suc, Bool, true, false, List, [], ◌∷◌, length, eqb, eqb-true, refl, sym, subst, arith}
use Rattle.std.proofs.lemmas.List.{length-map}
use Rattle.std.proofs.lemmas.List.Elements.{All-cons, All-contains, All-nil, All-weaker, recursion_from_All}
use Rattle.std.proofs.lemmas.List.Folds.{Any-from_list_any}
use Rattle.std.proofs.lemmas.Map.Keys.{IsDistinct-cons}
use Rattle.std.proofs.lemmas.Map.Made.{length-le_from_is_member}
use Rattle.std.proofs.lemmas.Map.Views.{list_any-from_Contains}
use Rattle.std.specs.Cmp.{nat_eq_equiv}
use Rattle.std.specs.List.{All, Contains, IsDistinct, list_any}
use Rattle.snb_schema.specs.declared.row.Row.{Row}
use Rattle.snb_schema.specs.declared.table.Table.TheVariants as table
use Rattle.snb_graph_integrity.specs.SoundLaws.{ChainsAreShort}
use Rattle.snb_graph_integrity.proofs.RootLemmas.{chain_post, comment_held, one_end}
use Rattle.snb_graph_integrity.proofs.RowLemmas.{among_ids, id_of, row_ids}
use Rattle.snb_graph_model.specs.Graphs.{IsGraph, rows}
use Rattle.snb_graph_model.specs.Messages.{EndsAt}
use Rattle.snb_graph_model.specs.Soundness.{Sound}

-- ---- the comments of a chain

-- the chain of the comment ends after at most so many comments
record IsNear (g : List Row) (n : ℕ) (comment : ℕ) : Type 0 where
  pub after : ℕ
  pub post : ℕ
  pub ends : EndsAt g after comment post
  pub low : after ≤ n

-- the ids of a chain's comments: the first one's and those of n parents, all different
record AreChain (g : List Row) (n : ℕ) (ids : List ℕ) : Type 0 where
  pub long : length ids ≡ suc n
  pub near : All (IsNear g n) ids
  pub distinct : IsDistinct eqb ids

-- a comment whose chain is longer is another one
apart : (g : List Row) → IsGraph g → (n comment post other : ℕ) → EndsAt g (suc n) comment post → IsNear g n other → eqb comment other ≡ false
apart g graph n comment post other ends near = by (eqb comment other) refl
  where
    by : (b : Bool) → eqb comment other ≡ b → b ≡ false
    by false e = refl
    by true e =
        let same = one_end g graph (suc n) near.after other post near.post (subst (λ c. EndsAt g (suc n) c post) (eqb-true comment other e) ends) near.ends in
        let low = near.low in
        absurd (let long = same.0 in omega (arith, long, low))

weaker : (g : List Row) (n comment : ℕ) → IsNear g n comment → IsNear g (suc n) comment
weaker g n comment near = record { after = near.after; post = near.post; ends = near.ends; low = let low = near.low in omega (arith, low) }

-- each chain has such ids
chain_ids : (g : List Row) → IsGraph g → (n comment post : ℕ) → EndsAt g n comment post → (ids : List ℕ) × AreChain g n ids
unfolding IsDistinct
chain_ids g graph zero comment post ends =
    let near : IsNear g zero comment = record { after = zero; post = post; ends = ends; low = omega arith } in
    (comment ∷ [], record { long = omega arith; near = All-cons (IsNear g zero) comment [] near (All-nil (IsNear g zero)); distinct = IsDistinct-cons eqb comment [] tt tt })
chain_ids g graph (suc n) comment post ends =
    let rest = chain_ids g graph n ends.0 post ends.2 in
    let near : IsNear g (suc n) comment = record { after = suc n; post = post; ends = ends; low = omega arith } in (
      comment ∷ rest.0,
      record {
        long = let long = rest.1.long in omega (arith, long);
        near = All-cons (IsNear g (suc n)) comment rest.0 near (All-weaker (IsNear g n) (IsNear g (suc n)) (weaker g n) rest.0 rest.1.near);
        distinct =
            IsDistinct-cons eqb comment rest.0
            (recursion_from_All (λ d. eqb comment d ≡ false) rest.0 (All-weaker (IsNear g n) (λ d. eqb comment d ≡ false) (λ d near. apart g graph n comment post d ends near) rest.0 rest.1.near)) rest.1.distinct;
      },
    )

-- they are among the comments that are held
chain_among : (g : List Row) → Sound g → (n : ℕ) (ids : List ℕ) → AreChain g n ids → (q : ℕ) → list_any (eqb q) ids ≡ true → list_any (eqb q) (row_ids g table.Comment) ≡ true
chain_among g sound n ids are q is =
    let found = Any-from_list_any (eqb q) ids is in
    let near = All-contains (IsNear g n) ids found.1 are.near (found.0, found.2, found.3) in
    list_any-from_Contains nat_eq_equiv q (row_ids g table.Comment)
    (subst (Contains (row_ids g table.Comment)) (sym (eqb-true q found.1 found.4)) (among_ids g table.Comment found.1 (comment_held g sound near.after found.1 near.post near.ends)))

-- a chain of parents is no longer than there are comments
pub chain_short : ChainsAreShort
chain_short g graph sound n comment ends =
    let chain = chain_post g n comment ends in
    let (ids, are) = chain_ids g graph n comment chain.0 chain.1 in
    let long = are.long in
    let most = length-le_from_is_member nat_eq_equiv ids (row_ids g table.Comment) are.distinct (chain_among g sound n ids are) in
    omega (arith, long, most, length-map (rows g table.Comment) id_of)
