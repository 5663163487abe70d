-- Laws that proofs above cite: what one row more or fewer makes of the links kept beside the rows.
use Rattle.std.proofs.Common.{◌∙◌, ◌++◌, ◌∷◌, [], ℕ, List, refl, inl, inr}
use Rattle.std.specs.List.{Contains}
use Rattle.std.specs.List.Sorted.{IsPermutation}
use Rattle.snb_schema.specs.declared.row.Row.{Row}
use Rattle.snb_schema.specs.RowKeys.{slot_of}
use Rattle.snb_graph_model.specs.Graphs.{HasGained, HasSlot, IsGraph}
use Rattle.snb_graph_adjacency.specs.declared.indexes.Indexes.{Indexes}
use Rattle.snb_graph_adjacency.specs.declared.link.LinkDelta.{LinkDelta}
use Rattle.snb_graph_adjacency.specs.declared.link.Link.{Link}
use Rattle.snb_graph_adjacency.specs.declared.link.Walk.{Walk}
use Rattle.snb_graph_adjacency.specs.declared.link.Walk.TheVariants.{Friends, Messages, Replies, PostLikes, CommentLikes, Work, Study}
use Rattle.snb_graph_adjacency.specs.Links.{Tells}
use Rattle.snb_graph_adjacency.proofs.LinkLemmas.{frozen_before, new_own, still_own}
use Rattle.snb_graph_adjacency.specs.Kept.{AreOwn, HasFrozenLink, HasLink, HasLostLinkDelta, HasLinkDelta, IsBacked, IsFresh, IsIndexed, SameFrozen, SameLinks}
use Rattle.snb_graph_adjacency.specs.LinkDelta.{IsLinkDelta}
use Rattle.snb_graph_adjacency.proofs.TellLemmas.{along_tells, links_told, told_indexed}

-- with the delta the links go with the rows and one more
pub delta_indexed : (old new : List Row) (r : Row) (s t : Indexes) (delta : LinkDelta) → IsIndexed old s → IsLinkDelta old r delta → HasLinkDelta s delta t → HasGained old (r ∷ []) new → IsIndexed new t
delta_indexed old new r s t delta is says has gained = told_indexed new t gained.graph (λ l. (
  λ x. (says.says new gained.rows l).1 (elim ((has l).0 x) [ inl was ↦ inl ((links_told old s is l).0 was) | inr told ↦ inr told ]),
  λ x. (has l).1 (elim ((says.says new gained.rows l).0 x) [ inl was ↦ inl ((links_told old s is l).1 was) | inr told ↦ inr told ]),
))

-- the delta are new, where the row's slot is free
pub delta_fresh : (g : List Row) (r : Row) (s : Indexes) (delta : LinkDelta) → IsIndexed g s → IsLinkDelta g r delta → ¬ HasSlot g (slot_of r) → IsFresh s delta
delta_fresh g r s delta is says free = record { new = λ k told l same x. says.fresh free k told l same ((links_told g s is l).0 x); apart = says.apart }

-- without the delta the links go with the rows without one
pub delta_left : (old new : List Row) (r : Row) (s t : Indexes) (delta : LinkDelta) → IsIndexed old s → IsGraph new → IsPermutation old (new ++ r ∷ []) → IsLinkDelta new r delta → ¬ HasSlot new (slot_of r) → HasLostLinkDelta s delta t → IsIndexed new t
delta_left old new r s t delta is graph rows says free lost = told_indexed new t graph (λ l. (
  λ x.
      let was = (lost l).0 x in
      elim ((says.says old rows l).0 ((links_told old s is l).0 was.0)) [ inl still ↦ still | inr told ↦ absurd (was.1 l told (refl, refl, refl)) ],
  λ x. (lost l).1 ((links_told old s is l).1 ((says.says old rows l).1 (inl x)), λ k told same. says.fresh free k told l same x),
))

-- undone delta leave what goes with the rows
pub same_indexed : (g : List Row) (s t : Indexes) → SameLinks s t → IsIndexed g s → IsIndexed g t
same_indexed g s t same is = record { graph = is.graph; same = λ l. (λ x. (is.same l).0 ((same l).0 x), λ x. (same l).1 ((is.same l).1 x)) }

-- after the delta, those without them are the links before
pub delta_undone : (s mid t : Indexes) (delta : LinkDelta) → IsFresh s delta → HasLinkDelta s delta mid → HasLostLinkDelta mid delta t → SameLinks s t
delta_undone s mid t delta fresh has lost l = (
  λ x.
      let was = (lost l).0 x in
      elim ((has l).0 was.0) [ inl o ↦ o | inr told ↦ absurd (was.1 l told (refl, refl, refl)) ],
  λ o. (lost l).1 ((has l).1 (inl o), λ k told same. fresh.new k told l same o),
)

-- what some rows tell, more rows tell too
pub tells_more : (g h : List Row) → ((r : Row) → Contains g r → Contains h r) → (w : Walk) (of id date : ℕ) → Tells g w of id date → Tells h w of id date
tells_more g h more Friends of id date (inl c) = inl (more _ c)
tells_more g h more Friends of id date (inr c) = inr (more _ c)
tells_more g h more Messages of id date l = record { edge = l.edge; among = l.among; kind = l.kind; from = l.from; node = l.node; linked = more _ l.linked; held = more _ l.held; is = l.is }
tells_more g h more Replies of id date l = record { edge = l.edge; among = l.among; kind = l.kind; from = l.from; node = l.node; linked = more _ l.linked; held = more _ l.held; is = l.is }
tells_more g h more PostLikes of id date c = more _ c
tells_more g h more CommentLikes of id date c = more _ c
tells_more g h more Work of id date c = more _ c
tells_more g h more Study of id date c = more _ c

-- frozen links are backed by more frozen rows, and fewer frozen links by the same
pub more_backed : (g h : List Row) (s : Indexes) → ((r : Row) → Contains g r → Contains h r) → IsBacked g s → IsBacked h s
more_backed g h s more is l has = (along_tells h l).1 (tells_more g h more l.walk l.of l.id l.date ((along_tells g l).0 (is l has)))

pub still_backed : (g : List Row) (s t : Indexes) → SameFrozen s t → IsBacked g s → IsBacked g t
still_backed g s t same is l has = is l (frozen_before s t same l has)

-- where the links go with the rows, so do the frozen ones among them
pub all_backed : (g : List Row) (s t : Indexes) → IsIndexed g s → SameLinks s t → ((l : Link) → HasFrozenLink t l → HasLink t l) → IsBacked g t
all_backed g s t is same among l has = (is.same l).0 ((same l).0 (among l has))

-- the delta of a row that isn't there are of no frozen link
pub delta_own : (g frozen : List Row) (r : Row) (s : Indexes) (delta : LinkDelta) → IsBacked frozen s → ((x : Row) → Contains frozen x → Contains g x) → IsLinkDelta g r delta → ¬ HasSlot g (slot_of r) → AreOwn s delta
delta_own g frozen r s delta backed among says free k told l same has = says.fresh free k told l same ((along_tells g l).0 (more_backed frozen g s among backed l has))

-- fresh delta are of no frozen link, after a change that freezes nothing
pub fresh_own : (s t : Indexes) (delta : LinkDelta) → IsFresh s delta → ((l : Link) → HasFrozenLink s l → HasLink s l) → SameFrozen s t → AreOwn t delta
fresh_own s t delta fresh among same k told = still_own s t k same (new_own s k among (fresh.new k told))

-- two changes that freeze nothing
pub frozen_twice : (one two three : Indexes) → SameFrozen one two → SameFrozen two three → SameFrozen one three
frozen_twice one two three p q w = q w ∙ p w
